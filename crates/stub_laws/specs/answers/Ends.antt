-- How a lookup of a name ends: with the reply to a question for one of the names that it attempts, or without asking.
use Rattle.std.specs.Prelude.{◌≡◌, Contains, List, ℕ, Some, Ok}
use Rattle.dns_wire.specs.declared.codes.record_type.RecordType.{RecordType}
use Rattle.dns_names.specs.Name.{DomainName}
use Rattle.stub_lookup.specs.Lookup.{LookupContent}
use Rattle.stub_hosts.specs.Hosts.{question, static_lookup}
use Rattle.stub_client.specs.Handle.{IsMessage}
use Rattle.stub_client.specs.Looks.{Reply, out_of_memory}
use Rattle.stub_core.specs.Attempts.{no_names}
use Rattle.stub_core.specs.Origins.{first_of}
use Rattle.stub_core.specs.declared.resolver.settings.Settings.{Settings}
use Rattle.stub_laws.specs.answers.Claims.{AbsenceClaim, AnswersClaim, FailureClaim}
use Rattle.stub_laws.specs.answers.Lookups.{IsHeld}

-- A lookup for some names ends with the reply to the question for one of them, of which the claims hold; with what the hosts
-- have for the first one; or for want of memory, or of names.
pub data NameEnds (finds : AnswersClaim) (lacks : AbsenceClaim) (fails : FailureClaim) (settings : Settings) (now : ℕ)
    (names : List DomainName) (kind : RecordType) (reply : Reply) : Type 0 where
  by_question : (name : DomainName) → Contains names name → IsHeld finds lacks fails now (question name kind) reply
      → NameEnds finds lacks fails settings now names kind reply
  by_hosts : (name : DomainName) (lookup : LookupContent) → Contains (first_of names) name
      → static_lookup settings.hosts (question name kind) now ≡ Some lookup → reply ≡ Ok lookup
      → NameEnds finds lacks fails settings now names kind reply
  by_memory : reply ≡ out_of_memory → NameEnds finds lacks fails settings now names kind reply
  by_no_name : IsMessage no_names reply → NameEnds finds lacks fails settings now names kind reply
