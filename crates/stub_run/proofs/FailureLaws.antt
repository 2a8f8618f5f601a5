-- Lookups of names that fail, and for which reasons.
use Rattle.std.proofs.Common.{◌<◌, ℕ, length, List, Err, Contains, arith}
use Rattle.dns_wire.specs.declared.codes.record_type.RecordType.{RecordType}
use Rattle.dns_names.specs.Name.{DomainName}
use Rattle.dns_records.specs.Record.{Record}
use Rattle.dns_messages.specs.declared.query.Query.{Query}
use Rattle.dns_messages.specs.declared.response_code.ResponseCode.{ResponseCode}
use Rattle.stub_lookup.specs.declared.error.DnsError.TheVariants as dns
use Rattle.stub_lookup.specs.declared.error.LinkFault.{LinkFault}
use Rattle.stub_lookup.specs.declared.error.NetError.{NetError}
use Rattle.stub_lookup.specs.declared.error.NetError.TheVariants as net
use Rattle.stub_lookup.specs.declared.error.NoRecords.{NoRecords}
use Rattle.stub_hosts.specs.Hosts.{question}
use Rattle.stub_cache.specs.Ttl.{TtlConfigContent}
use Rattle.stub_client.specs.Looks.{Reply}
use Rattle.stub_core.specs.Resolver.{known_type, names_for, request_options}
use Rattle.stub_core.specs.declared.resolver.settings.Settings.{Settings}
use Rattle.stub_link.specs.LinkState.{Version}
use Rattle.stub_laws.specs.answers.Ends.{NameEnds, by_hosts, by_memory, by_no_name, by_question}
use Rattle.stub_laws.specs.answers.Failing.{AreCounted, FailsIndeed, IsRefused}
use Rattle.stub_laws.specs.answers.Standing.{FindsWhole, LacksIndeed}
use Rattle.stub_laws.proofs.EndsLaws.{name-ends}
use Rattle.stub_run.specs.Whole.{IsStandingReply}
use Rattle.stub_run.specs.declared.event.Action.TheVariants as actions
use Rattle.stub_run.specs.declared.report.EventReply.TheVariants as replies

-- where no fault is counted, no question failed by one
none-failed : (failed : List Query) (q : Query) → AreCounted failed 0 → Contains failed q → ⊥
none-failed failed q counted there = let less : there.0 < length failed = there.1 in omega (arith, counted, less)

module _ (ttls : TtlConfigContent) (origin : DomainName) (history : List Version) (settings : Settings) (at : ℕ) (kind : RecordType) where
  abbrev Finds : Query → ℕ → List Record → Type 0
  Finds q now records = FindsWhole ttls settings.options.preserve_intermediates history q now records

  abbrev Lacks : Query → ℕ → NoRecords → Type 0
  Lacks q now answer = LacksIndeed ttls settings.options.preserve_intermediates origin history q now answer

  abbrev Fails : List Query → Query → ℕ → NetError → Type 0
  Fails failed q now error =
      FailsIndeed settings.options.preserve_intermediates origin (request_options settings.options) history failed q now error

  -- how a lookup of a name ends
  abbrev Ends : List Query → DomainName → Reply → Type 0
  Ends failed name reply = NameEnds Finds Lacks (Fails failed) settings at (names_for settings name) (known_type kind) reply

  pub no-fault : (name : DomainName) (fault : LinkFault)
      → ¬ IsStandingReply ttls origin history settings 0 at (actions.Lookup name kind) (replies.Lookup (Err (net.Link fault)))
  no-fault name fault looks = by (name-ends Finds Lacks (Fails looks.0) settings at name kind (Err (net.Link fault)) looks.2)
    where
      by : Ends looks.0 name (Err (net.Link fault)) → ⊥
      by (by_question attempted there held) = none-failed looks.0 held.holds.question looks.1 held.holds.fails
      by (by_hosts attempted lookup first is e) = absurd (cc)
      by (by_memory e) = absurd (cc)
      by (by_no_name h) = h

  pub code-refuses : (faults : ℕ) (name : DomainName) (code : ResponseCode)
      → IsStandingReply ttls origin history settings faults at (actions.Lookup name kind) (replies.Lookup (Err (net.Dns (dns.ResponseCode code))))
      → (attempted : DomainName) × Contains (names_for settings name) attempted
      × IsRefused settings.options.preserve_intermediates origin history at (question attempted (known_type kind)) code
  code-refuses faults name code looks = by (name-ends Finds Lacks (Fails looks.0) settings at name kind (Err (net.Dns (dns.ResponseCode code))) looks.2)
    where
      by : Ends looks.0 name (Err (net.Dns (dns.ResponseCode code)))
          → (attempted : DomainName) × Contains (names_for settings name) attempted
          × IsRefused settings.options.preserve_intermediates origin history at (question attempted (known_type kind)) code
      by (by_question attempted there held) = (attempted, there, held.holds)
      by (by_hosts attempted lookup first is e) = absurd (cc)
      by (by_memory e) = absurd (cc)
      by (by_no_name h) = absurd h
