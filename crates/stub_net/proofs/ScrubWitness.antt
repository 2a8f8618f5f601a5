-- A reply with a record of another name and an alias behind its target: what a handle gives of it, and that all of this is led to.
use Rattle.std.proofs.Common.{◌≡◌, ℕ, true, List, [], ◌∷◌, Ok, refl, subst, inl}
use Rattle.std.specs.Prelude.{codes}
use Rattle.std.specs.List.{AllByRecursion}
use Rattle.std.specs.Global.{Vec}
use Rattle.dns_wire.specs.declared.codes.dns_class.DNSClass.TheVariants as classes
use Rattle.dns_wire.specs.declared.codes.record_type.RecordType.TheVariants as types
use Rattle.dns_names.specs.Name.{DomainName}
use Rattle.dns_data.specs.declared.rdata.RData.{RData}
use Rattle.dns_data.specs.declared.rdata.RData.TheVariants as of
use Rattle.dns_records.specs.Record.{Record}
use Rattle.dns_messages.specs.Header.{new_metadata}
use Rattle.dns_messages.specs.Message.{empty_message}
use Rattle.dns_messages.specs.declared.message_type.MessageType.TheVariants as kinds
use Rattle.dns_messages.specs.declared.op_code.OpCode.TheVariants as ops
use Rattle.dns_messages.specs.declared.query.Query.{Query}
use Rattle.dns_messages.specs.declared.response.DnsResponse.{DnsResponse}
use Rattle.stub_client.specs.Handle.{Behavior, Outcome, Pops, request_for}
use Rattle.stub_config.specs.declared.request_options.DnsRequestOptions.{DnsRequestOptions}
use Rattle.stub_net.specs.scrub.Scrub.{Gives, IsLedRecord, aliases_from, end_from, scrubbed_answers, scrubbed_response}
use Rattle.stub_net.proofs.ScrubLaws.{given_are_led}

abbrev name_of : List ℕ → DomainName
name_of label = record { is_fqdn = true; labels = label ∷ codes "x" ∷ [] }

abbrev record_at : List ℕ → RData → Record
record_at owner rdata = record { name = name_of owner; dns_class = classes.IN; ttl = 60; rdata = rdata }

-- the question for the name servers of victim.x.
abbrev query : Query
query = record { name = name_of (codes "victim"); query_type = types.NS; query_class = classes.IN }

-- The alias of victim.x., a name server at its target, and one of another name. The target comes first.
abbrev alias : Record
alias = record_at (codes "victim") (of.CNAME (record { 0 = name_of (codes "host") }))

abbrev wanted : Record
wanted = record_at (codes "host") (of.NS (record { 0 = name_of (codes "ns") }))

abbrev false_one : Record
false_one = record_at (codes "bank") (of.NS (record { 0 = name_of (codes "thief") }))

abbrev answers : List Record
answers = false_one ∷ wanted ∷ alias ∷ []

-- the alias and the record at its target remain, in this order, and the other one does not
pub what_remains : scrubbed_answers query answers ≡ alias ∷ wanted ∷ []
unfolding aliases_from end_from
what_remains = refl

-- ---- a run

-- a handle that returns the outcomes of a list
abbrev listed : Behavior (List Outcome)
listed old request now outcome new = Pops old outcome new

module _ (buffer : Vec ℕ) (options : DnsRequestOptions) where
  abbrev response : DnsResponse
  response = record {
    message = record (empty_message (new_metadata 7 kinds.Response ops.Query)) { queries = query ∷ []; answers = answers };
    buffer = buffer;
  }

  pub run : Gives listed (Ok response ∷ []) (request_for query options) 0 (Ok (scrubbed_response query response)) []
  run = inl (Ok response, (refl, refl), inl refl)

  -- what the law says of it
  pub run_is_led : AllByRecursion (IsLedRecord query (alias ∷ wanted ∷ [])) (alias ∷ wanted ∷ [])
  run_is_led =
      subst (λ (given : List Record). AllByRecursion (IsLedRecord query given) given) what_remains
      (given_are_led listed (Ok response ∷ []) [] (request_for query options) query 0 (scrubbed_response query response) refl run)
