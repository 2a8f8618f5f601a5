-- Replies that are known.
use Rattle.std.specs.Prelude.{◌≡◌, List, ℕ, Option, Some, None, Ok, Err, find, option_map}
use Rattle.dns_messages.specs.Grammar.{ReadsMessage}
use Rattle.dns_messages.specs.Question.{same_question}
use Rattle.dns_messages.specs.declared.message_type.MessageType.TheVariants as kinds
use Rattle.dns_messages.specs.declared.query.Query.{Query}
use Rattle.dns_messages.specs.declared.response.DnsResponse.{DnsResponse}
use Rattle.stub_client.specs.Handle.{Outcome}
use Rattle.stub_lookup.specs.declared.error.NetError.{NetError}
use Rattle.stub_lookup.specs.declared.error.NetError.TheVariants as net
use Rattle.api_resolver.specs.declared.known.known.KnownOutcome.{KnownOutcome}
use Rattle.api_resolver.specs.declared.known.known.KnownOutcome.TheVariants.{Fault, Response, Unsupported}
use Rattle.api_resolver.specs.declared.known.known.KnownReply.{KnownReply}

-- what the error of an exchange is kept as, or none if memory ran out
abbrev pub known_error : NetError → Option KnownOutcome
known_error (net.Link fault) = Some (Fault fault)
known_error net.Memory = None
known_error other = Some Unsupported

-- what the outcome of an exchange is kept as, or none if memory ran out
abbrev pub known_outcome : Outcome → Option KnownOutcome
known_outcome (Ok response) = Some (Response response.buffer.items)
known_outcome (Err error) = known_error error

-- bytes decode to the message of a response, which has QR set and keeps them (RFC 1035 section 4.1.1)
pub record IsResponseOf (bytes : List ℕ) (response : DnsResponse) : Type 0 where
  pub reads : ReadsMessage bytes response.message
  pub is_response : response.message.metadata.message_type ≡ kinds.Response
  pub buffer : response.buffer.items ≡ bytes

-- the outcome of the first reply to a question, ignoring ASCII case, if there is one
abbrev pub outcome_for : List KnownReply → Query → Option KnownOutcome
outcome_for known q = option_map (λ reply. reply.outcome) (find (λ reply. same_question reply.question q) known)

-- The outcome that the bytes of a response are: the response that they decode to. There may be no memory for it.
abbrev pub RestoresResponse : List ℕ → Outcome → Type 0
RestoresResponse bytes (Ok response) = IsResponseOf bytes response
RestoresResponse bytes (Err net.Memory) = Unit {0}
RestoresResponse bytes (Err net.Unsupported) = (response : DnsResponse) → ¬ IsResponseOf bytes response
RestoresResponse bytes (Err other) = ⊥

-- the outcome that is kept
abbrev pub Restores : KnownOutcome → Outcome → Type 0
Restores (Response bytes) outcome = RestoresResponse bytes outcome
Restores (Fault fault) outcome = outcome ≡ Err (net.Link fault)
Restores Unsupported outcome = outcome ≡ Err net.Unsupported
