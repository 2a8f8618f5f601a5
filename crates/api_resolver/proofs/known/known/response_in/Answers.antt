use Rattle.std.proofs.Common.{◌≡◌, List, ℕ, Err, ap, ◌∙◌, subst}
use Rattle.dns_messages.specs.Grammar.{ReadsMessage, RefusesMessage}
use Rattle.dns_messages.specs.declared.message.Message.{Message}
use Rattle.dns_messages.specs.declared.message_type.MessageType.{MessageType}
use Rattle.dns_messages.specs.declared.message_type.MessageType.TheVariants as kinds
use Rattle.api_resolver.proofs.known.known.response_in.Goals as goal

-- a message is a query or a response
not-both : (kind : MessageType) → kind ≡ kinds.Query → kind ≡ kinds.Response → ⊥
not-both kind query response = cc

pub returns-in_default : goal.returns-in_default
returns-in_default c =
    let same : c.in_ok-copy.copy.items ≡ c.args.bytes.now = c.in_ok-copy.ensures.items ∙ c.as_slice.ensures in
    let refused : RefusesMessage c.in_ok-copy.copy.items c.in-Err-Decode.error = c.from_buffer.ensures.refused c.in-Err-Decode.error (c.in-Err-Decode.is ∙ ap Err c.in-Err-Decode.field-0-is) c.in_default.not-Memory in
    λ response is. c.messages_decode_unambiguously.ensures.not_refused c.args.bytes.now response.message c.in-Err-Decode.error is.reads
    (subst (λ (bytes : List ℕ). RefusesMessage bytes c.in-Err-Decode.error) same refused)

pub returns-in-Err-NotAResponse : goal.returns-in-Err-NotAResponse
returns-in-Err-NotAResponse c =
    let same : c.in_ok-copy.copy.items ≡ c.args.bytes.now = c.in_ok-copy.ensures.items ∙ c.as_slice.ensures in
    let query = c.from_buffer.ensures.query (c.in-Err-NotAResponse.is ∙ ap Err c.in-Err-NotAResponse.field-0-is) in
    λ response is.
    let one : query.0 ≡ response.message = c.messages_decode_unambiguously.ensures.same c.args.bytes.now query.0 response.message (subst (λ (bytes : List ℕ). ReadsMessage bytes query.0) same query.1) is.reads in
    not-both response.message.metadata.message_type (subst (λ (m : Message). m.metadata.message_type ≡ kinds.Query) one query.2) is.is_response
