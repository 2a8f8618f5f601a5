-- Bytes with the header of a query that do not decode.
use Rattle.std.proofs.Common.{◌≡◌, true, false, List, ℕ, ap, ◌∙◌, Option, Some, None}
use Rattle.dns_messages.specs.declared.message_type.MessageType.{MessageType}
use Rattle.dns_messages.specs.declared.message_type.MessageType.TheVariants as kinds
use Rattle.dns_messages.specs.declared.header.Metadata.{Metadata}
use Rattle.dns_messages.specs.declared.message.Message.{Message}
use Rattle.dns_messages.specs.Grammar.{ReadsMessage}
use Rattle.dns_messages.specs.Header.{peeked_metadata}
use Rattle.dns_zone.specs.Request.{DecodesRequest}
use Rattle.dns_zone.specs.Serving.{has_query_header, is_query}
use Rattle.dns_zone.proofs.ServingLaws.{a_query}

query_header : (bytes : List ℕ) (metadata : Metadata) → peeked_metadata bytes ≡ Some metadata → metadata.message_type ≡ kinds.Query → has_query_header bytes ≡ true
query_header bytes metadata peeked asks =
    ap (λ (o : Option Metadata). is_query o) peeked ∙ ap (λ (k : MessageType). elim k [ kinds.Query ↦ true | kinds.Response ↦ false ]) asks

pub undecodable : (bytes : List ℕ) (metadata : Metadata) → peeked_metadata bytes ≡ Some metadata → metadata.message_type ≡ kinds.Query
    → DecodesRequest bytes None → (m : Message) → ReadsMessage bytes m → ⊥
undecodable bytes metadata peeked asks none m reads =
    let query : m.metadata.message_type ≡ kinds.Query = a_query bytes (query_header bytes metadata peeked asks) m reads in
    let response : m.metadata.message_type ≡ kinds.Response = none m reads in
    cc
