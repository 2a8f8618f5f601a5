-- Bytes without the header of a reply decode to no reply.
use Rattle.std.proofs.Common.{◌≡◌, ◌&&◌, ℕ, Bool, false, List, Option, Some, None, refl, sym, ap, ◌∙◌}
use Rattle.std.specs.Prelude.{nat_eq}
use Rattle.dns_messages.specs.declared.message_type.MessageType.{MessageType}
use Rattle.dns_messages.specs.declared.message_type.MessageType.TheVariants as kinds
use Rattle.dns_messages.specs.declared.edns.Edns.{Edns}
use Rattle.dns_messages.specs.declared.header.Metadata.{Metadata}
use Rattle.dns_messages.specs.declared.header.Header.{Header}
use Rattle.dns_messages.specs.declared.query.Query.{Query}
use Rattle.dns_messages.specs.declared.message.Message.{Message}
use Rattle.dns_messages.specs.Header.{peeked_metadata, DecodesHeader}
use Rattle.dns_messages.specs.Grammar.{ReadsMessage, extended}
use Rattle.stub_link.specs.Reply.{is_response, is_reply_code, is_reply_header, has_reply_header, repeats, matches}

-- an OPT record changes the response code alone
extended-header : (id : ℕ) (question : Option Query) (found : Option Edns) (m : Metadata) → is_reply_header id question (extended found m) ≡ is_reply_header id question m
extended-header id question None m = refl
extended-header id question (Some e) m = refl

-- the header that bytes begin with is the one that is peeked
abbrev pub PeeksHeaders : Type 0
PeeksHeaders = (bytes : List ℕ) (h : Header) → DecodesHeader bytes 0 h 12 → peeked_metadata bytes ≡ Some h.metadata

-- the message that bytes decode to has the header of a reply exactly if the bytes have
pub same-header : PeeksHeaders → (id : ℕ) (question : Option Query) (bytes : List ℕ) (m : Message) → ReadsMessage bytes m
    → has_reply_header id question (peeked_metadata bytes) ≡ is_reply_header id question m.metadata
same-header peeks id question bytes m reads =
    ap (has_reply_header id question) (peeks bytes reads.head reads.header)
    ∙ sym (ap (is_reply_header id question) reads.metadata ∙ extended-header id question m.edns reads.head.metadata)

pub not-headed : PeeksHeaders → (id : ℕ) (question : Option Query) (bytes : List ℕ) (m : Message) → has_reply_header id question (peeked_metadata bytes) ≡ false → ReadsMessage bytes m → matches id question m ≡ false
not-headed peeks id question bytes m none reads =
    ap (λ (b : Bool). b && repeats question m.queries) (sym (same-header peeks id question bytes m reads) ∙ none)

-- Bytes that decode to a query decode to no reply.
pub not-a-response : (id : ℕ) (question : Option Query) (bytes : List ℕ) (m : Message) → ((a b : Message) → ReadsMessage bytes a → ReadsMessage bytes b → a ≡ b)
    → (found : Message) × ReadsMessage bytes found × (found.metadata.message_type ≡ kinds.Query) → ReadsMessage bytes m → matches id question m ≡ false
not-a-response id question bytes m one_way found reads =
    let kind : m.metadata.message_type ≡ kinds.Query = ap (λ (n : Message). n.metadata.message_type) (one_way m found.0 reads found.1) ∙ found.2 in
    ap (λ (k : MessageType). (is_response k && (is_reply_code question m.metadata.op_code && nat_eq m.metadata.id id)) && repeats question m.queries) kind
