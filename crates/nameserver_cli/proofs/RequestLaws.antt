-- Whether something of a message is dropped when it is encoded.
use Rattle.std.proofs.Common.{◌≡◌, ◌∙◌, ℕ, ◌+◌, ◌*◌, ◌/◌, ◌%◌, ◌<◌, ◌≤◌, Bool, true, false, eqb, List, ◌++◌, ◌||◌, length, sym, ap, inr, arith}
use Rattle.std.specs.Int.{w16, to_be_bytes}
use Rattle.std.proofs.lemmas.Bool.{le-leb}
use Rattle.dns_wire.specs.Encoder.{max_message_len}
use Rattle.dns_messages.specs.Cut.{cut, is_cut, last_count, remaining}
use Rattle.dns_messages.specs.Encoding.{Encodes}
use Rattle.dns_messages.specs.Header.{bit, header_form, kind_bit, op_number, third_byte}
use Rattle.dns_messages.specs.declared.header.Metadata.{Metadata}
use Rattle.dns_messages.specs.declared.message.Message.{Message}
use Rattle.nameserver_cli.specs.declared.replay.request.RequestFault.TheVariants.{TooLong}
use Rattle.nameserver_cli.specs.replay.Request.{IsEncodingRefusal, IsWhole, is_truncated}

bit-small : (b : Bool) → bit b < 2
bit-small true = omega arith
bit-small false = omega arith

bit-again : (b : Bool) (n : ℕ) → n ≡ bit b → eqb n 1 ≡ b
bit-again true n e = ap (λ (m : ℕ). eqb m 1) e
bit-again false n e = ap (λ (m : ℕ). eqb m 1) e

-- the second bit of a byte of five parts
second_bit : (k o a t r : ℕ) → t < 2 → r < 2 → ((128 * k + (8 * o + (4 * a + (2 * t + r)))) / 2) % 2 ≡ t
second_bit k o a t r t_small r_small = omega arith

-- the bytes of a header, and whatever follows them, begin with its TC
truncation_peeked : (m : Metadata) (q a n d : ℕ) (rest : List ℕ) → is_truncated (header_form m q a n d ++ rest) ≡ m.truncation
truncation_peeked m q a n d rest =
    let counts : List ℕ = (to_be_bytes w16 q ++ (to_be_bytes w16 a ++ (to_be_bytes w16 n ++ to_be_bytes w16 d))) ++ rest in
    let long : 8 ≤ length counts = omega arith in
    rw (le-leb 8 (length counts) long)
    (bit-again m.truncation ((third_byte m / 2) % 2)
    (second_bit (kind_bit m.message_type) (op_number m.op_code % 16) (bit m.authoritative) (bit m.truncation) (bit m.recursion_desired)
    (bit-small m.truncation) (bit-small m.recursion_desired)))

-- the bytes of a message have TC set if something was dropped, or if it was set before
pub truncation_encoded : (m : Message) (bytes : List ℕ) → Encodes max_message_len m bytes
    → is_truncated bytes ≡ (cut max_message_len m).metadata.truncation
truncation_encoded m bytes encodes =
    let kept : Message = cut max_message_len m in
    ap is_truncated encodes.form_is
    ∙ truncation_peeked kept.metadata (length kept.queries) (length kept.answers) (length kept.authorities) (last_count kept) _

not_second : (a b : Bool) → (a || b) ≡ false → b ≡ false
not_second true b e = cc
not_second false b e = e

-- with TC clear nothing was dropped
pub whole_encoded : (m : Message) (bytes : List ℕ) → Encodes max_message_len m bytes → is_truncated bytes ≡ false → IsWhole m bytes
whole_encoded m bytes encodes clear = record {
  encodes = encodes;
  whole = not_second m.metadata.truncation (is_cut (remaining max_message_len m) m) (sym (truncation_encoded m bytes encodes) ∙ clear);
}

-- with TC set something was dropped, or it was set before
pub cut_encoded : (m : Message) (bytes : List ℕ) → Encodes max_message_len m bytes → is_truncated bytes ≡ true → IsEncodingRefusal m TooLong
cut_encoded m bytes encodes set = inr (sym (truncation_encoded m bytes encodes) ∙ set)
