use Rattle.std.proofs.Common.{◌≡◌, ℕ, List, drop, ap, subst, ◌∙◌}
use Rattle.dns_wire.specs.Decoder.{Decoder, rest}
use Rattle.dns_messages.specs.Header.{DecodesHeader}
use Rattle.dns_message_bytes.specs.declared.view.request_view.RequestView.{RequestView}
use Rattle.dns_message_bytes.specs.view.Request.{question_of}
use Rattle.dns_message_bytes.proofs.RequestLaws.{no_counts, no_last, shown}
use Rattle.dns_message_bytes.proofs.view.request_view.RequestView.of.Goals as goal

-- the bytes behind the header
behind_header : (d : Decoder) (bytes : List ℕ) → d.index ≡ 12 → d.bytes ≡ bytes → rest d ≡ drop 12 bytes
behind_header d bytes index same = ap (λ (n : ℕ). drop n d.bytes) index ∙ ap (drop 12) same

pub returns-in_default-additional_count-clause-some : goal.returns-in_default-additional_count-clause-some
returns-in_default-additional_count-clause-some c =
    let same = ap (λ (d : Decoder). d.bytes) c.new-decoder.ensures in
    let header = subst (λ (xs : List ℕ). DecodesHeader xs 0 c.in-Some.header 12) same c.in-Some.ensures.read in
    λ m r. absurd (no_counts c.args.bytes.now c.in-Some.header m header (c.additional_count.ensures.none c.in_default-additional_count.is) r)

pub returns-in_default-read_last-clause-some : goal.returns-in_default-read_last-clause-some
returns-in_default-read_last-clause-some c =
    let same = ap (λ (d : Decoder). d.bytes) c.new-decoder.ensures in
    let header = subst (λ (xs : List ℕ). DecodesHeader xs 0 c.in-Some.header 12) same c.in-Some.ensures.read in
    let at = behind_header c.read_header.new.decoder c.args.bytes.now c.in-Some.ensures.index (c.read_header.ensures.bytes ∙ same) in
    let question = question_of c.in-Some-read.question in
    λ m r. absurd (no_last c.args.bytes.now (rest c.read_header.new.decoder) (rest c.read.new.decoder) c.in-Some.header c.in-Some-additional_count.additionals question m
    header c.in-Some-additional_count.ensures.some at c.in-Some-read.ensures.labels c.in-Some-read.ensures.read (c.read_last.ensures.none c.in_default-read_last.is) r)

pub returns-clause-read : goal.returns-clause-read
returns-clause-read c =
    let same = ap (λ (d : Decoder). d.bytes) c.new-decoder.ensures in
    let header = subst (λ (xs : List ℕ). DecodesHeader xs 0 c.in-Some.header 12) same c.in-Some.ensures.read in
    let at = behind_header c.read_header.new.decoder c.args.bytes.now c.in-Some.ensures.index (c.read_header.ensures.bytes ∙ same) in
    let view : RequestView = record { metadata = c.extended.result; question = c.in-Some-read.question; edns = c.in-Some-read_last.edns } in
    shown c.args.bytes.now view c.in-Some.header c.in-Some-additional_count.additionals (rest c.read_header.new.decoder) (rest c.read.new.decoder)
    header c.in-Some-additional_count.ensures.some at c.in-Some-read.ensures.read c.in-Some-read.ensures.sound c.in-Some-read.ensures.labels c.in-Some-read_last.ensures.read c.extended.ensures
