use Rattle.std.proofs.Common.{◌≡◌, ℕ, List, ◌+◌, ◌≤◌, length, Ok, refl, ap, sym, ◌∙◌, arith}
use Rattle.std.specs.Prelude.{unwrap_or}
use Rattle.std.proofs.lemmas.Result.{err_from_is_err_and}
use Rattle.dns_wire.specs.Decoder.{Decoder}
use Rattle.dns_wire.specs.Element.{Label, Pointer, element_at}
use Rattle.dns_names.proofs.Underway.{unwrap_or-within}
use Rattle.dns_message_bytes.specs.view.internal.NameParts.{element_of, part_len}
use Rattle.dns_message_bytes.specs.declared.view.name_view.Part.{Part}
use Rattle.dns_message_bytes.proofs.NameViewLaws.{passed-start, passed-closing, passed-label, passed-pointer, passed-fault, passed-long, passed-forward}
use Rattle.dns_message_bytes.proofs.view.name_view.end_of_name.Goals as goal
use Rattle.dns_message_bytes.proofs.view.name_view.end_of_name.Goals.{In-Label, In-Pointer}

-- ---- what is at the reader's place

label_here : (c : In-Label) → element_at c.args.decoder.bytes c.loop-label.reader.index ≡ Ok (Label c.in-Label.label.now)
label_here c = ap (λ (bytes : List ℕ). element_at bytes c.loop-label.reader.index) (sym c.loop-label.invariant.same_bytes) ∙ c.in_ok-read_part.ensures.shows ∙ ap (λ (p : Part). Ok (element_of p)) c.in-Label.is

pointer_here : (c : In-Pointer) → element_at c.args.decoder.bytes c.loop-label.reader.index ≡ Ok (Pointer c.in-Pointer.target)
pointer_here c = ap (λ (bytes : List ℕ). element_at bytes c.loop-label.reader.index) (sym c.loop-label.invariant.same_bytes) ∙ c.in_ok-read_part.ensures.shows ∙ ap (λ (p : Part). Ok (element_of p)) c.in-Pointer.is

-- ---- refusals

pub returns-in_err-read_part-clause-refused : goal.returns-in_err-read_part-clause-refused
returns-in_err-read_part-clause-refused c =
    let p = err_from_is_err_and c.from_residual.result c.from_residual.ensures.1 in
    let here = ap (λ (bytes : List ℕ). element_at bytes c.loop-label.reader.index) (sym c.loop-label.invariant.same_bytes) ∙ c.in_err-read_part.ensures.shows in
    rw (p.1, p.2) (passed-fault c.loop-label.invariant.passed _ here)

pub returns-then-len-label-gt-MAX_LENGTH-clause-refused : goal.returns-then-len-label-gt-MAX_LENGTH-clause-refused
returns-then-len-label-gt-MAX_LENGTH-clause-refused c =
    let at = (goal.at.returns-then-len-label-gt-MAX_LENGTH-clause-refused c).In-Label in
    let over = c.if-len-label-gt-MAX_LENGTH.true in
    passed-long c.loop-label.invariant.passed c.in-Label.label.now (label_here at) (omega (arith, over))

pub returns-then-target-segment-clause-refused : goal.returns-then-target-segment-clause-refused
returns-then-target-segment-clause-refused c =
    let at = (goal.at.returns-then-target-segment-clause-refused c).In-Pointer in
    passed-forward c.loop-label.invariant.passed c.in-Pointer.target (pointer_here at) c.if-target-segment.true

-- ---- past a label

pub loop-label-preserved-in-Label : goal.loop-label-preserved-in-Label
loop-label-preserved-in-Label c =
    let at = goal.at.loop-label-preserved-in-Label c in
    let inv = c.loop-label.invariant in
    let room = c.if-len-label-gt-MAX_LENGTH.false in
    let moved = c.in_ok-read_part.ensures.moved in
    let index_is = ap (λ (d : Decoder). d.index) moved ∙ ap (λ (p : Part). c.loop-label.reader.index + part_len p) c.in-Label.is in
    record {
      passed = rw index_is (passed-label inv.passed c.in-Label.label.now (label_here at.In-Label) (omega (arith, room)));
      same_bytes = ap (λ (d : Decoder). d.bytes) moved ∙ inv.same_bytes;
      within = inv.within;
      end_within = inv.end_within;
    }

-- ---- past a pointer

pub loop-label-preserved : goal.loop-label-preserved
loop-label-preserved c =
    let at = goal.at.loop-label-preserved c in
    let inv = c.loop-label.invariant in
    let moved = c.in_ok-read_part.ensures.moved in
    let index_is = c.index.ensures.value ∙ ap (λ (d : Decoder). d.index) moved ∙ ap (λ (p : Part). c.loop-label.reader.index + part_len p) c.in-Pointer.is in
    let bytes_are = ap (λ (d : Decoder). d.bytes) moved ∙ inv.same_bytes in
    let end_is = c.unwrap_or.ensures ∙ ap (λ (n : ℕ). unwrap_or c.loop-label.end n) index_is in
    let within : c.index.result ≤ length c.args.decoder.bytes = rw bytes_are at c.index.ensures.within in
    let follows = rw bytes_are at c.follow_pointers-segment.ensures.follows in
    record {
      passed = rw (ap (λ (d : Decoder). d.index) c.clone-reader.ensures, end_is) (passed-pointer inv.passed c.in-Pointer.target _ (pointer_here at.In-Pointer) (omega arith) follows);
      same_bytes = ap (λ (d : Decoder). d.bytes) c.clone-reader.ensures ∙ bytes_are;
      within = omega (arith, inv.within);
      end_within = rw c.unwrap_or.ensures (unwrap_or-within c.loop-label.end c.index.result _ inv.end_within within);
    }

-- ---- at the end

pub returns-clause-read : goal.returns-clause-read
returns-clause-read c =
    let inv = c.loop-label.invariant in
    let moved = c.in_ok-read_part.ensures.moved in
    let index_is = c.index-2.ensures.value ∙ ap (λ (d : Decoder). d.index) moved ∙ ap (λ (p : Part). c.loop-label.reader.index + part_len p) c.in-Closing.is in
    let closing = ap (λ (bytes : List ℕ). element_at bytes c.loop-label.reader.index) (sym inv.same_bytes) ∙ c.in_ok-read_part.ensures.shows ∙ ap (λ (p : Part). Ok (element_of p)) c.in-Closing.is in
    rw (c.unwrap_or-2.ensures ∙ ap (λ (n : ℕ). unwrap_or c.loop-label.end n) index_is) (passed-closing inv.passed closing)

-- ---- at the start

pub loop-label-init : goal.loop-label-init
loop-label-init c = record {
  passed = rw c.index-segment.ensures.value (passed-start c.args.decoder.bytes c.args.decoder.index);
  same_bytes = refl;
  within = c.index-segment.ensures.within;
  end_within = tt;
}
