use Rattle.std.proofs.Common.{ℕ, ◌<◌, ◌∙◌, length, Ok, sym, ap, arith}
use Rattle.std.proofs.lemmas.Bool.Decides.{nat_tests}
use Rattle.dns_text.proofs.TtlLaws.{one_further, refused_for_character, refused_for_size, read_whole}
use Rattle.dns_text.proofs.ttl.parse_ttl_bytes.Goals as goal

pub returns-in_default : goal.returns-in_default
returns-in_default c =
    sym (refused_for_size c.args.text.now c.loop-place.so_far c.in-Some.next c.loop-place.place c.loop-place.invariant.so_far (omega arith)
    (sym c.with_character.ensures.value ∙ c.in-Some.is) (omega arith))

pub returns-in_default-2 : goal.returns-in_default-2
returns-in_default-2 c =
    sym (refused_for_character c.args.text.now c.loop-place.so_far c.loop-place.place c.loop-place.invariant.so_far (omega arith)
    (sym c.with_character.ensures.value ∙ c.in_default.is))

pub loop-place-preserved : goal.loop-place-preserved
loop-place-preserved c = record {
  so_far = one_further c.args.text.now c.loop-place.so_far c.in-Some.next c.loop-place.place c.loop-place.invariant.so_far (omega arith)
      (sym c.with_character.ensures.value ∙ c.in-Some.is) (omega arith);
  small = omega arith;
}

pub returns : goal.returns
returns c =
    let some : 0 < length c.args.text.now = grind (arith, nat_tests, c.if-is_empty.ensures) in
    sym (read_whole c.args.text.now c.loop-place.so_far c.loop-place.place c.loop-place.invariant.so_far some (omega arith) (omega arith)
    ∙ ap (λ (n : ℕ). Ok n) (sym c.total_of-2.ensures))
