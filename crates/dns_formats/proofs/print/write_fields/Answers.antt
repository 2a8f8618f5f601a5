use Rattle.std.proofs.Common.{List, ℕ, ◌+◌, [], ◌++◌, false, drop, get_or, ap, ◌∙◌, rules}
use Rattle.std.proofs.Output.{has_written_append}
use Rattle.dns_text.proofs.FrontLaws.{slice_is}
use Rattle.dns_formats.specs.Wire.{fits}
use Rattle.dns_formats.specs.Print.{front_tokens, data_tokens, spaced}
use Rattle.dns_formats.specs.declared.field.Field.TheVariants.{Number8}
use Rattle.dns_formats.proofs.PrintLaws.{spaced_is, first_needed, front_there, rest_fits, more_further}
use Rattle.dns_formats.proofs.print.write_fields.Goals as goal

pub loop-field-init : goal.loop-field-init
loop-field-init g c = record {
  fitting = c.requires.fitting;
  begun = λ _. c.requires.begun;
  completes = λ plain. ([], search rules, spaced_is (data_tokens c.args.fields.now c.args.bytes.now));
}

pub write_spaced-requires : goal.write_spaced-requires
write_spaced-requires g c = record {
  there = (front_there c.args.fields.now c.loop-field.field-index _ c.loop-field.left.now c.loop-field-test.true c.loop-field.invariant.fitting).some;
  front = λ q. first_needed c.args.fields.now c.loop-field.field-index _ c.loop-field-test.true (c.loop-field.invariant.begun q);
}

pub loop-field-preserved : goal.loop-field-preserved
loop-field-preserved g c =
    let fields = c.args.fields.now in
    let i = c.loop-field.field-index in
    let left = c.loop-field.left.now in
    let len = c.value_size.result in
    let is_first = c.loop-field.is_first in
    record {
      fitting = ap (λ (l : List ℕ). fits (drop (i + 1) fields) l) (slice_is left len)
          ∙ rest_fits fields i _ left c.loop-field-test.true len c.value_size.ensures.value c.loop-field.invariant.fitting;
      begun = λ q. absurd (cc);
      completes = λ plain.
          let so_far = c.loop-field.invariant.completes plain in
          let value : List ℕ = spaced is_first (front_tokens (get_or fields i Number8) left) in (
            so_far.0 ++ value,
            has_written_append _ _ _ _ _ _ so_far.1 (search rules),
            ap (λ (l : List ℕ). (so_far.0 ++ value) ++ spaced false (data_tokens (drop (i + 1) fields) l)) (slice_is left len)
                ∙ more_further fields i Number8 left c.loop-field-test.true is_first so_far.0 _ len c.loop-field.invariant.begun c.value_size.ensures.value so_far.2,
          );
    }
