use Rattle.std.proofs.Common.{◌≤◌, length, arith, sym, ◌∙◌}
use Rattle.std.proofs.lemmas.Result.{err_from_is_err_and}
use Rattle.dns_formats.specs.declared.field.Field.TheVariants.{Number8}
use Rattle.dns_formats.proofs.ReadLaws.{fields_further, fields_stop, refused_alone, fields_left, tokens_left}
use Rattle.dns_formats.proofs.read.push_fields.Goals as goal

pub push_field-requires : goal.push_field-requires
push_field-requires c = record {
  within = c.loop-field.invariant.within;
  present = sym c.is_missing.ensures ∙ c.if-is_missing.false;
}

pub loop-field-preserved : goal.loop-field-preserved
loop-field-preserved c =
    let inv = c.loop-field.invariant in
    let present = sym c.is_missing.ensures ∙ c.if-is_missing.false in
    record {
      within = c.in_ok-place.ensures.within;
      completes = fields_further _ c.args.fields.now c.args.tokens.now c.loop-field.field-index _ c.loop-field-test.true c.loop-field.place present _ c.loop-field.out.items c.push_field.new.out.items c.in_ok-place.place
          c.in_ok-place.ensures.bytes c.in_ok-place.ensures.next inv.completes;
    }

pub returns-in_err-place : goal.returns-in_err-place
returns-in_err-place c =
    let inv = c.loop-field.invariant in
    let present = sym c.is_missing.ensures ∙ c.if-is_missing.false in
    let p = err_from_is_err_and c.from_residual.result c.from_residual.ensures.1 in
    rw (p.1, p.2) (λ other. refused_alone c.args.out.now.items _ _ (fields_stop _ c.args.fields.now c.args.tokens.now c.loop-field.field-index _ c.loop-field-test.true c.loop-field.place present _ c.loop-field.out.items _
    (c.in_err-place.ensures.bytes other) inv.completes))

pub returns-then-is_missing : goal.returns-then-is_missing
returns-then-is_missing c = λ other.
    let inv = c.loop-field.invariant in
    fields_left _ c.args.fields.now c.args.tokens.now c.loop-field.field-index c.loop-field.place c.args.out.now.items c.loop-field.out.items _ Number8 c.loop-field-test.true
    (sym c.is_missing.ensures ∙ c.if-is_missing.true) inv.completes

pub returns-then-place-tokens : goal.returns-then-place-tokens
returns-then-place-tokens c = λ other.
    let inv = c.loop-field.invariant in
    let past : length c.args.fields.now ≤ c.loop-field.field-index = omega arith in
    tokens_left _ c.args.fields.now c.args.tokens.now c.loop-field.field-index c.loop-field.place c.args.out.now.items c.loop-field.out.items _ past c.if-place-tokens.true inv.completes
