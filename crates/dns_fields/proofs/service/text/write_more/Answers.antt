use Rattle.std.proofs.Common.{List, ℕ, ◌+◌, ◌-◌, ◌∷◌, ◌++◌, subst, ap, ◌∙◌, arith, rules}
use Rattle.std.specs.Fmt.{HasWritten}
use Rattle.std.proofs.Output.{has_written_append}
use Rattle.dns_fields.specs.service.Text.{word_text, group_text, more_groups}
use Rattle.dns_fields.proofs.TextLaws.{groups_further, groups_end}
use Rattle.dns_fields.proofs.service.text.write_more.Goals as goal

pub loop-preserved : goal.loop-preserved
loop-preserved g c = λ plain.
    let so_far = c.loop.invariant plain in
    let left = c.loop.left.now in
    let count = 7 - (c.loop.counter + 1) in
    let group : List ℕ = 58 ∷ word_text (group_text left) in (
      so_far.0 ++ group,
      has_written_append _ _ _ _ _ _ so_far.1 (search rules),
      ap (λ (l : List ℕ). (so_far.0 ++ group) ++ word_text (more_groups count l)) c.skip-left.ensures ∙ groups_further (7 - c.loop.counter) count left so_far.0 _ (omega arith) so_far.2,
    )

pub returns : goal.returns
returns g c = λ plain ok.
    let so_far = c.loop.invariant plain in
    let all = c.loop-test.false in
    subst (λ (l : List ℕ). HasWritten g.W.Write.write_str_gives c.args.f.now l c.loop.f) (groups_end (7 - c.loop.counter) c.loop.left.now so_far.0 _ (omega (arith, all)) so_far.2) so_far.1
