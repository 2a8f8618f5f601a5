use Rattle.std.proofs.Common.{List, ℕ, ◌∷◌, ◌++◌, ap, ◌∙◌, rules}
use Rattle.std.proofs.Output.{has_written_append}
use Rattle.dns_fields.specs.service.Wire.{key_at, front_value}
use Rattle.dns_fields.specs.service.Text.{parameter_text, parameter_texts, spaced_words}
use Rattle.dns_fields.proofs.TextLaws.{texts_further}
use Rattle.dns_fields.proofs.service.text.write_parameters.Goals as goal

pub loop-left-preserved : goal.loop-left-preserved
loop-left-preserved g c = λ plain.
    let so_far = c.loop-left.invariant plain in
    let left = c.loop-left.left.now in
    let word : List ℕ = 32 ∷ parameter_text (key_at left) (front_value left) in (
      so_far.0 ++ word,
      has_written_append _ _ _ _ _ _ so_far.1 (search rules),
      ap (λ (l : List ℕ). (so_far.0 ++ word) ++ spaced_words (parameter_texts 0 l)) c.after_front-left.ensures ∙ texts_further left so_far.0 _ (search rules) so_far.2,
    )
