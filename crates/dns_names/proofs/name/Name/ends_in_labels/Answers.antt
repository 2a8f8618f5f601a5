use Rattle.std.proofs.Common.{◌≡◌, ◌+◌, ◌-◌, ◌<◌, ◌&&◌, drop, map, refl, sym, ap, ◌∙◌, true, false, arith, List, [], ℕ, Bor, Some, get_or, length}
use Rattle.std.specs.Prelude.{option_map, slice_get}
use Rattle.std.specs.Str.{str_eq_ignore_ascii_case}
use Rattle.std.proofs.lemmas.Grind.{common_steps}
use Rattle.std.proofs.lemmas.Option.{slice_get-map, slice_get-get_or}
use Rattle.dns_names.specs.Compare.{same_labels}
use Rattle.dns_names.proofs.ComparisonLaws.{same_labels-next, same_text, other_text}
use Rattle.dns_names.proofs.name.Name.ends_in_labels.Goals as goal
use Rattle.dns_names.proofs.name.Name.ends_in_labels.Goals.{After-eq_ignore_ascii_case}

-- no slice, which is read past the end of a list
abbrev no_text : Bor (List ℕ)
no_text = record { ref_ptr = (0, 0); now = [] }

-- the bytes that the slices hold
abbrev texts : List (Bor (List ℕ)) → List (List ℕ)
texts labels = map (λ label. label.now) labels

text_at : (labels : List (Bor (List ℕ))) (k : ℕ) → k < length labels → slice_get (texts labels) k ≡ Some (get_or labels k no_text).now
text_at labels k within =
    slice_get-map (λ label. label.now) labels k
    ∙ ap (λ found. option_map (λ (label : Bor (List ℕ)). label.now) found) (slice_get-get_or labels k no_text within)

-- this label, and then those behind it
next : (c : After-eq_ignore_ascii_case) → same_labels (texts c.args.labels.now) (drop c.args.skipped c.args.self.now.labels)
    ≡ (str_eq_ignore_ascii_case (get_or c.args.labels.now (c.loop-index.index - c.args.skipped) no_text).now c.label_at.result.now
    && same_labels (drop (c.loop-index.index - c.args.skipped + 1) (texts c.args.labels.now)) (drop (c.loop-index.index + 1) c.args.self.now.labels))
next c =
    let k = c.loop-index.index - c.args.skipped in
    c.loop-index.invariant ∙ same_labels-next (texts c.args.labels.now) c.args.self.now.labels k c.loop-index.index
    (get_or c.args.labels.now k no_text).now c.label_at.result.now (text_at c.args.labels.now k (omega arith)) c.label_at.ensures

pub returns-then-not-eq_ignore_ascii_case : goal.returns-then-not-eq_ignore_ascii_case
returns-then-not-eq_ignore_ascii_case c =
    let at = (goal.at.returns-then-not-eq_ignore_ascii_case c).After-eq_ignore_ascii_case in
    let differs : str_eq_ignore_ascii_case (get_or c.args.labels.now (c.loop-index.index - c.args.skipped) no_text).now c.label_at.result.now ≡ false = other_text (get_or c.args.labels.now (c.loop-index.index - c.args.skipped) no_text).now c.label_at.result.now (λ e. let yes = c.eq_ignore_ascii_case.ensures.test.1 e in grind (arith, common_steps)) in
    sym (next at ∙ rw differs refl)

pub loop-index-preserved : goal.loop-index-preserved
loop-index-preserved c =
    let at = (goal.at.loop-index-preserved c).After-eq_ignore_ascii_case in
    let same : str_eq_ignore_ascii_case (get_or c.args.labels.now (c.loop-index.index - c.args.skipped) no_text).now c.label_at.result.now ≡ true = same_text (get_or c.args.labels.now (c.loop-index.index - c.args.skipped) no_text).now c.label_at.result.now (c.eq_ignore_ascii_case.ensures.test.0 c.if-not-eq_ignore_ascii_case.false) in
    let place : c.loop-index.index + 1 - c.args.skipped ≡ c.loop-index.index - c.args.skipped + 1 = omega arith in
    rw place (next at ∙ rw same refl)
