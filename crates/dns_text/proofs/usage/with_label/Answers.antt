use Rattle.std.proofs.Common.{◌≡◌, [], ◌∷◌, ◌++◌, Ok, ap, sym, subst, ◌∙◌}
use Rattle.dns_names.specs.Build.{append_label}
use Rattle.dns_names.specs.Label.{label_of_bytes, IsInlineLabel}
use Rattle.dns_names.specs.Name.{IsInlineOutcome}
use Rattle.dns_names.proofs.BuildingLaws.{fits}
use Rattle.dns_text.proofs.UsageLaws.{label_made}
use Rattle.dns_text.proofs.usage.with_label.Goals as goal

pub returns-in-Err-clause-inline : goal.returns-in-Err-clause-inline
returns-in-Err-clause-inline c = λ short is.
    let label = c.args.label.now in
    let made : label_of_bytes label ≡ Ok label = label_made label c.requires.is_label in
    let spec : append_label c.args.name (label_of_bytes label) ≡ Ok (record c.args.name { labels = c.args.name.labels ++ label ∷ [] }) =
    ap (append_label c.args.name) made ∙ fits c.args.name (label ∷ []) c.requires.fits in
    let same = c.in-Err.ensures.inline (subst IsInlineLabel (sym made) short) (subst IsInlineOutcome (sym spec) is) in
    let clash = same ∙ spec in
    absurd (cc)
