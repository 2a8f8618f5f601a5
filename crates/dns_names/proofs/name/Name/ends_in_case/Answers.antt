use Rattle.std.proofs.Common.{ap, ◌∙◌, sym}
use Rattle.std.proofs.lemmas.Slice.Eq.{bytes_eq-Decides}
use Rattle.dns_wire.specs.Writing.{labels_form}
use Rattle.dns_names.proofs.CaseLaws.{forms_same}
use Rattle.dns_names.proofs.name.Name.ends_in_case.Goals as goal

pub returns : goal.returns
returns c =
    let decides = bytes_eq-Decides c.wire_after.result.now c.wire.result.now in (
      λ t. forms_same _ _ (sym c.wire_after.ensures.value ∙ decides.0 (sym c.eq.ensures ∙ t) ∙ c.wire.ensures.form),
      λ e. c.eq.ensures ∙ decides.1 (c.wire_after.ensures.value ∙ ap labels_form e ∙ sym c.wire.ensures.form),
    )
