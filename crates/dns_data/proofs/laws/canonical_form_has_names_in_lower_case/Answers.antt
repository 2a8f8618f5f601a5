use Rattle.dns_data.proofs.CanonicalLaws.{canonical_decodes}
use Rattle.dns_data.proofs.laws.canonical_form_has_names_in_lower_case.Goals as goal

pub returns : goal.returns
returns c = λ w d end targets sound are. canonical_decodes w d end targets sound.values are
