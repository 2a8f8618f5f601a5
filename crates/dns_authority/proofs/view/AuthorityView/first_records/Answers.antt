use Rattle.std.proofs.Common.{◌∙◌}
use Rattle.dns_authority.proofs.FrontLaws.{same_first_records}
use Rattle.dns_authority.proofs.view.AuthorityView.first_records.Goals as goal

pub returns : goal.returns
returns c = c.into_first_records.ensures ∙ same_first_records c.args.most c.in_ok-answer.answer _ c.in_ok-answer.ensures.answer
