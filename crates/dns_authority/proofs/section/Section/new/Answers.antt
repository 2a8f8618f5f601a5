use Rattle.dns_authority.specs.SetIndex.{is_indexed}
use Rattle.dns_authority.proofs.SetIndexLaws.{only_answers}
use Rattle.dns_authority.proofs.section.Section.new.Goals as goal

pub returns-clause-index : goal.returns-clause-index
returns-clause-index c = λ name t.
    only_answers name t (is_indexed c.add_all.new.self name t) (is_indexed c.new-index.result name t) c.args.answers.now c.new.result
    (c.new-index.ensures name t) c.new.ensures (c.in_ok-add_all.ensures name t)
