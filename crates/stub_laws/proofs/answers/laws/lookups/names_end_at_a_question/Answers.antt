use Rattle.stub_laws.proofs.EndsLaws.{name-ends}
use Rattle.stub_laws.proofs.answers.laws.lookups.names_end_at_a_question.Goals as goal

pub returns : goal.returns
returns g c = λ settings now name kind reply looks.
    name-ends g.C.WholeClaim.finds g.C.WholeClaim.lacks g.C.WholeClaim.fails settings now name kind reply looks
