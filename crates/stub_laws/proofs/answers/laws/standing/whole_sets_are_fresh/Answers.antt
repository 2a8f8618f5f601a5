use Rattle.stub_laws.proofs.GrowingLaws.{set-fresh}
use Rattle.stub_laws.proofs.answers.laws.standing.whole_sets_are_fresh.Goals as goal

pub returns : goal.returns
returns c = λ preserves history greatest now kind from records r whole there typed. set-fresh preserves history greatest now kind from records r whole there typed
