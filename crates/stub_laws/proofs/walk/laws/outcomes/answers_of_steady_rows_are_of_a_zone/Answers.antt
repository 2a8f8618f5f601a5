use Rattle.stub_laws.proofs.SteadyLaws.{steady-asked}
use Rattle.stub_laws.proofs.walk.laws.outcomes.answers_of_steady_rows_are_of_a_zone.Goals as goal

pub returns : goal.returns
returns c = λ origin history rows now asks steady answered errors. steady-asked origin history rows now steady asks answered errors
