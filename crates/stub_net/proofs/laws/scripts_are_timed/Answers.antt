use Rattle.stub_net.proofs.ScriptTimeLaws.{scripts-timed}
use Rattle.stub_net.proofs.laws.scripts_are_timed.Goals as goal

pub returns : goal.returns
returns c = scripts-timed
