use Rattle.stub_net.proofs.TimeLaws.{exchange-ends, prompt-is_timed}
use Rattle.stub_net.proofs.laws.exchanges_end_in_time.Goals as goal

pub returns : goal.returns
returns g c = record {
  timed = λ clock slack m old new outcome k e. exchange-ends _ clock slack m old new outcome k e;
  prompt = λ clock slack m old new outcome k e. exchange-ends _ clock slack m old new outcome (prompt-is_timed _ clock slack k) e;
}
