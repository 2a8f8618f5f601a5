use Rattle.std.proofs.Common.{arith}
use Rattle.stub_client.proofs.AsksLaws.{few-asks}
use Rattle.stub_client.proofs.laws.every_lookup_ends.Goals as goal

pub returns : goal.returns
returns c = λ settings now old q asks reply new looks. few-asks settings now 0 _ old q asks reply new looks (omega arith)
