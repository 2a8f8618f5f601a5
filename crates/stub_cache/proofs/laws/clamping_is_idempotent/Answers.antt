use Rattle.stub_cache.proofs.ClampingLaws.{clamped-twice}
use Rattle.stub_cache.proofs.laws.clamping_is_idempotent.Goals as goal

pub returns : goal.returns
returns c = clamped-twice
