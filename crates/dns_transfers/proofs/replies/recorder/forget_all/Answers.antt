use Rattle.std.proofs.Common.{get_or, arith}
use Rattle.std.proofs.lemmas.Option.{slice_get-get_or}
use Rattle.dns_transfers.proofs.RecordedLaws.{all_forgotten, one_forgotten}
use Rattle.dns_transfers.proofs.replies.recorder.forget_all.Goals as goal

pub returns : goal.returns
returns c = all_forgotten c.args.histories.now c.loop-place.histories c.loop-place.place c.loop-place.invariant (omega (arith, c.loop-place-test.false, c.loop-place.invariant.count))
