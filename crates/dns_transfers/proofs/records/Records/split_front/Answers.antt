use Rattle.std.proofs.Common.{◌∙◌, sym}
use Rattle.dns_transfers.specs.Records.{left_of}
use Rattle.dns_transfers.proofs.RecordLaws.{known_next, takes_some}
use Rattle.dns_transfers.proofs.records.Records.split_front.Goals as goal

-- the next record has room
pub returns-in_err-push-clause-decided : goal.returns-in_err-push-clause-decided
returns-in_err-push-clause-decided g c none =
    let left = g.S.RecordSource.left in
    let next = sym c.in-Some.ensures.1 ∙ known_next left c.peek.new.self c.in-Some.next c.in-Some.ensures.0 in
    absurd (takes_some (left_of left c.args.self.now) (left_of left c.loop-next.rest) (left c.peek.new.self.rest) c.args.room c.loop-next.left c.in-Some-room_after.after
    c.loop-next.batch.items c.in-Some.next c.loop-next.invariant next c.in-Some-room_after.ensures.some none)
