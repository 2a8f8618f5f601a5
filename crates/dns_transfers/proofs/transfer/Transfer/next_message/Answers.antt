use Rattle.std.proofs.Common.{◌<◌, length, map, refl, arith}
use Rattle.dns_messages.specs.Message.{empty_message}
use Rattle.dns_transfers.specs.Records.{lent_record}
use Rattle.dns_transfers.specs.Sending.{sending}
use Rattle.dns_transfers.proofs.MessageLaws.{front_fits}
use Rattle.dns_transfers.proofs.SendingLaws.{not_empty, room_beside, sends_next}
use Rattle.dns_transfers.proofs.transfer.Transfer.next_message.Goals as goal

pub encode-requires : goal.encode-requires
encode-requires g c = front_fits c.args.self.now.queries.now c.args.self.now.few c.room_for-room.ensures.short

pub returns-clause-message : goal.returns-clause-message
returns-clause-message g c =
    let old = sending g.S.RecordSource.left c.args.self.now in
    let some : 0 < length c.in_ok-batch.batch.items = omega (arith, not_empty c.is_empty.result _ c.is_empty.ensures c.if-is_empty.false) in
    sends_next old _ c.in_ok-bytes.bytes.items c.in_ok-batch.batch.items c.room_for-room.result _
    (room_beside old c.room_for-room.result refl refl refl refl c.room_for-room.ensures.value)
    c.in_ok-batch.ensures.front c.in_ok-batch.ensures.left some refl
    (λ i. record (empty_message c.args.self.now.metadata) {
      queries = c.args.self.now.queries.now;
      answers = map lent_record (c.as_slice.ensures.value i);
      edns = c.edns_of.ensures i;
    })
    c.in_ok-bytes.ensures
