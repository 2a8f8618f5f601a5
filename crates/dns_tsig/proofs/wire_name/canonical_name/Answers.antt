use Rattle.dns_tsig.proofs.SkipLaws.{label_room}
use Rattle.dns_tsig.proofs.wire_name.canonical_name.Goals as goal

pub push_label-requires-clause-room : goal.push_label-requires-clause-room
push_label-requires-clause-room c =
    label_room c.loop-label.bytes.items c.in-Some.label.now c.loop-label.labels c.next.new.self c.in-Some.ensures.steps c.loop-label.invariant.room
