use Rattle.std.proofs.Common.{arith, rules, ◌≤◌, ◌-◌, length}
use Rattle.dns_message_bytes.proofs.FrameLaws.{more_filled, put-length}
use Rattle.dns_message_bytes.proofs.frames.read.fill.Goals as goal

pub loop-filled-preserved : goal.loop-filled-preserved
loop-filled-preserved g c =
    let some : c.in-Ok.count ≤ length c.read.new.buffer = search rules in
    let len : c.in-Ok.count ≤ length c.loop-filled.buffer - c.loop-filled.filled = search rules in (
      omega (arith, put-length c.loop-filled.filled c.loop-filled.buffer c.read.new.buffer),
      more_filled c.loop-filled.filled c.in-Ok.count c.loop-filled.buffer c.read.new.buffer (g.S.Source.bytes_left c.args.source.now) (g.S.Source.bytes_left c.loop-filled.source) (g.S.Source.bytes_left c.read.new.self) c.loop-filled.invariant.0 some c.loop-filled.invariant.1 c.in-Ok.ensures.ok.front,
      omega (arith, c.loop-filled.invariant.2, c.read.ensures.kept),
    )
