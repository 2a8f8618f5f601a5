use Rattle.std.proofs.Common.{length, ap, ◌∙◌, arith, ◌≤◌}
use Rattle.dns_wire.specs.Encoder.{state_of}
use Rattle.dns_wire.specs.Encodable.{position_of}
use Rattle.dns_wire.specs.Items.{fitting_prefix}
use Rattle.dns_wire.proofs.ItemLaws.{fitting_prefix-all}
use Rattle.dns_wire.proofs.encoder.BinEncoder.emit_all.Goals as goal

pub returns-clause-all : goal.returns-clause-all
returns-clause-all g c =
    let pieces = g.T.BinEncodable.pieces in
    let limit = c.args.self.now.max_size in
    let s = position_of (state_of c.args.self.now) in
    let all : length c.args.items.now ≤ length (fitting_prefix pieces limit s c.args.items.now) = omega (arith, c.in_ok-count.ensures.count, c.if-count-items.false) in
    let same = fitting_prefix-all pieces limit s c.args.items.now all in
    (c.in_ok-count.ensures.count ∙ ap length same, same)
