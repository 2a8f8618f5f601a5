use Rattle.std.proofs.Common.{◌++◌, length}
use Rattle.std.specs.Int.{w16, to_be_bytes}
use Rattle.dns_tsig.proofs.CoveredLaws.{adds_two}
use Rattle.dns_tsig.proofs.covered.add_outcome.Goals as goal

pub returns : goal.returns
returns c =
    adds_two c.args.state.now c.add_number.new.state c.update.new.self (to_be_bytes w16 c.args.error) (to_be_bytes w16 (length c.args.other.now) ++ c.args.other.now)
    c.add_number.ensures
    (adds_two c.add_number.new.state c.add_number-2.new.state c.update.new.self (to_be_bytes w16 (length c.args.other.now)) c.args.other.now
    c.add_number-2.ensures c.update.ensures)
