use Rattle.std.proofs.Common.{ℕ, List, drop, take, subst}
use Rattle.std.specs.Int.{w16, w64, to_be_bytes}
use Rattle.dns_tsig.specs.Covered.{Adds}
use Rattle.dns_tsig.proofs.CoveredLaws.{adds_two}
use Rattle.dns_tsig.proofs.covered.add_timers.Goals as goal

pub returns : goal.returns
returns c =
    adds_two c.args.state.now c.update.new.self c.add_number.new.state (drop 2 (to_be_bytes w64 c.args.time)) (to_be_bytes w16 c.args.fudge)
    (subst (λ (l : List ℕ). Adds c.args.state.now c.update.new.self (take 6 (drop 2 l))) c.to_be_bytes.ensures c.update.ensures)
    c.add_number.ensures
