use Rattle.std.proofs.Common.{◌≡◌, ℕ, ◌-◌, List, ◌++◌, subst, arith}
use Rattle.std.specs.Prelude.{slice_range}
use Rattle.std.specs.Int.{w16, to_be_bytes}
use Rattle.dns_tsig.specs.Covered.{Adds}
use Rattle.dns_tsig.specs.Numbers.{number_at}
use Rattle.dns_tsig.proofs.CoveredLaws.{adds_two}
use Rattle.dns_tsig.proofs.covered.add_message.Goals as goal

pub returns : goal.returns
returns c =
    let message = c.args.message.now in
    let id : List ℕ = to_be_bytes w16 c.args.original_id in
    let middle : List ℕ = slice_range message 2 10 in
    let count : List ℕ = to_be_bytes w16 (number_at message 10 - 1) in
    let body : List ℕ = slice_range message 12 c.args.place in
    let less : c.saturating_sub.result ≡ number_at message 10 - 1 = omega arith in
    adds_two c.args.state.now c.add_number.new.state c.update-2.new.self id (middle ++ (count ++ body)) c.add_number.ensures
    (adds_two c.add_number.new.state c.update.new.self c.update-2.new.self middle (count ++ body) c.update.ensures
    (adds_two c.update.new.self c.add_number-2.new.state c.update-2.new.self count body
    (subst (λ (n : ℕ). Adds c.update.new.self c.add_number-2.new.state (to_be_bytes w16 n)) less c.add_number-2.ensures)
    c.update-2.ensures))
