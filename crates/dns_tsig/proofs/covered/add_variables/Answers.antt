use Rattle.std.proofs.Common.{ℕ, List, ◌++◌, subst}
use Rattle.dns_tsig.specs.Covered.{Adds, class_and_ttl, outcome, timers}
use Rattle.dns_tsig.specs.Key.{algorithm_name}
use Rattle.dns_tsig.proofs.CoveredLaws.{adds_two}
use Rattle.dns_tsig.proofs.covered.add_variables.Goals as goal

pub returns : goal.returns
returns c =
    let key = c.args.key.now in
    let terms = c.args.terms.now in
    let stamp : List ℕ = timers terms.time terms.fudge in
    let last : List ℕ = outcome terms.error terms.other.now in
    adds_two c.args.state.now c.update.new.self c.add_outcome.new.state key.name.items (class_and_ttl ++ (algorithm_name key.algorithm ++ (stamp ++ last)))
    (subst (λ (l : List ℕ). Adds c.args.state.now c.update.new.self l) c.as_slice.ensures.value c.update.ensures)
    (adds_two c.update.new.self c.update-2.new.self c.add_outcome.new.state class_and_ttl (algorithm_name key.algorithm ++ (stamp ++ last))
    c.update-2.ensures
    (adds_two c.update-2.new.self c.update-3.new.self c.add_outcome.new.state (algorithm_name key.algorithm) (stamp ++ last)
    (subst (λ (l : List ℕ). Adds c.update-2.new.self c.update-3.new.self l) c.algorithm_name.ensures c.update-3.ensures)
    (adds_two c.update-3.new.self c.add_timers.new.state c.add_outcome.new.state stamp last c.add_timers.ensures c.add_outcome.ensures)))
