use Rattle.std.proofs.Common.{rules, tests, refl, subst, List, ◌≡◌}
use Rattle.std.proofs.lemmas.Iterator.{items_from_collect, YieldsList-from_range}
use Rattle.std.proofs.lemmas.Iterator.Consumers.{YieldsList-from_chain, YieldsList-from_filter, YieldsList-at}
use Rattle.std.specs.Prelude.{not, IfOk, ℕ}
use Rattle.stub_servers.specs.ServerList.{is_fresh_at}
use Rattle.stub_servers.proofs.PlacesLaws.{order-of}
use Rattle.stub_servers.proofs.server_list.ServerList.order_at.Goals as goal

pub returns : goal.returns
returns c =
    let test = is_fresh_at c.args.now c.as_slice-failures.result.now in
    let collected = items_from_collect c.collect.result c.collect.ensures.ran
    (YieldsList-from_chain
    (YieldsList-at c.chain-3.ensures.first (YieldsList-from_filter _ test (YieldsList-at c.filter-fresh.ensures.source (YieldsList-from_chain (YieldsList-from_range c.self.inside.turn c.len-end.result _ (cc) refl) (YieldsList-from_range 0 c.self.inside.turn _ (cc) refl) (cc) (cc))) c.filter-fresh.ensures.closure (λ x b q k. search (rules, tests))))
    (YieldsList-at c.chain-3.ensures.second (YieldsList-from_filter _ (λ place. not (test place)) (YieldsList-at c.filter-failed.ensures.source (YieldsList-from_chain (YieldsList-from_range c.self.inside.turn c.len-end.result _ (cc) refl) (YieldsList-from_range 0 c.self.inside.turn _ (cc) refl) (cc) (cc))) c.filter-failed.ensures.closure (λ x b q k. search (rules, tests))))
    (cc) (cc)) in
    let turned = order-of c.args.now c.args.self.now c.self.inside.turn c.len-end.result c.as_slice-failures.result.now (search rules) (search rules) (search rules) (search rules) in
    subst (λ (xs : List ℕ). IfOk c.collect.result (λ order. order.items ≡ xs)) turned collected
