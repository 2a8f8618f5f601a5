use Rattle.std.proofs.Common.{◌≡◌, ◌+◌, ◌∷◌, [], ℕ, List, drop, map, refl, sym, ap, subst, ◌∙◌, arith}
use Rattle.std.specs.Global.{Vec}
use Rattle.std.specs.List.{fold}
use Rattle.std.proofs.lemmas.List.{drop_all, drop_more}
use Rattle.dns_messages.specs.declared.message.Message.{Message}
use Rattle.stub_link.specs.LinkState.{LinkState, deliver}
use Rattle.stub_link.specs.ScriptedLink.{IsRequest}
use Rattle.stub_link.proofs.Delivering.{RestLeads, rest-end, rest-step}
use Rattle.stub_link.proofs.link.server.Server.deliver_all.Goals as goal

pub loop-bytes-init : goal.loop-bytes-init
loop-bytes-init c = λ state sent at related. record { now = state; rest = sent; at = at; related = related; same = refl }

pub loop-bytes-preserved : goal.loop-bytes-preserved
loop-bytes-preserved c = λ state sent at related.
    let left : List (Vec ℕ) = drop (c.loop-bytes.bytes-index + 1) c.args.datagrams.now in
    let next : drop c.loop-bytes.bytes-index c.args.datagrams.now ≡ c.bytes-item.result ∷ left =
    drop_more c.args.datagrams.now c.loop-bytes.bytes-index c.bytes-item.result (omega arith) ∙ ap (λ (b : Vec ℕ). b ∷ left) (sym c.bytes-item.is) in
    let all : LinkState = fold (λ (now : LinkState) (m : Message). deliver m now) state sent in
    rest-step c.loop-bytes.self c.deliver.new.self c.bytes-item.result.items (map (λ (b : Vec ℕ). b.items) left) all
    (λ now m s r. (c.in_ok-deliver.ensures.ok now m s (subst (λ (bs : List ℕ). IsRequest bs m) (sym c.as_slice.ensures.value) r)).1)
    (subst (λ (xs : List (Vec ℕ)). RestLeads c.loop-bytes.self (map (λ (b : Vec ℕ). b.items) xs) all) next (c.loop-bytes.invariant state sent at related))

pub returns-clause-delivers : goal.returns-clause-delivers
returns-clause-delivers c = λ state sent at related.
    let all : LinkState = fold (λ (now : LinkState) (m : Message). deliver m now) state sent in
    rest-end c.loop-bytes.self all
    (subst (λ (xs : List (Vec ℕ)). RestLeads c.loop-bytes.self (map (λ (b : Vec ℕ). b.items) xs) all) (drop_all c.loop-bytes.bytes-index c.args.datagrams.now (omega arith)) (c.loop-bytes.invariant state sent at related))
