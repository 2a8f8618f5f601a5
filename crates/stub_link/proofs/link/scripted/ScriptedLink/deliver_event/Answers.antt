use Rattle.std.proofs.Common.{ℕ, List, map, reverse, Option, option_map, sym, ap, subst, ◌∙◌}
use Rattle.std.specs.Prelude.{slice_get}
use Rattle.std.specs.Global.{Vec}
use Rattle.std.specs.Option.{option_copied}
use Rattle.stub_link.specs.LinkState.{LinkState, deliver_event, named_update}
use Rattle.stub_link.specs.ScriptedLink.{IsPlace, named_place}
use Rattle.stub_link.proofs.Scripts.{event-delivered, question-place, update-place}
use Rattle.stub_link.proofs.link.scripted.ScriptedLink.deliver_event.Goals as goal

pub returns-in-Question-clause-delivers : goal.returns-in-Question-clause-delivers
returns-in-Question-clause-delivers c =
    event-delivered c.args.self.now c.deliver_named.new.self (option_copied c.newest.result) c.deliver_named.result c.args.event (λ (state : LinkState). slice_get state.datagrams c.in-Question.n)
    (λ state h. subst (λ x. IsPlace x (slice_get state.datagrams c.in-Question.n)) (sym (c.newest.ensures ∙ ap (λ (xs : List (Vec ℕ)). slice_get (reverse (map (λ (b : Vec ℕ). b.items) xs)) c.in-Question.n) c.as_slice.ensures.value)) (question-place c.args.self.now state c.in-Question.n h))
    (λ state. ap (deliver_event state) c.in-Question.is) c.deliver_named.ensures

pub returns-in-Update-clause-delivers : goal.returns-in-Update-clause-delivers
returns-in-Update-clause-delivers c =
    event-delivered c.args.self.now c.deliver_named-in-Update.new.self (option_copied c.place.result) c.deliver_named-in-Update.result c.args.event (λ (state : LinkState). named_update (slice_get state.updates c.in-Update.k))
    (λ state h. subst (λ x. IsPlace x (named_update (slice_get state.updates c.in-Update.k)))
    (sym (c.place.ensures ∙ ap (λ (xs : List (Option (Vec ℕ))). named_place (slice_get (map (option_map (λ (b : Vec ℕ). b.items)) xs) c.in-Update.k)) c.as_slice-in-Update.ensures.value)) (update-place c.args.self.now state c.in-Update.k h))
    (λ state. ap (deliver_event state) c.in-Update.is) c.deliver_named-in-Update.ensures
