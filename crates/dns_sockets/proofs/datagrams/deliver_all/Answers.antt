use Rattle.std.proofs.Common.{rules, ◌≡◌, ◌∙◌, ◌++◌, List, [], ap, arith, length, map, refl, subst, sym}
use Rattle.std.proofs.lemmas.List.{nil_from_length}
use Rattle.std.specs.Vec.Iter.{into_iter_items}
use Rattle.dns_faults.specs.declared.delivery.Delivery.{Delivery}
use Rattle.dns_sockets.specs.Datagrams.{DeliversAll, peer_of}
use Rattle.dns_sockets.proofs.DeliveryLaws.{delivered_more, delivered_to_all, delivered_whole}
use Rattle.dns_sockets.proofs.TraceLaws.{led_both}
use Rattle.dns_sockets.proofs.datagrams.deliver_all.Goals as goal

pub loop-delivery-init : goal.loop-delivery-init
loop-delivery-init g c = record {
  whole = ([], (refl, λ rest new more. subst (λ (l : List Delivery). DeliversAll c.args.index c.args.now (map peer_of c.args.gathered.now) l c.args.waiting.now rest new) c.into_iter-delivery-iterator.ensures.into_iter_gives.0 more));
  counted = search rules;
}

pub loop-delivery-preserved : goal.loop-delivery-preserved
loop-delivery-preserved g c =
    let whole = c.loop-delivery.invariant.whole in
    let sent = c.deliver.ensures in
    record {
      whole = (
        whole.0 ++ sent.events,
        (
          led_both g.W.World.performs c.args.world.now c.loop-delivery.world c.deliver.new.world whole.0 sent.events whole.1.0 sent.led,
          delivered_more c.args.index c.args.now c.loop-delivery.rest.now c.args.gathered.now c.datagram-item.result _ c.in-Some.delivery _ _ c.args.deliveries.items c.args.waiting.now c.loop-delivery.waiting c.deliver.new.waiting whole.0 sent.events
              c.in-len1-up.len_at_least c.datagram-item.is c.in-Some.ensures.steps.0 whole.1.1 sent.holds,
        ),
      );
      counted = omega (arith, c.loop-delivery.invariant.counted, c.in-Some.ensures.steps.1, ap length c.in-Some.ensures.steps.0);
    }

pub returns-in_default : goal.returns-in_default
returns-in_default g c =
    let whole = c.loop-delivery.invariant.whole in
    record { events = whole.0; led = whole.1.0; holds = delivered_to_all c.args.index c.args.now c.loop-delivery.rest.now c.args.gathered.now _ c.args.deliveries.items c.args.waiting.now c.loop-delivery.waiting whole.0 c.in_default.len_below whole.1.1 }

pub returns : goal.returns
returns g c =
    let whole = c.loop-delivery.invariant.whole in
    let none : into_iter_items c.loop-delivery.delivery-iterator ≡ [] = nil_from_length (into_iter_items c.loop-delivery.delivery-iterator) (sym c.loop-delivery.invariant.counted ∙ c.in-None.ensures.steps.0) in
    record { events = whole.0; led = whole.1.0; holds = delivered_whole c.args.index c.args.now c.loop-delivery.rest.now c.args.gathered.now _ c.args.deliveries.items c.args.waiting.now c.loop-delivery.waiting whole.0 none whole.1.1 }
