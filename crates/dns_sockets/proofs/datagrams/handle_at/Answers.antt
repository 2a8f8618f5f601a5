use Rattle.std.proofs.Common.{◌++◌, [], ap, map, refl, subst, List, Option, Some, None}
use Rattle.dns_faults.specs.declared.delivery.Delivery.{Delivery}
use Rattle.dns_sockets.specs.Datagrams.{HandlesIf}
use Rattle.dns_sockets.specs.Handler.{deliveries_if}
use Rattle.dns_sockets.specs.Trace.{At, By, Socket}
use Rattle.dns_sockets.proofs.TraceLaws.{leads_at, leads_both, leads_by}
use Rattle.dns_sockets.proofs.datagrams.handle_at.Goals as goal

pub returns : goal.returns
returns g c =
    let called = c.deliveries_of.ensures in
    let sent = c.deliver_all.ensures in
    let performs = g.W.World.performs in
    let steps = g.H.Handler.steps in
    record {
      acts = map (By (Socket c.args.index)) called.events ++ map At sent.events;
      leads = leads_both performs steps c.args.world.now c.args.world.now c.deliver_all.new.world c.args.handler.now c.deliveries_of.new.handler c.deliveries_of.new.handler _ _
          (leads_by performs steps (Socket c.args.index) c.args.world.now c.args.handler.now c.deliveries_of.new.handler called.events called.led)
          (leads_at performs steps c.args.world.now c.deliver_all.new.world c.deliveries_of.new.handler sent.events sent.led);
      holds = (
        Some c.in-Ok.deliveries.items,
        called.events,
        sent.events,
        (refl, (subst (λ (outcome : Option (List Delivery)). HandlesIf c.args.now c.args.gathered.now called.events outcome) (ap deliveries_if c.in-Ok.is) called.holds, sent.holds)),
      );
    }

pub returns-in_default : goal.returns-in_default
returns-in_default g c =
    let called = c.deliveries_of.ensures in
    record {
      acts = map (By (Socket c.args.index)) called.events ++ [];
      leads = leads_both g.W.World.performs g.H.Handler.steps c.args.world.now c.args.world.now c.args.world.now c.args.handler.now c.deliveries_of.new.handler c.deliveries_of.new.handler _ []
          (leads_by g.W.World.performs g.H.Handler.steps (Socket c.args.index) c.args.world.now c.args.handler.now c.deliveries_of.new.handler called.events called.led) (refl, refl);
      holds = (
        None,
        called.events,
        [],
        (refl, (subst (λ (outcome : Option (List Delivery)). HandlesIf c.args.now c.args.gathered.now called.events outcome) (ap deliveries_if c.in_default.is) called.holds, (refl, refl))),
      );
    }
