use Rattle.std.proofs.Common.{◌≡◌, ◌∙◌, ℕ, arith, length, refl, subst}
use Rattle.dns_sockets.proofs.ConnectionLaws.{heard_none, heard_then}
use Rattle.dns_sockets.proofs.ListenerLaws.{Asked, none_asked, one_asked}
use Rattle.dns_sockets.proofs.service.Service.accept.Goals as goal

pub loop-index-init : goal.loop-index-init
loop-index-init g c = record {
  events = heard_none g.W.World.performs c.args.self.now.streams.slots.items c.args.world.now;
  waiting = refl;
  asked = none_asked g.W.World.performs c.args.now c.args.self.now.listeners.items c.args.self.now.streams c.args.world.now;
  datagrams = refl;
  count = refl;
}

pub loop-index-preserved : goal.loop-index-preserved
loop-index-preserved g c = record {
  events = heard_then g.W.World.performs c.args.self.now.streams.slots.items c.loop-index.self.streams.slots.items c.accept_at.new.self.streams.slots.items c.args.world.now c.loop-index.world c.accept_at.new.world
      c.loop-index.invariant.events c.accept_at.ensures.world;
  waiting = c.accept_at.ensures.waiting ∙ c.loop-index.invariant.waiting;
  asked = one_asked g.W.World.performs c.args.now c.args.self.now.listeners.items c.args.self.now.streams c.args.world.now c.loop-index.world c.accept_at.new.world c.loop-index.index
      c.loop-index.self.listeners.items c.accept_at.new.self.listeners.items c.loop-index.self.streams c.accept_at.new.self.streams c.loop-index.invariant.asked (c.accept_at.ensures.accepts (omega (arith, c.args.self.now.listeners.ok, c.loop-index.invariant.count)));
  datagrams = c.accept_at.ensures.datagrams ∙ c.loop-index.invariant.datagrams;
  count = c.accept_at.ensures.count ∙ c.loop-index.invariant.count;
}

pub returns-clause-accepts : goal.returns-clause-accepts
returns-clause-accepts g c =
    let all : c.loop-index.index ≡ length c.args.self.now.listeners.items = omega (arith, c.args.self.now.listeners.ok) in
    subst (λ (n : ℕ). Asked g.W.World.performs c.args.now c.args.self.now.listeners.items c.args.self.now.streams c.args.world.now c.loop-index.world n c.loop-index.self.listeners.items c.loop-index.self.streams)
    all c.loop-index.invariant.asked
