use Rattle.std.proofs.Common.{◌∙◌, ◌+◌, ◌∷◌, [], Bool, Some, ap, arith, length, refl}
use Rattle.std.specs.List.{AllByRecursion}
use Rattle.std.specs.Prelude.{Ok}
use Rattle.dns_sockets.specs.Connections.{AreFollowed}
use Rattle.dns_sockets.specs.Moments.{IsTimed}
use Rattle.dns_sockets.specs.Trace.{At, IsAside}
use Rattle.dns_sockets.specs.World.{Clocked}
use Rattle.dns_sockets.proofs.ShareLaws.{shares_all, shares_early, starts_then}
use Rattle.dns_sockets.proofs.ConnectionLaws.{on_clock, on_kept, on_then}
use Rattle.dns_sockets.proofs.RotationLaws.{turn_more}
use Rattle.dns_sockets.proofs.stream_table.StreamTable.go_on.Goals as goal

pub returns-in_err-now-clause-acts : goal.returns-in_err-now-clause-acts
returns-in_err-now-clause-acts g c = on_clock g.W.World.performs g.H.Handler.steps c.args.self.now.slots.items c.args.world.now c.now.new.self c.args.handler.now c.now.result c.now.ensures

pub loop-slot-init : goal.loop-slot-init
loop-slot-init g c = record {
  acts = on_clock g.W.World.performs g.H.Handler.steps c.args.self.now.slots.items c.args.world.now c.now.new.self c.args.handler.now c.now.result c.now.ensures;
  count = refl;
  first = refl;
  capacity = refl;
  started = (c.in_ok-now.now, (c.saturating_add-end.ensures, record { acts = At (Clocked (Some c.in_ok-now.now)) ∷ []; leads = (c.now.new.self, (c.in_ok-now.ensures, (refl, refl))); holds = ([], refl) }));
}

pub loop-slot-preserved : goal.loop-slot-preserved
loop-slot-preserved g c = record {
  acts = on_then g.W.World.performs g.H.Handler.steps c.args.self.now.slots.items c.loop-slot.self.slots.items c.go_on_until.new.self.slots.items
      c.args.world.now c.loop-slot.world c.go_on_until.new.world c.args.handler.now c.loop-slot.handler c.go_on_until.new.handler c.loop-slot.invariant.acts c.go_on_until.ensures.acts;
  count = c.go_on_until.ensures.count ∙ c.loop-slot.invariant.count;
  first = turn_more c.loop-slot._slot (length c.args.self.now.slots.items) (length c.loop-slot.self.slots.items) c.args.self.now.first c.loop-slot.self.first c.go_on_until.new.self.first c.loop-slot.invariant.count c.loop-slot.invariant.first c.go_on_until.ensures.first;
  capacity = c.go_on_until.ensures.capacity ∙ c.loop-slot.invariant.capacity;
  started = (
    c.loop-slot.invariant.started.0,
    (
      c.loop-slot.invariant.started.1.0,
      starts_then g.W.World.performs g.H.Handler.steps (At (Clocked (Some c.loop-slot.invariant.started.0))) (λ acts. AllByRecursion IsAside acts × AreFollowed c.loop-slot.self.slots.items c.go_on_until.new.self.slots.items acts × IsTimed acts)
          c.args.world.now c.loop-slot.world c.go_on_until.new.world c.args.handler.now c.loop-slot.handler c.go_on_until.new.handler c.loop-slot.invariant.started.1.1 c.go_on_until.ensures.acts,
    ),
  );
}

pub returns-in_err-go_on_until-clause-acts : goal.returns-in_err-go_on_until-clause-acts
returns-in_err-go_on_until-clause-acts g c =
    on_then g.W.World.performs g.H.Handler.steps c.args.self.now.slots.items c.loop-slot.self.slots.items c.go_on_until.new.self.slots.items
    c.args.world.now c.loop-slot.world c.go_on_until.new.world c.args.handler.now c.loop-slot.handler c.go_on_until.new.handler c.loop-slot.invariant.acts c.go_on_until.ensures.acts

pub returns-then-branch-clause-acts : goal.returns-then-branch-clause-acts
returns-then-branch-clause-acts g c =
    on_then g.W.World.performs g.H.Handler.steps c.args.self.now.slots.items c.loop-slot.self.slots.items c.go_on_until.new.self.slots.items
    c.args.world.now c.loop-slot.world c.go_on_until.new.world c.args.handler.now c.loop-slot.handler c.go_on_until.new.handler c.loop-slot.invariant.acts c.go_on_until.ensures.acts

pub returns-clause-acts : goal.returns-clause-acts
returns-clause-acts g c =
    on_kept g.W.World.performs g.H.Handler.steps c.args.self.now.slots.items c.loop-slot.self.slots.items c.trim.new.slots.items c.args.world.now c.loop-slot.world c.args.handler.now c.loop-slot.handler c.loop-slot.invariant.acts c.trim.ensures

pub returns-then-branch-clause-rotates : goal.returns-then-branch-clause-rotates
returns-then-branch-clause-rotates g c = (
  c.loop-slot._slot + 1,
  (
    λ some. omega arith,
    turn_more c.loop-slot._slot (length c.args.self.now.slots.items) (length c.loop-slot.self.slots.items) c.args.self.now.first c.loop-slot.self.first c.go_on_until.new.self.first c.loop-slot.invariant.count c.loop-slot.invariant.first c.go_on_until.ensures.first,
  ),
)

pub returns-clause-rotates : goal.returns-clause-rotates
returns-clause-rotates g c = (
  c.loop-slot._slot,
  (λ some. omega (arith, some, c.args.self.now.slots.ok, c.loop-slot-test.false, c.loop-slot.auto._slot-end, c.len-slot-end.ensures), c.loop-slot.invariant.first),
)

pub returns-then-branch-clause-share : goal.returns-then-branch-clause-share
returns-then-branch-clause-share g c =
    let is_over = c.in_ok-go_on_until.ensures.over (ap (λ (b : Bool). Ok b) c.if-branch.true) in (
      c.loop-slot._slot + 1,
      (
        turn_more c.loop-slot._slot (length c.args.self.now.slots.items) (length c.loop-slot.self.slots.items) c.args.self.now.first c.loop-slot.self.first c.go_on_until.new.self.first c.loop-slot.invariant.count c.loop-slot.invariant.first c.go_on_until.ensures.first,
        shares_early g.W.World.performs g.H.Handler.steps (c.loop-slot._slot + 1) (length c.args.self.now.slots.items) c.loop-slot.invariant.started.0 c.go_on_until.new.now
            c.args.world.now c.loop-slot.world c.go_on_until.new.world c.args.handler.now c.loop-slot.handler c.go_on_until.new.handler c.loop-slot.invariant.started.1.1 (omega (arith, is_over.0, c.loop-slot.invariant.started.1.0)) is_over.1,
      ),
    )

pub returns-clause-share : goal.returns-clause-share
returns-clause-share g c = (
  c.loop-slot._slot,
  (
    c.loop-slot.invariant.first,
    shares_all g.W.World.performs g.H.Handler.steps c.loop-slot._slot (length c.args.self.now.slots.items) c.loop-slot.invariant.started.0 c.args.world.now c.loop-slot.world c.args.handler.now c.loop-slot.handler
        (omega (arith, c.args.self.now.slots.ok, c.loop-slot-test.false, c.loop-slot.auto._slot-end, c.len-slot-end.ensures)) c.loop-slot.invariant.started.1.1,
  ),
)
