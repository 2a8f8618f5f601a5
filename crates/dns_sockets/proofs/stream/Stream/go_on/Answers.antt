use Rattle.std.proofs.Common.{false, leb, subst, true}
use Rattle.dns_sockets.specs.Connections.{connection_of}
use Rattle.dns_sockets.specs.StreamSteps.{ends}
use Rattle.dns_sockets.specs.declared.stream.Step.{Step}
use Rattle.dns_sockets.proofs.StreamStepLaws.{GoesOn, steps_any, steps_fail, steps_none, steps_then}
use Rattle.std.proofs.Common.{inl, refl}
use Rattle.std.specs.List.{AllByRecursion}
use Rattle.dns_sockets.specs.Moments.{IsTimed}
use Rattle.dns_sockets.specs.StreamSteps.{Leaves, ends_if}
use Rattle.dns_sockets.specs.Trace.{IsOfStream}
use Rattle.dns_sockets.proofs.ActivityLaws.{active_then}
use Rattle.dns_sockets.proofs.stream.Stream.go_on.Goals as goal

pub loop-step-init : goal.loop-step-init
loop-step-init g c = record { acts = steps_none g.W.World.performs g.H.Handler.steps c.args.index (connection_of c.args.self.now) c.args.world.now c.args.handler.now; active = inl refl }

pub returns-in-Waits-clause-acts : goal.returns-in-Waits-clause-acts
returns-in-Waits-clause-acts g c =
    let performs = g.W.World.performs in
    let steps = g.H.Handler.steps in
    let index = c.args.index in
    let old = connection_of c.args.self.now in
    let mid = connection_of c.loop-step.self in
    let new = connection_of c.step.new.self in
    steps_any performs steps (leb c.deadline.result c.step.new.now) index old new c.args.world.now c.step.new.world c.args.handler.now c.step.new.handler
    (steps_then performs steps false index old mid new c.args.world.now c.loop-step.world c.step.new.world c.args.handler.now c.loop-step.handler c.step.new.handler c.loop-step.invariant.acts
    (subst (λ (s : Step). GoesOn performs steps (ends s) index mid new c.loop-step.world c.step.new.world c.loop-step.handler c.step.new.handler) c.in-Waits.is c.in_ok-step.ensures.acts))

pub returns-in-Closes-clause-acts : goal.returns-in-Closes-clause-acts
returns-in-Closes-clause-acts g c =
    let performs = g.W.World.performs in
    let steps = g.H.Handler.steps in
    let index = c.args.index in
    let mid = connection_of c.loop-step.self in
    let new = connection_of c.step.new.self in
    steps_then performs steps true index (connection_of c.args.self.now) mid new c.args.world.now c.loop-step.world c.step.new.world c.args.handler.now c.loop-step.handler c.step.new.handler c.loop-step.invariant.acts
    (subst (λ (s : Step). GoesOn performs steps (ends s) index mid new c.loop-step.world c.step.new.world c.loop-step.handler c.step.new.handler) c.in-Closes.is c.in_ok-step.ensures.acts)

pub returns-in_err-step-clause-acts : goal.returns-in_err-step-clause-acts
returns-in_err-step-clause-acts g c =
    let performs = g.W.World.performs in
    let steps = g.H.Handler.steps in
    let index = c.args.index in
    let old = connection_of c.args.self.now in
    let mid = connection_of c.loop-step.self in
    let new = connection_of c.step.new.self in
    steps_fail performs steps c.from_residual.result c.from_residual.ensures.0 index old new c.args.world.now c.step.new.world c.args.handler.now c.step.new.handler
    (steps_then performs steps false index old mid new c.args.world.now c.loop-step.world c.step.new.world c.args.handler.now c.loop-step.handler c.step.new.handler c.loop-step.invariant.acts c.in_err-step.ensures.acts)

pub loop-step-preserved : goal.loop-step-preserved
loop-step-preserved g c =
    let performs = g.W.World.performs in
    let steps = g.H.Handler.steps in
    let index = c.args.index in
    let mid = connection_of c.loop-step.self in
    let new = connection_of c.step.new.self in
    record {
      acts = steps_then performs steps false index (connection_of c.args.self.now) mid new c.args.world.now c.loop-step.world c.step.new.world c.args.handler.now c.loop-step.handler c.step.new.handler c.loop-step.invariant.acts
          (subst (λ (s : Step). GoesOn performs steps (ends s) index mid new c.loop-step.world c.step.new.world c.loop-step.handler c.step.new.handler) c.in-Moved.is c.in_ok-step.ensures.acts);
      active = active_then g.W.World.performs g.H.Handler.steps (λ acts. AllByRecursion (IsOfStream c.args.index) acts × Leaves false c.args.index (connection_of c.args.self.now) acts (connection_of c.loop-step.self) × IsTimed acts)
          (λ acts. AllByRecursion (IsOfStream c.args.index) acts × Leaves (ends_if c.step.result) c.args.index (connection_of c.loop-step.self) acts (connection_of c.step.new.self) × IsTimed acts)
          c.args.self.now.last_activity c.loop-step.self.last_activity c.step.new.self.last_activity c.args.world.now c.loop-step.world c.step.new.world c.args.handler.now c.loop-step.handler c.step.new.handler
          c.loop-step.invariant.acts c.step.ensures.acts c.loop-step.invariant.active c.step.ensures.active;
    }

pub returns-in-Waits-clause-active : goal.returns-in-Waits-clause-active
returns-in-Waits-clause-active g c =
    active_then g.W.World.performs g.H.Handler.steps (λ acts. AllByRecursion (IsOfStream c.args.index) acts × Leaves false c.args.index (connection_of c.args.self.now) acts (connection_of c.loop-step.self) × IsTimed acts)
    (λ acts. AllByRecursion (IsOfStream c.args.index) acts × Leaves (ends_if c.step.result) c.args.index (connection_of c.loop-step.self) acts (connection_of c.step.new.self) × IsTimed acts)
    c.args.self.now.last_activity c.loop-step.self.last_activity c.step.new.self.last_activity c.args.world.now c.loop-step.world c.step.new.world c.args.handler.now c.loop-step.handler c.step.new.handler
    c.loop-step.invariant.acts c.step.ensures.acts c.loop-step.invariant.active c.step.ensures.active

pub returns-in-Closes-clause-active : goal.returns-in-Closes-clause-active
returns-in-Closes-clause-active g c =
    active_then g.W.World.performs g.H.Handler.steps (λ acts. AllByRecursion (IsOfStream c.args.index) acts × Leaves false c.args.index (connection_of c.args.self.now) acts (connection_of c.loop-step.self) × IsTimed acts)
    (λ acts. AllByRecursion (IsOfStream c.args.index) acts × Leaves (ends_if c.step.result) c.args.index (connection_of c.loop-step.self) acts (connection_of c.step.new.self) × IsTimed acts)
    c.args.self.now.last_activity c.loop-step.self.last_activity c.step.new.self.last_activity c.args.world.now c.loop-step.world c.step.new.world c.args.handler.now c.loop-step.handler c.step.new.handler
    c.loop-step.invariant.acts c.step.ensures.acts c.loop-step.invariant.active c.step.ensures.active

pub returns-in_err-step-clause-active : goal.returns-in_err-step-clause-active
returns-in_err-step-clause-active g c =
    active_then g.W.World.performs g.H.Handler.steps (λ acts. AllByRecursion (IsOfStream c.args.index) acts × Leaves false c.args.index (connection_of c.args.self.now) acts (connection_of c.loop-step.self) × IsTimed acts)
    (λ acts. AllByRecursion (IsOfStream c.args.index) acts × Leaves (ends_if c.step.result) c.args.index (connection_of c.loop-step.self) acts (connection_of c.step.new.self) × IsTimed acts)
    c.args.self.now.last_activity c.loop-step.self.last_activity c.step.new.self.last_activity c.args.world.now c.loop-step.world c.step.new.world c.args.handler.now c.loop-step.handler c.step.new.handler
    c.loop-step.invariant.acts c.step.ensures.acts c.loop-step.invariant.active c.step.ensures.active
