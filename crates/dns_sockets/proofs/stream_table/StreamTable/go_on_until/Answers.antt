use Rattle.std.proofs.Common.{◌++◌, ◌∷◌, [], Some, refl}
use Rattle.std.proofs.Common.{arith}
use Rattle.std.proofs.lemmas.Grind.{common_steps}
use Rattle.dns_sockets.specs.Trace.{At}
use Rattle.dns_sockets.specs.World.{Clocked}
use Rattle.dns_sockets.proofs.ConnectionLaws.{on_clock, on_then}
use Rattle.dns_sockets.proofs.TraceLaws.{leads_both}
use Rattle.dns_sockets.proofs.stream_table.StreamTable.go_on_until.Goals as goal

pub returns-in_err-now-clause-acts : goal.returns-in_err-now-clause-acts
returns-in_err-now-clause-acts g c =
    let new = c.go_on_next.new.self.slots.items in
    on_then g.W.World.performs g.H.Handler.steps c.args.self.now.slots.items new new c.args.world.now c.go_on_next.new.world c.now.new.self c.args.handler.now c.go_on_next.new.handler c.go_on_next.new.handler c.go_on_next.ensures.acts
    (on_clock g.W.World.performs g.H.Handler.steps new c.go_on_next.new.world c.now.new.self c.go_on_next.new.handler c.now.result c.now.ensures)

pub returns-clause-acts : goal.returns-clause-acts
returns-clause-acts g c =
    let new = c.go_on_next.new.self.slots.items in
    on_then g.W.World.performs g.H.Handler.steps c.args.self.now.slots.items new new c.args.world.now c.go_on_next.new.world c.now.new.self c.args.handler.now c.go_on_next.new.handler c.go_on_next.new.handler c.go_on_next.ensures.acts
    (on_clock g.W.World.performs g.H.Handler.steps new c.go_on_next.new.world c.now.new.self c.go_on_next.new.handler c.now.result c.now.ensures)

pub returns-in_err-go_on_next-clause-acts : goal.returns-in_err-go_on_next-clause-acts
returns-in_err-go_on_next-clause-acts g c = c.go_on_next.ensures.acts

pub returns-clause-over : goal.returns-clause-over
returns-clause-over g c = λ is. (
  grind (arith, common_steps),
  record {
    acts = c.go_on_next.ensures.acts.acts ++ At (Clocked (Some c.in_ok-now.field-0)) ∷ [];
    leads = leads_both g.W.World.performs g.H.Handler.steps c.args.world.now c.go_on_next.new.world c.now.new.self c.args.handler.now c.go_on_next.new.handler c.go_on_next.new.handler
        c.go_on_next.ensures.acts.acts (At (Clocked (Some c.in_ok-now.field-0)) ∷ []) c.go_on_next.ensures.acts.leads (c.now.new.self, (c.in_ok-now.ensures, (refl, refl)));
    holds = (c.go_on_next.ensures.acts.acts, refl);
  },
)
