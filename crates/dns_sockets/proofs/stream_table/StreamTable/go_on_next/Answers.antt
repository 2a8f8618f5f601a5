use Rattle.std.proofs.Common.{List, Option, ap, subst}
use Rattle.dns_sockets.specs.declared.stream.Stream.{Stream}
use Rattle.dns_sockets.specs.declared.stream_table.StreamTable.{StreamTable}
use Rattle.dns_sockets.proofs.ConnectionLaws.{OnStreams}
use Rattle.dns_sockets.proofs.stream_table.StreamTable.go_on_next.Goals as goal
use Rattle.dns_sockets.proofs.stream_table.StreamTable.go_on_next.Goals.{then-self-len, else-self-len}

pub returns-clause-acts : goal.returns-clause-acts
returns-clause-acts g c = elim c.if-self-len.branch [
  | then-self-len w ↦
      subst (λ (old : List (Option Stream)). OnStreams g.W.World.performs g.H.Handler.steps c.args.world.now c.args.handler.now c.go_on_at.new.world c.go_on_at.new.handler old c.go_on_at.new.self.slots.items)
      (ap (λ (table : StreamTable). table.slots.items) w.self-is) c.go_on_at.ensures.acts
  | else-self-len w ↦
      subst (λ (old : List (Option Stream)). OnStreams g.W.World.performs g.H.Handler.steps c.args.world.now c.args.handler.now c.go_on_at.new.world c.go_on_at.new.handler old c.go_on_at.new.self.slots.items)
      (ap (λ (table : StreamTable). table.slots.items) w.self-is) c.go_on_at.ensures.acts
]
