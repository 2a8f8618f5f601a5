use Rattle.std.proofs.Common.{◌-◌, ◌≤◌}
use Rattle.std.specs.Option.{option_copied}
use Rattle.stub_link.specs.Link.{calls_of, wire}
use Rattle.stub_link.proofs.Waiting.{LeadsOn}
use Rattle.stub_link.proofs.wire_handle.reply.wait.Given as goal

-- What the rest leads to, all leads to; and no failure was forgotten.
abbrev pub invariant-loop-received : goal.invariant-loop-received
invariant-loop-received g l =
    LeadsOn wire (calls_of g.L.Link.sends g.L.Link.receives g.L.Link.streams) l.id (option_copied l.question) (16 - l._received) l.link l.dropped 16 l.fn.link l.fn.dropped
    × (g.L.Link.failure_count l.fn.link ≤ g.L.Link.failure_count l.link)
