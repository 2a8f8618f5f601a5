use Rattle.std.proofs.Common.{ℕ, List, drop, map}
use Rattle.std.specs.Global.{Vec}
use Rattle.std.specs.List.{fold}
use Rattle.dns_messages.specs.declared.message.Message.{Message}
use Rattle.stub_link.specs.LinkState.{LinkState, deliver}
use Rattle.stub_link.specs.ScriptedLink.{AreRelated, IsRequest, IsServerOf}
use Rattle.stub_link.proofs.Delivering.{RestLeads}
use Rattle.stub_link.proofs.link.server.Server.deliver_all.Given as goal

-- what the deliveries of the rest lead to, those of all lead to
abbrev pub invariant-loop-bytes : goal.invariant-loop-bytes
invariant-loop-bytes l =
    (state : LinkState) (sent : List Message) → IsServerOf l.fn.self state → AreRelated IsRequest (map (λ (b : Vec ℕ). b.items) l.datagrams) sent
    → RestLeads l.self (map (λ (b : Vec ℕ). b.items) (drop l.bytes-index l.datagrams)) (fold (λ (now : LinkState) (m : Message). deliver m now) state sent)
