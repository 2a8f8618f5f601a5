-- Waiting goes on.
use Rattle.std.proofs.Common.{ℕ}
use Rattle.dns_messages.specs.declared.message.Message.{Message}
use Rattle.stub_client.specs.Handle.{Outcome}
use Rattle.stub_net.specs.Network.{NetworkCalls}
use Rattle.stub_net.specs.Wait.{Awaits}

-- what waiting leads to from the middle, with so many receives left, it leads to from the start
abbrev pub LeadsOn : {N : Type 0} → NetworkCalls N → Message → ℕ → ℕ → N → ℕ → ℕ → N → ℕ → Type 0
LeadsOn {N} calls m deadline left mid dropped all first before =
    (outcome : Outcome) (new : N) (total : ℕ) → Awaits calls m deadline left mid dropped outcome new total
    → Awaits calls m deadline all first before outcome new total
