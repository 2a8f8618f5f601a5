use Rattle.std.proofs.Common.{◌≡◌, drop}
use Rattle.dns_updates.specs.Code.{first_fault_of, prescan_code}
use Rattle.dns_updates.proofs.code.prescan.updates_code.Given as goal

abbrev pub invariant-loop-update : goal.invariant-loop-update
invariant-loop-update l = first_fault_of (prescan_code l.origin) (drop l.update-index l.updates) ≡ first_fault_of (prescan_code l.origin) l.updates
