use Rattle.std.proofs.Common.{◌≡◌, ◌<◌, ℕ, length}
use Rattle.api.specs.lookups.Servers.{IsServerAt}
use Rattle.api.proofs.lookups.servers.config_of.Given as goal

-- the places so far have their servers
abbrev pub invariant-loop-place : goal.invariant-loop-place
invariant-loop-place l = record { count_is : length l.found.items ≡ l.place; servers_are : (k : ℕ) → k < length l.found.items → IsServerAt l.servers k l.found.items }
