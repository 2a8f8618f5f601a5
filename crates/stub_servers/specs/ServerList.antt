-- The order in which servers are asked (RFC 1035 section 7.2: a server that failed is not asked again for a while).
use Rattle.std.specs.Prelude.{◌+◌, ◌-◌, ◌++◌, Bool, true, false, not, if◌then◌else◌, List, ℕ, Option, Some, None, drop, filter, length, nat_le, nat_lt, replicate, slice_get, slice_set, take}
use Rattle.std.specs.List.{range_with_len}
use Rattle.stub_config.specs.declared.strategy.ServerOrderingStrategy.{ServerOrderingStrategy}
use Rattle.stub_config.specs.declared.strategy.ServerOrderingStrategy.TheVariants.{QueryStatistics, RoundRobin, UserProvidedOrder}
use Rattle.stub_servers.specs.declared.server.Server.{Server}
use Rattle.stub_servers.specs.Servers.{Servers}

-- whether a strategy asks the servers in turn
abbrev pub is_round_robin : ServerOrderingStrategy → Bool
is_round_robin RoundRobin = true
is_round_robin QueryStatistics = false
is_round_robin UserProvidedOrder = false

-- servers of which none has failed
abbrev pub servers_from : List Server → Bool → Servers
servers_from servers rotates =
    record { servers = servers; failed = replicate (length servers) None; turn = 0; rotates = rotates }

-- whether the last failure of a server, if there was one, is at least 30,000 milliseconds ago
abbrev pub is_fresh : ℕ → Option (Option ℕ) → Bool
is_fresh now (Some (Some moment)) = nat_le 30000 (now - moment)
is_fresh now (Some None) = true
is_fresh now None = true

-- the place of each server, in the order of the configuration, beginning with the server whose turn it is
abbrev pub places : Servers → List ℕ
places list = let all = range_with_len 0 (length list.servers) in drop list.turn all ++ take list.turn all

-- whether the server at a place has not failed lately
abbrev pub is_fresh_at : ℕ → List (Option ℕ) → ℕ → Bool
is_fresh_at now failed place = is_fresh now (slice_get failed place)

-- The order at a moment: the servers that have not failed lately, then those that have, each part in turn.
abbrev pub order_at : ℕ → Servers → List ℕ
order_at now list =
    filter (is_fresh_at now list.failed) (places list)
    ++ filter (λ place. not (is_fresh_at now list.failed place)) (places list)

-- the next order begins one server later, if orders rotate
abbrev pub next_turn : Servers → Servers
next_turn list = record list {
  turn = if list.rotates then (if nat_lt (list.turn + 1) (length list.servers) then list.turn + 1 else 0) else list.turn;
}

-- the last failure of the server at a place, or none
abbrev pub with_failure : ℕ → Option ℕ → Servers → Servers
with_failure place failure list = record list { failed = slice_set list.failed place failure }
