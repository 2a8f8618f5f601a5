-- What contracts see of a list of servers.
use Rattle.std.specs.Prelude.{Bool, List, ℕ, Option}
use Rattle.stub_servers.specs.declared.server.Server.{Server}

-- The servers in the order of the configuration, the moment at which each of them last failed, in milliseconds, the place with
-- which the next order begins, and whether that place changes.
pub record Servers : Type 0 where
  pub servers : List Server
  pub failed : List (Option ℕ)
  pub turn : ℕ
  pub rotates : Bool
