-- What reading a part of a hosts file inserts.
use Rattle.std.specs.Prelude.{◌≡◌, ℕ, List, [], ◌++◌, Result, OnOk}
use Rattle.std.specs.declared.alloc.AllocError.{AllocError}
use Rattle.stub_hosts.specs.HostsFile.{Host}
use Rattle.stub_hosts.specs.Hosts.{HostsContent, with_hosts}

-- a prefix of the hosts of which `Are` holds is inserted, and all of them unless memory runs out
pub record InsertsHosts (Are : List Host → Type 0) (now : ℕ) (old new : HostsContent) (result : Result (Unit {0}) AllocError)
    : Type 0 where
  pub hosts : List Host
  pub unread : List Host
  pub are : Are (hosts ++ unread)
  pub inserted : new ≡ with_hosts now old hosts
  pub all : OnOk result (unread ≡ [])
