use Rattle.std.proofs.Common.{◌≡◌, drop, List, ℕ}
use Rattle.std.specs.List.{list_any}
use Rattle.dns_names.specs.Name.{DomainName}
use Rattle.stub_hosts.specs.Hosts.{is_address_of}
use Rattle.stub_hosts.specs.internal.Hosts.{AddsName, without_keys}
use Rattle.stub_hosts.proofs.hosts.address_index.AddressIndex.add_each.Given as goal

-- what adds the name for the records that are left adds it for all
abbrev pub invariant-loop-record : goal.invariant-loop-record
invariant-loop-record l =
    ((new : List (List ℕ × DomainName)) → AddsName l.name (λ a. list_any (is_address_of a) (drop l.record-index l.records)) l.self new
    → AddsName l.name (λ a. list_any (is_address_of a) l.records) l.fn.self new)
    × (without_keys l.added.items l.self ≡ without_keys l.fn.added.items l.fn.self)
