use Rattle.std.proofs.Common.{List, refl, subst}
use Rattle.std.specs.List.{list_any}
use Rattle.dns_records.specs.Record.{Record}
use Rattle.stub_hosts.specs.Hosts.{fresh, is_address_of}
use Rattle.stub_hosts.specs.internal.Hosts.{AddsName}
use Rattle.stub_hosts.proofs.EntryLaws.{index_with_entry}
use Rattle.stub_hosts.proofs.hosts.table.HostTable.insert.Goals as goal

pub invariant_of-self-in-Ok : goal.invariant_of-self-in-Ok
invariant_of-self-in-Ok c =
    let own = c.in_ok-own.own in
    let old = c.self.inside in
    index_with_entry c.args.name own (fresh c.args.name c.args.record_type c.args.now) c.args.lookup old.entries c.join.new.self old.addresses c.add_all.new.self
    (λ a. refl) c.in_ok-own.ensures.order c.in_ok-own.ensures.own c.self.invariant
    (subst (λ (rs : List Record). AddsName own (λ a. list_any (is_address_of a) rs) old.addresses c.add_all.new.self) c.answers.ensures c.in_ok-added.ensures.ok)
    c.in-Ok.ensures.ok
