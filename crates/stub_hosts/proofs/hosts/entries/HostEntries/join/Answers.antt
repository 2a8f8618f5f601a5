use Rattle.std.proofs.Common.{refl, ap, sym, subst, ◌∙◌}
use Rattle.std.specs.BTreeMap.{is_at, insert_entry}
use Rattle.std.specs.Map.{values_of, set_value}
use Rattle.std.proofs.lemmas.Result.{on_ok_weaker, on_err_weaker}
use Rattle.stub_lookup.specs.Lookup.{joined}
use Rattle.stub_hosts.specs.Hosts.{entry, fresh, with_entry}
use Rattle.stub_hosts.specs.internal.HostKeys.{key_cmp}
use Rattle.stub_hosts.specs.internal.Hosts.{AreKeyed}
use Rattle.stub_hosts.specs.declared.hosts.table.HostEntry.{HostEntry}
use Rattle.stub_hosts.proofs.EntryLaws.{entry_inserted, entry_joined, keyed_written, written_same, sound}
use Rattle.stub_hosts.proofs.hosts.entries.HostEntries.join.Goals as goal

pub invariant_of-self : goal.invariant_of-self
invariant_of-self c =
    let own : HostEntry = c.in-Some.entry.now in
    let new : HostEntry = record { name = own.name; lookup = c.join.new.self } in
    let after = c.get_mut.follows.holds new in (
      subst AreKeyed (sym after.0) (keyed_written (is_at (key_cmp c.args.key)) own new c.self.inside.entries.entries refl c.self.invariant.0 (sym c.in-Some.ensures.value)),
      after.4,
    )

pub invariant_of-self-in-None : goal.invariant_of-self-in-None
invariant_of-self-in-None c =
    let new : HostEntry = entry c.args.name (joined (fresh c.args.name c.args.record_type c.args.now) c.args.lookup) in
    sound c.args.key c.args.name c.requires.key c.requires.is_fqdn c.insert.result new c.self.inside.entries.entries c.insert.new.entries.entries refl
    c.self.invariant.0 c.self.invariant.1 (sym c.in-None.ensures.value)
    (on_ok_weaker c.insert.result (λ is. is ∙ ap (λ m. insert_entry key_cmp m.entries c.args.key new) c.get_mut.follows.holds-at-none) c.insert.ensures.ok)
    (on_err_weaker c.insert.result (λ same. same ∙ ap (λ m. m.entries) c.get_mut.follows.holds-at-none) c.insert.ensures.err)
    c.insert.ensures.ordered

pub returns-in-Some-clause-ok : goal.returns-in-Some-clause-ok
returns-in-Some-clause-ok c =
    let own : HostEntry = c.in-Some.entry.now in
    let new : HostEntry = record { name = own.name; lookup = c.join.new.self } in
    let after = c.get_mut.follows.holds new in
    let first = fresh c.args.name c.args.record_type c.args.now in
    on_ok_weaker c.join.result
    (λ is. ap values_of after.0
    ∙ entry_joined c.args.key c.args.name c.requires.key c.requires.is_fqdn first c.args.lookup c.self.inside.entries.entries own new
    c.self.invariant.0 c.self.invariant.1 (ap (entry own.name) is) (sym c.in-Some.ensures.value)
    ∙ ap (with_entry c.args.name first c.args.lookup) c.self.view_is)
    c.join.ensures.ok

pub returns-in-Some-clause-err : goal.returns-in-Some-clause-err
returns-in-Some-clause-err c =
    let own : HostEntry = c.in-Some.entry.now in
    let new : HostEntry = record { name = own.name; lookup = c.join.new.self } in
    let after = c.get_mut.follows.holds new in
    on_err_weaker c.join.result
    (λ same. ap values_of (after.0 ∙ ap (λ lookup. set_value (is_at (key_cmp c.args.key)) c.self.inside.entries.entries (entry own.name lookup)) same
    ∙ written_same (is_at (key_cmp c.args.key)) own c.self.inside.entries.entries (sym c.in-Some.ensures.value))
    ∙ c.self.view_is)
    c.join.ensures.err

pub returns-in-None-clause-ok : goal.returns-in-None-clause-ok
returns-in-None-clause-ok c =
    let first = fresh c.args.name c.args.record_type c.args.now in
    on_ok_weaker c.insert.result
    (λ is. ap values_of (is ∙ ap (λ m. insert_entry key_cmp m.entries c.args.key (entry c.args.name (joined first c.args.lookup))) c.get_mut.follows.holds-at-none)
    ∙ entry_inserted c.args.key c.args.name c.requires.key c.requires.is_fqdn first c.args.lookup c.self.inside.entries.entries c.self.invariant.0 (sym c.in-None.ensures.value)
    ∙ ap (with_entry c.args.name first c.args.lookup) c.self.view_is)
    c.insert.ensures.ok
