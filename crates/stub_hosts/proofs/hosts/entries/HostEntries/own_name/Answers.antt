use Rattle.std.proofs.Common.{ap, sym, subst, ◌∙◌}
use Rattle.std.specs.BTreeMap.{is_at}
use Rattle.std.proofs.lemmas.Result.{IfOk-weaker}
use Rattle.stub_hosts.specs.internal.HostKeys.{key_cmp}
use Rattle.stub_hosts.specs.internal.Hosts.{own_name, AreInOrder}
use Rattle.stub_hosts.proofs.EntryLaws.{own_if_found, own_if_absent, fqdn_if_found, entries_in_order}
use Rattle.stub_hosts.proofs.hosts.entries.HostEntries.own_name.Goals as goal

pub returns-in-Some-clause-own : goal.returns-in-Some-clause-own
returns-in-Some-clause-own c =
    IfOk-weaker c.clone.result _ _
    (λ own is. is ∙ sym (own_if_found c.args.key.now c.args.name.now c.requires.key c.requires.is_fqdn c.self.inside.entries.entries c.in-Some.entry.now
    c.self.invariant.0 c.self.invariant.1 (sym c.in-Some.ensures.value)) ∙ ap (own_name c.args.name.now) c.self.view_is)
    c.clone.ensures.ok

pub returns-in-Some-clause-is_fqdn : goal.returns-in-Some-clause-is_fqdn
returns-in-Some-clause-is_fqdn c =
    IfOk-weaker c.clone.result _ _
    (λ own is. ap (λ n. n.is_fqdn) is ∙ fqdn_if_found (is_at (key_cmp c.args.key.now)) c.self.inside.entries.entries c.in-Some.entry.now c.self.invariant.0 (sym c.in-Some.ensures.value))
    c.clone.ensures.ok

pub returns-in-Some-clause-order : goal.returns-in-Some-clause-order
returns-in-Some-clause-order c =
    subst AreInOrder c.self.view_is (entries_in_order c.self.inside.entries.entries c.self.invariant.0 c.self.invariant.1)

pub returns-in-None-clause-own : goal.returns-in-None-clause-own
returns-in-None-clause-own c =
    IfOk-weaker c.clone-in-None.result _ _
    (λ own is. is ∙ sym (own_if_absent c.args.key.now c.args.name.now c.requires.key c.requires.is_fqdn c.self.inside.entries.entries
    c.self.invariant.0 (sym c.in-None.ensures.value)) ∙ ap (own_name c.args.name.now) c.self.view_is)
    c.clone-in-None.ensures.ok

pub returns-in-None-clause-order : goal.returns-in-None-clause-order
returns-in-None-clause-order c =
    subst AreInOrder c.self.view_is (entries_in_order c.self.inside.entries.entries c.self.invariant.0 c.self.invariant.1)
