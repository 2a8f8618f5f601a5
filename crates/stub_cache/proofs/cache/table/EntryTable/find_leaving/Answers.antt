use Rattle.std.proofs.Common.{◌≡◌, ◌<◌, ◌≤◌, ◌∙◌, ap, arith, length, rules, subst}
use Rattle.std.specs.Prelude.{None, Some}
use Rattle.slab.specs.Slab.{slab_len}
use Rattle.stub_cache.specs.internal.Key.{key_of}
use Rattle.stub_cache.specs.internal.Table.{entries_without, slot_at}
use Rattle.stub_cache.proofs.StayingLaws.{due_is_present, evicted_first, evicted_none, no_first, slot_is_taken, stays_all, stays_evicted, stays_known}
use Rattle.stub_cache.proofs.cache.table.EntryTable.find_leaving.Goals as goal

pub returns-in-Some-clause-entries : goal.returns-in-Some-clause-entries
returns-in-Some-clause-entries c =
    λ q is.
    let at : slot_at c.args.self.now c.args.key.now ≡ Some c.in-Some.slot = search rules in
    let led : slot_at c.args.self.now (key_of q) ≡ Some c.in-Some.slot = subst (λ k. slot_at c.args.self.now k ≡ Some c.in-Some.slot) is at in
    stays_known c.args.self.now c.requires q c.args.capacity c.in-Some.slot led

pub returns-in-Some-clause-present : goal.returns-in-Some-clause-present
returns-in-Some-clause-present c =
    let led : slot_at c.args.self.now c.args.key.now ≡ Some c.in-Some.slot = search rules in
    slot_is_taken c.args.self.now c.requires c.args.key.now c.in-Some.slot led

pub returns-then-len-capacity-clause-entries : goal.returns-then-len-capacity-clause-entries
returns-then-len-capacity-clause-entries c =
    λ q is.
    let at : slot_at c.args.self.now c.args.key.now ≡ None = search rules in
    let led : slot_at c.args.self.now (key_of q) ≡ None = subst (λ k. slot_at c.args.self.now k ≡ None) is at in
    let room : slab_len c.args.self.now.slots < c.args.capacity = omega arith in
    stays_all c.args.self.now c.requires q c.args.capacity led room

pub returns-in_err-slot-clause-entries : goal.returns-in_err-slot-clause-entries
returns-in_err-slot-clause-entries c =
    λ q is.
    let at : slot_at c.args.self.now c.args.key.now ≡ None = search rules in
    let led : slot_at c.args.self.now (key_of q) ≡ None = subst (λ k. slot_at c.args.self.now k ≡ None) is at in
    let full : c.args.capacity ≤ slab_len c.args.self.now.slots = omega arith in
    let none : c.from_residual.result ≡ None = search rules in
    let missing : c.first.result ≡ None = search rules in
    let empty = no_first c.first.result (length c.args.self.now.timeline.keys) c.first.ensures.variant.1 missing in
    stays_evicted c.args.self.now c.requires q c.args.capacity c.from_residual.result led full
    (ap (λ o. entries_without o c.args.self.now) none ∙ evicted_none c.args.self.now c.requires empty)

pub returns-clause-entries : goal.returns-clause-entries
returns-clause-entries c =
    λ q is.
    let at : slot_at c.args.self.now c.args.key.now ≡ None = search rules in
    let led : slot_at c.args.self.now (key_of q) ≡ None = subst (λ k. slot_at c.args.self.now k ≡ None) is at in
    let full : c.args.capacity ≤ slab_len c.args.self.now.slots = omega arith in
    stays_evicted c.args.self.now c.requires q c.args.capacity (Some c.in_ok-slot.field-0.now.2) led full
    (evicted_first c.args.self.now c.requires c.in_ok-slot.field-0.now.0 c.in_ok-slot.field-0.now.1 c.in_ok-slot.field-0.now.2 c.in_ok-slot.ensures.member c.in_ok-slot.ensures.least)

pub returns-clause-present : goal.returns-clause-present
returns-clause-present c =
    due_is_present c.args.self.now c.requires c.in_ok-slot.field-0.now.0 c.in_ok-slot.field-0.now.1 c.in_ok-slot.field-0.now.2 c.in_ok-slot.ensures.member
