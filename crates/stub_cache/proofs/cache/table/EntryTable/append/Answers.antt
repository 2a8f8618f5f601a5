use Rattle.std.proofs.Common.{◌≡◌, ◌∙◌, ap, refl, sym}
use Rattle.std.specs.Prelude.{None}
use Rattle.std.specs.List.{list_any}
use Rattle.std.specs.Map.{values_of}
use Rattle.std.specs.BTreeMap as tree
use Rattle.slab.specs.Slab as slab
use Rattle.stub_cache.specs.internal.Table.{by_stamp, due_cmp, stored_at}
use Rattle.stub_cache.proofs.TableLaws.{appended, due_undone, is_appended, kept_in_room, on_failure, put_in_room, undone}
use Rattle.stub_cache.proofs.StayingLaws.{appended_last}
use Rattle.stub_cache.proofs.cache.table.EntryTable.append.Goals as goal

pub returns-in_err-reserve-clause-memory : goal.returns-in_err-reserve-clause-memory
returns-in_err-reserve-clause-memory c =
    on_failure c.from_residual-in_err-reserve.result (ap (λ s. values_of (by_stamp s.slots)) c.reserve.ensures.rest_kept)

pub returns-in_err-reserve-clause-undone : goal.returns-in_err-reserve-clause-undone
returns-in_err-reserve-clause-undone c =
    on_failure c.from_residual-in_err-reserve.result
    (undone c.args.self.now _ c.requires.indexed (ap (λ s. s.slots) c.reserve.ensures.rest_kept) refl (λ deadline stamp slot. refl) refl)

pub returns-in_err-insert-clause-memory : goal.returns-in_err-insert-clause-memory
returns-in_err-insert-clause-memory c =
    on_failure c.from_residual-in_err-insert.result (ap (λ s. values_of (by_stamp s.slots)) c.reserve.ensures.rest_kept)

pub returns-in_err-insert-clause-undone : goal.returns-in_err-insert-clause-undone
returns-in_err-insert-clause-undone c =
    on_failure c.from_residual-in_err-insert.result
    (undone c.args.self.now _ c.requires.indexed (ap (λ s. s.slots) c.reserve.ensures.rest_kept) refl
    (λ deadline stamp slot. ap (list_any (tree.is_at (due_cmp (deadline, stamp, slot)))) c.in_err-insert.ensures.err) refl)

pub returns-in_default-clause-memory : goal.returns-in_default-clause-memory
returns-in_default-clause-memory c = ap (λ s. values_of (by_stamp s.slots)) c.reserve.ensures.rest_kept

pub returns-in_default-clause-undone : goal.returns-in_default-clause-undone
returns-in_default-clause-undone c =
    let free : stored_at c.args.self.now c.vacant_key-slot.result ≡ None =
    sym (ap (λ s. slab.get s c.vacant_key-slot.result) c.reserve.ensures.rest_kept) ∙ c.vacant_key-slot.ensures.vacant in
    undone c.args.self.now _ c.requires.indexed (ap (λ s. s.slots) c.reserve.ensures.rest_kept) c.in_default.ensures.err
    (due_undone c.args.self.now c.insert.new.self c.remove.new.self c.args.entry.deadline c.vacant_key-slot.result c.requires.indexed free
    c.in_ok-insert.ensures.updates c.remove.ensures.updates) refl

pub returns-clause-entries : goal.returns-clause-entries
returns-clause-entries c =
    let free : stored_at c.args.self.now c.vacant_key-slot.result ≡ None =
    sym (ap (λ s. slab.get s c.vacant_key-slot.result) c.reserve.ensures.rest_kept) ∙ c.vacant_key-slot.ensures.vacant in
    let updates = put_in_room c.args.self.now.slots c.reserve.new.self c.insert_reserved.new.self c.reserve.new.self.capacity c.vacant_key-slot.result c.insert_reserved.result
    (c.args.self.now.next_stamp, c.args.entry) c.in_ok-stored.stored c.reserve.ensures.rest_kept
    (c.insert_reserved.ensures.key ∙ sym c.vacant_key-slot.ensures.value) c.in_ok-stored.ensures c.insert_reserved.ensures.updates in
    appended_last c.args.self.now c.insert_reserved.new.self.slots c.vacant_key-slot.result c.args.entry c.requires.indexed free updates.changed updates.others

pub returns-clause-slots : goal.returns-clause-slots
returns-clause-slots c =
    let free : stored_at c.args.self.now c.vacant_key-slot.result ≡ None =
    sym (ap (λ s. slab.get s c.vacant_key-slot.result) c.reserve.ensures.rest_kept) ∙ c.vacant_key-slot.ensures.vacant in
    let updates = put_in_room c.args.self.now.slots c.reserve.new.self c.insert_reserved.new.self c.reserve.new.self.capacity c.vacant_key-slot.result c.insert_reserved.result
    (c.args.self.now.next_stamp, c.args.entry) c.in_ok-stored.stored c.reserve.ensures.rest_kept
    (c.insert_reserved.ensures.key ∙ sym c.vacant_key-slot.ensures.value) c.in_ok-stored.ensures c.insert_reserved.ensures.updates in
    kept_in_room c.args.self.now.slots c.insert_reserved.new.self c.vacant_key-slot.result (c.args.self.now.next_stamp, c.args.entry) free updates

pub returns-clause-indexed : goal.returns-clause-indexed
returns-clause-indexed c =
    let free : stored_at c.args.self.now c.vacant_key-slot.result ≡ None =
    sym (ap (λ s. slab.get s c.vacant_key-slot.result) c.reserve.ensures.rest_kept) ∙ c.vacant_key-slot.ensures.vacant in
    let updates = put_in_room c.args.self.now.slots c.reserve.new.self c.insert_reserved.new.self c.reserve.new.self.capacity c.vacant_key-slot.result c.insert_reserved.result
    (c.args.self.now.next_stamp, c.args.entry) c.in_ok-stored.stored c.reserve.ensures.rest_kept
    (c.insert_reserved.ensures.key ∙ sym c.vacant_key-slot.ensures.value) c.in_ok-stored.ensures c.insert_reserved.ensures.updates in
    appended c.args.self.now _ c.vacant_key-slot.result c.args.entry c.requires.indexed
    (is_appended c.args.self.now _ c.vacant_key-slot.result c.args.entry c.in_ok-key.key.items (c.in_ok-key.ensures.items ∙ c.requires.key) free updates
    c.in-Ok.ensures.updates c.in_ok-insert.ensures.updates refl)
