use Rattle.std.proofs.Common.{◌≡◌, ◌∙◌, ap, rules, sym, true, false}
use Rattle.std.specs.Prelude.{None, Some, nat_le, option_copied}
use Rattle.std.proofs.lemmas.Bool.{cond-true, cond-false}
use Rattle.stub_cache.specs.internal.Key.{key_of}
use Rattle.stub_cache.specs.internal.Table.{slot_at, stored_at}
use Rattle.stub_cache.proofs.EntriesLaws.{unless_due}
use Rattle.stub_cache.proofs.StayingLaws.{entry_in, find_by_slot}
use Rattle.stub_cache.proofs.cache.table.EntryTable.find_current.Goals as goal

pub returns-in_err-slot : goal.returns-in_err-slot
returns-in_err-slot c =
    let led : slot_at c.args.self.now (key_of c.args.query.now) ≡ None = search rules in
    let none : option_copied c.from_residual.result ≡ None = search rules in
    none ∙ sym (find_by_slot c.args.self.now c.requires c.args.query.now c.args.now None led)

pub returns-in_err-stored : goal.returns-in_err-stored
returns-in_err-stored c =
    let led : slot_at c.args.self.now (key_of c.args.query.now) ≡ Some c.in_ok-slot.slot = search rules in
    let missing : stored_at c.args.self.now c.in_ok-slot.slot ≡ None = search rules in
    let none : option_copied c.from_residual-in_err-stored.result ≡ None = search rules in
    none ∙ sym (find_by_slot c.args.self.now c.requires c.args.query.now c.args.now (Some c.in_ok-slot.slot) led ∙ ap (λ o. unless_due c.args.now (entry_in o)) missing)

pub returns-then-now-entry : goal.returns-then-now-entry
returns-then-now-entry c =
    let led : slot_at c.args.self.now (key_of c.args.query.now) ≡ Some c.in_ok-slot.slot = search rules in
    let at : stored_at c.args.self.now c.in_ok-slot.slot ≡ Some c.in_ok-stored.stored.now = search rules in
    let there : entry_in (stored_at c.args.self.now c.in_ok-slot.slot) ≡ Some c.entry-entry.result.now = ap entry_in at ∙ ap (λ e. Some e) (sym c.entry-entry.ensures) in
    let is : nat_le c.args.now c.entry-entry.result.now.deadline ≡ true = search rules in
    sym (find_by_slot c.args.self.now c.requires c.args.query.now c.args.now (Some c.in_ok-slot.slot) led
    ∙ (ap (unless_due c.args.now) there ∙ cond-true (nat_le c.args.now c.entry-entry.result.now.deadline) _ _ is))

pub returns-else-now-entry : goal.returns-else-now-entry
returns-else-now-entry c =
    let led : slot_at c.args.self.now (key_of c.args.query.now) ≡ Some c.in_ok-slot.slot = search rules in
    let at : stored_at c.args.self.now c.in_ok-slot.slot ≡ Some c.in_ok-stored.stored.now = search rules in
    let there : entry_in (stored_at c.args.self.now c.in_ok-slot.slot) ≡ Some c.entry-entry.result.now = ap entry_in at ∙ ap (λ e. Some e) (sym c.entry-entry.ensures) in
    let is : nat_le c.args.now c.entry-entry.result.now.deadline ≡ false = search rules in
    sym (find_by_slot c.args.self.now c.requires c.args.query.now c.args.now (Some c.in_ok-slot.slot) led
    ∙ (ap (unless_due c.args.now) there ∙ cond-false (nat_le c.args.now c.entry-entry.result.now.deadline) _ _ is))
