use Rattle.std.proofs.Common.{◌≡◌, ◌∙◌, ℕ, List, ◌≤◌, refl, sym, ap, length, arith, length-take, nat_lt, take}
use Rattle.std.specs.Prelude.{filter}
use Rattle.dns_wire.specs.Suffixes.{suffixes_before}
use Rattle.dns_wire.specs.internal.Suffixes.{suffixes_of, AreStoredFrom}
use Rattle.dns_wire.specs.declared.suffixes.Entry.{Entry}
use Rattle.dns_wire.proofs.SuffixLaws.{all_weaker, suffixes_before-all, suffixes_before-behind}
use Rattle.dns_wire.proofs.StoredLaws.{stored-later, stored-filter, suffixes_of-take, suffixes_of-before}
use Rattle.dns_wire.proofs.IndexLaws.{store-linked}
use Rattle.dns_wire.proofs.suffixes.Suffixes.forget_from.Goals as goal

pub returns-then-self-offset : goal.returns-then-self-offset
returns-then-self-offset c =
    rw (← c.self.view_is) (sym (suffixes_before-all c.args.offset _ (all_weaker (λ s lt. omega (arith, lt, c.if-self-offset.true)) _ c.self.invariant.below)))

pub end_of_last-end-requires : goal.end_of_last-end-requires
end_of_last-end-requires c =
    rw (c.as_slice.ensures.value, c.retain_before.ensures, c.len.ensures, c.self.inside.stored.ok.0)
    (stored-filter (λ e. nat_lt e.offset c.args.offset) 0 _ c.self.inside.entries.items c.self.invariant.in_order)

-- the entries that stay have the suffixes that stay
kept_suffixes : (stored : List ℕ) (es kept : List Entry) (end place : ℕ) → kept ≡ filter (λ e. nat_lt e.offset place) es → end ≤ length stored → AreStoredFrom 0 end kept
    → suffixes_of (take end stored) kept ≡ suffixes_before place (suffixes_of stored es)
kept_suffixes stored es kept end place is within are =
    suffixes_of-take 0 end stored kept (stored-later 0 end _ kept (omega (arith, within, length-take end stored)) are) ∙ ap (suffixes_of stored) is ∙ suffixes_of-before place stored es

pub invariant_of-self : goal.invariant_of-self
invariant_of-self c =
    let within : c.end_of_last-end.result ≤ length c.self.inside.stored.items = omega (arith, c.end_of_last-end.ensures.within, c.len.ensures, c.self.inside.stored.ok.0) in
    let kept = kept_suffixes c.self.inside.stored.items c.self.inside.entries.items c.retain_before.new.entries.items c.end_of_last-end.result c.args.offset c.retain_before.ensures within
    (rw c.as_slice.ensures.value at c.end_of_last-end.ensures.stored) in
    let kept_now : suffixes_of c.truncate.new.self.items c.retain_before.new.entries.items ≡ suffixes_before c.args.offset (suffixes_of c.self.inside.stored.items c.self.inside.entries.items) =
    rw c.truncate.ensures.items kept in
    store-linked c.truncate.new.self.items c.retain_before.new.entries.items c.link_all.new.entries.items c.link_all.new.heads _ c.args.offset
    (rw c.as_slice-2.ensures.value at c.link_all.ensures.stored) (rw c.as_slice-2.ensures.value at c.link_all.ensures.same) refl (rw c.as_slice-2.ensures.value at c.link_all.ensures.indexed)
    (rw kept_now (suffixes_before-behind c.args.offset (suffixes_of c.self.inside.stored.items c.self.inside.entries.items)))

pub returns : goal.returns
returns c =
    let within : c.end_of_last-end.result ≤ length c.self.inside.stored.items = omega (arith, c.end_of_last-end.ensures.within, c.len.ensures, c.self.inside.stored.ok.0) in
    let linked : suffixes_of c.truncate.new.self.items c.link_all.new.entries.items ≡ suffixes_of c.truncate.new.self.items c.retain_before.new.entries.items =
    rw c.as_slice-2.ensures.value at c.link_all.ensures.same in
    rw (← c.self.view_is)
    (linked ∙ rw c.truncate.ensures.items
    (kept_suffixes c.self.inside.stored.items c.self.inside.entries.items c.retain_before.new.entries.items c.end_of_last-end.result c.args.offset c.retain_before.ensures within
    (rw c.as_slice.ensures.value at c.end_of_last-end.ensures.stored)))
