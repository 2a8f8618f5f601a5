use Rattle.std.proofs.Common.{◌≡◌, ℕ, List, get_or, ◌++◌, ◌∷◌, ◌∙◌, ap, arith, length, rules, subst, sym}
use Rattle.std.specs.Prelude.{None, Some, map}
use Rattle.std.specs.Ordering.{nat_cmp}
use Rattle.std.specs.declared.cmp.Ordering.TheVariants.{Less}
use Rattle.std.specs.BTreeMap as tree
use Rattle.std.specs.Map.{keys_of}
use Rattle.std.specs.List.Sorted.{IsStrictlySortedBy}
use Rattle.std.proofs.lemmas.Cmp.{nat_cmp_total}
use Rattle.std.proofs.lemmas.List.{length-map}
use Rattle.std.proofs.lemmas.Map.Iter.{btree_map_turn, rest_more, rest_so_far}
use Rattle.stub_cache.specs.internal.Key.{key_of}
use Rattle.stub_cache.specs.internal.Table.{IsIndexed, entries_of, slot_at, stamped}
use Rattle.stub_cache.specs.declared.cache.entry.Entry.{Entry}
use Rattle.stub_cache.proofs.StampLaws.{by_stamp_ordered, found}
use Rattle.stub_cache.proofs.StayingLaws.{copied_front, copied_more, copied_number, next_unknown}
use Rattle.stub_cache.proofs.cache.table.EntryTable.renumber.Goals as goal

pub loop-stamp-preserved : goal.loop-stamp-preserved
loop-stamp-preserved c =
    let same : c.in_ok-copies.copies.entries ≡ stamped c.args.self.now = c.in_ok-copies.ensures in
    let ordered : tree.IsOrdered nat_cmp c.in_ok-copies.copies =
    subst (λ (es : List (ℕ × Entry)). IsStrictlySortedBy nat_cmp (keys_of es)) (sym same) (by_stamp_ordered c.args.self.now.slots.slots) in
    let start : c.into_iter-stamp-iterator.result ≡ c.in_ok-copies.copies.entries = search rules in
    let shows = λ (p : ℕ × Entry). p in
    let turn = btree_map_turn shows c.loop-stamp.yielded c.into_iter-stamp-iterator.result c.loop-stamp._stamp-iterator c.next.new.self c.next.result (c.in-Some._stamp, c.in-Some.entry)
    c.loop-stamp.yielded_by c.in-Some.is c.next.ensures.steps nat_cmp_total c.in_ok-copies.copies start ordered in
    let first : c.loop-stamp._stamp-iterator ≡ (c.in-Some._stamp, c.in-Some.entry) ∷ c.next.new.self =
    rest_more shows c.loop-stamp._stamp-iterator c.next.new.self c.next.result (c.in-Some._stamp, c.in-Some.entry) c.in-Some.is c.next.ensures.steps in
    let parts : stamped c.args.self.now ≡ map shows c.loop-stamp.yielded ++ c.loop-stamp._stamp-iterator =
    sym same ∙ (sym start ∙ rest_so_far shows c.loop-stamp.yielded c.into_iter-stamp-iterator.result c.loop-stamp._stamp-iterator c.loop-stamp.yielded_by) in
    let copied = copied_front (entries_of c.loop-stamp.renumbered) (stamped c.args.self.now) (map shows c.loop-stamp.yielded) c.loop-stamp._stamp-iterator c.loop-stamp.invariant.whole parts in
    let at : found c.in-Some._stamp (stamped c.args.self.now) ≡ Some c.in-Some.entry = ap (found c.in-Some._stamp) (sym same) ∙ turn.1 in
    let unknown : slot_at c.loop-stamp.renumbered (key_of c.in-Some.entry.question) ≡ None =
    next_unknown c.args.self.now c.loop-stamp.renumbered c.in-Some.entry c.in-Some._stamp (length (map shows c.loop-stamp.yielded)) c.requires c.loop-stamp.invariant.indexed copied at
    (λ i d h. subst (λ (es : List (ℕ × Entry)). nat_cmp (get_or (keys_of es) i d) c.in-Some._stamp ≡ Less) same (turn.2 i d (omega (arith, h, length-map c.loop-stamp.yielded shows)))) in
    record {
      indexed = subst (λ o. IsIndexed o c.append.new.self) unknown c.in_ok-append.ensures.indexed;
      whole = copied_more (stamped c.loop-stamp.renumbered) (stamped c.append.new.self) c.loop-stamp.renumbered.next_stamp c.in-Some._stamp c.in-Some.entry
          c.loop-stamp._stamp-iterator c.next.new.self (entries_of c.args.self.now) c.loop-stamp.invariant.whole first c.in_ok-append.ensures.entries;
      numbers = c.in_ok-append.ensures.next_stamp
          ∙ copied_number (stamped c.loop-stamp.renumbered) (stamped c.append.new.self) c.loop-stamp.renumbered.next_stamp c.in-Some.entry c.loop-stamp.invariant.numbers c.in_ok-append.ensures.entries;
    }
