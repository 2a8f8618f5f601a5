use Rattle.std.proofs.Common.{List, ℕ, rules, sym, subst}
use Rattle.std.specs.Borrow.{Bor}
use Rattle.dns_durable.specs.Draft.{HaveOneMark}
use Rattle.dns_durable.specs.internal.Drafting.IsJoined.{nothing}
use Rattle.dns_durable.proofs.CarryLaws.{joined_first, joined_with, none_of}
use Rattle.dns_durable.proofs.draft.carrying.join.Goals.{then-is_empty-2, else-is_empty-2+in-Some}
use Rattle.dns_durable.proofs.draft.carrying.join.Goals as goal

pub returns-then-is_empty : goal.returns-then-is_empty
returns-then-is_empty c = nothing (none_of c.args.entry.now (search rules))

pub returns : goal.returns
returns c = elim c.if-is_empty-2.branch [
  | then-is_empty-2 w ↦ joined_first c.args.carried.now.items c.args.entry.now c.if-is_empty-2.more.now c.extend_from_slice.new.self.items (none_of c.args.carried.now.items (search rules)) (search rules) (search rules)
  | else-is_empty-2+in-Some w ↦ joined_with c.args.carried.now.items c.args.entry.now c.if-is_empty-2.more.now c.extend_from_slice.new.self.items
      (subst (λ (l : List ℕ). HaveOneMark l c.args.entry.now c.if-is_empty-2.more.now) w.as_slice.ensures.value
      (subst (λ (b : Bor (List ℕ)). HaveOneMark w.as_slice.result.now c.args.entry.now b.now) (sym w.more-is) w.in-Some.ensures)) (search rules)
]
