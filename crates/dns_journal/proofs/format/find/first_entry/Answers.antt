use Rattle.std.proofs.Common.{inl, inr, arith}
use Rattle.dns_journal.proofs.EntryLaws.{number_at, parts_of}
use Rattle.dns_journal.proofs.format.find.first_entry.Goals as goal

pub returns-in-None-clause-none : goal.returns-in-None-clause-none
returns-in-None-clause-none c payload rest begins =
    let p = parts_of c.args.key.now c.args.link payload c.args.bytes.now rest begins in
    let number = number_at c.args.key.now c.args.link _ c.args.bytes.now begins.short p.frame_is in
    elim c.in-None.ensures.none [
      | inl few ↦ omega (arith, few, p.within)
      | inr (inl long) ↦ omega (arith, long, number, begins.short)
      | inr (inr past) ↦ omega (arith, past, number, p.within)
    ]
