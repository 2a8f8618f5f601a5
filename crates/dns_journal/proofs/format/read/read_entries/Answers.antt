use Rattle.std.proofs.Common.{refl, arith, rules}
use Rattle.dns_journal.proofs.EntryLaws.{longer}
use Rattle.dns_journal.proofs.JournalLaws.{read_none, read_more}
use Rattle.dns_journal.proofs.format.read.read_entries.Goals as goal

pub loop-found-init : goal.loop-found-init
loop-found-init c = read_none _ _ _ _ _ c.requires.number (search rules)

pub loop-found-preserved : goal.loop-found-preserved
loop-found-preserved c =
    read_more _ _ _ _ _ _ _ _ _ _ _ _ _ c.loop-found.invariant c.in-Some.ensures.found c.in-Some.ensures.link refl c.in_ok-push_payload.ensures

pub loop-found-smaller : goal.loop-found-smaller
loop-found-smaller c = omega (arith, longer _ _ _ _ _ c.in-Some.ensures.found)

pub overflow_add-place : goal.overflow_add-place
overflow_add-place c = omega (arith, c.requires.fits, c.loop-found.invariant.sum, longer _ _ _ _ _ c.in-Some.ensures.found)

pub overflow_add-place-in-Some : goal.overflow_add-place-in-Some
overflow_add-place-in-Some c = omega (arith, c.requires.fits, c.loop-found.invariant.sum, longer _ _ _ _ _ c.in-Some.ensures.found)
