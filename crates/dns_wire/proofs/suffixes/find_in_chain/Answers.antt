use Rattle.std.proofs.Common.{◌-◌, arith, ◌∙◌}
use Rattle.std.proofs.lemmas.Option.{slice_get-get_or}
use Rattle.dns_wire.proofs.StoredLaws.{stored-at}
use Rattle.dns_wire.proofs.IndexLaws.{turn}
use Rattle.dns_wire.proofs.suffixes.find_in_chain.Goals as goal

pub offset_or-found-requires-clause-order : goal.offset_or-found-requires-clause-order
offset_or-found-requires-clause-order c = (stored-at 0 _ _ _ _ c.requires.stored (slice_get-get_or c.args.entries.now (c.loop-link.link - 1) _ (omega (arith, c.loop-link.invariant.within)))).0

pub offset_or-found-requires-clause-within : goal.offset_or-found-requires-clause-within
offset_or-found-requires-clause-within c = (stored-at 0 _ _ _ _ c.requires.stored (slice_get-get_or c.args.entries.now (c.loop-link.link - 1) _ (omega (arith, c.loop-link.invariant.within)))).1

pub loop-link-smaller : goal.loop-link-smaller
loop-link-smaller c =
    (turn c.args.stored.now c.args.entries.now c.loop-link.link (c.loop-link.link - 1) _ c.args.bytes.now c.loop-link.found (omega arith) (omega (arith, c.loop-link.invariant.within))
    (slice_get-get_or c.args.entries.now (c.loop-link.link - 1) _ (omega (arith, c.loop-link.invariant.within))) c.requires.chained c.loop-link.invariant.linked).smaller

pub loop-link-preserved : goal.loop-link-preserved
loop-link-preserved c =
    let t = turn c.args.stored.now c.args.entries.now c.loop-link.link (c.loop-link.link - 1) _ c.args.bytes.now c.loop-link.found (omega arith) (omega (arith, c.loop-link.invariant.within))
    (slice_get-get_or c.args.entries.now (c.loop-link.link - 1) _ (omega (arith, c.loop-link.invariant.within))) c.requires.chained c.loop-link.invariant.linked in
    record {
      finds = rw c.offset_or-found.ensures (t.finds ∙ c.loop-link.invariant.finds);
      within = omega (arith, t.smaller, c.loop-link.invariant.within);
      linked = t.linked;
    }
