use Rattle.std.proofs.Common.{◌≡◌, length, refl, ◌∙◌, arith}
use Rattle.dns_wire.proofs.IndexLaws.{indexed-none, get_or-replicate_zero}
use Rattle.dns_wire.proofs.suffixes.link_all.Goals as goal

pub loop-at-init : goal.loop-at-init
loop-at-init c = record {
  in_order = c.requires.stored;
  same = refl;
  entries = refl;
  indexed = indexed-none _ _ _ (get_or-replicate_zero 16);
}

pub link-requires-clause-stored : goal.link-requires-clause-stored
link-requires-clause-stored c = c.loop-at.invariant.in_order

pub link-requires-clause-indexed : goal.link-requires-clause-indexed
link-requires-clause-indexed c = rw c.loop-at.invariant.same c.loop-at.invariant.indexed

pub loop-at-preserved : goal.loop-at-preserved
loop-at-preserved c = record {
  in_order = c.link.ensures.stored;
  same = c.link.ensures.same ∙ c.loop-at.invariant.same;
  entries = c.link.ensures.entries ∙ c.loop-at.invariant.entries;
  indexed = rw c.loop-at.invariant.same at c.link.ensures.indexed;
}

pub returns-clause-stored : goal.returns-clause-stored
returns-clause-stored c = c.loop-at.invariant.in_order

pub returns-clause-same : goal.returns-clause-same
returns-clause-same c = c.loop-at.invariant.same

pub returns-clause-indexed : goal.returns-clause-indexed
returns-clause-indexed c =
    let all : c.loop-at.at ≡ length c.loop-at.entries.items = omega (arith, c.loop-at-test.false, c.len-at-end.ensures, c.args.entries.now.ok.0, c.loop-at.invariant.entries) in
    rw all at c.loop-at.invariant.indexed
