use Rattle.std.proofs.Common.{ℕ, ◌+◌, ◌<◌, ◌≤◌, List, subst, ◌∙◌, arith}
use Rattle.std.proofs.lemmas.Result.{err_from_is_err_and}
use Rattle.dns_data.specs.Wire.{NoneAt, no_item_there}
use Rattle.dns_data.proofs.ItemLaws.{reads_on-next, reads_on-end}
use Rattle.dns_data.proofs.wire.read_items.Goals as goal

pub returns-in_err-item-clause-refused : goal.returns-in_err-item-clause-refused
returns-in_err-item-clause-refused g c =
    let p = err_from_is_err_and c.from_residual.result c.from_residual.ensures.1 in
    let old = c.args.decoder.now in
    let now = c.loop-alloc.decoder in
    let inv = c.loop-alloc.invariant in
    let less : now.index < old.index + c.args.len = omega (arith, c.loop-alloc-test.true, c.index.ensures.value, inv.start_is, inv.so_far.onward) in
    rw (p.1, p.2) (λ other.
    let refused = c.in_err-item.ensures.refused other in
    let none = subst (λ (xs : List ℕ). NoneAt (g.T.Item.ItemAt xs) now.index) inv.bytes refused.1 in
    (refused.0, inv.so_far.refuses (no_item_there less none)))

pub loop-alloc-preserved : goal.loop-alloc-preserved
loop-alloc-preserved g c =
    let old = c.args.decoder.now in
    let now = c.loop-alloc.decoder in
    let new = c.read_item.new.decoder in
    let inv = c.loop-alloc.invariant in
    let less : now.index < old.index + c.args.len = omega (arith, c.loop-alloc-test.true, c.index.ensures.value, inv.start_is, inv.so_far.onward) in
    let there = subst (λ (xs : List ℕ). g.T.Item.ItemAt xs now.index c.in_ok-item.item new.index) inv.bytes c.in_ok-item.ensures.read in
    let ahead : now.index ≤ new.index = omega (arith, c.in_ok-item.ensures.onward) in
    record {
      bytes = c.in_ok-item.ensures.bytes ∙ inv.bytes;
      start_is = inv.start_is;
      so_far = rw c.in_ok-push.ensures.items (reads_on-next (g.T.Item.ItemAt old.bytes) (old.index + c.args.len) old.index now.index new.index c.loop-alloc.items.items c.in_ok-item.item inv.so_far less there ahead);
    }

pub returns-clause-read : goal.returns-clause-read
returns-clause-read g c =
    let old = c.args.decoder.now in
    let now = c.loop-alloc.decoder in
    let inv = c.loop-alloc.invariant in
    reads_on-end (g.T.Item.ItemAt old.bytes) (old.index + c.args.len) old.index now.index c.loop-alloc.items.items inv.so_far (omega (arith, c.loop-alloc-test.false, c.index.ensures.value, inv.start_is, inv.so_far.onward))
