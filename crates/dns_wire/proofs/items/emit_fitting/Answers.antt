use Rattle.std.proofs.Common.{◌≡◌, ℕ, List, ◌+◌, ◌∷◌, drop, drop-cons, add-one, get_or, refl, ap, sym, ◌∙◌, subst, arith}
use Rattle.dns_wire.specs.Encoder.{state_of, trim_to_offset}
use Rattle.dns_wire.proofs.ItemLaws.{Underway, all_goes_on, all_stops, all_refused}
use Rattle.dns_wire.proofs.items.emit_fitting.Goals as goal

front : {A : Type 0} (xs : List A) (i : ℕ) (x : A) → x ≡ get_or xs i x → drop i xs ≡ get_or xs i x ∷ drop (i + 1) xs → drop i xs ≡ x ∷ drop (i + 1) xs
front xs i x is e = e ∙ ap (λ y. y ∷ drop (i + 1) xs) (sym is)

pub overflow_add-count : goal.overflow_add-count
overflow_add-count g c = omega (arith, c.loop-item.invariant.count_is, c.loop-item-test.true, c.loop-item.auto.item-index-end)

pub loop-item-preserved : goal.loop-item-preserved
loop-item-preserved g c =
    let so_far = c.loop-item.invariant in
    let w = state_of c.loop-item.encoder in
    let cons = front c.args.items.now c.loop-item.item-index c.item-item.result c.item-item.is (rw add-one (drop-cons c.args.items.now c.loop-item.item-index c.item-item.result c.loop-item-test.true)) in
    let here = subst (λ xs. Underway g.T.BinEncodable.pieces (state_of c.args.encoder.now) w c.args.items.now xs c.loop-item.count) cons so_far.underway in
    record {
      underway = all_goes_on g.T.BinEncodable.pieces (state_of c.args.encoder.now) w (state_of c.emit.new.encoder) c.args.items.now (drop (c.loop-item.item-index + 1) c.args.items.now) c.item-item.result c.loop-item.count here c.in-Ok.ensures.emits (c.in-Ok.ensures.writable refl);
      count_is = omega (arith, so_far.count_is);
    }

pub returns-in-Err-MaxBufferSizeExceeded-clause-wrote : goal.returns-in-Err-MaxBufferSizeExceeded-clause-wrote
returns-in-Err-MaxBufferSizeExceeded-clause-wrote g c =
    let so_far = c.loop-item.invariant in
    let w = state_of c.loop-item.encoder in
    let cons = front c.args.items.now c.loop-item.item-index c.item-item.result c.item-item.is (rw add-one (drop-cons c.args.items.now c.loop-item.item-index c.item-item.result c.loop-item-test.true)) in
    let here = subst (λ xs. Underway g.T.BinEncodable.pieces (state_of c.args.encoder.now) w c.args.items.now xs c.loop-item.count) cons so_far.underway in
    let cut = c.trim.ensures ∙ ap trim_to_offset (c.set_offset.ensures ∙ ap (λ (n : ℕ). record (state_of c.emit.new.encoder) { offset = n }) c.offset-start.ensures.value) in
    λ _. (all_stops g.T.BinEncodable.pieces (state_of c.args.encoder.now) w (state_of c.emit.new.encoder) (state_of c.trim.new.self) c.args.items.now (drop (c.loop-item.item-index + 1) c.args.items.now) c.item-item.result c.loop-item.count here (rw c.in-Err-MaxBufferSizeExceeded.field-0-is at c.in-Err-MaxBufferSizeExceeded.ensures.emits) cut).1

pub returns-in-Err-MaxBufferSizeExceeded-clause-at_end : goal.returns-in-Err-MaxBufferSizeExceeded-clause-at_end
returns-in-Err-MaxBufferSizeExceeded-clause-at_end g c =
    let so_far = c.loop-item.invariant in
    let w = state_of c.loop-item.encoder in
    let cons = front c.args.items.now c.loop-item.item-index c.item-item.result c.item-item.is (rw add-one (drop-cons c.args.items.now c.loop-item.item-index c.item-item.result c.loop-item-test.true)) in
    let here = subst (λ xs. Underway g.T.BinEncodable.pieces (state_of c.args.encoder.now) w c.args.items.now xs c.loop-item.count) cons so_far.underway in
    let cut = c.trim.ensures ∙ ap trim_to_offset (c.set_offset.ensures ∙ ap (λ (n : ℕ). record (state_of c.emit.new.encoder) { offset = n }) c.offset-start.ensures.value) in
    λ _. (all_stops g.T.BinEncodable.pieces (state_of c.args.encoder.now) w (state_of c.emit.new.encoder) (state_of c.trim.new.self) c.args.items.now (drop (c.loop-item.item-index + 1) c.args.items.now) c.item-item.result c.loop-item.count here (rw c.in-Err-MaxBufferSizeExceeded.field-0-is at c.in-Err-MaxBufferSizeExceeded.ensures.emits) cut).3

pub returns-in-Err-MaxBufferSizeExceeded-clause-behind : goal.returns-in-Err-MaxBufferSizeExceeded-clause-behind
returns-in-Err-MaxBufferSizeExceeded-clause-behind g c =
    let so_far = c.loop-item.invariant in
    let w = state_of c.loop-item.encoder in
    let cons = front c.args.items.now c.loop-item.item-index c.item-item.result c.item-item.is (rw add-one (drop-cons c.args.items.now c.loop-item.item-index c.item-item.result c.loop-item-test.true)) in
    let here = subst (λ xs. Underway g.T.BinEncodable.pieces (state_of c.args.encoder.now) w c.args.items.now xs c.loop-item.count) cons so_far.underway in
    let cut = c.trim.ensures ∙ ap trim_to_offset (c.set_offset.ensures ∙ ap (λ (n : ℕ). record (state_of c.emit.new.encoder) { offset = n }) c.offset-start.ensures.value) in
    λ _. (all_stops g.T.BinEncodable.pieces (state_of c.args.encoder.now) w (state_of c.emit.new.encoder) (state_of c.trim.new.self) c.args.items.now (drop (c.loop-item.item-index + 1) c.args.items.now) c.item-item.result c.loop-item.count here (rw c.in-Err-MaxBufferSizeExceeded.field-0-is at c.in-Err-MaxBufferSizeExceeded.ensures.emits) cut).4

pub returns-in-Err-clause-back : goal.returns-in-Err-clause-back
returns-in-Err-clause-back g c =
    let so_far = c.loop-item.invariant in
    let w = state_of c.loop-item.encoder in
    all_refused g.T.BinEncodable.pieces (state_of c.args.encoder.now) w (state_of c.emit.new.encoder) c.args.items.now (drop c.loop-item.item-index c.args.items.now) _ c.loop-item.count c.in-Err.error so_far.underway c.in-Err.ensures.emits
