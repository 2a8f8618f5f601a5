use Rattle.std.proofs.Common.{◌≡◌, ◌<◌, ◌-◌, ℕ, get_or, length, [], ap, sym, subst, ◌∙◌, arith, Some, None, List}
use Rattle.std.specs.Prelude.{slice_get, slice_range}
use Rattle.std.proofs.lemmas.Result.{on_ok_weaker, on_err_weaker, err_from_is_err_and}
use Rattle.dns_wire.specs.Encoder.{Suffix, EncoderState, state_of, place_of, remember, trim_to_offset, CanRollBack}
use Rattle.dns_wire.specs.Encodable.{position_of}
use Rattle.dns_wire.specs.Writing.{labels_form}
use Rattle.dns_wire.proofs.SuffixLaws.{remember-found}
use Rattle.dns_names.proofs.WireLaws.{slice_get_or}
use Rattle.dns_names.proofs.EmitLaws.{reach-labels, tried-only_labels}
use Rattle.dns_names.proofs.SeekLaws.{begins, place_within, place_next, len_here, place_in, at_end, takes_back_trimmed, next, points, pointer_end}
use Rattle.dns_names.proofs.name.Name.emit_compressed.Goals as goal
use Rattle.dns_names.proofs.name.Name.emit_compressed.Goals.{After-emit_u16}

pub returns-in_err-emit_labels-clause-full : goal.returns-in_err-emit_labels-clause-full
returns-in_err-emit_labels-clause-full c =
    let p = err_from_is_err_and c.from_residual.result c.from_residual.ensures.1 in
    λ e. omega (arith, c.in_err-emit_labels.ensures.emits.full (cc (p.1, p.2, e)), reach-labels (position_of (state_of c.args.encoder.now)) c.args.self.now.labels)

pub returns-in_err-emit_labels-clause-attempts : goal.returns-in_err-emit_labels-clause-attempts
returns-in_err-emit_labels-clause-attempts c =
    let p = err_from_is_err_and c.from_residual.result c.from_residual.ensures.1 in
    λ e. c.in_err-emit_labels.ensures.emits.tries (cc (p.1, p.2, e)) ∙ tried-only_labels c.args.encoder.now.max_size (position_of (state_of c.args.encoder.now)) c.args.self.now.labels

pub loop-index-init : goal.loop-index-init
loop-index-init c =
    let place_is = c.offset-start.ensures.value in
    record {
      seeking = rw place_is (begins (state_of c.args.encoder.now) (state_of c.emit_labels.new.encoder) c.args.self.now.labels c.requires c.in_ok-emit_labels.ensures.emits.ok);
      end_is = c.offset-end.ensures.value;
    }

pub find_or_store_label_pointer-requires-clause-order : goal.find_or_store_label_pointer-requires-clause-order
find_or_store_label_pointer-requires-clause-order c = omega (arith, place_within c.requires c.loop-index.invariant.seeking, c.loop-index.invariant.end_is)

pub set_offset-requires : goal.set_offset-requires
set_offset-requires c = omega (arith, place_within c.requires c.loop-index.invariant.seeking, at_end c.requires c.loop-index.invariant.seeking, ap (λ (v : EncoderState). length v.bytes) c.in_ok-target.ensures.ok)

-- ---- past a label

pub bounds-wire-place : goal.bounds-wire-place
bounds-wire-place c =
    let lt : c.loop-index.index < length c.args.self.now.labels = omega (arith, c.loop-index-test.true, c.label_count-index-end.ensures.value) in
    omega (arith, place_in c.requires c.loop-index.invariant.seeking lt, c.offset-start.ensures.value, ap (λ (xs : List ℕ). length xs) c.wire-wire.ensures.form)

pub overflow_add-place-in-loop-index : goal.overflow_add-place-in-loop-index
overflow_add-place-in-loop-index c =
    let labels = c.args.self.now.labels in
    let lt : c.loop-index.index < length labels = omega (arith, c.loop-index-test.true, c.label_count-index-end.ensures.value) in
    let label = get_or labels c.loop-index.index [] in
    let len : get_or c.wire-wire.result.now (c.loop-index.place - c.offset-start.result) 0 ≡ length label =
    ap (λ (xs : List ℕ). get_or xs (c.loop-index.place - c.offset-start.result) 0) c.wire-wire.ensures.form
    ∙ ap (λ (n : ℕ). get_or (labels_form labels) (c.loop-index.place - n) 0) c.offset-start.ensures.value ∙ len_here c.requires c.loop-index.invariant.seeking lt in
    let on = place_next c.requires c.loop-index.invariant.seeking label (slice_get_or labels c.loop-index.index lt) in
    omega (arith, on, len, c.loop-index.invariant.end_is, c.offset-end.type_inv)

pub loop-index-preserved : goal.loop-index-preserved
loop-index-preserved c =
    let w = state_of c.loop-index.encoder in
    let so_far = c.loop-index.invariant in
    let labels = c.args.self.now.labels in
    let lt : c.loop-index.index < length labels = omega (arith, c.loop-index-test.true, c.label_count-index-end.ensures.value) in
    let label = get_or labels c.loop-index.index [] in
    let len : get_or c.wire-wire.result.now (c.loop-index.place - c.offset-start.result) 0 ≡ length label =
    ap (λ (xs : List ℕ). get_or xs (c.loop-index.place - c.offset-start.result) 0) c.wire-wire.ensures.form
    ∙ ap (λ (n : ℕ). get_or (labels_form labels) (c.loop-index.place - n) 0) c.offset-start.ensures.value ∙ len_here c.requires so_far.seeking lt in
    let end_is : c.offset-end.result ≡ w.offset = so_far.end_is in
    let none : place_of w.suffixes (slice_range w.bytes c.loop-index.place w.offset) ≡ None = ap (λ (n : ℕ). place_of w.suffixes (slice_range w.bytes c.loop-index.place n)) (sym end_is) ∙ sym c.in_ok-target.ensures.found ∙ c.in_default.is in
    let stored : state_of c.find_or_store_label_pointer.new.self ≡ record w { suffixes = remember w.suffixes c.loop-index.place (slice_range w.bytes c.loop-index.place w.offset) } =
    c.in_ok-target.ensures.ok ∙ ap (λ (n : ℕ). record w { suffixes = remember w.suffixes c.loop-index.place (slice_range w.bytes c.loop-index.place n) }) end_is in
    record {
      seeking = rw len (next c.requires so_far.seeking label (slice_get_or labels c.loop-index.index lt) (state_of c.find_or_store_label_pointer.new.self) none stored);
      end_is = end_is ∙ sym (ap (λ (v : EncoderState). v.offset) stored);
    }

-- ---- where the labels that are left are remembered

within : (c : After-emit_u16) → c.loop-index.index < length c.args.self.now.labels
within c = omega (arith, c.loop-index-test.true, c.label_count-index-end.ensures.value)

here : (c : After-emit_u16) → slice_get c.args.self.now.labels c.loop-index.index ≡ Some (get_or c.args.self.now.labels c.loop-index.index [])
here c = slice_get_or c.args.self.now.labels c.loop-index.index (within c)

found : (c : After-emit_u16) → place_of (state_of c.loop-index.encoder).suffixes (slice_range (state_of c.loop-index.encoder).bytes c.loop-index.place (state_of c.loop-index.encoder).offset) ≡ Some c.in-Some.target
found c =
    let w = state_of c.loop-index.encoder in
    ap (λ (n : ℕ). place_of w.suffixes (slice_range w.bytes c.loop-index.place n)) (sym c.loop-index.invariant.end_is) ∙ sym c.in_ok-target.ensures.found ∙ c.in-Some.is

-- what is remembered already is not remembered again
stays : (c : After-emit_u16) → state_of c.find_or_store_label_pointer.new.self ≡ state_of c.loop-index.encoder
stays c =
    let w = state_of c.loop-index.encoder in
    let again = remember-found w.suffixes c.loop-index.place (slice_range w.bytes c.loop-index.place c.offset-end.result) c.in-Some.target (sym c.in_ok-target.ensures.found ∙ c.in-Some.is) in
    c.in_ok-target.ensures.ok ∙ ap (λ (suffixes : List Suffix). record w { suffixes = suffixes }) again

cut : (c : After-emit_u16) → state_of c.trim.new.self ≡ trim_to_offset (record (state_of c.loop-index.encoder) { offset = c.loop-index.place })
cut c = c.trim.ensures ∙ ap trim_to_offset (c.set_offset.ensures ∙ ap (λ (v : EncoderState). record v { offset = c.loop-index.place }) (stays c))

pub returns-in-Some-clause-ok : goal.returns-in-Some-clause-ok
returns-in-Some-clause-ok c =
    on_ok_weaker c.emit_u16.result
    (λ e. points c.requires c.loop-index.invariant.seeking (get_or c.args.self.now.labels c.loop-index.index []) (here c) (state_of c.trim.new.self) (state_of c.emit_u16.new.self) c.in-Some.target (found c) (cut c) e)
    c.emit_u16.ensures.ok

pub returns-in-Some-clause-room : goal.returns-in-Some-clause-room
returns-in-Some-clause-room c =
    let seeking = c.loop-index.invariant.seeking in
    let end = pointer_end c.requires seeking (get_or c.args.self.now.labels c.loop-index.index []) (here c) c.in-Some.target (found c) in
    let whole = c.in_ok-emit_labels.ensures.emits.room in
    let reaches = reach-labels (position_of (state_of c.args.encoder.now)) c.args.self.now.labels in
    on_ok_weaker c.emit_u16.result (λ room. omega (arith, room, end, whole, reaches, ap (λ (v : EncoderState). v.offset) (cut c), ap (λ (v : EncoderState). v.limit) (cut c), ap (λ (v : EncoderState). v.limit) seeking.same)) c.emit_u16.ensures.room

pub returns-in-Some-clause-full : goal.returns-in-Some-clause-full
returns-in-Some-clause-full c =
    let seeking = c.loop-index.invariant.seeking in
    let end = pointer_end c.requires seeking (get_or c.args.self.now.labels c.loop-index.index []) (here c) c.in-Some.target (found c) in
    λ e. omega (arith, c.emit_u16.ensures.full.0 e, end, ap (λ (v : EncoderState). v.offset) (cut c), ap (λ (v : EncoderState). v.limit) (cut c), ap (λ (v : EncoderState). v.limit) seeking.same)

pub returns-in-Some-clause-err : goal.returns-in-Some-clause-err
returns-in-Some-clause-err c =
    on_err_weaker c.emit_u16.result
    (λ e. subst (CanRollBack (state_of c.args.encoder.now)) (sym e) (takes_back_trimmed c.requires c.loop-index.invariant.seeking (state_of c.trim.new.self) (cut c)))
    c.emit_u16.ensures.err
