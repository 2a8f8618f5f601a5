use Rattle.std.proofs.Common.{◌≡◌, ◌+◌, ◌-◌, ◌<◌, ◌≤◌, ℕ, List, [], get_or, drop, length, ap, sym, ◌∙◌, arith, length-append}
use Rattle.std.specs.Cmp.Lexicographic.{slice_cmp}
use Rattle.std.specs.Ordering.{nat_cmp, ordering_then}
use Rattle.std.specs.declared.cmp.Ordering.{Ordering}
use Rattle.dns_wire.specs.Writing.{labels_form}
use Rattle.dns_names.proofs.WireLaws.{begins_with, taken_label, after_label}
use Rattle.dns_names.proofs.ReverseLaws.{from_front, next_front, whole_order, none_left}
use Rattle.dns_names.proofs.name.Name.cmp_labels.Goals as goal

some_left : (bytes : List ℕ) (labels : List (List ℕ)) (i : ℕ) → bytes ≡ labels_form (drop i labels) → i < length labels → 0 < length bytes
some_left bytes labels i form lt = omega (arith, ap (λ (xs : List ℕ). length xs) (begins_with bytes labels i form lt))

label_within : (bytes : List ℕ) (labels : List (List ℕ)) (i : ℕ) → bytes ≡ labels_form (drop i labels) → i < length labels → get_or bytes 0 0 < length bytes
label_within bytes labels i form lt =
    let begins = begins_with bytes labels i form lt in
    let label = get_or labels i [] in
    let first : get_or bytes 0 0 ≡ length label = ap (λ (xs : List ℕ). get_or xs 0 0) begins in
    omega (arith, first, ap (λ (xs : List ℕ). length xs) begins, length-append label (labels_form (drop (i + 1) labels)))

pub loop-passed-init : goal.loop-passed-init
loop-passed-init g c =
    let own = c.label_count-own.result - c.min-shared.result in
    let others = c.label_count-others.result - c.min-shared.result in
    let own_same : own + 0 ≡ own = omega arith in
    let others_same : others + 0 ≡ others = omega arith in
    let own_len : c.label_count-own.result ≡ length c.args.self.now.labels = c.label_count-own.ensures.value in
    let others_len : c.label_count-others.result ≡ length c.args.other.now.labels = c.label_count-others.ensures.value in
    let counts : c.cmp-order.result ≡ nat_cmp (length c.args.self.now.labels) (length c.args.other.now.labels) =
    c.cmp-order.ensures ∙ ap (λ (n : ℕ). nat_cmp n c.label_count-others.result) own_len ∙ ap (nat_cmp (length c.args.self.now.labels)) others_len in
    rw (own_same, others_same) (record {
      own_form = c.wire_after-own_rest.ensures.value;
      other_form = c.wire_after-other_rest.ensures.value;
      same = whole_order (slice_cmp g.F.LabelCmp.byte_order) c.args.self.now.labels c.args.other.now.labels own others
          (omega (arith, c.min-shared.ensures)) (omega (arith, c.min-shared.ensures)) (omega (arith, c.min-shared.ensures)) (λ p q. omega (arith, c.min-shared.ensures))
          ∙ ap (λ (o : Ordering). from_front (slice_cmp g.F.LabelCmp.byte_order) o (drop own c.args.self.now.labels) (drop others c.args.other.now.labels)) (sym counts);
    })

pub split_label-requires-clause-any : goal.split_label-requires-clause-any
split_label-requires-clause-any g c =
    some_left _ c.args.self.now.labels _ c.loop-passed.invariant.own_form (omega (arith, c.min-shared.ensures, c.label_count-own.ensures.value))

pub split_label-requires-clause-within : goal.split_label-requires-clause-within
split_label-requires-clause-within g c =
    label_within _ c.args.self.now.labels _ c.loop-passed.invariant.own_form (omega (arith, c.min-shared.ensures, c.label_count-own.ensures.value))

pub split_label-requires-in-loop-passed-clause-any : goal.split_label-requires-in-loop-passed-clause-any
split_label-requires-in-loop-passed-clause-any g c =
    some_left _ c.args.other.now.labels _ c.loop-passed.invariant.other_form (omega (arith, c.min-shared.ensures, c.label_count-others.ensures.value))

pub split_label-requires-in-loop-passed-clause-within : goal.split_label-requires-in-loop-passed-clause-within
split_label-requires-in-loop-passed-clause-within g c =
    label_within _ c.args.other.now.labels _ c.loop-passed.invariant.other_form (omega (arith, c.min-shared.ensures, c.label_count-others.ensures.value))

pub loop-passed-preserved : goal.loop-passed-preserved
loop-passed-preserved g c =
    let inv = c.loop-passed.invariant in
    let own = c.label_count-own.result - c.min-shared.result + c.loop-passed._passed in
    let others = c.label_count-others.result - c.min-shared.result + c.loop-passed._passed in
    let own_labels = c.args.self.now.labels in
    let other_labels = c.args.other.now.labels in
    let own_lt : own < length own_labels = omega (arith, c.min-shared.ensures, c.label_count-own.ensures.value) in
    let others_lt : others < length other_labels = omega (arith, c.min-shared.ensures, c.label_count-others.ensures.value) in
    let own_begins = begins_with c.loop-passed.own_rest.now own_labels own inv.own_form own_lt in
    let other_begins = begins_with c.loop-passed.other_rest.now other_labels others inv.other_form others_lt in
    let label : c.split_label.result.0.now ≡ get_or own_labels own [] = c.split_label.ensures.label ∙ taken_label _ _ _ own_begins in
    let others_label : c.split_label-in-loop-passed.result.0.now ≡ get_or other_labels others [] = c.split_label-in-loop-passed.ensures.label ∙ taken_label _ _ _ other_begins in
    let C = slice_cmp g.F.LabelCmp.byte_order in
    let order : c.then-order.result ≡ ordering_then (C (get_or own_labels own []) (get_or other_labels others [])) c.loop-passed.order =
    c.then-order.ensures ∙ ap (λ (o : Ordering). ordering_then o c.loop-passed.order)
    (c.cmp_bytes.ensures ∙ ap (λ (l : List ℕ). C l c.split_label-in-loop-passed.result.0.now) label ∙ ap (C (get_or own_labels own [])) others_label) in
    let own_next : c.label_count-own.result - c.min-shared.result + (c.loop-passed._passed + 1) ≡ own + 1 = omega arith in
    let others_next : c.label_count-others.result - c.min-shared.result + (c.loop-passed._passed + 1) ≡ others + 1 = omega arith in
    rw (own_next, others_next) (record {
      own_form = c.split_label.ensures.rest ∙ after_label _ _ _ own_begins;
      other_form = c.split_label-in-loop-passed.ensures.rest ∙ after_label _ _ _ other_begins;
      same = inv.same ∙ next_front C c.loop-passed.order own_labels other_labels own others own_lt others_lt
          ∙ ap (λ (o : Ordering). from_front C o (drop (own + 1) own_labels) (drop (others + 1) other_labels)) (sym order);
    })

pub returns : goal.returns
returns g c =
    let inv = c.loop-passed.invariant in
    let own = c.label_count-own.result - c.min-shared.result + c.loop-passed._passed in
    let past : length c.args.self.now.labels ≤ own = omega (arith, c.min-shared.ensures, c.label_count-own.ensures.value, c.loop-passed-test.false) in
    sym (inv.same ∙ none_left (slice_cmp g.F.LabelCmp.byte_order) c.loop-passed.order c.args.self.now.labels _ own past)
