use Rattle.std.proofs.Common.{◌≡◌, ℕ, List, ◌+◌, ◌-◌, ◌≤◌, true, false, [], ◌++◌, length, Option, Ok, Err, ap, sym, subst, ◌∙◌, arith}
use Rattle.std.proofs.lemmas.Result.{err_from_is_err_and}
use Rattle.dns_wire.specs.declared.error.DecodeError.{DecodeError}
use Rattle.dns_wire.proofs.ReadingLaws.{reads_not_refused}
use Rattle.dns_wire.specs.Element.{element_at}
use Rattle.dns_wire.specs.Name.{name_len}
use Rattle.dns_names.specs.Name.{DomainName, IsInline}
use Rattle.dns_names.specs.internal.Wire.{RunIs, RunFails, element_of, element_len}
use Rattle.dns_names.proofs.Underway.{Underway, starts, on_closing, on_pointer, on_pointers, on_fault, on_forward_pointer, unwrap_or-within}
use Rattle.dns_names.proofs.Leading.{Leads, leads_start, leads_pointer, leads_pointers, fault_is}
use Rattle.dns_names.proofs.RunLaws.{run-end, run-within, refuses_run, inline_run, first_fault, fits_after, underway_after, leads_after, run_labels, run_of, at_first}
use Rattle.dns_names.proofs.name.wire.read_at.Goals as goal
use Rattle.dns_names.proofs.name.wire.read_at.Goals.{In_err-last, In_ok-last, In_ok-push_run, In_err-read_target, In_ok-read_target}

-- ---- what the run is, in the decoder's bytes

the_run : {buffer bytes : List ℕ} {place len n last count : ℕ} → len ≡ n → buffer ≡ bytes → RunIs buffer place (255 - len) last count → RunIs bytes place (255 - n) last count
the_run {buffer} {bytes} {place} {len} {n} {last} {count} same bytes_same r =
    subst (λ (m : ℕ). RunIs bytes place (255 - m) last count) same (subst (λ (bs : List ℕ). RunIs bs place (255 - len) last count) bytes_same r)

fails : (c : In_err-last) → RunFails c.args.decoder.bytes c.loop-name.place (255 - name_len c.loop-name.name.labels) c.in_err-last.field-0.0
fails c =
    subst (λ (n : ℕ). RunFails c.args.decoder.bytes c.loop-name.place (255 - n) c.in_err-last.field-0.0) c.encoded_len-room.ensures.value
    (subst (λ (bytes : List ℕ). RunFails bytes c.loop-name.place (255 - c.encoded_len-room.result) c.in_err-last.field-0.0) c.all_bytes-bytes.ensures c.in_err-last.ensures.refused)

run : (c : In_ok-last) → RunIs c.args.decoder.bytes c.loop-name.place (255 - name_len c.loop-name.name.labels) c.in_ok-last.last c.in_ok-last.count
run c = the_run c.encoded_len-room.ensures.value c.all_bytes-bytes.ensures c.in_ok-last.ensures.ok

run_pushed : (c : In_ok-push_run) → RunIs c.args.decoder.bytes c.loop-name.place (255 - name_len c.loop-name.name.labels) c.in_ok-last.last c.in_ok-last.count
run_pushed c = the_run c.encoded_len-room.ensures.value c.all_bytes-bytes.ensures c.in_ok-last.ensures.ok

run_ended : (c : In_ok-read_target) → RunIs c.args.decoder.bytes c.loop-name.place (255 - name_len c.loop-name.name.labels) c.in_ok-last.last c.in_ok-last.count
run_ended c = the_run c.encoded_len-room.ensures.value c.all_bytes-bytes.ensures c.in_ok-last.ensures.ok

labels_are : (c : In_ok-push_run) → c.push_run.new.self.labels ≡ c.loop-name.name.labels ++ (run_pushed c).labels
labels_are c =
    ap (λ (n : DomainName). n.labels) c.in_ok-push_run.ensures.ok
    ∙ ap (λ (ls : List (List ℕ)). c.loop-name.name.labels ++ ls) (run_labels c.loop-name.invariant.underway (run_pushed c) c.all_bytes-bytes.result.now c.all_bytes-bytes.ensures)

underway : (c : In_ok-push_run) → Underway c.args.decoder.bytes c.args.decoder.index c.in_ok-last.last c.loop-name.place c.push_run.new.self.labels c.loop-name.end
underway c = rw (labels_are c) (underway_after c.loop-name.invariant.underway (run_pushed c))

leads : (c : In_ok-push_run) → Leads c.args.decoder.bytes c.args.decoder.index c.in_ok-last.last c.loop-name.place c.push_run.new.self.labels
leads c = rw (labels_are c) (leads_after c.loop-name.invariant.underway (run_pushed c) c.loop-name.invariant.leads)

-- ---- what ends it

fault_here : (c : In_err-read_target) → element_at c.args.decoder.bytes c.in_ok-last.last ≡ Err c.in_err-read_target.field-0.0
fault_here c = ap (λ (bytes : List ℕ). element_at bytes c.in_ok-last.last) (sym c.all_bytes-bytes.ensures) ∙ c.in_err-read_target.ensures.shows

element_here : (c : In_ok-read_target) → element_at c.args.decoder.bytes c.in_ok-last.last ≡ Ok (element_of c.in_ok-read_target.field-0)
element_here c = ap (λ (bytes : List ℕ). element_at bytes c.in_ok-last.last) (sym c.all_bytes-bytes.ensures) ∙ c.in_ok-read_target.ensures.shows

-- where an element is read, the first one has no fault
not_first : (c : In_ok-read_target) (error : DecodeError) → element_at c.args.decoder.bytes c.args.decoder.index ≡ Err error → ⊥
not_first c error e =
    let first = at_first c.loop-name.invariant.underway (run_ended c) (c.loop-name.invariant.first error e) e in
    let clash : Err error ≡ Ok (element_of c.in_ok-read_target.field-0) = sym e ∙ ap (element_at c.args.decoder.bytes) (sym first.0) ∙ element_here c in
    cc

-- ---- refusals

pub returns-in_err-last-clause-refused : goal.returns-in_err-last-clause-refused
returns-in_err-last-clause-refused c =
    let p = err_from_is_err_and c.from_residual.result c.from_residual.ensures.1 in
    rw (p.1, p.2) (λ _. refuses_run c.loop-name.invariant.underway (fails (goal.at.returns-in_err-last-clause-refused c).In_err-last))

pub returns-in_err-read_target-clause-refused : goal.returns-in_err-read_target-clause-refused
returns-in_err-read_target-clause-refused c =
    let at = goal.at.returns-in_err-read_target-clause-refused c in
    let p = err_from_is_err_and c.from_residual-in_err-read_target.result c.from_residual-in_err-read_target.ensures.1 in
    rw (p.1, p.2) (λ _. on_fault (underway at.In_ok-push_run) _ (fault_here at.In_err-read_target))

pub returns-then-target-place-clause-refused : goal.returns-then-target-place-clause-refused
returns-then-target-place-clause-refused c =
    let at = goal.at.returns-then-target-place-clause-refused c in
    let here = element_here at.In_ok-read_target ∙ ap (λ (t : Option ℕ). Ok (element_of t)) c.in-Some.is in
    λ _. on_forward_pointer (underway at.In_ok-push_run) c.in-Some.target here c.if-target-place.true

-- ---- the run is appended

pub push_run-requires-clause-run : goal.push_run-requires-clause-run
push_run-requires-clause-run c =
    let at = (goal.at.push_run-requires-clause-run c).In_ok-last in
    run_of c.loop-name.invariant.underway (run at) c.all_bytes-bytes.result.now c.all_bytes-bytes.ensures

pub push_run-requires-clause-fits : goal.push_run-requires-clause-fits
push_run-requires-clause-fits c =
    let at = (goal.at.push_run-requires-clause-fits c).In_ok-last in
    rw (run_labels c.loop-name.invariant.underway (run at) c.all_bytes-bytes.result.now c.all_bytes-bytes.ensures) (fits_after c.loop-name.invariant.underway (run at))

pub slice_bounds-push_run-count : goal.slice_bounds-push_run-count
slice_bounds-push_run-count c = omega (arith, run-end (run (goal.at.slice_bounds-push_run-count c).In_ok-last).run)

pub slice_bounds-push_run-start : goal.slice_bounds-push_run-start
slice_bounds-push_run-start c = omega (arith, run-end (run (goal.at.slice_bounds-push_run-start c).In_ok-last).run)

pub slice_bounds-push_run-end : goal.slice_bounds-push_run-end
slice_bounds-push_run-end c =
    omega (arith, run-within (run (goal.at.slice_bounds-push_run-end c).In_ok-last).run c.loop-name.invariant.within, ap (λ (xs : List ℕ). length xs) c.all_bytes-bytes.ensures)

-- ---- past a pointer

pub loop-name-preserved : goal.loop-name-preserved
loop-name-preserved c =
    let at = goal.at.loop-name-preserved c in
    let inv = c.loop-name.invariant in
    let here = element_here at.In_ok-read_target ∙ ap (λ (t : Option ℕ). Ok (element_of t)) c.in-Some.is in
    let follows = c.follow_pointers-place.ensures.follows in
    let len : element_len c.in_ok-read_target.field-0 ≡ 2 = ap element_len c.in-Some.is in
    let within : c.in_ok-last.last + 2 ≤ length c.args.decoder.bytes = omega (arith, c.in_ok-read_target.ensures.within, len, ap (λ (xs : List ℕ). length xs) c.all_bytes-bytes.ensures) in
    record {
      underway = rw c.unwrap_or-in-Some.ensures (on_pointers follows (on_pointer (underway at.In_ok-push_run) c.in-Some.target here (omega (arith, c.if-target-place.false))));
      leads = leads_pointers follows (leads_pointer (leads at.In_ok-push_run) c.in-Some.target here);
      first = λ error e. absurd (not_first at.In_ok-read_target error e);
      within = omega (arith, inv.within, c.follow_pointers-place.ensures.within, c.if-target-place.false);
      end_within = rw c.unwrap_or-in-Some.ensures (unwrap_or-within c.loop-name.end (c.in_ok-last.last + 2) (length c.args.decoder.bytes) inv.end_within within);
      is_fqdn = ap (λ (n : DomainName). n.is_fqdn) c.in_ok-push_run.ensures.ok ∙ inv.is_fqdn;
    }

-- ---- at the end

pub returns-in-None-clause-read : goal.returns-in-None-clause-read
returns-in-None-clause-read c =
    let at = goal.at.returns-in-None-clause-read c in
    let here = element_here at.In_ok-read_target ∙ ap (λ (t : Option ℕ). Ok (element_of t)) c.in-None.is in
    rw c.unwrap_or.ensures (on_closing (underway at.In_ok-push_run) here)

pub returns-in-None-clause-fault : goal.returns-in-None-clause-fault
returns-in-None-clause-fault c = λ error e. absurd (not_first (goal.at.returns-in-None-clause-fault c).In_ok-read_target error e)

-- ---- a name that is stored inline

pub returns-in_err-last-clause-inline : goal.returns-in_err-last-clause-inline
returns-in_err-last-clause-inline c =
    λ labels end r is. absurd (reads_not_refused r (refuses_run c.loop-name.invariant.underway (fails (goal.at.returns-in_err-last-clause-inline c).In_err-last)))

pub returns-in_err-push_run-clause-inline : goal.returns-in_err-push_run-clause-inline
returns-in_err-push_run-clause-inline c =
    let at = (goal.at.returns-in_err-push_run-clause-inline c).In_ok-last in
    let same = run_labels c.loop-name.invariant.underway (run at) c.all_bytes-bytes.result.now c.all_bytes-bytes.ensures in
    λ labels end r is.
    let inline : IsInline (c.loop-name.name.labels ++ (run at).labels) = inline_run (leads_after c.loop-name.invariant.underway (run at) c.loop-name.invariant.leads) labels end r is in
    let clash : false ≡ true = c.in_err-push_run.ensures.inline (subst (λ (ls : List (List ℕ)). IsInline (c.loop-name.name.labels ++ ls)) (sym same) inline) in
    absurd (cc)

pub returns-in_err-read_target-clause-inline : goal.returns-in_err-read_target-clause-inline
returns-in_err-read_target-clause-inline c =
    let at = goal.at.returns-in_err-read_target-clause-inline c in
    λ labels end r is. absurd (reads_not_refused r (on_fault (underway at.In_ok-push_run) _ (fault_here at.In_err-read_target)))

pub returns-then-target-place-clause-inline : goal.returns-then-target-place-clause-inline
returns-then-target-place-clause-inline c =
    let at = goal.at.returns-then-target-place-clause-inline c in
    let here = element_here at.In_ok-read_target ∙ ap (λ (t : Option ℕ). Ok (element_of t)) c.in-Some.is in
    λ labels end r is. absurd (reads_not_refused r (on_forward_pointer (underway at.In_ok-push_run) c.in-Some.target here c.if-target-place.true))

-- ---- a fault of the first element

pub returns-in_err-last-clause-fault : goal.returns-in_err-last-clause-fault
returns-in_err-last-clause-fault c =
    let at = (goal.at.returns-in_err-last-clause-fault c).In_err-last in
    let p = err_from_is_err_and c.from_residual.result c.from_residual.ensures.1 in
    rw (p.1, p.2) (λ error e. ap (λ (x : DecodeError). Err x) (first_fault (fails at) (ap (element_at c.args.decoder.bytes) (c.loop-name.invariant.first error e).0 ∙ e)))

pub returns-in_err-push_run-clause-fault : goal.returns-in_err-push_run-clause-fault
returns-in_err-push_run-clause-fault c =
    let at = (goal.at.returns-in_err-push_run-clause-fault c).In_ok-last in
    let same = run_labels c.loop-name.invariant.underway (run at) c.all_bytes-bytes.result.now c.all_bytes-bytes.ensures in
    λ error e.
    let none = (at_first c.loop-name.invariant.underway (run at) (c.loop-name.invariant.first error e) e).1 in
    let inline : IsInline (c.loop-name.name.labels ++ (run at).labels) = subst IsInline (sym none) (record { few = omega arith; short = omega arith }) in
    let clash : false ≡ true = c.in_err-push_run.ensures.inline (subst (λ (ls : List (List ℕ)). IsInline (c.loop-name.name.labels ++ ls)) (sym same) inline) in
    absurd (cc)

pub returns-in_err-read_target-clause-fault : goal.returns-in_err-read_target-clause-fault
returns-in_err-read_target-clause-fault c =
    let at = goal.at.returns-in_err-read_target-clause-fault c in
    let p = err_from_is_err_and c.from_residual-in_err-read_target.result c.from_residual-in_err-read_target.ensures.1 in
    rw (p.1, p.2) (λ error e.
    let first = at_first c.loop-name.invariant.underway (run at.In_ok-last) (c.loop-name.invariant.first error e) e in
    ap (λ (x : DecodeError). Err x) (fault_is (ap (element_at c.args.decoder.bytes) (sym first.0) ∙ fault_here at.In_err-read_target) e))

pub returns-then-target-place-clause-fault : goal.returns-then-target-place-clause-fault
returns-then-target-place-clause-fault c = λ error e. absurd (not_first (goal.at.returns-then-target-place-clause-fault c).In_ok-read_target error e)

-- ---- at the start

pub loop-name-init : goal.loop-name-init
loop-name-init c =
    let labels : c.root-name.result.labels ≡ [] = ap (λ (n : DomainName). n.labels) c.root-name.ensures in
    record {
      underway = rw (c.index-place.ensures.value, labels) (starts c.args.decoder.bytes c.args.decoder.index);
      leads = rw (c.index-place.ensures.value, labels) (leads_start c.args.decoder.bytes c.args.decoder.index);
      first = λ error e. (c.index-place.ensures.value, labels);
      within = c.index-place.ensures.within;
      end_within = tt;
      is_fqdn = ap (λ (n : DomainName). n.is_fqdn) c.root-name.ensures;
    }
