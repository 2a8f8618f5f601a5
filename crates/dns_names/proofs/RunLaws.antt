-- Runs of labels that are read from bytes.
use Rattle.std.proofs.Common.{◌≡◌, ℕ, zero, suc, ◌+◌, ◌-◌, ◌<◌, ◌≤◌, get_or, true, false, eqb, ltb, List, [], ◌∷◌, ◌++◌, length, take, drop, Option, Some, Ok, Err, refl, sym, ap, subst, ◌∙◌, append_assoc, arith, length-append, length-take, length-drop, add-one, inl, inr}
use Rattle.std.specs.Prelude.{◌⊎◌, slice_range, slice_get}
use Rattle.std.specs.List.{AllByRecursion}
use Rattle.std.proofs.lemmas.List.{take-append-drop, take_at, drop_at, drop-drop, append-nil}
use Rattle.dns_wire.specs.declared.error.DecodeError.{DecodeError}
use Rattle.dns_wire.specs.declared.error.DecodeError.TheVariants.{InsufficientBytes, UnrecognizedLabelCode, DomainNameTooLong}
use Rattle.dns_wire.specs.Element.{Label, element, element_at}
use Rattle.dns_wire.specs.Name.{IsLabel, name_len}
use Rattle.dns_wire.specs.Reading.{ReadsName, RefusesName}
use Rattle.dns_wire.specs.Writing.{labels_form}
use Rattle.dns_wire.proofs.ElementLaws.{element-label}
use Rattle.dns_wire.proofs.NameLaws.{length-labels_form}
use Rattle.dns_names.specs.Name.{IsInline}
use Rattle.dns_names.specs.internal.Name.{labels_in, IsRun}
use Rattle.dns_names.specs.internal.Wire.{Run, no_label, label_more, LabelIs, RunIs, RunFails}
use Rattle.dns_names.proofs.BuildingLaws.{name_len-append}
use Rattle.dns_names.proofs.InlineLaws.{inline_prefix}
use Rattle.dns_names.proofs.IterLaws.{drop-at}
use Rattle.dns_names.proofs.Leading.{Leads, leads_label}
use Rattle.dns_names.proofs.Underway.{Underway, on_label, on_fault, on_long_name}
use Rattle.dns_names.proofs.WireLaws.{form-push, is_run, labels_are}

-- ---- where a run is

pub run-end : {bytes : List ℕ} {place end : ℕ} {labels : List (List ℕ)} → Run bytes place labels end → end ≡ place + length (labels_form labels)
run-end no_label = omega arith
run-end (label_more {labels = ls} {label = l} rest r is here) =
    omega (arith, run-end r, ap (λ (xs : List ℕ). length xs) (form-push ls l), length-append (labels_form ls ++ length l ∷ []) l, length-append (labels_form ls) (length l ∷ []))

pub run-within : {bytes : List ℕ} {place end : ℕ} {labels : List (List ℕ)} → Run bytes place labels end → place ≤ length bytes → end ≤ length bytes
run-within no_label within = within
run-within {bytes} (label_more {label = l} {at = at} rest r is here) within =
    omega (arith, run-within r within, ap (λ (xs : List ℕ). length xs) here, length-append l rest, length-drop at bytes)

-- the bytes from the place on are the run's, and those after it
run-form : {bytes : List ℕ} {place end : ℕ} {labels : List (List ℕ)} → Run bytes place labels end → drop place bytes ≡ labels_form labels ++ drop end bytes
run-form no_label = refl
run-form {bytes} (label_more {labels = ls} {label = l} {at = at} rest r is here) =
    let after : drop (at + (length l + 1)) bytes ≡ rest =
    sym (drop-drop (length l + 1) at bytes) ∙ ap (drop (length l + 1)) here ∙ ap (λ (n : ℕ). drop n (length l ∷ (l ++ rest))) (add-one (length l)) ∙ drop_at l rest (length l) refl in
    run-form r ∙ ap (λ (xs : List ℕ). labels_form ls ++ xs) here
    ∙ sym (ap (λ (xs : List ℕ). xs ++ drop (at + (length l + 1)) bytes) (form-push ls l)
    ∙ append_assoc (labels_form ls ++ length l ∷ []) l (drop (at + (length l + 1)) bytes)
    ∙ append_assoc (labels_form ls) (length l ∷ []) (l ++ drop (at + (length l + 1)) bytes)
    ∙ ap (λ (xs : List ℕ). labels_form ls ++ (length l ∷ (l ++ xs))) after)

pub run-bytes : {bytes : List ℕ} {place end : ℕ} {labels : List (List ℕ)} → Run bytes place labels end → slice_range bytes place end ≡ labels_form labels
run-bytes {bytes} {place} {end} {labels} r =
    ap (take (end - place)) (run-form r) ∙ take_at (labels_form labels) (drop end bytes) (end - place) (omega (arith, run-end r))

each-more : (labels : List (List ℕ)) (label : List ℕ) → AllByRecursion IsLabel labels → IsLabel label → AllByRecursion IsLabel (labels ++ label ∷ [])
each-more [] label all is = (is, tt)
each-more (l ∷ labels) label all is = (all.0, each-more labels label all.1 is)

pub run-each : {bytes : List ℕ} {place end : ℕ} {labels : List (List ℕ)} → Run bytes place labels end → AllByRecursion IsLabel labels
run-each no_label = tt
run-each (label_more {labels = ls} {label = l} rest r is here) = each-more ls l (run-each r) is

-- ---- one label more

label_at : (bytes label rest : List ℕ) (at : ℕ) → IsLabel label → drop at bytes ≡ length label ∷ (label ++ rest) → element_at bytes at ≡ Ok (Label label)
label_at bytes label rest at is here = ap element here ∙ element-label label rest is

module _ (bytes : List ℕ) (at code : ℕ) (here : slice_get bytes at ≡ Some code) where
  pub code_at : drop at bytes ≡ code ∷ drop (at + 1) bytes
  code_at =
      let next : suc at ≡ at + 1 = omega arith in
      drop-at bytes at code here ∙ ap (λ (n : ℕ). code ∷ drop n bytes) next

  module _ (enough : at + code + 1 ≤ length bytes) where
    abbrev label : List ℕ
    label = take code (drop (at + 1) bytes)

    label_len : length label ≡ code
    label_len = omega (arith, length-take code (drop (at + 1) bytes), length-drop (at + 1) bytes, enough)

    label_here : drop at bytes ≡ length label ∷ (label ++ drop code (drop (at + 1) bytes))
    label_here = code_at ∙ ap (λ (xs : List ℕ). code ∷ xs) (sym (take-append-drop code (drop (at + 1) bytes))) ∙ ap (λ (n : ℕ). n ∷ (label ++ drop code (drop (at + 1) bytes))) (sym label_len)

    is_label : 0 < code → code < 64 → IsLabel label
    is_label some most = record { some = omega (arith, label_len); most = omega (arith, label_len) }

    pub label_is : 0 < code → code < 64 → LabelIs bytes at (at + code + 1)
    label_is some most = record {
      label = label;
      rest = drop code (drop (at + 1) bytes);
      is = is_label some most;
      here = label_here;
      end_is = omega (arith, label_len);
    }

  pub short_at : 0 < code → code < 64 → length bytes < at + code + 1 → element_at bytes at ≡ Err InsufficientBytes
  short_at some most short =
      let not_zero : eqb code 0 ≡ false = grind arith in
      let small : ltb code 64 ≡ true = grind arith in
      let len = length-drop (at + 1) bytes in
      let lacks : ltb (length (drop (at + 1) bytes)) code ≡ true = grind arith in
      ap element code_at ∙ rw (not_zero, small, lacks) refl

  -- ---- what ends a run

  pub unknown_at : 64 ≤ code → code < 192 → element_at bytes at ≡ Err UnrecognizedLabelCode
  unknown_at low high =
      let not_zero : eqb code 0 ≡ false = grind arith in
      let no_len : ltb code 64 ≡ false = grind arith in
      let between : ltb code 192 ≡ true = grind arith in
      ap element code_at ∙ rw (not_zero, no_len, between) refl

least : (labels : List (List ℕ)) → length labels + 1 ≤ name_len labels
least [] = omega arith
least (label ∷ labels) = omega (arith, least labels)

-- a byte within the bytes
pub byte_there : (bytes : List ℕ) (at : ℕ) → at < length bytes → slice_get bytes at ≡ Some (get_or bytes at 0)
byte_there [] at lt = absurd (omega arith)
byte_there (x ∷ bytes) zero lt = refl
byte_there (x ∷ bytes) (suc at) lt = byte_there bytes at (omega arith)

module _ {bytes : List ℕ} {place room at count : ℕ} (r : RunIs bytes place room at count) where
  pub next_label : {end : ℕ} → LabelIs bytes at end → end - place ≤ room → RunIs bytes place room end (count + 1)
  next_label {end} l fits =
      let run : Run bytes place (r.labels ++ l.label ∷ []) end =
      subst (λ (n : ℕ). Run bytes place (r.labels ++ l.label ∷ []) n) (sym l.end_is) (label_more l.rest r.run l.is l.here) in
      record {
        labels = r.labels ++ l.label ∷ [];
        run = run;
        many = omega (arith, r.many, length-append r.labels (l.label ∷ []));
        fits = omega (arith, run-end run, fits);
      }

  pub long_label : {end : ℕ} → LabelIs bytes at end → room < end - place → RunFails bytes place room DomainNameTooLong
  long_label l over = record {
    labels = r.labels;
    end = at;
    run = r.run;
    fits = r.fits;
    cause = inr (l.label, label_at bytes l.label l.rest at l.is l.here, omega (arith, run-end r.run, l.end_is, over), refl);
  }

  pub faulty_label : {error : DecodeError} → element_at bytes at ≡ Err error → RunFails bytes place room error
  faulty_label e = record { labels = r.labels; end = at; run = r.run; fits = r.fits; cause = inl e }

  pub run_few : place + count ≤ at
  run_few = omega (arith, r.many, run-end r.run, length-labels_form r.labels, least r.labels)

pub no_run : (bytes : List ℕ) (place room : ℕ) → RunIs bytes place room place 0
no_run bytes place room = record { labels = []; run = no_label; many = refl; fits = omega arith }

-- ---- a name that is read run by run

pub leads_run : {bytes : List ℕ} {start place end : ℕ} {own labels : List (List ℕ)} → Leads bytes start place place own → Run bytes place labels end → Leads bytes start end place (own ++ labels)
leads_run {bytes} {start} {place} {own = own} u no_label = subst (λ (ls : List (List ℕ)). Leads bytes start place place ls) (sym (append-nil own)) u
leads_run {bytes} {start} {place} {own = own} u (label_more {labels = ls} {label = l} {at = at} rest r is here) =
    subst (λ (names : List (List ℕ)). Leads bytes start (at + (length l + 1)) place names) (append_assoc own ls (l ∷ []))
    (leads_label (leads_run u r) l (label_at bytes l rest at is here))

module _ {bytes : List ℕ} {start place : ℕ} {own : List (List ℕ)} {last : Option ℕ} where
  pub on_run : {end : ℕ} {labels : List (List ℕ)} → Underway bytes start place place own last → Run bytes place labels end → name_len own + length (labels_form labels) ≤ 255
      → Underway bytes start end place (own ++ labels) last
  on_run u no_label room = subst (λ (ls : List (List ℕ)). Underway bytes start place place ls last) (sym (append-nil own)) u
  on_run u (label_more {labels = ls} {label = l} {at = at} rest r is here) room =
      let parts = form-push ls l in
      let len : length (labels_form (ls ++ l ∷ [])) ≡ length (labels_form ls) + (length l + 1) =
      omega (arith, ap (λ (xs : List ℕ). length xs) parts, length-append (labels_form ls ++ length l ∷ []) l, length-append (labels_form ls) (length l ∷ [])) in
      let before : Underway bytes start at place (own ++ ls) last = on_run u r (omega (arith, len, room)) in
      subst (λ (names : List (List ℕ)). Underway bytes start (at + (length l + 1)) place names last) (append_assoc own ls (l ∷ []))
      (on_label before l (label_at bytes l rest at is here) (omega (arith, len, room, name_len-append own ls, length-labels_form ls)))

  -- a run that fails is that of a name that is refused
  pub refuses_run : {error : DecodeError} → Underway bytes start place place own last → RunFails bytes place (255 - name_len own) error → RefusesName bytes start error
  refuses_run {error} u f =
      let len = length-labels_form f.labels in
      let fits : name_len own + length (labels_form f.labels) ≤ 255 = omega (arith, f.fits, u.fits) in
      let here : Underway bytes start f.end place (own ++ f.labels) last = on_run u f.run fits in
      let all = name_len-append own f.labels in
      elim f.cause [
        | inl fault ↦ on_fault here error fault
        | inr (label, is, over, long) ↦ subst (RefusesName bytes start) (sym long) (on_long_name here label is (omega (arith, over, len, all, u.fits)))
      ]

-- the labels up to the end of a run, of a name that is stored inline
pub inline_run : {bytes : List ℕ} {start index segment : ℕ} {labels : List (List ℕ)} → Leads bytes start index segment labels → (all : List (List ℕ)) (last : ℕ) → ReadsName bytes start all last
    → IsInline all → IsInline labels
inline_run u all last r is = let found = u.rest all last r in inline_prefix all _ found.0 found.2 is

-- a run with a label begins without a fault
begins : {bytes : List ℕ} {place end : ℕ} {labels : List (List ℕ)} {fault : DecodeError} (label rest : List ℕ) → Run bytes place labels end → IsLabel label
    → drop end bytes ≡ length label ∷ (label ++ rest) → element_at bytes place ≡ Err fault → ⊥
begins {bytes} {place} label rest no_label is here e =
    let clash = sym (label_at bytes label rest place is here) ∙ e in
    absurd (cc)
begins label rest (label_more {label = l} rest' r is' here') is here e = begins l rest' r is' here' e

first_cause : {bytes : List ℕ} {place end : ℕ} {labels : List (List ℕ)} {error fault : DecodeError} (room : ℕ) → Run bytes place labels end
    → (element_at bytes end ≡ Err error) ⊎ ((label : List ℕ) × (element_at bytes end ≡ Ok (Label label)) × (room < length (labels_form labels) + (length label + 1)) × (error ≡ DomainNameTooLong))
    → element_at bytes place ≡ Err fault → error ≡ fault
first_cause room no_label (inl here) e = cc
first_cause room no_label (inr (label, here, over, long)) e = absurd (cc)
first_cause room (label_more {label = l} rest r is here) cause e = absurd (begins l rest r is here e)

-- a fault at the place itself
pub first_fault : {bytes : List ℕ} {place room : ℕ} {error fault : DecodeError} → RunFails bytes place room error → element_at bytes place ≡ Err fault → error ≡ fault
first_fault {room = room} f e = first_cause room f.run f.cause e

-- no label is read where there is a fault
pub empty_run : {bytes : List ℕ} {place end : ℕ} {labels : List (List ℕ)} {fault : DecodeError} → Run bytes place labels end → element_at bytes place ≡ Err fault → (labels ≡ []) × (end ≡ place)
empty_run no_label e = (refl, refl)
empty_run (label_more {label = l} rest r is here) e = absurd (begins l rest r is here e)

-- ---- past a run

module _ {bytes : List ℕ} {start place end count : ℕ} {own : List (List ℕ)} {last : Option ℕ} (u : Underway bytes start place place own last) (r : RunIs bytes place (255 - name_len own) end count) where
  room_for : name_len own + length (labels_form r.labels) ≤ 255
  room_for = omega (arith, r.fits, u.fits)

  pub fits_after : name_len (own ++ r.labels) ≤ 255
  fits_after = omega (arith, room_for, name_len-append own r.labels, length-labels_form r.labels)

  pub underway_after : Underway bytes start end place (own ++ r.labels) last
  underway_after = on_run u r.run room_for

  pub leads_after : Leads bytes start place place own → Leads bytes start end place (own ++ r.labels)
  leads_after l = leads_run l r.run

  -- the labels of the run, cut from the bytes
  pub run_labels : (buffer : List ℕ) → buffer ≡ bytes → labels_in count (slice_range buffer place end) ≡ r.labels
  run_labels buffer same = labels_are count (slice_range buffer place end) r.labels (ap (λ (xs : List ℕ). slice_range xs place end) same ∙ run-bytes r.run) (sym r.many)

  pub run_of : (buffer : List ℕ) → buffer ≡ bytes → IsRun count (slice_range buffer place end)
  run_of buffer same = is_run count (slice_range buffer place end) r.labels (ap (λ (xs : List ℕ). slice_range xs place end) same ∙ run-bytes r.run) (sym r.many) (run-each r.run)

  -- where the first element has a fault, nothing was read
  pub at_first : {fault : DecodeError} → (place ≡ start) × (own ≡ []) → element_at bytes start ≡ Err fault → (end ≡ start) × (own ++ r.labels ≡ [])
  at_first {fault} before e =
      let none = empty_run r.run (ap (element_at bytes) before.0 ∙ e) in
      (none.1 ∙ before.0, ap (λ (ls : List (List ℕ)). ls ++ r.labels) before.1 ∙ none.0)
