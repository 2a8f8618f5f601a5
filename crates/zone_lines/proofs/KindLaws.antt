-- Warnings, kind by kind and entry by entry.
use Rattle.std.proofs.Common.{◌≡◌, ◌<◌, ◌≤◌, ◌+◌, ◌∙◌, ℕ, suc, Bool, true, false, cond, List, [], ◌∷◌, ◌++◌, length, map, take, drop, get_or, refl, sym, ap, append_assoc, append-nil, add-one}
use Rattle.std.specs.List.{filter}
use Rattle.std.proofs.lemmas.List.{map-append, take_all}
use Rattle.std.proofs.lemmas.List.Elements.{filter-append}
use Rattle.std.proofs.lemmas.Grind.{take_at_read}
use Rattle.std.proofs.Math.Seq.{drop-cons}
use Rattle.zone_lines.specs.warnings.Survey.{Facts}
use Rattle.zone_lines.specs.warnings.Warning.{applies, kinds, warning_of, warnings_among, warnings_at, warnings_of_entry, warnings_from, warnings_of}
use Rattle.zone_lines.specs.declared.record_line.EntryLine.{EntryLine}
use Rattle.zone_lines.specs.declared.record_line.RecordLine.{RecordLine}
use Rattle.zone_lines.specs.declared.warnings.kind.Warning.{Warning}
use Rattle.zone_lines.specs.declared.warnings.kind.WarningKind.{WarningKind}

if_meant : (f : WarningKind → Warning) (b : Bool) (k : WarningKind) → map f (cond b (k ∷ []) []) ≡ cond b (f k ∷ []) []
if_meant f true k = refl
if_meant f false k = refl

module _ (facts : Facts) (entries : List EntryLine) (place : ℕ) (r : RecordLine) where
  one_more : (those : List WarningKind) (i : ℕ) (d : WarningKind) → i < length those
      → warnings_among (take (i + 1) those) facts entries place r
      ≡ warnings_among (take i those) facts entries place r
      ++ cond (applies (get_or those i d) facts entries place r) (warning_of place r (get_or those i d) ∷ []) []
  one_more those i d within =
      let p : WarningKind → Bool = λ k. applies k facts entries place r in
      ap (λ (l : List WarningKind). map (warning_of place r) (filter p l)) (take_at_read those i d within).1
      ∙ ap (λ (l : List WarningKind). map (warning_of place r) l) (filter-append p (take i those) (get_or those i d ∷ []))
      ∙ map-append (warning_of place r) (filter p (take i those)) (filter p (get_or those i d ∷ []))
      ∙ ap (λ (l : List Warning). map (warning_of place r) (filter p (take i those)) ++ l) (if_meant (warning_of place r) (p (get_or those i d)) (get_or those i d))

  pub kind_pushed : (those : List WarningKind) (i : ℕ) (d : WarningKind) (before found after : List Warning) (b : Bool) → i < length those
      → found ≡ before ++ warnings_among (take i those) facts entries place r → b ≡ applies (get_or those i d) facts entries place r
      → after ≡ found ++ cond b (warning_of place r (get_or those i d) ∷ []) []
      → after ≡ before ++ warnings_among (take (i + 1) those) facts entries place r
  kind_pushed those i d before found after b within so_far is pushed =
      pushed
      ∙ ap (λ (l : List Warning). l ++ cond b (warning_of place r (get_or those i d) ∷ []) []) so_far
      ∙ append_assoc before (warnings_among (take i those) facts entries place r) (cond b (warning_of place r (get_or those i d) ∷ []) [])
      ∙ ap (λ (c : Bool). before ++ (warnings_among (take i those) facts entries place r ++ cond c (warning_of place r (get_or those i d) ∷ []) [])) is
      ∙ ap (λ (l : List Warning). before ++ l) (sym (one_more those i d within))

  -- all kinds are among those before a place at or after the end
  pub all_kinds : (i : ℕ) (before found : List Warning) → length kinds ≤ i → found ≡ before ++ warnings_among (take i kinds) facts entries place r
      → found ≡ before ++ warnings_at facts entries place r
  all_kinds i before found past is = is ∙ ap (λ (l : List WarningKind). before ++ warnings_among l facts entries place r) (take_all i kinds past)

-- the warnings so far and those of the rest are all
pub record SoFar (facts : Facts) (entries : List EntryLine) (place : ℕ) (found : List Warning) : Type 0 where
  pub adds_up : found ++ warnings_from facts entries place (drop place entries) ≡ warnings_of facts entries

pub none_yet : (facts : Facts) (entries : List EntryLine) (found : List Warning) → found ≡ [] → SoFar facts entries 0 found
none_yet facts entries found none = record { adds_up = ap (λ (l : List Warning). l ++ warnings_of facts entries) none }

module _ (facts : Facts) (entries : List EntryLine) (i : ℕ) (e : EntryLine) (within : i < length entries) (is : e ≡ get_or entries i e)
    (found : List Warning) (so_far : SoFar facts entries i found) where
  next : warnings_from facts entries i (drop i entries) ≡ warnings_of_entry facts entries i e ++ warnings_from facts entries (i + 1) (drop (i + 1) entries)
  next =
      ap (warnings_from facts entries i) (drop-cons entries i e within)
      ∙ ap (λ (x : EntryLine). warnings_of_entry facts entries i x ++ warnings_from facts entries (suc i) (drop (suc i) entries)) (sym is)
      ∙ ap (λ (n : ℕ). warnings_of_entry facts entries i e ++ warnings_from facts entries n (drop n entries)) (sym (add-one i))

  pub entry_pushed : (after : List Warning) → after ≡ found ++ warnings_of_entry facts entries i e → SoFar facts entries (i + 1) after
  entry_pushed after pushed = record {
    adds_up =
        ap (λ (l : List Warning). l ++ warnings_from facts entries (i + 1) (drop (i + 1) entries)) pushed
        ∙ append_assoc found (warnings_of_entry facts entries i e) (warnings_from facts entries (i + 1) (drop (i + 1) entries))
        ∙ ap (λ (l : List Warning). found ++ l) (sym next)
        ∙ so_far.adds_up;
  }

  pub fault_passed : warnings_of_entry facts entries i e ≡ [] → SoFar facts entries (i + 1) found
  fault_passed none = entry_pushed found (sym (ap (λ (l : List Warning). found ++ l) none ∙ append-nil found))
