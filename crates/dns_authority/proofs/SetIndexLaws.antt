-- The sets that an index has.
use Rattle.std.proofs.Common.{◌≡◌, ◌<◌, ◌≤◌, ◌+◌, ◌==◌, ◌&&◌, ◌||◌, ◌++◌, Bool, true, false, cond, ℕ, List, [], ◌∷◌, length, take, get_or, refl, sym, ap, ◌∙◌}
use Rattle.std.proofs.lemmas.List.{take_all, take_more}
use Rattle.std.proofs.lemmas.List.Folds.{list_any-append}
use Rattle.std.specs.BTreeSet.{contains}
use Rattle.std.specs.Ordering.{eq_by_cmp}
use Rattle.dns_wire.specs.codes.RecordType.{type_number}
use Rattle.dns_wire.specs.declared.codes.record_type.RecordType.{RecordType}
use Rattle.dns_data.specs.rdata.{data_type}
use Rattle.dns_names.specs.Name.{DomainName}
use Rattle.dns_names.proofs.ComparisonLaws.{same_labels-symmetric}
use Rattle.dns_records.specs.Record.{Record}
use Rattle.dns_updates.specs.Keys.{Place, place_cmp}
use Rattle.dns_updates.proofs.PlaceLaws.{place, places_tie}
use Rattle.dns_updates.proofs.SetLaws.{keys_tie}
use Rattle.dns_authority.specs.declared.set_index.SetIndex.{SetIndex}
use Rattle.dns_authority.specs.Additional.{has_set, is_of_set}
use Rattle.dns_authority.specs.SetIndex.{is_indexed}

-- ---- one set

-- the place of the set of a record
abbrev pub place_of : Record → Place
place_of r = place r.name.labels (data_type r.rdata)

at_place : (name : DomainName) (t : RecordType) (r : Record) → eq_by_cmp place_cmp (place_of r) (place name.labels t) ≡ is_of_set name t r
at_place name t r =
    places_tie r.name.labels name.labels (data_type r.rdata) t
    ∙ sym (keys_tie r.name.labels name.labels (data_type r.rdata) t)
    ∙ ap (λ (b : Bool). b && (type_number (data_type r.rdata) == type_number t)) (same_labels-symmetric r.name.labels name.labels)

cond_or : (a b : Bool) → cond a true b ≡ (a || b)
cond_or true b = refl
cond_or false b = refl

-- an index with the set of one more record
pub set_added : (old new : SetIndex) (own : Place) (r : Record)
    → ((q : Place) → contains place_cmp new.keys q ≡ cond (eq_by_cmp place_cmp own q) true (contains place_cmp old.keys q))
    → own ≡ place_of r → (name : DomainName) (t : RecordType) → is_indexed new name t ≡ (is_of_set name t r || is_indexed old name t)
set_added old new own r updates is name t =
    updates (place name.labels t)
    ∙ ap (λ (p : Place). cond (eq_by_cmp place_cmp p (place name.labels t)) true (is_indexed old name t)) is
    ∙ ap (λ (b : Bool). cond b true (is_indexed old name t)) (at_place name t r)
    ∙ cond_or (is_of_set name t r) (is_indexed old name t)

-- ---- several sets

turned : (o a h : Bool) → (o || (a || h)) ≡ (a || (h || (o || false)))
turned true true h = refl
turned true false true = refl
turned true false false = refl
turned false true h = refl
turned false false true = refl
turned false false false = refl

module _ (name : DomainName) (t : RecordType) where
  -- the set of the next record
  pub next_set : (a : Bool) (records : List Record) (i : ℕ) (r : Record) → i < length records → r ≡ get_or records i r
      → (is_of_set name t r || (a || has_set (take i records) name t)) ≡ (a || has_set (take (i + 1) records) name t)
  next_set a records i r below is =
      turned (is_of_set name t r) a (has_set (take i records) name t)
      ∙ ap (λ (b : Bool). a || b) (sym (list_any-append (is_of_set name t) (take i records) (r ∷ [])))
      ∙ ap (λ (x : Record). a || has_set (take i records ++ x ∷ []) name t) is
      ∙ ap (λ (rs : List Record). a || has_set rs name t) (sym (take_more records i r below))

  -- the sets of all records
  pub all_sets : (a : Bool) (records : List Record) (i : ℕ) → length records ≤ i → (a || has_set (take i records) name t) ≡ (a || has_set records name t)
  all_sets a records i end = ap (λ (rs : List Record). a || has_set rs name t) (take_all i records end)

  or_false : (a : Bool) → a ≡ (a || false)
  or_false true = refl
  or_false false = refl

  -- no set was added
  pub none_added : (a : Bool) (records : List Record) → a ≡ (a || has_set (take 0 records) name t)
  none_added a records = or_false a

  -- the index of an answer section, beside a section without records
  pub only_answers : (b none : Bool) (answers records : List Record) → none ≡ false → records ≡ [] → b ≡ (none || has_set answers name t)
      → b ≡ (has_set answers name t || has_set records name t)
  only_answers b none answers records empty bare is =
      is
      ∙ ap (λ (n : Bool). n || has_set answers name t) empty
      ∙ or_false (has_set answers name t)
      ∙ ap (λ (rs : List Record). has_set answers name t || has_set rs name t) (sym bare)

  associated : (a r c : Bool) → ((a || r) || c) ≡ (a || (r || c))
  associated true r c = refl
  associated false r c = refl

  -- the index of a section with further records
  pub more_records : (b old : Bool) (answers records further lent all : List Record) → b ≡ (old || has_set lent name t) → lent ≡ further → all ≡ records ++ further
      → old ≡ (has_set answers name t || has_set records name t) → b ≡ (has_set answers name t || has_set all name t)
  more_records b old answers records further lent all is same joined was =
      is
      ∙ ap (λ (rs : List Record). old || has_set rs name t) same
      ∙ ap (λ (o : Bool). o || has_set further name t) was
      ∙ associated (has_set answers name t) (has_set records name t) (has_set further name t)
      ∙ ap (λ (h : Bool). has_set answers name t || h) (sym (list_any-append (is_of_set name t) records further))
      ∙ ap (λ (rs : List Record). has_set answers name t || has_set rs name t) (sym joined)
