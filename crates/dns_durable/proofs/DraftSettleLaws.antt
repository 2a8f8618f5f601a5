-- Sets that are settled one after another.
use Rattle.std.proofs.Common.{◌≡◌, ◌<◌, ◌≤◌, ◌+◌, ◌∙◌, ℕ, zero, suc, Bool, true, false, cond, List, [], ◌∷◌, ◌++◌, map, length, drop, get_or, refl, sym, ap, subst, arith, Some, None, Result, Ok, Err}
use Rattle.std.specs.Prelude.{IfOk, OnOk}
use Rattle.std.specs.FinMap as rows_map
use Rattle.std.specs.List.{AllByRecursion, filter}
use Rattle.dns_wire.specs.declared.codes.record_type.RecordType.{RecordType}
use Rattle.dns_names.specs.Compare.{same_labels}
use Rattle.dns_names.specs.Name.{DomainName}
use Rattle.dns_records.specs.Record.{Record}
use Rattle.dns_records.specs.Rows.{key_of, type_of_record}
use Rattle.dns_records.specs.RecordSet.{RecordSetValue}
use Rattle.dns_updates.specs.Keys.{Place, owner_code, type_code}
use Rattle.dns_zone.specs.Lookup.{AreSetsOf}
use Rattle.dns_zone.specs.Rows.{Key, Rows, ZoneContent, set_key}
use Rattle.dns_zone.specs.Sets.{set_at}
use Rattle.dns_zone.proofs.KeptLaws.{tied_key}
use Rattle.dns_zone.proofs.RowLaws.{get-sets, rows_if, same_lower, tied}
use Rattle.dns_updates.proofs.OwnerCodeLaws.{owner_of_lower}
use Rattle.dns_names.specs.internal.Compare.{same-lower}
use Rattle.dns_durable.specs.Draft.{Grows, deletes_owner, IsSettledFor, IsSettledForOne, Settled, is_settled, place_of}
use Rattle.dns_durable.specs.declared.draft.Draft.{Draft}
use Rattle.dns_durable.specs.declared.incoming.Arrived.{Arrived}
use Rattle.dns_durable.specs.declared.incoming.Arrived.TheVariants.{Request, Other}
use Rattle.dns_durable.specs.internal.Drafting.{AreOwnersSettled, GoesOn}
use Rattle.dns_durable.proofs.BetweenLaws.{all_more, place_of_key, place_of_tied, true_false}

-- ---- going on

pub same_on : (zone : ZoneContent) (d : Draft) → GoesOn zone d d
same_on zone d = record { draft = λ base draft. draft; grows = λ p e. e; carried_is = refl }

pub both_on : (zone : ZoneContent) (one two three : Draft) → GoesOn zone one two → GoesOn zone two three → GoesOn zone one three
both_on zone one two three f g = record {
  draft = λ base draft. g.draft base (f.draft base draft);
  grows = λ p e. g.grows p (f.grows p e);
  carried_is = g.carried_is ∙ f.carried_is;
}

-- ---- what stays settled

not_yet : (old new : Settled) (p : Place) → Grows old new → new p ≡ false → old p ≡ false
not_yet old new p grows un = by (old p) refl
  where
    by : (b : Bool) → old p ≡ b → b ≡ false
    by true e = true_false (new p) (grows p e) un
    by false e = refl

pub owners_later : (owner : DomainName) (old new : Settled) (rows : Rows) → Grows old new → AreOwnersSettled owner old rows → AreOwnersSettled owner new rows
owners_later owner old new rows grows are k same un = are k same (not_yet old new (place_of k) grows un)

pub settled_later : (old new : Settled) (rows : Rows) (r : Record) → Grows old new → IsSettledFor old rows r → IsSettledFor new rows r
settled_later old new rows r grows is = record {
  own = grows (place_of (key_of r)) is.own;
  of_owner = λ deletes k same un. is.of_owner deletes k same (not_yet old new (place_of k) grows un);
}

all_later : (old new : Settled) (rows : Rows) (rs : List Record) → Grows old new → AllByRecursion (IsSettledFor old rows) rs → AllByRecursion (IsSettledFor new rows) rs
all_later old new rows [] grows all = tt
all_later old new rows (r ∷ rs) grows all = (settled_later old new rows r grows all.0, all_later old new rows rs grows all.1)

pub one_later : (old new : Settled) (rows : Rows) (a : Arrived) → Grows old new → IsSettledForOne old rows a → IsSettledForOne new rows a
one_later old new rows (Request a) grows is = λ makes. all_later old new rows a.message.authorities grows (is makes)
one_later old new rows (Other bytes) grows is = tt

-- ---- loops

pub all_from_next : {A : Type 0} (P : A → Type 0) (xs : List A) (i : ℕ) (x : A) → i < length xs → x ≡ get_or xs i x → P x → AllByRecursion P (drop (suc i) xs) → AllByRecursion P (drop i xs)
all_from_next P [] i x below is p all = absurd (omega (arith, below))
all_from_next P (y ∷ ys) zero x below is p all = (subst P is p, all)
all_from_next P (y ∷ ys) (suc i) x below is p all = all_from_next P ys i x (omega (arith, below)) is p all

pub all_past : {A : Type 0} (P : A → Type 0) (xs : List A) (i : ℕ) → length xs ≤ i → AllByRecursion P (drop i xs)
all_past P [] zero past = tt
all_past P [] (suc i) past = tt
all_past P (y ∷ ys) zero past = absurd (omega (arith, past))
all_past P (y ∷ ys) (suc i) past = all_past P ys i (omega (arith, past))

pub all_empty : {A : Type 0} (P : A → Type 0) (xs : List A) → length xs ≡ 0 → AllByRecursion P xs
all_empty P [] none = tt
all_empty P (y ∷ ys) none = absurd (omega (arith, none))

-- ---- the sets of an owner

module _ (owner : DomainName) (settled : Settled) (k : Key) (same : same_labels owner.labels k.0 ≡ true) (un : settled (place_of k) ≡ false) where
  owned : (s : RecordSetValue) → tied k s ≡ true → same_labels owner.labels s.name.labels ≡ true
  owned s e =
      sym (same_lower owner.labels s.name.labels) ∙ ap (λ (q : Key). same_labels owner.labels q.0) (tied_key k (set_key s) e) ∙ same

  place_at : (s : RecordSetValue) → tied k s ≡ true → place_of k ≡ (owner_code owner.labels, type_code s.record_type)
  place_at s e =
      let owners = owner_of_lower s.name.labels owner.labels (sym (same-lower owner.labels s.name.labels (owned s e))) in
      place_of_tied k s e ∙ (λ i. (owners i, type_code s.record_type))

  none_owned : (sets : List RecordSetValue)
      → AllByRecursion (λ t. settled (owner_code owner.labels, type_code t) ≡ true) (map (λ (s : RecordSetValue). s.record_type) (filter (λ (s : RecordSetValue). same_labels owner.labels s.name.labels) sets))
      → set_at sets k ≡ None
  none_owned [] all = refl
  none_owned (s ∷ sets) all = by (same_labels owner.labels s.name.labels) refl (tied k s) refl all (none_owned sets)
    where
      by : (b : Bool) → same_labels owner.labels s.name.labels ≡ b → (c : Bool) → tied k s ≡ c
          → AllByRecursion (λ t. settled (owner_code owner.labels, type_code t) ≡ true)
          (map (λ (x : RecordSetValue). x.record_type) (cond b (s ∷ filter (λ (x : RecordSetValue). same_labels owner.labels x.name.labels) sets) (filter (λ (x : RecordSetValue). same_labels owner.labels x.name.labels) sets)))
          → (AllByRecursion (λ t. settled (owner_code owner.labels, type_code t) ≡ true) (map (λ (x : RecordSetValue). x.record_type) (filter (λ (x : RecordSetValue). same_labels owner.labels x.name.labels) sets))
          → set_at sets k ≡ None) → cond c (Some s) (set_at sets k) ≡ None
      by true e true h every more = true_false (settled (place_of k)) (ap settled (place_at s h) ∙ every.0) un
      by true e false h every more = more every.1
      by false e true h every more = true_false (same_labels owner.labels s.name.labels) (owned s h) e
      by false e false h every more = more every

no_rows : rows_if None ≡ None
unfolding rows_if
no_rows = refl

-- where the types of the sets of an owner are settled, each set of the owner is
pub owners_settled : (zone : ZoneContent) (sets : List RecordSetValue) (owner : DomainName) (settled : Settled) → AreSetsOf zone sets
    → AllByRecursion (λ t. settled (owner_code owner.labels, type_code t) ≡ true) (map (λ (s : RecordSetValue). s.record_type) (filter (λ (s : RecordSetValue). same_labels owner.labels s.name.labels) sets))
    → AreOwnersSettled owner settled zone.rows
owners_settled zone sets owner settled are all k same un =
    ap (λ (rows : Rows). rows_map.get rows k) are.rows ∙ get-sets sets k ∙ ap rows_if (none_owned owner settled k same un sets all) ∙ no_rows

-- ---- results

pub on_ok : {A E : Type 0} (r : Result A E) (P Q : Type 0) → OnOk r P → (P → Q) → OnOk r Q
on_ok (Ok x) P Q p f = f p
on_ok (Err e) P Q p f = p

pub if_ok : {A E : Type 0} (r : Result A E) (P Q : A → Type 0) → IfOk r P → ((x : A) → P x → Q x) → IfOk r Q
if_ok (Ok x) P Q p f = f x p
if_ok (Err e) P Q p f = p

-- ---- loops over sets of an owner, and over records

-- the types that are left complete those that are settled, after one more
pub one_settled : (zone : ZoneContent) (owner : DomainName) (d mid new : Draft) (old rest initial : List RecordType) (t : RecordType) → old ≡ rest ++ t ∷ [] → GoesOn zone mid new
    → is_settled new (owner_code owner.labels, type_code t) ≡ true
    → ((settled : Settled) → Grows (is_settled mid) settled → AllByRecursion (λ (x : RecordType). settled (owner_code owner.labels, type_code x) ≡ true) old
    → AllByRecursion (λ (x : RecordType). settled (owner_code owner.labels, type_code x) ≡ true) initial)
    → (settled : Settled) → Grows (is_settled new) settled → AllByRecursion (λ (x : RecordType). settled (owner_code owner.labels, type_code x) ≡ true) rest
    → AllByRecursion (λ (x : RecordType). settled (owner_code owner.labels, type_code x) ≡ true) initial
one_settled zone owner d mid new old rest initial t is on settles before settled grows all =
    before settled (λ p e. grows p (on.grows p e))
    (subst (λ (l : List RecordType). AllByRecursion (λ (x : RecordType). settled (owner_code owner.labels, type_code x) ≡ true) l) (sym is)
    (all_more (λ (x : RecordType). settled (owner_code owner.labels, type_code x) ≡ true) rest t all (grows (owner_code owner.labels, type_code t) settles)))

-- the records that are left complete those whose sets are settled, after one more
pub record_settled : (zone : ZoneContent) (mid new : Draft) (records : List Record) (i : ℕ) (r : Record) → i < length records → r ≡ get_or records i r → GoesOn zone mid new
    → IsSettledFor (is_settled new) zone.rows r
    → ((settled : Settled) → Grows (is_settled mid) settled → AllByRecursion (IsSettledFor settled zone.rows) (drop i records) → AllByRecursion (IsSettledFor settled zone.rows) records)
    → (settled : Settled) → Grows (is_settled new) settled → AllByRecursion (IsSettledFor settled zone.rows) (drop (i + 1) records) → AllByRecursion (IsSettledFor settled zone.rows) records
record_settled zone mid new records i r below is on settles before settled grows all =
    before settled (λ p e. grows p (on.grows p e))
    (all_from_next (IsSettledFor settled zone.rows) records i r below is (settled_later (is_settled new) settled zone.rows r grows settles)
    (subst (λ (n : ℕ). AllByRecursion (IsSettledFor settled zone.rows) (drop n records)) (one_more i) all))
  where
    one_more : (n : ℕ) → n + 1 ≡ suc n
    one_more n = omega (arith)

-- a record whose set is settled, and the sets of its owner if it deletes them
pub record_is : (settled : Settled) (rows : Rows) (r : Record) (t : RecordType) → t ≡ type_of_record r → settled (owner_code r.name.labels, type_code t) ≡ true
    → (deletes_owner r ≡ true → AreOwnersSettled r.name settled rows) → IsSettledFor settled rows r
record_is settled rows r t is own owners = record {
  own = ap settled (place_of_key r.name.labels (type_of_record r)) ∙ ap (λ (x : RecordType). settled (owner_code r.name.labels, type_code x)) (sym is) ∙ own;
  of_owner = λ deletes k same un. owners deletes k same un;
}

pub not_deleting : {A : Type 0} (b c : Bool) → b ≡ c → b ≡ false → c ≡ true → A
not_deleting true c e f g = absurd (cc)
not_deleting false true e f g = absurd (cc)
not_deleting false false e f g = absurd (cc)

-- the requests that are left complete those whose sets are settled, after one more
pub arrived_settled : (zone : ZoneContent) (mid new : Draft) (requests : List Arrived) (i : ℕ) (a : Arrived) → i < length requests → a ≡ get_or requests i a → GoesOn zone mid new
    → IsSettledForOne (is_settled new) zone.rows a
    → ((settled : Settled) → Grows (is_settled mid) settled → AllByRecursion (IsSettledForOne settled zone.rows) (drop i requests) → AllByRecursion (IsSettledForOne settled zone.rows) requests)
    → (settled : Settled) → Grows (is_settled new) settled → AllByRecursion (IsSettledForOne settled zone.rows) (drop (i + 1) requests) → AllByRecursion (IsSettledForOne settled zone.rows) requests
arrived_settled zone mid new requests i a below is on settles before settled grows all =
    before settled (λ p e. grows p (on.grows p e))
    (all_from_next (IsSettledForOne settled zone.rows) requests i a below is (one_later (is_settled new) settled zone.rows a grows settles)
    (subst (λ (n : ℕ). AllByRecursion (IsSettledForOne settled zone.rows) (drop n requests)) (next_index i) all))
  where
    next_index : (n : ℕ) → n + 1 ≡ suc n
    next_index n = omega (arith)
