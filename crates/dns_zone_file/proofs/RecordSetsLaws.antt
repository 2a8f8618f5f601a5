-- Insertion of a record in the set of its owner and type.
use Rattle.std.proofs.Common.{◌≡◌, ◌<◌, ◌≤◌, ◌+◌, ℕ, zero, suc, Bool, true, false, not, cond, ◌&&◌, ◌==◌, List, [], ◌∷◌, ◌++◌, length, set, get_or, slice_get, Option, Some, None, is_some, nat_lt, Bor, IfSome, option_copied, refl, sym, ap, ◌∙◌, subst, arith}
use Rattle.std.proofs.lemmas.Bool.Decides.{nat_tests}
use Rattle.std.proofs.lemmas.List.{set-get_or}
use Rattle.std.proofs.lemmas.Option.{slice_get_past, slice_get_read}
use Rattle.std.proofs.lemmas.List.Sums.{passes_at_first}
use Rattle.std.specs.List.{position_or_len}
use Rattle.dns_wire.specs.codes.RecordType.{type_number, type_of}
use Rattle.dns_wire.specs.declared.codes.record_type.RecordType.{RecordType}
use Rattle.dns_names.specs.Compare.{same_name}
use Rattle.dns_data.specs.rdata.{data_type}
use Rattle.dns_records.specs.Record.{Record}
use Rattle.dns_records.specs.RecordSet.{RecordSetValue, with_record, accepts_record, inserted, record_data}
use Rattle.std.proofs.lemmas.List.Folds.{find_at}
use Rattle.std.specs.Option.{option_map_or}
use Rattle.dns_wire.specs.codes.DNSClass.{class_number}
use Rattle.dns_names.specs.Name.{DomainName}
use Rattle.dns_zone_file.specs.RecordSets.{is_set_for, set_of, has_other_class, records_count, single_set, inserted_in, IsNamedType, HaveNamedTypes}
use Rattle.dns_zone_file.specs.declared.set_index.SetIndex.{SetIndex}
use Rattle.dns_zone_file.specs.internal.SetIndex.{has_key, place_of, IsIndexOf}
use Rattle.dns_zone_file.proofs.SetIndexLaws.{only_place, index_set}
use Rattle.dns_zone_file.proofs.PlaceLaws.{IsOnlyPlace, NonePasses, only_is_first, none_is_first, only_has, none_has, within}

-- ---- lists

one_further : (n : ℕ) → 1 + n ≡ suc n
one_further n = omega arith

write_further : {A : Type 0} (f : A → A) (x : A) (xs ys : List A) (i : ℕ) (d : A) → set xs i (f (get_or xs i d)) ≡ ys → set (x ∷ xs) (1 + i) (f (get_or (x ∷ xs) (1 + i) d)) ≡ x ∷ ys
write_further f x xs ys i d e =
    subst (λ (n : ℕ). set (x ∷ xs) n (f (get_or (x ∷ xs) n d)) ≡ x ∷ ys) (sym (one_further i)) (ap (λ l. x ∷ l) e)

write_step : {A : Type 0} (f : A → A) (b : Bool) (x : A) (xs ys : List A) (i : ℕ) (d : A) → (i < length xs → set xs i (f (get_or xs i d)) ≡ ys) → cond (not b) (1 + i) 0 < length (x ∷ xs) → set (x ∷ xs) (cond (not b) (1 + i) 0) (f (get_or (x ∷ xs) (cond (not b) (1 + i) 0) d)) ≡ cond b (f x ∷ xs) (x ∷ ys)
write_step f true x xs ys i d more h = refl
write_step f false x xs ys i d more h = write_further f x xs ys i d (more (omega arith))

push_step : {A : Type 0} (b : Bool) (x s : A) (first xs ys : List A) (i : ℕ) → (length xs ≤ i → xs ++ s ∷ [] ≡ ys) → length (x ∷ xs) ≤ cond (not b) (1 + i) 0 → (x ∷ xs) ++ s ∷ [] ≡ cond b first (x ∷ ys)
push_step true x s first xs ys i more h = absurd (omega arith)
push_step false x s first xs ys i more h = ap (λ l. x ∷ l) (more (omega arith))

-- the item at an index, as it is lent
pub lent_at : {A : Type 0} (xs : List A) (i : ℕ) (r : Option (Bor A)) → is_some r ≡ nat_lt i (length xs) → IfSome r (λ x. x.now ≡ get_or xs i x.now) → option_copied r ≡ slice_get xs i
lent_at xs i None e value = sym (slice_get_past xs i (grind (arith, nat_tests)))
lent_at xs i (Some x) e value = sym (slice_get_read xs (length xs) i x.now refl (grind (arith, nat_tests)) value)

-- ---- what an index finds

-- the set at the place
pub found_set : (sets : List RecordSetValue) (owner : DomainName) (t : RecordType) (place : ℕ) → IsOnlyPlace (has_key owner (type_number t)) sets place → slice_get sets place ≡ set_of sets owner t
found_set sets owner t place o = ap (slice_get sets) (only_is_first (has_key owner (type_number t)) sets place o) ∙ sym (find_at (has_key owner (type_number t)) sets)

pub no_set : (sets : List RecordSetValue) (owner : DomainName) (t : RecordType) → NonePasses (has_key owner (type_number t)) sets → None ≡ set_of sets owner t
no_set sets owner t none =
    sym (slice_get_past sets (position_or_len (has_key owner (type_number t)) sets) (none_is_first (has_key owner (type_number t)) sets none))
    ∙ sym (find_at (has_key owner (type_number t)) sets)

-- its class
pub class_found : (sets : List RecordSetValue) (r : Record) (place : ℕ) (s : RecordSetValue) → IsOnlyPlace (is_set_for r) sets place → slice_get sets place ≡ Some s → not (class_number s.dns_class == class_number r.dns_class) ≡ has_other_class sets r
class_found sets r place s o e =
    ap (λ (x : Option RecordSetValue). option_map_or (λ (s : RecordSetValue). not (class_number s.dns_class == class_number r.dns_class)) x false) (sym e)
    ∙ sym (only_has (is_set_for r) (λ (s : RecordSetValue). not (class_number s.dns_class == class_number r.dns_class)) sets place o)

pub no_class : (sets : List RecordSetValue) (r : Record) → NonePasses (is_set_for r) sets → false ≡ has_other_class sets r
no_class sets r none = sym (none_has (is_set_for r) (λ (s : RecordSetValue). not (class_number s.dns_class == class_number r.dns_class)) sets none)

-- ---- insertion

-- in the first set of the owner and the type
inserted_within : (xs : List RecordSetValue) (r : Record) (d : RecordSetValue) → position_or_len (is_set_for r) xs < length xs → set xs (position_or_len (is_set_for r) xs) (with_record (get_or xs (position_or_len (is_set_for r) xs) d) r 0) ≡ inserted_in xs r
inserted_within [] r d h = absurd (omega arith)
inserted_within (x ∷ xs) r d h =
    write_step (λ (s : RecordSetValue). with_record s r 0) (is_set_for r x) x xs (inserted_in xs r) (position_or_len (is_set_for r) xs) d (inserted_within xs r d) h

-- or in a new set
inserted_last : (xs : List RecordSetValue) (r : Record) → length xs ≤ position_or_len (is_set_for r) xs → xs ++ single_set r ∷ [] ≡ inserted_in xs r
inserted_last [] r h = refl
inserted_last (x ∷ xs) r h =
    push_step (is_set_for r x) x (single_set r) (with_record x r 0 ∷ xs) xs (inserted_in xs r) (position_or_len (is_set_for r) xs) (inserted_last xs r) h

-- ---- types

pub both : (a b : Bool) → (a && b) ≡ true → (a ≡ true) × (b ≡ true)
both true b e = (refl, e)
both false b e = absurd cc

-- the set at the place has the owner of the record
owner_at : (xs : List RecordSetValue) (r : Record) (d : RecordSetValue) → position_or_len (is_set_for r) xs < length xs → same_name r.name (get_or xs (position_or_len (is_set_for r) xs) d).name ≡ true
owner_at xs r d h =
    let s : RecordSetValue = get_or xs (position_or_len (is_set_for r) xs) d in
    (both (same_name r.name s.name) (type_number (data_type r.rdata) == type_number s.record_type) (passes_at_first (is_set_for r) xs d h)).0

pub same_number : (a b : ℕ) → (a == b) ≡ true → a ≡ b
same_number a b e = grind (arith, nat_tests)

-- a number has one named type
pub one_type : (a b : RecordType) → IsNamedType a → IsNamedType b → type_number a ≡ type_number b → a ≡ b
one_type a b named named' e = sym named ∙ ap (λ n. type_of n) e ∙ named'

named_at : (xs : List RecordSetValue) (i : ℕ) (d : RecordSetValue) → i < length xs → HaveNamedTypes xs → IsNamedType (get_or xs i d).record_type
named_at [] i d h named = absurd (omega arith)
named_at (x ∷ xs) zero d h named = named.0
named_at (x ∷ xs) (suc i) d h named = named_at xs i d (omega arith) named.1

-- and its type
type_at : (xs : List RecordSetValue) (r : Record) (d : RecordSetValue) → HaveNamedTypes xs → IsNamedType (data_type r.rdata) → position_or_len (is_set_for r) xs < length xs → data_type r.rdata ≡ (get_or xs (position_or_len (is_set_for r) xs) d).record_type
type_at xs r d named named' h =
    let s : RecordSetValue = get_or xs (position_or_len (is_set_for r) xs) d in
    one_type (data_type r.rdata) s.record_type named' (named_at xs (position_or_len (is_set_for r) xs) d h named)
    (same_number (type_number (data_type r.rdata)) (type_number s.record_type) (both (same_name r.name s.name) (type_number (data_type r.rdata) == type_number s.record_type) (passes_at_first (is_set_for r) xs d h)).1)

named_inserted : (b : Bool) (s t : RecordSetValue) → IsNamedType s.record_type → t.record_type ≡ s.record_type → IsNamedType (cond b t s).record_type
named_inserted true s t named e = subst IsNamedType (sym e) named
named_inserted false s t named e = named

-- after an insertion all types have the names of their numbers
pub named_after : (xs : List RecordSetValue) (r : Record) → HaveNamedTypes xs → IsNamedType (data_type r.rdata) → HaveNamedTypes (inserted_in xs r)
named_after [] r named named' = (named', tt)
named_after (x ∷ xs) r named named' =
    named_step (is_set_for r x) (with_record x r 0 ∷ xs) (x ∷ inserted_in xs r)
    (named_inserted (accepts_record x r) x (record x { ttl = r.ttl; serial = 0; records = inserted record_data x.records r }) named.0 refl, named.1)
    (named.0, named_after xs r named.1 named')
  where
    named_step : (b : Bool) (a c : List RecordSetValue) → HaveNamedTypes a → HaveNamedTypes c → HaveNamedTypes (cond b a c)
    named_step true a c p q = p
    named_step false a c p q = q

-- ---- what the code finds

-- a place of the record's set, and the set there
pub record IsPlace (xs : List RecordSetValue) (r : Record) (place : ℕ) (s : RecordSetValue) : Type 0 where
  pub at : place ≡ position_or_len (is_set_for r) xs
  pub within : place < length xs
  pub set_is : s ≡ get_or xs place s

pub place_found : (index : SetIndex) (xs : List RecordSetValue) (r : Record) (place : ℕ) (s : RecordSetValue) → IsIndexOf index xs → place_of index r.name (type_number (data_type r.rdata)) ≡ Some place → s ≡ get_or xs place s → IsPlace xs r place s
place_found index xs r place s is e same =
    let o = only_place index xs r.name (type_number (data_type r.rdata)) place is e in
    record {
      at = only_is_first (is_set_for r) xs place o;
      within = within (is_set_for r) xs place o.passes;
      set_is = same;
    }

pub owner_is : {xs : List RecordSetValue} {r : Record} {place : ℕ} {s : RecordSetValue} → IsPlace xs r place s → same_name r.name s.name ≡ true
owner_is {xs} {r} {place} {s} p =
    let first : position_or_len (is_set_for r) xs < length xs = omega (arith, p.at, p.within) in
    subst (λ (x : RecordSetValue). same_name r.name x.name ≡ true) (sym (p.set_is ∙ ap (λ (n : ℕ). get_or xs n s) p.at)) (owner_at xs r s first)

pub type_is : {xs : List RecordSetValue} {r : Record} {place : ℕ} {s : RecordSetValue} → IsPlace xs r place s → HaveNamedTypes xs → IsNamedType (data_type r.rdata) → data_type r.rdata ≡ s.record_type
type_is {xs} {r} {place} {s} p named named' =
    let first : position_or_len (is_set_for r) xs < length xs = omega (arith, p.at, p.within) in
    type_at xs r s named named' first ∙ ap (λ (x : RecordSetValue). x.record_type) (sym (p.set_is ∙ ap (λ (n : ℕ). get_or xs n s) p.at))

pub inserted_at : {xs : List RecordSetValue} {r : Record} {place : ℕ} {s : RecordSetValue} (next : RecordSetValue) → IsPlace xs r place s → next ≡ with_record s r 0 → set xs place next ≡ inserted_in xs r
inserted_at {xs} {r} {place} {s} next p e =
    let first : position_or_len (is_set_for r) xs < length xs = omega (arith, p.at, p.within) in
    let is : s ≡ get_or xs (position_or_len (is_set_for r) xs) s = p.set_is ∙ ap (λ (n : ℕ). get_or xs n s) p.at in
    ap (λ (x : RecordSetValue). set xs place x) (e ∙ ap (λ (x : RecordSetValue). with_record x r 0) is)
    ∙ ap (λ (n : ℕ). set xs n (with_record (get_or xs (position_or_len (is_set_for r) xs) s) r 0)) p.at
    ∙ inserted_within xs r s first

pub unchanged_at : {xs : List RecordSetValue} {r : Record} {place : ℕ} {s : RecordSetValue} (next : RecordSetValue) → IsPlace xs r place s → next ≡ s → set xs place next ≡ xs
unchanged_at {xs} {r} {place} {s} next p e =
    ap (λ (x : RecordSetValue). set xs place x) (e ∙ p.set_is) ∙ set-get_or xs place s

same_owner : (b : Bool) (s t : RecordSetValue) → t.name ≡ s.name → (cond b t s).name ≡ s.name
same_owner true s t e = e
same_owner false s t e = refl

same_type : (b : Bool) (s t : RecordSetValue) → t.record_type ≡ s.record_type → (cond b t s).record_type ≡ s.record_type
same_type true s t e = e
same_type false s t e = refl

-- the index is that of the sets after an insertion in one of them
pub indexed_at : {index : SetIndex} {xs : List RecordSetValue} {r : Record} {place : ℕ} {s : RecordSetValue} (next : RecordSetValue) → IsPlace xs r place s → next ≡ with_record s r 0 → IsIndexOf index xs → IsIndexOf index (set xs place next)
indexed_at {index} {xs} {r} {place} {s} next p e is =
    let t : RecordSetValue = record s { ttl = r.ttl; serial = 0; records = inserted record_data s.records r } in
    let name : next.name ≡ (get_or xs place s).name = ap (λ (x : RecordSetValue). x.name) e ∙ same_owner (accepts_record s r) s t refl ∙ ap (λ (x : RecordSetValue). x.name) p.set_is in
    let type : next.record_type ≡ (get_or xs place s).record_type = ap (λ (x : RecordSetValue). x.record_type) e ∙ same_type (accepts_record s r) s t refl ∙ ap (λ (x : RecordSetValue). x.record_type) p.set_is in
    index_set index xs place next s name type is

-- a new set
pub inserted_new : (xs : List RecordSetValue) (r : Record) → NonePasses (is_set_for r) xs → xs ++ single_set r ∷ [] ≡ inserted_in xs r
inserted_new xs r none = inserted_last xs r (none_is_first (is_set_for r) xs none)

-- ---- the number of records

count_set : (xs : List RecordSetValue) (place : ℕ) (next d : RecordSetValue) → place < length xs → length (get_or xs place d).records < length next.records → records_count xs < records_count (set xs place next)
count_set [] place next d h less = absurd (omega arith)
count_set (x ∷ xs) zero next d h less = omega (arith, less)
count_set (x ∷ xs) (suc i) next d h less = omega (arith, count_set xs i next d (omega arith) less)

count_push : (xs : List RecordSetValue) (s : RecordSetValue) → records_count (xs ++ s ∷ []) ≡ records_count xs + length s.records
count_push [] s = omega arith
count_push (x ∷ xs) s = omega (arith, count_push xs s)

-- it grows where it grows in the record's set
pub count_at : {xs : List RecordSetValue} {r : Record} {place : ℕ} {s : RecordSetValue} → IsPlace xs r place s → length s.records < length (with_record s r 0).records → records_count xs < records_count (inserted_in xs r)
count_at {xs} {r} {place} {s} p less =
    let next : RecordSetValue = with_record s r 0 in
    let there : length (get_or xs place s).records < length next.records = subst (λ (x : RecordSetValue). length x.records < length next.records) p.set_is less in
    subst (λ (l : List RecordSetValue). records_count xs < records_count l) (inserted_at next p refl) (count_set xs place next s p.within there)

-- and with a new set
pub count_new : (xs : List RecordSetValue) (r : Record) → NonePasses (is_set_for r) xs → records_count xs < records_count (inserted_in xs r)
count_new xs r none = subst (λ (l : List RecordSetValue). records_count xs < records_count l) (inserted_new xs r none) (omega (arith, count_push xs (single_set r)))
