-- The sets that records form, inserted one after another.
use Rattle.std.proofs.Common.{◌≡◌, ◌==◌, ◌<◌, ◌∙◌, ℕ, Bool, true, false, not, cond, ◌&&◌, ◌||◌, List, [], ◌∷◌, ◌++◌, map, flat_map, length, refl, sym, ap, subst, arith}
use Rattle.std.proofs.lemmas.List.{append_assoc, append-nil}
use Rattle.std.proofs.lemmas.Bool.Decides.{nat_tests}
use Rattle.std.specs.List.{list_any, AllByRecursion, IsDistinct}
use Rattle.dns_wire.specs.codes.RecordType.{type_number}
use Rattle.dns_wire.specs.declared.codes.record_type.RecordType.{RecordType}
use Rattle.dns_wire.specs.declared.codes.record_type.RecordType.TheVariants as types
use Rattle.dns_wire.specs.declared.codes.dns_class.DNSClass.TheVariants.{IN}
use Rattle.dns_names.specs.Name.{DomainName}
use Rattle.dns_names.specs.Compare.{same_name}
use Rattle.dns_names.specs.internal.Compare.{same_name-equivalence}
use Rattle.dns_data.specs.rdata.{data_type, same_data}
use Rattle.dns_records.specs.Record.{Record}
use Rattle.dns_records.specs.RecordSet.{RecordSetValue, AreDistinct, record_data, has_data, is_addition, added, inserted, accepts_record, with_record}
use Rattle.dns_zone_file.specs.RecordSets.{is_set_of, is_set_for, single_set, inserted_in}
use Rattle.dns_zone_file.specs.Parsed.{AreDistinctSets, is_singleton_type}
use Rattle.dns_zone_file.specs.Printed.{inserted_each}
use Rattle.dns_zone_file.proofs.DistinctLaws.{last_too}
use Rattle.dns_zone_file.proofs.ParsedLaws.{set_both_ways}
use Rattle.dns_zone.specs.Answer.{record_of}
use Rattle.dns_zone.specs.Rows.{row_of, IsSoundSet, AreSoundSets}
use Rattle.dns_zone.proofs.FirstLaws.{others_before}

-- ---- records of sets

-- a record as it is printed, with an owner
abbrev pub plain : DomainName → Record → Record
plain owner r = record_of owner (row_of r)

-- the records of a set as they are printed
abbrev pub printed : RecordSetValue → List Record
printed s = map (plain s.name) s.records

-- ---- one record

is_plain_addition : (t : RecordType) (xs : List Record) (r : Record) → is_singleton_type t ≡ false → is_addition record_data t xs r ≡ not (has_data record_data xs (record_data r))
is_plain_addition types.CNAME xs r e = absurd (cc)
is_plain_addition types.SOA xs r e = absurd (cc)
is_plain_addition other xs r e = refl

added_last : (t : RecordType) (xs : List Record) (r : Record) → is_singleton_type t ≡ false → added t xs r ≡ xs ++ r ∷ []
added_last types.CNAME xs r e = absurd (cc)
added_last types.SOA xs r e = absurd (cc)
added_last other xs r e = refl

-- the set with one more record
abbrev one_more : RecordSetValue → Record → RecordSetValue
one_more t r = record t { ttl = r.ttl; serial = 0; records = t.records ++ r ∷ [] }

joins : (t : RecordSetValue) (r : Record) → is_singleton_type (data_type r.rdata) ≡ false → has_data record_data t.records r.rdata ≡ false → with_record t r 0 ≡ one_more t r
joins t r e new =
    let accepts : accepts_record t r ≡ true = is_plain_addition (data_type r.rdata) t.records r e ∙ ap not new in
    let records : inserted record_data t.records r ≡ t.records ++ r ∷ [] =
    ap (λ b. cond b (added (data_type r.rdata) t.records r) t.records) accepts ∙ added_last (data_type r.rdata) t.records r e in
    ap (λ b. cond b (record t { ttl = r.ttl; serial = 0; records = inserted record_data t.records r }) t) accepts
    ∙ ap (λ (l : List Record). record t { ttl = r.ttl; serial = 0; records = l }) records

into_new : (acc : List RecordSetValue) (r : Record) → AllByRecursion (λ s. is_set_for r s ≡ false) acc → inserted_in acc r ≡ acc ++ single_set r ∷ []
into_new [] r all = refl
into_new (s ∷ acc) r all =
    ap (λ b. cond b (with_record s r 0 ∷ acc) (s ∷ inserted_in acc r)) all.0 ∙ ap (λ (l : List RecordSetValue). s ∷ l) (into_new acc r all.1)

into_last : (acc : List RecordSetValue) (t : RecordSetValue) (r : Record) → AllByRecursion (λ s. is_set_for r s ≡ false) acc → is_set_for r t ≡ true → inserted_in (acc ++ t ∷ []) r ≡ acc ++ with_record t r 0 ∷ []
into_last [] t r all e = ap (λ b. cond b (with_record t r 0 ∷ []) (t ∷ single_set r ∷ [])) e
into_last (s ∷ acc) t r all e =
    ap (λ b. cond b (with_record s r 0 ∷ (acc ++ t ∷ [])) (s ∷ inserted_in (acc ++ t ∷ []) r)) all.0
    ∙ ap (λ (l : List RecordSetValue). s ∷ l) (into_last acc t r all.1 e)

-- ---- the records of a set after the first

abbrev grown : RecordSetValue → List Record → RecordSetValue
grown t [] = t
grown t (r ∷ rs) = grown (one_more t r) rs

pub record IsFor (owner : DomainName) (t : RecordType) (r : Record) : Type 0 where
  pub owner_is : r.name ≡ owner
  pub type_is : data_type r.rdata ≡ t

AreOthers : DomainName → RecordType → List RecordSetValue → Type 0
AreOthers owner t acc = AllByRecursion (λ (s : RecordSetValue). is_set_of owner t s ≡ false) acc

others_for : (owner : DomainName) (t : RecordType) (r : Record) (acc : List RecordSetValue) → IsFor owner t r → AreOthers owner t acc → AllByRecursion (λ s. is_set_for r s ≡ false) acc
unfolding AreOthers
others_for owner t r [] h all = tt
others_for owner t r (s ∷ acc) h all = ((λ i. is_set_of (h.owner_is i) (h.type_is i) s) ∙ all.0, others_for owner t r acc h all.1)

equal_to_itself : (n : ℕ) → (n == n) ≡ true
equal_to_itself n = grind (arith, nat_tests)

itself : (s : RecordSetValue) → is_set_of s.name s.record_type s ≡ true
itself s = λ i. same_name-equivalence.refl s.name i && equal_to_itself (type_number s.record_type) i

none_of : {A : Type 0} (p : A → Bool) (xs : List A) → AllByRecursion (λ x. p x ≡ false) xs → list_any p xs ≡ false
none_of p [] all = refl
none_of p (x ∷ xs) all = (λ i. all.0 i || list_any p xs) ∙ none_of p xs all.1

new_data : (xs : List Record) (r : Record) (rs : List Record) → AreDistinct record_data (xs ++ r ∷ rs) → has_data record_data xs r.rdata ≡ false
new_data xs r rs d = none_of (λ (x : Record). same_data x.rdata r.rdata) xs (others_before (λ (x y : Record). same_data (record_data x) (record_data y)) xs r rs d)

grow : (acc : List RecordSetValue) (t : RecordSetValue) (rs : List Record) → AllByRecursion (IsFor t.name t.record_type) rs → AreOthers t.name t.record_type acc → is_singleton_type t.record_type ≡ false
    → AreDistinct record_data (t.records ++ rs) → inserted_each (acc ++ t ∷ []) rs ≡ acc ++ grown t rs ∷ []
grow acc t [] all others e d = refl
grow acc t (r ∷ rs) all others e d =
    let h = all.0 in
    let last : inserted_in (acc ++ t ∷ []) r ≡ acc ++ with_record t r 0 ∷ [] =
    into_last acc t r (others_for t.name t.record_type r acc h others) ((λ i. is_set_of (h.owner_is i) (h.type_is i) t) ∙ itself t) in
    let joined : with_record t r 0 ≡ one_more t r = joins t r (ap is_singleton_type h.type_is ∙ e) (new_data t.records r rs d) in
    ap (λ (l : List RecordSetValue). inserted_each l rs) (last ∙ ap (λ (u : RecordSetValue). acc ++ u ∷ []) joined)
    ∙ grow acc (one_more t r) rs all.1 others e (subst (λ (l : List Record). AreDistinct record_data l) (sym (append_assoc t.records (r ∷ []) rs)) d)

-- ---- the records of a set

abbrev pub made_from : DomainName → RecordSetValue → List Record → RecordSetValue
made_from owner s [] = s
made_from owner s (r ∷ rs) = grown (single_set (plain owner r)) (map (plain owner) rs)

-- the set that the records of a set form when they are inserted
abbrev pub made : RecordSetValue → RecordSetValue
made s = made_from s.name s s.records

all_for : (owner : DomainName) (t u : RecordType) (rs : List Record) → u ≡ t → AllByRecursion (λ r. data_type r.rdata ≡ t) rs → AllByRecursion (IsFor owner u) (map (plain owner) rs)
all_for owner t u [] e all = tt
all_for owner t u (r ∷ rs) e all = (record { owner_is = refl; type_is = all.0 ∙ sym e }, all_for owner t u rs e all.1)

others_plain : (owner : DomainName) (x : Record) (rs : List Record) → AllByRecursion (λ r. same_data x.rdata r.rdata ≡ false) rs → AllByRecursion (λ (r : Record). same_data x.rdata r.rdata ≡ false) (map (plain owner) rs)
others_plain owner x [] all = tt
others_plain owner x (r ∷ rs) all = (all.0, others_plain owner x rs all.1)

distinct_plain : (owner : DomainName) (rs : List Record) → AreDistinct record_data rs → AreDistinct record_data (map (plain owner) rs)
unfolding IsDistinct
distinct_plain owner [] d = tt
distinct_plain owner (r ∷ rs) d = (others_plain owner r rs d.0, distinct_plain owner rs d.1)

none_left : {A : Type 0} (x : A) (xs : List A) → length (x ∷ xs) ≡ 1 → xs ≡ []
none_left x [] e = refl
none_left x (y ∷ xs) e = absurd (omega (arith, e))

set_in : (acc : List RecordSetValue) (s : RecordSetValue) (owner : DomainName) (t : RecordType) (records : List Record) → AllByRecursion (λ r. data_type r.rdata ≡ t) records → AreDistinct record_data records
    → (is_singleton_type t ≡ true → length records ≡ 1) → 0 < length records → AreOthers owner t acc
    → inserted_each acc (map (plain owner) records) ≡ acc ++ made_from owner s records ∷ []
set_in acc s owner t [] all d single some others = absurd (omega (arith, some))
set_in acc s owner t (r ∷ rs) all d single some others =
    let mine : AreOthers owner (data_type r.rdata) acc = subst (λ (u : RecordType). AreOthers owner u acc) (sym all.0) others in
    let first : inserted_in acc (plain owner r) ≡ acc ++ single_set (plain owner r) ∷ [] =
    into_new acc (plain owner r) (others_for owner (data_type r.rdata) (plain owner r) acc (record { owner_is = refl; type_is = refl }) mine) in
    ap (λ (l : List RecordSetValue). inserted_each l (map (plain owner) rs)) first ∙ rest mine (is_singleton_type t) refl
  where
    rest : AreOthers owner (data_type r.rdata) acc → (b : Bool) → is_singleton_type t ≡ b
        → inserted_each (acc ++ single_set (plain owner r) ∷ []) (map (plain owner) rs) ≡ acc ++ grown (single_set (plain owner r)) (map (plain owner) rs) ∷ []
    rest mine true e =
        subst (λ (l : List Record). inserted_each (acc ++ single_set (plain owner r) ∷ []) (map (plain owner) l) ≡ acc ++ grown (single_set (plain owner r)) (map (plain owner) l) ∷ [])
        (sym (none_left r rs (single e))) refl
    rest mine false e =
        grow acc (single_set (plain owner r)) (map (plain owner) rs) (all_for owner t (data_type r.rdata) rs all.0 all.1) mine (ap is_singleton_type all.0 ∙ e)
        (distinct_plain owner (r ∷ rs) d)

-- ---- what that set is like

record IsGrown (t : RecordSetValue) (rs : List Record) (u : RecordSetValue) : Type 0 where
  name : u.name ≡ t.name
  record_type : u.record_type ≡ t.record_type
  dns_class : u.dns_class ≡ t.dns_class
  records : u.records ≡ t.records ++ rs

grown_is : (t : RecordSetValue) (rs : List Record) → IsGrown t rs (grown t rs)
grown_is t [] = record { name = refl; record_type = refl; dns_class = refl; records = sym (append-nil t.records) }
grown_is t (r ∷ rs) =
    let g = grown_is (one_more t r) rs in
    record { name = g.name; record_type = g.record_type; dns_class = g.dns_class; records = g.records ∙ append_assoc t.records (r ∷ []) rs }

-- a set with the owner, the type and the records of another, of the class IN
pub record IsMade (s u : RecordSetValue) : Type 0 where
  pub name : u.name ≡ s.name
  pub record_type : u.record_type ≡ s.record_type
  pub dns_class : u.dns_class ≡ IN
  pub records : u.records ≡ printed s

made_at : (s : RecordSetValue) (records : List Record) → records ≡ s.records → AllByRecursion (λ r. data_type r.rdata ≡ s.record_type) records → 0 < length records → IsMade s (made_from s.name s records)
made_at s [] e all some = absurd (omega (arith, some))
made_at s (r ∷ rs) e all some =
    let g = grown_is (single_set (plain s.name r)) (map (plain s.name) rs) in
    record { name = g.name; record_type = g.record_type ∙ all.0; dns_class = g.dns_class; records = g.records ∙ ap (map (plain s.name)) e }

pub made_is : (s : RecordSetValue) → IsSoundSet s → IsMade s (made s)
made_is s sound = made_at s s.records refl sound.of_type sound.filled

-- ---- the records of sets

inserted_parts : (acc : List RecordSetValue) (xs ys : List Record) → inserted_each acc (xs ++ ys) ≡ inserted_each (inserted_each acc xs) ys
inserted_parts acc [] ys = refl
inserted_parts acc (x ∷ xs) ys = inserted_parts (inserted_in acc x) xs ys

AreNew : List RecordSetValue → List RecordSetValue → Type 0
AreNew acc sets = AllByRecursion (λ (s : RecordSetValue). AreOthers s.name s.record_type acc) sets

still_new : (acc : List RecordSetValue) (s u : RecordSetValue) (sets : List RecordSetValue) → IsMade s u → AllByRecursion (λ t. is_set_of s.name s.record_type t ≡ false) sets → AreNew acc sets → AreNew (acc ++ u ∷ []) sets
unfolding AreNew AreOthers
still_new acc s u [] m apart new = tt
still_new acc s u (t ∷ sets) m apart new =
    let other : is_set_of t.name t.record_type u ≡ false =
    (λ i. same_name t.name (m.name i) && (type_number t.record_type == type_number (m.record_type i)))
    ∙ set_both_ways t.name s.name t.record_type s.record_type ∙ apart.0 in
    (last_too _ acc u new.0 other, still_new acc s u sets m apart.1 new.1)

all_in : (acc sets : List RecordSetValue) → AreSoundSets sets → AreDistinctSets sets → AreNew acc sets → inserted_each acc (flat_map printed sets) ≡ acc ++ map made sets
unfolding IsDistinct AreNew
all_in acc [] sound d new = sym (append-nil acc)
all_in acc (s ∷ sets) sound d new =
    inserted_parts acc (printed s) (flat_map printed sets)
    ∙ ap (λ (l : List RecordSetValue). inserted_each l (flat_map printed sets)) (set_in acc s s.name s.record_type s.records sound.0.of_type sound.0.distinct sound.0.single sound.0.filled new.0)
    ∙ all_in (acc ++ made s ∷ []) sets sound.1 d.1 (still_new acc s (made s) sets (made_is s sound.0) d.0 new.1)
    ∙ append_assoc acc (made s ∷ []) (map made sets)

nothing_before : (sets : List RecordSetValue) → AreNew [] sets
unfolding AreNew AreOthers
nothing_before [] = tt
nothing_before (s ∷ sets) = (tt, nothing_before sets)

-- the records of distinct sets form these sets again
pub sets_again : (sets : List RecordSetValue) → AreSoundSets sets → AreDistinctSets sets → inserted_each [] (flat_map printed sets) ≡ map made sets
sets_again sets sound d = all_in [] sets sound d (nothing_before sets)
