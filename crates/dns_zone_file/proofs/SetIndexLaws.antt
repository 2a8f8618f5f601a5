-- An index after a place is set, and the sets that it is of.
use Rattle.std.proofs.Common.{◌≡◌, ◌<◌, ℕ, Bool, true, false, cond, ◌&&◌, ◌==◌, List, [], ◌∷◌, ◌++◌, length, set, get_or, Option, Some, None, refl, sym, ap, ◌∙◌, arith}
use Rattle.std.proofs.lemmas.Bool.{eqb-true, eqb-false}
use Rattle.std.proofs.lemmas.Bool.Decides.{nat_tests}
use Rattle.std.proofs.lemmas.Option.{none-some, same_Some}
use Rattle.std.specs.BTreeMap as tree
use Rattle.std.specs.BTreeMap.{BTreeMap}
use Rattle.std.specs.HashMap as hash
use Rattle.std.specs.HashMap.{HashMap}
use Rattle.std.specs.HashMap.Eq.{lookup_congr}
use Rattle.std.specs.Map.{lookup}
use Rattle.std.specs.Ordering.{nat_cmp, is_eq}
use Rattle.dns_names.specs.Name.{DomainName}
use Rattle.dns_names.specs.Compare.{same_name}
use Rattle.dns_names.specs.internal.Compare.{same_name-equivalence}
use Rattle.dns_wire.specs.codes.RecordType.{type_number}
use Rattle.dns_records.specs.RecordSet.{RecordSetValue}
use Rattle.dns_zone_file.specs.declared.set_index.SetIndex.{SetIndex}
use Rattle.dns_zone_file.specs.internal.SetIndex.{place_among, place_of, HasPlaced, has_key, is_place_of, IsIndexOf}
use Rattle.dns_zone_file.proofs.PlaceLaws.{NonePasses, IsOnlyPlace, push_at, set_at, within}

is_eq-nat_cmp : (a b : ℕ) → is_eq (nat_cmp a b) ≡ (a == b)
is_eq-nat_cmp a b = grind (arith, nat_tests)

-- equal names have the same places
alike : {X S : Type 0} (owners : HashMap DomainName X S) (owner : DomainName) (found : Option X) → hash.get same_name owners owner ≡ found → (other : DomainName) → same_name owner other ≡ true → hash.get same_name owners other ≡ found
alike owners owner found e other same = sym (lookup_congr same_name same_name-equivalence.congr owners.entries owner other same) ∙ e

-- the places of an owner after one is set
pub number_placed : (old new : BTreeMap ℕ ℕ) (found : Option (BTreeMap ℕ ℕ)) (key number place : ℕ) → key ≡ number → tree.Updates nat_cmp old new key (Some place) → ((n : ℕ) → tree.get nat_cmp old n ≡ place_among found n) → (n : ℕ) → tree.get nat_cmp new n ≡ cond (number == n) (Some place) (place_among found n)
number_placed old new found key number place same updates had n =
    updates.0 n ∙ ap (λ (b : Bool). cond b (Some place) (tree.get nat_cmp old n)) (is_eq-nat_cmp key n ∙ ap (λ (k : ℕ). k == n) same)
    ∙ ap (λ (o : Option ℕ). cond (number == n) (Some place) o) (had n)

-- no places, and the same ones
pub none_at : (places : BTreeMap ℕ ℕ) → tree.IsEmpty places → (n : ℕ) → tree.get nat_cmp places n ≡ None
none_at places e n = ap (λ (es : List (ℕ × ℕ)). lookup (tree.is_at (nat_cmp n)) es) e

pub same_at : (old new : BTreeMap ℕ ℕ) → tree.IsUnchanged old new → (n : ℕ) → tree.get nat_cmp new n ≡ tree.get nat_cmp old n
same_at old new e n = ap (λ (es : List (ℕ × ℕ)). lookup (tree.is_at (nat_cmp n)) es) e

module _ {S : Type 0} (old new : HashMap DomainName (BTreeMap ℕ ℕ) S) (owner : DomainName) (found : Option (BTreeMap ℕ ℕ)) (places : BTreeMap ℕ ℕ) where
  -- the places of an owner are others
  abbrev pub HasOthers : Type 0
  HasOthers = (q : DomainName) → hash.get same_name new q ≡ cond (same_name owner q) (Some places) (hash.get same_name old q)

  pub others_by : (between : HashMap DomainName (BTreeMap ℕ ℕ) S) (key : DomainName) → between ≡ old → key ≡ owner → hash.Updates same_name between new key (Some places) → HasOthers
  others_by between key same e updates q =
      updates.0 q
      ∙ ap (λ (k : DomainName). cond (same_name k q) (Some places) (hash.get same_name between q)) e
      ∙ ap (λ (m : HashMap DomainName (BTreeMap ℕ ℕ) S). cond (same_name owner q) (Some places) (hash.get same_name m q)) same

  pub placed : (number place : ℕ) → hash.get same_name old owner ≡ found → HasOthers → ((n : ℕ) → tree.get nat_cmp places n ≡ cond (number == n) (Some place) (place_among found n)) → (other : DomainName) (n : ℕ) → place_among (hash.get same_name new other) n ≡ cond (same_name owner other && (number == n)) (Some place) (place_among (hash.get same_name old other) n)
  placed number place had has at other n = ap (λ (o : Option (BTreeMap ℕ ℕ)). place_among o n) (has other) ∙ in_case (same_name owner other) refl
    where
      in_case : (b : Bool) → same_name owner other ≡ b → place_among (cond b (Some places) (hash.get same_name old other)) n ≡ cond (b && (number == n)) (Some place) (place_among (hash.get same_name old other) n)
      in_case true e = at n ∙ ap (λ (o : Option (BTreeMap ℕ ℕ)). cond (number == n) (Some place) (place_among o n)) (sym (alike old owner found had other e))
      in_case false e = refl

  pub same_places : hash.get same_name old owner ≡ found → HasOthers → ((n : ℕ) → tree.get nat_cmp places n ≡ place_among found n) → (other : DomainName) (n : ℕ) → place_among (hash.get same_name new other) n ≡ place_among (hash.get same_name old other) n
  same_places had has at other n = ap (λ (o : Option (BTreeMap ℕ ℕ)). place_among o n) (has other) ∙ in_case (same_name owner other) refl
    where
      in_case : (b : Bool) → same_name owner other ≡ b → place_among (cond b (Some places) (hash.get same_name old other)) n ≡ place_among (hash.get same_name old other) n
      in_case true e = at n ∙ ap (λ (o : Option (BTreeMap ℕ ℕ)). place_among o n) (sym (alike old owner found had other e))
      in_case false e = refl

-- ---- the sets

-- the places for an owner and a type
pub only_place : (index : SetIndex) (sets : List RecordSetValue) (owner : DomainName) (number place : ℕ) → IsIndexOf index sets → place_of index owner number ≡ Some place → IsOnlyPlace (has_key owner number) sets place
only_place index sets owner number place is e = record { passes = is.finds owner number place e; only = λ k h. same_Some k place (sym (is.has_all owner number k h) ∙ e) }

pub no_place : (index : SetIndex) (sets : List RecordSetValue) (owner : DomainName) (number : ℕ) → IsIndexOf index sets → place_of index owner number ≡ None → NonePasses (has_key owner number) sets
no_place index sets owner number is e k h = none-some k (sym e ∙ is.has_all owner number k h)

-- a set that keeps its owner and its type
pub index_set : (index : SetIndex) (sets : List RecordSetValue) (i : ℕ) (s d : RecordSetValue) → s.name ≡ (get_or sets i d).name → s.record_type ≡ (get_or sets i d).record_type → IsIndexOf index sets → IsIndexOf index (set sets i s)
index_set index sets i s d name type is =
    let kept : (owner : DomainName) (number place : ℕ) → is_place_of (set sets i s) owner number place ≡ is_place_of sets owner number place =
    λ owner number place. set_at (has_key owner number) sets i s d (cc (name, type)) place in
    record {
      finds = λ owner number place e. kept owner number place ∙ is.finds owner number place e;
      has_all = λ owner number place h. is.has_all owner number place (sym (kept owner number place) ∙ h);
    }

-- a further set
place_alike : (index : SetIndex) (owner other : DomainName) (number n : ℕ) → same_name owner other ≡ true → number ≡ n → place_of index other n ≡ place_of index owner number
place_alike index owner other number n same e =
    ap (λ (o : Option (BTreeMap ℕ ℕ)). place_among o n) (alike index.owners owner (hash.get same_name index.owners owner) refl other same)
    ∙ ap (λ (k : ℕ). place_among (hash.get same_name index.owners owner) k) (sym e)

turned : (a b : ℕ) → (a == b) ≡ (b == a)
turned a b = grind (arith, nat_tests)

key_turned : (s : RecordSetValue) (owner : DomainName) (number : ℕ) → (same_name s.name owner && (type_number s.record_type == number)) ≡ has_key owner number s
key_turned s owner number =
    ap (λ (b : Bool). b && (type_number s.record_type == number)) (same_name-equivalence.symm s.name owner)
    ∙ ap (λ (b : Bool). same_name owner s.name && b) (turned (type_number s.record_type) number)

both : (a b : Bool) → (a && b) ≡ true → (a ≡ true) × (b ≡ true)
both true b e = (refl, e)
both false b e = absurd cc

-- whether it is at the end, or has another key
finds_pushed : (b at_end : Bool) (n k : ℕ) (old : Option ℕ) (there : Bool) → at_end ≡ (k == n) → (old ≡ Some k → (there ≡ true) × (k < n)) → cond b (Some n) old ≡ Some k → cond at_end b there ≡ true
finds_pushed true true n k old there end finds e = refl
finds_pushed true false n k old there end finds e = absurd (eqb-false k n (sym end) (sym (same_Some n k e)))
finds_pushed false true n k old there end finds e = absurd (let h = finds e in let same : k ≡ n = eqb-true k n (sym end) in omega (arith, h.1, same))
finds_pushed false false n k old there end finds e = (finds e).0

all_pushed : (b at_end : Bool) (n k : ℕ) (old : Option ℕ) (there : Bool) → at_end ≡ (k == n) → (there ≡ true → old ≡ Some k) → (b ≡ true → old ≡ None) → cond at_end b there ≡ true → cond b (Some n) old ≡ Some k
all_pushed true true n k old there end all absent h = ap (λ (m : ℕ). Some m) (sym (eqb-true k n (sym end)))
all_pushed true false n k old there end all absent h = absurd (none-some k (sym (absent refl) ∙ all h))
all_pushed false true n k old there end all absent h = absurd cc
all_pushed false false n k old there end all absent h = all h

pub placed_as : (old new : SetIndex) {owner owner' : DomainName} {number number' place place' : ℕ} → owner ≡ owner' → number ≡ number' → place ≡ place' → HasPlaced old owner number place new → HasPlaced old owner' number' place' new
placed_as old new {owner} {owner'} {number} {number'} {place} {place'} e f g placed other n =
    placed other n
    ∙ ap (λ (o : DomainName). cond (same_name o other && (number == n)) (Some place) (place_of old other n)) e
    ∙ ap (λ (k : ℕ). cond (same_name owner' other && (k == n)) (Some place) (place_of old other n)) f
    ∙ ap (λ (k : ℕ). cond (same_name owner' other && (number' == n)) (Some k) (place_of old other n)) g

pub index_push : (old new : SetIndex) (sets : List RecordSetValue) (s : RecordSetValue) → IsIndexOf old sets → place_of old s.name (type_number s.record_type) ≡ None → HasPlaced old s.name (type_number s.record_type) (length sets) new → IsIndexOf new (sets ++ s ∷ [])
index_push old new sets s is absent placed = record { finds = finds; has_all = has_all }
  where
    place_is : (owner : DomainName) (number : ℕ) → place_of new owner number ≡ cond (has_key owner number s) (Some (length sets)) (place_of old owner number)
    place_is owner number = placed owner number ∙ ap (λ (b : Bool). cond b (Some (length sets)) (place_of old owner number)) (key_turned s owner number)

    none_there : (owner : DomainName) (number : ℕ) → has_key owner number s ≡ true → place_of old owner number ≡ None
    none_there owner number h =
        let parts = both (same_name s.name owner) (type_number s.record_type == number) (key_turned s owner number ∙ h) in
        place_alike old s.name owner (type_number s.record_type) number parts.0 (eqb-true (type_number s.record_type) number parts.1) ∙ absent

    finds : (owner : DomainName) (number place : ℕ) → place_of new owner number ≡ Some place → is_place_of (sets ++ s ∷ []) owner number place ≡ true
    finds owner number place e =
        push_at (has_key owner number) sets s place
        ∙ finds_pushed (has_key owner number s) (place == length sets) (length sets) place (place_of old owner number) (is_place_of sets owner number place) refl
        (λ f. (is.finds owner number place f, within (has_key owner number) sets place (is.finds owner number place f))) (sym (place_is owner number) ∙ e)

    has_all : (owner : DomainName) (number place : ℕ) → is_place_of (sets ++ s ∷ []) owner number place ≡ true → place_of new owner number ≡ Some place
    has_all owner number place h =
        place_is owner number
        ∙ all_pushed (has_key owner number s) (place == length sets) (length sets) place (place_of old owner number) (is_place_of sets owner number place) refl
        (is.has_all owner number place) (none_there owner number) (sym (push_at (has_key owner number) sets s place) ∙ h)
