-- The places of owners, entry by entry.
use Rattle.std.proofs.Common.{◌≡◌, ◌<◌, ◌+◌, ℕ, Bool, true, false, cond, List, [], ◌∷◌, ◌++◌, length, take, get_or, length-take-le, refl, sym, ap, ◌∙◌, arith, Option, Some, None}
use Rattle.std.proofs.lemmas.List.{take_more}
use Rattle.std.specs.Prelude.{position, is_some}
use Rattle.std.specs.Option.{option_map_or}
use Rattle.std.specs.HashMap as hash
use Rattle.std.specs.HashMap.{HashMap}
use Rattle.std.specs.HashMap.Eq.{lookup_congr}
use Rattle.dns_names.specs.Name.{DomainName}
use Rattle.dns_names.specs.Compare.{same_name}
use Rattle.dns_names.specs.internal.Compare.{same_name-equivalence}
use Rattle.dns_records.specs.internal.DataIndex.{first_of}
use Rattle.zone_lines.proofs.PositionLaws.{position_push}
use Rattle.zone_lines.specs.declared.record_line.EntryLine.{EntryLine}
use Rattle.zone_lines.specs.warnings.Places.{HasNoted, first_place, is_of, name_with}
use Rattle.zone_lines.specs.declared.warnings.places.Trait.{Trait}

clash : false ≡ true → ⊥
clash e = cc

get_same : {S : Type 0} (m : HashMap DomainName ℕ S) (owner other : DomainName) → same_name owner other ≡ true
    → hash.get same_name m other ≡ hash.get same_name m owner
get_same m owner other same = sym (lookup_congr same_name same_name-equivalence.congr m.entries owner other same)

kept_by : (o : Option ℕ) (b : Bool) (place : ℕ) → (b ≡ true → is_some o ≡ true) → o ≡ first_of o b place
kept_by (Some n) b place f = refl
kept_by None true place f = absurd (clash (f refl))
kept_by None false place f = refl

put_by : (o : Option ℕ) (b : Bool) (place : ℕ) → (b ≡ true → is_some o ≡ false) → cond b (Some place) o ≡ first_of o b place
put_by None b place f = refl
put_by (Some n) true place f = absurd (clash (sym (f refl)))
put_by (Some n) false place f = refl

-- an owner that has a place keeps it
pub kept : {S : Type 0} (m : HashMap DomainName ℕ S) (owner : DomainName) (place : ℕ) → is_some (hash.get same_name m owner) ≡ true
    → HasNoted m owner place m
kept m owner place has other =
    kept_by (hash.get same_name m other) (same_name owner other) place (λ same. ap is_some (get_same m owner other same) ∙ has)

-- an owner that has no place gets one
pub put : {S : Type 0} (old new : HashMap DomainName ℕ S) (key owner : DomainName) (place : ℕ) → key ≡ owner
    → is_some (hash.get same_name old owner) ≡ false → hash.Updates same_name old new key (Some place) → HasNoted old owner place new
put old new key owner place same none updates other =
    updates.0 other
    ∙ ap (λ (k : DomainName). cond (same_name k other) (Some place) (hash.get same_name old other)) same
    ∙ put_by (hash.get same_name old other) (same_name owner other) place (λ b. ap is_some (get_same old owner other b) ∙ none)

-- the places of the entries so far
pub record Has {S : Type 0} (m : HashMap DomainName ℕ S) (t : Trait) (entries : List EntryLine) : Type 0 where
  pub finds : (owner : DomainName) → hash.get same_name m owner ≡ first_place t entries owner

module _ (t : Trait) (entries : List EntryLine) (i : ℕ) (e : EntryLine) (within : i < length entries) (is : e ≡ get_or entries i e) where
  one_more : (owner : DomainName) → first_place t (take (i + 1) entries) owner ≡ first_of (first_place t (take i entries) owner) (is_of t owner e) i
  one_more owner =
      ap (position (is_of t owner)) (take_more entries i e within ∙ ap (λ (x : EntryLine). take i entries ++ x ∷ []) (sym is))
      ∙ position_push (is_of t owner) (take i entries) e
      ∙ ap (λ (n : ℕ). first_of (first_place t (take i entries) owner) (is_of t owner e) n) (length-take-le i entries (omega arith))

  pub one_found : {S : Type 0} (old new : HashMap DomainName ℕ S) (owner : DomainName) → Has old t (take i entries) → name_with t e ≡ Some owner
      → HasNoted old owner i new → Has new t (take (i + 1) entries)
  one_found {S} old new owner has is_owner noted = record {
    finds = λ other.
        noted other
        ∙ ap (λ (o : Option ℕ). first_of o (same_name owner other) i) (has.finds other)
        ∙ ap (λ (o : Option DomainName). first_of (first_place t (take i entries) other) (option_map_or (λ x. same_name x other) o false) i) (sym is_owner)
        ∙ sym (one_more other);
  }

  pub none_found : {S : Type 0} (m : HashMap DomainName ℕ S) → Has m t (take i entries) → name_with t e ≡ None → Has m t (take (i + 1) entries)
  none_found {S} m has none = record {
    finds = λ other.
        has.finds other ∙ none_first (first_place t (take i entries) other)
        ∙ ap (λ (b : Bool). first_of (first_place t (take i entries) other) b i) (sym (no_match other))
        ∙ sym (one_more other);
  }
    where
      none_first : (o : Option ℕ) → o ≡ first_of o false i
      none_first (Some n) = refl
      none_first None = refl

      no_match : (other : DomainName) → is_of t other e ≡ false
      no_match other = ap (λ (o : Option DomainName). option_map_or (λ x. same_name x other) o false) none
