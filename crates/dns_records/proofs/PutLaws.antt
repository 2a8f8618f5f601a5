-- What a record replaces that is put into a list.
use Rattle.std.proofs.Common.{◌≡◌, ◌+◌, ℕ, Bool, true, false, cond, List, [], ◌∷◌, ◌++◌, slice_get, refl, sym, ap, ◌∙◌, Option, Some, None, suc, zero, unwrap_or}
use Rattle.std.specs.Prelude.{position, slice_set, IfSome}
use Rattle.dns_data.specs.declared.rdata.RData.{RData}
use Rattle.dns_data.specs.rdata.{same_data}
use Rattle.dns_data.specs.contracts.rdata.RDataEq.TheImpl.Laws.{laws-law}
use Rattle.dns_records.specs.Record.{Record}
use Rattle.dns_records.specs.RecordSet.{put, record_data}
use Rattle.dns_records.specs.DataIndex.{IsIndexOf}
use Rattle.dns_records.specs.declared.data_index.DataIndex.{DataIndex}
use Rattle.dns_records.proofs.DataIndexLaws.{next, position_cons}
use Rattle.dns_records.proofs.RecordSetLaws.{one_more}

-- whether a record has the data of another
abbrev pub has : Record → Record → Bool
has x r = same_data r.rdata x.rdata

same_number : (m n : ℕ) → Some m ≡ Some n → n ≡ m
same_number m n e = sym (ap (λ (o : Option ℕ). unwrap_or o 0) e)

-- ---- the position of equal data

at_by : {A : Type 0} (p : A → Bool) (y : A) (ys : List A) (n : ℕ) (b : Bool) (o : Option ℕ) → p y ≡ b → cond b (Some 0) (next o) ≡ Some n
    → ((m : ℕ) → o ≡ Some m → IfSome (slice_get ys m) (λ x. p x ≡ true)) → IfSome (slice_get (y ∷ ys) n) (λ x. p x ≡ true)
unfolding next
at_by p y ys n true o is e f = rw (same_number 0 n e) is
at_by p y ys n false (Some m) is e f = rw (same_number (1 + m) n e, one_more m) (f m refl)
at_by p y ys n false None is e f = absurd (cc)

-- the item at the position of a predicate passes
pub passes : {A : Type 0} (p : A → Bool) (xs : List A) (n : ℕ) → position p xs ≡ Some n → IfSome (slice_get xs n) (λ x. p x ≡ true)
passes p [] n e = absurd (cc)
passes p (y ∷ ys) n e = at_by p y ys n (p y) (position p ys) refl (sym (position_cons p y ys) ∙ e) (λ m. passes p ys m)

-- ---- a record in place of one with equal data

-- the position of a predicate is the same if an item is replaced for which it is the same
position_set : {A : Type 0} (p : A → Bool) (xs : List A) (i : ℕ) (x : A) → IfSome (slice_get xs i) (λ y. p y ≡ p x) → position p (slice_set xs i x) ≡ position p xs
position_set p [] i x e = refl
position_set p (y ∷ ys) zero x e = position_cons p x ys ∙ ap (λ b. cond b (Some 0) (next (position p ys))) (sym e) ∙ sym (position_cons p y ys)
position_set p (y ∷ ys) (suc i) x e =
    position_cons p y (slice_set ys i x) ∙ ap (λ o. cond (p y) (Some 0) (next o)) (position_set p ys i x e) ∙ sym (position_cons p y ys)

equal_passes : (d : RData) (r : Record) (o : Option Record) → IfSome o (λ old. same_data old.rdata r.rdata ≡ true) → IfSome o (λ old. same_data old.rdata d ≡ same_data r.rdata d)
equal_passes d r None e = tt
equal_passes d r (Some old) e = laws-law.congr old.rdata r.rdata d e

-- an index of records is one of those with a record in place of one with equal data
pub replaced : (index : DataIndex) (records : List Record) (place : ℕ) (r : Record) → IfSome (slice_get records place) (λ old. same_data old.rdata r.rdata ≡ true)
    → IsIndexOf index records → IsIndexOf index (slice_set records place r)
replaced index records place r equal is = record {
  has_positions = λ filled d. is.has_positions filled d ∙ sym (position_set (λ (x : Record). same_data x.rdata d) records place r (equal_passes d r (slice_get records place) equal));
}

-- ---- a record that is put

put_by : (y x : Record) (ys : List Record) (n : ℕ) (b : Bool) (o : Option ℕ) → cond b (Some 0) (next o) ≡ Some n
    → ((m : ℕ) → o ≡ Some m → slice_set ys m x ≡ put record_data ys x) → slice_set (y ∷ ys) n x ≡ cond b (x ∷ ys) (y ∷ put record_data ys x)
unfolding next
put_by y x ys n true o e f = ap (λ k. slice_set (y ∷ ys) k x) (same_number 0 n e)
put_by y x ys n false (Some m) e f = ap (λ k. slice_set (y ∷ ys) k x) (same_number (1 + m) n e ∙ one_more m) ∙ ap (λ zs. y ∷ zs) (f m refl)
put_by y x ys n false None e f = absurd (cc)

pub put_some : (xs : List Record) (x : Record) (n : ℕ) → position (has x) xs ≡ Some n → slice_set xs n x ≡ put record_data xs x
put_some [] x n e = absurd (cc)
put_some (y ∷ ys) x n e = put_by y x ys n (has x y) (position (has x) ys) (sym (position_cons (has x) y ys) ∙ e) (λ m. put_some ys x m)

added_by : (y x : Record) (ys : List Record) (b : Bool) (o : Option ℕ) → cond b (Some 0) (next o) ≡ None
    → (o ≡ None → put record_data ys x ≡ ys ++ x ∷ []) → cond b (x ∷ ys) (y ∷ put record_data ys x) ≡ y ∷ (ys ++ x ∷ [])
unfolding next
added_by y x ys true o e f = absurd (cc)
added_by y x ys false (Some m) e f = absurd (cc)
added_by y x ys false None e f = ap (λ zs. y ∷ zs) (f refl)

pub put_none : (xs : List Record) (x : Record) → position (has x) xs ≡ None → put record_data xs x ≡ xs ++ x ∷ []
put_none [] x e = refl
put_none (y ∷ ys) x e = added_by y x ys (has x y) (position (has x) ys) (sym (position_cons (has x) y ys) ∙ e) (put_none ys x)
