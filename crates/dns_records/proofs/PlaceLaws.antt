-- The records that stand in places, after a place is filled, emptied or added.
use Rattle.std.proofs.Common.{◌≡◌, ◌<◌, ◌≤◌, ◌+◌, ℕ, Bool, true, false, not, cond, List, [], ◌∷◌, ◌++◌, length, slice_get, take, drop, map, get_or, refl, sym, ap, ◌∙◌, arith, Option, Some, None, suc, zero, unwrap_or}
use Rattle.std.proofs.lemmas.Bool.{lt-ltb, ltb-true, ltb_from_iff}
use Rattle.std.proofs.lemmas.List.{append_assoc, take_more}
use Rattle.std.specs.Prelude.{nat_lt, position, slice_set}
use Rattle.std.specs.List.{filter, position_or_len}
use Rattle.dns_data.specs.declared.rdata.RData.{RData}
use Rattle.dns_data.specs.rdata.{same_data}
use Rattle.dns_records.specs.Record.{Record}
use Rattle.dns_records.specs.RecordSet.{put, record_data}
use Rattle.dns_records.specs.edits.Places.{has_data, is_place_of, records_in}
use Rattle.dns_records.specs.edits.internal.Edits.{has_other_data}

abbrev pub Places : Type 0
Places = List (Option Record)

pub true-not-false : true ≡ false → ⊥
true-not-false e = absurd cc

-- ---- positions

-- the position behind a first item
unfoldable pub next : Option ℕ → Option ℕ
next None = None
next (Some n) = Some (1 + n)

pub one_more : (n : ℕ) → 1 + n ≡ suc n
one_more n = omega arith

less_more : (n len : ℕ) → nat_lt n len ≡ nat_lt (1 + n) (suc len)
less_more n len = ltb_from_iff (λ e. let h : n < len = ltb-true n len e in omega arith, λ (h : 1 + n < suc len). lt-ltb n len (omega arith))

next_of : (b : Bool) (n : ℕ) → cond b (Some (1 + n)) None ≡ next (cond b (Some n) None)
unfolding next
next_of true n = refl
next_of false n = refl

position_by : (b : Bool) (n len : ℕ) → cond (nat_lt (cond (not b) (1 + n) 0) (suc len)) (Some (cond (not b) (1 + n) 0)) None ≡ cond b (Some 0) (next (cond (nat_lt n len) (Some n) None))
position_by true n len = ap (λ e. cond e (Some 0) None) (lt-ltb 0 (suc len) (omega arith))
position_by false n len = ap (λ e. cond e (Some (1 + n)) None) (sym (less_more n len)) ∙ next_of (nat_lt n len) n

pub position_cons : {A : Type 0} (p : A → Bool) (x : A) (xs : List A) → position p (x ∷ xs) ≡ cond (p x) (Some 0) (next (position p xs))
position_cons p x xs = position_by (p x) (position_or_len p xs) (length xs)

pub same_number : (m n : ℕ) → Some m ≡ Some n → n ≡ m
same_number m n e = sym (ap (λ (o : Option ℕ). unwrap_or o 0) e)

-- the position that comes before a later one
unfoldable pub before : Option ℕ → ℕ → Type 0
before o n = (m : ℕ) × (o ≡ Some m) × (n ≡ suc m)

next_is : (o : Option ℕ) (n : ℕ) → next o ≡ Some n → before o n
unfolding next before
next_is None n e = absurd (cc)
next_is (Some m) n e = (m, refl, same_number (1 + m) n e ∙ one_more m)

next_none : (o : Option ℕ) → next o ≡ None → o ≡ None
unfolding next
next_none None e = refl
next_none (Some m) e = absurd (cc)

-- ---- a record that is put in place of another

abbrev pub spot : Places → RData → Option ℕ
spot places d = position (λ place. has_data place d) places

-- what a first place leaves to those behind it
abbrev step : Option Record → Places → RData → Option ℕ
step place places d = cond (has_data place d) (Some 0) (next (spot places d))

spot_cons : (place : Option Record) (places : Places) (d : RData) (o : Option ℕ) → spot (place ∷ places) d ≡ o → step place places d ≡ o
spot_cons place places d o e = sym (position_cons (λ (x : Option Record). has_data x d) place places) ∙ e

put_by : (r x : Record) (places : Places) (n : ℕ) (b : Bool) → cond b (Some 0) (next (spot places x.rdata)) ≡ Some n
    → ((m : ℕ) → spot places x.rdata ≡ Some m → records_in (slice_set places m (Some x)) ≡ put record_data (records_in places) x)
    → records_in (slice_set (Some r ∷ places) n (Some x)) ≡ cond b (x ∷ records_in places) (r ∷ put record_data (records_in places) x)
unfolding records_in before
put_by r x places n true e f = ap (λ k. records_in (slice_set (Some r ∷ places) k (Some x))) (same_number 0 n e)
put_by r x places n false e f =
    let b = next_is (spot places x.rdata) n e in
    ap (λ k. records_in (slice_set (Some r ∷ places) k (Some x))) b.2 ∙ ap (λ zs. r ∷ zs) (f b.0 b.1)

skip_by : (x : Record) (place : Option Record) (places : Places) (n : ℕ) (rest : List Record) → next (spot places x.rdata) ≡ Some n
    → ((m : ℕ) → spot places x.rdata ≡ Some m → records_in (slice_set places m place) ≡ rest)
    → records_in (slice_set (None ∷ places) n place) ≡ rest
unfolding records_in before
skip_by x place places n rest e f =
    let b = next_is (spot places x.rdata) n e in
    ap (λ k. records_in (slice_set (None ∷ places) k place)) b.2 ∙ f b.0 b.1

-- a record in the first place with its data
pub put_some : (places : Places) (x : Record) (n : ℕ) → spot places x.rdata ≡ Some n → records_in (slice_set places n (Some x)) ≡ put record_data (records_in places) x
unfolding records_in
put_some [] x n e = absurd (cc)
put_some (None ∷ places) x n e = skip_by x (Some x) places n (put record_data (records_in places) x) (spot_cons None places x.rdata (Some n) e) (λ m. put_some places x m)
put_some (Some r ∷ places) x n e = put_by r x places n (same_data r.rdata x.rdata) (spot_cons (Some r) places x.rdata (Some n) e) (λ m. put_some places x m)

-- ---- a record that is added

pub records_push : (places : Places) (x : Record) → records_in (places ++ Some x ∷ []) ≡ records_in places ++ x ∷ []
unfolding records_in
records_push [] x = refl
records_push (None ∷ places) x = records_push places x
records_push (Some r ∷ places) x = ap (λ rs. r ∷ rs) (records_push places x)

added_by : (r x : Record) (places : Places) (b : Bool) → cond b (Some 0) (next (spot places x.rdata)) ≡ None
    → (spot places x.rdata ≡ None → put record_data (records_in places) x ≡ records_in places ++ x ∷ [])
    → cond b (x ∷ records_in places) (r ∷ put record_data (records_in places) x) ≡ r ∷ (records_in places ++ x ∷ [])
added_by r x places true e f = absurd (cc)
added_by r x places false e f = ap (λ zs. r ∷ zs) (f (next_none (spot places x.rdata) e))

put_last : (places : Places) (x : Record) → spot places x.rdata ≡ None → put record_data (records_in places) x ≡ records_in places ++ x ∷ []
unfolding records_in
put_last [] x e = refl
put_last (None ∷ places) x e = put_last places x (next_none (spot places x.rdata) (spot_cons None places x.rdata None e))
put_last (Some r ∷ places) x e = added_by r x places (same_data r.rdata x.rdata) (spot_cons (Some r) places x.rdata None e) (put_last places x)

-- a record whose data stands nowhere is the last
pub put_none : (places : Places) (x : Record) → spot places x.rdata ≡ None → records_in (places ++ Some x ∷ []) ≡ put record_data (records_in places) x
put_none places x e = records_push places x ∙ sym (put_last places x e)

pub count_push : (places : Places) (x : Record) → length (records_in (places ++ Some x ∷ [])) ≡ length (records_in places) + 1
count_push places x = ap length (records_push places x) ∙ length_push (records_in places) x
  where
    length_push : (xs : List Record) (y : Record) → length (xs ++ y ∷ []) ≡ length xs + 1
    length_push [] y = refl
    length_push (z ∷ xs) y = omega (arith, length_push xs y)

-- ---- a place that is emptied

abbrev pub others : RData → List Record → List Record
others d rs = filter (λ r. not (same_data r.rdata d)) rs

-- no place has the data
abbrev pub HasNot : Places → RData → Type 0
HasNot places d = (j : ℕ) → is_place_of (slice_get places j) d ≡ true → ⊥

all_by : (r : Record) (places : Places) (d : RData) (b : Bool) → same_data r.rdata d ≡ b → HasNot (Some r ∷ places) d → (HasNot places d → records_in places ≡ others d (records_in places))
    → r ∷ records_in places ≡ cond (not b) (r ∷ others d (records_in places)) (others d (records_in places))
all_by r places d true e none f = absurd (none 0 e)
all_by r places d false e none f = ap (λ rs. r ∷ rs) (f (λ j h. none (suc j) h))

all_others : (places : Places) (d : RData) → HasNot places d → records_in places ≡ others d (records_in places)
unfolding records_in
all_others [] d none = refl
all_others (None ∷ places) d none = all_others places d (λ j e. none (suc j) e)
all_others (Some r ∷ places) d none = all_by r places d (same_data r.rdata d) refl none (λ h. all_others places d h)

-- only one place has the data
abbrev pub HasOnly : Places → RData → ℕ → Type 0
HasOnly places d i = (j : ℕ) → is_place_of (slice_get places j) d ≡ true → j ≡ i

behind : (place : Option Record) (places : Places) (d : RData) (n m : ℕ) → n ≡ suc m → HasOnly (place ∷ places) d n → HasOnly places d m
behind place places d n m e only = λ j h. omega (arith, only (suc j) h, e)

no_more : (place : Option Record) (places : Places) (d : RData) (n : ℕ) → n ≡ 0 → HasOnly (place ∷ places) d n → HasNot places d
no_more place places d n e only = λ j h. omega (arith, only (suc j) h, e)

emptied_by : (r : Record) (places : Places) (d : RData) (n : ℕ) (b : Bool) → cond b (Some 0) (next (spot places d)) ≡ Some n → HasOnly (Some r ∷ places) d n
    → ((m : ℕ) → spot places d ≡ Some m → HasOnly places d m → records_in (slice_set places m None) ≡ others d (records_in places))
    → records_in (slice_set (Some r ∷ places) n None) ≡ cond (not b) (r ∷ others d (records_in places)) (others d (records_in places))
unfolding records_in before
emptied_by r places d n true e only f =
    ap (λ k. records_in (slice_set (Some r ∷ places) k None)) (same_number 0 n e) ∙ all_others places d (no_more (Some r) places d n (same_number 0 n e) only)
emptied_by r places d n false e only f =
    let b = next_is (spot places d) n e in
    ap (λ k. records_in (slice_set (Some r ∷ places) k None)) b.2 ∙ ap (λ zs. r ∷ zs) (f b.0 b.1 (behind (Some r) places d n b.0 b.2 only))

pub emptied : (places : Places) (d : RData) (n : ℕ) → spot places d ≡ Some n → HasOnly places d n → records_in (slice_set places n None) ≡ filter (λ r. not (same_data r.rdata d)) (records_in places)
unfolding records_in before
emptied [] d n e only = absurd (cc)
emptied (None ∷ places) d n e only =
    let b = next_is (spot places d) n (spot_cons None places d (Some n) e) in
    ap (λ k. records_in (slice_set (None ∷ places) k None)) b.2 ∙ emptied places d b.0 b.1 (behind None places d n b.0 b.2 only)
emptied (Some r ∷ places) d n e only =
    emptied_by r places d n (same_data r.rdata d) (spot_cons (Some r) places d (Some n) e) only (λ m. emptied places d m)

missing_by : (r : Record) (places : Places) (d : RData) (b : Bool) → cond b (Some 0) (next (spot places d)) ≡ None
    → (spot places d ≡ None → records_in places ≡ others d (records_in places))
    → r ∷ records_in places ≡ cond (not b) (r ∷ others d (records_in places)) (others d (records_in places))
missing_by r places d true e f = absurd (cc)
missing_by r places d false e f = ap (λ zs. r ∷ zs) (f (next_none (spot places d) e))

pub missing : (places : Places) (d : RData) → spot places d ≡ None → records_in places ≡ filter (λ r. not (same_data r.rdata d)) (records_in places)
unfolding records_in
missing [] d e = refl
missing (None ∷ places) d e = missing places d (next_none (spot places d) (spot_cons None places d None e))
missing (Some r ∷ places) d e = missing_by r places d (same_data r.rdata d) (spot_cons (Some r) places d None e) (missing places d)

-- ---- numbers of records

filled_by : (r : Record) (places : Places) (d : RData) (x : Record) (n : ℕ) (b : Bool) → cond b (Some 0) (next (spot places d)) ≡ Some n
    → ((m : ℕ) → spot places d ≡ Some m → length (records_in (slice_set places m (Some x))) ≡ length (records_in places))
    → length (records_in (slice_set (Some r ∷ places) n (Some x))) ≡ suc (length (records_in places))
unfolding records_in before
filled_by r places d x n true e f = ap (λ k. length (records_in (slice_set (Some r ∷ places) k (Some x)))) (same_number 0 n e)
filled_by r places d x n false e f =
    let b = next_is (spot places d) n e in
    ap (λ k. length (records_in (slice_set (Some r ∷ places) k (Some x)))) b.2 ∙ ap suc (f b.0 b.1)

pub count_filled : (places : Places) (d : RData) (x : Record) (n : ℕ) → spot places d ≡ Some n → length (records_in (slice_set places n (Some x))) ≡ length (records_in places)
unfolding records_in before
count_filled [] d x n e = absurd (cc)
count_filled (None ∷ places) d x n e =
    let b = next_is (spot places d) n (spot_cons None places d (Some n) e) in
    ap (λ k. length (records_in (slice_set (None ∷ places) k (Some x)))) b.2 ∙ count_filled places d x b.0 b.1
count_filled (Some r ∷ places) d x n e = filled_by r places d x n (same_data r.rdata d) (spot_cons (Some r) places d (Some n) e) (λ m. count_filled places d x m)

fewer_by : (r : Record) (places : Places) (d : RData) (n : ℕ) (b : Bool) → cond b (Some 0) (next (spot places d)) ≡ Some n
    → ((m : ℕ) → spot places d ≡ Some m → suc (length (records_in (slice_set places m None))) ≡ length (records_in places))
    → suc (length (records_in (slice_set (Some r ∷ places) n None))) ≡ suc (length (records_in places))
unfolding records_in before
fewer_by r places d n true e f = ap (λ k. suc (length (records_in (slice_set (Some r ∷ places) k None)))) (same_number 0 n e)
fewer_by r places d n false e f =
    let b = next_is (spot places d) n e in
    ap (λ k. suc (length (records_in (slice_set (Some r ∷ places) k None)))) b.2 ∙ ap suc (f b.0 b.1)

pub count_emptied : (places : Places) (d : RData) (n : ℕ) → spot places d ≡ Some n → suc (length (records_in (slice_set places n None))) ≡ length (records_in places)
unfolding records_in before
count_emptied [] d n e = absurd (cc)
count_emptied (None ∷ places) d n e =
    let b = next_is (spot places d) n (spot_cons None places d (Some n) e) in
    ap (λ k. suc (length (records_in (slice_set (None ∷ places) k None)))) b.2 ∙ count_emptied places d b.0 b.1
count_emptied (Some r ∷ places) d n e = fewer_by r places d n (same_data r.rdata d) (spot_cons (Some r) places d (Some n) e) (λ m. count_emptied places d m)

pub count_within : (places : Places) → length (records_in places) ≤ length places
unfolding records_in
count_within [] = omega arith
count_within (None ∷ places) = omega (arith, count_within places)
count_within (Some r ∷ places) = omega (arith, count_within places)

-- ---- places that are kept

kept_by : (r : Record) (places : Places) (d : RData) (b : Bool) → records_in (filter (λ place. has_other_data place d) places) ≡ others d (records_in places)
    → records_in (cond (not b) (Some r ∷ filter (λ place. has_other_data place d) places) (filter (λ place. has_other_data place d) places)) ≡ cond (not b) (r ∷ others d (records_in places)) (others d (records_in places))
unfolding records_in
kept_by r places d true e = e
kept_by r places d false e = ap (λ zs. r ∷ zs) e

pub kept : (places : Places) (d : RData) → records_in (filter (λ place. has_other_data place d) places) ≡ filter (λ r. not (same_data r.rdata d)) (records_in places)
unfolding records_in
kept [] d = refl
kept (None ∷ places) d = kept places d
kept (Some r ∷ places) d = kept_by r places d (same_data r.rdata d) (kept places d)

counted_by : (r : Record) (rest : Places) (b : Bool) → length (records_in rest) ≡ length rest
    → length (records_in (cond (not b) (Some r ∷ rest) rest)) ≡ length (cond (not b) (Some r ∷ rest) rest)
unfolding records_in
counted_by r rest true e = e
counted_by r rest false e = ap suc e

pub count_kept : (places : Places) (d : RData) → length (records_in (filter (λ place. has_other_data place d) places)) ≡ length (filter (λ place. has_other_data place d) places)
unfolding records_in
count_kept [] d = refl
count_kept (None ∷ places) d = count_kept places d
count_kept (Some r ∷ places) d = counted_by r (filter (λ place. has_other_data place d) places) (same_data r.rdata d) (count_kept places d)

-- ---- the places so far

pub records_more : (places : Places) → records_in (places ++ None ∷ []) ≡ records_in places
unfolding records_in
records_more [] = refl
records_more (None ∷ places) = records_more places
records_more (Some r ∷ places) = ap (λ rs. r ∷ rs) (records_more places)

-- only empty places so far
pub none_so_far : (places : Places) (i : ℕ) (place : Option Record) → i < length places → place ≡ get_or places i place → place ≡ None → records_in (take i places) ≡ [] → records_in (take (i + 1) places) ≡ []
none_so_far places i place less is none e =
    ap records_in (take_more places i place less ∙ ap (λ y. take i places ++ y ∷ []) (sym is ∙ none)) ∙ records_more (take i places) ∙ e

nothing_else : (r : Record) → None ≡ Some r → ⊥
nothing_else r h = absurd cc

not_empty : (r : Record) (rs : List Record) → r ∷ rs ≡ [] → ⊥
not_empty r rs h = absurd cc

-- the first place with a record
pub first_at : (places : Places) (i : ℕ) (place : Option Record) (r : Record) → i < length places → place ≡ get_or places i place → place ≡ Some r → records_in (take i places) ≡ [] → Some r ≡ slice_get (records_in places) 0
unfolding records_in
first_at [] i place r less is some e = absurd (omega (arith, less))
first_at (None ∷ places) zero place r less is some e = absurd (nothing_else r (sym is ∙ some))
first_at (Some q ∷ places) zero place r less is some e = sym some ∙ is
first_at (None ∷ places) (suc i) place r less is some e = first_at places i place r (omega (arith, less)) is some e
first_at (Some q ∷ places) (suc i) place r less is some e = absurd (not_empty q (records_in (take i places)) e)

-- a record more
pub more_so_far : (places : Places) (i : ℕ) (place : Option Record) (r : Record) → i < length places → place ≡ get_or places i place → place ≡ Some r → records_in (take (i + 1) places) ≡ records_in (take i places) ++ r ∷ []
more_so_far places i place r less is some =
    ap records_in (take_more places i place less ∙ ap (λ y. take i places ++ y ∷ []) (sym is ∙ some)) ∙ records_push (take i places) r

pub same_so_far : (places : Places) (i : ℕ) (place : Option Record) → i < length places → place ≡ get_or places i place → place ≡ None → records_in (take (i + 1) places) ≡ records_in (take i places)
same_so_far places i place less is none =
    ap records_in (take_more places i place less ∙ ap (λ y. take i places ++ y ∷ []) (sym is ∙ none)) ∙ records_more (take i places)

pub none_yet : records_in [] ≡ []
unfolding records_in
none_yet = refl

-- ---- places whose records are moved out

-- the places behind those that were emptied
pub behind_emptied : (f : Option Record → Option Record) (places : Places) (i : ℕ) (x : Option Record) → get_or (map f (take i places) ++ drop i places) i x ≡ get_or places i x
behind_emptied f [] zero x = refl
behind_emptied f [] (suc i) x = refl
behind_emptied f (y ∷ places) zero x = refl
behind_emptied f (y ∷ places) (suc i) x = behind_emptied f places i x

abbrev pub empty_each : Option Record → Option Record
empty_each place = None

pub one_moved : (old moved new : List Record) (places : Places) (i : ℕ) (place : Option Record) (r : Record) → i < length places → place ≡ get_or places i place → place ≡ Some r
    → moved ≡ old ++ records_in (take i places) → new ≡ moved ++ r ∷ [] → new ≡ old ++ records_in (take (i + 1) places)
one_moved old moved new places i place r less is some e f =
    f ∙ ap (λ rs. rs ++ r ∷ []) e ∙ append_assoc old (records_in (take i places)) (r ∷ []) ∙ ap (λ rs. old ++ rs) (sym (more_so_far places i place r less is some))

pub none_moved : (old moved : List Record) (places : Places) (i : ℕ) (place : Option Record) → i < length places → place ≡ get_or places i place → place ≡ None
    → moved ≡ old ++ records_in (take i places) → moved ≡ old ++ records_in (take (i + 1) places)
none_moved old moved places i place less is none e = e ∙ ap (λ rs. old ++ rs) (sym (same_so_far places i place less is none))

pub at_emptied : (places now : Places) (i : ℕ) (x : Option Record) → now ≡ map empty_each (take i places) ++ drop i places → x ≡ get_or now i x → x ≡ get_or places i x
at_emptied places now i x e is = is ∙ ap (λ (ys : Places). get_or ys i x) e ∙ behind_emptied empty_each places i x

-- ---- the place of data

within_by : (places : Places) (d : RData) (n : ℕ) (b : Bool) → cond b (Some 0) (next (spot places d)) ≡ Some n → ((m : ℕ) → spot places d ≡ Some m → m < length places) → n < suc (length places)
unfolding before
within_by places d n true h f = omega (arith, same_number 0 n h)
within_by places d n false h f = let b = next_is (spot places d) n h in omega (arith, b.2, f b.0 b.1)

pub within_places : (places : Places) (d : RData) (n : ℕ) → spot places d ≡ Some n → n < length places
within_places [] d n e = absurd (cc)
within_places (place ∷ places) d n e = within_by places d n (has_data place d) (spot_cons place places d (Some n) e) (λ m. within_places places d m)

-- a position is one of a place with the data
there_by : (place : Option Record) (places : Places) (d : RData) (n : ℕ) (b : Bool) → has_data place d ≡ b → cond b (Some 0) (next (spot places d)) ≡ Some n
    → ((m : ℕ) → spot places d ≡ Some m → is_place_of (slice_get places m) d ≡ true) → is_place_of (slice_get (place ∷ places) n) d ≡ true
unfolding before
there_by place places d n true is h f = ap (λ k. is_place_of (slice_get (place ∷ places) k) d) (same_number 0 n h) ∙ is
there_by place places d n false is h f = let b = next_is (spot places d) n h in ap (λ k. is_place_of (slice_get (place ∷ places) k) d) b.2 ∙ f b.0 b.1

pub there : (places : Places) (d : RData) (n : ℕ) → spot places d ≡ Some n → is_place_of (slice_get places n) d ≡ true
there [] d n e = absurd (cc)
there (place ∷ places) d n e = there_by place places d n (has_data place d) refl (spot_cons place places d (Some n) e) (λ m. there places d m)

pub set_length : (places : Places) (i : ℕ) (x : Option Record) → length (slice_set places i x) ≡ length places
set_length [] i x = refl
set_length (y ∷ places) zero x = refl
set_length (y ∷ places) (suc i) x = ap suc (set_length places i x)
