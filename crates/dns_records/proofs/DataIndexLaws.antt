-- The positions of records by their data, after one more is entered.
use Rattle.std.proofs.Common.{◌≡◌, ◌<◌, ◌+◌, ℕ, Bool, true, false, not, cond, List, [], ◌∷◌, ◌++◌, length, take, get_or, length-take-le, refl, sym, ap, subst, ◌∙◌, arith, Option, Some, None, suc}
use Rattle.std.proofs.lemmas.List.{take_more}
use Rattle.std.specs.Prelude.{nat_lt, position, is_some}
use Rattle.std.specs.List.{position_or_len}
use Rattle.std.specs.BTreeMap as tree
use Rattle.std.specs.BTreeMap.{BTreeMap}
use Rattle.std.specs.Map.{lookup}
use Rattle.std.specs.Ordering.{is_eq}
use Rattle.std.specs.declared.cmp.Ordering.{Ordering}
use Rattle.std.specs.declared.cmp.Ordering.TheVariants.{Less, Equal, Greater}
use Rattle.std.proofs.lemmas.Bool.{lt-ltb}
use Rattle.dns_data.specs.declared.rdata.RData.{RData}
use Rattle.dns_data.specs.rdata.{same_data}
use Rattle.dns_data.specs.rdata.Order.{data_cmp}
use Rattle.dns_data.specs.internal.DataOrder.{data_cmp-total, data_tie}
use Rattle.dns_records.specs.Record.{Record}
use Rattle.dns_records.specs.DataIndex.{position_of, HasPositionsOf, IsIndexOf}
use Rattle.dns_records.specs.declared.data_index.DataIndex.{DataIndex}
use Rattle.dns_records.specs.internal.DataIndex.{first_of, HasEntered}
use Rattle.dns_records.proofs.ListLaws.{true-not-false}
use Rattle.dns_records.proofs.RecordSetLaws.{one_more, more_within}

-- ---- the position of an item

-- the position behind a first item
unfoldable pub next : Option ℕ → Option ℕ
next None = None
next (Some n) = Some (1 + n)

next_of : (b : Bool) (n : ℕ) → cond b (Some (1 + n)) None ≡ next (cond b (Some n) None)
unfolding next
next_of true n = refl
next_of false n = refl

position_by : (b : Bool) (n len : ℕ) → cond (nat_lt (cond (not b) (1 + n) 0) (suc len)) (Some (cond (not b) (1 + n) 0)) None ≡ cond b (Some 0) (next (cond (nat_lt n len) (Some n) None))
position_by true n len = ap (λ e. cond e (Some 0) None) (lt-ltb 0 (suc len) (omega arith))
position_by false n len = ap (λ e. cond e (Some (1 + n)) None) (sym (more_within n len)) ∙ next_of (nat_lt n len) n

-- the position in a list with one more item in front
pub position_cons : {A : Type 0} (p : A → Bool) (x : A) (xs : List A) → position p (x ∷ xs) ≡ cond (p x) (Some 0) (next (position p xs))
position_cons p x xs = position_by (p x) (position_or_len p xs) (length xs)

behind_first : (b c : Bool) (o : Option ℕ) (n : ℕ) → cond b (Some 0) (next (first_of o c n)) ≡ first_of (cond b (Some 0) (next o)) c (suc n)
unfolding next
behind_first true c o n = refl
behind_first false c (Some k) n = refl
behind_first false true None n = ap (λ k. Some k) (one_more n)
behind_first false false None n = refl

alone : (b : Bool) → cond b (Some 0) (next None) ≡ first_of None b 0
unfolding next
alone true = refl
alone false = refl

-- the position in a list with one more item at the end
pub position_push : {A : Type 0} (p : A → Bool) (xs : List A) (x : A) → position p (xs ++ x ∷ []) ≡ first_of (position p xs) (p x) (length xs)
position_push p [] x = position_cons p x [] ∙ alone (p x)
position_push p (y ∷ ys) x =
    position_cons p y (ys ++ x ∷ [])
    ∙ ap (λ o. cond (p y) (Some 0) (next o)) (position_push p ys x)
    ∙ behind_first (p y) (p x) (position p ys) (length ys)
    ∙ ap (λ o. first_of o (p x) (suc (length ys))) (sym (position_cons p y ys))

-- ---- the positions of equal data

equal_of : (o : Ordering) → is_eq o ≡ true → o ≡ Equal
equal_of Less e = absurd (true-not-false (sym e))
equal_of Equal e = refl
equal_of Greater e = absurd (true-not-false (sym e))

alike : (e d : RData) → data_cmp e d ≡ Equal → (es : List (RData × ℕ)) → lookup (tree.is_at (data_cmp e)) es ≡ lookup (tree.is_at (data_cmp d)) es
alike e d same [] = refl
alike e d same (x ∷ xs) = λ i. cond (is_eq (data_cmp-total.congr e d x.0 same i)) (Some x.1) (alike e d same xs i)

get_same : (m : BTreeMap RData ℕ) (e d : RData) → same_data e d ≡ true → tree.get data_cmp m e ≡ tree.get data_cmp m d
get_same m e d same = alike e d (equal_of (data_cmp e d) (sym (data_tie e d) ∙ same)) m.entries

-- ---- entries

kept_by : (o : Option ℕ) (b : Bool) (place : ℕ) → (b ≡ true → is_some o ≡ true) → o ≡ first_of o b place
kept_by (Some n) b place f = refl
kept_by None true place f = absurd (true-not-false (sym (f refl)))
kept_by None false place f = refl

-- data that has a position keeps it
pub kept : (m : BTreeMap RData ℕ) (e : RData) (place : ℕ) → is_some (tree.get data_cmp m e) ≡ true → HasEntered m e place m
kept m e place has d = kept_by (tree.get data_cmp m d) (same_data e d) place (λ same. ap is_some (sym (get_same m e d same)) ∙ has)

put_by : (o : Option ℕ) (b : Bool) (place : ℕ) → (b ≡ true → is_some o ≡ false) → cond b (Some place) o ≡ first_of o b place
put_by None b place f = refl
put_by (Some n) true place f = absurd (true-not-false (f refl))
put_by (Some n) false place f = refl

-- data that has no position gets one
pub put : (old new : BTreeMap RData ℕ) (key e : RData) (place : ℕ) → key ≡ e → is_some (tree.get data_cmp old e) ≡ false → tree.Updates data_cmp old new key (Some place) → HasEntered old e place new
put old new key e place same none updates d =
    updates.0 d
    ∙ ap (λ b. cond b (Some place) (tree.get data_cmp old d)) (sym (data_tie key d) ∙ ap (λ k. same_data k d) same)
    ∙ put_by (tree.get data_cmp old d) (same_data e d) place (λ b. ap is_some (sym (get_same old e d b)) ∙ none)

-- ---- the positions of all records

pub none_of : (m : BTreeMap RData ℕ) → tree.IsEmpty m → HasPositionsOf m []
none_of m e d = ap (λ (es : List (RData × ℕ)). lookup (tree.is_at (data_cmp d)) es) e

pub same_of : (old new : BTreeMap RData ℕ) (xs : List Record) → tree.IsUnchanged old new → HasPositionsOf old xs → HasPositionsOf new xs
same_of old new xs e has d = ap (λ (es : List (RData × ℕ)). lookup (tree.is_at (data_cmp d)) es) e ∙ has d

pub one_more_of : (old new : BTreeMap RData ℕ) (xs : List Record) (x : Record) (e : RData) (place : ℕ) → x.rdata ≡ e → place ≡ length xs → HasPositionsOf old xs → HasEntered old e place new → HasPositionsOf new (xs ++ x ∷ [])
one_more_of old new xs x e place same at has entered d =
    entered d
    ∙ ap (λ o. first_of o (same_data e d) place) (has d)
    ∙ ap (λ n. first_of (position_of xs d) (same_data e d) n) at
    ∙ ap (λ k. first_of (position_of xs d) (same_data k d) (length xs)) (sym same)
    ∙ sym (position_push (λ (r : Record). same_data r.rdata d) xs x)

pub next_of_all : (old new : BTreeMap RData ℕ) (xs : List Record) (i : ℕ) (x : Record) → i < length xs → x ≡ get_or xs i x → HasPositionsOf old (take i xs) → HasEntered old x.rdata i new → HasPositionsOf new (take (i + 1) xs)
next_of_all old new xs i x less is has entered =
    subst (HasPositionsOf new) (sym (take_more xs i x less ∙ ap (λ y. take i xs ++ y ∷ []) (sym is)))
    (one_more_of old new (take i xs) x x.rdata i refl (sym (length-take-le i xs (omega arith))) has entered)

pub of_filled : (index : DataIndex) (records : List Record) → HasPositionsOf index.positions records → IsIndexOf index records
of_filled index records has = record { has_positions = λ e. has }

less-not : (n : ℕ) → n ≡ 16 → n < 16 → ⊥
less-not n e h = omega arith

-- an index without positions is one of any records
pub of_few : (index : DataIndex) → index.additions < 16 → (records : List Record) → IsIndexOf index records
of_few index less records = record { has_positions = λ e. absurd (less-not index.additions e less) }

pub position_at : (index : DataIndex) (records : List Record) (d : RData) → IsIndexOf index records → index.additions ≡ 16 → tree.get data_cmp index.positions d ≡ position_of records d
position_at index records d has e = has.has_positions e d
