-- Labels compared from the right, one by one.
use Rattle.std.proofs.Common.{◌≡◌, ℕ, ◌+◌, ◌-◌, ◌<◌, ◌≤◌, List, [], ◌∷◌, ◌++◌, length, take, drop, get_or, reverse, refl, sym, ap, ◌∙◌, Bool, true, false, add-one, arith, length-drop}
use Rattle.std.specs.Prelude.{slice_get, Some}
use Rattle.std.specs.Bool.{IsTrue}
use Rattle.std.specs.Ordering.{nat_cmp, bool_cmp, ordering_then, is_eq}
use Rattle.std.specs.declared.cmp.Ordering.{Ordering}
use Rattle.std.specs.declared.cmp.Ordering.TheVariants.{Less, Equal, Greater}
use Rattle.std.specs.Cmp.{tied_itself, nat_cmp_total}
use Rattle.std.specs.Cmp.Lexicographic.{slice_cmp}
use Rattle.std.proofs.lemmas.List.{get_or-reverse, length-reverse, reverse-append, take-append-drop, drop_at, drop_all}
use Rattle.dns_names.specs.Name.{DomainName}
use Rattle.dns_names.specs.Compare.{labels_order, name_order}
use Rattle.dns_names.specs.internal.Compare.{labels_equal, unreversed, name_total, labels_total}
use Rattle.dns_names.proofs.WireLaws.{slice_get_or, drop-first}
use Rattle.dns_names.proofs.IterLaws.{drop-at, by_length}

-- the label at a place from the right
get-reverse : (labels : List (List ℕ)) (past : ℕ) (label : List ℕ) → past < length labels → slice_get labels (length labels - 1 - past) ≡ Some label → slice_get (reverse labels) past ≡ Some label
get-reverse labels past label lt e =
    slice_get_or (reverse labels) past (omega (arith, length-reverse labels))
    ∙ ap (λ (l : List ℕ). Some l) (get_or-reverse labels past [] lt)
    ∙ sym (slice_get_or labels (length labels - 1 - past) (omega arith)) ∙ e

-- two labels, and then those before them
pub step : (C : List ℕ → List ℕ → Ordering) (a b : List (List ℕ)) (past : ℕ) (x y : List ℕ) → past < length a → past < length b
    → slice_get a (length a - 1 - past) ≡ Some x → slice_get b (length b - 1 - past) ≡ Some y
    → slice_cmp C (drop past (reverse a)) (drop past (reverse b)) ≡ ordering_then (C x y) (slice_cmp C (drop (past + 1) (reverse a)) (drop (past + 1) (reverse b)))
step C a b past x y l m e f =
    rw (drop-at (reverse a) past x (get-reverse a past x l e), drop-at (reverse b) past y (get-reverse b past y m f), add-one) refl

pub decided : (r s t : Ordering) → t ≡ ordering_then r s → (r ≡ Equal → ⊥) → r ≡ t
decided Less s t e n = sym e
decided Equal s t e n = absurd (n refl)
decided Greater s t e n = sym e

pub undecided : (r s t : Ordering) → t ≡ ordering_then r s → r ≡ Equal → t ≡ s
undecided Less s t e n = absurd (cc)
undecided Equal s t e n = e
undecided Greater s t e n = absurd (cc)

pub all_compared : (C : List ℕ → List ℕ → Ordering) (a b : List (List ℕ)) (past : ℕ) → past ≤ length a → past ≤ length b → (past < length a → past < length b → ⊥)
    → nat_cmp (length a) (length b) ≡ slice_cmp C (drop past (reverse a)) (drop past (reverse b))
all_compared C a b past l m n =
    ap (λ (k : ℕ). nat_cmp k (length b)) (sym (length-reverse a)) ∙ ap (nat_cmp (length (reverse a))) (sym (length-reverse b))
    ∙ by_length C past (reverse a) (reverse b) (omega (arith, length-reverse a)) (omega (arith, length-reverse b)) (λ p q. n (omega (arith, length-reverse a)) (omega (arith, length-reverse b)))

-- ---- equal by the order is the same

is_equal : (r : Ordering) → IsTrue (is_eq r) → r ≡ Equal
is_equal Less t = absurd (cc)
is_equal Equal t = refl
is_equal Greater t = absurd (cc)

pub exact_labels : (a b : List (List ℕ)) → (IsTrue (is_eq (labels_order nat_cmp a b)) → a ≡ b) × (a ≡ b → IsTrue (is_eq (labels_order nat_cmp a b)))
exact_labels a b = (
  λ t. unreversed a b (labels_equal (reverse a) (reverse b) (is_equal (labels_order nat_cmp a b) t)),
  λ e. ap is_eq (ap (labels_order nat_cmp a) (sym e) ∙ tied_itself (labels_total nat_cmp nat_cmp_total) a),
)

same_flags : (p q : Bool) (r : Ordering) → IsTrue (is_eq (ordering_then (bool_cmp p q) r)) → (p ≡ q) × IsTrue (is_eq r)
same_flags true true r t = (refl, t)
same_flags true false r t = absurd (cc)
same_flags false true r t = absurd (cc)
same_flags false false r t = (refl, t)

same_names : (a b : DomainName) → a.is_fqdn ≡ b.is_fqdn → a.labels ≡ b.labels → a ≡ b
same_names a b e f = λ i. record { is_fqdn = e i; labels = f i }

pub exact_names : (a b : DomainName) → (IsTrue (is_eq (name_order nat_cmp a b)) → a ≡ b) × (a ≡ b → IsTrue (is_eq (name_order nat_cmp a b)))
exact_names a b = (
  λ t. (let both = same_flags a.is_fqdn b.is_fqdn (labels_order nat_cmp a.labels b.labels) t in
      same_names a b both.0 ((exact_labels a.labels b.labels).0 both.1)),
  λ e. ap is_eq (ap (name_order nat_cmp a) (sym e) ∙ tied_itself (name_total nat_cmp nat_cmp_total) a),
)

-- ---- labels compared from the front, where the last ones that differ decide

-- the order after labels from the front, where this is the order of what came before
pub from_front : (List ℕ → List ℕ → Ordering) → Ordering → List (List ℕ) → List (List ℕ) → Ordering
from_front C order [] b = order
from_front C order (x ∷ a) [] = order
from_front C order (x ∷ a) (y ∷ b) = from_front C (ordering_then (C x y) order) a b

pub next_front : (C : List ℕ → List ℕ → Ordering) (order : Ordering) (a b : List (List ℕ)) (i k : ℕ) → i < length a → k < length b
    → from_front C order (drop i a) (drop k b) ≡ from_front C (ordering_then (C (get_or a i []) (get_or b k [])) order) (drop (i + 1) a) (drop (k + 1) b)
unfolding from_front
next_front C order a b i k l m = rw (drop-first a i l, drop-first b k m) refl

then_assoc : (r s t : Ordering) → ordering_then r (ordering_then s t) ≡ ordering_then (ordering_then r s) t
then_assoc Less s t = refl
then_assoc Equal s t = refl
then_assoc Greater s t = refl

then_equal : (r : Ordering) → ordering_then r Equal ≡ r
then_equal Less = refl
then_equal Equal = refl
then_equal Greater = refl

-- lists whose fronts are as long: the fronts decide, and else what comes after them
slice_cmp-append : (C : List ℕ → List ℕ → Ordering) (p q s t : List (List ℕ)) → length p ≡ length q
    → slice_cmp C (p ++ s) (q ++ t) ≡ ordering_then (slice_cmp C p q) (slice_cmp C s t)
slice_cmp-append C [] [] s t e = refl
slice_cmp-append C [] (y ∷ q) s t e = absurd (omega arith)
slice_cmp-append C (x ∷ p) [] s t e = absurd (omega arith)
slice_cmp-append C (x ∷ p) (y ∷ q) s t e =
    ap (ordering_then (C x y)) (slice_cmp-append C p q s t (omega arith)) ∙ then_assoc (C x y) (slice_cmp C p q) (slice_cmp C s t)

front_is : (C : List ℕ → List ℕ → Ordering) (order : Ordering) (a b : List (List ℕ)) → length a ≡ length b
    → from_front C order a b ≡ ordering_then (slice_cmp C (reverse a) (reverse b)) order
unfolding from_front
front_is C order [] [] e = refl
front_is C order [] (y ∷ b) e = absurd (omega arith)
front_is C order (x ∷ a) [] e = absurd (omega arith)
front_is C order (x ∷ a) (y ∷ b) e =
    let own : reverse (x ∷ a) ≡ reverse a ++ x ∷ [] = reverse-append (x ∷ []) a in
    let other : reverse (y ∷ b) ≡ reverse b ++ y ∷ [] = reverse-append (y ∷ []) b in
    let same : length (reverse a) ≡ length (reverse b) = omega (arith, length-reverse a, length-reverse b) in
    let parts : slice_cmp C (reverse a ++ x ∷ []) (reverse b ++ y ∷ []) ≡ ordering_then (slice_cmp C (reverse a) (reverse b)) (C x y) =
    slice_cmp-append C (reverse a) (reverse b) (x ∷ []) (y ∷ []) same ∙ ap (ordering_then (slice_cmp C (reverse a) (reverse b))) (then_equal (C x y)) in
    front_is C (ordering_then (C x y) order) a b (omega arith) ∙ then_assoc (slice_cmp C (reverse a) (reverse b)) (C x y) order
    ∙ ap (λ (r : Ordering). ordering_then r order) (sym parts ∙ sym (ap (slice_cmp C (reverse (x ∷ a))) other ∙ ap (λ (l : List (List ℕ)). slice_cmp C l (reverse b ++ y ∷ [])) own))

-- the last labels of both decide, as many as the shorter one has, and else how many there are
pub whole_order : (C : List ℕ → List ℕ → Ordering) (a b : List (List ℕ)) (i k : ℕ) → i ≤ length a → k ≤ length b → length a - i ≡ length b - k → (0 < i → 0 < k → ⊥)
    → slice_cmp C (reverse a) (reverse b) ≡ from_front C (nat_cmp (length a) (length b)) (drop i a) (drop k b)
whole_order C a b i k l m same one =
    let s = length a - i in
    let own : reverse a ≡ reverse (drop i a) ++ reverse (take i a) = ap reverse (sym (take-append-drop i a)) ∙ reverse-append (take i a) (drop i a) in
    let other : reverse b ≡ reverse (drop k b) ++ reverse (take k b) = ap reverse (sym (take-append-drop k b)) ∙ reverse-append (take k b) (drop k b) in
    let own_len : length (reverse (drop i a)) ≡ s = omega (arith, length-reverse (drop i a), length-drop i a) in
    let other_len : length (reverse (drop k b)) ≡ s = omega (arith, length-reverse (drop k b), length-drop k b) in
    let own_rest : drop s (reverse a) ≡ reverse (take i a) = ap (drop s) own ∙ drop_at (reverse (drop i a)) (reverse (take i a)) s own_len in
    let other_rest : drop s (reverse b) ≡ reverse (take k b) = ap (drop s) other ∙ drop_at (reverse (drop k b)) (reverse (take k b)) s other_len in
    let rest : nat_cmp (length a) (length b) ≡ slice_cmp C (reverse (take i a)) (reverse (take k b)) =
    all_compared C a b s (omega arith) (omega arith) (λ p q. one (omega arith) (omega arith))
    ∙ ap (slice_cmp C (drop s (reverse a))) other_rest ∙ ap (λ (l : List (List ℕ)). slice_cmp C l (reverse (take k b))) own_rest in
    ap (slice_cmp C (reverse a)) other ∙ ap (λ (l : List (List ℕ)). slice_cmp C l (reverse (drop k b) ++ reverse (take k b))) own
    ∙ slice_cmp-append C (reverse (drop i a)) (reverse (drop k b)) (reverse (take i a)) (reverse (take k b)) (own_len ∙ sym other_len)
    ∙ ap (ordering_then (slice_cmp C (reverse (drop i a)) (reverse (drop k b)))) (sym rest)
    ∙ sym (front_is C (nat_cmp (length a) (length b)) (drop i a) (drop k b) (omega (arith, length-drop i a, length-drop k b)))

pub none_left : (C : List ℕ → List ℕ → Ordering) (order : Ordering) (a b : List (List ℕ)) (i : ℕ) → length a ≤ i → from_front C order (drop i a) b ≡ order
unfolding from_front
none_left C order a b i past = rw (drop_all i a past) refl
