-- Equality of names is an equivalence; their order is total, and agrees with equality and hash.
use Rattle.std.specs.Prelude.{ℕ}
use Rattle.std.specs.Ordering.{nat_cmp, on, bool_cmp, ordering_then, is_eq, MatchOrdering}
use Rattle.std.specs.Char.{to_ascii_lowercase}
use Rattle.std.specs.Cmp.{IsTotalOrder, on_total, nat_cmp_total, IsEquivalence, IsPartialEquivalence, partial_equiv_from_equiv, bool_eq_equiv, and_equiv, on_equiv, IsPartialOrder, then_total, bool_cmp_total, tied_itself, ranked, both_ways, po, first_so, second_so}
use Rattle.std.specs.declared.cmp.Ordering.{Ordering}
use Rattle.dns_names.specs.LabelCompare.{lower_cmp, label_writes}
use Rattle.std.specs.Cmp.Lexicographic.{lists_equiv, nat_list_eq_equiv, slice_cmp, lists_total}
use Rattle.std.specs.Str.{str_to_ascii_lowercase, str_eq_ignore_ascii_case}
use Rattle.dns_names.specs.Name.{DomainName}
use Rattle.dns_names.specs.Compare.{same_labels, same_name, lower, labels_order, name_order, name_cmp, name_writes}
use Rattle.std.proofs.Common.{◌≡◌, ◌<◌, Some, Bool, true, false, ◌&&◌, List, [], ◌∷◌, ◌++◌, map, reverse, refl, sym, ap, ◌∙◌}
use Rattle.std.specs.declared.cmp.Ordering.TheVariants.{Less, Equal, Greater}
use Rattle.std.specs.Bool.{beq}
use Rattle.std.proofs.lemmas.Slice.Eq.{bytes_eq-Decides}
use Rattle.std.specs.List.{flat_map}
use Rattle.std.proofs.lemmas.List.{reverse-append, reverse-reverse, map-append}
use Rattle.std.specs.Hash as fed

pub lower_cmp-total : IsTotalOrder lower_cmp
lower_cmp-total = on_total to_ascii_lowercase nat_cmp_total

pub nat_cmp-total : IsTotalOrder nat_cmp
nat_cmp-total = nat_cmp_total

pub same_labels-equivalence : IsEquivalence same_labels
same_labels-equivalence = lists_equiv (on_equiv str_to_ascii_lowercase nat_list_eq_equiv)

pub same_name-equivalence : IsEquivalence same_name
same_name-equivalence =
    and_equiv (on_equiv (λ (n : DomainName). n.is_fqdn) bool_eq_equiv) (on_equiv (λ (n : DomainName). n.labels) same_labels-equivalence)

pub same_name-partial : IsPartialEquivalence same_name
same_name-partial = partial_equiv_from_equiv same_name-equivalence

-- ---- an order of bytes makes one of names

pub labels_total : (bytes : ℕ → ℕ → Ordering) → IsTotalOrder bytes → IsTotalOrder (labels_order bytes)
labels_total bytes t = on_total reverse (lists_total (lists_total t))

pub name_total : (bytes : ℕ → ℕ → Ordering) → IsTotalOrder bytes → IsTotalOrder (name_order bytes)
name_total bytes t =
    then_total (on_total (λ (n : DomainName). n.is_fqdn) bool_cmp_total) (on_total (λ (n : DomainName). n.labels) (labels_total bytes t))

pub name_cmp-total : IsTotalOrder name_cmp
name_cmp-total = name_total lower_cmp lower_cmp-total

-- ---- the order ignoring case is the order in lower case

pub through : (f : ℕ → ℕ) (R : ℕ → ℕ → Ordering) (x y : List ℕ) → slice_cmp (on f R) x y ≡ slice_cmp R (map f x) (map f y)
through f R [] [] = refl
through f R [] (y ∷ ys) = refl
through f R (x ∷ xs) [] = refl
through f R (x ∷ xs) (y ∷ ys) = ap (ordering_then (R (f x) (f y))) (through f R xs ys)

each_lower : (a b : List (List ℕ)) → slice_cmp (slice_cmp lower_cmp) a b ≡ slice_cmp (slice_cmp nat_cmp) (lower a) (lower b)
each_lower [] [] = refl
each_lower [] (y ∷ ys) = refl
each_lower (x ∷ xs) [] = refl
each_lower (x ∷ xs) (y ∷ ys) =
    ap (λ (r : Ordering). ordering_then r (slice_cmp (slice_cmp lower_cmp) xs ys)) (through to_ascii_lowercase nat_cmp x y)
    ∙ ap (ordering_then (slice_cmp nat_cmp (str_to_ascii_lowercase x) (str_to_ascii_lowercase y))) (each_lower xs ys)

module _ {A B : Type 0} (f : A → B) where
  reverse-cons : (x : A) (xs : List A) → reverse (x ∷ xs) ≡ reverse xs ++ x ∷ []
  reverse-cons x xs = reverse-append (x ∷ []) xs

  reverse-cons-of : (x : B) (xs : List B) → reverse (x ∷ xs) ≡ reverse xs ++ x ∷ []
  reverse-cons-of x xs = reverse-append (x ∷ []) xs

  pub map-reverse : (xs : List A) → map f (reverse xs) ≡ reverse (map f xs)
  map-reverse [] = refl
  map-reverse (x ∷ xs) =
      ap (map f) (reverse-cons x xs) ∙ map-append f (reverse xs) (x ∷ [])
      ∙ ap (λ (l : List B). l ++ f x ∷ []) (map-reverse xs) ∙ sym (reverse-cons-of (f x) (map f xs))

pub order_lower : (a b : List (List ℕ))
    → labels_order lower_cmp a b ≡ slice_cmp (slice_cmp nat_cmp) (reverse (lower a)) (reverse (lower b))
order_lower a b =
    each_lower (reverse a) (reverse b)
    ∙ ap (λ (l : List (List ℕ)). slice_cmp (slice_cmp nat_cmp) l (lower (reverse b))) (map-reverse str_to_ascii_lowercase a)
    ∙ ap (slice_cmp (slice_cmp nat_cmp) (reverse (lower a))) (map-reverse str_to_ascii_lowercase b)

-- ---- equal means the same

pub same-lower : (a b : List (List ℕ)) → same_labels a b ≡ true → lower a ≡ lower b
same-lower [] [] e = refl
same-lower [] (y ∷ ys) e = absurd (cc)
same-lower (x ∷ xs) [] e = absurd (cc)
same-lower (x ∷ xs) (y ∷ ys) e =
    let first : str_to_ascii_lowercase x ≡ str_to_ascii_lowercase y =
    (bytes_eq-Decides (str_to_ascii_lowercase x) (str_to_ascii_lowercase y)).0
    (first_so (str_eq_ignore_ascii_case x y) (same_labels xs ys) e) in
    let others : lower xs ≡ lower ys = same-lower xs ys (second_so (str_eq_ignore_ascii_case x y) (same_labels xs ys) e) in
    cc

lower-same : (a b : List (List ℕ)) → lower a ≡ lower b → same_labels a b ≡ true
lower-same [] [] e = refl
lower-same [] (y ∷ ys) e = absurd (cc)
lower-same (x ∷ xs) [] e = absurd (cc)
lower-same (x ∷ xs) (y ∷ ys) e =
    let first : str_to_ascii_lowercase x ≡ str_to_ascii_lowercase y = cc in
    let others : lower xs ≡ lower ys = cc in
    let same : str_eq_ignore_ascii_case x y ≡ true = (bytes_eq-Decides (str_to_ascii_lowercase x) (str_to_ascii_lowercase y)).1 first in
    rw same (lower-same xs ys others)

module _ {A : Type 0} (R : A → A → Ordering) (decides : (x y : A) → R x y ≡ Equal → x ≡ y) where
  first_equal : (p q : Ordering) → ordering_then p q ≡ Equal → p ≡ Equal
  first_equal Less q e = e
  first_equal Equal q e = refl
  first_equal Greater q e = e

  second_equal : (p q : Ordering) → ordering_then p q ≡ Equal → q ≡ Equal
  second_equal Less q e = absurd (cc)
  second_equal Equal q e = e
  second_equal Greater q e = absurd (cc)

  pub lists_equal : (xs ys : List A) → slice_cmp R xs ys ≡ Equal → xs ≡ ys
  lists_equal [] [] e = refl
  lists_equal [] (y ∷ ys) e = absurd (cc)
  lists_equal (x ∷ xs) [] e = absurd (cc)
  lists_equal (x ∷ xs) (y ∷ ys) e =
      let first : x ≡ y = decides x y (first_equal (R x y) (slice_cmp R xs ys) e) in
      let others : xs ≡ ys = lists_equal xs ys (second_equal (R x y) (slice_cmp R xs ys) e) in
      cc

numbers_equal : (x y : ℕ) → nat_cmp x y ≡ Equal → x ≡ y
numbers_equal x y e = by (nat_cmp x y) (ranked x y (nat_cmp x y) refl) e
  where
    by : (r : Ordering) → MatchOrdering r (x < y) (x ≡ y) (y < x) → r ≡ Equal → x ≡ y
    by Less m e = absurd (cc)
    by Equal m e = m
    by Greater m e = absurd (cc)

pub bytes_equal : (x y : List ℕ) → slice_cmp nat_cmp x y ≡ Equal → x ≡ y
bytes_equal = lists_equal nat_cmp numbers_equal

pub labels_equal : (a b : List (List ℕ)) → slice_cmp (slice_cmp nat_cmp) a b ≡ Equal → a ≡ b
labels_equal = lists_equal (slice_cmp nat_cmp) bytes_equal

pub is_eq-true : (r : Ordering) → is_eq r ≡ true → r ≡ Equal
is_eq-true Less e = absurd (cc)
is_eq-true Equal e = refl
is_eq-true Greater e = absurd (cc)

pub unreversed : (a b : List (List ℕ)) → reverse a ≡ reverse b → a ≡ b
unreversed a b e = sym (reverse-reverse a) ∙ ap reverse e ∙ reverse-reverse b

labels_tie : (a b : List (List ℕ)) → labels_order lower_cmp a b ≡ Equal → lower a ≡ lower b
labels_tie a b e = unreversed (lower a) (lower b) (labels_equal (reverse (lower a)) (reverse (lower b)) (sym (order_lower a b) ∙ e))

tie_labels : (a b : List (List ℕ)) → lower a ≡ lower b → labels_order lower_cmp a b ≡ Equal
tie_labels a b e =
    order_lower a b ∙ ap (λ (l : List (List ℕ)). slice_cmp (slice_cmp nat_cmp) (reverse l) (reverse (lower b))) e
    ∙ tied_itself (lists_total (lists_total nat_cmp_total)) (reverse (lower b))

labels_agree : (a b : List (List ℕ)) → same_labels a b ≡ is_eq (labels_order lower_cmp a b)
labels_agree a b = both_ways (same_labels a b) (is_eq (labels_order lower_cmp a b))
    (λ s. ap is_eq (tie_labels a b (same-lower a b s)))
    (λ e. lower-same a b (labels_tie a b (is_eq-true (labels_order lower_cmp a b) e)))

flags_agree : (p q : Bool) → beq p q ≡ is_eq (bool_cmp p q)
flags_agree true true = refl
flags_agree true false = refl
flags_agree false true = refl
flags_agree false false = refl

both_agree : (r s : Ordering) → (is_eq r && is_eq s) ≡ is_eq (ordering_then r s)
both_agree Less s = refl
both_agree Equal s = refl
both_agree Greater s = refl

pub names_agree : (x y : DomainName) → same_name x y ≡ is_eq (name_cmp x y)
names_agree x y =
    ap (λ (b : Bool). b && same_labels x.labels y.labels) (flags_agree x.is_fqdn y.is_fqdn)
    ∙ ap (λ (b : Bool). is_eq (bool_cmp x.is_fqdn y.is_fqdn) && b) (labels_agree x.labels y.labels)
    ∙ both_agree (bool_cmp x.is_fqdn y.is_fqdn) (labels_order lower_cmp x.labels y.labels)

pub name_cmp-partial : IsPartialOrder same_name (λ x y. Some (name_cmp x y))
name_cmp-partial = po name_cmp-total names_agree

-- ---- equal names are hashed alike

same_flag : (p q : Bool) → beq p q ≡ true → p ≡ q
same_flag true true e = refl
same_flag true false e = absurd (cc)
same_flag false true e = absurd (cc)
same_flag false false e = refl

pub hashed_alike : (x y : DomainName) → same_name x y ≡ true → name_writes x ≡ name_writes y
hashed_alike x y e =
    ap (λ (b : Bool). fed.bool b ++ flat_map label_writes (lower x.labels))
    (same_flag x.is_fqdn y.is_fqdn (first_so (beq x.is_fqdn y.is_fqdn) (same_labels x.labels y.labels) e))
    ∙ ap (λ (l : List (List ℕ)). fed.bool y.is_fqdn ++ flat_map label_writes l)
    (same-lower x.labels y.labels (second_so (beq x.is_fqdn y.is_fqdn) (same_labels x.labels y.labels) e))
