-- The order of keys: that of names, and by address.
use Rattle.std.proofs.Common.{◌≡◌, ℕ, ◌+◌, ◌<◌, Bool, true, false, List, [], ◌∷◌, ◌++◌, refl, ap, sym, ◌∙◌, arith, reverse}
use Rattle.std.specs.Prelude.{◌&&◌, not}
use Rattle.std.specs.BTreeMap.Range.{range_contains}
use Rattle.std.specs.Cmp.{nat_cmp_is, ranks, tied_itself}
use Rattle.std.specs.Cmp.Lexicographic.{slice_cmp, nat_list_eq_equiv}
use Rattle.std.specs.List.{flat_map}
use Rattle.std.specs.Net.Addr.{ipv4_octets, ipv6_segments}
use Rattle.std.specs.Ordering.{MatchOrdering, ordering_then, is_eq, is_le, is_gt, nat_cmp}
use Rattle.std.specs.Str.{bytes_eq}
use Rattle.std.specs.Char.{to_ascii_lowercase}
use Rattle.std.specs.declared.cmp.Ordering.{Ordering}
use Rattle.std.specs.declared.cmp.Ordering.TheVariants.{Less, Equal, Greater}
use Rattle.std.specs.declared.net.ip_addr.IpAddr.{IpAddr}
use Rattle.std.specs.declared.net.ip_addr.IpAddr.TheVariants.{V4, V6}
use Rattle.std.specs.declared.ops.Bound.TheVariants.{Included, Excluded}
use Rattle.std.proofs.lemmas.Map.Text.{is_eq-slice_cmp}
use Rattle.dns_names.specs.Name.{DomainName}
use Rattle.dns_names.specs.Compare.{same_labels, labels_order, name_cmp}
use Rattle.dns_names.specs.LabelCompare.{lower_cmp}
use Rattle.dns_names.specs.internal.Compare.{names_agree}
use Rattle.stub_hosts.specs.Hosts.{same_address}
use Rattle.stub_hosts.specs.internal.HostKeys.{key_cmp, key_cmp-total, label_key, labels_key, parts_key, address_key, pointer_key}

-- ---- names

next_order : (x y : ℕ) → nat_cmp (x + 1) (y + 1) ≡ nat_cmp x y
next_order x y = sym (nat_cmp_is (x + 1) (y + 1) (nat_cmp x y) (by (nat_cmp x y) (ranks x y)))
  where
    by : (o : Ordering) → MatchOrdering o (x < y) (x ≡ y) (y < x) → MatchOrdering o (x + 1 < y + 1) (x + 1 ≡ y + 1) (y + 1 < x + 1)
    by Less is = omega (arith, is)
    by Equal is = omega (arith, is)
    by Greater is = omega (arith, is)

less : (x y : ℕ) → x < y → nat_cmp x y ≡ Less
less x y is = sym (nat_cmp_is x y Less is)

greater : (x y : ℕ) → y < x → nat_cmp x y ≡ Greater
greater x y is = sym (nat_cmp_is x y Greater is)

then_assoc : (p q r : Ordering) → ordering_then p (ordering_then q r) ≡ ordering_then (ordering_then p q) r
then_assoc Less q r = refl
then_assoc Equal q r = refl
then_assoc Greater q r = refl

label_before : (b : ℕ) → nat_cmp 0 (b + 1) ≡ Less
label_before b = less 0 (b + 1) (omega arith)

label_after : (b : ℕ) → nat_cmp (b + 1) 0 ≡ Greater
label_after b = greater (b + 1) 0 (omega arith)

-- labels decide before what follows them
label_first : (x y p q : List ℕ) → key_cmp (label_key x ++ p) (label_key y ++ q) ≡ ordering_then (slice_cmp lower_cmp x y) (key_cmp p q)
label_first [] [] p q = refl
label_first [] (b ∷ y) p q = ap (λ (o : Ordering). ordering_then o (key_cmp p (label_key y ++ q))) (label_before (to_ascii_lowercase b))
label_first (a ∷ x) [] p q = ap (λ (o : Ordering). ordering_then o (key_cmp (label_key x ++ p) q)) (label_after (to_ascii_lowercase a))
label_first (a ∷ x) (b ∷ y) p q =
    ap (λ (o : Ordering). ordering_then o (key_cmp (label_key x ++ p) (label_key y ++ q))) (next_order (to_ascii_lowercase a) (to_ascii_lowercase b))
    ∙ ap (ordering_then (lower_cmp a b)) (label_first x y p q)
    ∙ then_assoc (lower_cmp a b) (slice_cmp lower_cmp x y) (key_cmp p q)

keys_of_labels : (xs ys : List (List ℕ)) → key_cmp (flat_map label_key xs) (flat_map label_key ys) ≡ slice_cmp (slice_cmp lower_cmp) xs ys
keys_of_labels [] [] = refl
keys_of_labels [] ([] ∷ ys) = refl
keys_of_labels [] ((b ∷ y) ∷ ys) = refl
keys_of_labels ([] ∷ xs) [] = refl
keys_of_labels ((a ∷ x) ∷ xs) [] = refl
keys_of_labels (x ∷ xs) (y ∷ ys) =
    label_first x y (flat_map label_key xs) (flat_map label_key ys)
    ∙ ap (ordering_then (slice_cmp lower_cmp x y)) (keys_of_labels xs ys)

pub labels_in_order : (a b : List (List ℕ)) → key_cmp (labels_key a) (labels_key b) ≡ labels_order lower_cmp a b
labels_in_order a b = keys_of_labels (reverse a) (reverse b)

pub names_in_order : (n m : DomainName) → n.is_fqdn ≡ true → m.is_fqdn ≡ true → key_cmp (labels_key n.labels) (labels_key m.labels) ≡ name_cmp n m
names_in_order n m nf mf = rw (nf, mf) (labels_in_order n.labels m.labels)

abbrev full : List (List ℕ) → DomainName
full labels = record { is_fqdn = true; labels = labels }

pub same_key : (a b : List (List ℕ)) → is_eq (key_cmp (labels_key a) (labels_key b)) ≡ same_labels a b
same_key a b = ap is_eq (labels_in_order a b) ∙ sym (names_agree (full a) (full b))

-- ---- addresses

parts_first : (x y : List ℕ) (s t : ℕ) (p q : List ℕ) → s < 2 → t < 2 → key_cmp (parts_key x (s ∷ p)) (parts_key y (t ∷ q)) ≡ ordering_then (key_cmp x y) (key_cmp (s ∷ p) (t ∷ q))
parts_first [] [] s t p q s_is t_is = refl
parts_first [] (b ∷ y) s t p q s_is t_is =
    ap (λ (o : Ordering). ordering_then o (key_cmp p (b ∷ parts_key y (t ∷ q)))) (less s 2 s_is)
parts_first (a ∷ x) [] s t p q s_is t_is =
    ap (λ (o : Ordering). ordering_then o (key_cmp (a ∷ parts_key x (s ∷ p)) q)) (greater 2 t t_is)
parts_first (a ∷ x) (b ∷ y) s t p q s_is t_is =
    ap (ordering_then (nat_cmp a b)) (parts_first x y s t p q s_is t_is)
    ∙ then_assoc (nat_cmp a b) (key_cmp x y) (key_cmp (s ∷ p) (t ∷ q))

parts_then : (parts rest xs : List ℕ) → parts_key parts rest ++ xs ≡ parts_key parts (rest ++ xs)
parts_then [] rest xs = refl
parts_then (part ∷ parts) rest xs = ap (λ (ys : List ℕ). 2 ∷ part ∷ ys) (parts_then parts rest xs)

pub address_then : (a : IpAddr) (rest xs : List ℕ) → address_key a rest ++ xs ≡ address_key a (rest ++ xs)
address_then (V4 x) rest xs = ap (λ (ys : List ℕ). 4 ∷ ys) (parts_then (ipv4_octets x) rest xs)
address_then (V6 x) rest xs = ap (λ (ys : List ℕ). 6 ∷ ys) (parts_then (ipv6_segments x) rest xs)

-- whether a key is that of a pointer from an address
abbrev pub is_at_address : IpAddr → List ℕ → Bool
is_at_address address key = range_contains key_cmp (Included (address_key address (0 ∷ []))) (Excluded (address_key address (1 ∷ []))) key

front_of : (q : List ℕ) → is_le (key_cmp [] q) ≡ true
front_of [] = refl
front_of (x ∷ q) = refl

between : (o : Ordering) (q : List ℕ) → (is_le (ordering_then o (key_cmp [] q)) && not (is_le (ordering_then o Greater))) ≡ is_eq o
between Less q = refl
between Equal q = rw (front_of q) refl
between Greater q = refl

parts_between : (x y q : List ℕ) → (is_le (key_cmp (parts_key x (0 ∷ [])) (parts_key y (0 ∷ q))) && not (is_le (key_cmp (parts_key x (1 ∷ [])) (parts_key y (0 ∷ q))))) ≡ bytes_eq y x
parts_between x y q =
    let low = parts_first x y 0 0 [] q (omega arith) (omega arith) in
    let high = parts_first x y 1 0 [] q (omega arith) (omega arith) in
    (λ i. is_le (low i) && not (is_le (high i))) ∙ between (key_cmp x y) q ∙ is_eq-slice_cmp x y ∙ nat_list_eq_equiv.symm x y

pub at_address : (a b : IpAddr) (labels : List (List ℕ)) → is_at_address a (pointer_key b labels) ≡ same_address b a
at_address (V4 x) (V4 y) labels = parts_between (ipv4_octets x) (ipv4_octets y) (labels_key labels)
at_address (V4 x) (V6 y) labels = refl
at_address (V6 x) (V4 y) labels = refl
at_address (V6 x) (V6 y) labels = parts_between (ipv6_segments x) (ipv6_segments y) (labels_key labels)

equal_parts : (x y : List ℕ) → bytes_eq x y ≡ true → key_cmp x y ≡ Equal
equal_parts x y e = by (key_cmp x y) (is_eq-slice_cmp x y ∙ e)
  where
    by : (o : Ordering) → is_eq o ≡ true → o ≡ Equal
    by Less e = absurd (cc)
    by Equal e = refl
    by Greater e = absurd (cc)

after_parts : (x y p q : List ℕ) → bytes_eq x y ≡ true → key_cmp (parts_key x (0 ∷ p)) (parts_key y (0 ∷ q)) ≡ key_cmp p q
after_parts x y p q e = parts_first x y 0 0 p q (omega arith) (omega arith) ∙ ap (λ (o : Ordering). ordering_then o (key_cmp p q)) (equal_parts x y e)

-- pointers from one address are in the order of the labels
pub pointers_in_order : (a b : IpAddr) (n m : List (List ℕ)) → same_address a b ≡ true → key_cmp (pointer_key a n) (pointer_key b m) ≡ key_cmp (labels_key n) (labels_key m)
pointers_in_order (V4 x) (V4 y) n m e = after_parts (ipv4_octets x) (ipv4_octets y) (labels_key n) (labels_key m) e
pointers_in_order (V4 x) (V6 y) n m e = absurd (cc)
pointers_in_order (V6 x) (V4 y) n m e = absurd (cc)
pointers_in_order (V6 x) (V6 y) n m e = after_parts (ipv6_segments x) (ipv6_segments y) (labels_key n) (labels_key m) e

pub bounds_in_order : (a : IpAddr) → is_gt (key_cmp (address_key a (0 ∷ [])) (address_key a (1 ∷ []))) ≡ false
bounds_in_order a = by a
  where
    same : (x : List ℕ) → key_cmp x x ≡ Equal
    same x = tied_itself key_cmp-total x

    parts : (x : List ℕ) → is_gt (key_cmp (parts_key x (0 ∷ [])) (parts_key x (1 ∷ []))) ≡ false
    parts x = ap is_gt (parts_first x x 0 1 [] [] (omega arith) (omega arith)) ∙ rw (same x) refl

    by : (b : IpAddr) → is_gt (key_cmp (address_key b (0 ∷ [])) (address_key b (1 ∷ []))) ≡ false
    by (V4 x) = parts (ipv4_octets x)
    by (V6 x) = parts (ipv6_segments x)
