-- Keys of names and of addresses: lists of numbers, compared from left to right.
use Rattle.std.specs.Prelude.{ℕ, ◌+◌, List, [], ◌∷◌, reverse, Some}
use Rattle.std.proofs.Common.{◌≡◌, sym}
use Rattle.std.specs.Char.{to_ascii_lowercase}
use Rattle.std.specs.Cmp.{IsTotalOrder, IsPartialOrder, po, nat_cmp_total}
use Rattle.std.specs.Cmp.Lexicographic.{slice_cmp, lists_total}
use Rattle.std.specs.List.{flat_map}
use Rattle.std.specs.Net.Addr.{ipv4_octets, ipv6_segments}
use Rattle.std.specs.Ordering.{nat_cmp, is_eq}
use Rattle.std.specs.Str.{bytes_eq}
use Rattle.std.specs.declared.cmp.Ordering.{Ordering}
use Rattle.std.specs.declared.net.ip_addr.IpAddr.{IpAddr}
use Rattle.std.specs.declared.net.ip_addr.IpAddr.TheVariants.{V4, V6}
use Rattle.std.proofs.lemmas.Map.Text.{is_eq-slice_cmp}

-- the order of keys
abbrev pub key_cmp : List ℕ → List ℕ → Ordering
key_cmp = slice_cmp nat_cmp

-- the numbers of a label: one more than its bytes in lower case, and 0 at the end
abbrev pub label_key : List ℕ → List ℕ
label_key [] = 0 ∷ []
label_key (b ∷ bs) = (to_ascii_lowercase b + 1) ∷ label_key bs

-- the key of labels: the numbers of the labels, from right to left
abbrev pub labels_key : List (List ℕ) → List ℕ
labels_key labels = flat_map label_key (reverse labels)

-- the parts of an address, each after a 2, and what follows them, which begins with 0 or 1
abbrev pub parts_key : List ℕ → List ℕ → List ℕ
parts_key [] rest = rest
parts_key (part ∷ parts) rest = 2 ∷ part ∷ parts_key parts rest

-- the family of an address and its parts, and what follows them
abbrev pub address_key : IpAddr → List ℕ → List ℕ
address_key (V4 a) rest = 4 ∷ parts_key (ipv4_octets a) rest
address_key (V6 a) rest = 6 ∷ parts_key (ipv6_segments a) rest

-- the key of a pointer from an address to a name
abbrev pub pointer_key : IpAddr → List (List ℕ) → List ℕ
pointer_key address labels = address_key address (0 ∷ labels_key labels)

-- ---- the order is total

pub key_cmp-total : IsTotalOrder key_cmp
key_cmp-total = lists_total nat_cmp_total

pub key_cmp-equal : (x y : List ℕ) → bytes_eq x y ≡ is_eq (key_cmp x y)
key_cmp-equal x y = sym (is_eq-slice_cmp x y)

pub key_cmp-partial : IsPartialOrder bytes_eq (λ x y. Some (key_cmp x y))
key_cmp-partial = po key_cmp-total key_cmp-equal
