-- The bytes of owners in keys: they tell owners apart up to ASCII case, and begin alike where a name is below another.
use Rattle.std.proofs.Common.{◌≡◌, ◌≢◌, ◌+◌, ◌≤◌, ◌||◌, ℕ, Bool, true, false, cond, List, [], ◌∷◌, ◌++◌, map, flat_map, reverse, length, refl, sym, ap, ◌∙◌, arith}
use Rattle.std.specs.Prelude.{nat_lt}
use Rattle.std.specs.Char.{to_ascii_lowercase}
use Rattle.std.specs.Str.{str_to_ascii_lowercase}
use Rattle.std.proofs.lemmas.Grind.{flat_map-append}
use Rattle.std.proofs.lemmas.List.{reverse-append, reverse-reverse, length-map, length-append, append_assoc, append-nil}
use Rattle.dns_wire.specs.Name.{name_len}
use Rattle.dns_names.specs.Compare.{lower, same_labels, at_or_below}
use Rattle.dns_names.specs.internal.Compare.{map-reverse, same-lower, same_labels-equivalence}
use Rattle.dns_updates.proofs.SetLaws.{same_lower}
use Rattle.dns_updates.specs.Keys.{lower_code, byte_code, label_code, owner_code}

-- ---- labels one after another

abbrev pub codes : List (List ℕ) → List ℕ
codes labels = flat_map label_code labels

pub code_of_last : (front : List (List ℕ)) (label : List ℕ) → owner_code (front ++ label ∷ []) ≡ label_code label ++ owner_code front
code_of_last front label = ap codes (reverse-append front (label ∷ []))

code_of_first : (label : List ℕ) (labels : List (List ℕ)) → owner_code (label ∷ labels) ≡ owner_code labels ++ label_code label
code_of_first label labels =
    ap codes (reverse-append (label ∷ []) labels) ∙ flat_map-append label_code (reverse labels) (label ∷ [])
    ∙ ap (λ (l : List ℕ). owner_code labels ++ l) (append-nil (label_code label))

label_length : (label : List ℕ) → length (label_code label) ≡ length label + 1
label_length label = length-append (map byte_code label) (0 ∷ []) ∙ ap (λ n. n + 1) (length-map label byte_code)

-- an owner takes as many bytes as its encoding without the root
pub code_length : (labels : List (List ℕ)) → length (owner_code labels) + 1 ≡ name_len labels
code_length [] = refl
code_length (label ∷ labels) =
    let parts : length (owner_code (label ∷ labels)) ≡ length (owner_code labels) + length (label_code label) =
    ap length (code_of_first label labels) ∙ length-append (owner_code labels) (label_code label) in
    omega (arith, parts, label_length label, code_length labels)

-- ---- bytes

abbrev is_upper : ℕ → Bool
is_upper c = cond (nat_lt c 65) false (nat_lt c 91)

pub lower_apart : (c d : ℕ) → byte_code c ≡ byte_code d → to_ascii_lowercase c ≡ to_ascii_lowercase d
lower_apart c d e = grind arith

pub byte_above : (c : ℕ) → byte_code c ≢ 0
byte_above c e = grind arith

-- ---- the bytes of an owner, label after label

-- the bytes of one more label fit
pub room : (labels rest front : List (List ℕ)) (key label : List ℕ) → owner_code labels ≡ key ++ owner_code rest → rest ≡ front ++ label ∷ []
    → name_len labels ≤ 255 → length key + length label + 1 ≤ 254
room labels rest front key label e last fits =
    let all : length (owner_code labels) ≡ length key + length (owner_code rest) = ap length e ∙ length-append key (owner_code rest) in
    let more : length (owner_code rest) ≡ length (label_code label) + length (owner_code front) =
    ap length (ap owner_code last ∙ code_of_last front label) ∙ length-append (label_code label) (owner_code front) in
    omega (arith, all, more, label_length label, code_length labels, fits)

-- the bytes of an owner fit with one more
pub fits : (labels rest : List (List ℕ)) (key : List ℕ) → owner_code labels ≡ key ++ owner_code rest → name_len labels ≤ 255 → length key ≤ 254
fits labels rest key e most =
    let all : length (owner_code labels) ≡ length key + length (owner_code rest) = ap length e ∙ length-append key (owner_code rest) in
    omega (arith, all, code_length labels, most)

pub further : (labels rest front : List (List ℕ)) (key new label : List ℕ) → owner_code labels ≡ key ++ owner_code rest → rest ≡ front ++ label ∷ []
    → new ≡ key ++ label_code label → owner_code labels ≡ new ++ owner_code front
further labels rest front key new label e last is =
    e ∙ ap (λ (l : List ℕ). key ++ l) (ap owner_code last ∙ code_of_last front label)
    ∙ sym (append_assoc key (label_code label) (owner_code front)) ∙ ap (λ (l : List ℕ). l ++ owner_code front) (sym is)

-- ---- owners whose bytes begin alike

label_apart_at : (a b x y : List ℕ) → map byte_code a ++ 0 ∷ x ≡ map byte_code b ++ 0 ∷ y → (str_to_ascii_lowercase a ≡ str_to_ascii_lowercase b) × (x ≡ y)
label_apart_at [] [] x y e = (refl, cc)
label_apart_at [] (d ∷ b) x y e = absurd (byte_above d (cc))
label_apart_at (c ∷ a) [] x y e = absurd (byte_above c (cc))
label_apart_at (c ∷ a) (d ∷ b) x y e =
    let first : byte_code c ≡ byte_code d = cc in
    let others : map byte_code a ++ 0 ∷ x ≡ map byte_code b ++ 0 ∷ y = cc in
    let rest = label_apart_at a b x y others in
    let same = lower_apart c d first in
    (λ i. same i ∷ rest.0 i, rest.1)

-- a label ends where its bytes end
label_apart : (a b x y : List ℕ) → label_code a ++ x ≡ label_code b ++ y → (str_to_ascii_lowercase a ≡ str_to_ascii_lowercase b) × (x ≡ y)
label_apart a b x y e = label_apart_at a b x y (sym (append_assoc (map byte_code a) (0 ∷ []) x) ∙ e ∙ append_assoc (map byte_code b) (0 ∷ []) y)

codes_begin : (a b : List (List ℕ)) (x : List ℕ) → codes b ≡ codes a ++ x → (c : List (List ℕ)) × (lower b ≡ lower a ++ lower c) × (x ≡ codes c)
codes_begin [] b x e = (b, refl, sym e)
codes_begin (l ∷ a) [] x e =
    let none : 0 ≡ length (codes (l ∷ a)) + length x = ap length e ∙ length-append (codes (l ∷ a)) x in
    let some : length (codes (l ∷ a)) ≡ length (label_code l) + length (codes a) = length-append (label_code l) (codes a) in
    absurd (omega (arith, none, some, label_length l))
codes_begin (l ∷ a) (m ∷ b) x e =
    let parts = label_apart m l (codes b) (codes a ++ x) (e ∙ append_assoc (label_code l) (codes a) x) in
    let rest = codes_begin a b x parts.1 in
    (rest.0, (λ i. parts.0 i ∷ rest.1 i), rest.2)

reverse_lower : (labels : List (List ℕ)) → lower (reverse labels) ≡ reverse (lower labels)
reverse_lower labels = map-reverse str_to_ascii_lowercase labels

-- labels before those of a name, up to ASCII case
begins_at : (o a : List (List ℕ)) (x : List ℕ) → owner_code a ≡ owner_code o ++ x → (c : List (List ℕ)) × (lower a ≡ reverse (lower c) ++ lower o) × (x ≡ codes c)
begins_at o a x e =
    let parts = codes_begin (reverse o) (reverse a) x e in
    let turned : reverse (lower a) ≡ reverse (lower o) ++ lower parts.0 =
    sym (reverse_lower a) ∙ parts.1 ∙ ap (λ (l : List (List ℕ)). l ++ lower parts.0) (reverse_lower o) in (
      parts.0,
      (sym (reverse-reverse (lower a)) ∙ ap reverse turned ∙ reverse-append (reverse (lower o)) (lower parts.0)
          ∙ ap (λ (l : List (List ℕ)). reverse (lower parts.0) ++ l) (reverse-reverse (lower o))),
      parts.2,
    )

no_codes : (c : List (List ℕ)) → [] ≡ codes c → c ≡ []
no_codes [] e = refl
no_codes (l ∷ c) e =
    let none : 0 ≡ length (label_code l) + length (codes c) = ap length e ∙ length-append (label_code l) (codes c) in
    absurd (omega (arith, none, label_length l))

-- owners with the same bytes are the same up to ASCII case
pub owner_apart : (a b : List (List ℕ)) → owner_code a ≡ owner_code b → lower a ≡ lower b
owner_apart a b e =
    let parts = begins_at b a [] (e ∙ sym (append-nil (owner_code b))) in
    parts.1 ∙ ap (λ (c : List (List ℕ)). reverse (lower c) ++ lower b) (no_codes parts.0 parts.2)

label_of_lower : (label : List ℕ) → map byte_code label ≡ map lower_code (str_to_ascii_lowercase label)
label_of_lower [] = refl
label_of_lower (c ∷ cs) = ap (λ (l : List ℕ). byte_code c ∷ l) (label_of_lower cs)

lower_codes : List (List ℕ) → List ℕ
lower_codes labels = flat_map (λ (l : List ℕ). map lower_code l ++ 0 ∷ []) labels

codes_of_lower : (labels : List (List ℕ)) → codes labels ≡ lower_codes (lower labels)
unfolding lower_codes
codes_of_lower [] = refl
codes_of_lower (l ∷ ls) = λ i. (label_of_lower l i ++ 0 ∷ []) ++ codes_of_lower ls i

-- the bytes of an owner do not depend on its case
pub owner_of_lower : (a b : List (List ℕ)) → lower a ≡ lower b → owner_code a ≡ owner_code b
owner_of_lower a b e =
    codes_of_lower (reverse a) ∙ ap lower_codes (reverse_lower a ∙ ap reverse e ∙ sym (reverse_lower b)) ∙ sym (codes_of_lower (reverse b))

same_owner : (o a : List (List ℕ)) → same_labels o a ≡ true → owner_code a ≡ owner_code o ++ []
same_owner o a e = sym (owner_of_lower o a (same-lower o a e)) ∙ sym (append-nil (owner_code o))

-- the bytes of a name begin with those of each name above it
pub below_begins : (o a : List (List ℕ)) → at_or_below o a ≡ true → (x : List ℕ) × (owner_code a ≡ owner_code o ++ x)
below_begins o [] e = ([], same_owner o [] e)
below_begins o (l ∷ ls) e = by (same_labels o (l ∷ ls)) refl (below_begins o ls)
  where
    by : (b : Bool) → same_labels o (l ∷ ls) ≡ b → (at_or_below o ls ≡ true → (x : List ℕ) × (owner_code ls ≡ owner_code o ++ x))
        → (x : List ℕ) × (owner_code (l ∷ ls) ≡ owner_code o ++ x)
    by true same more = ([], same_owner o (l ∷ ls) same)
    by false other more =
        let rest = more (sym (ap (λ (b : Bool). b || at_or_below o ls) other) ∙ e) in
        (rest.0 ++ label_code l, (code_of_first l ls ∙ ap (λ (k : List ℕ). k ++ label_code l) rest.1 ∙ append_assoc (owner_code o) rest.0 (label_code l)))

or_true : (b : Bool) → (b || true) ≡ true
or_true true = refl
or_true false = refl

at_itself : (o a : List (List ℕ)) → same_labels o a ≡ true → at_or_below o a ≡ true
at_itself o [] e = e
at_itself o (l ∷ ls) e = ap (λ (b : Bool). b || at_or_below o ls) e

behind_front : (o a front : List (List ℕ)) → lower a ≡ front ++ lower o → at_or_below o a ≡ true
behind_front o a [] e = at_itself o a (sym (same_lower o a) ∙ ap (same_labels o) e ∙ same_lower o o ∙ same_labels-equivalence.refl o)
behind_front o [] (l ∷ front) e = absurd (cc)
behind_front o (m ∷ a) (l ∷ front) e =
    let others : lower a ≡ front ++ lower o = cc in
    ap (λ (b : Bool). same_labels o (m ∷ a) || b) (behind_front o a front others) ∙ or_true (same_labels o (m ∷ a))

-- a name whose bytes begin with those of another is at or below it
pub begins_below : (o a : List (List ℕ)) (x : List ℕ) → owner_code a ≡ owner_code o ++ x → at_or_below o a ≡ true
begins_below o a x e = let parts = begins_at o a x e in behind_front o a (reverse (lower parts.0)) parts.1
