-- Parameters and keys, one after another.
use Rattle.std.proofs.Common.{◌≡◌, ℕ, zero, suc, ◌+◌, ◌-◌, ◌*◌, ◌<◌, ◌≤◌, Bool, true, false, ◌&&◌, List, [], ◌∷◌, length, take, drop, get_or, refl, sym, ap, ◌∙◌, arith, length-drop}
use Rattle.std.specs.Prelude.{◌==◌, ◌||◌, nat_le, nat_lt, if◌then◌else◌}
use Rattle.std.proofs.Math.Seq.{drop-cons}
use Rattle.std.proofs.lemmas.Bool.Decides.{nat_tests}
use Rattle.dns_fields.specs.service.List.{key_place}
use Rattle.dns_fields.specs.service.Wire.{key_at, len_at, has_key, are_mandatory, are_protocols, is_front, are_parameters, place}

pub at_place : {A : Type 0} (xs : List A) (i : ℕ) (d : A) → i < length xs → drop i xs ≡ get_or xs i d ∷ drop (i + 1) xs
at_place xs i d within = let one : suc i ≡ i + 1 = omega arith in drop-cons xs i d within ∙ ap (λ n. get_or xs i d ∷ drop n xs) one

pub take_back : (xs : List ℕ) (n : ℕ) → take (length xs - n) (drop n xs) ≡ drop n xs
take_back xs n = whole (length xs - n) (drop n xs) (omega (arith, length-drop n xs))
  where
    whole : (k : ℕ) (ys : List ℕ) → length ys ≤ k → take k ys ≡ ys
    whole zero [] le = refl
    whole zero (y ∷ ys) le = absurd (omega arith)
    whole (suc k) [] le = refl
    whole (suc k) (y ∷ ys) le = ap (λ (l : List ℕ). y ∷ l) (whole k ys (omega arith))

pub first_of : (a b : Bool) → (a && b) ≡ true → a ≡ true
first_of true b e = refl
first_of false b e = e

pub second_of : (a b : Bool) → (a && b) ≡ true → b ≡ true
second_of true b e = e
second_of false b e = absurd (cc)

pub at_most : (a b : ℕ) → nat_le a b ≡ true → a ≤ b
at_most a b q = grind (arith, nat_tests)

le_is : (a b : ℕ) → a ≤ b → nat_le a b ≡ true
le_is a b le = grind (arith, nat_tests)

le_not : (a b : ℕ) → b < a → nat_le a b ≡ false
le_not a b lt = grind (arith, nat_tests)

pub lt_is : (a b : ℕ) → a < b → nat_lt a b ≡ true
lt_is a b lt = grind (arith, nat_tests)

pub lt_not : (a b : ℕ) → b ≤ a → nat_lt a b ≡ false
lt_not a b le = grind (arith, nat_tests)

pub past_front : (n x : ℕ) (xs : List ℕ) → drop (4 + n) (x ∷ xs) ≡ drop (3 + n) xs
past_front n x xs = let e : 4 + n ≡ suc (3 + n) = omega arith in ap (λ (k : ℕ). drop k (x ∷ xs)) e

-- ---- keys among parameters

pub key_skip : (key n : ℕ) (xs : List ℕ) → has_key key n xs ≡ has_key key 0 (drop n xs)
key_skip key zero xs = refl
key_skip key (suc n) [] = refl
key_skip key (suc n) (x ∷ xs) = key_skip key n xs

key_front : (key : ℕ) (xs : List ℕ) → 0 < length xs → has_key key 0 xs ≡ (key_at xs == key || has_key key 0 (drop (4 + len_at xs) xs))
key_front key [] some = absurd (omega arith)
key_front key (x ∷ xs) some =
    ap (λ (b : Bool). key_at (x ∷ xs) == key || b)
    (key_skip key (3 + len_at (x ∷ xs)) xs ∙ ap (λ (l : List ℕ). has_key key 0 l) (sym (past_front (len_at (x ∷ xs)) x xs)))

pub key_found : (key : ℕ) (xs : List ℕ) (whole : Bool) → 0 < length xs → (key_at xs == key) ≡ true → has_key key 0 xs ≡ whole → true ≡ whole
key_found key xs whole some is e = sym (key_front key xs some ∙ ap (λ (b : Bool). b || has_key key 0 (drop (4 + len_at xs) xs)) is) ∙ e

pub key_further : (key : ℕ) (xs : List ℕ) (whole : Bool) → 0 < length xs → (key_at xs == key) ≡ false → has_key key 0 xs ≡ whole
    → has_key key 0 (drop (4 + len_at xs) xs) ≡ whole
key_further key xs whole some is e = sym (key_front key xs some ∙ ap (λ (b : Bool). b || has_key key 0 (drop (4 + len_at xs) xs)) is) ∙ e

-- ---- places

pub place_skip : (key n : ℕ) (xs : List ℕ) → place key n xs ≡ (length xs - length (drop n xs)) + place key 0 (drop n xs)
place_skip key zero xs = omega arith
place_skip key (suc n) [] = omega arith
place_skip key (suc n) (x ∷ xs) =
    let more : place key n xs ≡ (length xs - length (drop n xs)) + place key 0 (drop n xs) = place_skip key n xs in
    let len = length-drop n xs in
    omega (arith, more, len)

pub place_further : (key : ℕ) (whole xs : List ℕ) → 0 < length xs → key_at xs < key → length xs ≤ length whole
    → (length whole - length xs) + place key 0 xs ≡ place key 0 whole
    → (length whole - length (drop (4 + len_at xs) xs)) + place key 0 (drop (4 + len_at xs) xs) ≡ place key 0 whole
place_further key whole [] some lower within e = absurd (omega arith)
place_further key whole (x ∷ xs) some lower within e =
    let n : ℕ = len_at (x ∷ xs) in
    let here : place key 0 (x ∷ xs) ≡ 1 + place key (3 + n) xs = ap (λ (b : Bool). if b then 1 + place key (3 + n) xs else 0) (lt_is (key_at (x ∷ xs)) key lower) in
    let more : place key (3 + n) xs ≡ (length xs - length (drop (3 + n) xs)) + place key 0 (drop (3 + n) xs) = place_skip key (3 + n) xs in
    let len : length (drop (3 + n) xs) ≡ length xs - (3 + n) = length-drop (3 + n) xs in
    let at : length (drop (4 + n) (x ∷ xs)) ≡ length (drop (3 + n) xs) = ap (λ (l : List ℕ). length l) (past_front n x xs) in
    let next : place key 0 (drop (4 + n) (x ∷ xs)) ≡ place key 0 (drop (3 + n) xs) = ap (λ (l : List ℕ). place key 0 l) (past_front n x xs) in
    omega (arith, here, more, len, at, next, e)

pub place_within : (n : ℕ) (whole xs : List ℕ) → length xs ≤ length whole → length (drop n xs) ≤ length whole
place_within n whole xs within = omega (arith, length-drop n xs, within)

pub place_stops : (key : ℕ) (xs : List ℕ) → (0 < length xs → key ≤ key_at xs) → place key 0 xs ≡ 0
place_stops key [] stops = refl
place_stops key (x ∷ xs) stops = ap (λ (b : Bool). if b then 1 + place key (3 + len_at (x ∷ xs)) xs else 0) (lt_not (key_at (x ∷ xs)) key (stops (omega arith)))

-- ---- parameters

pub parameter_skip : (all : List ℕ) (least n : ℕ) (xs : List ℕ) → n ≤ length xs → are_parameters all least n xs ≡ are_parameters all least 0 (drop n xs)
parameter_skip all least zero xs le = refl
parameter_skip all least (suc n) [] le = absurd (omega arith)
parameter_skip all least (suc n) (x ∷ xs) le = parameter_skip all least n xs (omega arith)

pub parameter_further : (all : List ℕ) (least : ℕ) (xs : List ℕ) (whole : Bool) → 0 < length xs → is_front all least xs ≡ true
    → are_parameters all least 0 xs ≡ whole → are_parameters all (key_at xs + 1) 0 (drop (4 + len_at xs) xs) ≡ whole
parameter_further all least [] whole some is e = absurd (omega arith)
parameter_further all least (x ∷ xs) whole some is e =
    let n : ℕ = len_at (x ∷ xs) in
    let fits : 4 + n ≤ length (x ∷ xs) = at_most (4 + n) (length (x ∷ xs)) (first_of (nat_le (4 + n) (length (x ∷ xs))) _ (second_of (nat_le least (key_at (x ∷ xs))) _ is)) in
    ap (λ (l : List ℕ). are_parameters all (key_at (x ∷ xs) + 1) 0 l) (past_front n x xs)
    ∙ sym (parameter_skip all (key_at (x ∷ xs) + 1) (3 + n) xs (omega arith))
    ∙ sym (ap (λ (b : Bool). b && are_parameters all (key_at (x ∷ xs) + 1) (3 + n) xs) is) ∙ e

pub parameter_stops : (all : List ℕ) (least : ℕ) (xs : List ℕ) (whole : Bool) → 0 < length xs → is_front all least xs ≡ false
    → are_parameters all least 0 xs ≡ whole → false ≡ whole
parameter_stops all least [] whole some is e = absurd (omega arith)
parameter_stops all least (x ∷ xs) whole some is e =
    sym (ap (λ (b : Bool). b && are_parameters all (key_at (x ∷ xs) + 1) (3 + len_at (x ∷ xs)) xs) is) ∙ e

-- ---- identifiers of protocols

pub protocol_skip : (n : ℕ) (xs : List ℕ) → n ≤ length xs → are_protocols n xs ≡ are_protocols 0 (drop n xs)
protocol_skip zero xs le = refl
protocol_skip (suc n) [] le = absurd (omega arith)
protocol_skip (suc n) (x ∷ xs) le = protocol_skip n xs (omega arith)

pub protocol_ends : (n : ℕ) (xs : List ℕ) → length xs < n → are_protocols n xs ≡ false
protocol_ends zero xs lt = absurd (omega arith)
protocol_ends (suc n) [] lt = refl
protocol_ends (suc n) (x ∷ xs) lt = protocol_ends n xs (omega arith)

pub protocol_further : (n : ℕ) (xs : List ℕ) (whole : Bool) → 0 < length xs → n ≡ get_or xs 0 0 → 0 < n → n < length xs
    → are_protocols 0 xs ≡ whole → are_protocols 0 (drop (1 + n) xs) ≡ whole
protocol_further n [] whole some is positive fits e = absurd (omega arith)
protocol_further n (x ∷ xs) whole some is positive fits e =
    let one : 1 + n ≡ suc n = omega arith in
    ap (λ (k : ℕ). are_protocols 0 (drop k (x ∷ xs))) one
    ∙ sym (ap (λ (k : ℕ). nat_lt 0 k && are_protocols k xs) (sym is) ∙ ap (λ (b : Bool). b && are_protocols n xs) (lt_is 0 n positive) ∙ protocol_skip n xs (omega arith)) ∙ e

pub protocol_empty : (xs : List ℕ) (whole : Bool) → 0 < length xs → get_or xs 0 0 ≡ 0 → are_protocols 0 xs ≡ whole → false ≡ whole
protocol_empty [] whole some is e = absurd (omega arith)
protocol_empty (n ∷ xs) whole some is e =
    sym (ap (λ (b : Bool). b && are_protocols n xs) (lt_not 0 n (omega (arith, is)))) ∙ e

pub protocol_short : (xs : List ℕ) (whole : Bool) → 0 < length xs → length xs ≤ get_or xs 0 0 → are_protocols 0 xs ≡ whole → false ≡ whole
protocol_short [] whole some is e = absurd (omega arith)
protocol_short (n ∷ xs) whole some is e =
    sym (ap (λ (b : Bool). nat_lt 0 n && b) (protocol_ends n xs (omega (arith, is))) ∙ none (nat_lt 0 n)) ∙ e
  where
    none : (b : Bool) → (b && false) ≡ false
    none true = refl
    none false = refl

-- ---- mandatory keys

pub mandatory_further : (all : List ℕ) (least : ℕ) (xs : List ℕ) (whole : Bool) → 2 ≤ length xs → least ≤ key_at xs → has_key (key_at xs) 0 all ≡ true
    → are_mandatory all least xs ≡ whole → are_mandatory all (key_at xs + 1) (drop 2 xs) ≡ whole
mandatory_further all least [] whole two up has e = absurd (omega arith)
mandatory_further all least (a ∷ []) whole two up has e = absurd (omega arith)
mandatory_further all least (a ∷ b ∷ xs) whole two up has e =
    sym (ap (λ (p : Bool). p && (has_key (256 * a + b) 0 all && are_mandatory all (256 * a + b + 1) xs)) (le_is least (256 * a + b) up)
    ∙ ap (λ (p : Bool). p && are_mandatory all (256 * a + b + 1) xs) has) ∙ e

pub mandatory_low : (all : List ℕ) (least : ℕ) (xs : List ℕ) (whole : Bool) → 2 ≤ length xs → key_at xs < least → are_mandatory all least xs ≡ whole → false ≡ whole
mandatory_low all least [] whole two low e = absurd (omega arith)
mandatory_low all least (a ∷ []) whole two low e = absurd (omega arith)
mandatory_low all least (a ∷ b ∷ xs) whole two low e =
    sym (ap (λ (p : Bool). p && (has_key (256 * a + b) 0 all && are_mandatory all (256 * a + b + 1) xs)) (le_not least (256 * a + b) low)) ∙ e

pub mandatory_missing : (all : List ℕ) (least : ℕ) (xs : List ℕ) (whole : Bool) → 2 ≤ length xs → has_key (key_at xs) 0 all ≡ false
    → are_mandatory all least xs ≡ whole → false ≡ whole
mandatory_missing all least [] whole two has e = absurd (omega arith)
mandatory_missing all least (a ∷ []) whole two has e = absurd (omega arith)
mandatory_missing all least (a ∷ b ∷ xs) whole two has e =
    sym (ap (λ (p : Bool). nat_le least (256 * a + b) && (p && are_mandatory all (256 * a + b + 1) xs)) has ∙ none (nat_le least (256 * a + b))) ∙ e
  where
    none : (b : Bool) → (b && false) ≡ false
    none true = refl
    none false = refl

pub mandatory_ends : (all : List ℕ) (least : ℕ) (xs : List ℕ) (whole : Bool) → length xs < 2 → are_mandatory all least xs ≡ whole → (length xs == 0) ≡ whole
mandatory_ends all least [] whole short e = e
mandatory_ends all least (a ∷ []) whole short e = e
mandatory_ends all least (a ∷ b ∷ xs) whole short e = absurd (omega arith)

-- ---- keys in a list

pub keys_further : (key : ℕ) (whole xs : List ℕ) → 2 ≤ length xs → key_at xs < key → length xs ≤ length whole
    → (length whole - length xs) + key_place key xs ≡ key_place key whole
    → (length whole - length (drop 2 xs)) + key_place key (drop 2 xs) ≡ key_place key whole
keys_further key whole [] two lower within e = absurd (omega arith)
keys_further key whole (a ∷ []) two lower within e = absurd (omega arith)
keys_further key whole (a ∷ b ∷ xs) two lower within e =
    let here : key_place key (a ∷ b ∷ xs) ≡ 2 + key_place key xs = ap (λ (p : Bool). if p then 2 + key_place key xs else 0) (lt_is (256 * a + b) key lower) in
    omega (arith, here, e)

pub keys_stop : (key : ℕ) (xs : List ℕ) → (2 ≤ length xs → key ≤ key_at xs) → key_place key xs ≡ 0
keys_stop key [] stops = refl
keys_stop key (a ∷ []) stops = refl
keys_stop key (a ∷ b ∷ xs) stops = ap (λ (p : Bool). if p then 2 + key_place key xs else 0) (lt_not (256 * a + b) key (stops (omega arith)))
