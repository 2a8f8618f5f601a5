-- Octets, blocks and types, one after another.
use Rattle.std.proofs.Common.{◌≡◌, ◌≢◌, ℕ, zero, suc, ◌+◌, ◌-◌, ◌*◌, ◌/◌, ◌%◌, ◌<◌, ◌≤◌, ◌||◌, set, min, Bool, true, false, ◌&&◌, List, [], ◌∷◌, ◌++◌, length, take, drop, get_or, Option, Some, None, refl, sym, ap, subst, ◌∙◌, append_assoc, arith, length-drop}
use Rattle.std.specs.Prelude.{◌==◌, not, nat_le, nat_lt, if◌then◌else◌}
use Rattle.std.proofs.Math.Seq.{drop-cons}
use Rattle.std.proofs.lemmas.Bool.Decides.{nat_tests}
use Rattle.std.proofs.lemmas.List.{append-nil, get_or-set_other, drop_all, length-set}
use Rattle.std.proofs.lemmas.Grind.{get_or-set_at}
use Rattle.dns_fields.specs.bitmaps.TypeWord.{word_of_type}
use Rattle.dns_fields.specs.bitmaps.Bitmap.{AreTypes, weights, has_type, octets_needed, block_of, weight_if, octet_of, octets_from, block, blocks, types_of_octet, types_of_octets, types_of, is_bitmap, has_block, block_len, spaced_types, bit_types, without}

pub at_place : (xs : List ℕ) (i : ℕ) → i < length xs → drop i xs ≡ get_or xs i 0 ∷ drop (i + 1) xs
at_place xs i within = let one : suc i ≡ i + 1 = omega arith in drop-cons xs i 0 within ∙ ap (λ (n : ℕ). get_or xs i 0 ∷ drop n xs) one

-- ---- octets

pub bit_further : (ws types : List ℕ) (i octet number whole : ℕ) → i < length ws → octet + octet_of (drop i ws) types number ≡ whole
    → octet + weight_if types number (get_or ws i 0) + octet_of (drop (i + 1) ws) types (number + 1) ≡ whole
bit_further ws types i octet number whole here e =
    let at : octet_of (drop i ws) types number ≡ weight_if types number (get_or ws i 0) + octet_of (drop (i + 1) ws) types (number + 1) =
    ap (λ (l : List ℕ). octet_of l types number) (at_place ws i here) in
    omega arith

abbrev pub total : List ℕ → ℕ
total [] = 0
total (w ∷ ws) = w + total ws

octet_small : (ws types : List ℕ) (number : ℕ) → octet_of ws types number ≤ total ws
octet_small [] types number = omega arith
octet_small (w ∷ ws) types number =
    let one : weight_if types number w ≤ w = by (has_type types number) in
    let more : octet_of ws types (number + 1) ≤ total ws = octet_small ws types (number + 1) in
    omega arith
  where
    by : (b : Bool) → (if b then w else 0) ≤ w
    by true = omega arith
    by false = omega arith

pub octet_fits : (types : List ℕ) (number : ℕ) → octet_of weights types number ≤ 255
octet_fits types number = octet_small weights types number

pub octets_further : (types : List ℕ) (base count index : ℕ) (done whole : List ℕ) → index < count → done ++ octets_from types (base + 8 * index) (count - index) ≡ whole
    → (done ++ octet_of weights types (base + 8 * index) ∷ []) ++ octets_from types (base + 8 * (index + 1)) (count - (index + 1)) ≡ whole
octets_further types base count index done whole here e =
    let next : base + 8 * (index + 1) ≡ base + 8 * index + 8 = omega arith in
    let left : count - index ≡ suc (count - (index + 1)) = omega arith in
    append_assoc done (octet_of weights types (base + 8 * index) ∷ []) (octets_from types (base + 8 * (index + 1)) (count - (index + 1)))
    ∙ ap (λ (n : ℕ). done ++ (octet_of weights types (base + 8 * index) ∷ octets_from types n (count - (index + 1)))) next
    ∙ ap (λ (n : ℕ). done ++ octets_from types (base + 8 * index) n) (sym left) ∙ e

-- ---- blocks

pub blocks_further : (types : List ℕ) (window : ℕ) (done whole : List ℕ) → window < 256 → done ++ blocks types window (256 - window) ≡ whole
    → (done ++ block types window) ++ blocks types (window + 1) (256 - (window + 1)) ≡ whole
unfolding blocks
blocks_further types window done whole here e =
    let left : 256 - window ≡ suc (256 - (window + 1)) = omega arith in
    append_assoc done (block types window) (blocks types (window + 1) (256 - (window + 1)))
    ∙ ap (λ (n : ℕ). done ++ blocks types window n) (sym left) ∙ e

pub blocks_end : (types : List ℕ) (window : ℕ) (done whole : List ℕ) → 256 ≤ window → done ++ blocks types window (256 - window) ≡ whole → done ≡ whole
unfolding blocks
blocks_end types window done whole past e =
    let none : 256 - window ≡ 0 = omega arith in
    sym (append-nil done) ∙ ap (λ (n : ℕ). done ++ blocks types window n) (sym none) ∙ e

le_same : (a b c d : ℕ) → (a ≤ b → c ≤ d) → (c ≤ d → a ≤ b) → nat_le a b ≡ nat_le c d
le_same a b c d there back = by (nat_le a b) (nat_le c d) refl refl
  where
    holds : (n m : ℕ) → nat_le n m ≡ true → n ≤ m
    holds n m q = grind (arith, nat_tests)

    fails : (n m : ℕ) → nat_le n m ≡ false → m < n
    fails n m q = grind (arith, nat_tests)

    by : (x y : Bool) → nat_le a b ≡ x → nat_le c d ≡ y → nat_le a b ≡ nat_le c d
    by true true p q = p ∙ sym q
    by false false p q = p ∙ sym q
    by true false p q = let le = there (holds a b p) in let lt = fails c d q in absurd (omega arith)
    by false true p q = let le = back (holds c d q) in let lt = fails a b p in absurd (omega arith)

-- the octets of a block, and the blocks after it
skip : (m least : ℕ) (rest : List ℕ) → is_bitmap least (suc m) rest
    ≡ ((nat_le (suc m) (length rest) && not (get_or rest m 0 == 0)) && is_bitmap least 0 (drop (suc m) rest))
skip zero least [] = refl
skip zero least (c ∷ cs) = ap (λ (b : Bool). (b && not (c == 0)) && is_bitmap least 0 cs) (le_same 0 0 1 (suc (length cs)) (λ _. omega arith) (λ _. omega arith))
skip (suc m) least [] = ap (λ (b : Bool). (b && not (0 == 0)) && is_bitmap least 0 []) (le_same 1 0 (suc (suc m)) 0 (λ p. omega arith) (λ p. omega arith))
skip (suc m) least (c ∷ cs) =
    skip m least cs
    ∙ ap (λ (b : Bool). (b && not (get_or cs m 0 == 0)) && is_bitmap least 0 (drop (suc m) cs))
    (le_same (suc m) (length cs) (suc (suc m)) (suc (length cs)) (λ p. omega arith) (λ p. omega arith))

-- whether what follows a block is a bitmap
abbrev follow : ℕ → List ℕ → Option ℕ → Bool
follow least bytes None = false
follow least bytes (Some len) = is_bitmap least 0 (drop len bytes)

gather : (a b c d : Bool) (least k : ℕ) (bytes : List ℕ)
    → (a && (b && (c && (d && is_bitmap least 0 (drop k bytes))))) ≡ follow least bytes (if a && (b && (c && d)) then Some k else None)
gather true true true true least k bytes = refl
gather true true true false least k bytes = refl
gather true true false d least k bytes = refl
gather true false c d least k bytes = refl
gather false b c d least k bytes = refl

no_octets : (a c d : Bool) (least k : ℕ) (bytes : List ℕ) → (a && false) ≡ follow least bytes (if a && (false && (c && d)) then Some k else None)
no_octets true c d least k bytes = refl
no_octets false c d least k bytes = refl

at_block : (least w n : ℕ) (rest : List ℕ) → is_bitmap least 0 (w ∷ n ∷ rest)
    ≡ follow (w + 1) (w ∷ n ∷ rest) (if has_block least n (w ∷ n ∷ rest) then Some (n + 2) else None)
at_block least w zero rest =
    no_octets (nat_le least w) (nat_le 0 32) (nat_le (0 + 2) (length (w ∷ 0 ∷ rest)) && not (get_or (w ∷ 0 ∷ rest) (0 + 1) 0 == 0)) (w + 1) (0 + 2) (w ∷ 0 ∷ rest)
at_block least w (suc m) rest =
    let one : suc m + 1 ≡ suc (suc m) = omega arith in
    let two : suc m + 2 ≡ suc (suc (suc m)) = omega arith in
    ap (λ (b : Bool). nat_le least w && (nat_le 1 (suc m) && (nat_le (suc m) 32 && b)))
    (skip m (w + 1) rest
    ∙ ap (λ (b : Bool). (b && not (get_or rest m 0 == 0)) && is_bitmap (w + 1) 0 (drop (suc m) rest))
    (le_same (suc m) (length rest) (suc m + 2) (length (w ∷ suc m ∷ rest)) (λ p. omega arith) (λ p. omega arith))
    ∙ ap (λ (k : ℕ). (nat_le (suc m + 2) (length (w ∷ suc m ∷ rest)) && not (get_or (w ∷ suc m ∷ rest) k 0 == 0)) && is_bitmap (w + 1) 0 (drop (suc m) rest)) (sym one)
    ∙ ap (λ (k : ℕ). (nat_le (suc m + 2) (length (w ∷ suc m ∷ rest)) && not (get_or (w ∷ suc m ∷ rest) (suc m + 1) 0 == 0)) && is_bitmap (w + 1) 0 (drop k (w ∷ suc m ∷ rest))) (sym two))
    ∙ gather (nat_le least w) (nat_le 1 (suc m)) (nat_le (suc m) 32) (nat_le (suc m + 2) (length (w ∷ suc m ∷ rest)) && not (get_or (w ∷ suc m ∷ rest) (suc m + 1) 0 == 0)) (w + 1) (suc m + 2)
    (w ∷ suc m ∷ rest)

long : (n : ℕ) → nat_lt (suc (suc n)) 2 ≡ false
long n = by (nat_lt (suc (suc n)) 2) refl
  where
    by : (b : Bool) → nat_lt (suc (suc n)) 2 ≡ b → nat_lt (suc (suc n)) 2 ≡ false
    by true q = absurd (grind (arith, nat_tests))
    by false q = q

-- a bitmap that has bytes begins with a block
pub some_block : (least : ℕ) (bytes : List ℕ) → 0 < length bytes → is_bitmap least 0 bytes ≡ follow (get_or bytes 0 0 + 1) bytes (block_len least bytes)
some_block least [] some = absurd (omega arith)
some_block least (w ∷ []) some = refl
some_block least (w ∷ n ∷ rest) some =
    at_block least w n rest
    ∙ ap (λ (b : Bool). follow (w + 1) (w ∷ n ∷ rest) (if b then None else if has_block least n (w ∷ n ∷ rest) then Some (n + 2) else None)) (sym (long (length rest)))

pub block_further : (least len : ℕ) (bytes : List ℕ) (whole : Bool) → 0 < length bytes → block_len least bytes ≡ Some len → is_bitmap least 0 bytes ≡ whole
    → is_bitmap (get_or bytes 0 0 + 1) 0 (drop len bytes) ≡ whole
block_further least len bytes whole some is e =
    sym (ap (follow (get_or bytes 0 0 + 1) bytes) is) ∙ sym (some_block least bytes some) ∙ e

pub block_stops : (least : ℕ) (bytes : List ℕ) (whole : Bool) → 0 < length bytes → block_len least bytes ≡ None → is_bitmap least 0 bytes ≡ whole → whole ≡ false
block_stops least bytes whole some is e = sym e ∙ some_block least bytes some ∙ ap (follow (get_or bytes 0 0 + 1) bytes) is

pub some_of : (n : ℕ) → false ≡ (n == 0) → 0 < n
some_of zero e = absurd (cc)
some_of (suc n) e = omega arith

-- ---- text

pub spaced_append : (a b : List ℕ) → spaced_types (a ++ b) ≡ spaced_types a ++ spaced_types b
spaced_append [] b = refl
spaced_append (t ∷ ts) b =
    ap (λ (l : List ℕ). (32 ∷ word_of_type (t % 65536)) ++ l) (spaced_append ts b) ∙ sym (append_assoc (32 ∷ word_of_type (t % 65536)) (spaced_types ts) (spaced_types b))

spaced_further : (types more : List ℕ) (done whole : List ℕ) → done ++ spaced_types (types ++ more) ≡ whole → (done ++ spaced_types types) ++ spaced_types more ≡ whole
spaced_further types more done whole e =
    append_assoc done (spaced_types types) (spaced_types more) ∙ ap (λ (l : List ℕ). done ++ l) (sym (spaced_append types more)) ∙ e

pub bit_written : (ws : List ℕ) (i number left : ℕ) (done whole : List ℕ) → i < length ws → done ++ spaced_types (types_of_octet (drop i ws) number left) ≡ whole
    → (done ++ spaced_types (bit_types (get_or ws i 0) number left)) ++ spaced_types (types_of_octet (drop (i + 1) ws) (number + 1) (without (get_or ws i 0) left)) ≡ whole
bit_written ws i number left done whole here e =
    spaced_further (bit_types (get_or ws i 0) number left) (types_of_octet (drop (i + 1) ws) (number + 1) (without (get_or ws i 0) left)) done whole
    (ap (λ (l : List ℕ). done ++ spaced_types (types_of_octet l number left)) (sym (at_place ws i here)) ∙ e)

pub octet_written : (octets : List ℕ) (i number : ℕ) (done whole : List ℕ) → i < length octets → done ++ spaced_types (types_of_octets number (drop i octets)) ≡ whole
    → (done ++ spaced_types (types_of_octet weights number (get_or octets i 0))) ++ spaced_types (types_of_octets (number + 8) (drop (i + 1) octets)) ≡ whole
octet_written octets i number done whole here e =
    spaced_further (types_of_octet weights number (get_or octets i 0)) (types_of_octets (number + 8) (drop (i + 1) octets)) done whole
    (ap (λ (l : List ℕ). done ++ spaced_types (types_of_octets number l)) (sym (at_place octets i here)) ∙ e)

free_base : (b : ℕ) (bytes : List ℕ) → types_of b 0 bytes ≡ types_of 0 0 bytes
free_base b [] = refl
free_base b (w ∷ []) = refl
free_base b (w ∷ n ∷ rest) = refl

block_types : (count base : ℕ) (rest : List ℕ) → types_of base count rest ≡ types_of_octets base (take count rest) ++ types_of 0 0 (drop count rest)
block_types zero base rest = free_base base rest
block_types (suc count) base [] = refl
block_types (suc count) base (c ∷ cs) =
    ap (λ (l : List ℕ). types_of_octet weights base c ++ l) (block_types count (base + 8) cs)
    ∙ sym (append_assoc (types_of_octet weights base c) (types_of_octets (base + 8) (take count cs)) (types_of 0 0 (drop count cs)))

take_least : (n : ℕ) (xs : List ℕ) → take (min (length xs) n) xs ≡ take n xs
take_least zero [] = refl
take_least zero (x ∷ xs) = let none : min (length (x ∷ xs)) 0 ≡ 0 = omega arith in ap (λ (k : ℕ). take k (x ∷ xs)) none
take_least (suc n) [] = no_front (min 0 (suc n))
  where
    no_front : (k : ℕ) → ◌≡◌ {A = List ℕ} (take k []) []
    no_front zero = refl
    no_front (suc k) = refl
take_least (suc n) (x ∷ xs) =
    let next : min (suc (length xs)) (suc n) ≡ suc (min (length xs) n) = omega arith in
    ap (λ (k : ℕ). take k (x ∷ xs)) next ∙ ap (λ (l : List ℕ). x ∷ l) (take_least n xs)

drop_least : (n : ℕ) (xs : List ℕ) → drop (min (length xs) n) xs ≡ drop n xs
drop_least zero [] = refl
drop_least zero (x ∷ xs) = let none : min (length (x ∷ xs)) 0 ≡ 0 = omega arith in ap (λ (k : ℕ). drop k (x ∷ xs)) none
drop_least (suc n) [] = no_rest (min 0 (suc n))
  where
    no_rest : (k : ℕ) → ◌≡◌ {A = List ℕ} (drop k []) []
    no_rest zero = refl
    no_rest (suc k) = refl
drop_least (suc n) (x ∷ xs) =
    let next : min (suc (length xs)) (suc n) ≡ suc (min (length xs) n) = omega arith in
    ap (λ (k : ℕ). drop k (x ∷ xs)) next ∙ drop_least n xs

-- the types of the first block, and of the blocks after it
pub front_types : (bytes : List ℕ) (end : ℕ) → 2 ≤ length bytes → end ≡ min (length bytes) (2 + get_or bytes 1 0)
    → types_of 0 0 bytes ≡ types_of_octets (256 * get_or bytes 0 0) (take (end - 2) (drop 2 bytes)) ++ types_of 0 0 (drop end bytes)
front_types [] end two is = absurd (omega arith)
front_types (w ∷ []) end two is = absurd (omega arith)
front_types (w ∷ n ∷ rest) end two is =
    let end_is : end ≡ suc (suc (min (length rest) n)) = omega arith in
    let count : end - 2 ≡ min (length rest) n = omega arith in
    block_types n (256 * w) rest
    ∙ ap (λ (l : List ℕ). types_of_octets (256 * w) l ++ types_of 0 0 (drop n rest)) (sym (take_least n rest))
    ∙ ap (λ (l : List ℕ). types_of_octets (256 * w) (take (min (length rest) n) rest) ++ types_of 0 0 l) (sym (drop_least n rest))
    ∙ ap (λ (k : ℕ). types_of_octets (256 * w) (take k rest) ++ types_of 0 0 (drop (min (length rest) n) rest)) (sym count)
    ∙ ap (λ (k : ℕ). types_of_octets (256 * w) (take (end - 2) rest) ++ types_of 0 0 (drop k (w ∷ n ∷ rest))) (sym end_is)

pub block_written : (bytes : List ℕ) (end : ℕ) (done whole : List ℕ) → 2 ≤ length bytes → end ≡ min (length bytes) (2 + get_or bytes 1 0) → done ++ spaced_types (types_of 0 0 bytes) ≡ whole
    → (done ++ spaced_types (types_of_octets (256 * get_or bytes 0 0) (take (end - 2) (drop 2 bytes)))) ++ spaced_types (types_of 0 0 (drop end bytes)) ≡ whole
block_written bytes end done whole two is e =
    spaced_further (types_of_octets (256 * get_or bytes 0 0) (take (end - 2) (drop 2 bytes))) (types_of 0 0 (drop end bytes)) done whole
    (ap (λ (l : List ℕ). done ++ spaced_types l) (sym (front_types bytes end two is)) ∙ e)

pub no_types : (bytes done whole : List ℕ) → length bytes < 2 → done ++ spaced_types (types_of 0 0 bytes) ≡ whole → done ≡ whole
no_types [] done whole few e = sym (append-nil done) ∙ e
no_types (w ∷ []) done whole few e = sym (append-nil done) ∙ e
no_types (w ∷ n ∷ rest) done whole few e = absurd (omega arith)

take_whole : (n : ℕ) (xs : List ℕ) → length xs ≤ n → take n xs ≡ xs
take_whole zero [] le = refl
take_whole zero (x ∷ xs) le = absurd (omega arith)
take_whole (suc n) [] le = refl
take_whole (suc n) (x ∷ xs) le = ap (λ (l : List ℕ). x ∷ l) (take_whole n xs (omega arith))

-- the slice that is handed down
pub slice_is : (xs : List ℕ) (n : ℕ) → take (length xs - n) (drop n xs) ≡ drop n xs
slice_is xs n = take_whole (length xs - n) (drop n xs) (omega (arith, length-drop n xs))

-- ---- tables of types

-- the weights that are left fit, once one more is taken
pub total_further : (ws : List ℕ) (i octet : ℕ) → i < length ws → octet + total (drop i ws) ≤ 255 → octet + get_or ws i 0 + total (drop (i + 1) ws) ≤ 255
total_further ws i octet here e =
    let at : total (drop i ws) ≡ get_or ws i 0 + total (drop (i + 1) ws) = ap total (at_place ws i here) in
    omega arith

-- a bit is at most its weight
pub bit_small : (b : Bool) (weight bit : ℕ) → bit ≡ (if b then weight else 0) → bit ≤ weight
bit_small true weight bit e = omega (arith, e)
bit_small false weight bit e = omega (arith, e)

-- the bit of a place in a table is that of its type
pub bit_noted : (ws types : List ℕ) (present : List Bool) (base place i octet bit whole : ℕ) → i < length ws → place < 256 → AreTypes present types base
    → bit ≡ (if get_or present place false then get_or ws i 0 else 0) → octet + octet_of (drop i ws) types (base + place) ≡ whole
    → octet + bit + octet_of (drop (i + 1) ws) types (base + (place + 1)) ≡ whole
bit_noted ws types present base place i octet bit whole here small are is e =
    let next : base + (place + 1) ≡ base + place + 1 = omega arith in
    ap (λ (n : ℕ). octet + n + octet_of (drop (i + 1) ws) types (base + (place + 1)))
    (is ∙ ap (λ (b : Bool). if b then get_or ws i 0 else 0) (are place small))
    ∙ ap (λ (n : ℕ). octet + weight_if types (base + place) (get_or ws i 0) + octet_of (drop (i + 1) ws) types n) next
    ∙ bit_further ws types i octet (base + place) whole here e

or_true : (b : Bool) → (b || true) ≡ true
or_true true = refl
or_true false = refl

-- the types up to here are in a table
abbrev pub Noted : List Bool → List ℕ → ℕ → ℕ → Type 0
Noted present types i window =
    (place : ℕ) → place < 256 → (get_or present place false || has_type (drop i types) (256 * window + place)) ≡ has_type types (256 * window + place)

module _ (types : List ℕ) (present : List Bool) (i window : ℕ) (here : i < length types) (so_far : Noted present types i window) where
  first_is : (number : ℕ) → has_type (drop i types) number ≡ (get_or types i 0 == number || has_type (drop (i + 1) types) number)
  first_is number = ap (λ (l : List ℕ). has_type l number) (at_place types i here)

  -- one that is of no window's place is passed
  passed : (place : ℕ) → place < 256 → (get_or types i 0 == 256 * window + place) ≡ false
      → (get_or present place false || has_type (drop (i + 1) types) (256 * window + place)) ≡ has_type types (256 * window + place)
  passed place small other =
      sym (ap (λ (b : Bool). get_or present place false || (b || has_type (drop (i + 1) types) (256 * window + place))) other)
      ∙ sym (ap (λ (b : Bool). get_or present place false || b) (first_is (256 * window + place)))
      ∙ so_far place small

  -- what is noted of one
  abbrev pub noting : Bool → List Bool
  noting inside = if inside then set present (get_or types i 0 % 256) true else present

  type_passed : (get_or types i 0 / 256 == window) ≡ false → Noted present types (i + 1) window
  type_passed outside place small = passed place small (grind (arith, nat_tests))

  type_put : length present ≡ 256 → (get_or types i 0 / 256 == window) ≡ true → Noted (noting true) types (i + 1) window
  type_put len inside place small = by (get_or types i 0 == 256 * window + place) refl
    where
      by : (b : Bool) → (get_or types i 0 == 256 * window + place) ≡ b
          → (get_or (noting true) place false || has_type (drop (i + 1) types) (256 * window + place)) ≡ has_type types (256 * window + place)
      by true e =
          let same : place ≡ get_or types i 0 % 256 = grind (arith, nat_tests) in
          let put : get_or (noting true) place false ≡ true =
          get_or-set_at present (get_or types i 0 % 256) place true false same (omega (arith, len)) in
          let there : has_type types (256 * window + place) ≡ true =
          sym (so_far place small) ∙ ap (λ (b : Bool). get_or present place false || b) (first_is (256 * window + place) ∙ ap (λ (b : Bool). b || has_type (drop (i + 1) types) (256 * window + place)) e)
          ∙ or_true (get_or present place false) in
          ap (λ (b : Bool). b || has_type (drop (i + 1) types) (256 * window + place)) put ∙ sym there
      by false e =
          let other : place ≢ get_or types i 0 % 256 = λ same. absurd (grind (arith, nat_tests)) in
          let kept : get_or (noting true) place false ≡ get_or present place false =
          get_or-set_other present (get_or types i 0 % 256) place true false other in
          ap (λ (b : Bool). b || has_type (drop (i + 1) types) (256 * window + place)) kept ∙ passed place small e

  -- one more type is noted
  pub type_noted : (after : List Bool) → length present ≡ 256 → after ≡ noting (get_or types i 0 / 256 == window)
      → Noted after types (i + 1) window
  type_noted after len is = subst (λ (l : List Bool). Noted l types (i + 1) window) (sym is) (by (get_or types i 0 / 256 == window) refl)
    where
      by : (b : Bool) → (get_or types i 0 / 256 == window) ≡ b → Noted (noting b) types (i + 1) window
      by true e = type_put len e
      by false e = type_passed e

-- a table keeps its length
pub noting_len : (inside : Bool) (present : List Bool) (place : ℕ) (after : List Bool)
    → after ≡ (if inside then set present place true else present) → length after ≡ length present
noting_len true present place after is = ap (λ (l : List Bool). length l) is ∙ length-set present place true
noting_len false present place after is = ap (λ (l : List Bool). length l) is

-- a table with no type left is whole
pub all_noted : (present : List Bool) (types : List ℕ) (i window : ℕ) → length types ≤ i → Noted present types i window → AreTypes present types (256 * window)
all_noted present types i window past noted place small =
    sym (or_false (get_or present place false)) ∙ sym none ∙ noted place small
  where
    or_false : (b : Bool) → (b || false) ≡ b
    or_false true = refl
    or_false false = refl

    none : (get_or present place false || has_type (drop i types) (256 * window + place)) ≡ (get_or present place false || false)
    none = ap (λ (l : List ℕ). get_or present place false || has_type l (256 * window + place)) (drop_all i types past)

-- the block of a window that needs octets
pub block_is : (types : List ℕ) (window needed : ℕ) (out now : List ℕ) → needed ≡ octets_needed 0 types window → needed ≢ 0
    → now ≡ ((out ++ window ∷ []) ++ needed ∷ []) ++ octets_from types (256 * window) needed → now ≡ out ++ block types window
block_is types window zero out now is some e = absurd (some refl)
block_is types window (suc n) out now is some e =
    e ∙ append_assoc (out ++ window ∷ []) (suc n ∷ []) (octets_from types (256 * window) (suc n))
    ∙ append_assoc out (window ∷ []) (suc n ∷ octets_from types (256 * window) (suc n))
    ∙ ap (λ (k : ℕ). out ++ block_of types window k) is
