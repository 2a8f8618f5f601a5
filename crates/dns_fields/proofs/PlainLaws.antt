-- Octets of words that need no escape.
use Rattle.std.proofs.Common.{◌≡◌, ℕ, zero, suc, ◌+◌, ◌*◌, ◌/◌, ◌%◌, ◌<◌, ◌^◌, Bool, true, false, ◌&&◌, ◌||◌, List, [], ◌∷◌, ◌++◌, length, drop, get_or, Option, Some, None, refl, sym, ap, ◌∙◌, append_assoc, replicate, arith}
use Rattle.std.specs.Prelude.{◌==◌, not, codes, slice_index, if◌then◌else◌}
use Rattle.std.specs.Fmt.{decimal}
use Rattle.std.specs.List.{AllByRecursion}
use Rattle.std.proofs.lemmas.Bool.Decides.{nat_tests}
use Rattle.std.proofs.lemmas.Fmt.{decimal_by_steps}
use Rattle.base64.specs.Engines.{standard}
use Rattle.base64.specs.GeneralPurpose.{encode_of}
use Rattle.base64.specs.Rfc4648.{encode_symbols, padding_len}
use Rattle.hex.specs.Hex.{lower_digits}
use Rattle.dns_names.specs.Print.{escape_sequence, AreOctets}
use Rattle.dns_fields.specs.service.Key.{keys}
use Rattle.dns_fields.specs.service.Text.{is_plain_octet, word_text, name_among, name_or_number, key_name, item_text, dotted, hex_pair, group_text, more_groups, ipv6_text}
use Rattle.dns_fields.proofs.LoopLaws.{first_of, second_of}

both_of : (a b : Bool) → a ≡ true → b ≡ true → (a && b) ≡ true
both_of true b e f = f
both_of false b e f = absurd (cc)

-- ---- octets that need no escape, in an item either

abbrev is_simple : ℕ → Bool
is_simple c = is_plain_octet c && not (c == 44 || c == 92)

abbrev pub are_simple : List ℕ → Bool
are_simple [] = true
are_simple (c ∷ cs) = is_simple c && are_simple cs

pub simple_plain : (c : ℕ) (cs : List ℕ) → are_simple (c ∷ cs) ≡ true → (is_plain_octet c ≡ true) × (are_simple cs ≡ true)
simple_plain c cs e = (first_of (is_plain_octet c) (not (c == 44 || c == 92)) (first_of (is_simple c) (are_simple cs) e), second_of (is_simple c) (are_simple cs) e)

-- they are a word as they are
pub plain_word : (text : List ℕ) → are_simple text ≡ true → word_text text ≡ text
plain_word [] e = refl
plain_word (c ∷ cs) e =
    ap (λ (b : Bool). (if b then c ∷ [] else escape_sequence c) ++ word_text cs) (simple_plain c cs e).0 ∙ ap (λ (l : List ℕ). c ∷ l) (plain_word cs (simple_plain c cs e).1)

not_true : (b : Bool) → not b ≡ true → b ≡ false
not_true true e = absurd (cc)
not_true false e = refl

-- and an item
pub simple_item : (text : List ℕ) → are_simple text ≡ true → item_text text ≡ text
simple_item [] e = refl
simple_item (c ∷ cs) e =
    ap (λ (b : Bool). (if b then 92 ∷ c ∷ [] else c ∷ []) ++ item_text cs) (not_true (c == 44 || c == 92) (second_of (is_plain_octet c) (not (c == 44 || c == 92)) (first_of (is_simple c) (are_simple cs) e)))
    ∙ ap (λ (l : List ℕ). c ∷ l) (simple_item cs (second_of (is_simple c) (are_simple cs) e))

plain_small : (c : ℕ) → is_plain_octet c ≡ true → c < 256
plain_small c e = grind (arith, nat_tests)

pub simple_octets : (text : List ℕ) → are_simple text ≡ true → AreOctets text
simple_octets [] e = tt
simple_octets (c ∷ cs) e = (plain_small c (simple_plain c cs e).0, simple_octets cs (simple_plain c cs e).1)

pub simple_append : (a b : List ℕ) → are_simple a ≡ true → are_simple b ≡ true → are_simple (a ++ b) ≡ true
simple_append [] b e f = f
simple_append (c ∷ cs) b e f =
    both_of (is_simple c) (are_simple (cs ++ b)) (first_of (is_simple c) (are_simple cs) e) (simple_append cs b (second_of (is_simple c) (are_simple cs) e) f)

-- ---- numbers

digit_simple : (r : ℕ) → r < 10 → is_simple (48 + r) ≡ true
digit_simple r small = by (is_simple (48 + r)) refl
  where
    by : (b : Bool) → is_simple (48 + r) ≡ b → b ≡ true
    by true e = refl
    by false e = absurd (grind (arith, nat_tests))

one_simple : (r : ℕ) → r < 10 → are_simple ((48 + r) ∷ []) ≡ true
one_simple r small = both_of (is_simple (48 + r)) true (digit_simple r small) refl

pub decimal_simple : (n : ℕ) → n < 2 ^ 64 → are_simple (decimal n) ≡ true
decimal_simple = decimal_by_steps (λ n ds. are_simple ds ≡ true) (λ n small. one_simple n small) (λ n ds great e. simple_append ds ((48 + n % 10) ∷ []) e (one_simple (n % 10) (omega arith)))

dot_simple : (n : ℕ) (rest : List ℕ) → n < 2 ^ 64 → are_simple rest ≡ true → are_simple (decimal n ++ 46 ∷ rest) ≡ true
dot_simple n rest small e = simple_append (decimal n) (46 ∷ rest) (decimal_simple n small) (both_of (is_simple 46) (are_simple rest) refl e)

-- four numbers, from the last
pub dotted_is : (a b c d : ℕ) → dotted a b c d ≡ decimal a ++ 46 ∷ (decimal b ++ 46 ∷ (decimal c ++ 46 ∷ decimal d))
dotted_is a b c d =
    append_assoc (decimal a ++ 46 ∷ decimal b) (46 ∷ decimal c) (46 ∷ decimal d) ∙ append_assoc (decimal a) (46 ∷ decimal b) (46 ∷ (decimal c ++ 46 ∷ decimal d))

pub dotted_simple : (a b c d : ℕ) → a < 2 ^ 64 → b < 2 ^ 64 → c < 2 ^ 64 → d < 2 ^ 64 → are_simple (dotted a b c d) ≡ true
dotted_simple a b c d p q r s =
    ap are_simple (dotted_is a b c d)
    ∙ dot_simple a (decimal b ++ 46 ∷ (decimal c ++ 46 ∷ decimal d)) p (dot_simple b (decimal c ++ 46 ∷ decimal d) q (dot_simple c (decimal d) r (decimal_simple d s)))

apart_then : (cs : List ℕ) (c : ℕ) → AllByRecursion (λ x. (x == 46) ≡ false) cs → (c == 46) ≡ false → AllByRecursion (λ x. (x == 46) ≡ false) (cs ++ c ∷ [])
apart_then [] c all is = (is, tt)
apart_then (d ∷ cs) c all is = (all.0, apart_then cs c all.1 is)

no_dot : (r : ℕ) → r < 10 → ((48 + r) == 46) ≡ false
no_dot r small = by ((48 + r) == 46) refl
  where
    by : (b : Bool) → ((48 + r) == 46) ≡ b → b ≡ false
    by true e = absurd (grind (arith, nat_tests))
    by false e = refl

-- digits have no dot
pub decimal_apart : (n : ℕ) → n < 2 ^ 64 → AllByRecursion (λ c. (c == 46) ≡ false) (decimal n)
decimal_apart = decimal_by_steps (λ n ds. AllByRecursion (λ c. (c == 46) ≡ false) ds) (λ n small. (no_dot n small, tt)) (λ n ds great all. apart_then ds (48 + n % 10) all (no_dot (n % 10) (omega arith)))

-- ---- keys

abbrev all_simple : List (List ℕ × ℕ) → Bool
all_simple [] = true
all_simple (line ∷ lines) = are_simple line.0 && all_simple lines

names_simple : all_simple keys ≡ true
names_simple = refl

name_is : (a b : List ℕ) → ◌≡◌ {A = Option (List ℕ)} (Some a) (Some b) → a ≡ b
name_is a b e = cc

name_simple : (lines : List (List ℕ × ℕ)) (key : ℕ) (name : List ℕ) → all_simple lines ≡ true → name_among lines key ≡ Some name → are_simple name ≡ true
name_simple [] key name e q = absurd (cc)
name_simple (line ∷ lines) key name e q = by (line.1 == key) q (λ r. name_simple lines key name (second_of (are_simple line.0) (all_simple lines) e) r)
  where
    by : (b : Bool) → (if b then Some line.0 else name_among lines key) ≡ Some name → (name_among lines key ≡ Some name → are_simple name ≡ true) → are_simple name ≡ true
    by true r rest = ap are_simple (sym (name_is line.0 name r)) ∙ first_of (are_simple line.0) (all_simple lines) e
    by false r rest = rest r

pub key_simple : (key : ℕ) → key < 2 ^ 64 → are_simple (key_name key) ≡ true
key_simple key small = by (name_among keys key) refl
  where
    by : (o : Option (List ℕ)) → name_among keys key ≡ o → are_simple (name_or_number o key) ≡ true
    by None q = simple_append (codes "key") (decimal key) refl (decimal_simple key small)
    by (Some name) q = name_simple keys key name names_simple q

-- ---- hexadecimal digits and base64

pub octet_or : (bytes : List ℕ) → AreOctets bytes → (i : ℕ) → get_or bytes i 0 < 256
octet_or [] are i = omega arith
octet_or (c ∷ cs) are zero = are.0
octet_or (c ∷ cs) are (suc i) = octet_or cs are.1 i

symbol_at : (table : List ℕ) → are_simple table ≡ true → (i : ℕ) → i < length table → is_simple (slice_index table i) ≡ true
symbol_at [] e i within = absurd (omega arith)
symbol_at (c ∷ cs) e zero within = first_of (is_simple c) (are_simple cs) e
symbol_at (c ∷ cs) e (suc i) within = symbol_at cs (second_of (is_simple c) (are_simple cs) e) i (omega arith)

hex_digit_simple : (i : ℕ) → i < 16 → is_simple (slice_index lower_digits i) ≡ true
hex_digit_simple i small = symbol_at lower_digits refl i small

pair_simple : (c : ℕ) → c < 256 → are_simple (hex_pair c) ≡ true
pair_simple c small =
    both_of (is_simple (slice_index lower_digits (c / 16))) (are_simple (slice_index lower_digits (c % 16) ∷ [])) (hex_digit_simple (c / 16) (omega arith))
    (both_of (is_simple (slice_index lower_digits (c % 16))) true (hex_digit_simple (c % 16) (omega arith)) refl)

pub pairs_simple : (a b : ℕ) → a < 256 → b < 256 → are_simple (hex_pair a ++ hex_pair b) ≡ true
pairs_simple a b p q = simple_append (hex_pair a) (hex_pair b) (pair_simple a p) (pair_simple b q)

more_simple : (n : ℕ) (bytes : List ℕ) → AreOctets bytes → are_simple (more_groups n bytes) ≡ true
more_simple zero bytes are = refl
more_simple (suc n) bytes are =
    simple_append (hex_pair (get_or bytes 0 0) ++ hex_pair (get_or bytes 1 0)) (more_groups n (drop 2 bytes)) (pairs_simple (get_or bytes 0 0) (get_or bytes 1 0) (octet_or bytes are 0) (octet_or bytes are 1))
    (more_simple n (drop 2 bytes) (later bytes are))
  where
    later : (xs : List ℕ) → AreOctets xs → AreOctets (drop 2 xs)
    later [] all = tt
    later (x ∷ []) all = tt
    later (x ∷ y ∷ xs) all = all.1.1

pub ipv6_simple : (bytes : List ℕ) → AreOctets bytes → are_simple (ipv6_text bytes) ≡ true
ipv6_simple [] are = simple_append (group_text []) (more_groups 7 []) (pairs_simple 0 0 (omega arith) (omega arith)) (more_simple 7 [] tt)
ipv6_simple (x ∷ []) are = simple_append (group_text (x ∷ [])) (more_groups 7 []) (pairs_simple x 0 are.0 (omega arith)) (more_simple 7 [] tt)
ipv6_simple (x ∷ y ∷ xs) are = simple_append (group_text (x ∷ y ∷ xs)) (more_groups 7 xs) (pairs_simple x y are.0 are.1.0) (more_simple 7 xs are.1.1)

same_simple : (n : ℕ) → are_simple (replicate n 61) ≡ true
same_simple zero = refl
same_simple (suc n) = same_simple n

abbrev symbol : ℕ → ℕ
symbol i = slice_index standard.encode_table i

symbol_before : (i : ℕ) (cs : List ℕ) → i < 64 → are_simple cs ≡ true → are_simple (symbol i ∷ cs) ≡ true
symbol_before i cs within e = both_of (is_simple (symbol i)) (are_simple cs) (symbol_at standard.encode_table refl i within) e

symbols_simple : (bytes : List ℕ) → AreOctets bytes → are_simple (encode_symbols standard.encode_table bytes) ≡ true
unfolding encode_symbols
symbols_simple [] are = refl
symbols_simple (a ∷ []) are = let p = are.0 in symbol_before (a / 4) (symbol (a % 4 * 16) ∷ []) (omega arith) (symbol_before (a % 4 * 16) [] (omega arith) refl)
symbols_simple (a ∷ b ∷ []) are =
    let p = are.0 in
    let q = are.1.0 in
    symbol_before (a / 4) (symbol (a % 4 * 16 + b / 16) ∷ symbol (b % 16 * 4) ∷ []) (omega arith)
    (symbol_before (a % 4 * 16 + b / 16) (symbol (b % 16 * 4) ∷ []) (omega arith) (symbol_before (b % 16 * 4) [] (omega arith) refl))
symbols_simple (a ∷ b ∷ c ∷ rest) are =
    let p = are.0 in
    let q = are.1.0 in
    let r = are.1.1.0 in
    let more : List ℕ = encode_symbols standard.encode_table rest in
    symbol_before (a / 4) (symbol (a % 4 * 16 + b / 16) ∷ symbol (b % 16 * 4 + c / 64) ∷ symbol (c % 64) ∷ more) (omega arith)
    (symbol_before (a % 4 * 16 + b / 16) (symbol (b % 16 * 4 + c / 64) ∷ symbol (c % 64) ∷ more) (omega arith)
    (symbol_before (b % 16 * 4 + c / 64) (symbol (c % 64) ∷ more) (omega arith) (symbol_before (c % 64) more (omega arith) (symbols_simple rest are.1.1.1))))

pub base64_simple : (bytes : List ℕ) → AreOctets bytes → are_simple (encode_of standard bytes) ≡ true
base64_simple bytes are =
    simple_append (encode_symbols standard.encode_table bytes) (replicate (padding_len (length bytes)) 61) (symbols_simple bytes are) (same_simple (padding_len (length bytes)))

pub octets_are : (bytes : List ℕ) → ((i : ℕ) → slice_index bytes i < 256) → AreOctets bytes
octets_are [] small = tt
octets_are (c ∷ cs) small = (small 0, octets_are cs (λ i. small (suc i)))
