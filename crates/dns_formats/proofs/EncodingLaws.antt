-- Hexadecimal digits and base64 are words, and are read as their bytes.
use Rattle.std.proofs.Common.{◌≡◌, ℕ, zero, suc, ◌+◌, ◌*◌, ◌/◌, ◌%◌, ◌<◌, Bool, true, false, ◌&&◌, ◌||◌, List, [], ◌∷◌, ◌++◌, length, get_or, replicate, Ok, refl, sym, subst, arith, length-append}
use Rattle.std.specs.Prelude.{◌≢◌, ◌==◌, slice_index}
use Rattle.std.specs.List.{AllByRecursion}
use Rattle.std.proofs.lemmas.Bool.Decides.{nat_tests}
use Rattle.base64.specs.Engines.{standard}
use Rattle.base64.specs.GeneralPurpose.{encode_of, decode_of}
use Rattle.base64.specs.Rfc4648.{encode_symbols, padding_len}
use Rattle.base64.proofs.RoundTrip.{decode-encode}
use Rattle.hex.specs.Hex.{encode_lower, encode_with, lower_digits}
use Rattle.hex.specs.Hex as hex
use Rattle.hex.proofs.HexLemmas.{decode_of-encode_lower, length-encode_with}
use Rattle.dns_names.specs.Print.{AreOctets}
use Rattle.dns_formats.specs.Value.{is_tag_octet, are_tag_octets}
use Rattle.dns_formats.proofs.WordLaws.{IsTame, tag_tame, IsPlainWord, tame_word}

-- ---- octets

pub octet_at : (bytes : List ℕ) → AreOctets bytes → (i : ℕ) → slice_index bytes i < 256
octet_at [] are i = omega arith
octet_at (c ∷ cs) are zero = are.0
octet_at (c ∷ cs) are (suc i) = octet_at cs are.1 i

-- ---- characters of words

-- a letter, a digit, `+`, `/` or `=`
abbrev is_word_octet : ℕ → Bool
is_word_octet c = is_tag_octet c || (c == 43 || (c == 47 || c == 61))

abbrev are_word_octets : List ℕ → Bool
are_word_octets [] = true
are_word_octets (c ∷ cs) = is_word_octet c && are_word_octets cs

is_same : (a b : ℕ) → (a == b) ≡ true → a ≡ b
is_same a b e = grind (arith, nat_tests)

tame_at : (c k : ℕ) → c ≡ k → IsTame k → IsTame c
tame_at c k e is = subst (λ (n : ℕ). IsTame n) (sym e) is

word_tame : (c : ℕ) → is_word_octet c ≡ true → IsTame c
word_tame c e = by (is_tag_octet c) refl e
  where
    last : (b : Bool) → (c == 47) ≡ b → (b || c == 61) ≡ true → IsTame c
    last true q e = tame_at c 47 (is_same c 47 q) (omega arith)
    last false q e = tame_at c 61 (is_same c 61 e) (omega arith)

    next : (b : Bool) → (c == 43) ≡ b → (b || (c == 47 || c == 61)) ≡ true → IsTame c
    next true q e = tame_at c 43 (is_same c 43 q) (omega arith)
    next false q e = last (c == 47) refl e

    by : (b : Bool) → is_tag_octet c ≡ b → (b || (c == 43 || (c == 47 || c == 61))) ≡ true → IsTame c
    by true q e = tag_tame c q
    by false q e = next (c == 43) refl e

first_of : (a b : Bool) → (a && b) ≡ true → a ≡ true
first_of true b e = refl
first_of false b e = e

second_of : (a b : Bool) → (a && b) ≡ true → b ≡ true
second_of true b e = e
second_of false b e = absurd (cc)

symbol_at : (table : List ℕ) → are_word_octets table ≡ true → (i : ℕ) → i < length table → IsTame (slice_index table i)
symbol_at [] e i within = absurd (omega arith)
symbol_at (c ∷ cs) e zero within = word_tame c (first_of (is_word_octet c) (are_word_octets cs) e)
symbol_at (c ∷ cs) e (suc i) within = symbol_at cs (second_of (is_word_octet c) (are_word_octets cs) e) i (omega arith)

-- ---- hexadecimal digits

hex_digits_tame : (bytes : List ℕ) → AreOctets bytes → AllByRecursion IsTame (encode_lower bytes)
unfolding encode_with
hex_digits_tame [] are = tt
hex_digits_tame (b ∷ bs) are =
    let small = are.0 in
    (symbol_at lower_digits refl (b / 16) (omega arith), (symbol_at lower_digits refl (b % 16) (omega arith), hex_digits_tame bs are.1))

pub hex_word : (byte : ℕ) (bytes : List ℕ) → AreOctets (byte ∷ bytes) → IsPlainWord (encode_lower (byte ∷ bytes))
hex_word byte bytes are =
    tame_word (encode_lower (byte ∷ bytes)) (omega (arith, length-encode_with lower_digits (byte ∷ bytes))) (hex_digits_tame (byte ∷ bytes) are)

digit_alone : (i : ℕ) → i < 16 → is_tag_octet (slice_index lower_digits i) ≡ true
digit_alone i small = test_at lower_digits refl i small
  where
    test_at : (table : List ℕ) → are_tag_octets table ≡ true → (k : ℕ) → k < length table → is_tag_octet (slice_index table k) ≡ true
    test_at [] e k within = absurd (omega arith)
    test_at (c ∷ cs) e zero within = first_of (is_tag_octet c) (are_tag_octets cs) e
    test_at (c ∷ cs) e (suc k) within = test_at cs (second_of (is_tag_octet c) (are_tag_octets cs) e) k (omega arith)

-- digits do not begin with `-`
pub hex_first : (byte : ℕ) (bytes : List ℕ) → AreOctets (byte ∷ bytes) → get_or (encode_lower (byte ∷ bytes)) 0 0 ≢ 45
unfolding encode_with
hex_first byte bytes are same =
    let small = are.0 in
    let yes : is_tag_octet 45 ≡ true = subst (λ (k : ℕ). is_tag_octet k ≡ true) same (digit_alone (byte / 16) (omega arith)) in
    absurd (cc)

pub hex_back : (bytes : List ℕ) → AreOctets bytes → hex.decode_of (encode_lower bytes) ≡ Ok bytes
hex_back bytes are = decode_of-encode_lower bytes (octet_at bytes are)

-- ---- base64

all_append : (P : ℕ → Type 0) (xs ys : List ℕ) → AllByRecursion P xs → AllByRecursion P ys → AllByRecursion P (xs ++ ys)
all_append P [] ys all more = more
all_append P (x ∷ xs) ys all more = (all.0, all_append P xs ys all.1 more)

all_same : (n : ℕ) → AllByRecursion IsTame (replicate n 61)
all_same zero = tt
all_same (suc n) = (omega arith, all_same n)

table : (i : ℕ) → i < 64 → IsTame (slice_index standard.encode_table i)
table i within = symbol_at standard.encode_table refl i within

symbols_tame : (bytes : List ℕ) → AreOctets bytes → AllByRecursion IsTame (encode_symbols standard.encode_table bytes)
unfolding encode_symbols
symbols_tame [] are = tt
symbols_tame (a ∷ []) are = let p = are.0 in (table (a / 4) (omega arith), (table (a % 4 * 16) (omega arith), tt))
symbols_tame (a ∷ b ∷ []) are =
    let p = are.0 in
    let q = are.1.0 in
    (table (a / 4) (omega arith), (table (a % 4 * 16 + b / 16) (omega arith), (table (b % 16 * 4) (omega arith), tt)))
symbols_tame (a ∷ b ∷ c ∷ rest) are =
    let p = are.0 in
    let q = are.1.0 in
    let r = are.1.1.0 in
    (table (a / 4) (omega arith), (table (a % 4 * 16 + b / 16) (omega arith), (table (b % 16 * 4 + c / 64) (omega arith), (table (c % 64) (omega arith), symbols_tame rest are.1.1.1))))

symbols_some : (byte : ℕ) (bytes : List ℕ) → 0 < length (encode_symbols standard.encode_table (byte ∷ bytes))
unfolding encode_symbols
symbols_some a [] = omega arith
symbols_some a (b ∷ []) = omega arith
symbols_some a (b ∷ c ∷ rest) = omega arith

pub base64_word : (byte : ℕ) (bytes : List ℕ) → AreOctets (byte ∷ bytes) → IsPlainWord (encode_of standard (byte ∷ bytes))
base64_word byte bytes are =
    tame_word (encode_of standard (byte ∷ bytes))
    (omega (arith, symbols_some byte bytes, length-append (encode_symbols standard.encode_table (byte ∷ bytes)) (replicate (padding_len (length (byte ∷ bytes))) 61)))
    (all_append IsTame (encode_symbols standard.encode_table (byte ∷ bytes)) (replicate (padding_len (length (byte ∷ bytes))) 61) (symbols_tame (byte ∷ bytes) are) (all_same (padding_len (length (byte ∷ bytes)))))

pub base64_back : (bytes : List ℕ) → AreOctets bytes → decode_of standard (encode_of standard bytes) ≡ Ok bytes
base64_back bytes are =
    let p = decode-encode standard.encode_table standard.decode_table bytes 61 standard.config.decode_allow_trailing_bits standard.config.decode_padding_mode true refl (octet_at bytes are) refl in
    rw (p.0, p.1) refl
