-- The words of a location have no character that ends a word or begins an escape.
use Rattle.std.proofs.Common.{◌≡◌, ℕ, zero, suc, ◌+◌, ◌-◌, ◌/◌, ◌%◌, ◌<◌, ◌≤◌, ◌^◌, Bool, true, false, ◌&&◌, List, [], ◌∷◌, ◌++◌, length, get_or, refl, arith}
use Rattle.std.specs.Prelude.{◌≢◌, nat_lt, if◌then◌else◌}
use Rattle.std.specs.Fmt.{decimal}
use Rattle.std.specs.List.{AllByRecursion}
use Rattle.std.proofs.lemmas.Bool.Decides.{nat_tests}
use Rattle.dns_wire.specs.codes.Decimal.{is_digit}
use Rattle.dns_names.specs.Print.{AreOctets}
use Rattle.dns_fields.proofs.DecimalLaws.{spelled}
use Rattle.dns_fields.specs.location.Size.{is_size, octet_centimeters}
use Rattle.dns_fields.specs.location.Wire.{number_at, is_angle, is_location}
use Rattle.dns_fields.specs.location.Text.{distance, letter_of, seconds_text, meters_text, altitude_text, size_text, location_words}
use Rattle.dns_fields.specs.declared.location.angle.Axis.{Axis}
use Rattle.dns_fields.specs.declared.location.angle.Axis.TheVariants.{Latitude, Longitude}
use Rattle.dns_fields.proofs.AngleBackLaws.{near}
use Rattle.dns_fields.proofs.SizeBackLaws.{size_small}
use Rattle.dns_fields.proofs.LocationBackLaws.{are_parts}

first_of : (a b : Bool) → (a && b) ≡ true → a ≡ true
first_of true b e = refl
first_of false b e = e

second_of : (a b : Bool) → (a && b) ≡ true → b ≡ true
second_of true b e = e
second_of false b e = absurd (cc)

-- ---- characters

-- a character above `)`, but for `;`, `@` and `\`
abbrev pub IsTame : ℕ → Type 0
IsTame c = (41 < c) × (c ≢ 59) × (c ≢ 64) × (c ≢ 92)

-- a word of such characters
abbrev pub IsTameWord : List ℕ → Type 0
IsTameWord word = (0 < length word) × AllByRecursion IsTame word

tame : (c : ℕ) → 41 < c → c < 59 → IsTame c
tame c low high = (low, omega arith, omega arith, omega arith)

digit_tame : (c : ℕ) → is_digit c ≡ true → IsTame c
digit_tame c e = let low = at_least c e in let high = at_most c e in tame c (omega arith) (omega arith)
  where
    at_least : (k : ℕ) → is_digit k ≡ true → 48 ≤ k
    at_least k q = grind (arith, nat_tests)

    at_most : (k : ℕ) → is_digit k ≡ true → k ≤ 57
    at_most k q = grind (arith, nat_tests)

digits_tame : (ds : List ℕ) → AllByRecursion (λ c. is_digit c ≡ true) ds → AllByRecursion IsTame ds
digits_tame [] are = tt
digits_tame (d ∷ ds) are = (digit_tame d are.0, digits_tame ds are.1)

tame_before : (xs ys : List ℕ) → AllByRecursion IsTame xs → AllByRecursion IsTame ys → AllByRecursion IsTame (xs ++ ys)
tame_before [] ys are more = more
tame_before (x ∷ xs) ys are more = (are.0, tame_before xs ys are.1 more)

last_tame : (n : ℕ) → IsTame (48 + n % 10)
last_tame n = tame (48 + n % 10) (omega arith) (omega arith)

-- ---- words

some_before : (xs ys : List ℕ) → 0 < length xs → 0 < length (xs ++ ys)
some_before [] ys some = absurd (omega arith)
some_before (x ∷ xs) ys some = omega arith

-- digits, and what follows them
number_word : (n : ℕ) (more : List ℕ) → n < 2 ^ 64 → AllByRecursion IsTame more → IsTameWord (decimal n ++ more)
number_word n more small are =
    let s = spelled n small in (some_before (decimal n) more s.some, tame_before (decimal n) more (digits_tame (decimal n) s.digits) are)

decimal_word : (n : ℕ) → n < 2 ^ 64 → IsTameWord (decimal n)
decimal_word n small = let s = spelled n small in (s.some, digits_tame (decimal n) s.digits)

seconds_word : (n : ℕ) → n < 2 ^ 64 → IsTameWord (seconds_text n)
seconds_word n small = number_word (n / 1000) _ (omega arith) (tame 46 (omega arith) (omega arith), (last_tame (n / 100), (last_tame (n / 10), (last_tame n, tt))))

letter_word : (axis : Axis) (is_negative : Bool) → IsTameWord (letter_of axis is_negative ∷ [])
letter_word axis is_negative = (omega arith, (by axis is_negative, tt))
  where
    by : (a : Axis) (b : Bool) → IsTame (letter_of a b)
    by Latitude true = (omega arith, omega arith, omega arith, omega arith)
    by Latitude false = (omega arith, omega arith, omega arith, omega arith)
    by Longitude true = (omega arith, omega arith, omega arith, omega arith)
    by Longitude false = (omega arith, omega arith, omega arith, omega arith)

unit_tame : IsTame 109
unit_tame = (omega arith, omega arith, omega arith, omega arith)

meters_tame : (n : ℕ) → n < 2 ^ 64 → AllByRecursion IsTame (meters_text n)
meters_tame n small =
    tame_before (decimal (n / 100)) _ (digits_tame (decimal (n / 100)) (spelled (n / 100) (omega arith)).digits) (tame 46 (omega arith) (omega arith), (last_tame (n / 10), (last_tame n, (unit_tame, tt))))

meters_word : (n : ℕ) → n < 2 ^ 64 → IsTameWord (meters_text n)
meters_word n small = (some_before (decimal (n / 100)) _ (spelled (n / 100) (omega arith)).some, meters_tame n small)

altitude_word : (value : ℕ) → value < 4294967296 → IsTameWord (altitude_text value)
altitude_word value small = by (nat_lt value 10000000)
  where
    by : (t : Bool) → IsTameWord (if t then 45 ∷ meters_text (10000000 - value) else meters_text (value - 10000000))
    by true = (omega arith, (tame 45 (omega arith) (omega arith), meters_tame (10000000 - value) (omega arith)))
    by false = meters_word (value - 10000000) (omega arith)

-- ---- a location

octet_or : (bytes : List ℕ) → AreOctets bytes → (i : ℕ) → get_or bytes i 0 < 256
octet_or [] are i = omega arith
octet_or (c ∷ cs) are zero = are.0
octet_or (c ∷ cs) are (suc i) = octet_or cs are.1 i

size_word : (place : ℕ) (bytes : List ℕ) → AreOctets bytes → is_size (get_or bytes place 0) ≡ true → IsTameWord (size_text place bytes)
size_word place bytes are is =
    let small = size_small (get_or bytes place 0) (octet_or bytes are place) is in meters_word (octet_centimeters (get_or bytes place 0)) (omega (arith, small))

degrees_small : (axis : Axis) (value : ℕ) → is_angle axis value ≡ true → distance value ≤ 648000000
degrees_small Latitude value is = let close = near Latitude value is in omega (arith, close)
degrees_small Longitude value is = near Longitude value is

pub words_tame : (bytes : List ℕ) → AreOctets bytes → is_location bytes ≡ true → AllByRecursion IsTameWord (location_words bytes)
words_tame bytes are is =
    let parts = are_parts bytes is in
    let a : ℕ = distance (number_at 4 bytes) in
    let b : ℕ = distance (number_at 8 bytes) in
    let north = degrees_small Latitude (number_at 4 bytes) parts.north in
    let east = degrees_small Longitude (number_at 8 bytes) parts.east in
    let o0 = octet_or bytes are 12 in
    let o1 = octet_or bytes are 13 in
    let o2 = octet_or bytes are 14 in
    let o3 = octet_or bytes are 15 in
    let both = first_of (is_size (get_or bytes 1 0) && is_size (get_or bytes 2 0)) (is_size (get_or bytes 3 0)) parts.sizes in (
      decimal_word (a / 3600000) (omega (arith, north)),
      (
        decimal_word (a % 3600000 / 60000) (omega arith),
        (
          seconds_word (a % 60000) (omega arith),
          (
            letter_word Latitude (nat_lt (number_at 4 bytes) 2147483648),
            (
              decimal_word (b / 3600000) (omega (arith, east)),
              (
                decimal_word (b % 3600000 / 60000) (omega arith),
                (
                  seconds_word (b % 60000) (omega arith),
                  (
                    letter_word Longitude (nat_lt (number_at 8 bytes) 2147483648),
                    (
                      altitude_word (number_at 12 bytes) (omega (arith, o0, o1, o2, o3)),
                      (
                        size_word 1 bytes are (first_of (is_size (get_or bytes 1 0)) (is_size (get_or bytes 2 0)) both),
                        (
                          size_word 2 bytes are (second_of (is_size (get_or bytes 1 0)) (is_size (get_or bytes 2 0)) both),
                          (size_word 3 bytes are (second_of (is_size (get_or bytes 1 0) && is_size (get_or bytes 2 0)) (is_size (get_or bytes 3 0)) parts.sizes), tt),
                        ),
                      ),
                    ),
                  ),
                ),
              ),
            ),
          ),
        ),
      ),
    )

pub north_small : (bytes : List ℕ) → is_location bytes ≡ true → distance (number_at 4 bytes) ≤ 648000000
north_small bytes is = degrees_small Latitude (number_at 4 bytes) (are_parts bytes is).north
