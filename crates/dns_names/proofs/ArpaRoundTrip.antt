-- That an address is read from its name.
use Rattle.std.proofs.Common.{◌≡◌, ℕ, ◌+◌, ◌-◌, ◌*◌, ◌/◌, ◌%◌, ◌<◌, ◌≤◌, Bool, true, false, [], ◌∷◌, Some, refl, ◌∙◌, arith}
use Rattle.std.specs.Prelude.{nat_lt, nat_le, if◌then◌else◌, option_map}
use Rattle.std.proofs.lemmas.Bool.Decides.{nat_tests}
use Rattle.std.specs.declared.net.ip_addr.IpAddr.TheVariants.{V4, V6}
use Rattle.dns_wire.specs.codes.Decimal.{decimal_up_to}
use Rattle.dns_names.specs.Reverse.{decimal_label, hex_label, hex_value, nibble, append_number, v4_prefix, v6_prefix, reverse_name, arpa_prefix}
use Rattle.dns_names.proofs.RoundTrip.{digit, three_digits}

-- ---- one label

one_digit : (x : ℕ) → x ≤ 9 → decimal_up_to 255 ((48 + x) ∷ []) ≡ Some x
unfolding decimal_up_to
one_digit x p =
    let e : 10 * 0 + (48 + x - 48) ≡ x = omega arith in
    let fits : nat_le x 255 ≡ true = grind (arith, nat_tests) in
    rw (digit x p, e, fits) refl

two_digits : (x y n : ℕ) → x ≤ 9 → y ≤ 9 → 10 * (10 * 0 + (48 + x - 48)) + (48 + y - 48) ≡ n → n < 100 → decimal_up_to 255 ((48 + x) ∷ (48 + y) ∷ []) ≡ Some n
unfolding decimal_up_to
two_digits x y n p q e small =
    let fits : nat_le n 255 ≡ true = grind (arith, nat_tests) in
    rw (digit x p, digit y q, e, fits) refl

below : (n k : ℕ) → nat_lt n k ≡ true → n < k
below n k e = grind (arith, nat_tests)

above : (n k : ℕ) → nat_lt n k ≡ false → k ≤ n
above n k e = grind (arith, nat_tests)

decimal_back : (n : ℕ) → n < 256 → decimal_up_to 255 (decimal_label n) ≡ Some n
decimal_back n small = by (nat_lt n 10) refl (nat_lt n 100) refl
  where
    by : (s : Bool) → nat_lt n 10 ≡ s → (t : Bool) → nat_lt n 100 ≡ t
        → decimal_up_to 255 (if s then (48 + n) ∷ [] else if t then (48 + n / 10) ∷ (48 + n % 10) ∷ [] else (48 + n / 100) ∷ (48 + n / 10 % 10) ∷ (48 + n % 10) ∷ []) ≡ Some n
    by true e t f = let lt : n < 10 = below n 10 e in one_digit n (omega arith)
    by false e true f = let lt : n < 100 = below n 100 f in two_digits (n / 10) (n % 10) n (omega arith) (omega arith) (omega arith) lt
    by false e false f = three_digits (n / 100) (n / 10 % 10) (n % 10) n (omega arith) (omega arith) (omega arith) (omega arith) small

letter : (n : ℕ) → 10 ≤ n → n < 16 → hex_value (87 + n) ≡ Some n
letter n low high =
    let none : nat_le (87 + n) 57 ≡ false = grind (arith, nat_tests) in
    let some : nat_le 48 (87 + n) ≡ true = grind (arith, nat_tests) in
    let from : nat_le 97 (87 + n) ≡ true = grind (arith, nat_tests) in
    let upto : nat_le (87 + n) 102 ≡ true = grind (arith, nat_tests) in
    let is : 87 + n - 87 ≡ n = omega arith in
    rw (some, none, from, upto, is) refl

figure : (n : ℕ) → n < 10 → hex_value (48 + n) ≡ Some n
figure n small = let is : 48 + n - 48 ≡ n = omega arith in rw (digit n (omega arith), is) refl

hex_back : (n : ℕ) → n < 16 → nibble (hex_label n) ≡ Some n
hex_back n small = by (nat_lt n 10) refl
  where
    by : (t : Bool) → nat_lt n 10 ≡ t → hex_value (if t then 48 + n else 87 + n) ≡ Some n
    by true e = figure n (below n 10 e)
    by false e = letter n (above n 10 e) small

hex_0 : (s : ℕ) → s < 65536 → nibble (hex_label (s / 4096)) ≡ Some (s / 4096)
hex_0 s small = hex_back (s / 4096) (omega arith)

hex_1 : (s : ℕ) → s < 65536 → nibble (hex_label (s / 256 % 16)) ≡ Some (s / 256 % 16)
hex_1 s small = hex_back (s / 256 % 16) (omega arith)

hex_2 : (s : ℕ) → s < 65536 → nibble (hex_label (s / 16 % 16)) ≡ Some (s / 16 % 16)
hex_2 s small = hex_back (s / 16 % 16) (omega arith)

hex_3 : (s : ℕ) → s < 65536 → nibble (hex_label (s % 16)) ≡ Some (s % 16)
hex_3 s small = hex_back (s % 16) (omega arith)

whole : (s : ℕ) → s < 65536 → 4096 * (s / 4096) + 256 * (s / 256 % 16) + 16 * (s / 16 % 16) + s % 16 ≡ s
whole s small = omega arith

-- ---- an address

pub v4_back : (a b c d : ℕ) → a < 256 → b < 256 → c < 256 → d < 256
    → arpa_prefix (reverse_name (V4 (record { octets = a ∷ b ∷ c ∷ d ∷ [] }))) ≡ Some (record { addr = V4 (record { octets = a ∷ b ∷ c ∷ d ∷ [] }); prefix_len = 32 })
v4_back a b c d p q r s = λ i. option_map v4_prefix (append_number (append_number (append_number (append_number (Some []) (decimal_back a p i)) (decimal_back b q i)) (decimal_back c r i)) (decimal_back d s i))

pub v6_back : (a b c d e f g h : ℕ) → a < 65536 → b < 65536 → c < 65536 → d < 65536 → e < 65536 → f < 65536 → g < 65536 → h < 65536
    → arpa_prefix (reverse_name (V6 (record { segments = a ∷ b ∷ c ∷ d ∷ e ∷ f ∷ g ∷ h ∷ [] }))) ≡ Some (record { addr = V6 (record { segments = a ∷ b ∷ c ∷ d ∷ e ∷ f ∷ g ∷ h ∷ [] }); prefix_len = 128 })
v6_back a b c d e f g h la lb lc ld le lf lg lh =
    (λ i. option_map v6_prefix (append_number (append_number (append_number (append_number (append_number (append_number (append_number (append_number (append_number (append_number (append_number (append_number (append_number (append_number (append_number (append_number (append_number (append_number (append_number (append_number (append_number (append_number (append_number (append_number (append_number (append_number (append_number (append_number (append_number (append_number (append_number (append_number (Some []) (hex_0 a la i)) (hex_1 a la i)) (hex_2 a la i)) (hex_3 a la i)) (hex_0 b lb i)) (hex_1 b lb i)) (hex_2 b lb i)) (hex_3 b lb i)) (hex_0 c lc i)) (hex_1 c lc i)) (hex_2 c lc i)) (hex_3 c lc i)) (hex_0 d ld i)) (hex_1 d ld i)) (hex_2 d ld i)) (hex_3 d ld i)) (hex_0 e le i)) (hex_1 e le i)) (hex_2 e le i)) (hex_3 e le i)) (hex_0 f lf i)) (hex_1 f lf i)) (hex_2 f lf i)) (hex_3 f lf i)) (hex_0 g lg i)) (hex_1 g lg i)) (hex_2 g lg i)) (hex_3 g lg i)) (hex_0 h lh i)) (hex_1 h lh i)) (hex_2 h lh i)) (hex_3 h lh i)))
    ∙ (λ i. Some (record { addr = V6 (record { segments = whole a la i ∷ whole b lb i ∷ whole c lc i ∷ whole d ld i ∷ whole e le i ∷ whole f lf i ∷ whole g lg i ∷ whole h lh i ∷ [] }); prefix_len = 128 }))
