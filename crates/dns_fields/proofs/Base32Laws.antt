-- Groups of digits, one after another, and what digits are decoded as.
use Rattle.std.proofs.Common.{◌≡◌, ℕ, suc, ◌+◌, ◌-◌, ◌*◌, ◌/◌, ◌%◌, ◌<◌, ◌≤◌, min, Bool, true, false, ◌&&◌, List, [], ◌∷◌, ◌++◌, length, take, drop, Option, Some, None, option_map, refl, sym, ap, ◌∙◌, append_assoc, arith}
use Rattle.std.specs.Prelude.{nat_lt, if◌then◌else◌, is_some}
use Rattle.std.specs.List.{AllByRecursion}
use Rattle.std.proofs.lemmas.Bool.Decides.{nat_tests}
use Rattle.std.proofs.lemmas.List.{append-nil}
use Rattle.dns_fields.specs.bitmaps.Base32.{digit, quintet, digits_from, front_digits, encoded, digit_value, are_digits, small_value, bytes_of, group_bytes, are_zero, whole_bytes, join_group, join_front, groups, decoded}

-- ---- groups, one after another

-- the first group of bytes, and those after it
front_group : (bytes : List ℕ) → 0 < length bytes → encoded bytes ≡ front_digits bytes ++ encoded (drop (min (length bytes) 5) bytes)
front_group [] some = absurd (omega arith)
front_group (a ∷ []) some = sym (append-nil (front_digits (a ∷ [])))
front_group (a ∷ b ∷ []) some = sym (append-nil (front_digits (a ∷ b ∷ [])))
front_group (a ∷ b ∷ c ∷ []) some = sym (append-nil (front_digits (a ∷ b ∷ c ∷ [])))
front_group (a ∷ b ∷ c ∷ d ∷ []) some = sym (append-nil (front_digits (a ∷ b ∷ c ∷ d ∷ [])))
front_group (a ∷ b ∷ c ∷ d ∷ e ∷ rest) some =
    let five : min (length (a ∷ b ∷ c ∷ d ∷ e ∷ rest)) 5 ≡ 5 = omega arith in
    ap (λ (n : ℕ). front_digits (a ∷ b ∷ c ∷ d ∷ e ∷ rest) ++ encoded (drop n (a ∷ b ∷ c ∷ d ∷ e ∷ rest))) (sym five)

pub group_written : (left : List ℕ) (n : ℕ) (done whole : List ℕ) → 0 < length left → n ≡ min (length left) 5 → done ++ encoded left ≡ whole
    → (done ++ front_digits left) ++ encoded (drop n left) ≡ whole
group_written left n done whole some is e =
    ap (λ (k : ℕ). (done ++ front_digits left) ++ encoded (drop k left)) is
    ∙ append_assoc done (front_digits left) (encoded (drop (min (length left) 5) left)) ∙ ap (λ (l : List ℕ). done ++ l) (sym (front_group left some)) ∙ e

pub digit_written : (bytes : List ℕ) (index count : ℕ) (done whole : List ℕ) → index < count → done ++ digits_from bytes index (count - index) ≡ whole
    → (done ++ digit (quintet bytes index) ∷ []) ++ digits_from bytes (index + 1) (count - (index + 1)) ≡ whole
digit_written bytes index count done whole here e =
    let left : count - index ≡ suc (count - (index + 1)) = omega arith in
    append_assoc done (digit (quintet bytes index) ∷ []) (digits_from bytes (index + 1) (count - (index + 1)))
    ∙ ap (λ (n : ℕ). done ++ digits_from bytes index n) (sym left) ∙ e

pub digits_end : (bytes : List ℕ) (index count : ℕ) (done whole : List ℕ) → count ≤ index → done ++ digits_from bytes index (count - index) ≡ whole → done ≡ whole
digits_end bytes index count done whole past e =
    let none : count - index ≡ 0 = omega arith in
    sym (append-nil done) ∙ ap (λ (n : ℕ). done ++ digits_from bytes index n) (sym none) ∙ e

-- the first group of digits, and those after it
first_digits : (digits : List ℕ) → 0 < length digits → groups digits ≡ join_front digits (groups (drop (min (length digits) 8) digits))
first_digits [] some = absurd (omega arith)
first_digits (p ∷ []) some = refl
first_digits (p ∷ q ∷ []) some = refl
first_digits (p ∷ q ∷ r ∷ []) some = refl
first_digits (p ∷ q ∷ r ∷ s ∷ []) some = refl
first_digits (p ∷ q ∷ r ∷ s ∷ t ∷ []) some = refl
first_digits (p ∷ q ∷ r ∷ s ∷ t ∷ u ∷ []) some = refl
first_digits (p ∷ q ∷ r ∷ s ∷ t ∷ u ∷ v ∷ []) some = refl
first_digits (p ∷ q ∷ r ∷ s ∷ t ∷ u ∷ v ∷ w ∷ rest) some =
    let eight : min (length (p ∷ q ∷ r ∷ s ∷ t ∷ u ∷ v ∷ w ∷ rest)) 8 ≡ 8 = omega arith in
    ap (λ (n : ℕ). join_front (p ∷ q ∷ r ∷ s ∷ t ∷ u ∷ v ∷ w ∷ rest) (groups (drop n (p ∷ q ∷ r ∷ s ∷ t ∷ u ∷ v ∷ w ∷ rest)))) (sym eight)

past : (done front : List ℕ) (more : Option (List ℕ)) → option_map (λ l. done ++ l) (option_map (λ l. front ++ l) more) ≡ option_map (λ l. (done ++ front) ++ l) more
past done front None = refl
past done front (Some l) = ap (λ (x : List ℕ). Some x) (sym (append_assoc done front l))

pub group_further : (left done : List ℕ) (count n : ℕ) (whole : Option (List ℕ)) → 0 < length left → whole_bytes (length left) (group_bytes left) ≡ Some count → n ≡ min (length left) 8
    → option_map (λ l. done ++ l) (groups left) ≡ whole → option_map (λ l. (done ++ take count (group_bytes left)) ++ l) (groups (drop n left)) ≡ whole
group_further left done count n whole some is len e =
    ap (λ (k : ℕ). option_map (λ l. (done ++ take count (group_bytes left)) ++ l) (groups (drop k left))) len
    ∙ sym (past done (take count (group_bytes left)) (groups (drop (min (length left) 8) left)))
    ∙ ap (option_map (λ l. done ++ l)) (sym (ap (λ (o : Option ℕ). join_group o (group_bytes left) (groups (drop (min (length left) 8) left))) is) ∙ sym (first_digits left some)) ∙ e

pub no_group : (left done : List ℕ) (whole : Option (List ℕ)) → 0 < length left → whole_bytes (length left) (group_bytes left) ≡ None → option_map (λ l. done ++ l) (groups left) ≡ whole → whole ≡ None
no_group left done whole some none e =
    sym e ∙ ap (option_map (λ l. done ++ l)) (first_digits left some ∙ ap (λ (o : Option ℕ). join_group o (group_bytes left) (groups (drop (min (length left) 8) left))) none)

pub groups_end : (left done : List ℕ) (whole : Option (List ℕ)) → length left ≡ 0 → option_map (λ l. done ++ l) (groups left) ≡ whole → Some done ≡ whole
groups_end [] done whole none e = ap (λ (l : List ℕ). Some l) (sym (append-nil done)) ∙ e
groups_end (c ∷ cs) done whole none e = absurd (omega arith)

pub nothing_before : (o : Option (List ℕ)) → option_map (λ l. [] ++ l) o ≡ o
nothing_before None = refl
nothing_before (Some l) = refl

-- ---- decoding what was encoded

digit_back : (x : ℕ) → x < 32 → digit_value (digit x) ≡ Some x
digit_back x small = grind (arith, nat_tests)

value_back : (x : ℕ) → x < 32 → small_value (digit_value (digit x)) ≡ x
value_back x small = ap small_value (digit_back x small) ∙ by (nat_lt x 32) refl
  where
    by : (b : Bool) → nat_lt x 32 ≡ b → (if b then x else 0) ≡ x
    by true q = refl
    by false q = absurd (grind (arith, nat_tests))

is_digit : (x : ℕ) → x < 32 → is_some (digit_value (digit x)) ≡ true
is_digit x small = ap (λ (o : Option ℕ). is_some o) (digit_back x small)

five : (a b c d e p q r s t : ℕ) → a ≡ p → b ≡ q → c ≡ r → d ≡ s → e ≡ t → (a ∷ b ∷ c ∷ d ∷ e ∷ []) ≡ (p ∷ q ∷ r ∷ s ∷ t ∷ [])
five a b c d e p q r s t e0 e1 e2 e3 e4 = cc

same_bytes : (p q r s t u v w p1 q1 r1 s1 t1 u1 v1 w1 : ℕ) → p ≡ p1 → q ≡ q1 → r ≡ r1 → s ≡ s1 → t ≡ t1 → u ≡ u1 → v ≡ v1 → w ≡ w1
    → bytes_of p q r s t u v w ≡ bytes_of p1 q1 r1 s1 t1 u1 v1 w1
same_bytes p q r s t u v w p1 q1 r1 s1 t1 u1 v1 w1 e0 e1 e2 e3 e4 e5 e6 e7 = cc

-- the values of the digits of five bytes have these bytes
bits_back : (a b c d e : ℕ) → a < 256 → b < 256 → c < 256 → d < 256 → e < 256
    → bytes_of (a / 8) (a % 8 * 4 + b / 64) (b / 2 % 32) (b % 2 * 16 + c / 16) (c % 16 * 2 + d / 128) (d / 4 % 32) (d % 4 * 8 + e / 32) (e % 32) ≡ (a ∷ b ∷ c ∷ d ∷ e ∷ [])
bits_back a b c d e p q r s t =
    let first : a / 8 * 8 + (a % 8 * 4 + b / 64) / 4 ≡ a = omega arith in
    let second : (a % 8 * 4 + b / 64) % 4 * 64 + b / 2 % 32 * 2 + (b % 2 * 16 + c / 16) / 16 ≡ b = omega arith in
    let third : (b % 2 * 16 + c / 16) % 16 * 16 + (c % 16 * 2 + d / 128) / 2 ≡ c = omega arith in
    let fourth : (c % 16 * 2 + d / 128) % 2 * 128 + d / 4 % 32 * 4 + (d % 4 * 8 + e / 32) / 8 ≡ d = omega arith in
    let fifth : (d % 4 * 8 + e / 32) % 8 * 32 + e % 32 ≡ e = omega arith in
    five _ _ _ _ _ a b c d e first second third fourth fifth

values : (a b c d e : ℕ) → a < 256 → b < 256 → c < 256 → d < 256 → e < 256
    → bytes_of (small_value (digit_value (digit (a / 8)))) (small_value (digit_value (digit (a % 8 * 4 + b / 64)))) (small_value (digit_value (digit (b / 2 % 32))))
    (small_value (digit_value (digit (b % 2 * 16 + c / 16)))) (small_value (digit_value (digit (c % 16 * 2 + d / 128)))) (small_value (digit_value (digit (d / 4 % 32))))
    (small_value (digit_value (digit (d % 4 * 8 + e / 32)))) (small_value (digit_value (digit (e % 32)))) ≡ (a ∷ b ∷ c ∷ d ∷ e ∷ [])
values a b c d e p q r s t =
    let v0 = value_back (a / 8) (omega arith) in
    let v1 = value_back (a % 8 * 4 + b / 64) (omega arith) in
    let v2 = value_back (b / 2 % 32) (omega arith) in
    let v3 = value_back (b % 2 * 16 + c / 16) (omega arith) in
    let v4 = value_back (c % 16 * 2 + d / 128) (omega arith) in
    let v5 = value_back (d / 4 % 32) (omega arith) in
    let v6 = value_back (d % 4 * 8 + e / 32) (omega arith) in
    let v7 = value_back (e % 32) (omega arith) in
    same_bytes _ _ _ _ _ _ _ _ _ _ _ _ _ _ _ _ v0 v1 v2 v3 v4 v5 v6 v7 ∙ bits_back a b c d e p q r s t

zero_small : 0 < 256
zero_small = omega arith

groups_back : (bytes : List ℕ) → AllByRecursion (λ c. c < 256) bytes → groups (encoded bytes) ≡ Some bytes
groups_back [] are = refl
groups_back (a ∷ []) are =
    ap (λ (l : List ℕ). join_group (if are_zero (drop 1 l) then Some 1 else None) l (Some [])) (values a 0 0 0 0 are.0 zero_small zero_small zero_small zero_small)
groups_back (a ∷ b ∷ []) are =
    ap (λ (l : List ℕ). join_group (if are_zero (drop 2 l) then Some 2 else None) l (Some [])) (values a b 0 0 0 are.0 are.1.0 zero_small zero_small zero_small)
groups_back (a ∷ b ∷ c ∷ []) are =
    ap (λ (l : List ℕ). join_group (if are_zero (drop 3 l) then Some 3 else None) l (Some [])) (values a b c 0 0 are.0 are.1.0 are.1.1.0 zero_small zero_small)
groups_back (a ∷ b ∷ c ∷ d ∷ []) are =
    ap (λ (l : List ℕ). join_group (if are_zero (drop 4 l) then Some 4 else None) l (Some [])) (values a b c d 0 are.0 are.1.0 are.1.1.0 are.1.1.1.0 zero_small)
groups_back (a ∷ b ∷ c ∷ d ∷ e ∷ rest) are =
    ap (λ (l : List ℕ). join_group (if are_zero (drop 5 l) then Some 5 else None) l (groups (encoded rest))) (values a b c d e are.0 are.1.0 are.1.1.0 are.1.1.1.0 are.1.1.1.1.0)
    ∙ ap (option_map (λ l. (a ∷ b ∷ c ∷ d ∷ e ∷ []) ++ l)) (groups_back rest are.1.1.1.1.1)

both : (a b : Bool) → a ≡ true → b ≡ true → (a && b) ≡ true
both true b p q = q
both false b p q = p

pub digits_are : (bytes : List ℕ) → AllByRecursion (λ c. c < 256) bytes → are_digits (encoded bytes) ≡ true
digits_are [] are = refl
digits_are (a ∷ []) are = let p = are.0 in both _ _ (is_digit (a / 8) (omega arith)) (both _ _ (is_digit (a % 8 * 4 + 0 / 64) (omega arith)) refl)
digits_are (a ∷ b ∷ []) are =
    let p = are.0 in
    let q = are.1.0 in
    both _ _ (is_digit (a / 8) (omega arith)) (both _ _ (is_digit (a % 8 * 4 + b / 64) (omega arith)) (both _ _ (is_digit (b / 2 % 32) (omega arith)) (both _ _ (is_digit (b % 2 * 16 + 0 / 16) (omega arith)) refl)))
digits_are (a ∷ b ∷ c ∷ []) are =
    let p = are.0 in
    let q = are.1.0 in
    let r = are.1.1.0 in
    both _ _ (is_digit (a / 8) (omega arith)) (both _ _ (is_digit (a % 8 * 4 + b / 64) (omega arith)) (both _ _ (is_digit (b / 2 % 32) (omega arith))
    (both _ _ (is_digit (b % 2 * 16 + c / 16) (omega arith)) (both _ _ (is_digit (c % 16 * 2 + 0 / 128) (omega arith)) refl))))
digits_are (a ∷ b ∷ c ∷ d ∷ []) are =
    let p = are.0 in
    let q = are.1.0 in
    let r = are.1.1.0 in
    let s = are.1.1.1.0 in
    both _ _ (is_digit (a / 8) (omega arith)) (both _ _ (is_digit (a % 8 * 4 + b / 64) (omega arith)) (both _ _ (is_digit (b / 2 % 32) (omega arith))
    (both _ _ (is_digit (b % 2 * 16 + c / 16) (omega arith)) (both _ _ (is_digit (c % 16 * 2 + d / 128) (omega arith))
    (both _ _ (is_digit (d / 4 % 32) (omega arith)) (both _ _ (is_digit (d % 4 * 8 + 0 / 32) (omega arith)) refl))))))
digits_are (a ∷ b ∷ c ∷ d ∷ e ∷ rest) are =
    let p = are.0 in
    let q = are.1.0 in
    let r = are.1.1.0 in
    let s = are.1.1.1.0 in
    let t = are.1.1.1.1.0 in
    both _ _ (is_digit (a / 8) (omega arith)) (both _ _ (is_digit (a % 8 * 4 + b / 64) (omega arith)) (both _ _ (is_digit (b / 2 % 32) (omega arith))
    (both _ _ (is_digit (b % 2 * 16 + c / 16) (omega arith)) (both _ _ (is_digit (c % 16 * 2 + d / 128) (omega arith))
    (both _ _ (is_digit (d / 4 % 32) (omega arith)) (both _ _ (is_digit (d % 4 * 8 + e / 32) (omega arith)) (both _ _ (is_digit (e % 32) (omega arith)) (digits_are rest are.1.1.1.1.1))))))))

pub base32_back : (bytes : List ℕ) → AllByRecursion (λ c. c < 256) bytes → decoded (encoded bytes) ≡ Some bytes
base32_back bytes are = ap (λ (b : Bool). if b then groups (encoded bytes) else None) (digits_are bytes are) ∙ groups_back bytes are
