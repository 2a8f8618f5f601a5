-- The text of a word is read as its octets, and is a word of a zone file.
use Rattle.std.proofs.Common.{◌≡◌, ℕ, ◌+◌, ◌/◌, ◌%◌, ◌<◌, Bool, true, false, List, [], ◌∷◌, ◌++◌, length, Option, Some, refl, ap, subst, ◌∙◌, arith}
use Rattle.std.specs.Prelude.{◌==◌, ◌≢◌, nat_lt, if◌then◌else◌}
use Rattle.std.proofs.lemmas.Bool.Decides.{nat_tests}
use Rattle.dns_wire.specs.codes.Decimal.{is_digit, decimal_up_to}
use Rattle.dns_names.specs.Parse.{Escaped, escape, escape_len}
use Rattle.dns_names.specs.Print.{escape_sequence, AreOctets}
use Rattle.dns_names.proofs.RoundTrip.{digit, three_digits}
use Rattle.dns_text.specs.CharacterString.{octet_of, string_escape, octet_before, unescaped_after, unescaped}
use Rattle.dns_text.specs.Front.{Bare, stops}
use Rattle.dns_text.specs.Tokens.{IsRun, no_character, one_character, one_escape}
use Rattle.dns_text.proofs.TokenGrammarLaws.{unequal}
use Rattle.dns_fields.specs.service.Text.{is_plain_octet, octet_text, word_text}

-- ---- read back

abbrev Reads : List ℕ → ℕ → Type 0
Reads text c = (rest : List ℕ) → unescaped (text ++ rest) ≡ octet_before (Some c) (unescaped rest)

-- a character that passes a test is none that fails it
differs : (test : ℕ → Bool) (c k : ℕ) → test c ≡ true → test k ≡ false → c ≢ k
differs test c k passes fails q = let same : test k ≡ true = subst (λ (n : ℕ). test n ≡ true) q passes in absurd (cc)

reads_plain : (c : ℕ) → is_plain_octet c ≡ true → Reads (c ∷ []) c
reads_plain c e rest = let other : (c == 92) ≡ false = unequal c 92 (differs is_plain_octet c 92 e refl) in rw other refl

by_digits : (x y z c : ℕ) → is_digit x ≡ true → decimal_up_to 255 (x ∷ y ∷ z ∷ []) ≡ Some c → Reads (92 ∷ x ∷ y ∷ z ∷ []) c
by_digits x y z c is e rest =
    let long : nat_lt (length (x ∷ y ∷ z ∷ rest)) 3 ≡ false = grind (arith, nat_tests) in
    let octet : escape (x ∷ y ∷ z ∷ rest) ≡ Escaped c = rw (is, long, e) refl in
    let takes : escape_len (x ∷ y ∷ z ∷ rest) ≡ 3 = rw is refl in
    let no_feed : (x == 10) ≡ false = grind (arith, nat_tests) in
    let first : string_escape (x ∷ y ∷ z ∷ rest) ≡ Some c = rw no_feed (ap octet_of octet) in
    ap (λ (o : Option ℕ). octet_before o (unescaped_after (escape_len (x ∷ y ∷ z ∷ rest)) (x ∷ y ∷ z ∷ rest))) first
    ∙ ap (λ (n : ℕ). octet_before (Some c) (unescaped_after n (x ∷ y ∷ z ∷ rest))) takes

reads_digits : (c : ℕ) → c < 256 → Reads (escape_sequence c) c
reads_digits c small = by_digits (48 + c / 100) (48 + c / 10 % 10) (48 + c % 10) c (digit (c / 100) (omega arith)) (three_digits (c / 100) (c / 10 % 10) (c % 10) c (omega arith) (omega arith) (omega arith) (omega arith) small)

reads_octet : (c : ℕ) → c < 256 → Reads (octet_text c) c
reads_octet c small = by (is_plain_octet c) refl
  where
    by : (b : Bool) → is_plain_octet c ≡ b → Reads (if b then c ∷ [] else escape_sequence c) c
    by true e = reads_plain c e
    by false e = reads_digits c small

pub word_back : (octets : List ℕ) → AreOctets octets → unescaped (word_text octets) ≡ Some octets
word_back [] are = refl
word_back (c ∷ cs) are = reads_octet c are.0 (word_text cs) ∙ ap (octet_before (Some c)) (word_back cs are.1)

-- ---- a word

on_word : (c : ℕ) → is_plain_octet c ≡ true → stops Bare c ≡ false
on_word c e =
    rw (
      unequal c 32 (differs is_plain_octet c 32 e refl),
      unequal c 9 (differs is_plain_octet c 9 e refl),
      unequal c 59 (differs is_plain_octet c 59 e refl),
      unequal c 34 (differs is_plain_octet c 34 e refl),
      unequal c 40 (differs is_plain_octet c 40 e refl),
      unequal c 41 (differs is_plain_octet c 41 e refl),
    ) refl

pub plain_before : (c : ℕ) (run : List ℕ) → is_plain_octet c ≡ true → IsRun Bare run → IsRun Bare (c ∷ run)
plain_before c run e more = one_character (differs is_plain_octet c 10 e refl) (differs is_plain_octet c 13 e refl) (on_word c e) (differs is_plain_octet c 92 e refl) more

digit_plain : (r : ℕ) → r < 10 → is_plain_octet (48 + r) ≡ true
digit_plain r small = by (is_plain_octet (48 + r)) refl
  where
    by : (b : Bool) → is_plain_octet (48 + r) ≡ b → b ≡ true
    by true e = refl
    by false e = absurd (grind (arith, nat_tests))

octet_before_run : (c : ℕ) → c < 256 → (run : List ℕ) → IsRun Bare run → IsRun Bare (octet_text c ++ run)
octet_before_run c small run more = by (is_plain_octet c) refl
  where
    by : (b : Bool) → is_plain_octet c ≡ b → IsRun Bare ((if b then c ∷ [] else escape_sequence c) ++ run)
    by true e = plain_before c run e more
    by false e =
        one_escape (omega arith) (omega arith)
        (plain_before (48 + c / 10 % 10) ((48 + c % 10) ∷ run) (digit_plain (c / 10 % 10) (omega arith)) (plain_before (48 + c % 10) run (digit_plain (c % 10) (omega arith)) more))

pub word_run : (octets : List ℕ) → AreOctets octets → IsRun Bare (word_text octets)
word_run [] are = no_character
word_run (c ∷ cs) are = octet_before_run c are.0 (word_text cs) (word_run cs are.1)
