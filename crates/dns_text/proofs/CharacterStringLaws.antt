-- Character strings, octet by octet.
use Rattle.std.proofs.Common.{◌≡◌, ℕ, zero, suc, ◌+◌, ◌/◌, ◌%◌, ◌<◌, Bool, true, false, ◌&&◌, ◌||◌, List, [], ◌∷◌, ◌++◌, length, drop, get_or, Option, Some, None, refl, sym, ap, subst, ◌∙◌, append_assoc, arith}
use Rattle.std.specs.Prelude.{◌==◌, nat_le, nat_lt, if◌then◌else◌}
use Rattle.std.proofs.Math.Seq.{drop-cons}
use Rattle.std.proofs.lemmas.List.{drop-drop}
use Rattle.std.proofs.lemmas.Bool.Decides.{nat_tests}
use Rattle.dns_wire.specs.codes.Decimal.{is_digit, decimal_up_to}
use Rattle.dns_names.specs.Parse.{Symbol, Escaped, escape, escape_len, more_len}
use Rattle.dns_names.specs.Print.{escape_sequence, AreOctets}
use Rattle.dns_names.proofs.RoundTrip.{digit, three_digits}
use Rattle.dns_text.specs.CharacterString.{octet_of, string_escape, first_octet, octet_before, unescaped_after, unescaped, octet_text, escaped_text}

-- ---- parsing

-- octets and those after them, if they are octets
abbrev pub octets_before : List ℕ → Option (List ℕ) → Option (List ℕ)
octets_before done None = None
octets_before done (Some octets) = Some (done ++ octets)

skips : (past : ℕ) (text : List ℕ) → unescaped_after past text ≡ unescaped (drop past text)
skips zero text = refl
skips (suc past) [] = refl
skips (suc past) (c ∷ cs) = skips past cs

one_before : (done : List ℕ) (octet : ℕ) (more : Option (List ℕ)) → octets_before done (octet_before (Some octet) more) ≡ octets_before (done ++ octet ∷ []) more
one_before done octet None = refl
one_before done octet (Some octets) = ap (λ (l : List ℕ). Some l) (sym (append_assoc done (octet ∷ []) octets))

first_is : (text : List ℕ) (octet len : ℕ) → 0 < length text → Some octet ≡ first_octet text → len ≡ more_len text + 1
    → unescaped text ≡ octet_before (Some octet) (unescaped (drop len text))
first_is [] octet len some is takes = absurd (omega arith)
first_is (c ∷ cs) octet len some is takes =
    let more : len ≡ suc (more_len (c ∷ cs)) = takes ∙ omega arith in
    ap (λ (o : Option ℕ). octet_before o (unescaped_after (more_len (c ∷ cs)) cs)) (sym is)
    ∙ ap (octet_before (Some octet)) (skips (more_len (c ∷ cs)) cs ∙ ap (λ (n : ℕ). unescaped (drop n (c ∷ cs))) (sym more))

-- past an octet and its text
pub octet_further : (text slice done : List ℕ) (place octet len : ℕ) (whole : Option (List ℕ)) → slice ≡ drop place text → 0 < length slice → Some octet ≡ first_octet slice → len ≡ more_len slice + 1
    → octets_before done (unescaped (drop place text)) ≡ whole → octets_before (done ++ octet ∷ []) (unescaped (drop (place + len) text)) ≡ whole
octet_further text slice done place octet len whole same some is takes so_far =
    sym (one_before done octet (unescaped (drop (place + len) text)))
    ∙ ap (octets_before done) (ap (λ (l : List ℕ). octet_before (Some octet) (unescaped l)) (sym (drop-drop len place text) ∙ ap (drop len) (sym same)) ∙ sym (first_is slice octet len some is takes) ∙ ap unescaped same) ∙ so_far

-- ---- printing

pub octet_more : (xs : List ℕ) (i : ℕ) (done all : List ℕ) → i < length xs → done ++ escaped_text (drop i xs) ≡ all
    → (done ++ octet_text (get_or xs i 0)) ++ escaped_text (drop (i + 1) xs) ≡ all
octet_more xs i done all within e =
    let next : i + 1 ≡ suc i = omega arith in
    append_assoc done (octet_text (get_or xs i 0)) (escaped_text (drop (i + 1) xs))
    ∙ ap (λ (n : ℕ). done ++ (octet_text (get_or xs i 0) ++ escaped_text (drop n xs))) next
    ∙ ap (λ (l : List ℕ). done ++ escaped_text l) (sym (drop-cons xs i 0 within)) ∙ e

-- ---- what is printed is read

abbrev Reads : List ℕ → ℕ → Type 0
Reads text c = (rest : List ℕ) → unescaped (text ++ rest) ≡ octet_before (Some c) (unescaped rest)

equal : (a b : ℕ) → (a == b) ≡ true → a ≡ b
equal a b e = grind (arith, nat_tests)

reads_special : (c : ℕ) → (c == 34 || c == 92) ≡ true → Reads (92 ∷ c ∷ []) c
reads_special c e rest = at (c == 34) refl
  where
    at : (t : Bool) → (c == 34) ≡ t → unescaped (92 ∷ c ∷ rest) ≡ octet_before (Some c) (unescaped rest)
    at true q = subst (λ (k : ℕ). unescaped (92 ∷ k ∷ rest) ≡ octet_before (Some k) (unescaped rest)) (sym (equal c 34 q)) refl
    at false q = let other : (c == 92) ≡ true = ap (λ (t : Bool). t || c == 92) (sym q) ∙ e in
        subst (λ (k : ℕ). unescaped (92 ∷ k ∷ rest) ≡ octet_before (Some k) (unescaped rest)) (sym (equal c 92 other)) refl

reads_plain : (c : ℕ) → (c == 92) ≡ false → Reads (c ∷ []) c
reads_plain c e rest = rw e refl

by_digits : (x y z c : ℕ) → is_digit x ≡ true → decimal_up_to 255 (x ∷ y ∷ z ∷ []) ≡ Some c → Reads (92 ∷ x ∷ y ∷ z ∷ []) c
by_digits x y z c is e rest =
    let long : nat_lt (length (x ∷ y ∷ z ∷ rest)) 3 ≡ false = grind (arith, nat_tests) in
    let octet : escape (x ∷ y ∷ z ∷ rest) ≡ Escaped c = rw (is, long, e) refl in
    let takes : escape_len (x ∷ y ∷ z ∷ rest) ≡ 3 = rw is refl in
    let no_feed : (x == 10) ≡ false = grind (arith, nat_tests) in
    let first : string_escape (x ∷ y ∷ z ∷ rest) ≡ Some c = rw no_feed (ap octet_of octet) in
    ap (λ (o : Option ℕ). octet_before o (unescaped_after (escape_len (x ∷ y ∷ z ∷ rest)) (x ∷ y ∷ z ∷ rest))) first
    ∙ ap (λ (n : ℕ). octet_before (Some c) (unescaped_after n (x ∷ y ∷ z ∷ rest))) takes

reads_digits : (c : ℕ) → c < 256 → Reads (escape_sequence c) c
reads_digits c small = by_digits (48 + c / 100) (48 + c / 10 % 10) (48 + c % 10) c (digit (c / 100) (omega arith)) (three_digits (c / 100) (c / 10 % 10) (c % 10) c (omega arith) (omega arith) (omega arith) (omega arith) small)

reads_octet : (c : ℕ) → c < 256 → Reads (octet_text c) c
reads_octet c small = at (c == 34 || c == 92) refl (nat_le 32 c && nat_le c 126)
  where
    no_slash : (a b : Bool) → (a || b) ≡ false → b ≡ false
    no_slash true b e = absurd (cc)
    no_slash false b e = e

    at : (special : Bool) → (c == 34 || c == 92) ≡ special → (printable : Bool) → Reads (if special then 92 ∷ c ∷ [] else if printable then c ∷ [] else escape_sequence c) c
    at true e printable = reads_special c e
    at false e true = reads_plain c (no_slash (c == 34) (c == 92) e)
    at false e false = reads_digits c small

pub printed_is_read : (octets : List ℕ) → AreOctets octets → unescaped (escaped_text octets) ≡ Some octets
printed_is_read [] are = refl
printed_is_read (c ∷ cs) are = reads_octet c are.0 (escaped_text cs) ∙ ap (octet_before (Some c)) (printed_is_read cs are.1)
