-- Reading a text step by step.
use Rattle.std.proofs.Common.{◌≡◌, ℕ, ◌+◌, ◌<◌, ◌≤◌, Bool, true, false, List, [], ◌∷◌, ◌++◌, length, Ok, Err, refl, sym, ap, ◌∙◌, length-append, arith}
use Rattle.std.specs.Prelude.{◌==◌, nat_lt, nat_le, if◌then◌else◌, ◌&&◌, not, Some, None, Result}
use Rattle.std.specs.Option.{option_map_or}
use Rattle.std.proofs.lemmas.Bool.Decides.{nat_tests}
use Rattle.dns_wire.specs.Name.{IsLabel, name_len}
use Rattle.dns_names.specs.Name.{DomainName}
use Rattle.dns_wire.specs.codes.Decimal.{is_digit, decimal_up_to}
use Rattle.dns_names.specs.declared.error.ParseError.{ParseError}
use Rattle.dns_names.specs.Parse.{Symbol, Dot, Plain, Escaped, Broken, PartialName, symbol, more_len, symbols_from, decimal_octet, escape, escape_len, is_plain_octet, push_octet, push_symbol, end_label, finish, name_of_symbols}
use Rattle.dns_names.proofs.TextLaws.{taken, ends_well}
use Rattle.dns_names.proofs.BuildingLaws.{name_len-append, name_len-some}

-- ---- a character

pub equal_numbers : (c n : ℕ) → (c == n) ≡ true → c ≡ n
equal_numbers c n e = grind (arith, nat_tests)

dot_refused : (b : Bool) → is_plain_octet b 46 ≡ true → ⊥
dot_refused true e = cc
dot_refused false e = cc

backslash_refused : (b : Bool) → is_plain_octet b 92 ≡ true → ⊥
backslash_refused true e = cc
backslash_refused false e = cc

no_dot : (b : Bool) (c : ℕ) → is_plain_octet b c ≡ true → (c == 46) ≡ false
no_dot b c e = by (c == 46) refl
  where
    by : (t : Bool) → (c == 46) ≡ t → t ≡ false
    by true q = absurd (dot_refused b (sym (ap (is_plain_octet b) (equal_numbers c 46 q)) ∙ e))
    by false q = refl

no_backslash : (b : Bool) (c : ℕ) → is_plain_octet b c ≡ true → (c == 92) ≡ false
no_backslash b c e = by (c == 92) refl
  where
    by : (t : Bool) → (c == 92) ≡ t → t ≡ false
    by true q = absurd (backslash_refused b (sym (ap (is_plain_octet b) (equal_numbers c 92 q)) ∙ e))
    by false q = refl

pub takes_octet : (b : PartialName) (c : ℕ) → length b.label < 63 → push_octet b c ≡ Ok (record b { label = b.label ++ c ∷ [] })
takes_octet b c room = let short : nat_lt (length b.label) 63 ≡ true = grind (arith, nat_tests) in rw short refl

pub plain_at : (b : PartialName) (p c : ℕ) (rest : List ℕ) → (c == 46) ≡ false → (c == 92) ≡ false
    → name_of_symbols b (symbols_from 0 p (c ∷ rest)) ≡ name_of_symbols b (record { place = p; symbol = Plain c } ∷ symbols_from 0 (p + 1) rest)
plain_at b p c rest dot backslash =
    let is : symbol (c ∷ rest) ≡ Plain c = rw (dot, backslash) refl in
    let len : more_len (c ∷ rest) ≡ 0 = rw backslash refl in
    ap (λ (s : Symbol). name_of_symbols b (record { place = p; symbol = s } ∷ symbols_from (more_len (c ∷ rest)) (p + 1) rest)) is
    ∙ ap (λ (n : ℕ). name_of_symbols b (record { place = p; symbol = Plain c } ∷ symbols_from n (p + 1) rest)) len

pub plain_step : (b : PartialName) (p c : ℕ) (rest : List ℕ) → is_plain_octet (length b.label == 0) c ≡ true → length b.label < 63
    → name_of_symbols b (symbols_from 0 p (c ∷ rest)) ≡ name_of_symbols (record b { label = b.label ++ c ∷ [] }) (symbols_from 0 (p + 1) rest)
plain_step b p c rest may room =
    let accepted : push_symbol b (record { place = p; symbol = Plain c }) ≡ Ok (record b { label = b.label ++ c ∷ [] }) = rw may (takes_octet b c room) in
    plain_at b p c rest (no_dot (length b.label == 0) c may) (no_backslash (length b.label == 0) c may)
    ∙ taken b _ (record { place = p; symbol = Plain c }) (symbols_from 0 (p + 1) rest) accepted

-- ---- an escape

-- three characters that are an octet begin with a digit
pub digit_first : (x y z octet : ℕ) → decimal_up_to 255 (x ∷ y ∷ z ∷ []) ≡ Some octet → is_digit x ≡ true
unfolding decimal_up_to
digit_first x y z octet e = by (is_digit x) refl
  where
    by : (t : Bool) → is_digit x ≡ t → t ≡ true
    by true d = refl
    by false d = absurd (let none : decimal_up_to 255 (x ∷ y ∷ z ∷ []) ≡ None = rw d refl in cc)

pub digits_are : (x : ℕ) (text : List ℕ) → is_digit x ≡ true → escape (x ∷ text) ≡ decimal_octet (x ∷ text)
digits_are x text d = ap (λ (t : Bool). if t then decimal_octet (x ∷ text) else (if nat_le 32 x && nat_le x 126 then Escaped x else Broken)) d

pub three_digits_are : (x y z : ℕ) (text : List ℕ) → is_digit x ≡ true → escape (x ∷ y ∷ z ∷ text) ≡ option_map_or Escaped (decimal_up_to 255 (x ∷ y ∷ z ∷ [])) Broken
three_digits_are x y z text d =
    let long : nat_lt (length (x ∷ y ∷ z ∷ text)) 3 ≡ false = grind (arith, nat_tests) in
    digits_are x (y ∷ z ∷ text) d ∙ ap (λ (t : Bool). if t then Broken else option_map_or Escaped (decimal_up_to 255 (x ∷ y ∷ z ∷ [])) Broken) long

pub digits_len : (x : ℕ) (text : List ℕ) → is_digit x ≡ true → escape_len (x ∷ text) ≡ 3
digits_len x text d = rw d refl

pub character_is : (c : ℕ) (text : List ℕ) → is_digit c ≡ false → 32 ≤ c → c ≤ 126 → escape (c ∷ text) ≡ Escaped c
character_is c text d low high =
    let from : nat_le 32 c ≡ true = grind (arith, nat_tests) in
    let to : nat_le c 126 ≡ true = grind (arith, nat_tests) in
    rw (d, from, to) refl

pub character_len : (c : ℕ) (text : List ℕ) → is_digit c ≡ false → escape_len (c ∷ text) ≡ 1
character_len c text d = rw d refl

pub escape_at : (b : PartialName) (p more : ℕ) (s : Symbol) (text : List ℕ) → escape text ≡ s → escape_len text ≡ more
    → name_of_symbols b (symbols_from 0 p (92 ∷ text)) ≡ name_of_symbols b (record { place = p; symbol = s } ∷ symbols_from more (p + 1) text)
escape_at b p more s text is len =
    ap (λ (t : Symbol). name_of_symbols b (record { place = p; symbol = t } ∷ symbols_from (escape_len text) (p + 1) text)) is
    ∙ ap (λ (n : ℕ). name_of_symbols b (record { place = p; symbol = s } ∷ symbols_from n (p + 1) text)) len

pub escape_step : (b : PartialName) (p c more : ℕ) (text : List ℕ) → escape text ≡ Escaped c → escape_len text ≡ more → length b.label < 63
    → name_of_symbols b (symbols_from 0 p (92 ∷ text)) ≡ name_of_symbols (record b { label = b.label ++ c ∷ [] }) (symbols_from more (p + 1) text)
escape_step b p c more text is len room =
    escape_at b p more (Escaped c) text is len ∙ taken b _ (record { place = p; symbol = Escaped c }) (symbols_from more (p + 1) text) (takes_octet b c room)

-- ---- a dot, and the end

pub begun_some : (label : List ℕ) (c : ℕ) → (length (label ++ c ∷ []) == 0) ≡ false
begun_some label c = let len : length (label ++ c ∷ []) ≡ length label + 1 = length-append label (c ∷ []) in grind (arith, nat_tests)

pub some_length : (label : List ℕ) → IsLabel label → (length label == 0) ≡ false
some_length label is = let some : 0 < length label = is.some in grind (arith, nat_tests)

pub label_done : (labels : List (List ℕ)) (label : List ℕ) (more : List (List ℕ)) → IsLabel label → name_len (labels ++ label ∷ more) ≤ 255
    → end_label (record { labels = labels; label = label }) ≡ Ok (record { labels = labels ++ label ∷ []; label = [] })
label_done labels label more is fits =
    ends_well (record { labels = labels; label = label }) _ is.some (omega (arith, name_len-append labels (label ∷ more), name_len-some more)) refl

pub dot_step : (b next : PartialName) (p : ℕ) (rest : List ℕ) → end_label b ≡ Ok next → name_of_symbols b (symbols_from 0 p (46 ∷ rest)) ≡ name_of_symbols next (symbols_from 0 (p + 1) rest)
dot_step b next p rest e = taken b next (record { place = p; symbol = Dot }) (symbols_from 0 (p + 1) rest) e

pub some_labels : (labels : List (List ℕ)) (label : List ℕ) → (length (labels ++ label ∷ []) == 0) ≡ false
some_labels labels label = let len : length (labels ++ label ∷ []) ≡ length labels + 1 = length-append labels (label ∷ []) in grind (arith, nat_tests)

pub ended : (b next : PartialName) → (length b.label == 0) ≡ false → end_label b ≡ Ok next → finish b ≡ Ok (record { is_fqdn = false; labels = next.labels })
ended b next some done =
    ap (λ (t : Bool). if t then Ok (record { is_fqdn = not (length b.labels == 0); labels = b.labels }) else elim (end_label b) as (λ _. Result DomainName ParseError) [ Ok e ↦ Ok (record { is_fqdn = false; labels = e.labels }) | Err error ↦ Err error ]) some
    ∙ ap (λ (r : Result PartialName ParseError). elim r as (λ _. Result DomainName ParseError) [ Ok e ↦ Ok (record { is_fqdn = false; labels = e.labels }) | Err error ↦ Err error ]) done
