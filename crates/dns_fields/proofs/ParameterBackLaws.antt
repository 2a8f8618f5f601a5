-- Parameters that are read one after another, in the order of their keys, are added at the end.
use Rattle.std.proofs.Common.{◌≡◌, ℕ, zero, suc, ◌+◌, ◌-◌, ◌*◌, ◌<◌, ◌≤◌, Bool, true, false, ◌&&◌, List, [], ◌∷◌, ◌++◌, length, take, drop, Option, Result, Ok, Err, refl, sym, ap, ◌∙◌, append_assoc, arith, length-append, length-take, length-drop}
use Rattle.std.specs.Prelude.{◌==◌, ◌||◌, nat_le, nat_lt, if◌then◌else◌}
use Rattle.std.specs.Int.{w16, to_be_bytes}
use Rattle.std.specs.List.{AllByRecursion}
use Rattle.std.proofs.lemmas.Bool.Decides.{nat_tests}
use Rattle.std.proofs.lemmas.List.{append-nil}
use Rattle.dns_names.specs.Print.{AreOctets}
use Rattle.dns_fields.specs.service.Wire.{key_at, len_at, has_key, is_value, is_front, are_parameters, place}
use Rattle.dns_fields.specs.service.List.{inserted}
use Rattle.dns_fields.specs.service.Parameter.{named_bytes, form, with_value, with_key, with_parameter}
use Rattle.dns_fields.specs.service.Text.{key_name, parameter_text, parameter_texts}
use Rattle.dns_fields.specs.declared.service.fault.ServiceFault.{ServiceFault}
use Rattle.dns_fields.specs.declared.service.fault.ServiceFault.TheVariants.{InvalidValue, Repeated}
use Rattle.dns_fields.proofs.KeyBackLaws.{key_back}
use Rattle.dns_fields.proofs.ListBackLaws.{number_bytes, at_end}
use Rattle.dns_fields.proofs.LoopLaws.{first_of, second_of, at_most, lt_is, lt_not, key_skip, place_skip, parameter_skip}
use Rattle.dns_fields.proofs.ValueBackLaws.{text_octets, parameter_back}

-- ---- parameters, one after another

pub record Raw : Type 0 where
  pub a : ℕ
  pub b : ℕ
  pub c : ℕ
  pub d : ℕ
  pub value : List ℕ

abbrev pub raw_key : Raw → ℕ
raw_key p = 256 * p.a + p.b

abbrev pub raw_bytes : Raw → List ℕ
raw_bytes p = p.a ∷ p.b ∷ p.c ∷ p.d ∷ p.value

abbrev pub all_bytes : List Raw → List ℕ
all_bytes [] = []
all_bytes (p ∷ ps) = raw_bytes p ++ all_bytes ps

-- the value is as long as it says
abbrev pub IsWhole : Raw → Type 0
IsWhole p = length p.value ≡ 256 * p.c + p.d

-- ones with lower keys
abbrev pub AreLower : ℕ → List Raw → Type 0
AreLower least ps = AllByRecursion (λ p. (raw_key p < least) × IsWhole p) ps

pub lower_up : (least more : ℕ) (ps : List Raw) → least ≤ more → AreLower least ps → AreLower more ps
lower_up least more [] up lower = tt
lower_up least more (p ∷ ps) up lower = let low = lower.0.0 in ((omega arith, lower.0.1), lower_up least more ps up lower.1)

pub lower_then : (least : ℕ) (ps : List Raw) (p : Raw) → AreLower least ps → raw_key p < least → IsWhole p → AreLower least (ps ++ p ∷ [])
lower_then least [] p lower low whole = ((low, whole), tt)
lower_then least (q ∷ ps) p lower low whole = (lower.0, lower_then least ps p lower.1 low whole)

pub bytes_then : (ps : List Raw) (p : Raw) → all_bytes (ps ++ p ∷ []) ≡ all_bytes ps ++ raw_bytes p
bytes_then [] p = append-nil (raw_bytes p)
bytes_then (q ∷ ps) p = ap (λ (l : List ℕ). raw_bytes q ++ l) (bytes_then ps p) ∙ sym (append_assoc (raw_bytes q) (all_bytes ps) (raw_bytes p))

drop_front : (xs ys : List ℕ) (n : ℕ) → n ≡ length xs → drop n (xs ++ ys) ≡ ys
drop_front xs ys n is = ap (λ (k : ℕ). drop k (xs ++ ys)) is ∙ all xs
  where
    all : (zs : List ℕ) → drop (length zs) (zs ++ ys) ≡ ys
    all [] = refl
    all (z ∷ zs) = all zs

after_raw : (p : Raw) (rest : List ℕ) → IsWhole p → drop (3 + (256 * p.c + p.d)) (p.b ∷ p.c ∷ p.d ∷ p.value ++ rest) ≡ rest
after_raw p rest whole = drop_front (p.b ∷ p.c ∷ p.d ∷ p.value) rest (3 + (256 * p.c + p.d)) (omega (arith, whole))

equal : (a b : ℕ) → (a == b) ≡ true → a ≡ b
equal a b q = grind (arith, nat_tests)

unequal : (a b : ℕ) → a < b → (a == b) ≡ false
unequal a b lt = by (a == b) refl
  where
    by : (t : Bool) → (a == b) ≡ t → t ≡ false
    by true q = let same = equal a b q in absurd (omega arith)
    by false q = refl

no_key : (key : ℕ) (ps : List Raw) → AreLower key ps → has_key key 0 (all_bytes ps) ≡ false
no_key key [] lower = refl
no_key key (p ∷ ps) lower =
    ap (λ (t : Bool). t || has_key key (3 + (256 * p.c + p.d)) (p.b ∷ p.c ∷ p.d ∷ p.value ++ all_bytes ps)) (unequal (raw_key p) key lower.0.0)
    ∙ key_skip key (3 + (256 * p.c + p.d)) (p.b ∷ p.c ∷ p.d ∷ p.value ++ all_bytes ps)
    ∙ ap (λ (l : List ℕ). has_key key 0 l) (after_raw p (all_bytes ps) lower.0.1)
    ∙ no_key key ps lower.1

all_before : (key : ℕ) (ps : List Raw) → AreLower key ps → place key 0 (all_bytes ps) ≡ length (all_bytes ps)
all_before key [] lower = refl
all_before key (p ∷ ps) lower =
    let n : ℕ = 3 + (256 * p.c + p.d) in
    let xs : List ℕ = p.b ∷ p.c ∷ p.d ∷ p.value ++ all_bytes ps in
    let after : drop n xs ≡ all_bytes ps = after_raw p (all_bytes ps) lower.0.1 in
    let here : place key 0 (raw_bytes p ++ all_bytes ps) ≡ 1 + place key n xs = ap (λ (t : Bool). if t then 1 + place key n xs else 0) (lt_is (raw_key p) key lower.0.0) in
    let skip : place key n xs ≡ (length xs - length (drop n xs)) + place key 0 (drop n xs) = place_skip key n xs in
    let rest : place key 0 (drop n xs) ≡ length (all_bytes ps) = ap (λ (l : List ℕ). place key 0 l) after ∙ all_before key ps lower.1 in
    let len : length (drop n xs) ≡ length (all_bytes ps) = ap (λ (l : List ℕ). length l) after in
    let whole : length (p.value ++ all_bytes ps) ≡ length p.value + length (all_bytes ps) = length-append p.value (all_bytes ps) in
    omega (arith, here, skip, rest, len, whole)

-- ---- one more

-- octets, and a value of a key beside all parameters
pub record IsRaw (all : List ℕ) (p : Raw) : Type 0 where
  pub a : p.a < 256
  pub b : p.b < 256
  pub c : p.c < 256
  pub d : p.d < 256
  pub octets : AreOctets p.value
  pub whole : IsWhole p
  pub sound : is_value all (raw_key p) p.value ≡ true

raw_form : (all : List ℕ) (p : Raw) → IsRaw all p → form (raw_key p) p.value ≡ raw_bytes p
raw_form all p is =
    ap (λ (l : List ℕ). l ++ to_be_bytes w16 (length p.value) ++ p.value) (number_bytes p.a p.b is.a is.b)
    ∙ ap (λ (n : ℕ). p.a ∷ p.b ∷ to_be_bytes w16 n ++ p.value) is.whole
    ∙ ap (λ (l : List ℕ). p.a ∷ p.b ∷ l ++ p.value) (number_bytes p.c p.d is.c is.d)

short : (bytes : List ℕ) → length bytes < 65536 → nat_lt 65535 (length bytes) ≡ false
short bytes small = lt_not 65535 (length bytes) (omega arith)

pub one_more : (all : List ℕ) (ps : List Raw) (p : Raw) → AreLower (raw_key p) ps → IsRaw all p
    → with_parameter (all_bytes ps) (key_name (raw_key p)) (text_octets (raw_key p) p.value) ≡ Ok (all_bytes (ps ++ p ∷ []))
one_more all ps p lower is =
    let key : ℕ = raw_key p in
    let a = is.a in
    let b = is.b in
    let c = is.c in
    let d = is.d in
    let whole = is.whole in
    let done : List ℕ = all_bytes ps in
    let octets : List ℕ = text_octets key p.value in
    let more : Result (List ℕ) ServiceFault = with_value key done (named_bytes (key_name key) key octets) in
    ap (λ (o : Option ℕ). with_key done (key_name key) o octets) (key_back key (omega arith))
    ∙ ap (λ (t : Bool). if t then Err Repeated else more) (no_key key ps lower)
    ∙ ap (λ (r : Result (List ℕ) ServiceFault). with_value key done r) (parameter_back all key p.value is.octets is.sound)
    ∙ ap (λ (t : Bool). if t then Err InvalidValue else Ok (inserted (place key 0 done) (form key p.value) done)) (short p.value (omega (arith, whole)))
    ∙ ap (λ (l : List ℕ). Ok l)
    (at_end (place key 0 done) (form key p.value) done (all_before key ps lower) ∙ ap (λ (l : List ℕ). done ++ l) (raw_form all p is) ∙ sym (bytes_then ps p))

-- ---- the first of parameters

-- a parameter, and those after it
pub record IsSplit (all : List ℕ) (least : ℕ) (xs : List ℕ) : Type 0 where
  pub front : Raw
  pub rest : List ℕ
  pub up : least ≤ raw_key front
  pub is : IsRaw all front
  pub joined : raw_bytes front ++ rest ≡ xs
  pub shorter : length rest < length xs
  pub octets : AreOctets rest
  pub more : are_parameters all (raw_key front + 1) 0 rest ≡ true
  pub texts : parameter_texts 0 xs ≡ parameter_text (raw_key front) front.value ∷ parameter_texts 0 rest

front_are : (n : ℕ) (bytes : List ℕ) → AreOctets bytes → AreOctets (take n bytes)
front_are zero bytes are = tt
front_are (suc n) [] are = tt
front_are (suc n) (c ∷ cs) are = (are.0, front_are n cs are.1)

rest_are : (n : ℕ) (bytes : List ℕ) → AreOctets bytes → AreOctets (drop n bytes)
rest_are zero bytes are = are
rest_are (suc n) [] are = tt
rest_are (suc n) (c ∷ cs) are = rest_are n cs are.1

cut_at : (n : ℕ) (xs : List ℕ) → take n xs ++ drop n xs ≡ xs
cut_at zero [] = refl
cut_at zero (x ∷ xs) = refl
cut_at (suc n) [] = refl
cut_at (suc n) (x ∷ xs) = ap (λ (l : List ℕ). x ∷ l) (cut_at n xs)

texts_skip : (n : ℕ) (xs : List ℕ) → parameter_texts n xs ≡ parameter_texts 0 (drop n xs)
texts_skip zero xs = refl
texts_skip (suc n) [] = refl
texts_skip (suc n) (x ∷ xs) = texts_skip n xs

third_on : (n : ℕ) (b c d : ℕ) (xs : List ℕ) → drop (3 + n) (b ∷ c ∷ d ∷ xs) ≡ drop n xs
third_on n b c d xs = let e : 3 + n ≡ suc (suc (suc n)) = omega arith in ap (λ (k : ℕ). drop k (b ∷ c ∷ d ∷ xs)) e

pub split : (all : List ℕ) (least : ℕ) (xs : List ℕ) → AreOctets xs → 0 < length xs → are_parameters all least 0 xs ≡ true → IsSplit all least xs
split all least [] are some e = absurd (omega arith)
split all least (a ∷ xs) are some e = by xs are.1 e
  where
    fits : (ys : List ℕ) → (is_front all least (a ∷ ys) && are_parameters all (key_at (a ∷ ys) + 1) (3 + len_at (a ∷ ys)) ys) ≡ true → 4 + len_at (a ∷ ys) ≤ length (a ∷ ys)
    fits ys q = at_most (4 + len_at (a ∷ ys)) (length (a ∷ ys)) (first_of (nat_le (4 + len_at (a ∷ ys)) (length (a ∷ ys))) _ (second_of (nat_le least (key_at (a ∷ ys))) _ (first_of (is_front all least (a ∷ ys)) _ q)))

    by : (ys : List ℕ) → AreOctets ys → are_parameters all least 0 (a ∷ ys) ≡ true → IsSplit all least (a ∷ ys)
    by [] octets q = let four = fits [] q in absurd (omega (arith, four))
    by (b ∷ []) octets q = let four = fits (b ∷ []) q in absurd (omega (arith, four))
    by (b ∷ c ∷ []) octets q = let four = fits (b ∷ c ∷ []) q in absurd (omega (arith, four))
    by (b ∷ c ∷ d ∷ rest) octets q =
        let ys : List ℕ = b ∷ c ∷ d ∷ rest in
        let n : ℕ = 256 * c + d in
        let four = fits ys q in
        let front = first_of (is_front all least (a ∷ ys)) _ q in
        let within : n ≤ length rest = omega (arith, four) in
        let len : length (take n rest) ≡ n = length-take n rest ∙ omega arith in
        record {
          front = record { a = a; b = b; c = c; d = d; value = take n rest };
          rest = drop n rest;
          up = at_most least (key_at (a ∷ ys)) (first_of (nat_le least (key_at (a ∷ ys))) _ front);
          is = record {
            a = are.0;
            b = octets.0;
            c = octets.1.0;
            d = octets.1.1.0;
            octets = front_are n rest octets.1.1.1;
            whole = len;
            sound = second_of (nat_le (4 + len_at (a ∷ ys)) (length (a ∷ ys))) _ (second_of (nat_le least (key_at (a ∷ ys))) _ front);
          };
          joined = ap (λ (l : List ℕ). a ∷ b ∷ c ∷ d ∷ l) (cut_at n rest);
          shorter = omega (arith, length-drop n rest);
          octets = rest_are n rest octets.1.1.1;
          more = ap (λ (l : List ℕ). are_parameters all (256 * a + b + 1) 0 l) (sym (third_on n b c d rest)) ∙ sym (parameter_skip all (256 * a + b + 1) (3 + n) ys (omega arith)) ∙ second_of (is_front all least (a ∷ ys)) _ q;
          texts = ap (λ (ts : List (List ℕ)). parameter_text (256 * a + b) (take n rest) ∷ ts) (texts_skip (3 + n) ys ∙ ap (λ (l : List ℕ). parameter_texts 0 l) (third_on n b c d rest));
        }
