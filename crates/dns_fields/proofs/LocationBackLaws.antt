-- The words of a location are read as its bytes.
use Rattle.std.proofs.Common.{◌≡◌, ℕ, zero, suc, ◌+◌, ◌*◌, ◌<◌, Bool, true, false, ◌&&◌, List, [], ◌∷◌, ◌++◌, length, get_or, map, Option, Some, None, Result, Ok, Err, refl, sym, ap, subst, ◌∙◌, arith}
use Rattle.std.specs.Prelude.{◌==◌, nat_lt, if◌then◌else◌}
use Rattle.std.specs.Int.{w32, to_be_bytes}
use Rattle.std.proofs.lemmas.Bool.Decides.{nat_tests}
use Rattle.std.proofs.lemmas.Nat.{be_bytes_4}
use Rattle.dns_names.specs.Print.{AreOctets}
use Rattle.dns_text.specs.Lexer.{Lexeme, CharData}
use Rattle.dns_fields.specs.location.Size.{is_size, size_of}
use Rattle.dns_fields.specs.location.Wire.{number_at, is_angle, are_sizes, is_location}
use Rattle.dns_fields.specs.location.Location.{sizes_at, three, location_form, after_altitude, after_longitude, after_latitude, location_bytes}
use Rattle.dns_fields.specs.location.Text.{size_text, location_words}
use Rattle.dns_fields.specs.declared.location.angle.Axis.TheVariants.{Latitude, Longitude}
use Rattle.dns_fields.specs.declared.location.fault.LocationFault.{LocationFault}
use Rattle.dns_fields.specs.declared.location.fault.LocationFault.TheVariants.{InvalidLatitude, InvalidLongitude, InvalidAltitude, InvalidSize, UnexpectedWord}
use Rattle.dns_fields.proofs.AngleBackLaws.{angle_back}
use Rattle.dns_fields.proofs.SizeBackLaws.{size_back, altitude_back}

first_of : (a b : Bool) → (a && b) ≡ true → a ≡ true
first_of true b e = refl
first_of false b e = e

second_of : (a b : Bool) → (a && b) ≡ true → b ≡ true
second_of true b e = e
second_of false b e = absurd (cc)

equal : (a b : ℕ) → (a == b) ≡ true → a ≡ b
equal a b q = grind (arith, nat_tests)

-- ---- bytes

-- four octets, and those after them
record IsFour (xs : List ℕ) : Type 0 where
  a : ℕ
  b : ℕ
  c : ℕ
  d : ℕ
  rest : List ℕ
  is : xs ≡ a ∷ b ∷ c ∷ d ∷ rest

four : (n : ℕ) (xs : List ℕ) → length xs ≡ 4 + n → IsFour xs
four n [] e = absurd (omega (arith, e))
four n (a ∷ []) e = absurd (omega (arith, e))
four n (a ∷ b ∷ []) e = absurd (omega (arith, e))
four n (a ∷ b ∷ c ∷ []) e = absurd (omega (arith, e))
four n (a ∷ b ∷ c ∷ d ∷ rest) e = record { a = a; b = b; c = c; d = d; rest = rest; is = refl }

four_octets : (a b c d : ℕ) → a < 256 → b < 256 → c < 256 → d < 256 → (i : ℕ) → get_or (a ∷ b ∷ c ∷ d ∷ []) i 0 < 256
four_octets a b c d p q r s zero = p
four_octets a b c d p q r s (suc zero) = q
four_octets a b c d p q r s (suc (suc zero)) = r
four_octets a b c d p q r s (suc (suc (suc zero))) = s
four_octets a b c d p q r s (suc (suc (suc (suc i)))) = omega arith

number_bytes : (a b c d : ℕ) → a < 256 → b < 256 → c < 256 → d < 256 → to_be_bytes w32 (16777216 * a + 65536 * b + 256 * c + d) ≡ a ∷ b ∷ c ∷ d ∷ []
number_bytes a b c d p q r s = be_bytes_4 (a ∷ b ∷ c ∷ d ∷ []) (16777216 * a + 65536 * b + 256 * c + d) refl (four_octets a b c d p q r s) (omega arith)

-- ---- a location

-- its words as tokens
abbrev tokens_of : List ℕ → List Lexeme
tokens_of bytes = map (λ word. CharData word) (location_words bytes)

parts_back : (bytes : List ℕ) → is_angle Latitude (number_at 4 bytes) ≡ true → is_angle Longitude (number_at 8 bytes) ≡ true → number_at 12 bytes < 4294967296
    → size_of (size_text 1 bytes) ≡ Some (get_or bytes 1 0) → size_of (size_text 2 bytes) ≡ Some (get_or bytes 2 0) → size_of (size_text 3 bytes) ≡ Some (get_or bytes 3 0)
    → location_bytes (tokens_of bytes) ≡ Ok (location_form (get_or bytes 1 0 ∷ get_or bytes 2 0 ∷ get_or bytes 3 0 ∷ []) (number_at 4 bytes) (number_at 8 bytes) (number_at 12 bytes))
parts_back bytes north east small s1 s2 s3 =
    let tokens : List Lexeme = tokens_of bytes in
    let latitude : ℕ = number_at 4 bytes in
    let longitude : ℕ = number_at 8 bytes in
    let altitude : ℕ = number_at 12 bytes in
    let sizes : sizes_at 9 tokens ≡ Some (get_or bytes 1 0 ∷ get_or bytes 2 0 ∷ get_or bytes 3 0 ∷ []) =
    ap (λ (o : Option ℕ). three o (size_of (size_text 2 bytes)) (size_of (size_text 3 bytes))) s1
    ∙ ap (λ (o : Option ℕ). three (Some (get_or bytes 1 0)) o (size_of (size_text 3 bytes))) s2
    ∙ ap (λ (o : Option ℕ). three (Some (get_or bytes 1 0)) (Some (get_or bytes 2 0)) o) s3 in
    ap (λ (o : Option (ℕ × ℕ)). elim o as (λ _. Result (List ℕ) LocationFault) [ None ↦ Err InvalidLatitude | Some found ↦ after_latitude found.0 found.1 tokens ])
    (angle_back Latitude 0 latitude tokens north refl refl refl refl)
    ∙ ap (λ (o : Option (ℕ × ℕ)). elim o as (λ _. Result (List ℕ) LocationFault) [ None ↦ Err InvalidLongitude | Some found ↦ after_longitude latitude found.0 found.1 tokens ])
    (angle_back Longitude 4 longitude tokens east refl refl refl refl)
    ∙ ap (λ (o : Option ℕ). elim o as (λ _. Result (List ℕ) LocationFault) [ None ↦ Err InvalidAltitude | Some number ↦ after_altitude latitude longitude number 8 tokens ])
    (altitude_back altitude small)
    ∙ ap (λ (o : Option (List ℕ)). elim o as (λ _. Result (List ℕ) LocationFault) [
      | None ↦ Err InvalidSize
      | Some found ↦ if nat_lt 12 (length tokens) then Err UnexpectedWord else Ok (location_form found latitude longitude altitude)
    ]) sizes

sixteen_back : (v s h p a b c d e f g i j k l m : ℕ) → AreOctets (v ∷ s ∷ h ∷ p ∷ a ∷ b ∷ c ∷ d ∷ e ∷ f ∷ g ∷ i ∷ j ∷ k ∷ l ∷ m ∷ []) → is_location (v ∷ s ∷ h ∷ p ∷ a ∷ b ∷ c ∷ d ∷ e ∷ f ∷ g ∷ i ∷ j ∷ k ∷ l ∷ m ∷ []) ≡ true → location_bytes (tokens_of (v ∷ s ∷ h ∷ p ∷ a ∷ b ∷ c ∷ d ∷ e ∷ f ∷ g ∷ i ∷ j ∷ k ∷ l ∷ m ∷ [])) ≡ Ok (v ∷ s ∷ h ∷ p ∷ a ∷ b ∷ c ∷ d ∷ e ∷ f ∷ g ∷ i ∷ j ∷ k ∷ l ∷ m ∷ [])
sixteen_back v s h p a b c d e f g i j k l m are is =
    let bytes : List ℕ = v ∷ s ∷ h ∷ p ∷ a ∷ b ∷ c ∷ d ∷ e ∷ f ∷ g ∷ i ∷ j ∷ k ∷ l ∷ m ∷ [] in
    let to_north = first_of _ (is_angle Longitude (number_at 8 bytes)) is in
    let to_sizes = first_of _ (is_angle Latitude (number_at 4 bytes)) to_north in
    let east = second_of _ (is_angle Longitude (number_at 8 bytes)) is in
    let north = second_of _ (is_angle Latitude (number_at 4 bytes)) to_north in
    let sizes = second_of _ (are_sizes bytes) to_sizes in
    let version = equal v 0 (second_of (length bytes == 16) (v == 0) (first_of _ (are_sizes bytes) to_sizes)) in
    let both = first_of (is_size s && is_size h) (is_size p) sizes in
    let low0 = are.1.1.1.1.1.1.1.1.1.1.1.1.0 in
    let low1 = are.1.1.1.1.1.1.1.1.1.1.1.1.1.0 in
    let low2 = are.1.1.1.1.1.1.1.1.1.1.1.1.1.1.0 in
    let low3 = are.1.1.1.1.1.1.1.1.1.1.1.1.1.1.1.0 in
    parts_back bytes north east (omega (arith, low0, low1, low2, low3)) (size_back s are.1.0 (first_of (is_size s) (is_size h) both)) (size_back h are.1.1.0 (second_of (is_size s) (is_size h) both)) (size_back p are.1.1.1.0 (second_of (is_size s && is_size h) (is_size p) sizes))
    ∙ ap (λ (xs : List ℕ). Ok (0 ∷ s ∷ h ∷ p ∷ [] ++ xs ++ to_be_bytes w32 (number_at 8 bytes) ++ to_be_bytes w32 (number_at 12 bytes))) (number_bytes a b c d are.1.1.1.1.0 are.1.1.1.1.1.0 are.1.1.1.1.1.1.0 are.1.1.1.1.1.1.1.0)
    ∙ ap (λ (xs : List ℕ). Ok (0 ∷ s ∷ h ∷ p ∷ a ∷ b ∷ c ∷ d ∷ [] ++ xs ++ to_be_bytes w32 (number_at 12 bytes))) (number_bytes e f g i are.1.1.1.1.1.1.1.1.0 are.1.1.1.1.1.1.1.1.1.0 are.1.1.1.1.1.1.1.1.1.1.0 are.1.1.1.1.1.1.1.1.1.1.1.0)
    ∙ ap (λ (xs : List ℕ). Ok (0 ∷ s ∷ h ∷ p ∷ a ∷ b ∷ c ∷ d ∷ e ∷ f ∷ g ∷ i ∷ [] ++ xs)) (number_bytes j k l m low0 low1 low2 low3)
    ∙ ap (λ (n : ℕ). Ok (n ∷ s ∷ h ∷ p ∷ a ∷ b ∷ c ∷ d ∷ e ∷ f ∷ g ∷ i ∷ j ∷ k ∷ l ∷ m ∷ [])) (sym version)

nothing : (xs : List ℕ) → length xs ≡ 0 → xs ≡ []
nothing [] e = refl
nothing (x ∷ xs) e = absurd (omega (arith, e))

later : (n : ℕ) (xs : List ℕ) (p : IsFour xs) → length xs ≡ 4 + n → length p.rest ≡ n
later n xs p e = let len : length xs ≡ 4 + length p.rest = ap (λ (l : List ℕ). length l) p.is ∙ omega arith in omega (arith, len, e)

pub location_back : (bytes : List ℕ) → AreOctets bytes → is_location bytes ≡ true → location_bytes (tokens_of bytes) ≡ Ok bytes
location_back bytes are is =
    let long = equal (length bytes) 16 (first_of (length bytes == 16) _ (first_of _ (are_sizes bytes) (first_of _ (is_angle Latitude (number_at 4 bytes)) (first_of _ (is_angle Longitude (number_at 8 bytes)) is)))) in
    let p = four 12 bytes long in
    let q = four 8 p.rest (later 12 bytes p long) in
    let r = four 4 q.rest (later 8 p.rest q (later 12 bytes p long)) in
    let s = four 0 r.rest (later 4 q.rest r (later 8 p.rest q (later 12 bytes p long))) in
    let none = nothing s.rest (later 0 r.rest s (later 4 q.rest r (later 8 p.rest q (later 12 bytes p long)))) in
    let whole : bytes ≡ p.a ∷ p.b ∷ p.c ∷ p.d ∷ q.a ∷ q.b ∷ q.c ∷ q.d ∷ r.a ∷ r.b ∷ r.c ∷ r.d ∷ s.a ∷ s.b ∷ s.c ∷ s.d ∷ [] =
    p.is
    ∙ ap (λ (l : List ℕ). p.a ∷ p.b ∷ p.c ∷ p.d ∷ l) (q.is ∙ ap (λ (l : List ℕ). q.a ∷ q.b ∷ q.c ∷ q.d ∷ l) (r.is ∙ ap (λ (l : List ℕ). r.a ∷ r.b ∷ r.c ∷ r.d ∷ l) (s.is ∙ ap (λ (l : List ℕ). s.a ∷ s.b ∷ s.c ∷ s.d ∷ l) none))) in
    subst (λ (l : List ℕ). location_bytes (tokens_of l) ≡ Ok l) (sym whole)
    (sixteen_back p.a p.b p.c p.d q.a q.b q.c q.d r.a r.b r.c r.d s.a s.b s.c s.d (subst AreOctets whole are) (subst (λ (l : List ℕ). is_location l ≡ true) whole is))

-- the parts of bytes that are a location
pub record AreParts (bytes : List ℕ) : Type 0 where
  pub sizes : are_sizes bytes ≡ true
  pub north : is_angle Latitude (number_at 4 bytes) ≡ true
  pub east : is_angle Longitude (number_at 8 bytes) ≡ true

pub are_parts : (bytes : List ℕ) → is_location bytes ≡ true → AreParts bytes
are_parts bytes is =
    let to_north = first_of _ (is_angle Longitude (number_at 8 bytes)) is in
    let to_sizes = first_of _ (is_angle Latitude (number_at 4 bytes)) to_north in
    record {
      sizes = second_of _ (are_sizes bytes) to_sizes;
      north = second_of _ (is_angle Latitude (number_at 4 bytes)) to_north;
      east = second_of _ (is_angle Longitude (number_at 8 bytes)) is;
    }
