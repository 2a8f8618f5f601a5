-- The token of a value is read as the bytes of the value.
use Rattle.std.proofs.Common.{◌≡◌, ℕ, zero, suc, ◌+◌, ◌/◌, ◌%◌, ◌<◌, ◌≤◌, ◌^◌, Bool, true, false, ◌&&◌, List, [], ◌∷◌, ◌++◌, length, take, drop, get_or, Option, Some, None, option_map, Result, Ok, Err, refl, sym, ap, subst, ◌∙◌, append_assoc, arith, length-take, length-append}
use Rattle.std.specs.Prelude.{◌==◌, ◌≢◌, nat_le, nat_lt, if◌then◌else◌, codes, is_some}
use Rattle.std.specs.List.{AllByRecursion}
use Rattle.std.specs.Fmt.{decimal}
use Rattle.std.specs.Int.{w16, w32, to_be_bytes, from_be_bytes}
use Rattle.std.specs.Str.{bytes_eq}
use Rattle.std.proofs.lemmas.Bool.Decides.{nat_tests}
use Rattle.std.proofs.lemmas.List.{append-nil}
use Rattle.std.proofs.lemmas.Nat.{be_bytes_2, be_bytes_4}
use Rattle.std.proofs.lemmas.Slice.Eq.{bytes_eq-Decides}
use Rattle.base64.specs.Engines.{standard}
use Rattle.base64.specs.GeneralPurpose.{encode_of}
use Rattle.hex.specs.Hex.{encode_lower}
use Rattle.hex.specs.Hex as hex
use Rattle.hex.specs.declared.error.FromHexError.{FromHexError}
use Rattle.dns_wire.specs.codes.Decimal.{is_digit, decimal_up_to}
use Rattle.dns_wire.specs.Name.{AreLabels}
use Rattle.dns_names.specs.Name.{DomainName}
use Rattle.dns_names.specs.Build.{complete}
use Rattle.dns_names.specs.Print.{AreOctets, label_text, dotted_labels, text_of_labels}
use Rattle.dns_names.specs.declared.error.ParseError.{ParseError}
use Rattle.dns_names.proofs.RoundTrip as names
use Rattle.dns_text.specs.Lexer.{Lexeme, CharData}
use Rattle.dns_text.specs.Tokens.{IsDatum}
use Rattle.dns_text.proofs.CharacterStringLaws as strings
use Rattle.dns_text.proofs.PrintedData.{name_datum, decimal_datum, string_datum}
use Rattle.dns_text.proofs.TokenGrammarLaws.{tested}
use Rattle.dns_formats.specs.Value.{number_or_fault, bytes_of_number, bytes_of_name, octets_or_fault, counted, is_tag}
use Rattle.dns_formats.specs.Rest.{hex_words, base64_words, hex_outcome, base64_outcome}
use Rattle.dns_wire.specs.codes.CodeText.{or_else}
use Rattle.dns_wire.specs.declared.codes.record_type.RecordType.{RecordType}
use Rattle.dns_fields.specs.bitmaps.Bitmap.{types_of, is_bitmap}
use Rattle.dns_fields.specs.bitmaps.Base32.{encoded, digit_value, are_digits}
use Rattle.dns_fields.proofs.ReadBackLaws.{bitmap_back, types_small}
use Rattle.dns_fields.proofs.Base32Laws.{base32_back, digits_are}
use Rattle.dns_formats.specs.Field.{takes_rest, may_be_empty}
use Rattle.dns_fields.specs.bitmaps.TypeWord.{number_among}
use Rattle.dns_formats.specs.Mnemonic.{algorithms, certificate_types, mnemonic_or_fault}
use Rattle.dns_formats.specs.Types.{number_of_type, then_numbers, before_numbers, type_numbers, bitmap_or_fault, hash_outcome, hash_bytes}
use Rattle.dns_formats.specs.Read.{is_missing, field_bytes}
use Rattle.dns_formats.specs.Wire.{at_least, name_end, short_name, counted_len, value_len}
use Rattle.dns_formats.specs.Dnssec.{type_or_fault, date_seconds, time_or_fault, salt_bytes}
use Rattle.dns_fields.specs.service.Text.{parameter_texts}
use Rattle.dns_fields.specs.service.Wire.{are_parameters}
use Rattle.dns_formats.specs.Print.{labels_at, salt_text, front_token, type_tokens, word_tokens, front_tokens}
use Rattle.dns_formats.specs.Data.{is_generic}
use Rattle.dns_formats.specs.declared.fault.TokenFault.{TokenFault}
use Rattle.dns_formats.specs.declared.fault.TokenFault.TheVariants.{StringTooLong, NotATag}
use Rattle.dns_formats.specs.declared.field.Field.{Field}
use Rattle.dns_formats.specs.declared.field.Field.TheVariants as kind
use Rattle.dns_fields.proofs.DecimalLaws.{Spelled, spelled, decimal_parses}
use Rattle.dns_formats.proofs.NameLaws.{name_to}
use Rattle.dns_formats.proofs.WordLaws.{IsTame, IsPlainWord, tame_word, tag_word, unlike}
use Rattle.dns_formats.proofs.EncodingLaws.{hex_word, hex_first, hex_back, base64_word, base64_back}
use Rattle.dns_formats.proofs.TypeLaws.{word_plain, word_parses, round_trips}
use Rattle.dns_formats.proofs.ParameterLaws.{parameters_back, parameters_data}
use Rattle.dns_fields.specs.location.Wire.{number_at, is_location}
use Rattle.dns_fields.specs.location.Text.{distance, location_words}
use Rattle.dns_fields.proofs.LocationBackLaws.{location_back}
use Rattle.dns_fields.proofs.TameLaws.{north_small}
use Rattle.dns_formats.specs.Location.{of_location}
use Rattle.dns_formats.proofs.LocationLaws.{location_data}

some_is : (a b : ℕ) → ◌≡◌ {A = Option ℕ} (Some a) (Some b) → a ≡ b
some_is a b e = cc

-- ---- tokens

-- a token of an entry's data that is read as the bytes, and does not begin the generic form
pub record IsBack (origin : Option DomainName) (field : Field) (token : Lexeme) (bytes : List ℕ) : Type 0 where
  pub datum : IsDatum token
  pub special : (more : List Lexeme) → is_generic (token ∷ more) ≡ false
  pub read : field_bytes origin field (token ∷ []) ≡ Ok bytes

-- ---- numbers

at_least_is : (count n : ℕ) (bytes : List ℕ) → at_least count bytes ≡ Some n → (count ≤ length bytes) × (n ≡ count)
at_least_is count n bytes e = by (nat_le count (length bytes)) refl e
  where
    fits : (m : ℕ) → nat_le count m ≡ true → count ≤ m
    fits m q = grind (arith, nat_tests)

    by : (b : Bool) → nat_le count (length bytes) ≡ b → (if b then Some count else None) ≡ Some n → (count ≤ length bytes) × (n ≡ count)
    by true q e = (fits (length bytes) q, sym (some_is count n e))
    by false q e = absurd (cc)

number_special : (n : ℕ) → n < 2 ^ 64 → (more : List Lexeme) → is_generic (CharData (decimal n) ∷ more) ≡ false
number_special n fits more = at (decimal n) (spelled n fits)
  where
    digit : (c : ℕ) → is_digit c ≡ true → c ≢ 92
    digit c e same = let no : is_digit 92 ≡ true = subst (λ (k : ℕ). is_digit k ≡ true) same e in absurd (cc)

    at : (ds : List ℕ) → Spelled n ds → bytes_eq ds (codes "\\#") ≡ false
    at [] s = let some = s.some in absurd (omega arith)
    at (c ∷ cs) s = unlike (c ∷ cs) 92 (35 ∷ []) (digit c s.digits.0)

number_back : (greatest n : ℕ) (form : ℕ → List ℕ) → n ≤ greatest → n < 2 ^ 64 → bytes_of_number form (number_or_fault (decimal_up_to greatest (decimal n))) ≡ Ok (form n)
number_back greatest n form le fits = ap (λ (o : Option ℕ). bytes_of_number form (number_or_fault o)) (decimal_parses greatest n le fits)

number8_back : (origin : Option DomainName) (bytes : List ℕ) (n : ℕ) → AreOctets bytes → value_len kind.Number8 bytes ≡ Some n → IsBack origin kind.Number8 (front_token kind.Number8 bytes) (take n bytes)
number8_back origin [] n are e = let p = at_least_is 1 n [] e in let some = p.0 in absurd (omega arith)
number8_back origin (b ∷ bs) n are e =
    let p = at_least_is 1 n (b ∷ bs) e in
    let small = are.0 in
    record {
      datum = decimal_datum b (omega arith);
      special = number_special b (omega arith);
      read = number_back 255 b (λ k. k ∷ []) (omega arith) (omega arith) ∙ ap (λ (k : ℕ). Ok (take k (b ∷ bs))) (sym p.1);
    }

two_octets : (a b : ℕ) → a < 256 → b < 256 → (i : ℕ) → get_or (a ∷ b ∷ []) i 0 < 256
two_octets a b p q zero = p
two_octets a b p q (suc zero) = q
two_octets a b p q (suc (suc i)) = omega arith

number16_back : (origin : Option DomainName) (bytes : List ℕ) (n : ℕ) → AreOctets bytes → value_len kind.Number16 bytes ≡ Some n → IsBack origin kind.Number16 (front_token kind.Number16 bytes) (take n bytes)
number16_back origin [] n are e = let p = at_least_is 2 n [] e in let some = p.0 in absurd (omega arith)
number16_back origin (a ∷ []) n are e = let p = at_least_is 2 n (a ∷ []) e in let some = p.0 in absurd (omega arith)
number16_back origin (a ∷ b ∷ bs) n are e =
    let p = at_least_is 2 n (a ∷ b ∷ bs) e in
    let high = are.0 in
    let low = are.1.0 in
    let number : ℕ = from_be_bytes w16 (a ∷ b ∷ bs) in
    let small : number < 65536 = omega arith in
    record {
      datum = decimal_datum number (omega arith);
      special = number_special number (omega arith);
      read = number_back 65535 number (to_be_bytes w16) (omega arith) (omega arith)
          ∙ ap (λ (l : List ℕ). Ok l) (be_bytes_2 (a ∷ b ∷ []) number refl (two_octets a b high low) refl)
          ∙ ap (λ (k : ℕ). Ok (take k (a ∷ b ∷ bs))) (sym p.1);
    }

four_octets : (a b c d : ℕ) → a < 256 → b < 256 → c < 256 → d < 256 → (i : ℕ) → get_or (a ∷ b ∷ c ∷ d ∷ []) i 0 < 256
four_octets a b c d p q r s zero = p
four_octets a b c d p q r s (suc zero) = q
four_octets a b c d p q r s (suc (suc zero)) = r
four_octets a b c d p q r s (suc (suc (suc zero))) = s
four_octets a b c d p q r s (suc (suc (suc (suc i)))) = omega arith

number32_back : (origin : Option DomainName) (bytes : List ℕ) (n : ℕ) → AreOctets bytes → value_len kind.Number32 bytes ≡ Some n → IsBack origin kind.Number32 (front_token kind.Number32 bytes) (take n bytes)
number32_back origin [] n are e = let p = at_least_is 4 n [] e in let some = p.0 in absurd (omega arith)
number32_back origin (a ∷ []) n are e = let p = at_least_is 4 n (a ∷ []) e in let some = p.0 in absurd (omega arith)
number32_back origin (a ∷ b ∷ []) n are e = let p = at_least_is 4 n (a ∷ b ∷ []) e in let some = p.0 in absurd (omega arith)
number32_back origin (a ∷ b ∷ c ∷ []) n are e = let p = at_least_is 4 n (a ∷ b ∷ c ∷ []) e in let some = p.0 in absurd (omega arith)
number32_back origin (a ∷ b ∷ c ∷ d ∷ bs) n are e =
    let p = at_least_is 4 n (a ∷ b ∷ c ∷ d ∷ bs) e in
    let p0 = are.0 in
    let p1 = are.1.0 in
    let p2 = are.1.1.0 in
    let p3 = are.1.1.1.0 in
    let number : ℕ = from_be_bytes w32 (a ∷ b ∷ c ∷ d ∷ bs) in
    let small : number < 4294967296 = omega arith in
    record {
      datum = decimal_datum number (omega arith);
      special = number_special number (omega arith);
      read = number_back 4294967295 number (to_be_bytes w32) (omega arith) (omega arith)
          ∙ ap (λ (l : List ℕ). Ok l) (be_bytes_4 (a ∷ b ∷ c ∷ d ∷ []) number refl (four_octets a b c d p0 p1 p2 p3) refl)
          ∙ ap (λ (k : ℕ). Ok (take k (a ∷ b ∷ c ∷ d ∷ bs))) (sym p.1);
    }

time_back : (origin : Option DomainName) (bytes : List ℕ) (n : ℕ) → AreOctets bytes → value_len kind.Time bytes ≡ Some n → IsBack origin kind.Time (front_token kind.Time bytes) (take n bytes)
time_back origin [] n are e = let p = at_least_is 4 n [] e in let some = p.0 in absurd (omega arith)
time_back origin (a ∷ []) n are e = let p = at_least_is 4 n (a ∷ []) e in let some = p.0 in absurd (omega arith)
time_back origin (a ∷ b ∷ []) n are e = let p = at_least_is 4 n (a ∷ b ∷ []) e in let some = p.0 in absurd (omega arith)
time_back origin (a ∷ b ∷ c ∷ []) n are e = let p = at_least_is 4 n (a ∷ b ∷ c ∷ []) e in let some = p.0 in absurd (omega arith)
time_back origin (a ∷ b ∷ c ∷ d ∷ bs) n are e =
    let p = at_least_is 4 n (a ∷ b ∷ c ∷ d ∷ bs) e in
    let p0 = are.0 in
    let p1 = are.1.0 in
    let p2 = are.1.1.0 in
    let p3 = are.1.1.1.0 in
    let number : ℕ = from_be_bytes w32 (a ∷ b ∷ c ∷ d ∷ bs) in
    let small : number < 4294967296 = omega arith in
    let other : Option ℕ = if length (decimal number) == 14 then option_map (λ seconds. seconds % 4294967296) (date_seconds (decimal number)) else None in
    record {
      datum = decimal_datum number (omega arith);
      special = number_special number (omega arith);
      read = ap (λ (o : Option ℕ). time_or_fault (elim o as (λ _. Option ℕ) [ Some seconds ↦ Some seconds | None ↦ other ])) (decimal_parses 4294967295 number (omega arith) (omega arith))
          ∙ ap (λ (l : List ℕ). Ok l) (be_bytes_4 (a ∷ b ∷ c ∷ d ∷ []) number refl (four_octets a b c d p0 p1 p2 p3) refl)
          ∙ ap (λ (k : ℕ). Ok (take k (a ∷ b ∷ c ∷ d ∷ bs))) (sym p.1);
    }

type_back : (origin : Option DomainName) (bytes : List ℕ) (n : ℕ) → AreOctets bytes → value_len kind.RecordType bytes ≡ Some n → IsBack origin kind.RecordType (front_token kind.RecordType bytes) (take n bytes)
type_back origin [] n are e = let p = at_least_is 2 n [] e in let some = p.0 in absurd (omega arith)
type_back origin (a ∷ []) n are e = let p = at_least_is 2 n (a ∷ []) e in let some = p.0 in absurd (omega arith)
type_back origin (a ∷ b ∷ bs) n are e =
    let p = at_least_is 2 n (a ∷ b ∷ bs) e in
    let high = are.0 in
    let low = are.1.0 in
    let number : ℕ = from_be_bytes w16 (a ∷ b ∷ bs) in
    let small : number < 65536 = omega arith in
    let word = word_plain number small in
    record {
      datum = word.datum;
      special = λ more. word.special;
      read = ap type_or_fault (word_parses number small) ∙ ap (λ (k : ℕ). Ok (to_be_bytes w16 k)) (round_trips number)
          ∙ ap (λ (l : List ℕ). Ok l) (be_bytes_2 (a ∷ b ∷ []) number refl (two_octets a b high low) refl)
          ∙ ap (λ (k : ℕ). Ok (take k (a ∷ b ∷ bs))) (sym p.1);
    }

-- ---- names

complete_fqdn : (labels : List (List ℕ)) (origin : Option DomainName) → complete (record { is_fqdn = true; labels = labels }) origin ≡ Ok (record { is_fqdn = true; labels = labels })
complete_fqdn labels None = refl
complete_fqdn labels (Some origin) = refl

fqdn_some : (labels : List (List ℕ)) → 0 < length (text_of_labels true labels)
fqdn_some [] = omega arith
fqdn_some (label ∷ labels) = omega (arith, length-append (label_text label) (dotted_labels labels ++ 46 ∷ []), length-append (dotted_labels labels) (46 ∷ []))

last_at : (xs : List ℕ) (c : ℕ) → get_or (xs ++ c ∷ []) (length xs) 0 ≡ c
last_at [] c = refl
last_at (x ∷ xs) c = last_at xs c

not_generic : (xs : List ℕ) → bytes_eq (xs ++ 46 ∷ []) (codes "\\#") ≡ false
not_generic xs = tested (bytes_eq (xs ++ 46 ∷ []) (codes "\\#")) (λ e. absurd (differ ((bytes_eq-Decides (xs ++ 46 ∷ []) (codes "\\#")).0 e))) (λ e. e)
  where
    differ : xs ++ 46 ∷ [] ≡ codes "\\#" → ⊥
    differ e =
        let len : length xs + 1 ≡ 2 = sym (length-append xs (46 ∷ [])) ∙ ap (λ (l : List ℕ). length l) e in
        let one : length xs ≡ 1 = omega arith in
        let dot : 46 ≡ 35 = sym (last_at xs 46) ∙ ap (λ (n : ℕ). get_or (xs ++ 46 ∷ []) n 0) one ∙ ap (λ (l : List ℕ). get_or l 1 0) e in
        absurd (omega (arith, dot))

name_special : (labels : List (List ℕ)) → bytes_eq (text_of_labels true labels) (codes "\\#") ≡ false
name_special [] = refl
name_special (label ∷ labels) =
    ap (λ (l : List ℕ). bytes_eq l (codes "\\#")) (sym (append_assoc (label_text label) (dotted_labels labels) (46 ∷ []))) ∙ not_generic (label_text label ++ dotted_labels labels)

short_is : (o : Option ℕ) (n : ℕ) → short_name o ≡ Some n → (o ≡ Some n) × (n ≤ 255)
short_is None n e = absurd (cc)
short_is (Some m) n e = by (nat_le m 255) refl e
  where
    fits : nat_le m 255 ≡ true → m ≤ 255
    fits q = grind (arith, nat_tests)

    by : (b : Bool) → nat_le m 255 ≡ b → (if b then Some m else None) ≡ Some n → (Some m ≡ Some n) × (n ≤ 255)
    by true q r = let small = fits q in let same : m ≡ n = some_is m n r in (r, omega arith)
    by false q r = absurd (cc)

name_back : (origin : Option DomainName) (bytes : List ℕ) (n : ℕ) → AreOctets bytes → value_len kind.Name bytes ≡ Some n → IsBack origin kind.Name (front_token kind.Name bytes) (take n bytes)
name_back origin bytes n are e =
    let p = short_is (name_end 0 bytes) n e in
    let labels : List (List ℕ) = labels_at 0 bytes in
    let name : DomainName = record { is_fqdn = true; labels = labels } in
    let at = name_to 0 bytes n p.0 in
    let len = at.len in
    let small = p.1 in
    let octets = at.octets are in
    let sound : AreLabels labels = record { each = at.each; fits = omega (arith, len) } in
    record {
      datum = name_datum name octets (fqdn_some labels);
      special = λ more. name_special labels;
      read = ap (λ (r : Result DomainName ParseError). bytes_of_name (elim r as (λ _. Result DomainName ParseError) [ Ok found ↦ complete found origin | Err error ↦ Err error ])) (names.printed_is_read name sound octets)
          ∙ ap bytes_of_name (complete_fqdn labels origin)
          ∙ ap (λ (l : List ℕ). Ok l) at.form;
    }

-- ---- strings

front_octets : (n : ℕ) (bytes : List ℕ) → AreOctets bytes → AreOctets (take n bytes)
front_octets zero bytes are = tt
front_octets (suc n) [] are = tt
front_octets (suc n) (c ∷ cs) are = (are.0, front_octets n cs are.1)

counted_is : (c n : ℕ) (cs : List ℕ) → counted_len (c ∷ cs) ≡ Some n → (c ≤ length cs) × (n ≡ 1 + c)
counted_is c n cs e = by (nat_le c (length cs)) refl e
  where
    fits : (m : ℕ) → nat_le c m ≡ true → c ≤ m
    fits m q = grind (arith, nat_tests)

    by : (b : Bool) → nat_le c (length cs) ≡ b → (if b then Some (1 + c) else None) ≡ Some n → (c ≤ length cs) × (n ≡ 1 + c)
    by true q r = (fits (length cs) q, sym (some_is (1 + c) n r))
    by false q r = absurd (cc)

-- the byte that counts a string, and the string
counted_form : (c n : ℕ) (cs : List ℕ) → counted_len (c ∷ cs) ≡ Some n → length (take c cs) ∷ take c cs ≡ take n (c ∷ cs)
counted_form c n cs e =
    let p = counted_is c n cs e in
    let within = p.0 in
    let full : length (take c cs) ≡ c = length-take c cs ∙ omega arith in
    let next : n ≡ suc c = p.1 ∙ omega arith in
    ap (λ (k : ℕ). k ∷ take c cs) full ∙ ap (λ (k : ℕ). take k (c ∷ cs)) (sym next)

short_string : (octets : List ℕ) → length octets < 256 → counted (Ok octets) ≡ Ok (length octets ∷ octets)
short_string octets small = by (nat_lt 255 (length octets)) refl
  where
    by : (b : Bool) → nat_lt 255 (length octets) ≡ b → ◌≡◌ {A = Result (List ℕ) TokenFault} (if b then Err StringTooLong else Ok (length octets ∷ octets)) (Ok (length octets ∷ octets))
    by true q = absurd (grind (arith, nat_tests))
    by false q = refl

string_back : (origin : Option DomainName) (bytes : List ℕ) (n : ℕ) → AreOctets bytes → value_len kind.CharacterString bytes ≡ Some n
    → IsBack origin kind.CharacterString (front_token kind.CharacterString bytes) (take n bytes)
string_back origin [] n are e = absurd (cc)
string_back origin (c ∷ cs) n are e =
    let octets = front_octets c cs are.1 in
    let small = are.0 in
    let most : length (take c cs) < 256 = omega (arith, length-take c cs) in
    record {
      datum = string_datum (take c cs) octets;
      special = λ more. refl;
      read = ap (λ (o : Option (List ℕ)). counted (octets_or_fault o)) (strings.printed_is_read (take c cs) octets) ∙ short_string (take c cs) most ∙ ap (λ (l : List ℕ). Ok l) (counted_form c n cs e);
    }

salt_special : (digits : List ℕ) → IsPlainWord digits → get_or digits 0 0 ≢ 45 → bytes_eq digits (codes "-") ≡ false
salt_special digits word first = unlike digits 45 [] first

salt_read : (c n : ℕ) (cs : List ℕ) → AreOctets (c ∷ cs) → counted_len (c ∷ cs) ≡ Some n → (octets : List ℕ) → octets ≡ take c cs → AreOctets octets
    → salt_bytes (CharData (salt_text octets)) ≡ Ok (length octets ∷ octets)
salt_read c n cs are e [] same octets = refl
salt_read c n cs are e (o ∷ os) same octets =
    let small = are.0 in
    let most : length (o ∷ os) < 256 = omega (arith, ap (λ (l : List ℕ). length l) same, length-take c cs) in
    ap (λ (b : Bool). if b then Ok (0 ∷ []) else counted (hex_outcome (hex.decode_of (encode_lower (o ∷ os))))) (salt_special (encode_lower (o ∷ os)) (hex_word o os octets) (hex_first o os octets))
    ∙ ap (λ (r : Result (List ℕ) FromHexError). counted (hex_outcome r)) (hex_back (o ∷ os) octets) ∙ short_string (o ∷ os) most

salt_word : (octets : List ℕ) → AreOctets octets → IsPlainWord (salt_text octets)
salt_word [] are = tame_word (45 ∷ []) (omega arith) ((omega arith, omega arith, omega arith, omega arith), tt)
salt_word (o ∷ os) are = hex_word o os are

salt_back : (origin : Option DomainName) (bytes : List ℕ) (n : ℕ) → AreOctets bytes → value_len kind.Salt bytes ≡ Some n → IsBack origin kind.Salt (front_token kind.Salt bytes) (take n bytes)
salt_back origin [] n are e = absurd (cc)
salt_back origin (c ∷ cs) n are e =
    let octets = front_octets c cs are.1 in
    let word = salt_word (take c cs) octets in
    record {
      datum = word.datum;
      special = λ more. word.special;
      read = salt_read c n cs are e (take c cs) refl octets ∙ ap (λ (l : List ℕ). Ok l) (counted_form c n cs e);
    }

if_some : (b : Bool) (o : Option ℕ) (n : ℕ) → (if b then o else None) ≡ Some n → (b ≡ true) × (o ≡ Some n)
if_some true o n e = (refl, e)
if_some false o n e = absurd (cc)

tag_back : (origin : Option DomainName) (bytes : List ℕ) (n : ℕ) → value_len kind.Tag bytes ≡ Some n → IsBack origin kind.Tag (front_token kind.Tag bytes) (take n bytes)
tag_back origin [] n e = let p = if_some (is_tag []) None n e in absurd (cc (p.1))
tag_back origin (c ∷ cs) n e =
    let p = if_some (is_tag (take c cs)) (counted_len (c ∷ cs)) n e in
    let word = tag_word (take c cs) p.0 in
    record {
      datum = word.datum;
      special = λ more. word.special;
      read = ap (λ (b : Bool). if b then Ok (length (take c cs) ∷ take c cs) else Err NotATag) p.0 ∙ ap (λ (l : List ℕ). Ok l) (counted_form c n cs p.1);
    }

take_all : (bytes : List ℕ) (n : ℕ) → n ≡ length bytes → take n bytes ≡ bytes
take_all bytes n is = ap (λ (k : ℕ). take k bytes) is ∙ all bytes
  where
    all : (xs : List ℕ) → take (length xs) xs ≡ xs
    all [] = refl
    all (x ∷ xs) = ap (λ (l : List ℕ). x ∷ l) (all xs)

text_back : (origin : Option DomainName) (bytes : List ℕ) (n : ℕ) → AreOctets bytes → value_len kind.Text bytes ≡ Some n → IsBack origin kind.Text (front_token kind.Text bytes) (take n bytes)
text_back origin bytes n are e = record {
  datum = string_datum bytes are;
  special = λ more. refl;
  read = ap octets_or_fault (strings.printed_is_read bytes are) ∙ ap (λ (l : List ℕ). Ok l) (sym (take_all bytes n (sym (some_is (length bytes) n e))));
}

-- ---- hexadecimal digits and base64

hex_field_back : (origin : Option DomainName) (bytes : List ℕ) (n : ℕ) → AreOctets bytes → value_len kind.Hex bytes ≡ Some n → IsBack origin kind.Hex (front_token kind.Hex bytes) (take n bytes)
hex_field_back origin [] n are e = absurd (cc)
hex_field_back origin (b ∷ bs) n are e =
    let word = hex_word b bs are in
    record {
      datum = word.datum;
      special = λ more. word.special;
      read = ap (λ (l : List ℕ). hex_words (Some l)) (append-nil (encode_lower (b ∷ bs))) ∙ ap hex_outcome (hex_back (b ∷ bs) are)
          ∙ ap (λ (l : List ℕ). Ok l) (sym (take_all (b ∷ bs) n (sym (some_is (length (b ∷ bs)) n e))));
    }

base64_field_back : (origin : Option DomainName) (bytes : List ℕ) (n : ℕ) → AreOctets bytes → value_len kind.Base64 bytes ≡ Some n
    → IsBack origin kind.Base64 (front_token kind.Base64 bytes) (take n bytes)
base64_field_back origin [] n are e = absurd (cc)
base64_field_back origin (b ∷ bs) n are e =
    let word = base64_word b bs are in
    record {
      datum = word.datum;
      special = λ more. word.special;
      read = ap (λ (l : List ℕ). base64_words (Some l)) (append-nil (encode_of standard (b ∷ bs))) ∙ ap base64_outcome (base64_back (b ∷ bs) are)
          ∙ ap (λ (l : List ℕ). Ok l) (sym (take_all (b ∷ bs) n (sym (some_is (length (b ∷ bs)) n e))));
    }

-- ---- mnemonics

algorithm_back : (origin : Option DomainName) (bytes : List ℕ) (n : ℕ) → AreOctets bytes → value_len kind.Algorithm bytes ≡ Some n
    → IsBack origin kind.Algorithm (front_token kind.Algorithm bytes) (take n bytes)
algorithm_back origin [] n are e = let p = at_least_is 1 n [] e in let some = p.0 in absurd (omega arith)
algorithm_back origin (b ∷ bs) n are e =
    let p = at_least_is 1 n (b ∷ bs) e in
    let small = are.0 in
    let whole : b % 256 ≡ b = omega arith in
    record {
      datum = decimal_datum b (omega arith);
      special = number_special b (omega arith);
      read = ap (λ (o : Option ℕ). bytes_of_number (λ k. (k % 256) ∷ []) (mnemonic_or_fault (or_else o (number_among algorithms (decimal b))))) (decimal_parses 255 b (omega arith) (omega arith))
          ∙ ap (λ (k : ℕ). Ok (k ∷ [])) whole
          ∙ ap (λ (k : ℕ). Ok (take k (b ∷ bs))) (sym p.1);
    }

certificate_back : (origin : Option DomainName) (bytes : List ℕ) (n : ℕ) → AreOctets bytes → value_len kind.CertificateType bytes ≡ Some n
    → IsBack origin kind.CertificateType (front_token kind.CertificateType bytes) (take n bytes)
certificate_back origin [] n are e = let p = at_least_is 2 n [] e in let some = p.0 in absurd (omega arith)
certificate_back origin (a ∷ []) n are e = let p = at_least_is 2 n (a ∷ []) e in let some = p.0 in absurd (omega arith)
certificate_back origin (a ∷ b ∷ bs) n are e =
    let p = at_least_is 2 n (a ∷ b ∷ bs) e in
    let high = are.0 in
    let low = are.1.0 in
    let number : ℕ = from_be_bytes w16 (a ∷ b ∷ bs) in
    let small : number < 65536 = omega arith in
    let whole : number % 65536 ≡ number = omega arith in
    record {
      datum = decimal_datum number (omega arith);
      special = number_special number (omega arith);
      read = ap (λ (o : Option ℕ). bytes_of_number (λ k. to_be_bytes w16 (k % 65536)) (mnemonic_or_fault (or_else o (number_among certificate_types (decimal number))))) (decimal_parses 65535 number (omega arith) (omega arith))
          ∙ ap (λ (k : ℕ). Ok (to_be_bytes w16 k)) whole
          ∙ ap (λ (l : List ℕ). Ok l) (be_bytes_2 (a ∷ b ∷ []) number refl (two_octets a b high low) refl)
          ∙ ap (λ (k : ℕ). Ok (take k (a ∷ b ∷ bs))) (sym p.1);
    }

-- ---- hashes

all_octets : (bytes : List ℕ) → AreOctets bytes → AllByRecursion (λ c. c < 256) bytes
all_octets [] are = tt
all_octets (c ∷ cs) are = (are.0, all_octets cs are.1)

digit_tame : (c : ℕ) → is_some (digit_value c) ≡ true → IsTame c
digit_tame c e = (low c e, other c e 59 refl, other c e 64 refl, other c e 92 refl)
  where
    low : (k : ℕ) → is_some (digit_value k) ≡ true → 41 < k
    low k q = grind (arith, nat_tests)

    other : (k : ℕ) → is_some (digit_value k) ≡ true → (m : ℕ) → is_some (digit_value m) ≡ false → k ≢ m
    other k q m fails same = let passes : is_some (digit_value m) ≡ true = subst (λ (x : ℕ). is_some (digit_value x) ≡ true) same q in absurd (cc)

both_of : (a b : Bool) → (a && b) ≡ true → (a ≡ true) × (b ≡ true)
both_of true b e = (refl, e)
both_of false b e = absurd (cc)

digits_tame : (ds : List ℕ) → are_digits ds ≡ true → AllByRecursion IsTame ds
digits_tame [] e = tt
digits_tame (d ∷ ds) e = let p = both_of (is_some (digit_value d)) (are_digits ds) e in (digit_tame d p.0, digits_tame ds p.1)

some_digits : (octets : List ℕ) → 0 < length octets → 0 < length (encoded octets)
some_digits [] some = absurd (omega arith)
some_digits (a ∷ []) some = omega arith
some_digits (a ∷ b ∷ []) some = omega arith
some_digits (a ∷ b ∷ c ∷ []) some = omega arith
some_digits (a ∷ b ∷ c ∷ d ∷ []) some = omega arith
some_digits (a ∷ b ∷ c ∷ d ∷ e ∷ rest) some = omega arith

hash_read : (octets : List ℕ) → AreOctets octets → 0 < length octets → length octets < 256 → hash_bytes (CharData (encoded octets)) ≡ Ok (length octets ∷ octets)
hash_read [] are some most = absurd (omega arith)
hash_read (o ∷ os) are some most = ap hash_outcome (base32_back (o ∷ os) (all_octets (o ∷ os) are)) ∙ short_string (o ∷ os) most

some_len : (len : ℕ) (o : Option ℕ) (n : ℕ) → (if len == 0 then None else o) ≡ Some n → (0 < len) × (o ≡ Some n)
some_len len o n e = by (len == 0) refl e
  where
    positive : (k : ℕ) → (k == 0) ≡ false → 0 < k
    positive k q = grind (arith, nat_tests)

    by : (b : Bool) → (len == 0) ≡ b → (if b then None else o) ≡ Some n → (0 < len) × (o ≡ Some n)
    by true q r = absurd (cc)
    by false q r = (positive len q, r)

hash_back : (origin : Option DomainName) (bytes : List ℕ) (n : ℕ) → AreOctets bytes → value_len kind.Hash bytes ≡ Some n → IsBack origin kind.Hash (front_token kind.Hash bytes) (take n bytes)
hash_back origin [] n are e = absurd (cc)
hash_back origin (c ∷ cs) n are e =
    let p = some_len (length (take c cs)) (counted_len (c ∷ cs)) n e in
    let some = p.0 in
    let octets = front_octets c cs are.1 in
    let small = are.0 in
    let most : length (take c cs) < 256 = omega (arith, length-take c cs) in
    let word = tame_word (encoded (take c cs)) (some_digits (take c cs) some) (digits_tame (encoded (take c cs)) (digits_are (take c cs) (all_octets (take c cs) octets))) in
    record {
      datum = word.datum;
      special = λ more. word.special;
      read = hash_read (take c cs) octets some most ∙ ap (λ (l : List ℕ). Ok l) (counted_form c n cs p.1);
    }

-- ---- any value

-- tokens of an entry's data that are read as the bytes, and of which the first does not begin the generic form
pub record AreBack (origin : Option DomainName) (field : Field) (tokens : List Lexeme) (bytes : List ℕ) : Type 0 where
  pub each : AllByRecursion IsDatum tokens
  pub special : may_be_empty field ≡ false → (more : List Lexeme) → is_generic (tokens ++ more) ≡ false
  pub present : is_missing field tokens ≡ false
  pub few : takes_rest field ≡ false → length tokens ≡ 1
  pub read : field_bytes origin field tokens ≡ Ok bytes

one : (origin : Option DomainName) (field : Field) (token : Lexeme) (bytes : List ℕ) → IsBack origin field token bytes → AreBack origin field (token ∷ []) bytes
one origin field token bytes back = record {
  each = (back.datum, tt);
  special = λ _ more. back.special more;
  present = refl;
  few = λ _. refl;
  read = back.read;
}

types_data : (types : List ℕ) → AllByRecursion IsDatum (type_tokens types)
types_data [] = tt
types_data (t ∷ ts) = ((word_plain (t % 65536) (omega arith)).datum, types_data ts)

types_read : (types : List ℕ) → AllByRecursion (λ t. t < 65536) types → type_numbers (type_tokens types) ≡ Ok types
types_read [] are = refl
types_read (t ∷ ts) are =
    let small = are.0 in
    let whole : t % 65536 ≡ t = omega arith in
    ap (λ (o : Option RecordType). then_numbers (number_of_type o) (type_numbers (type_tokens ts))) (word_parses (t % 65536) (omega arith))
    ∙ ap (λ (k : ℕ). before_numbers k (type_numbers (type_tokens ts))) (round_trips (t % 65536) ∙ whole)
    ∙ ap (before_numbers t) (types_read ts are.1)

no_types_missing : (tokens : List Lexeme) → is_missing kind.Types tokens ≡ false
no_types_missing [] = refl
no_types_missing (t ∷ ts) = refl

if_bitmap : (b : Bool) (len n : ℕ) → (if b then Some len else None) ≡ Some n → (b ≡ true) × (n ≡ len)
if_bitmap true len n e = (refl, sym (some_is len n e))
if_bitmap false len n e = absurd (cc)

types_back : (origin : Option DomainName) (bytes : List ℕ) (n : ℕ) → AreOctets bytes → value_len kind.Types bytes ≡ Some n → AreBack origin kind.Types (front_tokens kind.Types bytes) (take n bytes)
types_back origin bytes n are e =
    let p = if_bitmap (is_bitmap 0 0 bytes) (length bytes) n e in
    let octets = all_octets bytes are in
    record {
      each = types_data (types_of 0 0 bytes);
      special = λ no. absurd (cc);
      present = no_types_missing (type_tokens (types_of 0 0 bytes));
      few = λ no. absurd (cc);
      read = ap bitmap_or_fault (types_read (types_of 0 0 bytes) (types_small 0 0 0 bytes p.0 octets (omega arith)))
          ∙ ap (λ (l : List ℕ). Ok l) (bitmap_back bytes octets p.0 ∙ sym (take_all bytes n p.1));
    }

no_words_missing : (tokens : List Lexeme) → is_missing kind.Parameters tokens ≡ false
no_words_missing [] = refl
no_words_missing (t ∷ ts) = refl

service_back : (origin : Option DomainName) (bytes : List ℕ) (n : ℕ) → AreOctets bytes → value_len kind.Parameters bytes ≡ Some n → AreBack origin kind.Parameters (front_tokens kind.Parameters bytes) (take n bytes)
service_back origin bytes n are e =
    let p = if_bitmap (are_parameters bytes 0 0 bytes) (length bytes) n e in
    record {
      each = parameters_data bytes are p.0;
      special = λ no. absurd (cc);
      present = no_words_missing (word_tokens (parameter_texts 0 bytes));
      few = λ no. absurd (cc);
      read = parameters_back bytes are p.0 ∙ ap (λ (l : List ℕ). Ok l) (sym (take_all bytes n p.1));
    }

location_field_back : (origin : Option DomainName) (bytes : List ℕ) (n : ℕ) → AreOctets bytes → value_len kind.Location bytes ≡ Some n → AreBack origin kind.Location (front_tokens kind.Location bytes) (take n bytes)
location_field_back origin bytes n are e =
    let p = if_bitmap (is_location bytes) (length bytes) n e in
    let small = north_small bytes p.0 in
    record {
      each = location_data bytes are p.0;
      special = λ _ more. number_special (distance (number_at 4 bytes) / 3600000) (omega (arith, small)) (drop 1 (word_tokens (location_words bytes)) ++ more);
      present = refl;
      few = λ no. absurd (cc);
      read = ap of_location (location_back bytes are p.0) ∙ ap (λ (l : List ℕ). Ok l) (sym (take_all bytes n p.1));
    }

pub value_back : (origin : Option DomainName) (field : Field) (bytes : List ℕ) (n : ℕ) → AreOctets bytes → value_len field bytes ≡ Some n → AreBack origin field (front_tokens field bytes) (take n bytes)
value_back origin kind.Number8 bytes n are e = one origin kind.Number8 _ _ (number8_back origin bytes n are e)
value_back origin kind.Number16 bytes n are e = one origin kind.Number16 _ _ (number16_back origin bytes n are e)
value_back origin kind.Number32 bytes n are e = one origin kind.Number32 _ _ (number32_back origin bytes n are e)
value_back origin kind.Name bytes n are e = one origin kind.Name _ _ (name_back origin bytes n are e)
value_back origin kind.CharacterString bytes n are e = one origin kind.CharacterString _ _ (string_back origin bytes n are e)
value_back origin kind.Tag bytes n are e = one origin kind.Tag _ _ (tag_back origin bytes n e)
value_back origin kind.RecordType bytes n are e = one origin kind.RecordType _ _ (type_back origin bytes n are e)
value_back origin kind.Time bytes n are e = one origin kind.Time _ _ (time_back origin bytes n are e)
value_back origin kind.Salt bytes n are e = one origin kind.Salt _ _ (salt_back origin bytes n are e)
value_back origin kind.Algorithm bytes n are e = one origin kind.Algorithm _ _ (algorithm_back origin bytes n are e)
value_back origin kind.CertificateType bytes n are e = one origin kind.CertificateType _ _ (certificate_back origin bytes n are e)
value_back origin kind.Hash bytes n are e = one origin kind.Hash _ _ (hash_back origin bytes n are e)
value_back origin kind.Text bytes n are e = one origin kind.Text _ _ (text_back origin bytes n are e)
value_back origin kind.Hex bytes n are e = one origin kind.Hex _ _ (hex_field_back origin bytes n are e)
value_back origin kind.Base64 bytes n are e = one origin kind.Base64 _ _ (base64_field_back origin bytes n are e)
value_back origin kind.Types bytes n are e = types_back origin bytes n are e
value_back origin kind.Parameters bytes n are e = service_back origin bytes n are e
value_back origin kind.Location bytes n are e = location_field_back origin bytes n are e
