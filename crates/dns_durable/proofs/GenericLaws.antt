-- Bytes in the generic form are read as data.
use Rattle.std.proofs.Common.{◌≡◌, ℕ, zero, suc, ◌+◌, ◌/◌, ◌%◌, ◌<◌, ◌^◌, Bool, true, false, ◌&&◌, ◌||◌, ◌==◌, List, [], ◌∷◌, ◌++◌, length, take, Option, Some, None, Result, Ok, Err, refl, ap, subst, ◌∙◌, sym, arith}
use Rattle.std.specs.Prelude.{codes, not, slice_index, if◌then◌else◌, is_some}
use Rattle.std.specs.Char.{digit_char}
use Rattle.std.specs.Fmt.{decimal}
use Rattle.std.specs.List.{AllByRecursion}
use Rattle.std.proofs.lemmas.Bool.Decides.{nat_tests}
use Rattle.std.proofs.lemmas.List.{append-nil}
use Rattle.hex.specs.Hex.{encode_lower, encode_with, lower_digits}
use Rattle.hex.specs.declared.error.FromHexError.{FromHexError}
use Rattle.dns_wire.specs.codes.RecordType.{type_number, type_of}
use Rattle.dns_wire.specs.declared.codes.record_type.RecordType.{RecordType}
use Rattle.dns_wire.specs.declared.codes.record_type.RecordType.TheVariants as types
use Rattle.dns_names.specs.Name.{DomainName}
use Rattle.dns_names.specs.Print.{AreOctets}
use Rattle.dns_text.specs.Lexer.{Lexeme, CharData}
use Rattle.dns_text.specs.Tokens.{IsDatum, no_character, one_escape, data_text}
use Rattle.dns_text.proofs.PrintedData.{decimal_datum}
use Rattle.dns_formats.specs.Data.{is_generic, sized, bytes_of_length, generic_bytes, digits_bytes, digits_outcome, of_type}
use Rattle.dns_formats.specs.Field.{fields_of}
use Rattle.dns_formats.specs.Read.{located}
use Rattle.dns_formats.specs.ReadBack.{AreDataOf}
use Rattle.dns_formats.specs.Value.{number_or_fault}
use Rattle.dns_formats.specs.declared.fault.FormatFault.{FormatFault}
use Rattle.dns_formats.specs.declared.fault.FormatFault.TheVariants.{WrongLength, NotOfType}
use Rattle.dns_formats.specs.Wire.{fits}
use Rattle.dns_formats.specs.declared.field.Field.{Field}
use Rattle.dns_formats.specs.declared.field.Field.TheVariants.{Number16, Number32, Name}
use Rattle.dns_fields.proofs.DecimalLaws.{decimal_parses}
use Rattle.dns_formats.proofs.EncodingLaws.{hex_word, hex_back}
use Rattle.dns_data.specs.Field.{Opaque}
use Rattle.dns_data.specs.Text.{hex_text, generic_text}
use Rattle.dns_data.specs.declared.rdata.RData.TheVariants.{Unknown}
use Rattle.dns_data.specs.rdata.{kinds_of_type, IsSoundData, ReadsData}
use Rattle.dns_zone_file.specs.Data.{is_meta_type, has_bytes, bytes_of, is_plain, IsAnyData, in_bytes}
use Rattle.dns_durable.specs.zone_texts.Stated.{IsGenericData}

-- ---- tokens

-- the tokens of the generic form
abbrev pub generic_word : Lexeme
generic_word = CharData (codes "\\#")

abbrev pub generic_more : List ℕ → List Lexeme
generic_more bytes = CharData (decimal (length bytes)) ∷ CharData (encode_lower bytes) ∷ []

digit_is : (n : ℕ) → n < 16 → slice_index lower_digits n ≡ digit_char n
digit_is zero small = refl
digit_is (suc zero) small = refl
digit_is (suc (suc zero)) small = refl
digit_is (suc (suc (suc zero))) small = refl
digit_is (suc (suc (suc (suc zero)))) small = refl
digit_is (suc (suc (suc (suc (suc zero))))) small = refl
digit_is (suc (suc (suc (suc (suc (suc zero)))))) small = refl
digit_is (suc (suc (suc (suc (suc (suc (suc zero))))))) small = refl
digit_is (suc (suc (suc (suc (suc (suc (suc (suc zero)))))))) small = refl
digit_is (suc (suc (suc (suc (suc (suc (suc (suc (suc zero))))))))) small = refl
digit_is (suc (suc (suc (suc (suc (suc (suc (suc (suc (suc zero)))))))))) small = refl
digit_is (suc (suc (suc (suc (suc (suc (suc (suc (suc (suc (suc zero))))))))))) small = refl
digit_is (suc (suc (suc (suc (suc (suc (suc (suc (suc (suc (suc (suc zero)))))))))))) small = refl
digit_is (suc (suc (suc (suc (suc (suc (suc (suc (suc (suc (suc (suc (suc zero))))))))))))) small = refl
digit_is (suc (suc (suc (suc (suc (suc (suc (suc (suc (suc (suc (suc (suc (suc zero)))))))))))))) small = refl
digit_is (suc (suc (suc (suc (suc (suc (suc (suc (suc (suc (suc (suc (suc (suc (suc zero))))))))))))))) small = refl
digit_is (suc (suc (suc (suc (suc (suc (suc (suc (suc (suc (suc (suc (suc (suc (suc (suc n)))))))))))))))) small = absurd (omega arith)

hex_is : (bytes : List ℕ) → AreOctets bytes → encode_lower bytes ≡ hex_text bytes
unfolding encode_with
hex_is [] are = refl
hex_is (b ∷ bs) are =
    λ i. digit_is (b / 16) (omega (arith, are.0)) i ∷ digit_is (b % 16) (omega arith) i ∷ hex_is bs are.1 i

pub text_is : (bytes : List ℕ) → 0 < length bytes → AreOctets bytes → data_text (generic_word ∷ generic_more bytes) ≡ generic_text bytes
text_is [] some are = absurd (omega arith)
text_is (b ∷ bs) some are = ap (λ (l : List ℕ). codes "\\# " ++ decimal (length (b ∷ bs)) ++ 32 ∷ l) (hex_is (b ∷ bs) are)

word_datum : IsDatum generic_word
word_datum = (omega arith, one_escape (omega arith) (omega arith) no_character, refl)

pub tokens_are : (bytes : List ℕ) → 0 < length bytes → AreOctets bytes → length bytes < 65536 → AllByRecursion IsDatum (generic_word ∷ generic_more bytes)
tokens_are [] some are small = absurd (omega arith)
tokens_are (b ∷ bs) some are small = (word_datum, (decimal_datum (length (b ∷ bs)) (omega (arith, small)), ((hex_word b bs are).datum, tt)))

-- ---- bytes

sized_is : (bytes : List ℕ) → sized (length bytes) (Ok bytes) ≡ Ok bytes
sized_is bytes = by (length bytes == length bytes) refl
  where
    by : (b : Bool) → (length bytes == length bytes) ≡ b → ◌≡◌ {A = Result (List ℕ) FormatFault} (if b then Ok bytes else Err WrongLength) (Ok bytes)
    by true q = refl
    by false q = absurd (grind (arith, nat_tests))

generic_read : (bytes : List ℕ) → AreOctets bytes → length bytes < 65536 → generic_bytes (generic_more bytes) ≡ Ok bytes
generic_read bytes are small =
    ap (λ (o : Option ℕ). bytes_of_length (number_or_fault o) (CharData (encode_lower bytes) ∷ [])) (decimal_parses 65535 (length bytes) (omega (arith, small)) (omega (arith, small)))
    ∙ ap (λ (l : List ℕ). sized (length bytes) (located 2 (digits_bytes (Some l)))) (append-nil (encode_lower bytes))
    ∙ ap (λ (r : Result (List ℕ) FromHexError). sized (length bytes) (located 2 (digits_outcome r))) (hex_back bytes are)
    ∙ sized_is bytes

of_any : (o : Option (List Field)) (bytes : List ℕ) → AreDataOf o bytes → of_type o (Ok bytes) ≡ Ok bytes
of_any None bytes may = refl
of_any (Some fields) bytes may = ap (λ (b : Bool). if b then Ok bytes else Err NotOfType) may

bytes_read : (origin : DomainName) (code : RecordType) (bytes : List ℕ) → AreOctets bytes → length bytes < 65536 → AreDataOf (fields_of (type_number code)) bytes
    → bytes_of origin code (generic_word ∷ generic_more bytes) ≡ Ok bytes
bytes_read origin code bytes are small may =
    ap (of_type (fields_of (type_number code))) (generic_read bytes are small) ∙ of_any (fields_of (type_number code)) bytes may

has_them : (number : ℕ) (tokens : List Lexeme) → is_meta_type number ≡ false → is_generic tokens ≡ true → has_bytes number tokens ≡ true
has_them number tokens zone generic = λ i. not (zone i) && (generic i || is_some (fields_of number))

-- ---- data

-- no type with opaque data has names that messages compress
apart : (m k : ℕ) → type_of m ≡ types.Unknown m → (type_of k ≡ types.Unknown k → ⊥) → (m == k) ≡ false
apart m k unknown named = by (m == k) refl
  where
    same : (m == k) ≡ true → m ≡ k
    same q = grind (arith, nat_tests)

    by : (b : Bool) → (m == k) ≡ b → b ≡ false
    by true q = absurd (named (subst (λ (n : ℕ). type_of n ≡ types.Unknown n) (same q) unknown))
    by false q = refl

plain_unknown : (m : ℕ) (bytes : List ℕ) → type_of m ≡ types.Unknown m → is_plain m bytes ≡ true
plain_unknown m bytes e =
    let a : (m == 2) ≡ false = apart m 2 e (λ q. absurd (cc)) in
    let b : (m == 5) ≡ false = apart m 5 e (λ q. absurd (cc)) in
    let c : (m == 12) ≡ false = apart m 12 e (λ q. absurd (cc)) in
    let d : (m == 6) ≡ false = apart m 6 e (λ q. absurd (cc)) in
    let f : (m == 15) ≡ false = apart m 15 e (λ q. absurd (cc)) in
    let g : (m == 33) ≡ false = apart m 33 e (λ q. absurd (cc)) in
    λ i.
    elim (
    if a i || b i || c i then Some (Name ∷ [])
    else if d i then Some (Name ∷ Name ∷ Number32 ∷ Number32 ∷ Number32 ∷ Number32 ∷ Number32 ∷ [])
    else if f i then Some (Number16 ∷ Name ∷ [])
    else if g i then Some (Number16 ∷ Number16 ∷ Number16 ∷ Name ∷ [])
    else None
    ) as (λ _. Bool) [ Some fields ↦ fits fields bytes | None ↦ true ]

plain_type : (k : RecordType) (bytes : List ℕ) → Opaque ∷ [] ≡ kinds_of_type k → type_of (type_number k) ≡ k → is_plain (type_number k) bytes ≡ true
plain_type types.NS bytes e named = absurd (cc)
plain_type types.CNAME bytes e named = absurd (cc)
plain_type types.SOA bytes e named = absurd (cc)
plain_type types.PTR bytes e named = absurd (cc)
plain_type types.MX bytes e named = absurd (cc)
plain_type types.SRV bytes e named = absurd (cc)
plain_type (types.Unknown m) bytes e named = plain_unknown m bytes named
plain_type types.A bytes e named = refl
plain_type types.NULL bytes e named = refl
plain_type types.HINFO bytes e named = refl
plain_type types.TXT bytes e named = refl
plain_type types.SIG bytes e named = refl
plain_type types.KEY bytes e named = refl
plain_type types.AAAA bytes e named = refl
plain_type types.NAPTR bytes e named = refl
plain_type types.CERT bytes e named = refl
plain_type types.DNAME bytes e named = refl
plain_type types.OPT bytes e named = refl
plain_type types.DS bytes e named = refl
plain_type types.SSHFP bytes e named = refl
plain_type types.RRSIG bytes e named = refl
plain_type types.NSEC bytes e named = refl
plain_type types.DNSKEY bytes e named = refl
plain_type types.NSEC3 bytes e named = refl
plain_type types.NSEC3PARAM bytes e named = refl
plain_type types.TLSA bytes e named = refl
plain_type types.SMIMEA bytes e named = refl
plain_type types.CDS bytes e named = refl
plain_type types.CDNSKEY bytes e named = refl
plain_type types.OPENPGPKEY bytes e named = refl
plain_type types.CSYNC bytes e named = refl
plain_type types.SVCB bytes e named = refl
plain_type types.HTTPS bytes e named = refl
plain_type types.TSIG bytes e named = refl
plain_type types.IXFR bytes e named = refl
plain_type types.AXFR bytes e named = refl
plain_type types.ANY bytes e named = refl
plain_type types.CAA bytes e named = refl
plain_type types.ZERO bytes e named = refl

front_all : (bytes : List ℕ) → take (length bytes) bytes ≡ bytes
front_all [] = refl
front_all (b ∷ bs) = ap (λ (l : List ℕ). b ∷ l) (front_all bs)

decoded : (code : RecordType) (bytes : List ℕ) → IsSoundData (Unknown code bytes) → ReadsData bytes 0 code (length bytes) (Unknown code bytes)
decoded code bytes sound = record {
  of_type = sym sound.type_named;
  sound = sound;
  there = let end : ℕ = 0 + length bytes in (end, record { ends = refl; within = omega arith; there = front_all bytes }, refl);
}

-- data is at most as long as a length says
pub short : (code : RecordType) (bytes : List ℕ) → IsSoundData (Unknown code bytes) → length bytes < 65536
short code bytes sound = subst (λ (l : List ℕ). length l < 2 ^ 16) (append-nil bytes) sound.fits

pub generic_data : (origin : DomainName) (code : RecordType) (bytes : List ℕ) → IsSoundData (Unknown code bytes) → IsGenericData code bytes
    → IsAnyData origin code (generic_word ∷ generic_more bytes) (Unknown code bytes)
generic_data origin code bytes sound is =
    in_bytes bytes (has_them (type_number code) (generic_word ∷ generic_more bytes) is.in_zones refl) (bytes_read origin code bytes is.octets (short code bytes sound) is.fields)
    (record { filled = is.filled; plain = plain_type code bytes sound.fields sound.type_named; decoded = decoded code bytes sound })
