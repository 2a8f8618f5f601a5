-- Data of the types that a zone file may have: tokens have one outcome, and data is sound.
use Rattle.std.proofs.Common.{◌≡◌, ◌≢◌, ◌<◌, ◌≤◌, ◌+◌, ◌^◌, ℕ, Bool, true, false, not, ◌&&◌, ◌||◌, ◌==◌, if◌then◌else◌, List, [], ◌∷◌, length, drop, Option, Some, None, is_some, Result, Ok, Err, refl, sym, ap, ◌∙◌, subst, arith}
use Rattle.std.specs.Prelude.{nat_lt}
use Rattle.std.proofs.lemmas.Bool.Decides.{nat_tests}
use Rattle.dns_wire.specs.codes.Decimal.{decimal_up_to}
use Rattle.dns_wire.specs.codes.RecordType.{type_number, type_of}
use Rattle.dns_wire.specs.declared.codes.record_type.RecordType.{RecordType}
use Rattle.dns_wire.specs.declared.codes.record_type.RecordType.TheVariants as kinds
use Rattle.dns_wire.specs.Decoder.{Decoder}
use Rattle.dns_wire.specs.Encodable.{PiecesAt}
use Rattle.dns_wire.specs.declared.error.DecodeError.{DecodeError}
use Rattle.dns_wire.specs.declared.name_encoding.NameEncoding.TheVariants.{Uncompressed}
use Rattle.dns_names.specs.Name.{DomainName}
use Rattle.dns_text.specs.Lexer.{Lexeme, CharData}
use Rattle.dns_formats.specs.Data.{is_generic, sized, bytes_of_length, generic_bytes, of_type, short_data, format_bytes, data_bytes}
use Rattle.dns_formats.specs.Field.{fields_of}
use Rattle.dns_formats.specs.Read.{fields_bytes}
use Rattle.dns_formats.specs.Value.{number_or_fault, number_of}
use Rattle.dns_formats.specs.Wire.{fits}
use Rattle.dns_formats.specs.declared.fault.FormatFault.{FormatFault}
use Rattle.dns_formats.specs.declared.fault.FormatFault.TheVariants.{WrongLength, NotOfType, TooLong}
use Rattle.dns_formats.specs.declared.fault.TokenFault.{TokenFault}
use Rattle.dns_formats.specs.declared.field.Field.{Field}
use Rattle.dns_formats.proofs.TypeLaws.{round_trips}
use Rattle.dns_data.specs.declared.rdata.RData.{RData}
use Rattle.dns_data.specs.declared.rdata.RData.TheVariants as of
use Rattle.dns_data.specs.rdata.{data_type, data_pieces, whole_len, is_update_data, IsSoundData, ReadsData, RefusesData}
use Rattle.dns_data.proofs.ParsedLaws.{data_same, data_not_refused, data_refused_same}
use Rattle.dns_data.proofs.ParsedSoundLaws.{decimal_fits, parsed_type, parsed_sound, parsed_has_data}
use Rattle.dns_data.proofs.UnambiguousLaws as decoded
use Rattle.dns_zone_file.specs.declared.error.EntryError.{EntryError}
use Rattle.dns_zone_file.specs.declared.error.EntryError.TheVariants as error
use Rattle.dns_zone_file.specs.declared.error.EntryFault.{EntryFault}
use Rattle.dns_zone_file.specs.declared.error.EntryFault.TheVariants as fault
use Rattle.dns_zone_file.specs.declared.types.Types.{Types}
use Rattle.dns_zone_file.specs.declared.types.Types.TheVariants.{Nine, All}
use Rattle.dns_zone_file.specs.internal.Data.{IsFormatFault}
use Rattle.dns_zone_file.specs.internal.Error.{IsFault}
use Rattle.dns_zone_file.specs.Data.{is_meta_type, has_bytes, bytes_of, is_plain, IsDataOf, RefusesBytes, no_bytes, compressed, not_decoded, IsAnyData, in_values, in_bytes, RefusesAny, bad_values, bad_format, bad_bytes, ReadsIn, RefusesValues, RefusesIn}

-- ---- one outcome

same_bytes : {r : Result (List ℕ) FormatFault} (a b : List ℕ) → r ≡ Ok a → r ≡ Ok b → b ≡ a
same_bytes a b e f = cc

data_of_same : (t : RecordType) (bytes others : List ℕ) (a b : RData) → others ≡ bytes → IsDataOf t bytes a → IsDataOf t others b → a ≡ b
data_of_same t bytes others a b e p q =
    decoded.data_same bytes 0 (length bytes) t a b p.decoded (subst (λ (l : List ℕ). ReadsData l 0 t (length l) b) e q.decoded)

data_of_not_refused : (t : RecordType) (bytes : List ℕ) (d : RData) (refusal : EntryFault) → IsDataOf t bytes d → RefusesBytes t bytes refusal → ⊥
data_of_not_refused t bytes d refusal p (no_bytes e) = omega (arith, p.filled, ap (λ (l : List ℕ). length l) e)
data_of_not_refused t bytes d refusal p (compressed filled plain) = let other = p.plain in absurd (cc)
data_of_not_refused t bytes d refusal p (not_decoded error filled plain refused) = decoded.read_data_not_refused bytes 0 (length bytes) t d error p.decoded refused

none_filled : (bytes : List ℕ) → bytes ≡ [] → 0 < length bytes → ⊥
none_filled bytes e filled = omega (arith, filled, ap (λ (l : List ℕ). length l) e)

bytes_refused_same : {t : RecordType} {bytes : List ℕ} {a b : EntryFault} → RefusesBytes t bytes a → RefusesBytes t bytes b → a ≡ b
bytes_refused_same (no_bytes e) (no_bytes f) = refl
bytes_refused_same {bytes = bytes} (no_bytes e) (compressed filled plain) = absurd (none_filled bytes e filled)
bytes_refused_same {bytes = bytes} (no_bytes e) (not_decoded error filled plain refused) = absurd (none_filled bytes e filled)
bytes_refused_same {bytes = bytes} (compressed filled plain) (no_bytes e) = absurd (none_filled bytes e filled)
bytes_refused_same (compressed filled plain) (compressed others further) = refl
bytes_refused_same (compressed filled plain) (not_decoded error others further refused) = refl
bytes_refused_same {bytes = bytes} (not_decoded error filled plain refused) (no_bytes e) = absurd (none_filled bytes e filled)
bytes_refused_same (not_decoded error filled plain refused) (compressed others further) = refl
bytes_refused_same (not_decoded error filled plain refused) (not_decoded other others further more) = refl

same_any : (origin : DomainName) (t : RecordType) (tokens : List Lexeme) (a b : RData) → IsAnyData origin t tokens a → IsAnyData origin t tokens b → a ≡ b
same_any origin t tokens a b (in_values none p) (in_values others q) = data_same (Some origin) t tokens a b p q
same_any origin t tokens a b (in_values none p) (in_bytes bytes has is q) = absurd (cc)
same_any origin t tokens a b (in_bytes bytes has is p) (in_values none q) = absurd (cc)
same_any origin t tokens a b (in_bytes bytes has is p) (in_bytes others too so q) = data_of_same t bytes others a b (same_bytes bytes others is so) p q

not_refused_any : (origin : DomainName) (t : RecordType) (tokens : List Lexeme) (d : RData) (refusal : EntryFault) → IsAnyData origin t tokens d → RefusesAny origin t tokens refusal → ⊥
not_refused_any origin t tokens d refusal (in_values none p) (bad_values {error = error} others refused) = data_not_refused (Some origin) t tokens d error p refused
not_refused_any origin t tokens d refusal (in_values none p) (bad_format has e) = absurd (cc)
not_refused_any origin t tokens d refusal (in_values none p) (bad_bytes bytes has is refused) = absurd (cc)
not_refused_any origin t tokens d refusal (in_bytes bytes has is p) (bad_values none refused) = absurd (cc)
not_refused_any origin t tokens d refusal (in_bytes bytes has is p) (bad_format too e) = absurd (cc)
not_refused_any origin t tokens d refusal (in_bytes bytes has is p) (bad_bytes others too so refused) =
    data_of_not_refused t bytes d refusal p (subst (λ (l : List ℕ). RefusesBytes t l refusal) (same_bytes bytes others is so) refused)

refused_same_any : (origin : DomainName) (t : RecordType) (tokens : List Lexeme) (a b : EntryFault) → RefusesAny origin t tokens a → RefusesAny origin t tokens b → a ≡ b
refused_same_any origin t tokens a b (bad_values {error = e} none refused) (bad_values {error = f} others more) =
    ap fault.InvalidData (data_refused_same (Some origin) t tokens e f refused more)
refused_same_any origin t tokens a b (bad_values none refused) (bad_format has e) = absurd (cc)
refused_same_any origin t tokens a b (bad_values none refused) (bad_bytes bytes has is more) = absurd (cc)
refused_same_any origin t tokens a b (bad_format has e) (bad_values none refused) = absurd (cc)
refused_same_any origin t tokens a b (bad_format {error = x} has e) (bad_format {error = y} too f) = let same : x ≡ y = cc in ap fault.InvalidFormat same
refused_same_any origin t tokens a b (bad_format has e) (bad_bytes bytes too is more) = absurd (cc)
refused_same_any origin t tokens a b (bad_bytes bytes has is refused) (bad_values none more) = absurd (cc)
refused_same_any origin t tokens a b (bad_bytes bytes has is refused) (bad_format too e) = absurd (cc)
refused_same_any origin t tokens a b (bad_bytes bytes has is refused) (bad_bytes others too so more) =
    bytes_refused_same refused (subst (λ (l : List ℕ). RefusesBytes t l b) (same_bytes bytes others is so) more)

-- the faults of values
not_refused_values : (origin : DomainName) (t : RecordType) (tokens : List Lexeme) (d : RData) (refusal : EntryFault) → ReadsIn Nine origin t tokens d → RefusesValues origin t tokens refusal → ⊥
not_refused_values origin t tokens d (fault.InvalidData error) p refused = data_not_refused (Some origin) t tokens d error p refused
not_refused_values origin t tokens d other p refused = absurd refused

refused_same_values : (origin : DomainName) (t : RecordType) (tokens : List Lexeme) (a b : EntryFault) → RefusesValues origin t tokens a → RefusesValues origin t tokens b → a ≡ b
refused_same_values origin t tokens (fault.InvalidData e) b h k = at b k
  where
    at : (b : EntryFault) → RefusesValues origin t tokens b → fault.InvalidData e ≡ b
    at (fault.InvalidData f) k = ap fault.InvalidData (data_refused_same (Some origin) t tokens e f h k)
    at other k = absurd k
refused_same_values origin t tokens other b h k = absurd h

pub same_in : (types : Types) (origin : DomainName) (t : RecordType) (tokens : List Lexeme) (a b : RData) → ReadsIn types origin t tokens a → ReadsIn types origin t tokens b → a ≡ b
same_in Nine origin t tokens a b p q = data_same (Some origin) t tokens a b p q
same_in All origin t tokens a b p q = same_any origin t tokens a b p q

pub not_refused_in : (types : Types) (origin : DomainName) (t : RecordType) (tokens : List Lexeme) (d : RData) (refusal : EntryFault) → ReadsIn types origin t tokens d → RefusesIn types origin t tokens refusal → ⊥
not_refused_in Nine origin t tokens d refusal p refused = not_refused_values origin t tokens d refusal p refused
not_refused_in All origin t tokens d refusal p refused = not_refused_any origin t tokens d refusal p refused

pub refused_same_in : (types : Types) (origin : DomainName) (t : RecordType) (tokens : List Lexeme) (a b : EntryFault) → RefusesIn types origin t tokens a → RefusesIn types origin t tokens b → a ≡ b
refused_same_in Nine origin t tokens a b h k = refused_same_values origin t tokens a b h k
refused_same_in All origin t tokens a b h k = refused_same_any origin t tokens a b h k

-- ---- sound data

named_any : (origin : DomainName) (t : RecordType) (tokens : List Lexeme) (d : RData) → IsAnyData origin t tokens d → type_of (type_number (data_type d)) ≡ data_type d
named_any origin t tokens d (in_values none p) = (parsed_type (Some origin) t tokens d p).named
named_any origin t tokens d (in_bytes bytes has is p) = p.decoded.sound.type_named

pub named_type : (types : Types) (origin : DomainName) (t : RecordType) (tokens : List Lexeme) (d : RData) → ReadsIn types origin t tokens d → type_of (type_number (data_type d)) ≡ data_type d
named_type Nine origin t tokens d p = (parsed_type (Some origin) t tokens d p).named
named_type All origin t tokens d p = named_any origin t tokens d p

sound_any : (origin : DomainName) (t : RecordType) (tokens : List Lexeme) (d : RData) → IsAnyData origin t tokens d → whole_len d < 2 ^ 16 → IsSoundData d
sound_any origin t tokens d (in_values none p) short = parsed_sound origin t tokens d p short
sound_any origin t tokens d (in_bytes bytes has is p) short = p.decoded.sound

pub sound_in : (types : Types) (origin : DomainName) (t : RecordType) (tokens : List Lexeme) (d : RData) → ReadsIn types origin t tokens d → whole_len d < 2 ^ 16 → IsSoundData d
sound_in Nine origin t tokens d p short = parsed_sound origin t tokens d p short
sound_in All origin t tokens d p short = sound_any origin t tokens d p short

some_data : (bytes : List ℕ) (d : RData) → 0 < length bytes → PiecesAt Uncompressed bytes 0 (data_pieces false d) (0 + length bytes) → is_update_data d ≡ false
some_data bytes (of.Update0 t) filled there = absurd (omega (arith, filled, there))
some_data bytes d filled there = refl

has_data_any : (origin : DomainName) (t : RecordType) (tokens : List Lexeme) (d : RData) → IsAnyData origin t tokens d → is_update_data d ≡ false
has_data_any origin t tokens d (in_values none p) = parsed_has_data (Some origin) t tokens d p
has_data_any origin t tokens d (in_bytes bytes has is p) = some_data bytes d p.filled p.decoded.there

pub has_data_in : (types : Types) (origin : DomainName) (t : RecordType) (tokens : List Lexeme) (d : RData) → ReadsIn types origin t tokens d → is_update_data d ≡ false
has_data_in Nine origin t tokens d p = parsed_has_data (Some origin) t tokens d p
has_data_in All origin t tokens d p = has_data_any origin t tokens d p

-- ---- neither OPT nor TSIG

no_meta : (meta other : Bool) → (not meta && other) ≡ true → meta ≡ false
no_meta true other e = absurd (cc)
no_meta false other e = refl

-- the type with a number is a meta type where the number is one
not_meta : (t u : RecordType) (tokens : List Lexeme) → has_bytes (type_number t) tokens ≡ true → is_meta_type (type_number u) ≡ true → type_of (type_number t) ≢ u
not_meta t u tokens has meta e =
    let none : is_meta_type (type_number t) ≡ false = no_meta (is_meta_type (type_number t)) (is_generic tokens || is_some (fields_of (type_number t))) has in
    let same : type_number u ≡ type_number t = ap type_number (sym e) ∙ round_trips (type_number t) in
    let other : is_meta_type (type_number t) ≡ true = subst (λ (n : ℕ). is_meta_type n ≡ true) same meta in
    absurd (cc)

not_opt_any : (origin : DomainName) (t : RecordType) (tokens : List Lexeme) (d : RData) → IsAnyData origin t tokens d → data_type d ≢ kinds.OPT
not_opt_any origin t tokens d (in_values none p) = (parsed_type (Some origin) t tokens d p).not_opt
not_opt_any origin t tokens d (in_bytes bytes has is p) = λ e. not_meta t kinds.OPT tokens has refl (sym p.decoded.of_type ∙ e)

pub not_opt_in : (types : Types) (origin : DomainName) (t : RecordType) (tokens : List Lexeme) (d : RData) → ReadsIn types origin t tokens d → data_type d ≢ kinds.OPT
not_opt_in Nine origin t tokens d p = (parsed_type (Some origin) t tokens d p).not_opt
not_opt_in All origin t tokens d p = not_opt_any origin t tokens d p

not_tsig_any : (origin : DomainName) (t : RecordType) (tokens : List Lexeme) (d : RData) → IsAnyData origin t tokens d → data_type d ≢ kinds.TSIG
not_tsig_any origin t tokens d (in_values none p) = (parsed_type (Some origin) t tokens d p).not_tsig
not_tsig_any origin t tokens d (in_bytes bytes has is p) = λ e. not_meta t kinds.TSIG tokens has refl (sym p.decoded.of_type ∙ e)

pub not_tsig_in : (types : Types) (origin : DomainName) (t : RecordType) (tokens : List Lexeme) (d : RData) → ReadsIn types origin t tokens d → data_type d ≢ kinds.TSIG
not_tsig_in Nine origin t tokens d p = (parsed_type (Some origin) t tokens d p).not_tsig
not_tsig_in All origin t tokens d p = not_tsig_any origin t tokens d p

-- ---- lengths

of_type_ok : (fields : Option (List Field)) (r : Result (List ℕ) FormatFault) (bytes : List ℕ) → of_type fields r ≡ Ok bytes → r ≡ Ok bytes
of_type_ok None r bytes e = e
of_type_ok (Some fields) (Ok found) bytes e = at (fits fields found) e
  where
    at : (b : Bool) → ◌≡◌ {A = Result (List ℕ) FormatFault} (if b then Ok found else Err NotOfType) (Ok bytes) → ◌≡◌ {A = Result (List ℕ) FormatFault} (Ok found) (Ok bytes)
    at true q = q
    at false q = absurd (cc)
of_type_ok (Some fields) (Err error) bytes e = absurd (cc)

sized_is : (len : ℕ) (r : Result (List ℕ) FormatFault) (bytes : List ℕ) → sized len r ≡ Ok bytes → length bytes ≡ len
sized_is len (Err error) bytes e = absurd (cc)
sized_is len (Ok found) bytes e = at (length found == len) refl e
  where
    at : (b : Bool) → (length found == len) ≡ b → ◌≡◌ {A = Result (List ℕ) FormatFault} (if b then Ok found else Err WrongLength) (Ok bytes) → length bytes ≡ len
    at true is q = let same : found ≡ bytes = cc in let size : length found ≡ length bytes = ap (λ (l : List ℕ). length l) same in let n : length found ≡ len = grind (arith, nat_tests) in omega (arith, size, n)
    at false is q = absurd (cc)

number_fits : (greatest len : ℕ) (text : List ℕ) → number_or_fault (decimal_up_to greatest text) ≡ Ok len → len ≤ greatest
number_fits greatest len text e = at (decimal_up_to greatest text) refl e
  where
    at : (o : Option ℕ) → decimal_up_to greatest text ≡ o → number_or_fault o ≡ Ok len → len ≤ greatest
    at None is q = absurd (cc)
    at (Some n) is q = let same : n ≡ len = cc in let small = decimal_fits greatest n text is in omega (arith, same, small)

number_small : (greatest len : ℕ) (token : Lexeme) → number_of greatest token ≡ Ok len → len ≤ greatest
number_small greatest len (CharData text) e = number_fits greatest len text e
number_small greatest len token e = absurd (cc)

generic_short : (tokens : List Lexeme) (bytes : List ℕ) → generic_bytes tokens ≡ Ok bytes → length bytes < 2 ^ 16
generic_short [] bytes e = absurd (cc)
generic_short (token ∷ tokens) bytes e = at (number_of 65535 token) refl e
  where
    at : (r : Result ℕ TokenFault) → number_of 65535 token ≡ r → bytes_of_length r tokens ≡ Ok bytes → length bytes < 2 ^ 16
    at (Ok len) is q = omega (arith, number_small 65535 len token is, sized_is len _ bytes q)
    at (Err error) is q = absurd (cc)

short_is : (r : Result (List ℕ) FormatFault) (bytes : List ℕ) → short_data r ≡ Ok bytes → length bytes < 2 ^ 16
short_is (Err error) bytes e = absurd (cc)
short_is (Ok found) bytes e = at (nat_lt 65535 (length found)) refl e
  where
    at : (b : Bool) → nat_lt 65535 (length found) ≡ b → ◌≡◌ {A = Result (List ℕ) FormatFault} (if b then Err TooLong else Ok found) (Ok bytes) → length bytes < 2 ^ 16
    at true is q = absurd (cc)
    at false is q = let same : found ≡ bytes = cc in let size : length found ≡ length bytes = ap (λ (l : List ℕ). length l) same in let n : length found ≤ 65535 = grind (arith, nat_tests) in omega (arith, size, n)

format_short : (origin : Option DomainName) (fields : Option (List Field)) (tokens : List Lexeme) (bytes : List ℕ) → format_bytes origin fields tokens ≡ Ok bytes → length bytes < 2 ^ 16
format_short origin None tokens bytes e = absurd (cc)
format_short origin (Some fields) tokens bytes e = short_is (fields_bytes origin fields 0 tokens) bytes e

pub bytes_short : (origin : Option DomainName) (fields : Option (List Field)) (tokens : List Lexeme) (bytes : List ℕ) → data_bytes origin fields tokens ≡ Ok bytes → length bytes < 2 ^ 16
bytes_short origin fields tokens bytes e = at (is_generic tokens) e
  where
    at : (b : Bool) → (if b then of_type fields (generic_bytes (drop 1 tokens)) else format_bytes origin fields tokens) ≡ Ok bytes → length bytes < 2 ^ 16
    at true q = generic_short (drop 1 tokens) bytes (of_type_ok fields (generic_bytes (drop 1 tokens)) bytes q)
    at false q = format_short origin fields tokens bytes q

-- ---- what the code finds

pub none_at : (t : RecordType) (bytes : List ℕ) → (length bytes == 0) ≡ true → RefusesBytes t bytes fault.NoData
none_at t [] e = no_bytes refl
none_at t (c ∷ cs) e = absurd (grind (arith, nat_tests))

pub some_at : (bytes : List ℕ) → (length bytes == 0) ≡ false → 0 < length bytes
some_at [] e = absurd (grind (arith, nat_tests))
some_at (c ∷ cs) e = omega arith

abbrev at_front : List ℕ → Decoder
at_front bytes = record { bytes = bytes; index = 0 }

pub decoded_at : (t : RecordType) (bytes : List ℕ) (len : ℕ) (decoder : Decoder) (d : RData) → decoder ≡ at_front bytes → len ≡ length bytes
    → 0 < length bytes → is_plain (type_number t) bytes ≡ true → ReadsData decoder.bytes decoder.index t len d → IsDataOf t bytes d
decoded_at t bytes len decoder d same size filled plain reads = record {
  filled = filled;
  plain = plain;
  decoded = subst (λ (n : ℕ). ReadsData bytes 0 t n d) size (subst (λ (x : Decoder). ReadsData x.bytes x.index t len d) same reads);
}

pub not_decoded_at : (t : RecordType) (bytes : List ℕ) (len : ℕ) (decoder : Decoder) (error : DecodeError) → decoder ≡ at_front bytes → len ≡ length bytes
    → 0 < length bytes → is_plain (type_number t) bytes ≡ true → RefusesData decoder.bytes decoder.index t len error
    → RefusesBytes t bytes (fault.InvalidFormat NotOfType)
not_decoded_at t bytes len decoder error same size filled plain refused =
    not_decoded error filled plain (subst (λ (n : ℕ). RefusesData bytes 0 t n error) size (subst (λ (x : Decoder). RefusesData x.bytes x.index t len error) same refused))

module _ (origin : DomainName) (t : RecordType) (tokens : List Lexeme) where
  pub values_fault : has_bytes (type_number t) tokens ≡ false → (e : EntryError) → IsFault (RefusesValues origin t tokens) e → IsFault (RefusesAny origin t tokens) e
  values_fault none (error.Fault (fault.InvalidData x)) refused = bad_values none refused
  values_fault none error.Memory refused = tt
  values_fault none (error.Fault other) refused = absurd refused

  pub format_fault : has_bytes (type_number t) tokens ≡ true → (e : EntryError) → IsFault (IsFormatFault (λ x. bytes_of origin t tokens ≡ Err x)) e → IsFault (RefusesAny origin t tokens) e
  format_fault has (error.Fault (fault.InvalidFormat x)) refused = bad_format has refused
  format_fault has error.Memory refused = tt
  format_fault has (error.Fault other) refused = absurd refused

  module _ (has : has_bytes (type_number t) tokens ≡ true) (bytes others : List ℕ) (is : bytes_of origin t tokens ≡ Ok bytes) (same : others ≡ bytes) where
    pub bytes_read : (d : RData) → IsDataOf t others d → IsAnyData origin t tokens d
    bytes_read d p = in_bytes bytes has is (subst (λ (l : List ℕ). IsDataOf t l d) same p)

    pub bytes_fault : (e : EntryError) → IsFault (RefusesBytes t others) e → IsFault (RefusesAny origin t tokens) e
    bytes_fault (error.Fault refusal) refused = bad_bytes bytes has is (subst (λ (l : List ℕ). RefusesBytes t l refusal) same refused)
    bytes_fault error.Memory refused = tt
