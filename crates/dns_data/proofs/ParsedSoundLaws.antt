-- Data that is parsed from text is sound, unless it is too long for a record.
use Rattle.std.proofs.Common.{◌≡◌, ◌≢◌, ℕ, ◌-◌, ◌<◌, ◌≤◌, ◌^◌, Bool, true, false, cond, List, [], ◌∷◌, ◌++◌, length, replicate, Option, Some, None, Result, Ok, Err, inl, inr, refl, sym, ap, subst, ◌∙◌, arith, length-append}
use Rattle.std.specs.Prelude.{nat_le, nat_lt, if◌then◌else◌, ◌&&◌, not}
use Rattle.std.proofs.lemmas.Bool.{and_parts}
use Rattle.std.specs.List.{AllByRecursion}
use Rattle.std.specs.Net.Addr.{ipv6_segments}
use Rattle.std.specs.Net.Grammar.{IsColonHex}
use Rattle.std.proofs.lemmas.Bool.Decides.{nat_tests}
use Rattle.std.proofs.lemmas.List.{length-replicate}
use Rattle.dns_wire.specs.codes.Decimal.{at_most, decimal, decimal_up_to}
use Rattle.dns_wire.specs.codes.RecordType.{type_number, type_of}
use Rattle.dns_wire.specs.declared.codes.record_type.RecordType.{RecordType}
use Rattle.dns_wire.specs.declared.codes.record_type.RecordType.TheVariants as types
use Rattle.dns_wire.specs.Name.{max_name_len, name_len}
use Rattle.dns_names.specs.Name.{DomainName}
use Rattle.dns_names.specs.Parse.{name_of_text}
use Rattle.dns_names.specs.Build.{append_labels, complete}
use Rattle.dns_names.specs.declared.error.ParseError.{ParseError}
use Rattle.dns_names.specs.declared.error.ParseError.TheVariants.{DomainNameTooLong}
use Rattle.dns_text.specs.CharacterString.{unescaped}
use Rattle.dns_text.specs.Lexer.{Lexeme, CharData, QuotedString, At}
use Rattle.dns_text.specs.Ttl.{time, seconds, runs}
use Rattle.dns_data.specs.Field.{Kind, Number16, Number32, Seconds, Address4, Address6, CompressibleName, WholeName, Strings, ValueOf, Values, IsSoundValue, AreSoundValues}
use Rattle.dns_data.specs.Text.{as_name, name_of_token, string_of_text, string_of_token, IsTokenOf, AreTokensOf, no_string, one_string, Takes, AreParsed, has_text}
use Rattle.dns_data.specs.declared.error.RDataParseError.{RDataParseError}
use Rattle.dns_data.specs.declared.error.RDataParseError.TheVariants.{CharacterDataTooLong, InvalidToken}
use Rattle.dns_data.specs.declared.rdata.RData.{RData}
use Rattle.dns_data.specs.declared.rdata.RData.TheVariants as of
use Rattle.dns_data.specs.rdata.{data_type, data_kinds, data_values, kinds_of_type, is_update_data, whole_len, HasFieldsOfType, IsSoundData, IsParsedData}
use Rattle.dns_data.proofs.ParsedLaws.{some_kind}

-- ---- numbers

at_most-fits : (greatest number : ℕ) (found : Option ℕ) → at_most greatest found ≡ Some number → number ≤ greatest
at_most-fits greatest number None e = absurd (cc)
at_most-fits greatest number (Some m) e = at (nat_le m greatest) refl e
  where
    at : (r : Bool) → nat_le m greatest ≡ r → cond r (Some m) None ≡ Some number → number ≤ greatest
    at true le same = let is : m ≡ number = cc in grind (arith, nat_tests)
    at false le same = absurd (cc)

pub decimal_fits : (greatest number : ℕ) (text : List ℕ) → decimal_up_to greatest text ≡ Some number → number ≤ greatest
unfolding decimal_up_to
decimal_fits greatest number text e = at_most-fits greatest number (decimal text) e

pub time_fits : (number : ℕ) (text : List ℕ) → time text ≡ Some number → number ≤ 4294967295
time_fits number [] e = absurd (cc)
time_fits number (c ∷ cs) e = at_most-fits 4294967295 number (seconds (runs (c ∷ cs))) e

-- ---- addresses

pub eight_segments : (text segments : List ℕ) → IsColonHex text segments → length segments ≡ 8
eight_segments text segments (inl groups) = groups.1
eight_segments text segments (inr e) =
    let count : ℕ = 8 - length e.head - length e.tail in
    let zeros : List ℕ = replicate count 0 in
    let whole = ap (λ (l : List ℕ). length l) e.value ∙ length-append (e.head ++ zeros) e.tail in
    omega (arith, e.room, whole, length-append e.head zeros, length-replicate {A = ℕ} count 0)

-- ---- names

appended-is_fqdn : (base name : DomainName) (labels : List (List ℕ)) → base.is_fqdn ≡ true → append_labels base labels ≡ Ok name → name.is_fqdn ≡ true
appended-is_fqdn base name labels fqdn e = at (nat_lt max_name_len (name_len (base.labels ++ labels))) e
  where
    made : DomainName
    made = record base { labels = base.labels ++ labels }

    at : (long : Bool) → cond long (Err DomainNameTooLong) (Ok made) ≡ Ok name → name.is_fqdn ≡ true
    at true f = absurd (cc)
    at false f = let same : made ≡ name = cc in ap (λ (n : DomainName). n.is_fqdn) (sym same) ∙ fqdn

pub completed-is_fqdn : (origin base name : DomainName) → complete base (Some origin) ≡ Ok name → name.is_fqdn ≡ true
completed-is_fqdn origin base name e = at base.is_fqdn refl e
  where
    at : (fqdn : Bool) → base.is_fqdn ≡ fqdn → cond fqdn (Ok base) (append_labels (record base { is_fqdn = true }) origin.labels) ≡ Ok name → name.is_fqdn ≡ true
    at true is f = let same : base ≡ name = cc in ap (λ (n : DomainName). n.is_fqdn) (sym same) ∙ is
    at false is f = appended-is_fqdn (record base { is_fqdn = true }) name origin.labels refl f

pub as_name-ok : (r : Result DomainName ParseError) (name : DomainName) → as_name r ≡ Ok name → r ≡ Ok name
as_name-ok (Ok made) name e = cc
as_name-ok (Err error) name e = absurd (cc)

name-is_fqdn : (origin name : DomainName) (token : Lexeme) → name_of_token (Some origin) token ≡ Ok name → name.is_fqdn ≡ true
name-is_fqdn origin name (CharData text) e = at (name_of_text text) e
  where
    at : (r : Result DomainName ParseError) → as_name (elim r [ Ok base ↦ complete base (Some origin) | Err error ↦ Err error ]) ≡ Ok name → name.is_fqdn ≡ true
    at (Ok base) f = completed-is_fqdn origin base name (as_name-ok (complete base (Some origin)) name f)
    at (Err error) f = absurd (cc)
name-is_fqdn origin name At e = appended-is_fqdn (record { is_fqdn = true; labels = [] }) name origin.labels refl (as_name-ok (append_labels (record { is_fqdn = true; labels = [] }) origin.labels) name e)
name-is_fqdn origin name token e = absurd (cc)

-- ---- character strings

text_fits : (text string : List ℕ) → string_of_text text ≡ Ok string → length string < 256
text_fits text string e = at (unescaped text) e
  where
    at : (o : Option (List ℕ)) → elim o as (λ _. Result (List ℕ) RDataParseError) [ None ↦ Err InvalidToken | Some s ↦ cond (nat_lt 255 (length s)) (Err CharacterDataTooLong) (Ok s) ] ≡ Ok string → length string < 256
    at None f = absurd (cc)
    at (Some s) f = size (nat_lt 255 (length s)) refl f
      where
        size : (long : Bool) → nat_lt 255 (length s) ≡ long → cond long (Err CharacterDataTooLong) (Ok s) ≡ Ok string → length string < 256
        size true over g = absurd (cc)
        size false fits g = let same : s ≡ string = cc in grind (arith, nat_tests)

string_fits : (token : Lexeme) (string : List ℕ) → string_of_token token ≡ Ok string → length string < 256
string_fits (CharData text) string e = text_fits text string e
string_fits (QuotedString text) string e = text_fits text string e
string_fits At string e = let same : 64 ∷ [] ≡ string = cc in omega (arith, ap (λ (l : List ℕ). length l) same)
string_fits token string e = absurd (cc)

strings_fit : {strings : List (List ℕ)} {tokens : List Lexeme} → AreTokensOf strings tokens → AllByRecursion (λ string. length string < 256) strings
strings_fit no_string = tt
strings_fit (one_string {string = s} {token = token} e more) = (string_fits token s e, strings_fit more)

some_string : {strings : List (List ℕ)} {tokens : List Lexeme} → tokens ≢ [] → AreTokensOf strings tokens → strings ≢ []
some_string some no_string = λ e. some refl
some_string some (one_string is more) = λ e. absurd (cc)

-- ---- values

module _ (origin : DomainName) where
  token_sound : (kind : Kind) (value : ValueOf kind) (token : Lexeme) → IsTokenOf (Some origin) kind value token → IsSoundValue kind value
  token_sound Number16 value (CharData text) h = omega (arith, decimal_fits 65535 value text h)
  token_sound Number32 value (CharData text) h = omega (arith, decimal_fits 4294967295 value text h)
  token_sound Seconds value (CharData text) h = omega (arith, time_fits value text h)
  token_sound Address4 value (CharData text) h = omega (arith, ap (λ (l : List ℕ). length l) h.value)
  token_sound Address6 value (CharData text) h = eight_segments text (ipv6_segments value) h
  token_sound CompressibleName value token h = name-is_fqdn origin value token h
  token_sound WholeName value token h = name-is_fqdn origin value token h
  token_sound kind value token h = absurd h

  value_sound : (kind : Kind) (tokens : List Lexeme) (value : ValueOf kind) (rest : List Lexeme) → Takes (Some origin) kind tokens value rest → IsSoundValue kind value
  value_sound Strings tokens value rest h = (some_string h.0 h.1, strings_fit h.1)
  value_sound kind [] value rest h = absurd h
  value_sound kind (token ∷ tokens) value rest h = token_sound kind value token h.0

  pub values_sound : (kinds : List Kind) (tokens : List Lexeme) (values : Values kinds) → AreParsed (Some origin) kinds tokens values → AreSoundValues kinds values
  values_sound [] tokens values h = tt
  values_sound (kind ∷ kinds) tokens values h = (value_sound kind tokens values.0 h.0 h.1, values_sound kinds h.0 values.1 h.2)

-- ---- types

-- a type with a text form is one of those with fields, but OPT
pub record IsTextType (t : RecordType) : Type 0 where
  pub fits : type_number t < 2 ^ 16
  pub named : type_of (type_number t) ≡ t
  pub not_opt : t ≢ types.OPT
  pub not_tsig : t ≢ types.TSIG

-- whether a type is only a number
abbrev is_number : RecordType → Bool
is_number (types.Unknown number) = true
is_number t = false

-- a type with a text form has a name, and its number fits 16 bits
text_type_facts : (t : RecordType) → (if has_text (kinds_of_type t) then nat_lt (type_number t) 65536 && not (is_number t) else true) ≡ true
text_type_facts types.A = refl
text_type_facts t = refl

named_type : (t : RecordType) → not (is_number t) ≡ true → type_of (type_number t) ≡ t
named_type (types.Unknown number) is = absurd (cc)
named_type t is = refl

then_true : (a b : Bool) → (if a then b else true) ≡ true → a ≡ true → b ≡ true
then_true true b is has = is
then_true false b is has = absurd (cc)

text_type : (t : RecordType) → has_text (kinds_of_type t) ≡ true → IsTextType t
text_type t has =
    let both = and_parts (nat_lt (type_number t) 65536) (not (is_number t)) (then_true (has_text (kinds_of_type t)) (nat_lt (type_number t) 65536 && not (is_number t)) (text_type_facts t) has) in
    record {
      fits = grind (arith, nat_tests, both.0);
      named = named_type t both.1;
      not_opt = λ e. let none : has_text (kinds_of_type types.OPT) ≡ true = subst (λ (u : RecordType). has_text (kinds_of_type u) ≡ true) e has in absurd (cc);
      not_tsig = λ e. let none : has_text (kinds_of_type types.TSIG) ≡ true = subst (λ (u : RecordType). has_text (kinds_of_type u) ≡ true) e has in absurd (cc);
    }

pub parsed_type : (origin : Option DomainName) (t : RecordType) (tokens : List Lexeme) (d : RData) → IsParsedData origin t tokens d → IsTextType (data_type d)
parsed_type origin t tokens d p = text_type (data_type d) (ap (λ (u : RecordType). has_text (kinds_of_type u)) p.of_type ∙ p.has_text)

-- ---- data

has_fields : (d : RData) → data_kinds d ≡ kinds_of_type (data_type d) → HasFieldsOfType d
has_fields (of.Update0 t) e = absurd (some_kind t e)
has_fields d e = e

has_data : (d : RData) → data_kinds d ≡ kinds_of_type (data_type d) → is_update_data d ≡ false
has_data (of.Update0 t) e = absurd (some_kind t e)
has_data d e = refl

pub parsed_has_data : (origin : Option DomainName) (t : RecordType) (tokens : List Lexeme) (d : RData) → IsParsedData origin t tokens d → is_update_data d ≡ false
parsed_has_data origin t tokens d p = has_data d p.fields

pub parsed_sound : (origin : DomainName) (t : RecordType) (tokens : List Lexeme) (d : RData) → IsParsedData (Some origin) t tokens d → whole_len d < 2 ^ 16 → IsSoundData d
parsed_sound origin t tokens d p small =
    let type = parsed_type (Some origin) t tokens d p in
    record {
      values = values_sound origin (data_kinds d) tokens (data_values d) p.values;
      fields = has_fields d p.fields;
      type_fits = type.fits;
      type_named = type.named;
      fits = small;
    }
