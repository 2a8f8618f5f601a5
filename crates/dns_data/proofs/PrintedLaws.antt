-- The text of record data lexes to tokens that parse to the data.
use Rattle.std.proofs.Common.{◌≡◌, ℕ, ◌+◌, ◌-◌, ◌*◌, ◌/◌, ◌%◌, ◌<◌, ◌≤◌, ◌^◌, Bool, true, false, List, [], ◌∷◌, ◌++◌, length, Option, Some, None, Result, Ok, Err, refl, sym, ap, subst, ◌∙◌, arith, length-append}
use Rattle.std.specs.Prelude.{◌≢◌, nat_le, nat_lt, if◌then◌else◌}
use Rattle.std.specs.Fmt.{decimal}
use Rattle.std.specs.List.{AllByRecursion}
use Rattle.std.specs.declared.net.ip_addr.IpAddr.TheVariants.{V4, V6}
use Rattle.std.proofs.lemmas.Bool.Decides.{nat_tests}
use Rattle.std.proofs.lemmas.Fmt.{decimal_by_steps}
use Rattle.dns_wire.specs.codes.Decimal.{is_digit, digits_from, at_most, decimal_up_to}
use Rattle.dns_wire.specs.codes.Decimal as number
use Rattle.dns_wire.specs.declared.codes.record_type.RecordType.{RecordType}
use Rattle.dns_wire.specs.Name.{AreLabels}
use Rattle.dns_names.specs.Name.{DomainName}
use Rattle.dns_names.specs.Build.{complete, append_domain}
use Rattle.dns_names.specs.Print.{label_text, dotted_labels, text_of_labels, text_of_name, AreOctets}
use Rattle.dns_names.specs.declared.error.ParseError.{ParseError}
use Rattle.dns_names.proofs.RoundTrip.{printed_is_read}
use Rattle.dns_text.specs.CharacterString.{escaped_text}
use Rattle.dns_text.specs.Lexer.{Lexeme, CharData, QuotedString, LexerState}
use Rattle.dns_text.specs.Tokens.{IsDatum, LexesTo}
use Rattle.dns_text.specs.Tokens as lexed
use Rattle.dns_text.specs.Ttl.{Run, with_digit, runs, product, sum_of, seconds, time}
use Rattle.dns_text.proofs.AddressLaws.{text_spells}
use Rattle.dns_text.proofs.CharacterStringLaws as strings
use Rattle.dns_text.proofs.DataLexing.{data_lex_back}
use Rattle.dns_text.proofs.PrintedData.{name_datum, decimal_datum, address_datum, string_datum}
use Rattle.dns_data.specs.Field.{Kind, Number16, Number32, Seconds, Address4, Address6, CompressibleName, WholeName, Strings, Options, Opaque, ValueOf, Values, IsSoundValue, AreSoundValues}
use Rattle.dns_data.specs.Text.{as_name, name_of_token, string_of_token, IsTokenOf, AreTokensOf, no_string, one_string, Takes, AreParsed, value_text, values_text, strings_text, has_text, IsValidValue, AreValidValues}
use Rattle.dns_data.specs.declared.error.RDataParseError.{RDataParseError}
use Rattle.dns_data.specs.declared.error.RDataParseError.TheVariants.{InvalidToken, CharacterDataTooLong}
use Rattle.dns_data.specs.declared.rdata.RData.{RData}
use Rattle.dns_data.specs.declared.rdata.RData.TheVariants as of
use Rattle.dns_data.proofs.BoundedLaws.{is_bounded, IsBounded}
use Rattle.dns_data.proofs.LayoutLaws.{IsLayout, one_kind, bounded_kinds}
use Rattle.dns_data.proofs.DataLaws.{data_layout}
use Rattle.dns_data.proofs.ParsedLaws.{some_kind}
use Rattle.dns_data.specs.rdata.{data_type, data_kinds, data_values, data_text, kinds_of_type, IsSoundData, IsParsedData}

-- ---- decimal numbers

some_is : (m n : ℕ) → ◌≡◌ {A = Option ℕ} (Some m) (Some n) → m ≡ n
some_is m n e = cc

fits : (greatest n : ℕ) → n ≤ greatest → at_most greatest (Some n) ≡ Some n
fits greatest n le = by (nat_le n greatest) refl
  where
    by : (b : Bool) → nat_le n greatest ≡ b → (if b then Some n else None) ≡ Some n
    by true e = refl
    by false e = absurd (grind (arith, nat_tests))

digit : (r : ℕ) → r < 10 → is_digit (48 + r) ≡ true
digit r small = by (is_digit (48 + r)) refl
  where
    by : (b : Bool) → is_digit (48 + r) ≡ b → b ≡ true
    by true e = refl
    by false e = absurd (grind (arith, nat_tests))

one_digit : (m r : ℕ) → r < 10 → digits_from m ((48 + r) ∷ []) ≡ Some (10 * m + r)
one_digit m r small =
    ap (λ (b : Bool). if b then Some (10 * m + (48 + r - 48)) else None) (digit r small) ∙ ap (λ (n : ℕ). Some n) (omega arith)

digits_then : (k m : ℕ) (ds : List ℕ) (c : ℕ) → digits_from k ds ≡ Some m → digits_from k (ds ++ c ∷ []) ≡ digits_from m (c ∷ [])
digits_then k m [] c e = ap (λ (n : ℕ). digits_from n (c ∷ [])) (some_is k m e)
digits_then k m (d ∷ ds) c e = by (is_digit d) (λ f. digits_then (10 * k + (d - 48)) m ds c f) e
  where
    by : (b : Bool) → (digits_from (10 * k + (d - 48)) ds ≡ Some m → digits_from (10 * k + (d - 48)) (ds ++ c ∷ []) ≡ digits_from m (c ∷ []))
        → (if b then digits_from (10 * k + (d - 48)) ds else None) ≡ Some m
        → (if b then digits_from (10 * k + (d - 48)) (ds ++ c ∷ []) else None) ≡ digits_from m (c ∷ [])
    by true more f = more f
    by false more f = absurd (cc)

record Spelled (n : ℕ) (ds : List ℕ) : Type 0 where
  some : 0 < length ds
  digits : AllByRecursion (λ c. is_digit c ≡ true) ds
  value : digits_from 0 ds ≡ Some n

all_then : (P : ℕ → Type 0) (cs : List ℕ) (c : ℕ) → AllByRecursion P cs → P c → AllByRecursion P (cs ++ c ∷ [])
all_then P [] c all is = (is, tt)
all_then P (d ∷ cs) c all is = (all.0, all_then P cs c all.1 is)

spelled : (n : ℕ) → n < 2 ^ 64 → Spelled n (decimal n)
spelled = decimal_by_steps Spelled
    (λ n small. record { some = omega arith; digits = (digit n small, tt); value = one_digit 0 n small ∙ ap (λ (m : ℕ). Some m) (omega arith) })
    (λ n ds great s. record {
      some = omega (arith, length-append ds ((48 + n % 10) ∷ []));
      digits = all_then (λ c. is_digit c ≡ true) ds (48 + n % 10) s.digits (digit (n % 10) (omega arith));
      value = digits_then 0 (n / 10) ds (48 + n % 10) s.value ∙ one_digit (n / 10) (n % 10) (omega arith) ∙ ap (λ (m : ℕ). Some m) (omega arith);
    })

number_of : (n : ℕ) (ds : List ℕ) → Spelled n ds → number.decimal ds ≡ Some n
number_of n [] s = let some = s.some in absurd (omega arith)
number_of n (c ∷ cs) s = s.value

pub decimal_parses : (greatest n : ℕ) → n ≤ greatest → n < 2 ^ 64 → decimal_up_to greatest (decimal n) ≡ Some n
unfolding decimal_up_to
decimal_parses greatest n le small = ap (at_most greatest) (number_of n (decimal n) (spelled n small)) ∙ fits greatest n le

digit_run : (c : ℕ) (cs : List ℕ) → AllByRecursion (λ d. is_digit d ≡ true) (c ∷ cs) → runs (c ∷ cs) ≡ record { digits = c ∷ cs; unit = None } ∷ []
digit_run c [] all = ap (λ (b : Bool). if b then with_digit c [] else record { digits = []; unit = Some c } ∷ []) all.0
digit_run c (d ∷ ds) all =
    ap (λ (b : Bool). if b then with_digit c (runs (d ∷ ds)) else record { digits = []; unit = Some c } ∷ runs (d ∷ ds)) all.0
    ∙ ap (with_digit c) (digit_run d ds all.1)

-- digits without a unit are seconds
time_of : (n : ℕ) (ds : List ℕ) → n ≤ 4294967295 → Spelled n ds → time ds ≡ Some n
time_of n [] le s = let some = s.some in absurd (omega arith)
time_of n (c ∷ cs) le s =
    ap (λ (rs : List Run). at_most 4294967295 (seconds rs)) (digit_run c cs s.digits)
    ∙ ap (λ (o : Option ℕ). at_most 4294967295 (sum_of (product (Some 1) o) (Some 0))) s.value
    ∙ ap (λ (m : ℕ). at_most 4294967295 (Some m)) (omega arith)
    ∙ fits 4294967295 n le

pub time_parses : (n : ℕ) → n < 2 ^ 32 → time (decimal n) ≡ Some n
time_parses n small = time_of n (decimal n) (omega arith) (spelled n (omega arith))

-- ---- names

complete_fqdn : (name : DomainName) (origin : Option DomainName) → name.is_fqdn ≡ true → complete name origin ≡ Ok name
complete_fqdn name None is = refl
complete_fqdn name (Some origin) is = ap (λ (b : Bool). if b then Ok name else append_domain name origin) is

name_parses : (origin : Option DomainName) (name : DomainName) → name.is_fqdn ≡ true → AreLabels name.labels → AllByRecursion AreOctets name.labels
    → name_of_token origin (CharData (text_of_name name)) ≡ Ok name
name_parses origin name is are octets =
    ap (λ (r : Result DomainName ParseError). as_name (elim r as (λ _. Result DomainName ParseError) [ Ok found ↦ complete found origin | Err error ↦ Err error ])) (printed_is_read name are octets)
    ∙ ap as_name (complete_fqdn name origin is)

fqdn_some : (is_fqdn : Bool) (labels : List (List ℕ)) → is_fqdn ≡ true → 0 < length (text_of_labels is_fqdn labels)
fqdn_some true [] is = omega arith
fqdn_some true (label ∷ labels) is = omega (arith, length-append (label_text label) (dotted_labels labels ++ 46 ∷ []), length-append (dotted_labels labels) (46 ∷ []))
fqdn_some false labels is = absurd (cc)

-- ---- one token for each value but character strings

value_datum : (kind : Kind) (value : ValueOf kind) → is_bounded kind ≡ true → IsSoundValue kind value → IsValidValue kind value → IsDatum (CharData (value_text kind value))
value_datum Number16 n one sound valid = decimal_datum n (omega arith)
value_datum Number32 n one sound valid = decimal_datum n (omega arith)
value_datum Seconds n one sound valid = decimal_datum n (omega arith)
value_datum Address4 a one sound valid = address_datum (V4 a) valid
value_datum Address6 a one sound valid = address_datum (V6 a) valid
value_datum CompressibleName name one sound valid = name_datum name valid.1 (fqdn_some name.is_fqdn name.labels sound)
value_datum WholeName name one sound valid = name_datum name valid.1 (fqdn_some name.is_fqdn name.labels sound)
value_datum Strings value one sound valid = absurd (cc)
value_datum Options value one sound valid = absurd (cc)
value_datum Opaque value one sound valid = absurd (cc)

value_parses : (origin : Option DomainName) (kind : Kind) (value : ValueOf kind) → is_bounded kind ≡ true → IsSoundValue kind value → IsValidValue kind value
    → IsTokenOf origin kind value (CharData (value_text kind value))
value_parses origin Number16 n one sound valid = decimal_parses 65535 n (omega arith) (omega arith)
value_parses origin Number32 n one sound valid = decimal_parses 4294967295 n (omega arith) (omega arith)
value_parses origin Seconds n one sound valid = time_parses n sound
value_parses origin Address4 a one sound valid = text_spells (V4 a) valid
value_parses origin Address6 a one sound valid = text_spells (V6 a) valid
value_parses origin CompressibleName name one sound valid = name_parses origin name sound valid.0 valid.1
value_parses origin WholeName name one sound valid = name_parses origin name sound valid.0 valid.1
value_parses origin Strings value one sound valid = absurd (cc)
value_parses origin Options value one sound valid = absurd (cc)
value_parses origin Opaque value one sound valid = absurd (cc)

-- ---- the tokens of values

-- the tokens are data of an entry, with the text of the values, and parse to the values
record AreTokens (kinds : List Kind) (values : Values kinds) (tokens : List Lexeme) : Type 0 where
  each : AllByRecursion IsDatum tokens
  text : lexed.data_text tokens ≡ values_text kinds values
  parsed : (origin : Option DomainName) → AreParsed origin kinds tokens values

abbrev words : (kinds : List Kind) → Values kinds → List Lexeme
words [] values = []
words (kind ∷ kinds) values = CharData (value_text kind values.0) ∷ words kinds values.1

words_text : (kinds : List Kind) (values : Values kinds) → lexed.data_text (words kinds values) ≡ values_text kinds values
words_text [] values = refl
words_text (kind ∷ []) values = refl
words_text (kind ∷ next ∷ kinds) values = ap (λ (text : List ℕ). value_text kind values.0 ++ 32 ∷ text) (words_text (next ∷ kinds) values.1)

words_datum : (kinds : List Kind) (values : Values kinds) → AllByRecursion IsBounded kinds → AreSoundValues kinds values → AreValidValues kinds values
    → AllByRecursion IsDatum (words kinds values)
words_datum [] values ones sound valid = tt
words_datum (kind ∷ kinds) values ones sound valid = (value_datum kind values.0 ones.0 sound.0 valid.0, words_datum kinds values.1 ones.1 sound.1 valid.1)

taken : (origin : Option DomainName) (kind : Kind) (token : Lexeme) (tokens : List Lexeme) (value : ValueOf kind) → is_bounded kind ≡ true → IsTokenOf origin kind value token
    → Takes origin kind (token ∷ tokens) value tokens
taken origin Strings token tokens value one is = absurd (cc)
taken origin kind token tokens value one is = (is, refl)

words_parse : (origin : Option DomainName) (kinds : List Kind) (values : Values kinds) → AllByRecursion IsBounded kinds → AreSoundValues kinds values → AreValidValues kinds values
    → AreParsed origin kinds (words kinds values) values
words_parse origin [] values ones sound valid = refl
words_parse origin (kind ∷ kinds) values ones sound valid = (
  words kinds values.1,
  taken origin kind (CharData (value_text kind values.0)) (words kinds values.1) values.0 ones.0 (value_parses origin kind values.0 ones.0 sound.0 valid.0),
  words_parse origin kinds values.1 ones.1 sound.1 valid.1,
)

are_words : (kinds : List Kind) (values : Values kinds) → AllByRecursion IsBounded kinds → AreSoundValues kinds values → AreValidValues kinds values
    → AreTokens kinds values (words kinds values)
are_words kinds values ones sound valid =
    record { each = words_datum kinds values ones sound valid; text = words_text kinds values; parsed = λ origin. words_parse origin kinds values ones sound valid }

-- ---- character strings

abbrev quoted : List (List ℕ) → List Lexeme
quoted [] = []
quoted (string ∷ strings) = QuotedString (escaped_text string) ∷ quoted strings

quoted_datum : (strings : List (List ℕ)) → AllByRecursion AreOctets strings → AllByRecursion IsDatum (quoted strings)
quoted_datum [] are = tt
quoted_datum (string ∷ strings) are = (string_datum string are.0, quoted_datum strings are.1)

quoted_is : (strings : List (List ℕ)) → lexed.data_text (quoted strings) ≡ strings_text strings
quoted_is [] = refl
quoted_is (string ∷ []) = refl
quoted_is (string ∷ next ∷ strings) = ap (λ (text : List ℕ). lexed.datum_text (QuotedString (escaped_text string)) ++ 32 ∷ text) (quoted_is (next ∷ strings))

string_parses : (string : List ℕ) → length string < 256 → AreOctets string → string_of_token (QuotedString (escaped_text string)) ≡ Ok string
string_parses string short are =
    ap (λ (o : Option (List ℕ)). elim o as (λ _. Result (List ℕ) RDataParseError) [ None ↦ Err InvalidToken | Some s ↦ if nat_lt 255 (length s) then Err CharacterDataTooLong else Ok s ]) (strings.printed_is_read string are)
    ∙ by (nat_lt 255 (length string)) refl
  where
    by : (b : Bool) → nat_lt 255 (length string) ≡ b → ◌≡◌ {A = Result (List ℕ) RDataParseError} (if b then Err CharacterDataTooLong else Ok string) (Ok string)
    by true e = absurd (grind (arith, nat_tests))
    by false e = refl

quoted_parse : (strings : List (List ℕ)) → AllByRecursion (λ string. length string < 256) strings → AllByRecursion AreOctets strings → AreTokensOf strings (quoted strings)
quoted_parse [] short are = no_string
quoted_parse (string ∷ strings) short are = one_string (string_parses string short.0 are.0) (quoted_parse strings short.1 are.1)

quoted_some : (strings : List (List ℕ)) → strings ≢ [] → quoted strings ≢ []
quoted_some [] some e = some refl
quoted_some (string ∷ strings) some e = absurd (cc)

are_quoted : (strings : List (List ℕ)) → IsSoundValue Strings strings → AllByRecursion AreOctets strings → AreTokens (Strings ∷ []) (strings, tt) (quoted strings)
are_quoted strings sound are = record {
  each = quoted_datum strings are;
  text = quoted_is strings;
  parsed = λ origin. ([], (quoted_some strings sound.0, quoted_parse strings sound.1 are, refl), refl);
}

-- ---- data

-- the values have a token, and their tokens parse to them
abbrev ValuesTokens : (kinds : List Kind) → Values kinds → Type 0
ValuesTokens kinds values = (token : Lexeme) × (tokens : List Lexeme) × AreTokens kinds values (token ∷ tokens)

-- the data has a token, and its tokens parse to it
abbrev HasTokens : RData → Type 0
HasTokens d = (token : Lexeme) × (tokens : List Lexeme) × AreTokens (data_kinds d) (data_values d) (token ∷ tokens) × (data_text d ≡ values_text (data_kinds d) (data_values d))

strings_tokens : (strings : List (List ℕ)) → IsSoundValue Strings strings → AllByRecursion AreOctets strings → ValuesTokens (Strings ∷ []) (strings, tt)
strings_tokens [] sound are = absurd (sound.0 refl)
strings_tokens (string ∷ strings) sound are = (QuotedString (escaped_text string), quoted strings, are_quoted (string ∷ strings) sound are)

one_tokens : (kind : Kind) (values : Values (kind ∷ [])) → AreSoundValues (kind ∷ []) values → AreValidValues (kind ∷ []) values → has_text (kind ∷ []) ≡ true → ValuesTokens (kind ∷ []) values
one_tokens Strings values sound valid text = strings_tokens values.0 sound.0 valid.0
one_tokens Options values sound valid text = absurd (cc)
one_tokens Opaque values sound valid text = absurd (cc)
one_tokens kind values sound valid text = (_, _, are_words (kind ∷ []) values (refl, tt) sound valid)

values_tokens : {kinds : List Kind} → IsLayout kinds → (values : Values kinds) → ([] ≡ kinds → ⊥) → AreSoundValues kinds values → AreValidValues kinds values → has_text kinds ≡ true → ValuesTokens kinds values
values_tokens (one_kind {kind}) values some sound valid text = one_tokens kind values sound valid text
values_tokens (bounded_kinds {kinds = []} are few) values some sound valid text = absurd (some refl)
values_tokens (bounded_kinds {kinds = kind ∷ kinds} are few) values some sound valid text = (_, _, are_words (kind ∷ kinds) values are sound valid)

text_is : (d : RData) → ([] ≡ data_kinds d → ⊥) → has_text (data_kinds d) ≡ true → data_text d ≡ values_text (data_kinds d) (data_values d)
text_is (of.OPT o) some text = absurd (cc)
text_is (of.Update0 t) some text = absurd (some refl)
text_is (of.Unknown code bytes) some text = absurd (cc)
text_is d some text = refl

has_tokens : (d : RData) → AreSoundValues (data_kinds d) (data_values d) → AreValidValues (data_kinds d) (data_values d) → has_text (data_kinds d) ≡ true → data_kinds d ≡ kinds_of_type (data_type d) → HasTokens d
has_tokens d sound valid text fields =
    let some : [] ≡ data_kinds d → ⊥ = λ e. some_kind (data_type d) (e ∙ fields) in
    let tokens = values_tokens (data_layout d) (data_values d) some sound valid text in
    (tokens.0, tokens.1, tokens.2, text_is d some text)

-- data of a type with a text form, parsed from tokens of its values
of_tokens : (d : RData) (origin : Option DomainName) (tokens : List Lexeme) → IsSoundData d → has_text (data_kinds d) ≡ true → data_kinds d ≡ kinds_of_type (data_type d)
    → AreParsed origin (data_kinds d) tokens (data_values d) → IsParsedData origin (data_type d) tokens d
of_tokens d origin tokens sound has fields parsed = record {
  has_text = subst (λ (u : RecordType). has_text (kinds_of_type u) ≡ true) (sym sound.type_named) (subst (λ (kinds : List Kind). has_text kinds ≡ true) fields has);
  of_type = sym sound.type_named;
  fields = fields;
  values = parsed;
}

-- the text of data is the text of tokens that parse to the data, whatever the origin is
pub record IsTextOf (d : RData) (token : Lexeme) (tokens : List Lexeme) : Type 0 where
  pub each : AllByRecursion IsDatum (token ∷ tokens)
  pub text : lexed.data_text (token ∷ tokens) ≡ data_text d
  pub parsed : (origin : Option DomainName) → IsParsedData origin (data_type d) (token ∷ tokens) d

pub printed_tokens : (d : RData) → IsSoundData d → AreValidValues (data_kinds d) (data_values d) → has_text (data_kinds d) ≡ true → data_kinds d ≡ kinds_of_type (data_type d)
    → (token : Lexeme) × (tokens : List Lexeme) × IsTextOf d token tokens
printed_tokens d sound valid has fields =
    let t = has_tokens d sound.values valid has fields in (
      t.0,
      t.1,
      record { each = t.2.each; text = t.2.text ∙ sym t.3; parsed = λ origin. of_tokens d origin (t.0 ∷ t.1) sound has fields (t.2.parsed origin) },
    )

pub printed_parses : (d : RData) (p : LexerState) → IsSoundData d → AreValidValues (data_kinds d) (data_values d) → has_text (data_kinds d) ≡ true → data_kinds d ≡ kinds_of_type (data_type d)
    → p.is_open ≡ false → p.text ≡ data_text d
    → (tokens : List Lexeme) × LexesTo p tokens (record p { text = []; is_front = false }) × ((origin : Option DomainName) → IsParsedData origin (data_type d) tokens d)
printed_parses d p sound valid has fields closed e =
    let t = printed_tokens d sound valid has fields in
    (t.0 ∷ t.1, data_lex_back p t.0 t.1 t.2.each closed (e ∙ sym t.2.text), t.2.parsed)
