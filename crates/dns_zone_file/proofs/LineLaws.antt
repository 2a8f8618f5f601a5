-- The line of a record lexes to its fields, which parse to the record.
use Rattle.std.proofs.Common.{◌≡◌, ◌≢◌, ℕ, ◌+◌, ◌<◌, ◌^◌, Bool, true, false, ◌&&◌, if◌then◌else◌, List, [], ◌∷◌, ◌++◌, length, get_or, Option, Some, None, Result, Ok, Err, refl, sym, ap, subst, ◌∙◌, append_assoc, arith, length-append}
use Rattle.std.specs.Prelude.{codes, decimal, nat_lt}
use Rattle.std.specs.List.{AllByRecursion}
use Rattle.std.specs.Int.{IsInRange}
use Rattle.std.proofs.lemmas.Bool.Decides.{nat_tests}
use Rattle.std.proofs.lemmas.Fmt.{decimal_is_IsNumeral, decimal_nonempty}
use Rattle.std.proofs.lemmas.Str.Parse.{digit_at}
use Rattle.dns_wire.specs.codes.CodeText.{type_text}
use Rattle.dns_wire.specs.codes.Decimal.{is_digit}
use Rattle.dns_wire.specs.declared.codes.dns_class.DNSClass.TheVariants as classes
use Rattle.dns_wire.specs.declared.codes.record_type.RecordType.{RecordType}
use Rattle.dns_wire.specs.declared.codes.record_type.RecordType.TheVariants as types
use Rattle.dns_wire.specs.Name.{AreLabels}
use Rattle.dns_names.specs.Name.{DomainName}
use Rattle.dns_names.specs.Build.{complete, append_domain}
use Rattle.dns_names.specs.Print.{label_text, dotted_labels, text_of_labels, text_of_name, AreOctets}
use Rattle.dns_names.specs.declared.error.ParseError.{ParseError}
use Rattle.dns_names.proofs.RoundTrip.{printed_is_read}
use Rattle.dns_text.specs.declared.quotes.Quotes.{Quotes}
use Rattle.dns_text.specs.declared.quotes.Quotes.TheVariants.{OneLine}
use Rattle.dns_text.specs.Front.{Bare, stops}
use Rattle.dns_text.specs.FrontGrammar.{feed, by_line_end, by_cut, by_stop}
use Rattle.dns_text.specs.Lexer.{LexerState, Lexeme, CharData, QuotedString, EOL, word_token, NextToken, past_nothing, at_token}
use Rattle.dns_text.specs.Tokens.{IsRun, no_character, one_character, IsDatum, datum_text, data_text}
use Rattle.dns_text.specs.Ttl.{time}
use Rattle.dns_text.specs.declared.error.LexerError.{LexerError}
use Rattle.dns_text.proofs.DataLexing.{datum_next}
use Rattle.dns_text.proofs.PrintedData.{decimal_datum, name_datum}
use Rattle.dns_text.proofs.TokenGrammarLaws.{unequal}
use Rattle.dns_data.specs.Text.{has_text}
use Rattle.dns_data.specs.declared.rdata.RData.{RData}
use Rattle.dns_data.specs.declared.rdata.RData.TheVariants as of
use Rattle.dns_data.specs.rdata as rdata
use Rattle.dns_data.specs.rdata.{data_type, data_kinds, kinds_of_type, is_update_data, HasFieldsOfType}
use Rattle.dns_data.proofs.PrintedLaws.{time_parses, printed_tokens}
use Rattle.dns_records.specs.Record.{Record}
use Rattle.dns_zone_file.specs.declared.context.Context.{Context}
use Rattle.dns_zone_file.specs.declared.error.EntryFault.TheVariants.{InvalidOwner}
use Rattle.dns_zone_file.specs.Context.{or_fault, ReadsRecord}
use Rattle.dns_zone_file.specs.Entry.{LexesEntry, line_end, text_end, one_token, record_entry, entry_of}
use Rattle.dns_zone_file.specs.Fields.{if_ok, name_of, Field, ttl_field, type_field, begins_with_digit, ttl_or_bad, field_of_word, fields_in, fields_of}
use Rattle.dns_zone_file.specs.declared.types.Types.{Types}
use Rattle.dns_zone_file.specs.declared.types.Types.TheVariants.{Nine}
use Rattle.dns_zone_file.specs.Data.{ReadsIn}
use Rattle.dns_zone_file.specs.Printed.{record_line, IsPrintableRecord}
use Rattle.dns_zone_file.proofs.FieldsLaws.{with_field}
use Rattle.dns_zone_file.proofs.RecordSetsLaws.{both}

-- ---- lexing

abbrev pub at : LexerState → List ℕ → Bool → LexerState
at p text is_front = record p { text = text; is_front = is_front }

-- the state at the start of a line, outside parentheses
abbrev pub line_start : ℕ → List ℕ → LexerState
line_start line text = record { text = text; line = line; entry = line; is_open = false; is_front = true; quotes = OneLine }

blank : {q end : LexerState} {found : Result (Option Lexeme) LexerError} → NextToken q found end → (p : LexerState) (rest : List ℕ) → q ≡ at p rest false → NextToken (at p (32 ∷ rest) false) found end
blank {end = end} {found = found} next p rest e = past_nothing refl (subst (λ (s : LexerState). NextToken s found end) e next)

pub past_blank : {q end : LexerState} {tokens : List Lexeme} → LexesEntry q tokens end → (p : LexerState) (rest : List ℕ) → q ≡ at p rest false → LexesEntry (at p (32 ∷ rest) false) tokens end
past_blank (line_end next) p rest e = line_end (blank next p rest e)
past_blank (text_end next some ends) p rest e = text_end (blank next p rest e) some ends
past_blank (one_token next some more) p rest e = one_token (blank next p rest e) some more

pub no_end : (datum : Lexeme) → IsDatum datum → datum ≢ EOL
no_end (CharData word) is = λ e. absurd (cc)
no_end (QuotedString string) is = λ e. absurd (cc)
no_end _ is = absurd is

ends : (p : LexerState) (rest : List ℕ) → p.is_open ≡ false → p.quotes ≡ OneLine → NextToken (at p (10 ∷ rest) false) (Ok (Some EOL)) (line_start (p.line + 1) rest)
ends p rest closed one = subst (λ (q : Quotes). NextToken (at p (10 ∷ rest) false) (Ok (Some EOL)) (record (line_start (p.line + 1) rest) { quotes = q })) one (at_token (rw closed refl))

-- data up to the end of a line
pub data_lexes : (p : LexerState) (is_front : Bool) (datum : Lexeme) (more : List Lexeme) (rest : List ℕ) → AllByRecursion IsDatum (datum ∷ more) → p.is_open ≡ false → p.quotes ≡ OneLine
    → LexesEntry (at p (data_text (datum ∷ more) ++ 10 ∷ rest) is_front) (datum ∷ more) (line_start (p.line + 1) rest)
data_lexes p is_front datum [] rest are closed one =
    one_token (datum_next p is_front datum (10 ∷ rest) are.0 (by_cut (by_line_end feed))) (no_end datum are.0) (line_end (ends p rest closed one))
data_lexes p is_front datum (next ∷ more) rest are closed one =
    let later : List ℕ = data_text (next ∷ more) ++ 10 ∷ rest in
    subst (λ (text : List ℕ). LexesEntry (at p text is_front) (datum ∷ next ∷ more) (line_start (p.line + 1) rest)) (sym (append_assoc (datum_text datum) (32 ∷ data_text (next ∷ more)) (10 ∷ rest)))
    (one_token (datum_next p is_front datum (32 ∷ later) are.0 (by_stop refl)) (no_end datum are.0) (past_blank (data_lexes p false next more rest are.1 closed one) p later refl))

-- ---- words in capitals

abbrev is_capital : ℕ → Bool
is_capital c = nat_lt 64 c && nat_lt c 91

abbrev are_capitals : List ℕ → Bool
are_capitals [] = true
are_capitals (c ∷ cs) = is_capital c && are_capitals cs

above : (c : ℕ) → is_capital c ≡ true → 64 < c
above c e = grind (arith, nat_tests)

stops_not : (c : ℕ) → 64 < c → stops Bare c ≡ false
stops_not c is =
    let a : c ≢ 32 = omega arith in
    let b : c ≢ 9 = omega arith in
    let s : c ≢ 59 = omega arith in
    let d : c ≢ 34 = omega arith in
    let e : c ≢ 40 = omega arith in
    let f : c ≢ 41 = omega arith in
    rw (unequal c 32 a, unequal c 9 b, unequal c 59 s, unequal c 34 d, unequal c 40 e, unequal c 41 f) refl

no_backslash : (c : ℕ) → is_capital c ≡ true → c ≢ 92
no_backslash c e = grind (arith, nat_tests)

capital_run : (word : List ℕ) → are_capitals word ≡ true → IsRun Bare word
capital_run [] e = no_character
capital_run (c ∷ cs) e =
    let are = both (is_capital c) (are_capitals cs) e in
    let high : 64 < c = above c are.0 in
    one_character (omega arith) (omega arith) (stops_not c high) (no_backslash c are.0) (capital_run cs are.1)

capital_word : (word : List ℕ) → are_capitals word ≡ true → 0 < length word → word_token true word ≡ CharData word → IsDatum (CharData word)
capital_word word e some plain = (some, capital_run word e, plain)

pub class_word : IsDatum (CharData (codes "IN"))
class_word = capital_word (codes "IN") refl (omega arith) refl

-- ---- types

-- the name of a type is a word, and neither a TTL nor a class
pub record IsTypeWord (t : RecordType) : Type 0 where
  pub word : IsDatum (CharData (type_text t))
  pub field : field_of_word (type_text t) ≡ type_field t

by_name : (t : RecordType) → are_capitals (type_text t) ≡ true → 0 < length (type_text t) → word_token true (type_text t) ≡ CharData (type_text t)
    → field_of_word (type_text t) ≡ type_field t → IsTypeWord t
by_name t e some plain field = record { word = capital_word (type_text t) e some plain; field = field }

pub type_word : (d : RData) → has_text (data_kinds d) ≡ true → is_update_data d ≡ false → IsTypeWord (data_type d)
type_word (of.A a) has some = by_name types.A refl (omega arith) refl refl
type_word (of.AAAA a) has some = by_name types.AAAA refl (omega arith) refl refl
type_word (of.CNAME c) has some = by_name types.CNAME refl (omega arith) refl refl
type_word (of.NS n) has some = by_name types.NS refl (omega arith) refl refl
type_word (of.PTR p) has some = by_name types.PTR refl (omega arith) refl refl
type_word (of.MX m) has some = by_name types.MX refl (omega arith) refl refl
type_word (of.SOA s) has some = by_name types.SOA refl (omega arith) refl refl
type_word (of.SRV s) has some = by_name types.SRV refl (omega arith) refl refl
type_word (of.TXT t) has some = by_name types.TXT refl (omega arith) refl refl
type_word (of.OPT o) has some = absurd (cc)
type_word (of.Update0 t) has some = absurd (cc)
type_word (of.Unknown code bytes) has some = absurd (cc)

-- data that is not absent has the fields of its type
pub of_type : (d : RData) → HasFieldsOfType d → is_update_data d ≡ false → data_kinds d ≡ kinds_of_type (data_type d)
of_type (of.A a) e some = e
of_type (of.AAAA a) e some = e
of_type (of.CNAME c) e some = e
of_type (of.NS n) e some = e
of_type (of.PTR p) e some = e
of_type (of.MX m) e some = e
of_type (of.SOA s) e some = e
of_type (of.SRV s) e some = e
of_type (of.TXT t) e some = e
of_type (of.OPT o) e some = e
of_type (of.Update0 t) e some = absurd (cc)
of_type (of.Unknown code bytes) e some = e

-- ---- fields

digit_first : (text : List ℕ) → 0 < length text → IsInRange 48 57 (get_or text 0 0) → begins_with_digit text ≡ true
digit_first [] some digit = absurd (omega arith)
digit_first (c ∷ cs) some digit = by (is_digit c) refl
  where
    by : (b : Bool) → is_digit c ≡ b → b ≡ true
    by true e = refl
    by false e = absurd (grind (arith, nat_tests))

ttl_digit : (n : ℕ) → n < 2 ^ 64 → begins_with_digit (decimal n) ≡ true
ttl_digit n fits =
    let some = decimal_nonempty n fits in digit_first (decimal n) some (digit_at (decimal n) 0 (decimal_is_IsNumeral n fits).0.1 some)

pub ttl_is : (n : ℕ) → n < 2 ^ 32 → field_of_word (decimal n) ≡ ttl_field n
ttl_is n small =
    pick (begins_with_digit (decimal n)) (ttl_or_bad (time (decimal n))) _ (ttl_digit n (omega arith)) ∙ ap ttl_or_bad (time_parses n small)
  where
    pick : (b : Bool) (x y : Field) → b ≡ true → (if b then x else y) ≡ x
    pick true x y e = refl
    pick false x y e = absurd (cc)

fields_are : (n : ℕ) (t : RecordType) (tokens : List Lexeme) → n < 2 ^ 32 → field_of_word (type_text t) ≡ type_field t
    → fields_of (CharData (decimal n) ∷ CharData (codes "IN") ∷ CharData (type_text t) ∷ tokens)
    ≡ Ok (record { ttl = Some n; dns_class = Some classes.IN; record_type = t; rdata = tokens })
fields_are n t tokens small e =
    ap (λ (f : Field). with_field Nine None None f (CharData (codes "IN") ∷ CharData (type_text t) ∷ tokens)) (ttl_is n small)
    ∙ ap (λ (f : Field). with_field Nine (Some n) (Some classes.IN) f tokens) e

pub name_is : (origin name : DomainName) → name.is_fqdn ≡ true → AreLabels name.labels → AllByRecursion AreOctets name.labels → name_of origin (CharData (text_of_name name)) ≡ Some name
name_is origin name is are octets =
    ap (λ (r : Result DomainName ParseError). if_ok (elim r as (λ _. Result DomainName ParseError) [ Ok base ↦ complete base (Some origin) | Err error ↦ Err error ])) (printed_is_read name are octets)
    ∙ ap (λ (b : Bool). if_ok (if b then Ok name else append_domain name origin)) is

-- ---- lines

pub fqdn_some : (is_fqdn : Bool) (labels : List (List ℕ)) → is_fqdn ≡ true → 0 < length (text_of_labels is_fqdn labels)
fqdn_some true [] is = omega arith
fqdn_some true (label ∷ labels) is = omega (arith, length-append (label_text label) (dotted_labels labels ++ 46 ∷ []), length-append (dotted_labels labels) (46 ∷ []))
fqdn_some false labels is = absurd (cc)

-- the tokens of the line of a record
abbrev pub line_tokens : Record → Lexeme → List Lexeme → List Lexeme
line_tokens r token tokens =
    CharData (text_of_name r.name) ∷ CharData (decimal r.ttl) ∷ CharData (codes "IN") ∷ CharData (type_text (data_type r.rdata)) ∷ token ∷ tokens

joined : (o n t d rest : List ℕ) → (o ++ 32 ∷ (n ++ 32 ∷ (codes "IN" ++ 32 ∷ (t ++ 32 ∷ d)))) ++ 10 ∷ rest ≡ (o ++ 32 ∷ n ++ codes " IN " ++ t ++ 32 ∷ d ++ 10 ∷ []) ++ rest
joined o n t d rest =
    ap (λ (l : List ℕ). l ++ 10 ∷ rest) (sym (append_assoc (o ++ 32 ∷ n ++ codes " IN ") t (32 ∷ d) ∙ append_assoc (o ++ 32 ∷ n) (codes " IN ") (t ++ 32 ∷ d) ∙ append_assoc o (32 ∷ n) (codes " IN " ++ (t ++ 32 ∷ d))))
    ∙ sym (append_assoc (o ++ 32 ∷ n ++ codes " IN " ++ t ++ 32 ∷ d) (10 ∷ []) rest)

pub line_is : (r : Record) (token : Lexeme) (tokens : List Lexeme) (rest : List ℕ) → data_text (token ∷ tokens) ≡ rdata.data_text r.rdata
    → data_text (line_tokens r token tokens) ++ 10 ∷ rest ≡ record_line r.name r.ttl r.rdata ++ rest
line_is r token tokens rest e =
    ap (λ (d : List ℕ). (text_of_name r.name ++ 32 ∷ (decimal r.ttl ++ 32 ∷ (codes "IN" ++ 32 ∷ (type_text (data_type r.rdata) ++ 32 ∷ d)))) ++ 10 ∷ rest) e
    ∙ joined (text_of_name r.name) (decimal r.ttl) (type_text (data_type r.rdata)) (rdata.data_text r.rdata) rest

-- the tokens of the line of a record, and what they parse to
pub record IsLine (line : ℕ) (r : Record) (rest : List ℕ) : Type 0 where
  pub tokens : List Lexeme
  pub lexed : LexesEntry (line_start line (record_line r.name r.ttl r.rdata ++ rest)) tokens (line_start (line + 1) rest)
  pub entry : entry_of tokens ≡ record_entry
  pub reads : (c : Context) → c.types ≡ Nine → ReadsRecord c tokens (Some r.ttl) r

pub line_of : (line : ℕ) (r : Record) (rest : List ℕ) → IsPrintableRecord r → IsLine line r rest
line_of line r rest is =
    let d = is.rdata in
    let t = printed_tokens r.rdata d.sound d.valid d.has_text (of_type r.rdata d.sound.fields d.has_data) in
    let type = type_word r.rdata d.has_text d.has_data in
    let owner = name_datum r.name is.octets (fqdn_some r.name.is_fqdn r.name.labels is.fqdn) in
    let small : r.ttl < 2 ^ 64 = omega (arith, is.ttl_fits) in
    record {
      tokens = line_tokens r t.0 t.1;
      lexed = subst (λ (text : List ℕ). LexesEntry (line_start line text) (line_tokens r t.0 t.1) (line_start (line + 1) rest)) (line_is r t.0 t.1 rest t.2.text)
          (data_lexes (line_start line []) true (CharData (text_of_name r.name)) (CharData (decimal r.ttl) ∷ CharData (codes "IN") ∷ CharData (type_text (data_type r.rdata)) ∷ t.0 ∷ t.1) rest
          (owner, (decimal_datum r.ttl small, (class_word, (type.word, t.2.each)))) refl refl);
      entry = refl;
      reads = λ c nine. record {
        fields = record { ttl = Some r.ttl; dns_class = Some classes.IN; record_type = data_type r.rdata; rdata = t.0 ∷ t.1 };
        owner = ap (or_fault InvalidOwner) (name_is c.origin r.name is.fqdn is.labels is.octets);
        between = subst (λ (types : Types). fields_in types (CharData (decimal r.ttl) ∷ CharData (codes "IN") ∷ CharData (type_text (data_type r.rdata)) ∷ t.0 ∷ t.1)
            ≡ Ok (record { ttl = Some r.ttl; dns_class = Some classes.IN; record_type = data_type r.rdata; rdata = t.0 ∷ t.1 }))
            (sym nine) (fields_are r.ttl (data_type r.rdata) (t.0 ∷ t.1) is.ttl_fits type.field);
        stated_is = refl;
        rdata = subst (λ (types : Types). ReadsIn types c.origin (data_type r.rdata) (t.0 ∷ t.1) r.rdata) (sym nine) (t.2.parsed (Some c.origin));
        ttl = refl;
        dns_class = sym is.dns_class;
      };
    }
