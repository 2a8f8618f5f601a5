-- The line of a record that can be stated lexes to its fields, which parse to the record.
use Rattle.std.proofs.Common.{◌≡◌, ℕ, ◌+◌, ◌<◌, ◌^◌, Bool, true, false, not, ◌&&◌, ◌||◌, List, [], ◌∷◌, ◌++◌, Some, None, Ok, refl, sym, ap, subst, ◌∙◌, append_assoc, arith}
use Rattle.std.specs.Prelude.{codes, decimal, is_some}
use Rattle.std.specs.List.{AllByRecursion}
use Rattle.dns_wire.specs.codes.CodeText.{type_text}
use Rattle.dns_wire.specs.codes.RecordType.{type_number}
use Rattle.dns_wire.specs.declared.codes.dns_class.DNSClass.TheVariants as classes
use Rattle.dns_wire.specs.declared.codes.record_type.RecordType.{RecordType}
use Rattle.dns_names.specs.Name.{DomainName}
use Rattle.dns_names.specs.Print.{text_of_name}
use Rattle.dns_text.specs.declared.quotes.Quotes.{Quotes}
use Rattle.dns_text.specs.declared.quotes.Quotes.TheVariants.{ManyLines}
use Rattle.dns_text.specs.FrontGrammar.{feed, by_line_end, by_cut, by_stop}
use Rattle.dns_text.specs.Lexer.{LexerState, Lexeme, CharData, EOL, NextToken, at_token}
use Rattle.dns_text.specs.Tokens.{IsDatum, datum_text, data_text}
use Rattle.dns_text.proofs.DataLexing.{datum_next}
use Rattle.dns_text.proofs.PrintedData.{decimal_datum, name_datum}
use Rattle.dns_formats.specs.Data.{is_generic}
use Rattle.dns_formats.specs.Field.{fields_of}
use Rattle.dns_data.specs.Text.{has_text}
use Rattle.dns_data.specs.declared.rdata.RData.{RData}
use Rattle.dns_data.specs.declared.rdata.RData.TheVariants as of
use Rattle.dns_data.specs.rdata as rdata
use Rattle.dns_data.specs.rdata.{data_type, data_kinds, is_update_data, IsSoundData}
use Rattle.dns_data.proofs.PrintedLaws.{printed_tokens}
use Rattle.dns_records.specs.Record.{Record}
use Rattle.dns_zone_file.specs.declared.context.Context.{Context}
use Rattle.dns_zone_file.specs.declared.error.EntryFault.TheVariants.{InvalidOwner}
use Rattle.dns_zone_file.specs.declared.types.Types.{Types}
use Rattle.dns_zone_file.specs.declared.types.Types.TheVariants.{All}
use Rattle.dns_zone_file.specs.Context.{or_fault, ReadsRecord}
use Rattle.dns_zone_file.specs.Data.{is_meta_type, has_bytes, IsAnyData, in_values, ReadsIn}
use Rattle.dns_zone_file.specs.Entry.{LexesEntry, line_end, one_token, record_entry, entry_of}
use Rattle.dns_zone_file.specs.Fields.{Field, type_field, word_field, fields_in}
use Rattle.dns_zone_file.specs.Generate.{after_word}
use Rattle.dns_zone_file.specs.Printed.{record_line, HasText}
use Rattle.dns_zone_file.proofs.FieldsLaws.{with_field}
use Rattle.dns_zone_file.proofs.LineLaws.{at, past_blank, no_end, class_word, of_type, name_is, fqdn_some, line_tokens, line_is}
use Rattle.dns_durable.specs.zone_texts.Stated.{IsStatedData, IsStatedRecord}
use Rattle.dns_durable.proofs.GenericLaws.{generic_word, generic_more, text_is, tokens_are, short, generic_data}
use Rattle.dns_durable.proofs.SpecialLaws.{data_not_generic, no_directive}
use Rattle.dns_durable.proofs.TypeLaws.{word_of, ttl_is}

-- ---- lexing

-- the state at the start of a line, outside parentheses
abbrev pub line_start : ℕ → List ℕ → LexerState
line_start line text = record { text = text; line = line; entry = line; is_open = false; is_front = true; quotes = ManyLines }

ends : (p : LexerState) (rest : List ℕ) → p.is_open ≡ false → p.quotes ≡ ManyLines → NextToken (at p (10 ∷ rest) false) (Ok (Some EOL)) (line_start (p.line + 1) rest)
ends p rest closed many = subst (λ (q : Quotes). NextToken (at p (10 ∷ rest) false) (Ok (Some EOL)) (record (line_start (p.line + 1) rest) { quotes = q })) many (at_token (rw closed refl))

-- data up to the end of a line
pub data_lexes : (p : LexerState) (is_front : Bool) (datum : Lexeme) (more : List Lexeme) (rest : List ℕ) → AllByRecursion IsDatum (datum ∷ more) → p.is_open ≡ false → p.quotes ≡ ManyLines
    → LexesEntry (at p (data_text (datum ∷ more) ++ 10 ∷ rest) is_front) (datum ∷ more) (line_start (p.line + 1) rest)
data_lexes p is_front datum [] rest are closed many =
    one_token (datum_next p is_front datum (10 ∷ rest) are.0 (by_cut (by_line_end feed))) (no_end datum are.0) (line_end (ends p rest closed many))
data_lexes p is_front datum (next ∷ more) rest are closed many =
    let later : List ℕ = data_text (next ∷ more) ++ 10 ∷ rest in
    subst (λ (text : List ℕ). LexesEntry (at p text is_front) (datum ∷ next ∷ more) (line_start (p.line + 1) rest)) (sym (append_assoc (datum_text datum) (32 ∷ data_text (next ∷ more)) (10 ∷ rest)))
    (one_token (datum_next p is_front datum (32 ∷ later) are.0 (by_stop refl)) (no_end datum are.0) (past_blank (data_lexes p false next more rest are.1 closed many) p later refl))

-- ---- data

-- tokens of the text of data, which are read as the data
record IsStatement (d : RData) (token : Lexeme) (tokens : List Lexeme) : Type 0 where
  each : AllByRecursion IsDatum (token ∷ tokens)
  text : data_text (token ∷ tokens) ≡ rdata.data_text d
  read : (origin : DomainName) → IsAnyData origin (data_type d) (token ∷ tokens) d

no_bytes : (d : RData) (tokens : List Lexeme) → has_text (data_kinds d) ≡ true → is_update_data d ≡ false → is_generic tokens ≡ false → has_bytes (type_number (data_type d)) tokens ≡ false
no_bytes (of.A x) tokens has some e = ap (λ (b : Bool). not (is_meta_type 1) && (b || is_some (fields_of 1))) e
no_bytes (of.AAAA x) tokens has some e = ap (λ (b : Bool). not (is_meta_type 28) && (b || is_some (fields_of 28))) e
no_bytes (of.CNAME x) tokens has some e = ap (λ (b : Bool). not (is_meta_type 5) && (b || is_some (fields_of 5))) e
no_bytes (of.NS x) tokens has some e = ap (λ (b : Bool). not (is_meta_type 2) && (b || is_some (fields_of 2))) e
no_bytes (of.PTR x) tokens has some e = ap (λ (b : Bool). not (is_meta_type 12) && (b || is_some (fields_of 12))) e
no_bytes (of.MX x) tokens has some e = ap (λ (b : Bool). not (is_meta_type 15) && (b || is_some (fields_of 15))) e
no_bytes (of.SOA x) tokens has some e = ap (λ (b : Bool). not (is_meta_type 6) && (b || is_some (fields_of 6))) e
no_bytes (of.SRV x) tokens has some e = ap (λ (b : Bool). not (is_meta_type 33) && (b || is_some (fields_of 33))) e
no_bytes (of.TXT x) tokens has some e = ap (λ (b : Bool). not (is_meta_type 16) && (b || is_some (fields_of 16))) e
no_bytes (of.OPT o) tokens has some e = absurd (cc)
no_bytes (of.Update0 t) tokens has some e = absurd (cc)
no_bytes (of.Unknown code bytes) tokens has some e = absurd (cc)

by_values : (d : RData) → IsSoundData d → HasText d → is_update_data d ≡ false → (token : Lexeme) × (tokens : List Lexeme) × IsStatement d token tokens
by_values d sound has some =
    let t = printed_tokens d sound has.valid has.has_text (of_type d sound.fields some) in (
      t.0,
      t.1,
      record {
        each = t.2.each;
        text = t.2.text;
        read = λ origin. in_values (no_bytes d (t.0 ∷ t.1) has.has_text some (data_not_generic d t.0 t.1 t.2.each.0 t.2.text sound.values has.valid has.has_text some)) (t.2.parsed (Some origin));
      },
    )

statement : (d : RData) → IsSoundData d → IsStatedData d → is_update_data d ≡ false → (token : Lexeme) × (tokens : List Lexeme) × IsStatement d token tokens
statement (of.Unknown code bytes) sound is some = (
  generic_word,
  generic_more bytes,
  record {
    each = tokens_are bytes is.filled is.octets (short code bytes sound);
    text = text_is bytes is.filled is.octets;
    read = λ origin. generic_data origin code bytes sound is;
  },
)
statement (of.A a) sound is some = by_values (of.A a) sound is some
statement (of.AAAA a) sound is some = by_values (of.AAAA a) sound is some
statement (of.CNAME c) sound is some = by_values (of.CNAME c) sound is some
statement (of.NS n) sound is some = by_values (of.NS n) sound is some
statement (of.PTR p) sound is some = by_values (of.PTR p) sound is some
statement (of.MX m) sound is some = by_values (of.MX m) sound is some
statement (of.SOA s) sound is some = by_values (of.SOA s) sound is some
statement (of.SRV s) sound is some = by_values (of.SRV s) sound is some
statement (of.TXT t) sound is some = by_values (of.TXT t) sound is some
statement (of.OPT o) sound is some = by_values (of.OPT o) sound is some
statement (of.Update0 t) sound is some = by_values (of.Update0 t) sound is some

-- ---- fields

fields_are : (n : ℕ) (t : RecordType) (tokens : List Lexeme) → n < 2 ^ 32 → word_field All (type_text t) ≡ type_field t
    → fields_in All (CharData (decimal n) ∷ CharData (codes "IN") ∷ CharData (type_text t) ∷ tokens)
    ≡ Ok (record { ttl = Some n; dns_class = Some classes.IN; record_type = t; rdata = tokens })
fields_are n t tokens small e =
    ap (λ (f : Field). with_field All None None f (CharData (codes "IN") ∷ CharData (type_text t) ∷ tokens)) (ttl_is n small)
    ∙ ap (λ (f : Field). with_field All (Some n) (Some classes.IN) f tokens) e

-- ---- lines

-- the tokens of the line of a record, and what they parse to
pub record IsLine (line : ℕ) (r : Record) (rest : List ℕ) : Type 0 where
  pub tokens : List Lexeme
  pub lexed : LexesEntry (line_start line (record_line r.name r.ttl r.rdata ++ rest)) tokens (line_start (line + 1) rest)
  pub entry : entry_of tokens ≡ record_entry
  pub word : after_word tokens ≡ None
  pub reads : (c : Context) → c.types ≡ All → ReadsRecord c tokens (Some r.ttl) r

pub line_of : (line : ℕ) (r : Record) (rest : List ℕ) → IsStatedRecord r → IsLine line r rest
line_of line r rest is =
    let t = statement r.rdata is.sound is.rdata is.has_data in
    let type = word_of (data_type r.rdata) is.sound.type_fits is.sound.type_named in
    let owner = name_datum r.name is.octets (fqdn_some r.name.is_fqdn r.name.labels is.fqdn) in
    let small : r.ttl < 2 ^ 64 = omega (arith, is.ttl_fits) in
    record {
      tokens = line_tokens r t.0 t.1;
      lexed = subst (λ (text : List ℕ). LexesEntry (line_start line text) (line_tokens r t.0 t.1) (line_start (line + 1) rest)) (line_is r t.0 t.1 rest t.2.text)
          (data_lexes (line_start line []) true (CharData (text_of_name r.name)) (CharData (decimal r.ttl) ∷ CharData (codes "IN") ∷ CharData (type_text (data_type r.rdata)) ∷ t.0 ∷ t.1) rest
          (owner, (decimal_datum r.ttl small, (class_word, (type.datum, t.2.each)))) refl refl);
      entry = refl;
      word = no_directive r.name (CharData (decimal r.ttl) ∷ CharData (codes "IN") ∷ CharData (type_text (data_type r.rdata)) ∷ t.0 ∷ t.1) is.fqdn is.labels;
      reads = λ c all. record {
        fields = record { ttl = Some r.ttl; dns_class = Some classes.IN; record_type = data_type r.rdata; rdata = t.0 ∷ t.1 };
        owner = ap (or_fault InvalidOwner) (name_is c.origin r.name is.fqdn is.labels is.octets);
        between = subst (λ (types : Types). fields_in types (CharData (decimal r.ttl) ∷ CharData (codes "IN") ∷ CharData (type_text (data_type r.rdata)) ∷ t.0 ∷ t.1)
            ≡ Ok (record { ttl = Some r.ttl; dns_class = Some classes.IN; record_type = data_type r.rdata; rdata = t.0 ∷ t.1 }))
            (sym all) (fields_are r.ttl (data_type r.rdata) (t.0 ∷ t.1) is.ttl_fits type.field);
        stated_is = refl;
        rdata = subst (λ (types : Types). ReadsIn types c.origin (data_type r.rdata) (t.0 ∷ t.1) r.rdata) (sym all) (t.2.read c.origin);
        ttl = refl;
        dns_class = sym is.dns_class;
      };
    }
