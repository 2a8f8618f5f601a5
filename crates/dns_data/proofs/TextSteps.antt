-- The fields of record data, one after another.
use Rattle.std.proofs.Common.{◌≡◌, true, List, [], Option, sym, ap, subst, ◌∙◌}
use Rattle.std.specs.Prelude.{◌≢◌}
use Rattle.dns_wire.specs.codes.RecordType.{type_number, type_of}
use Rattle.dns_wire.specs.declared.codes.record_type.RecordType.{RecordType}
use Rattle.dns_names.specs.Name.{DomainName}
use Rattle.dns_text.specs.Lexer.{Lexeme}
use Rattle.dns_data.specs.Text.{AreParsed, RefusesTokens, tokens_left, has_text}
use Rattle.dns_data.specs.rdata.{data_type, data_kinds, data_values, kinds_of_type, IsParsedData, RefusesText, bad_tokens}
use Rattle.dns_data.specs.declared.rdata.RData.{RData}
use Rattle.dns_data.specs.declared.error.RDataParseError.{RDataParseError}
use Rattle.dns_data.specs.declared.error.RDataParseError.TheVariants.{UnexpectedToken}

pub left_over : {origin : Option DomainName} {tokens : List Lexeme} {error : RDataParseError} → (tokens ≢ []) × (error ≡ UnexpectedToken) → RefusesTokens origin [] tokens error
left_over {origin} {tokens} p = subst (λ (e : RDataParseError). RefusesTokens origin [] tokens e) (sym p.1) (tokens_left p.0)

-- ---- data of a type

pub parsed_as : {origin : Option DomainName} {record_type : RecordType} {tokens : List Lexeme} {d : RData} (old : List Lexeme) → old ≡ tokens → type_of (type_number record_type) ≡ data_type d
    → has_text (kinds_of_type (data_type d)) ≡ true → data_kinds d ≡ kinds_of_type (data_type d) → AreParsed origin (data_kinds d) old (data_values d) → IsParsedData origin record_type tokens d
parsed_as {origin} {record_type} {tokens} {d} old same is has fields values = record {
  has_text = ap (λ (t : RecordType). has_text (kinds_of_type t)) is ∙ has;
  of_type = sym is;
  fields = fields;
  values = subst (λ (l : List Lexeme). AreParsed origin (data_kinds d) l (data_values d)) same values;
}

pub refused_as : {origin : Option DomainName} {record_type : RecordType} {tokens : List Lexeme} {error : RDataParseError} (t : RecordType) (old : List Lexeme) → old ≡ tokens → type_of (type_number record_type) ≡ t
    → has_text (kinds_of_type t) ≡ true → RefusesTokens origin (kinds_of_type t) old error → RefusesText origin record_type tokens error
refused_as {origin} {record_type} {tokens} {error} t old same is has fault =
    bad_tokens (ap (λ (k : RecordType). has_text (kinds_of_type k)) is ∙ has)
    (subst (λ (k : RecordType). RefusesTokens origin (kinds_of_type k) tokens error) (sym is) (subst (λ (l : List Lexeme). RefusesTokens origin (kinds_of_type t) l error) same fault))
