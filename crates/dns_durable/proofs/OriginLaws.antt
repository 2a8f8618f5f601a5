-- Behind the line that states an origin, the lines of records parse to these records, as a zone file of all types.
use Rattle.std.proofs.Common.{◌≡◌, ℕ, ◌+◌, true, false, List, [], ◌∷◌, ◌++◌, Some, None, Ok, refl, sym, ap}
use Rattle.std.specs.Prelude.{codes}
use Rattle.std.specs.List.{AllByRecursion}
use Rattle.dns_wire.specs.Name.{AreLabels}
use Rattle.dns_names.specs.Name.{DomainName}
use Rattle.dns_names.specs.Build.{root_name}
use Rattle.dns_names.specs.Print.{text_of_name, AreOctets}
use Rattle.dns_text.specs.Lexer.{Lexeme, CharData, Origin, NextToken, at_token}
use Rattle.dns_text.proofs.PrintedData.{name_datum}
use Rattle.dns_records.specs.Record.{Record}
use Rattle.dns_zone_file.specs.declared.context.Context.{Context}
use Rattle.dns_zone_file.specs.declared.types.Types.TheVariants.{All}
use Rattle.dns_zone_file.specs.Entry.{LexesEntry, one_token, or_invalid}
use Rattle.dns_zone_file.specs.Parsing.{Applies, for_origin, applied, ParsesIn, HasRecords, context_in}
use Rattle.dns_zone_file.specs.Printed.{lines_of, after_records, inserted_each, first_soa_owner}
use Rattle.dns_zone_file.proofs.LineLaws.{at, past_blank, name_is, fqdn_some}
use Rattle.dns_zone_file.proofs.PrintedLaws.{origin_stays, sets_after, soa_after}
use Rattle.dns_durable.specs.zone_texts.Stated.{AreStatedRecords, with_origin}
use Rattle.dns_durable.proofs.FileLaws.{parses_from}
use Rattle.dns_durable.proofs.LineLaws.{line_start, data_lexes}

-- ---- the line

-- the tokens of the line
abbrev origin_tokens : DomainName → List Lexeme
origin_tokens origin = Origin ∷ CharData (text_of_name origin) ∷ []

origin_next : (line : ℕ) (rest : List ℕ) → NextToken (line_start line (codes "$ORIGIN" ++ 32 ∷ rest)) (Ok (Some Origin)) (at (line_start line []) (32 ∷ rest) false)
origin_next line rest = at_token refl

module _ (origin : DomainName) (fqdn : origin.is_fqdn ≡ true) (labels : AreLabels origin.labels) (octets : AllByRecursion AreOctets origin.labels) where
  origin_lexes : (line : ℕ) (rest : List ℕ) → LexesEntry (line_start line (with_origin origin rest)) (origin_tokens origin) (line_start (line + 1) rest)
  origin_lexes line rest =
      one_token (origin_next line (text_of_name origin ++ 10 ∷ rest)) (λ e. absurd (cc))
      (past_blank (data_lexes (line_start line []) false (CharData (text_of_name origin)) [] rest
      (name_datum origin octets (fqdn_some origin.is_fqdn origin.labels fqdn), tt) refl refl) (line_start line []) (text_of_name origin ++ 10 ∷ rest) refl)

  origin_applies : (c : Context) → Applies c (origin_tokens origin) (record c { origin = origin })
  origin_applies c = for_origin {arguments = CharData (text_of_name origin) ∷ []} refl (ap or_invalid (name_is c.origin origin fqdn labels octets))

  -- ---- files

  file_parses : (records : List Record) → AreStatedRecords records
      → ParsesIn All [] None (with_origin origin (lines_of records)) (Ok (after_records (context_in All origin) records))
  file_parses records are =
      applied (origin_lexes 1 (lines_of records)) (origin_applies (context_in All root_name)) (parses_from [] 2 (context_in All origin) records are tt refl)

  pub file_contains : (records : List Record) → AreStatedRecords records
      → HasRecords (record { text = with_origin origin (lines_of records); includes = []; origin = None; types = All })
      (record { origin = origin; sets = inserted_each [] records; soa_owner = first_soa_owner records })
  file_contains records are =
      let c : Context = context_in All origin in
      record {
        context = after_records c records;
        parses = file_parses records are;
        records_are = λ i. record { origin = sym (origin_stays c records) i; sets = sym (sets_after c records) i; soa_owner = sym (soa_after c records) i };
      }
