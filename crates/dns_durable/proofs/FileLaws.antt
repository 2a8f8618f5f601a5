-- The lines of records parse to these records, as a zone file of all types.
use Rattle.std.proofs.Common.{◌≡◌, ℕ, ◌+◌, List, [], ◌∷◌, Option, Some, Ok, refl, sym, ap, ◌∙◌}
use Rattle.std.specs.List.{AllByRecursion}
use Rattle.dns_names.specs.Name.{DomainName}
use Rattle.dns_text.specs.Lexer.{at_end}
use Rattle.dns_records.specs.Record.{Record}
use Rattle.dns_zone_file.specs.declared.context.Context.{Context}
use Rattle.dns_zone_file.specs.declared.types.Types.{Types}
use Rattle.dns_zone_file.specs.declared.types.Types.TheVariants.{All}
use Rattle.dns_zone_file.specs.Context.{after_record}
use Rattle.dns_zone_file.specs.Generate.{generate_of}
use Rattle.dns_zone_file.specs.Parsing.{Includes, for_record, Parses, ended, applied, ParsesIn, HasRecords, context_in, start_origin, zone_records}
use Rattle.dns_zone_file.specs.Printed.{lines_of, after_records, printed_records}
use Rattle.dns_zone_file.proofs.PrintedLaws.{origin_stays, sets_after, soa_after, IsInternet, no_other_class, still_internet}
use Rattle.dns_durable.specs.zone_texts.Stated.{AreStatedRecords}
use Rattle.dns_durable.proofs.LineLaws.{line_start, line_of}

contents_after : (origin : Option DomainName) (records : List Record) → printed_records origin records ≡ zone_records (after_records (context_in All (start_origin origin)) records)
contents_after origin records =
    let c : Context = context_in All (start_origin origin) in
    λ i. record { origin = sym (origin_stays c records) i; sets = sym (sets_after c records) i; soa_owner = sym (soa_after c records) i }

pub parses_from : (includes : Includes) (line : ℕ) (c : Context) (records : List Record) → AreStatedRecords records → AllByRecursion IsInternet c.sets → c.types ≡ All
    → Parses includes 0 c (line_start line (lines_of records)) (Ok (after_records c records))
parses_from includes line c [] are sets all = ended (at_end refl)
parses_from includes line c (r ∷ records) are sets all =
    let first = line_of line r (lines_of records) are.0 in
    applied first.lexed
    (for_record first.entry (ap (λ (t : Types). generate_of t first.tokens) all ∙ first.word)
    (record { stated = Some r.ttl; added = r; reads = first.reads c all; class_fits = no_other_class c.sets r sets are.0.dns_class; after = refl }))
    (parses_from includes (line + 1) (after_record c (Some r.ttl) r) records are.1 (still_internet c.sets r sets are.0.dns_class) all)

pub lines_parse : (includes : Includes) (origin : Option DomainName) (records : List Record) → AreStatedRecords records
    → ParsesIn All includes origin (lines_of records) (Ok (after_records (context_in All (start_origin origin)) records))
lines_parse includes origin records are = parses_from includes 1 (context_in All (start_origin origin)) records are tt refl

pub lines_contain : (includes : Includes) (origin : Option DomainName) (records : List Record) → AreStatedRecords records
    → HasRecords (record { text = lines_of records; includes = includes; origin = origin; types = All }) (printed_records origin records)
lines_contain includes origin records are = record {
  context = after_records (context_in All (start_origin origin)) records;
  parses = lines_parse includes origin records are;
  records_are = contents_after origin records;
}
