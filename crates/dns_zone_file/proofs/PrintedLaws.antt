-- The lines of records parse to these records.
use Rattle.std.proofs.Common.{◌≡◌, ℕ, ◌+◌, Bool, true, false, not, cond, ◌&&◌, ◌||◌, ◌==◌, if◌then◌else◌, List, [], ◌∷◌, Option, Some, None, option_map, Ok, refl, sym, ap, ◌∙◌}
use Rattle.std.specs.List.{AllByRecursion}
use Rattle.dns_wire.specs.codes.CodeText.{or_else}
use Rattle.dns_wire.specs.codes.DNSClass.{class_number}
use Rattle.dns_wire.specs.declared.codes.dns_class.DNSClass.{DNSClass}
use Rattle.dns_wire.specs.declared.codes.dns_class.DNSClass.TheVariants as classes
use Rattle.dns_names.specs.Name.{DomainName}
use Rattle.dns_text.specs.Lexer.{at_end}
use Rattle.dns_records.specs.Record.{Record}
use Rattle.dns_records.specs.RecordSet.{RecordSetValue, record_data, inserted, accepts_record, with_record}
use Rattle.dns_zone_file.specs.declared.context.Context.{Context}
use Rattle.dns_zone_file.specs.declared.context.StartOfAuthority.{StartOfAuthority}
use Rattle.dns_zone_file.specs.declared.types.Types.{Types}
use Rattle.dns_zone_file.specs.declared.types.Types.TheVariants.{Nine}
use Rattle.dns_zone_file.specs.Generate.{generate_of}
use Rattle.dns_zone_file.specs.Context.{soa_of, after_record}
use Rattle.dns_zone_file.specs.Parsing.{Includes, for_record, Parses, ended, applied, ParsesFile, HasRecords, start_context, start_origin, zone_records}
use Rattle.dns_zone_file.specs.Printed.{lines_of, ArePrintableRecords, after_records, inserted_each, first_soa_owner, printed_records}
use Rattle.dns_zone_file.specs.RecordSets.{is_set_for, inserted_in, has_other_class}
use Rattle.dns_zone_file.proofs.LineLaws.{line_start, line_of}

-- ---- the context after records

pub origin_stays : (c : Context) (records : List Record) → (after_records c records).origin ≡ c.origin
origin_stays c [] = refl
origin_stays c (r ∷ records) = origin_stays (after_record c (Some r.ttl) r) records

pub sets_after : (c : Context) (records : List Record) → (after_records c records).sets ≡ inserted_each c.sets records
sets_after c [] = refl
sets_after c (r ∷ records) = sets_after (after_record c (Some r.ttl) r) records

abbrev pub owner_of_soa : Option StartOfAuthority → Option DomainName
owner_of_soa found = option_map (λ soa. soa.owner) found

first_or : (a b : Option StartOfAuthority) (c : Option DomainName) → or_else (owner_of_soa (or_else a b)) c ≡ or_else (owner_of_soa a) (or_else (owner_of_soa b) c)
first_or (Some a) b c = refl
first_or None b c = refl

no_other : (a : Option DomainName) → a ≡ or_else a None
no_other (Some a) = refl
no_other None = refl

pub soa_after : (c : Context) (records : List Record) → owner_of_soa (after_records c records).first_soa ≡ or_else (owner_of_soa c.first_soa) (first_soa_owner records)
soa_after c [] = no_other (owner_of_soa c.first_soa)
soa_after c (r ∷ records) = soa_after (after_record c (Some r.ttl) r) records ∙ first_or c.first_soa (soa_of r) (first_soa_owner records)

contents_after : (origin : Option DomainName) (records : List Record) → printed_records origin records ≡ zone_records (after_records (start_context (start_origin origin)) records)
contents_after origin records =
    let c : Context = start_context (start_origin origin) in
    λ i. record { origin = sym (origin_stays c records) i; sets = sym (sets_after c records) i; soa_owner = sym (soa_after c records) i }

-- ---- classes

abbrev pub IsInternet : RecordSetValue → Type 0
IsInternet s = s.dns_class ≡ classes.IN

pub no_other_class : (sets : List RecordSetValue) (r : Record) → AllByRecursion IsInternet sets → r.dns_class ≡ classes.IN → has_other_class sets r ≡ false
no_other_class [] r are is = refl
no_other_class (s ∷ sets) r are is =
    ap (λ (b : Bool). (is_set_for r s && not b) || has_other_class sets r) (same_classes s r are.0 is)
    ∙ ap (λ (b : Bool). (is_set_for r s && false) || b) (no_other_class sets r are.1 is)
    ∙ neither (is_set_for r s)
  where
    same_classes : (s : RecordSetValue) (r : Record) → s.dns_class ≡ classes.IN → r.dns_class ≡ classes.IN → (class_number s.dns_class == class_number r.dns_class) ≡ true
    same_classes s r e f = ap (λ (c : DNSClass). class_number c == class_number r.dns_class) e ∙ ap (λ (c : DNSClass). class_number classes.IN == class_number c) f

    neither : (b : Bool) → ((b && false) || false) ≡ false
    neither true = refl
    neither false = refl

class_stays : (s : RecordSetValue) (r : Record) → (with_record s r 0).dns_class ≡ s.dns_class
class_stays s r = at (accepts_record s r)
  where
    at : (b : Bool) → (cond b (record s { ttl = r.ttl; serial = 0; records = inserted record_data s.records r }) s).dns_class ≡ s.dns_class
    at true = refl
    at false = refl

pub still_internet : (sets : List RecordSetValue) (r : Record) → AllByRecursion IsInternet sets → r.dns_class ≡ classes.IN → AllByRecursion IsInternet (inserted_in sets r)
still_internet [] r are is = (is, tt)
still_internet (s ∷ sets) r are is = at (is_set_for r s) (still_internet sets r are.1 is)
  where
    at : (b : Bool) → AllByRecursion IsInternet (inserted_in sets r) → AllByRecursion IsInternet (if b then with_record s r 0 ∷ sets else s ∷ inserted_in sets r)
    at true later = (class_stays s r ∙ are.0, are.1)
    at false later = (are.0, later)

-- ---- lines

parses_from : (includes : Includes) (line : ℕ) (c : Context) (records : List Record) → ArePrintableRecords records → AllByRecursion IsInternet c.sets → c.types ≡ Nine
    → Parses includes 0 c (line_start line (lines_of records)) (Ok (after_records c records))
parses_from includes line c [] are sets nine = ended (at_end refl)
parses_from includes line c (r ∷ records) are sets nine =
    let first = line_of line r (lines_of records) are.0 in
    applied first.lexed
    (for_record first.entry (ap (λ (t : Types). generate_of t first.tokens) nine) (record { stated = Some r.ttl; added = r; reads = first.reads c nine; class_fits = no_other_class c.sets r sets are.0.dns_class; after = refl }))
    (parses_from includes (line + 1) (after_record c (Some r.ttl) r) records are.1 (still_internet c.sets r sets are.0.dns_class) nine)

pub lines_parse : (includes : Includes) (origin : Option DomainName) (records : List Record) → ArePrintableRecords records
    → ParsesFile includes origin (lines_of records) (Ok (after_records (start_context (start_origin origin)) records))
lines_parse includes origin records are = parses_from includes 1 (start_context (start_origin origin)) records are tt refl

pub lines_contain : (includes : Includes) (origin : Option DomainName) (records : List Record) → ArePrintableRecords records
    → HasRecords (record { text = lines_of records; includes = includes; origin = origin; types = Nine }) (printed_records origin records)
lines_contain includes origin records are = record {
  context = after_records (start_context (start_origin origin)) records;
  parses = lines_parse includes origin records are;
  records_are = contents_after origin records;
}
