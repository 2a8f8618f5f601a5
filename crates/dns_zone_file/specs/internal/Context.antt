-- Contexts of zone files, as the code changes them.
use Rattle.std.specs.Prelude.{◌≡◌, ℕ, List, Option, Some, None, option_map, unwrap_or, Ok, Err}
use Rattle.dns_wire.specs.codes.CodeText.{or_else}
use Rattle.dns_text.specs.Lexer.{Lexeme}
use Rattle.dns_data.specs.declared.rdata.RData.{RData}
use Rattle.dns_records.specs.Record.{Record}
use Rattle.dns_zone_file.specs.declared.error.EntryFault.{EntryFault}
use Rattle.dns_zone_file.specs.declared.error.EntryFault.TheVariants as fault
use Rattle.dns_zone_file.specs.declared.context.Context.{Context}
use Rattle.dns_zone_file.specs.declared.context.SavedContext.{SavedContext}
use Rattle.dns_zone_file.specs.declared.context.ParsedData.{ParsedData}
use Rattle.dns_zone_file.specs.Data.{ReadsIn, RefusesIn}
use Rattle.dns_zone_file.specs.Fields.{Fields, fields_in}
use Rattle.dns_zone_file.specs.Context.{minimum_of, soa_of, ttl_for, default_class}

-- ---- included texts

-- what an included text does not change
abbrev pub saved_of : Context → SavedContext
saved_of c = record {
  origin = c.origin;
  owner = c.owner;
  default_ttl = c.default_ttl;
  last_ttl = c.last_ttl;
  last_class = c.last_class;
}

-- the context with what was saved
abbrev pub restored : SavedContext → Context → Context
restored saved c = record c {
  origin = saved.origin;
  owner = saved.owner;
  default_ttl = saved.default_ttl;
  last_ttl = saved.last_ttl;
  last_class = saved.last_class;
}

-- ---- records

-- the minimum of SOA data, or else that of the first SOA record
abbrev pub minimum_for : Context → RData → Option ℕ
minimum_for c d = or_else (minimum_of d) (option_map (λ soa. soa.minimum) c.first_soa)

-- a record from the tokens behind its owner
pub record ReadsData (c : Context) (tokens : List Lexeme) (d : ParsedData) : Type 0 where
  pub fields : Fields
  pub between : fields_in c.types tokens ≡ Ok fields
  pub stated_is : fields.ttl ≡ d.stated
  pub rdata : ReadsIn c.types c.origin fields.record_type fields.rdata d.rdata
  pub ttl : ttl_for c d.stated d.rdata ≡ Some d.ttl
  pub dns_class : unwrap_or fields.dns_class (default_class c) ≡ d.dns_class

-- the first fault of the tokens behind an owner
pub data RefusesData (c : Context) (tokens : List Lexeme) : EntryFault → Type 0 where
  bad_fields : {refusal : EntryFault} → fields_in c.types tokens ≡ Err refusal → RefusesData c tokens refusal
  bad_data : {refusal : EntryFault} (fields : Fields) → fields_in c.types tokens ≡ Ok fields
      → RefusesIn c.types c.origin fields.record_type fields.rdata refusal → RefusesData c tokens refusal
  no_ttl : (fields : Fields) (d : RData) → fields_in c.types tokens ≡ Ok fields
      → ReadsIn c.types c.origin fields.record_type fields.rdata d
      → ttl_for c fields.ttl d ≡ None → RefusesData c tokens fault.NoTtl

-- the context with what a record determines for the next entries, and without the record
abbrev pub noted : Context → Option ℕ → Record → Context
noted c stated r = record c {
  owner = Some r.name;
  last_ttl = or_else stated c.last_ttl;
  last_class = r.dns_class;
  first_soa = or_else c.first_soa (soa_of r);
}
