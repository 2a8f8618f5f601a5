-- Contexts of zone files, record by record.
use Rattle.std.proofs.Common.{◌≡◌, ℕ, true, List, map, take, drop, length, ◌-◌, Option, Some, None, Ok, Err, sym, ap, subst, ◌∙◌, arith}
use Rattle.std.specs.Prelude.{unwrap_or}
use Rattle.std.proofs.lemmas.List.{drop-map, take_all, length-drop}
use Rattle.dns_names.specs.Name.{DomainName}
use Rattle.dns_text.specs.Lexer.{Lexeme}
use Rattle.dns_text.specs.Token.{lexeme}
use Rattle.dns_text.specs.declared.token.Token.{Token}
use Rattle.dns_data.specs.declared.rdata.RData.{RData}
use Rattle.dns_records.specs.Record.{Record}
use Rattle.dns_zone_file.specs.declared.error.EntryError.{EntryError}
use Rattle.dns_zone_file.specs.declared.error.EntryError.TheVariants as error
use Rattle.dns_zone_file.specs.declared.error.EntryFault.{EntryFault}
use Rattle.dns_zone_file.specs.declared.error.EntryFault.TheVariants as fault
use Rattle.dns_zone_file.specs.declared.context.Context.{Context}
use Rattle.dns_zone_file.specs.declared.context.ParsedData.{ParsedData}
use Rattle.dns_zone_file.specs.declared.fields.Fields.{Fields}
use Rattle.dns_zone_file.specs.Data.{ReadsIn, RefusesIn}
use Rattle.dns_zone_file.specs.Fields.{fields_in}
use Rattle.dns_zone_file.specs.Context.{owner_of, ttl_for, default_class, ReadsRecord, RefusesRecord, bad_owner, bad_fields, bad_data, no_ttl, other_class}
use Rattle.dns_zone_file.specs.Entry.{origin_directive, include_directive, entry_of, origin_of, inclusion_of}
use Rattle.dns_zone_file.specs.Parsing.{RefusesEntry, bad_origin, bad_include}
use Rattle.dns_zone_file.specs.RecordSets.{has_other_class}
use Rattle.dns_zone_file.specs.internal.Context as behind
use Rattle.dns_zone_file.specs.internal.Context.{ReadsData, RefusesData}
use Rattle.dns_zone_file.specs.internal.Error.{IsFault}
use Rattle.dns_zone_file.specs.internal.Fields.{fields_view}

-- the tokens of a slice from a place on
abbrev pub slice_from : ℕ → List Token → List Token
slice_from k tokens = take (length tokens - k) (drop k tokens)

pub slice_from_is : (k : ℕ) (tokens : List Token) → map lexeme (slice_from k tokens) ≡ drop k (map lexeme tokens)
slice_from_is k tokens =
    ap (map lexeme) (take_all (length tokens - k) (drop k tokens) (omega (arith, length-drop k tokens)))
    ∙ sym (drop-map lexeme k tokens)

-- ---- behind the owner

pub data_read : (c : Context) (tokens : List Token) (f : Fields) (d : ParsedData)
    → fields_in c.types (map lexeme tokens) ≡ Ok (fields_view f (map lexeme tokens))
    → ReadsIn c.types c.origin f.record_type (map lexeme (slice_from f.count tokens)) d.rdata
    → f.ttl ≡ d.stated → ttl_for c f.ttl d.rdata ≡ Some d.ttl → unwrap_or f.dns_class (default_class c) ≡ d.dns_class
    → ReadsData c (map lexeme tokens) d
data_read c tokens f d between rdata stated ttl class = record {
  fields = fields_view f (map lexeme tokens);
  between = between;
  stated_is = stated;
  rdata = subst (λ (l : List Lexeme). ReadsIn c.types c.origin f.record_type l d.rdata) (slice_from_is f.count tokens) rdata;
  ttl = subst (λ (s : Option ℕ). ttl_for c s d.rdata ≡ Some d.ttl) stated ttl;
  dns_class = class;
}

pub data_fault : (c : Context) (tokens : List Token) (f : Fields) (e : EntryError)
    → fields_in c.types (map lexeme tokens) ≡ Ok (fields_view f (map lexeme tokens))
    → IsFault (RefusesIn c.types c.origin f.record_type (map lexeme (slice_from f.count tokens))) e
    → IsFault (RefusesData c (map lexeme tokens)) e
data_fault c tokens f (error.Fault refusal) between refused =
    behind.bad_data (fields_view f (map lexeme tokens)) between
    (subst (λ (l : List Lexeme). RefusesIn c.types c.origin f.record_type l refusal) (slice_from_is f.count tokens) refused)
data_fault c tokens f error.Memory between refused = tt

pub no_ttl_left : (c : Context) (tokens : List Token) (f : Fields) (d : RData)
    → fields_in c.types (map lexeme tokens) ≡ Ok (fields_view f (map lexeme tokens))
    → ReadsIn c.types c.origin f.record_type (map lexeme (slice_from f.count tokens)) d
    → ttl_for c f.ttl d ≡ None → RefusesData c (map lexeme tokens) fault.NoTtl
no_ttl_left c tokens f d between rdata none =
    behind.no_ttl (fields_view f (map lexeme tokens)) d between
    (subst (λ (l : List Lexeme). ReadsIn c.types c.origin f.record_type l d) (slice_from_is f.count tokens) rdata) none

-- ---- with the owner

pub record_read : (c : Context) (tokens : List Token) (name : DomainName) (d : ParsedData)
    → owner_of c (map lexeme tokens) ≡ Ok name → ReadsData c (map lexeme (slice_from 1 tokens)) d
    → ReadsRecord c (map lexeme tokens) d.stated (record { name = name; dns_class = d.dns_class; ttl = d.ttl; rdata = d.rdata })
record_read c tokens name d owner reads = record {
  fields = reads.fields;
  owner = owner;
  between = subst (λ (l : List Lexeme). fields_in c.types l ≡ Ok reads.fields) (slice_from_is 1 tokens) reads.between;
  stated_is = reads.stated_is;
  rdata = reads.rdata;
  ttl = reads.ttl;
  dns_class = reads.dns_class;
}

refused_behind : (c : Context) (tokens : List Lexeme) (name : DomainName) (refusal : EntryFault)
    → owner_of c tokens ≡ Ok name → RefusesData c (drop 1 tokens) refusal → RefusesRecord c tokens refusal
refused_behind c tokens name refusal owner (behind.bad_fields between) = bad_fields name owner between
refused_behind c tokens name refusal owner (behind.bad_data fields between rdata) = bad_data name fields owner between rdata
refused_behind c tokens name refusal owner (behind.no_ttl fields d between rdata none) = no_ttl name fields d owner between rdata none

pub record_fault : (c : Context) (tokens : List Token) (name : DomainName) (e : EntryError)
    → owner_of c (map lexeme tokens) ≡ Ok name → IsFault (RefusesData c (map lexeme (slice_from 1 tokens))) e
    → IsFault (RefusesRecord c (map lexeme tokens)) e
record_fault c tokens name (error.Fault refusal) owner refused =
    refused_behind c (map lexeme tokens) name refusal owner
    (subst (λ (l : List Lexeme). RefusesData c l refusal) (slice_from_is 1 tokens) refused)
record_fault c tokens name error.Memory owner refused = tt

pub owner_fault : (c : Context) (tokens : List Token) (e : EntryError)
    → IsFault (λ refusal. owner_of c (map lexeme tokens) ≡ Err refusal) e → IsFault (RefusesRecord c (map lexeme tokens)) e
owner_fault c tokens (error.Fault refusal) refused = bad_owner refused
owner_fault c tokens error.Memory refused = tt

-- ---- added

pub class_fault : (c : Context) (tokens : List Lexeme) (stated : Option ℕ) (r : Record) (e : EntryError)
    → ReadsRecord c tokens stated r → IsFault (λ refusal. (refusal ≡ fault.ClassMismatch) × (has_other_class c.sets r ≡ true)) e
    → IsFault (RefusesRecord c tokens) e
class_fault c tokens stated r (error.Fault refusal) reads refused =
    subst (RefusesRecord c tokens) (sym refused.0) (other_class stated r reads refused.1)
class_fault c tokens stated r error.Memory reads refused = tt

-- ---- entries

pub origin_fault : (c : Context) (tokens arguments : List Lexeme) (e : EntryError) → origin_directive arguments ≡ entry_of tokens
    → IsFault (λ refusal. origin_of c.origin arguments ≡ Err refusal) e → IsFault (RefusesEntry c tokens) e
origin_fault c tokens arguments (error.Fault refusal) entry refused = bad_origin (sym entry) refused
origin_fault c tokens arguments error.Memory entry refused = tt

pub include_fault : (c : Context) (tokens arguments : List Lexeme) (e : EntryError) → include_directive arguments ≡ entry_of tokens
    → IsFault (λ refusal. inclusion_of c.origin arguments ≡ Err refusal) e → IsFault (RefusesEntry c tokens) e
include_fault c tokens arguments (error.Fault refusal) entry refused = bad_include (sym entry) refused
include_fault c tokens arguments error.Memory entry refused = tt
