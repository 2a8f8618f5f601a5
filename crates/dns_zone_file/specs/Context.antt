-- What the entries of a zone file determine for those after them, and the records that they add (RFC 1035 section 5.1, RFC
-- 2308 section 4).
use Rattle.std.specs.Prelude.{◌≡◌, ℕ, true, false, List, [], ◌∷◌, drop, Option, Some, None, option_map, unwrap_or, Result, Ok, Err}
use Rattle.dns_wire.specs.codes.CodeText.{or_else}
use Rattle.dns_wire.specs.declared.codes.dns_class.DNSClass.{DNSClass}
use Rattle.dns_wire.specs.declared.codes.dns_class.DNSClass.TheVariants as classes
use Rattle.dns_names.specs.Name.{DomainName}
use Rattle.dns_text.specs.Lexer.{Lexeme, Blank}
use Rattle.dns_data.specs.declared.rdata.RData.{RData}
use Rattle.dns_data.specs.declared.rdata.RData.TheVariants as of
use Rattle.dns_records.specs.Record.{Record}
use Rattle.dns_zone_file.specs.declared.error.EntryFault.{EntryFault}
use Rattle.dns_zone_file.specs.declared.error.EntryFault.TheVariants as fault
use Rattle.dns_zone_file.specs.declared.context.Context.{Context}
use Rattle.dns_zone_file.specs.declared.context.StartOfAuthority.{StartOfAuthority}
use Rattle.dns_zone_file.specs.declared.types.Types.TheVariants.{Nine, All}
use Rattle.dns_zone_file.specs.Data.{ReadsIn, RefusesIn}
use Rattle.dns_zone_file.specs.Fields.{Fields, name_of, fields_in}
use Rattle.dns_zone_file.specs.RecordSets.{inserted_in, has_other_class}

-- ---- fields that may be omitted

-- what is there, or else a fault
abbrev pub or_fault : {X : Type 0} → EntryFault → Option X → Result X EntryFault
or_fault fault (Some x) = Ok x
or_fault fault None = Err fault

-- Blanks at the start of an entry denote the owner of the record before. Otherwise its first token is the owner.
abbrev pub owner_of : Context → List Lexeme → Result DomainName EntryFault
owner_of c [] = Err fault.NoOwner
owner_of c (Blank ∷ tokens) = or_fault fault.NoOwner c.owner
owner_of c (token ∷ tokens) = or_fault fault.InvalidOwner (name_of c.origin token)

-- the owner and the minimum of an SOA record
abbrev pub soa_of : Record → Option StartOfAuthority
soa_of r = elim r.rdata [
  | of.SOA soa ↦ Some (record { owner = r.name; minimum = soa.minimum })
  | other ↦ None
]

-- the minimum of SOA data (RFC 2308 section 4)
abbrev pub minimum_of : RData → Option ℕ
minimum_of (of.SOA soa) = Some soa.minimum
minimum_of other = None

-- A TTL that is omitted is that of `$TTL`, or else the last one stated, or else the minimum of the SOA: of the record itself,
-- or of the first SOA record before it.
abbrev pub ttl_for : Context → Option ℕ → RData → Option ℕ
ttl_for c stated d =
    or_else stated (or_else c.default_ttl (or_else c.last_ttl
    (or_else (minimum_of d) (option_map (λ soa. soa.minimum) c.first_soa))))

-- A class that is omitted is IN, or else the class of the record before, which is the last one stated (RFC 1035 section 5.1).
abbrev pub default_class : Context → DNSClass
default_class c = elim c.types [ Nine ↦ classes.IN | All ↦ c.last_class ]

-- ---- records

-- the record of an entry, and the TTL if it is stated
pub record ReadsRecord (c : Context) (tokens : List Lexeme) (stated : Option ℕ) (r : Record) : Type 0 where
  pub fields : Fields
  pub owner : owner_of c tokens ≡ Ok r.name
  pub between : fields_in c.types (drop 1 tokens) ≡ Ok fields
  pub stated_is : fields.ttl ≡ stated
  pub rdata : ReadsIn c.types c.origin fields.record_type fields.rdata r.rdata
  pub ttl : ttl_for c stated r.rdata ≡ Some r.ttl
  pub dns_class : unwrap_or fields.dns_class (default_class c) ≡ r.dns_class

-- the first fault of an entry of a record, from left to right; then a TTL that is missing; then a class other than that of the
-- records of the same owner and type
pub data RefusesRecord (c : Context) (tokens : List Lexeme) : EntryFault → Type 0 where
  bad_owner : {refusal : EntryFault} → owner_of c tokens ≡ Err refusal → RefusesRecord c tokens refusal
  bad_fields : {refusal : EntryFault} (owner : DomainName) → owner_of c tokens ≡ Ok owner
      → fields_in c.types (drop 1 tokens) ≡ Err refusal → RefusesRecord c tokens refusal
  bad_data : {refusal : EntryFault} (owner : DomainName) (fields : Fields) → owner_of c tokens ≡ Ok owner
      → fields_in c.types (drop 1 tokens) ≡ Ok fields
      → RefusesIn c.types c.origin fields.record_type fields.rdata refusal → RefusesRecord c tokens refusal
  no_ttl : (owner : DomainName) (fields : Fields) (d : RData) → owner_of c tokens ≡ Ok owner
      → fields_in c.types (drop 1 tokens) ≡ Ok fields → ReadsIn c.types c.origin fields.record_type fields.rdata d
      → ttl_for c fields.ttl d ≡ None → RefusesRecord c tokens fault.NoTtl
  other_class : (stated : Option ℕ) (r : Record) → ReadsRecord c tokens stated r → has_other_class c.sets r ≡ true
      → RefusesRecord c tokens fault.ClassMismatch

-- the context after a record
abbrev pub after_record : Context → Option ℕ → Record → Context
after_record c stated r = record c {
  owner = Some r.name;
  last_ttl = or_else stated c.last_ttl;
  last_class = r.dns_class;
  sets = inserted_in c.sets r;
  first_soa = or_else c.first_soa (soa_of r);
}

-- an entry that is a record, of the class of the others of its set, and the context after it
pub record AddsRecord (c : Context) (tokens : List Lexeme) (next : Context) : Type 0 where
  pub stated : Option ℕ
  pub added : Record
  pub reads : ReadsRecord c tokens stated added
  pub class_fits : has_other_class c.sets added ≡ false
  pub after : next ≡ after_record c stated added

-- ---- included texts

-- the context at the start of an included text
abbrev pub included : Context → DomainName → Context
included c origin = record c { origin = origin }

-- the context after an included text: origin, owner, TTLs and class are as before it
abbrev pub resumed : Context → Context → Context
resumed before after = record after {
  origin = before.origin;
  owner = before.owner;
  default_ttl = before.default_ttl;
  last_ttl = before.last_ttl;
  last_class = before.last_class;
}
