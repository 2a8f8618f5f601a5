-- The records of a zone file of octets can be printed.
use Rattle.std.proofs.Common.{◌≡◌, ℕ, Bool, true, false, cond, List, [], ◌∷◌, drop, find, Option, Some, None, option_map, Result, Ok, Err, IfSome, IfOk, refl, sym, ap, subst, ◌∙◌, arith}
use Rattle.std.specs.List.{AllByRecursion}
use Rattle.std.specs.Str.{bytes_eq}
use Rattle.dns_wire.specs.declared.codes.dns_class.DNSClass.{DNSClass}
use Rattle.dns_names.specs.Name.{DomainName}
use Rattle.dns_names.specs.Build.{complete}
use Rattle.dns_names.specs.Parse.{name_of_text}
use Rattle.dns_names.specs.Print.{AreOctets}
use Rattle.dns_names.specs.declared.error.ParseError.{ParseError}
use Rattle.dns_text.specs.Lexer.{LexerState, Lexeme, Blank, CharData, QuotedString, At, Include, Origin, Ttl, EOL}
use Rattle.dns_data.specs.Field.{Kind}
use Rattle.dns_data.specs.Text.{has_text}
use Rattle.dns_data.specs.declared.rdata.RData.{RData}
use Rattle.dns_data.specs.declared.rdata.RData.TheVariants as of
use Rattle.dns_data.specs.rdata.{data_kinds, kinds_of_type, IsParsedData}
use Rattle.dns_wire.specs.declared.codes.record_type.RecordType.{RecordType}
use Rattle.dns_data.proofs.ValidLaws.{HasOctets, word_valid, parsed_valid}
use Rattle.dns_records.specs.Record.{Record}
use Rattle.dns_records.specs.RecordSet.{RecordSetValue, record_data, inserted, accepts_record, with_record}
use Rattle.dns_zone_file.specs.declared.context.Context.{Context}
use Rattle.dns_zone_file.specs.declared.context.StartOfAuthority.{StartOfAuthority}
use Rattle.dns_zone_file.specs.declared.error.EntryFault.TheVariants as fault
use Rattle.dns_zone_file.specs.declared.error.ZoneFileError.{ZoneFileError}
use Rattle.dns_zone_file.specs.Context.{owner_of, ReadsRecord, soa_of, after_record, included, resumed}
use Rattle.dns_zone_file.specs.Entry.{Inclusion, text_name, origin_of, inclusion, inclusion_of, entry_of, Entry, origin_directive, include_directive}
use Rattle.dns_zone_file.specs.Fields.{if_ok, name_of, Field, ttl_field, bad_ttl, class_field, type_field, no_field, field_in, Fields, fields_from}
use Rattle.dns_zone_file.specs.Parsing.{Includes, text_of, Applies, for_nothing, for_origin, for_ttl, for_generate, for_record, IncludesText, Parses, ended, bad_text, bad_entry, applied, too_deep, not_found, bad_included, past_included, start_origin, ZoneFile, ParsesIn}
use Rattle.dns_zone_file.specs.declared.types.Types.{Types}
use Rattle.dns_zone_file.specs.declared.types.Types.TheVariants.{Nine}
use Rattle.dns_zone_file.specs.Data.{ReadsIn}
use Rattle.dns_zone_file.specs.Generate.{generate_of}
use Rattle.dns_zone_file.specs.Printed.{IsValidName, HasText, IsTextSet, IsTextFile}
use Rattle.dns_zone_file.specs.RecordSets.{is_set_for, inserted_in}
use Rattle.dns_zone_file.proofs.FieldsLaws.{with_field}
use Rattle.dns_zone_file.proofs.OctetLaws.{entry_octets}
use Rattle.dns_zone_file.proofs.ParsedLaws.{if_either, inserted_all}
use Rattle.dns_zone_file.proofs.ValueLaws.{at_ok, valid, without_fault, if_ok_then, either_of}

abbrev HaveOctets : List Lexeme → Type 0
HaveOctets tokens = AllByRecursion HasOctets tokens

-- ---- names

ok_name : (r : Result DomainName ParseError) → IfOk r IsValidName → IfSome (if_ok r) IsValidName
ok_name (Ok name) h = h
ok_name (Err error) h = tt

token_name : (origin : DomainName) (token : Lexeme) → IsValidName origin → HasOctets token → IfSome (name_of origin token) IsValidName
token_name origin (CharData text) from are =
    ok_name parsed (if_ok_then IsValidName parsed (λ name e. word_valid origin name text from are (name_of_text text) refl e))
  where
    parsed : Result DomainName ParseError
    parsed = elim (name_of_text text) as (λ _. Result DomainName ParseError) [ Ok base ↦ complete base (Some origin) | Err error ↦ Err error ]
token_name origin At from are = from
token_name origin token from are = tt

owner_valid : (c : Context) (tokens : List Lexeme) → IsValidName c.origin → IfSome c.owner IsValidName → HaveOctets tokens → IfOk (owner_of c tokens) IsValidName
owner_valid c [] h k are = tt
owner_valid c (Blank ∷ tokens) h k are = without_fault IsValidName fault.NoOwner c.owner k
owner_valid c (token ∷ tokens) h k are = without_fault IsValidName fault.InvalidOwner (name_of c.origin token) (token_name c.origin token h are.0)

origin_valid : (origin : DomainName) (tokens : List Lexeme) → IsValidName origin → HaveOctets tokens → IfOk (origin_of origin tokens) IsValidName
origin_valid origin (token ∷ []) h are = valid IsValidName (name_of origin token) (token_name origin token h are.0)
origin_valid origin tokens h are = tt

included_from : (name : Option (List ℕ)) (origin : Option DomainName) → IfSome origin IsValidName → IfOk (inclusion name origin) (λ i. IsValidName i.origin)
included_from (Some name) (Some origin) h = h
included_from (Some name) None h = tt
included_from None origin h = tt

inclusion_valid : (origin : DomainName) (tokens : List Lexeme) → IsValidName origin → HaveOctets tokens → IfOk (inclusion_of origin tokens) (λ i. IsValidName i.origin)
inclusion_valid origin (token ∷ []) h are = included_from (text_name token) (Some origin) h
inclusion_valid origin (token ∷ name ∷ []) h are = included_from (text_name token) (name_of origin name) (token_name origin name h are.1.0)
inclusion_valid origin tokens h are = tt

-- ---- entries

-- the arguments of a directive consist of octets
abbrev HasArguments : Entry → Type 0
HasArguments (origin_directive arguments) = HaveOctets arguments
HasArguments (include_directive arguments) = HaveOctets arguments
HasArguments other = Unit {0}

has_arguments : (tokens : List Lexeme) → HaveOctets tokens → HasArguments (entry_of tokens)
has_arguments [] are = tt
has_arguments (Blank ∷ []) are = tt
has_arguments (Blank ∷ token ∷ tokens) are = tt
has_arguments (CharData text ∷ tokens) are = tt
has_arguments (QuotedString text ∷ tokens) are = tt
has_arguments (At ∷ tokens) are = tt
has_arguments (Include ∷ tokens) are = are.1
has_arguments (Origin ∷ tokens) are = are.1
has_arguments (Ttl ∷ tokens) are = tt
has_arguments (EOL ∷ tokens) are = tt

-- ---- fields

abbrev LeavesOctets : Fields → Type 0
LeavesOctets f = HaveOctets f.rdata

next_field : (types : Types) (field : Field) (ttl : Option ℕ) (class : Option DNSClass) (tokens : List Lexeme) → HaveOctets tokens
    → ((later : Option ℕ) (found : Option DNSClass) → IfOk (fields_from types later found tokens) LeavesOctets)
    → IfOk (with_field types ttl class field tokens) LeavesOctets
next_field types (ttl_field n) (Some other) class tokens are more = tt
next_field types (ttl_field n) None class tokens are more = more (Some n) class
next_field types bad_ttl ttl class tokens are more = tt
next_field types (class_field found) ttl (Some other) tokens are more = tt
next_field types (class_field found) ttl None tokens are more = more ttl (Some found)
next_field types (type_field found) ttl class tokens are more = are
next_field types no_field ttl class tokens are more = tt

fields_leave : (types : Types) (ttl : Option ℕ) (class : Option DNSClass) (tokens : List Lexeme) → HaveOctets tokens → IfOk (fields_from types ttl class tokens) LeavesOctets
fields_leave types ttl class [] are = tt
fields_leave types ttl class (token ∷ tokens) are = next_field types (field_in types token) ttl class tokens are.1 (λ later found. fields_leave types later found tokens are.1)

behind_owner : (tokens : List Lexeme) → HaveOctets tokens → HaveOctets (drop 1 tokens)
behind_owner [] are = tt
behind_owner (token ∷ tokens) are = are.1

-- ---- sets

abbrev IsTextRecord : Record → Type 0
IsTextRecord r = IsValidName r.name × HasText r.rdata

with_one_more : (s : RecordSetValue) (r : Record) → IsTextSet s → HasText r.rdata → IsTextSet (with_record s r 0)
with_one_more s r p q =
    let records : List Record = inserted record_data s.records r in
    if_either IsTextSet (accepts_record s r) (record s { ttl = r.ttl; serial = 0; records = records }) s
    (record { owner = p.owner; rdata = inserted_all (λ x. HasText x.rdata) s.records r p.rdata q }) p

inserted_sets : (sets : List RecordSetValue) (r : Record) → AllByRecursion IsTextSet sets → IsTextRecord r → AllByRecursion IsTextSet (inserted_in sets r)
inserted_sets [] r all p = (record { owner = p.0; rdata = (p.1, tt) }, tt)
inserted_sets (s ∷ more) r all p =
    if_either (λ (l : List RecordSetValue). AllByRecursion IsTextSet l) (is_set_for r s) (with_record s r 0 ∷ more) (s ∷ inserted_in more r)
    (with_one_more s r all.0 p.1, all.1) (all.0, inserted_sets more r all.1 p)

-- ---- contexts

pub record IsTextContext (c : Context) : Type 0 where
  pub types : c.types ≡ Nine
  pub origin : IsValidName c.origin
  pub owner : IfSome c.owner IsValidName
  pub sets : AllByRecursion IsTextSet c.sets
  pub first_soa : IfSome c.first_soa (λ soa. IsValidName soa.owner)

new_soa : (r : Record) → IsValidName r.name → IfSome (soa_of r) (λ soa. IsValidName soa.owner)
new_soa r is = at r.rdata
  where
    at : (d : RData) → IfSome (elim d as (λ _. Option StartOfAuthority) [ of.SOA soa ↦ Some (record { owner = r.name; minimum = soa.minimum }) | other ↦ None ]) (λ soa. IsValidName soa.owner)
    at (of.SOA soa) = is
    at other = tt

data_has_text : (origin : Option DomainName) (t : RecordType) (tokens : List Lexeme) (d : RData) → IsParsedData origin t tokens d → has_text (data_kinds d) ≡ true
data_has_text origin t tokens d p = ap (λ (kinds : List Kind). has_text kinds) (p.fields ∙ ap kinds_of_type p.of_type) ∙ p.has_text

text_record : (c : Context) (tokens : List Lexeme) (stated : Option ℕ) (r : Record) → IsTextContext c → HaveOctets tokens → ReadsRecord c tokens stated r → IsTextRecord r
text_record c tokens stated r h are reads =
    let fields = reads.fields in
    let left : HaveOctets fields.rdata = at_ok LeavesOctets reads.between (fields_leave c.types None None (drop 1 tokens) (behind_owner tokens are)) in
    let parsed : IsParsedData (Some c.origin) fields.record_type fields.rdata r.rdata = subst (λ (types : Types). ReadsIn types c.origin fields.record_type fields.rdata r.rdata) h.types reads.rdata in (
      at_ok IsValidName reads.owner (owner_valid c tokens h.origin h.owner are),
      record {
        valid = parsed_valid c.origin fields.record_type fields.rdata r.rdata h.origin left parsed;
        has_text = data_has_text (Some c.origin) fields.record_type fields.rdata r.rdata parsed;
      },
    )

after_one : (c : Context) (stated : Option ℕ) (r : Record) → IsTextContext c → IsTextRecord r → IsTextContext (after_record c stated r)
after_one c stated r h p = record {
  types = h.types;
  origin = h.origin;
  owner = p.0;
  sets = inserted_sets c.sets r h.sets p;
  first_soa = either_of (λ soa. IsValidName soa.owner) c.first_soa (soa_of r) h.first_soa (new_soa r p.0);
}

with_origin : (c : Context) (origin : DomainName) → IsTextContext c → IsValidName origin → IsTextContext (record c { origin = origin })
with_origin c origin h is = record { types = h.types; origin = is; owner = h.owner; sets = h.sets; first_soa = h.first_soa }

after_entry : {c next : Context} {tokens : List Lexeme} → Applies c tokens next → IsTextContext c → HaveOctets tokens → IsTextContext next
after_entry (for_nothing entry) h are = h
after_entry {c} {tokens = tokens} (for_origin {arguments = arguments} {origin = origin} entry reads) h are =
    with_origin c origin h (at_ok IsValidName reads (origin_valid c.origin arguments h.origin (subst HasArguments entry (has_arguments tokens are))))
after_entry {c} (for_ttl entry reads) h are = record { types = h.types; origin = h.origin; owner = h.owner; sets = h.sets; first_soa = h.first_soa }
after_entry {c} {tokens = tokens} (for_generate {arguments = arguments} entry is reads adds) h are =
    let none : generate_of c.types tokens ≡ None = ap (λ (t : Types). generate_of t tokens) h.types in
    let wrong : ◌≡◌ {A = Option (List Lexeme)} None (Some arguments) = sym none ∙ is in
    absurd (cc)
after_entry {c} {tokens = tokens} (for_record entry plain adds) h are =
    subst IsTextContext (sym adds.after) (after_one c adds.stated adds.added h (text_record c tokens adds.stated adds.added h are adds.reads))

at_include : {c : Context} {tokens : List Lexeme} {i : Inclusion} → IncludesText c tokens i → IsTextContext c → HaveOctets tokens → IsTextContext (included c i.origin)
at_include {c} {tokens = tokens} {i = i} w h are =
    with_origin c i.origin h (at_ok (λ (x : Inclusion). IsValidName x.origin) w.read (inclusion_valid c.origin w.arguments h.origin (subst HasArguments w.entry (has_arguments tokens are))))

after_text : (c after : Context) → IsTextContext c → IsTextContext after → IsTextContext (resumed c after)
after_text c after h k = record { types = k.types; origin = h.origin; owner = h.owner; sets = k.sets; first_soa = k.first_soa }

-- ---- texts

found_octets : (includes : Includes) (name text : List ℕ) → AllByRecursion (λ i. AreOctets i.1) includes → text_of includes name ≡ Some text → AreOctets text
found_octets [] name text are e = absurd (cc)
found_octets (i ∷ includes) name text are e = at (bytes_eq i.0 name) e (found_octets includes name text are.1)
  where
    at : (b : Bool) → option_map (λ (x : List ℕ × List ℕ). x.1) (cond b (Some i) (find (λ (x : List ℕ × List ℕ). bytes_eq x.0 name) includes)) ≡ Some text
        → (text_of includes name ≡ Some text → AreOctets text) → AreOctets text
    at true f later = let same : i.1 ≡ text = cc in subst AreOctets same are.0
    at false f later = later f

at_end : {includes : Includes} {depth : ℕ} {c : Context} {p : LexerState} {outcome : Result Context ZoneFileError} → Parses includes depth c p outcome
    → AllByRecursion (λ i. AreOctets i.1) includes → IsTextContext c → AreOctets p.text → IfOk outcome IsTextContext
at_end (ended last) each h are = h
at_end (bad_text refused) each h are = tt
at_end (bad_entry lexed refused) each h are = tt
at_end (applied lexed applies rest) each h are = let read = entry_octets lexed are in at_end rest each (after_entry applies h read.0) read.1
at_end (too_deep lexed w deep) each h are = tt
at_end (not_found lexed w depth none) each h are = tt
at_end (bad_included lexed w depth text refused) each h are = tt
at_end {includes} {c = c} (past_included {after = after} {i = i} {text = text} lexed w depth found within rest) each h are =
    let read = entry_octets lexed are in
    at_end rest each (after_text c after h (at_end within each (at_include w h read.0) (found_octets includes i.name text each found))) read.1

start_valid : (origin : Option DomainName) → IfSome origin IsValidName → IsValidName (start_origin origin)
start_valid None h = (record { each = tt; fits = omega arith }, tt)
start_valid (Some origin) h = h

pub text_file : (file : ZoneFile) (c : Context) → IsTextFile file → ParsesIn file.types file.includes file.origin file.text (Ok c) → IsTextContext c
text_file file c is parses = at_end parses is.includes (record { types = is.types; origin = start_valid file.origin is.origin; owner = tt; sets = tt; first_soa = tt }) is.text
