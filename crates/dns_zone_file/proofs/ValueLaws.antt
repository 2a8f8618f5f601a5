-- Names that an origin completes are fully qualified, and TTLs have 32 bits.
use Rattle.std.proofs.Common.{◌≡◌, ◌<◌, ◌^◌, ℕ, Bool, true, false, if◌then◌else◌, List, [], ◌∷◌, Option, Some, None, option_map, Result, Ok, Err, IfSome, IfOk, refl, subst, arith}
use Rattle.dns_wire.specs.codes.CodeText.{or_else}
use Rattle.dns_wire.specs.declared.codes.dns_class.DNSClass.{DNSClass}
use Rattle.dns_wire.specs.declared.codes.record_type.RecordType.{RecordType}
use Rattle.dns_names.specs.Name.{DomainName}
use Rattle.dns_names.specs.Parse.{name_of_text}
use Rattle.dns_names.specs.Build.{complete}
use Rattle.dns_names.specs.declared.error.ParseError.{ParseError}
use Rattle.dns_text.specs.Lexer.{Lexeme, Blank, CharData, At}
use Rattle.dns_text.specs.Ttl.{time}
use Rattle.dns_data.specs.declared.rdata.RData.{RData}
use Rattle.dns_data.specs.declared.rdata.RData.TheVariants as of
use Rattle.dns_data.specs.rdata.{IsParsedData, IsSoundData}
use Rattle.dns_data.specs.rdata.SOA.{soa_kinds, soa_values}
use Rattle.dns_data.proofs.ParsedSoundLaws.{time_fits, completed-is_fqdn, values_sound}
use Rattle.dns_zone_file.specs.declared.error.EntryFault.{EntryFault}
use Rattle.dns_zone_file.specs.declared.error.EntryFault.TheVariants as fault
use Rattle.dns_zone_file.specs.declared.context.Context.{Context}
use Rattle.dns_zone_file.specs.Context.{or_fault, owner_of, minimum_of}
use Rattle.dns_zone_file.specs.Entry.{or_invalid, origin_of, ttl_of, text_name, inclusion, inclusion_of}
use Rattle.dns_zone_file.specs.declared.types.Types.{Types}
use Rattle.dns_zone_file.specs.declared.types.Types.TheVariants.{Nine, All}
use Rattle.dns_zone_file.specs.Types.{type_in}
use Rattle.dns_zone_file.specs.Data.{ReadsIn, IsAnyData, in_values, in_bytes}
use Rattle.dns_zone_file.specs.Fields.{if_ok, name_of, Field, ttl_field, bad_ttl, class_field, type_field, no_field, begins_with_digit, class_in, ttl_or_bad, type_or_none, field_in, Fields, fields_from}
use Rattle.dns_zone_file.proofs.FieldsLaws.{with_field}

-- ---- values that may be absent

pub at_some : {A : Type 0} (P : A → Type 0) {o : Option A} {x : A} → o ≡ Some x → IfSome o P → P x
at_some {A} P e h = subst (λ (p : Option A). IfSome p P) e h

pub at_ok : {A E : Type 0} (P : A → Type 0) {r : Result A E} {x : A} → r ≡ Ok x → IfOk r P → P x
at_ok {A} {E} P e h = subst (λ (q : Result A E). IfOk q P) e h

if_some_then : {A : Type 0} (P : A → Type 0) (o : Option A) → ((x : A) → o ≡ Some x → P x) → IfSome o P
if_some_then P (Some x) f = f x refl
if_some_then P None f = tt

pub if_ok_then : {A E : Type 0} (P : A → Type 0) (r : Result A E) → ((x : A) → r ≡ Ok x → P x) → IfOk r P
if_ok_then P (Ok x) f = f x refl
if_ok_then P (Err e) f = tt

pub some_of : {A : Type 0} (P Q : A → Type 0) (o : Option A) → ((x : A) → P x → Q x) → IfSome o P → IfSome o Q
some_of P Q None f h = tt
some_of P Q (Some x) f h = f x h

pub mapped : {A B : Type 0} (f : A → B) (P : B → Type 0) (o : Option A) → IfSome o (λ x. P (f x)) → IfSome (option_map f o) P
mapped f P None h = tt
mapped f P (Some x) h = h

pub either_of : {A : Type 0} (P : A → Type 0) (a b : Option A) → IfSome a P → IfSome b P → IfSome (or_else a b) P
either_of P (Some x) b h k = h
either_of P None b h k = k

pub valid : {A : Type 0} (P : A → Type 0) (o : Option A) → IfSome o P → IfOk (or_invalid o) P
valid P (Some x) h = h
valid P None h = tt

pub without_fault : {A : Type 0} (P : A → Type 0) (refusal : EntryFault) (o : Option A) → IfSome o P → IfOk (or_fault refusal o) P
without_fault P refusal (Some x) h = h
without_fault P refusal None h = tt

-- ---- names

abbrev pub IsQualified : DomainName → Type 0
IsQualified name = name.is_fqdn ≡ true

ok_name : (r : Result DomainName ParseError) → IfOk r IsQualified → IfSome (if_ok r) IsQualified
ok_name (Ok name) h = h
ok_name (Err error) h = tt

word : (origin : DomainName) (r : Result DomainName ParseError)
    → IfSome (if_ok (elim r as (λ _. Result DomainName ParseError) [ Ok base ↦ complete base (Some origin) | Err error ↦ Err error ])) IsQualified
word origin (Ok base) = ok_name (complete base (Some origin)) (if_ok_then IsQualified (complete base (Some origin)) (λ name e. completed-is_fqdn origin base name e))
word origin (Err error) = tt

token_name : (origin : DomainName) (token : Lexeme) → IsQualified origin → IfSome (name_of origin token) IsQualified
token_name origin (CharData text) h = word origin (name_of_text text)
token_name origin At h = h
token_name origin token h = tt

pub owner_qualified : (c : Context) (tokens : List Lexeme) → IsQualified c.origin → IfSome c.owner IsQualified → IfOk (owner_of c tokens) IsQualified
owner_qualified c [] h k = tt
owner_qualified c (Blank ∷ tokens) h k = without_fault IsQualified fault.NoOwner c.owner k
owner_qualified c (token ∷ tokens) h k = without_fault IsQualified fault.InvalidOwner (name_of c.origin token) (token_name c.origin token h)

pub origin_qualified : (origin : DomainName) (tokens : List Lexeme) → IsQualified origin → IfOk (origin_of origin tokens) IsQualified
origin_qualified origin (token ∷ []) h = valid IsQualified (name_of origin token) (token_name origin token h)
origin_qualified origin tokens h = tt

included_from : (name : Option (List ℕ)) (origin : Option DomainName) → IfSome origin IsQualified → IfOk (inclusion name origin) (λ i. IsQualified i.origin)
included_from (Some name) (Some origin) h = h
included_from (Some name) None h = tt
included_from None origin h = tt

pub inclusion_qualified : (origin : DomainName) (tokens : List Lexeme) → IsQualified origin → IfOk (inclusion_of origin tokens) (λ i. IsQualified i.origin)
inclusion_qualified origin (token ∷ []) h = included_from (text_name token) (Some origin) h
inclusion_qualified origin (token ∷ name ∷ []) h = included_from (text_name token) (name_of origin name) (token_name origin name h)
inclusion_qualified origin tokens h = tt

-- ---- TTLs

abbrev pub FitsTtl : ℕ → Type 0
FitsTtl n = n < 2 ^ 32

time_has_32_bits : (text : List ℕ) → IfSome (time text) FitsTtl
time_has_32_bits text = if_some_then FitsTtl (time text) (λ n e. omega (arith, time_fits n text e))

pub default_fits : (tokens : List Lexeme) → IfOk (ttl_of tokens) FitsTtl
default_fits (CharData text ∷ []) = valid FitsTtl (time text) (time_has_32_bits text)
default_fits tokens = tt

abbrev FieldFits : Field → Type 0
FieldFits (ttl_field n) = FitsTtl n
FieldFits other = Unit {0}

ttl_field_fits : (o : Option ℕ) → IfSome o FitsTtl → FieldFits (ttl_or_bad o)
ttl_field_fits (Some n) h = h
ttl_field_fits None h = tt

type_field_fits : (o : Option RecordType) → FieldFits (type_or_none o)
type_field_fits (Some t) = tt
type_field_fits None = tt

word_fits : (digit : Bool) (number : Option ℕ) (class : Option DNSClass) (type : Option RecordType) → IfSome number FitsTtl
    → FieldFits (if digit then ttl_or_bad number else elim class as (λ _. Field) [ Some found ↦ class_field found | None ↦ type_or_none type ])
word_fits true number class type h = ttl_field_fits number h
word_fits false number (Some class) type h = tt
word_fits false number None type h = type_field_fits type

field_fits : (types : Types) (token : Lexeme) → FieldFits (field_in types token)
field_fits types (CharData text) = word_fits (begins_with_digit text) (time text) (class_in types text) (type_in types text) (time_has_32_bits text)
field_fits types token = tt

abbrev StatesTtl : Fields → Type 0
StatesTtl f = IfSome f.ttl FitsTtl

next_field : (types : Types) (field : Field) (ttl : Option ℕ) (class : Option DNSClass) (tokens : List Lexeme) → FieldFits field → IfSome ttl FitsTtl
    → ((later : Option ℕ) (found : Option DNSClass) → IfSome later FitsTtl → IfOk (fields_from types later found tokens) StatesTtl)
    → IfOk (with_field types ttl class field tokens) StatesTtl
next_field types (ttl_field n) (Some other) class tokens h k more = tt
next_field types (ttl_field n) None class tokens h k more = more (Some n) class h
next_field types bad_ttl ttl class tokens h k more = tt
next_field types (class_field found) ttl (Some other) tokens h k more = tt
next_field types (class_field found) ttl None tokens h k more = more ttl (Some found) k
next_field types (type_field found) ttl class tokens h k more = k
next_field types no_field ttl class tokens h k more = tt

pub fields_fit : (types : Types) (ttl : Option ℕ) (class : Option DNSClass) (tokens : List Lexeme) → IfSome ttl FitsTtl → IfOk (fields_from types ttl class tokens) (λ f. IfSome f.ttl FitsTtl)
fields_fit types ttl class [] h = tt
fields_fit types ttl class (token ∷ tokens) h =
    next_field types (field_in types token) ttl class tokens (field_fits types token) h (λ later found k. fields_fit types later found tokens k)

-- the minimum of an SOA record
values_minimum : (origin : DomainName) (type : RecordType) (tokens : List Lexeme) (d : RData) → IsParsedData (Some origin) type tokens d → IfSome (minimum_of d) FitsTtl
values_minimum origin type tokens (of.SOA soa) p = (values_sound origin soa_kinds tokens (soa_values soa) p.values).1.1.1.1.1.1.0
values_minimum origin type tokens d p = tt

sound_minimum : (d : RData) → IsSoundData d → IfSome (minimum_of d) FitsTtl
sound_minimum (of.SOA soa) s = s.values.1.1.1.1.1.1.0
sound_minimum d s = tt

any_minimum : (origin : DomainName) (type : RecordType) (tokens : List Lexeme) (d : RData) → IsAnyData origin type tokens d → IfSome (minimum_of d) FitsTtl
any_minimum origin type tokens d (in_values none p) = values_minimum origin type tokens d p
any_minimum origin type tokens d (in_bytes bytes has is p) = sound_minimum d p.decoded.sound

pub minimum_fits : (types : Types) (origin : DomainName) (type : RecordType) (tokens : List Lexeme) (d : RData) → ReadsIn types origin type tokens d → IfSome (minimum_of d) FitsTtl
minimum_fits Nine origin type tokens d p = values_minimum origin type tokens d p
minimum_fits All origin type tokens d p = any_minimum origin type tokens d p
