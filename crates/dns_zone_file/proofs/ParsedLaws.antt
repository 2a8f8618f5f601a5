-- What the record sets of a zone file are like.
use Rattle.std.proofs.Common.{◌≡◌, ◌<◌, ℕ, Bool, true, false, not, cond, ◌&&◌, ◌||◌, ◌==◌, if◌then◌else◌, List, [], ◌∷◌, length, drop, Option, Some, None, option_map, Result, Ok, IfSome, IfOk, refl, sym, ◌∙◌, subst, arith, length-append}
use Rattle.std.specs.Prelude.{IsSome}
use Rattle.std.specs.List.{AllByRecursion, IsDistinct}
use Rattle.std.proofs.lemmas.Bool.Decides.{nat_tests}
use Rattle.dns_wire.specs.codes.CodeText.{or_else}
use Rattle.dns_wire.specs.codes.DNSClass.{class_number}
use Rattle.dns_wire.specs.codes.RecordType.{type_number}
use Rattle.dns_wire.specs.declared.codes.record_type.RecordType.{RecordType}
use Rattle.dns_wire.specs.declared.codes.record_type.RecordType.TheVariants as types
use Rattle.dns_names.specs.Name.{DomainName}
use Rattle.dns_names.specs.Compare.{same_name}
use Rattle.dns_names.specs.internal.Compare.{same_name-equivalence}
use Rattle.dns_text.specs.Lexer.{Lexeme, LexerState}
use Rattle.dns_data.specs.declared.rdata.RData.{RData}
use Rattle.dns_data.specs.declared.rdata.RData.TheVariants as of
use Rattle.dns_data.specs.rdata.{data_type}
use Rattle.dns_records.specs.Record.{Record}
use Rattle.dns_records.specs.RecordSet.{RecordSetValue, record_data, added, is_inserted, inserted, accepts_record, with_record}
use Rattle.dns_zone_file.specs.declared.context.Context.{Context}
use Rattle.dns_zone_file.specs.declared.context.StartOfAuthority.{StartOfAuthority}
use Rattle.dns_zone_file.specs.declared.error.ZoneFileError.{ZoneFileError}
use Rattle.dns_zone_file.specs.Context.{ReadsRecord, soa_of, minimum_of, ttl_for, after_record, included, resumed}
use Rattle.dns_zone_file.specs.declared.types.Types.{Types}
use Rattle.dns_zone_file.specs.Data.{ReadsIn}
use Rattle.dns_zone_file.specs.Entry.{Inclusion}
use Rattle.dns_zone_file.specs.declared.error.EntryFault.{EntryFault}
use Rattle.dns_zone_file.specs.Generate.{Generation, AddsFirst, no_entry, bad_tokens, bad_record, one_record, AddsLine, no_text, of_text, AddsNumber, of_line, AddsEach, no_more, bad_number, one_more}
use Rattle.dns_zone_file.specs.Generate as generate
use Rattle.dns_zone_file.specs.Parsed.{IsParsedRecord, IsParsedSet, AreDistinctSets, is_singleton_type}
use Rattle.dns_zone_file.specs.Parsing.{Includes, Applies, for_nothing, for_origin, for_ttl, for_generate, for_record, IncludesText, Parses, ended, bad_text, bad_entry, applied, too_deep, not_found, bad_included, past_included, start_origin, ParsesIn}
use Rattle.dns_zone_file.specs.RecordSets.{is_set_of, is_set_for, set_of, single_set, inserted_in, has_other_class}
use Rattle.dns_zone_file.proofs.DataLaws.{named_type}
use Rattle.dns_zone_file.proofs.DistinctLaws.{inserted_distinct, last_too, none_distinct, one_distinct}
use Rattle.dns_zone_file.proofs.RecordSetsLaws.{both, same_number, one_type}
use Rattle.dns_zone_file.proofs.ValueLaws.{at_some, at_ok, some_of, mapped, either_of, IsQualified, owner_qualified, origin_qualified, inclusion_qualified, FitsTtl, default_fits, fields_fit, minimum_fits}

-- ---- insertion in a set

added_all : {A : Type 0} (P : A → Type 0) (t : RecordType) (xs : List A) (x : A) → AllByRecursion P xs → P x → AllByRecursion P (added t xs x)
added_all P types.CNAME xs x all p = (p, tt)
added_all P types.SOA xs x all p = (p, tt)
added_all P other xs x all p = last_too P xs x all p

added_some : {A : Type 0} (t : RecordType) (xs : List A) (x : A) → 0 < length (added t xs x)
added_some types.CNAME xs x = omega arith
added_some types.SOA xs x = omega arith
added_some other xs x = omega (arith, length-append xs (x ∷ []))

pub if_either : {A : Type 0} (P : A → Type 0) (b : Bool) (x y : A) → P x → P y → P (cond b x y)
if_either P true x y p q = p
if_either P false x y p q = q

pub inserted_all : (P : Record → Type 0) (xs : List Record) (r : Record) → AllByRecursion P xs → P r → AllByRecursion P (inserted record_data xs r)
inserted_all P xs r all p =
    if_either (λ (l : List Record). AllByRecursion P l) (is_inserted record_data xs r) (added (data_type r.rdata) xs r) xs
    (added_all P (data_type r.rdata) xs r all p) all

inserted_some : (xs : List Record) (r : Record) → 0 < length xs → 0 < length (inserted record_data xs r)
inserted_some xs r some =
    if_either (λ (l : List Record). 0 < length l) (is_inserted record_data xs r) (added (data_type r.rdata) xs r) xs
    (added_some (data_type r.rdata) xs r) some

added_single : {A : Type 0} (t : RecordType) (xs : List A) (x : A) → is_singleton_type t ≡ true → length (added t xs x) ≡ 1
added_single types.CNAME xs x e = refl
added_single types.SOA xs x e = refl
added_single other xs x e = absurd (cc)

inserted_single : (t : RecordType) (xs : List Record) (r : Record) → data_type r.rdata ≡ t → (is_singleton_type t ≡ true → length xs ≡ 1) → is_singleton_type t ≡ true → length (inserted record_data xs r) ≡ 1
inserted_single t xs r e one h =
    if_either (λ (l : List Record). length l ≡ 1) (is_inserted record_data xs r) (added (data_type r.rdata) xs r) xs
    (added_single (data_type r.rdata) xs r (subst (λ (u : RecordType). is_singleton_type u ≡ true) (sym e) h)) (one h)

-- a set with other records
abbrev with_records : RecordSetValue → ℕ → List Record → RecordSetValue
with_records s ttl records = record s { ttl = ttl; serial = 0; records = records }

moved : (s : RecordSetValue) (ttl : ℕ) (records xs : List Record) → AllByRecursion (IsParsedRecord s) xs → AllByRecursion (IsParsedRecord (with_records s ttl records)) xs
moved s ttl records [] all = tt
moved s ttl records (x ∷ xs) all =
    let p = all.0 in (
      record { fqdn = p.fqdn; owner = p.owner; dns_class = p.dns_class; record_type = p.record_type; ttl_fits = p.ttl_fits; types = p.types; origin = p.origin; of_type = p.of_type; tokens = p.tokens; rdata = p.rdata },
      moved s ttl records xs all.1,
    )

with_one_more : (s : RecordSetValue) (r : Record) → IsParsedSet s → IsParsedRecord s r → IsParsedSet (with_record s r 0)
with_one_more s r p q =
    let records : List Record = inserted record_data s.records r in
    if_either IsParsedSet (accepts_record s r) (with_records s r.ttl records) s
    (record {
      fqdn = p.fqdn;
      type_named = p.type_named;
      filled = inserted_some s.records r p.filled;
      records = moved s r.ttl records records (inserted_all (IsParsedRecord s) s.records r p.records q);
      distinct = inserted_distinct s.records r p.distinct;
      single = inserted_single s.record_type s.records r q.record_type p.single;
    })
    p

-- ---- insertion in sets

-- a record of an entry
pub record IsParsed (r : Record) : Type 0 where
  pub fqdn : r.name.is_fqdn ≡ true
  pub ttl_fits : FitsTtl r.ttl
  pub types : Types
  pub origin : DomainName
  pub of_type : RecordType
  pub tokens : List Lexeme
  pub rdata : ReadsIn types origin of_type tokens r.rdata

in_set : (s : RecordSetValue) (r : Record) → IsParsed r → same_name r.name s.name ≡ true → class_number r.dns_class ≡ class_number s.dns_class → data_type r.rdata ≡ s.record_type → IsParsedRecord s r
in_set s r p owner class type = record {
  fqdn = p.fqdn;
  owner = owner;
  dns_class = class;
  record_type = type;
  ttl_fits = p.ttl_fits;
  types = p.types;
  origin = p.origin;
  of_type = p.of_type;
  tokens = p.tokens;
  rdata = p.rdata;
}

one_record_set : (r : Record) → IsParsed r → IsParsedSet (single_set r)
one_record_set r p = record {
  fqdn = p.fqdn;
  type_named = named_type p.types p.origin p.of_type p.tokens r.rdata p.rdata;
  filled = omega arith;
  records = (in_set (single_set r) r p (same_name-equivalence.refl r.name) refl refl, tt);
  distinct = one_distinct _ r;
  single = λ _. refl;
}

first_false : (a b : Bool) → (a || b) ≡ false → a ≡ false
first_false true b e = absurd (cc)
first_false false b e = refl

same_class : (a b : ℕ) → not (a == b) ≡ false → b ≡ a
same_class a b e = grind (arith, nat_tests)

pub inserted_sets : (sets : List RecordSetValue) (r : Record) → AllByRecursion IsParsedSet sets → IsParsed r → has_other_class sets r ≡ false → AllByRecursion IsParsedSet (inserted_in sets r)
inserted_sets [] r all p fits = (one_record_set r p, tt)
inserted_sets (s ∷ more) r all p fits = at (is_set_for r s) refl fits (inserted_sets more r all.1 p)
  where
    at : (b : Bool) → is_set_for r s ≡ b
        → ((b && not (class_number s.dns_class == class_number r.dns_class)) || has_other_class more r) ≡ false
        → (has_other_class more r ≡ false → AllByRecursion IsParsedSet (inserted_in more r))
        → AllByRecursion IsParsedSet (if b then with_record s r 0 ∷ more else s ∷ inserted_in more r)
    at true is fits others =
        let found = both (same_name r.name s.name) (type_number (data_type r.rdata) == type_number s.record_type) is in
        let named = named_type p.types p.origin p.of_type p.tokens r.rdata p.rdata in (
          with_one_more s r all.0 (in_set s r p found.0
              (same_class (class_number s.dns_class) (class_number r.dns_class) (first_false (not (class_number s.dns_class == class_number r.dns_class)) (has_other_class more r) fits))
              (one_type (data_type r.rdata) s.record_type named all.0.type_named (same_number (type_number (data_type r.rdata)) (type_number s.record_type) found.1))),
          all.1,
        )
    at false is fits others = (all.0, others fits)

-- ---- sets stay

same_set : (owner : DomainName) (t : RecordType) (s : RecordSetValue) (r : Record) → is_set_of owner t (with_record s r 0) ≡ is_set_of owner t s
same_set owner t s r = at (accepts_record s r)
  where
    at : (b : Bool) → is_set_of owner t (cond b (with_records s r.ttl (inserted record_data s.records r)) s) ≡ is_set_of owner t s
    at true = refl
    at false = refl

equal_both_ways : (a b : ℕ) → (a == b) ≡ (b == a)
equal_both_ways a b = grind (arith, nat_tests)

pub set_both_ways : (a b : DomainName) (t u : RecordType) → (same_name a b && (type_number t == type_number u)) ≡ (same_name b a && (type_number u == type_number t))
set_both_ways a b t u = λ i. same_name-equivalence.symm a b i && equal_both_ways (type_number t) (type_number u) i

AreOthers : DomainName → RecordType → List RecordSetValue → Type 0
AreOthers owner t sets = AllByRecursion (λ (s : RecordSetValue). is_set_of owner t s ≡ false) sets

still_others : (sets : List RecordSetValue) (r : Record) (owner : DomainName) (t : RecordType) → is_set_of owner t (single_set r) ≡ false → AreOthers owner t sets → AreOthers owner t (inserted_in sets r)
unfolding AreOthers
still_others [] r owner t e all = (e, tt)
still_others (s ∷ more) r owner t e all =
    if_either (AreOthers owner t) (is_set_for r s) (with_record s r 0 ∷ more) (s ∷ inserted_in more r)
    (same_set owner t s r ∙ all.0, all.1) (all.0, still_others more r owner t e all.1)

-- a set that is inserted in is another than those after it
still_first : (more : List RecordSetValue) (s : RecordSetValue) (r : Record) → AreOthers s.name s.record_type more → AreOthers (with_record s r 0).name (with_record s r 0).record_type more
still_first more s r all = at (accepts_record s r)
  where
    at : (b : Bool) → AreOthers (cond b (with_records s r.ttl (inserted record_data s.records r)) s).name (cond b (with_records s r.ttl (inserted record_data s.records r)) s).record_type more
    at true = all
    at false = all

inserted_apart : (sets : List RecordSetValue) (r : Record) → AreDistinctSets sets → AreDistinctSets (inserted_in sets r)
unfolding IsDistinct AreOthers
inserted_apart [] r d = (tt, tt)
inserted_apart (s ∷ more) r d = at (is_set_for r s) refl (inserted_apart more r d.1)
  where
    at : (b : Bool) → is_set_for r s ≡ b → AreDistinctSets (inserted_in more r) → AreDistinctSets (if b then with_record s r 0 ∷ more else s ∷ inserted_in more r)
    at true is later = (still_first more s r d.0, d.1)
    at false is later = (still_others more r s.name s.record_type (set_both_ways s.name r.name s.record_type (data_type r.rdata) ∙ is) d.0, later)

find_still : {A : Type 0} (b : Bool) (x y : A) (o p : Option A) → (IsSome o → IsSome p) → IsSome (cond b (Some x) o) → IsSome (cond b (Some y) p)
find_still true x y o p h e = refl
find_still false x y o p h e = h e

find_first : {A : Type 0} (b : Bool) (x : A) (o : Option A) → b ≡ true → IsSome (cond b (Some x) o)
find_first true x o e = refl
find_first false x o e = absurd (cc)

find_later : {A : Type 0} (b : Bool) (x : A) (o : Option A) → IsSome o → IsSome (cond b (Some x) o)
find_later true x o e = refl
find_later false x o e = e

still_set : (sets : List RecordSetValue) (r : Record) (owner : DomainName) (t : RecordType) → IsSome (set_of sets owner t) → IsSome (set_of (inserted_in sets r) owner t)
still_set [] r owner t e = absurd (cc)
still_set (s ∷ more) r owner t e =
    if_either (λ (l : List RecordSetValue). IsSome (set_of l owner t)) (is_set_for r s) (with_record s r 0 ∷ more) (s ∷ inserted_in more r)
    (subst (λ (b : Bool). IsSome (cond b (Some (with_record s r 0)) (set_of more owner t))) (sym (same_set owner t s r))
    (find_still (is_set_of owner t s) s (with_record s r 0) (set_of more owner t) (set_of more owner t) (λ h. h) e))
    (find_still (is_set_of owner t s) s s (set_of more owner t) (set_of (inserted_in more r) owner t) (still_set more r owner t) e)

both_true : (a b : Bool) → a ≡ true → b ≡ true → (a && b) ≡ true
both_true true b e f = f
both_true false b e f = absurd (cc)

equal_to_itself : (n : ℕ) → (n == n) ≡ true
equal_to_itself n = grind (arith, nat_tests)

found_set : (sets : List RecordSetValue) (r : Record) → IsSome (set_of (inserted_in sets r) r.name (data_type r.rdata))
found_set [] r =
    find_first (is_set_for r (single_set r)) (single_set r) None
    (both_true (same_name r.name r.name) (type_number (data_type r.rdata) == type_number (data_type r.rdata)) (same_name-equivalence.refl r.name) (equal_to_itself (type_number (data_type r.rdata))))
found_set (s ∷ more) r = at (is_set_for r s) refl (found_set more r)
  where
    at : (b : Bool) → is_set_for r s ≡ b → IsSome (set_of (inserted_in more r) r.name (data_type r.rdata))
        → IsSome (set_of (if b then with_record s r 0 ∷ more else s ∷ inserted_in more r) r.name (data_type r.rdata))
    at true is later = find_first (is_set_for r (with_record s r 0)) (with_record s r 0) (set_of more r.name (data_type r.rdata)) (same_set r.name (data_type r.rdata) s r ∙ is)
    at false is later = find_later (is_set_for r s) s (set_of (inserted_in more r) r.name (data_type r.rdata)) later

-- ---- contexts

-- the owner and the minimum of an SOA record of these sets
pub record IsParsedSoa (sets : List RecordSetValue) (soa : StartOfAuthority) : Type 0 where
  pub fqdn : IsQualified soa.owner
  pub minimum_fits : FitsTtl soa.minimum
  pub has_set : IsSome (set_of sets soa.owner types.SOA)

pub record IsParsedContext (c : Context) : Type 0 where
  pub origin : IsQualified c.origin
  pub owner : IfSome c.owner IsQualified
  pub default_ttl : IfSome c.default_ttl FitsTtl
  pub last_ttl : IfSome c.last_ttl FitsTtl
  pub sets : AllByRecursion IsParsedSet c.sets
  pub distinct : AreDistinctSets c.sets
  pub first_soa : IfSome c.first_soa (IsParsedSoa c.sets)

soa_stays : (sets : List RecordSetValue) (r : Record) (soa : StartOfAuthority) → IsParsedSoa sets soa → IsParsedSoa (inserted_in sets r) soa
soa_stays sets r soa p = record { fqdn = p.fqdn; minimum_fits = p.minimum_fits; has_set = still_set sets r soa.owner types.SOA p.has_set }

new_soa : (sets : List RecordSetValue) (r : Record) → IsParsed r → IfSome (soa_of r) (IsParsedSoa (inserted_in sets r))
new_soa sets r p = at r.rdata refl p.rdata
  where
    at : (d : RData) → data_type r.rdata ≡ data_type d → ReadsIn p.types p.origin p.of_type p.tokens d
        → IfSome (elim d as (λ _. Option StartOfAuthority) [ of.SOA soa ↦ Some (record { owner = r.name; minimum = soa.minimum }) | other ↦ None ]) (IsParsedSoa (inserted_in sets r))
    at (of.SOA soa) e q = record {
      fqdn = p.fqdn;
      minimum_fits = minimum_fits p.types p.origin p.of_type p.tokens (of.SOA soa) q;
      has_set = subst (λ (t : RecordType). IsSome (set_of (inserted_in sets r) r.name t)) e (found_set sets r);
    }
    at other e q = tt

-- ---- records

stated_fits : (c : Context) (tokens : List Lexeme) (stated : Option ℕ) (r : Record) → ReadsRecord c tokens stated r → IfSome stated FitsTtl
stated_fits c tokens stated r reads =
    subst (λ (o : Option ℕ). IfSome o FitsTtl) reads.stated_is
    (at_ok (λ f. IfSome f.ttl FitsTtl) reads.between (fields_fit c.types None None (drop 1 tokens) tt))

ttl_fits : (c : Context) (stated : Option ℕ) (d : RData) → IsParsedContext c → IfSome stated FitsTtl → IfSome (minimum_of d) FitsTtl → IfSome (ttl_for c stated d) FitsTtl
ttl_fits c stated d h s m =
    let first : Option ℕ = option_map (λ (soa : StartOfAuthority). soa.minimum) c.first_soa in
    let minima : Option ℕ = or_else (minimum_of d) first in
    either_of FitsTtl stated (or_else c.default_ttl (or_else c.last_ttl minima)) s
    (either_of FitsTtl c.default_ttl (or_else c.last_ttl minima) h.default_ttl
    (either_of FitsTtl c.last_ttl minima h.last_ttl
    (either_of FitsTtl (minimum_of d) first m
    (mapped (λ (soa : StartOfAuthority). soa.minimum) FitsTtl c.first_soa
    (some_of (IsParsedSoa c.sets) (λ soa. FitsTtl soa.minimum) c.first_soa (λ soa p. p.minimum_fits) h.first_soa)))))

parsed_record : (c : Context) (tokens : List Lexeme) (stated : Option ℕ) (r : Record) → IsParsedContext c → ReadsRecord c tokens stated r → IsParsed r
parsed_record c tokens stated r h reads = record {
  fqdn = at_ok IsQualified reads.owner (owner_qualified c tokens h.origin h.owner);
  ttl_fits = at_some FitsTtl reads.ttl (ttl_fits c stated r.rdata h (stated_fits c tokens stated r reads) (minimum_fits c.types c.origin reads.fields.record_type reads.fields.rdata r.rdata reads.rdata));
  types = c.types;
  origin = c.origin;
  of_type = reads.fields.record_type;
  tokens = reads.fields.rdata;
  rdata = reads.rdata;
}

after_one : (c : Context) (tokens : List Lexeme) (stated : Option ℕ) (r : Record) → IsParsedContext c → ReadsRecord c tokens stated r → has_other_class c.sets r ≡ false → IsParsedContext (after_record c stated r)
after_one c tokens stated r h reads fits =
    let p = parsed_record c tokens stated r h reads in
    record {
      origin = h.origin;
      owner = p.fqdn;
      default_ttl = h.default_ttl;
      last_ttl = either_of FitsTtl stated c.last_ttl (stated_fits c tokens stated r reads) h.last_ttl;
      sets = inserted_sets c.sets r h.sets p fits;
      distinct = inserted_apart c.sets r h.distinct;
      first_soa = either_of (IsParsedSoa (inserted_in c.sets r)) c.first_soa (soa_of r)
          (some_of (IsParsedSoa c.sets) (IsParsedSoa (inserted_in c.sets r)) c.first_soa (soa_stays c.sets r) h.first_soa)
          (new_soa c.sets r p);
    }

-- ---- texts

with_origin : (c : Context) (origin : DomainName) → IsParsedContext c → IsQualified origin → IsParsedContext (record c { origin = origin })
with_origin c origin h q = record { origin = q; owner = h.owner; default_ttl = h.default_ttl; last_ttl = h.last_ttl; sets = h.sets; distinct = h.distinct; first_soa = h.first_soa }

-- records that a directive makes

after_first : {c : Context} {p : LexerState} {outcome : Result Context EntryFault} → AddsFirst c p outcome → IsParsedContext c → IfOk outcome IsParsedContext
after_first (no_entry last) h = tt
after_first (bad_tokens refused) h = tt
after_first (bad_record lexed refused) h = tt
after_first {c} (one_record {tokens = tokens} lexed adds) h = subst IsParsedContext (sym adds.after) (after_one c tokens adds.stated adds.added h adds.reads adds.class_fits)

after_line : {c : Context} {line : List ℕ} {outcome : Result Context EntryFault} → AddsLine c line outcome → IsParsedContext c → IfOk outcome IsParsedContext
after_line (no_text other) h = tt
after_line (of_text is first) h = after_first first h

after_number : {c : Context} {template : List ℕ} {number : ℕ} {outcome : Result Context EntryFault} → AddsNumber c template number outcome → IsParsedContext c → IfOk outcome IsParsedContext
after_number (generate.bad_text refused) h = tt
after_number (of_line expands line) h = after_line line h

after_each : {g : Generation} {place count : ℕ} {c : Context} {outcome : Result Context EntryFault} → AddsEach g place count c outcome → IsParsedContext c → IfOk outcome IsParsedContext
after_each no_more h = h
after_each (bad_number refused) h = tt
after_each (one_more adds rest) h = after_each rest (after_number adds h)

after_entry : {c next : Context} {tokens : List Lexeme} → Applies c tokens next → IsParsedContext c → IsParsedContext next
after_entry (for_nothing entry) h = h
after_entry {c} (for_origin {arguments = arguments} {origin = origin} entry reads) h = with_origin c origin h (at_ok IsQualified reads (origin_qualified c.origin arguments h.origin))
after_entry {c} (for_ttl {arguments = arguments} {ttl = ttl} entry reads) h =
    record { origin = h.origin; owner = h.owner; default_ttl = at_ok FitsTtl reads (default_fits arguments); last_ttl = h.last_ttl; sets = h.sets; distinct = h.distinct; first_soa = h.first_soa }
after_entry (for_generate entry is reads adds) h = after_each adds h
after_entry {c} {tokens = tokens} (for_record entry plain adds) h = subst IsParsedContext (sym adds.after) (after_one c tokens adds.stated adds.added h adds.reads adds.class_fits)

at_include : {c : Context} {tokens : List Lexeme} {i : Inclusion} → IncludesText c tokens i → IsParsedContext c → IsParsedContext (included c i.origin)
at_include {c} {i = i} w h = with_origin c i.origin h (at_ok (λ (x : Inclusion). IsQualified x.origin) w.read (inclusion_qualified c.origin w.arguments h.origin))

after_text : (c after : Context) → IsParsedContext c → IsParsedContext after → IsParsedContext (resumed c after)
after_text c after h k = record { origin = h.origin; owner = h.owner; default_ttl = h.default_ttl; last_ttl = h.last_ttl; sets = k.sets; distinct = k.distinct; first_soa = k.first_soa }

at_end : {includes : Includes} {depth : ℕ} {c : Context} {p : LexerState} {outcome : Result Context ZoneFileError} → Parses includes depth c p outcome → IsParsedContext c → IfOk outcome IsParsedContext
at_end (ended last) h = h
at_end (bad_text refused) h = tt
at_end (bad_entry lexed refused) h = tt
at_end (applied lexed applies rest) h = at_end rest (after_entry applies h)
at_end (too_deep lexed w deep) h = tt
at_end (not_found lexed w depth none) h = tt
at_end (bad_included lexed w depth text refused) h = tt
at_end {c = c} (past_included {after = after} lexed w depth text within rest) h = at_end rest (after_text c after h (at_end within (at_include w h)))

start_qualified : (origin : Option DomainName) → IsQualified (start_origin origin)
start_qualified None = refl
start_qualified (Some origin) = refl

pub parsed_file : (types : Types) (includes : Includes) (origin : Option DomainName) (text : List ℕ) (c : Context) → ParsesIn types includes origin text (Ok c) → IsParsedContext c
parsed_file types includes origin text c parses =
    at_end parses (record { origin = start_qualified origin; owner = tt; default_ttl = tt; last_ttl = tt; sets = tt; distinct = none_distinct _; first_soa = tt })

pub soa_qualified : (c : Context) → IsParsedContext c → IfSome c.first_soa (λ soa. soa.owner.is_fqdn ≡ true)
soa_qualified c h = some_of (IsParsedSoa c.sets) (λ soa. IsQualified soa.owner) c.first_soa (λ soa p. p.fqdn) h.first_soa

pub soa_set : (c : Context) → IsParsedContext c → IfSome c.first_soa (λ soa. IsSome (set_of c.sets soa.owner types.SOA))
soa_set c h = some_of (IsParsedSoa c.sets) (λ soa. IsSome (set_of c.sets soa.owner types.SOA)) c.first_soa (λ soa p. p.has_set) h.first_soa
