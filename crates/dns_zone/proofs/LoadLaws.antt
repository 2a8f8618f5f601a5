-- Zones of zone files: sets that were parsed are sound, and what makes a zone.
use Rattle.std.proofs.Common.{◌≡◌, ◌≢◌, ◌||◌, ◌&&◌, not, ◌∙◌, ℕ, Bool, true, cond, false, List, [], ◌∷◌, refl, sym, ap, subst, arith, Option, Some, None, Result, Ok, Err}
use Rattle.std.specs.Prelude.{nat_lt, option_map, IfSome, IfOk, IfErr}
use Rattle.std.specs.List.{list_any, AllByRecursion}
use Rattle.std.proofs.lemmas.Bool.{ltb-false}
use Rattle.dns_wire.specs.declared.codes.record_type.RecordType.{RecordType}
use Rattle.dns_wire.specs.declared.codes.record_type.RecordType.TheVariants as kinds
use Rattle.dns_names.specs.Name.{DomainName}
use Rattle.dns_data.specs.rdata.{data_type, whole_len}
use Rattle.dns_zone_file.proofs.DataLaws.{sound_in, not_opt_in, not_tsig_in, has_data_in}
use Rattle.dns_messages.specs.Section.{is_opt_type, is_tsig_type}
use Rattle.dns_records.specs.Record.{Record}
use Rattle.dns_records.specs.RecordSet.{RecordSetValue}
use Rattle.dns_zone_file.specs.declared.parser.ZoneRecords.{ZoneRecords}
use Rattle.dns_zone_file.specs.Parsed.{IsParsedRecord, IsParsedSet}
use Rattle.dns_zone_file.specs.declared.error.ZoneFileError.{ZoneFileError}
use Rattle.dns_zone_file.specs.declared.types.Types.{Types}
use Rattle.dns_zone_file.specs.Parsing.{Includes, ParsesIn, ZoneFile, HasRecords}
use Rattle.dns_zone.specs.declared.zone.ZoneFault.{ZoneFault}
use Rattle.dns_zone.specs.declared.zone.ZoneFault.TheVariants as fault
use Rattle.dns_zone.specs.Load.{ReadsZoneIn, bad_text, bad_zone, good_zone, zone_origin, is_internet, is_inside, is_soa, is_apex, has_long_data, fault_of}
use Rattle.dns_zone.specs.Rows.{ZoneContent, rows_of, rows_of_sets, IsSoundRow, AreSoundRows, AreSoundSets}

-- ---- parsed sets are sound

not_opt_type : (t : RecordType) → t ≢ kinds.OPT → is_opt_type t ≡ false
not_opt_type kinds.OPT h = absurd (h refl)
not_opt_type other h = refl

not_tsig_type : (t : RecordType) → t ≢ kinds.TSIG → is_tsig_type t ≡ false
not_tsig_type kinds.TSIG h = absurd (h refl)
not_tsig_type other h = refl

or_false : (a b : Bool) → (a || b) ≡ false → (a ≡ false) × (b ≡ false)
or_false true b e = absurd (cc)
or_false false b e = (refl, e)

abbrev is_long : Record → Bool
is_long r = nat_lt 65535 (whole_len r.rdata)

short_row : (s : RecordSetValue) (r : Record) → IsParsedRecord s r → is_long r ≡ false → IsSoundRow (record { ttl = r.ttl; rdata = r.rdata })
short_row s r p e =
    let short = ltb-false 65535 (whole_len r.rdata) e in
    record {
      ttl_fits = p.ttl_fits;
      rdata = record {
        sound = sound_in p.types p.origin p.of_type p.tokens r.rdata p.rdata (omega (arith, short));
        not_opt = not_opt_type (data_type r.rdata) (not_opt_in p.types p.origin p.of_type p.tokens r.rdata p.rdata);
        not_tsig = not_tsig_type (data_type r.rdata) (not_tsig_in p.types p.origin p.of_type p.tokens r.rdata p.rdata);
        has_data = has_data_in p.types p.origin p.of_type p.tokens r.rdata p.rdata;
      };
    }

short_rows : (s : RecordSetValue) (records : List Record) → AllByRecursion (IsParsedRecord s) records → list_any is_long records ≡ false → AreSoundRows (rows_of records)
short_rows s [] all e = tt
short_rows s (r ∷ rs) all e =
    let short = or_false (is_long r) (list_any is_long rs) e in
    (short_row s r all.0 short.0, short_rows s rs all.1 short.1)

types_of : (s : RecordSetValue) (records : List Record) → AllByRecursion (IsParsedRecord s) records → AllByRecursion (λ r. data_type r.rdata ≡ s.record_type) records
types_of s [] all = tt
types_of s (r ∷ rs) all = (all.0.record_type, types_of s rs all.1)

short_sets : (sets : List RecordSetValue) → AllByRecursion IsParsedSet sets → list_any has_long_data sets ≡ false → AreSoundSets sets
short_sets [] all e = tt
short_sets (s ∷ ss) all e =
    let short = or_false (has_long_data s) (list_any has_long_data ss) e in (
      record {
        fqdn = all.0.fqdn;
        type_named = all.0.type_named;
        filled = all.0.filled;
        rows = short_rows s s.records all.0.records short.0;
        of_type = types_of s s.records all.0.records;
        distinct = all.0.distinct;
        single = all.0.single;
      },
      short_sets ss all.1 short.1,
    )

-- ---- faults

passed : (b : Bool) (x : ZoneFault) (rest : Option ZoneFault) → cond b (Some x) rest ≡ None → (b ≡ false) × (rest ≡ None)
passed true x rest e = absurd (cc)
passed false x rest e = (refl, e)

-- what a list of sets without a fault is like
pub record AreFaultless (apex : DomainName) (sets : List RecordSetValue) : Type 0 where
  pub internet : list_any (λ s. not (is_internet s)) sets ≡ false
  pub inside : list_any (λ s. not (is_inside apex s)) sets ≡ false
  pub soa : list_any (λ s. is_soa s && is_apex apex s) sets ≡ true
  pub elsewhere : list_any (λ s. is_soa s && not (is_apex apex s)) sets ≡ false
  pub short : list_any has_long_data sets ≡ false

not_false : (b : Bool) → not b ≡ false → b ≡ true
not_false true e = refl
not_false false e = absurd (cc)

pub faultless : (apex : DomainName) (sets : List RecordSetValue) → fault_of (Some apex) sets ≡ None → AreFaultless apex sets
faultless apex sets e =
    let internet = passed _ fault.NotInternet _ e in
    let inside = passed _ fault.OutsideOrigin _ internet.1 in
    let soa = passed _ fault.NoSoa _ inside.1 in
    let elsewhere = passed _ fault.SoaElsewhere _ soa.1 in
    record {
      internet = internet.0;
      inside = inside.0;
      soa = not_false _ soa.0;
      elsewhere = elsewhere.0;
      short = (passed _ fault.DataTooLong _ elsewhere.1).0;
    }

pub is_faultless : (apex : DomainName) (sets : List RecordSetValue) → AreFaultless apex sets → fault_of (Some apex) sets ≡ None
is_faultless apex sets f =
    λ i. cond (f.internet i) (Some fault.NotInternet)
    (cond (f.inside i) (Some fault.OutsideOrigin)
    (cond (not (f.soa i)) (Some fault.NoSoa)
    (cond (f.elsewhere i) (Some fault.SoaElsewhere)
    (cond (f.short i) (Some fault.DataTooLong) None))))

none_is_long : (apex : DomainName) (sets : List RecordSetValue) → fault_of (Some apex) sets ≡ None → list_any has_long_data sets ≡ false
none_is_long apex sets e = (faultless apex sets e).short

-- ---- the origin

pub owner_fqdn : {A : Type 0} (owner : A → DomainName) (soa : Option A) → IfSome soa (λ soa. (owner soa).is_fqdn ≡ true)
    → IfSome (option_map owner soa) (λ o. o.is_fqdn ≡ true)
owner_fqdn owner None h = tt
owner_fqdn owner (Some soa) h = h

pub origin_fqdn : (origin soa_owner : Option DomainName) → IfSome soa_owner (λ o. o.is_fqdn ≡ true)
    → IfSome (zone_origin origin soa_owner) (λ o. o.is_fqdn ≡ true)
origin_fqdn (Some o) soa_owner h = refl
origin_fqdn None soa_owner h = h

-- ---- zones

pub reads_error : (types : Types) (includes : Includes) (origin found : Option DomainName) (text : List ℕ) (file : ZoneFile) (error : ZoneFileError)
    → file ≡ record { text = text; includes = includes; origin = found; types = types } → found ≡ origin
    → ParsesIn file.types file.includes file.origin file.text (Err error) → ReadsZoneIn types includes origin text (Err (fault.Parse error))
reads_error types includes origin found text file error e f parses =
    let same : ◌≡◌ {A = ZoneFile} file (record { text = text; includes = includes; origin = origin; types = types }) =
    e ∙ (λ i. record { text = text; includes = includes; origin = f i; types = types }) in
    bad_text (subst (λ (g : ZoneFile). ParsesIn g.types g.includes g.origin g.text (Err error)) same parses)

pub sound_sets : (origin : Option DomainName) (apex : DomainName) (sets : List RecordSetValue) → AllByRecursion IsParsedSet sets
    → origin ≡ Some apex → fault_of origin sets ≡ None → AreSoundSets sets
sound_sets origin apex sets all is e = short_sets sets all (none_is_long apex sets (ap (λ o. fault_of o sets) (sym is) ∙ e))

module _ (types : Types) (includes : Includes) (origin : Option DomainName) (text : List ℕ) (records : ZoneRecords) (found : Option DomainName)
    (has : HasRecords (record { text = text; includes = includes; origin = origin; types = types }) records)
    (e : found ≡ zone_origin origin records.soa_owner) where
  reads_zone : (zone : ZoneContent) → found ≡ Some zone.origin → zone.rows ≡ rows_of_sets records.sets → fault_of found records.sets ≡ None
      → ReadsZoneIn types includes origin text (Ok zone)
  reads_zone zone is rows f =
      let same : ◌≡◌ {A = ZoneContent} (record { origin = zone.origin; rows = rows_of_sets records.sets }) zone =
      λ i. record { origin = zone.origin; rows = sym rows i } in
      subst (λ z. ReadsZoneIn types includes origin text (Ok z)) same
      (good_zone has (sym e ∙ is) (ap (λ o. fault_of o records.sets) (sym is) ∙ f))

  -- the outcome of what is found is that of the text
  pub reads_ok : (r : Result ZoneContent ZoneFault) → IfOk r (λ zone. found ≡ Some zone.origin) → IfOk r (λ zone. zone.rows ≡ rows_of_sets records.sets)
      → IfOk r (λ zone. fault_of found records.sets ≡ None) → IfOk r (λ zone. ReadsZoneIn types includes origin text (Ok zone))
  reads_ok (Ok zone) is rows f = reads_zone zone is rows f
  reads_ok (Err refusal) is rows f = tt

  pub reads_refusal : (r : Result ZoneContent ZoneFault) → IfErr r (λ refusal. refusal ≢ fault.Memory → fault_of found records.sets ≡ Some refusal)
      → IfErr r (λ refusal. refusal ≢ fault.Memory → ReadsZoneIn types includes origin text (Err refusal))
  reads_refusal (Ok zone) f = tt
  reads_refusal (Err refusal) f = λ other. bad_zone has (ap (λ o. fault_of o records.sets) (sym e) ∙ f other)
