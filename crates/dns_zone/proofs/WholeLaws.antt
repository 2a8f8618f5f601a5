-- The sets of a zone whose rows are well formed.
use Rattle.std.proofs.Common.{◌≡◌, ◌==◌, ◌<◌, ◌^◌, ◌∙◌, ℕ, Bool, true, false, cond, not, ◌&&◌, ◌||◌, List, [], ◌∷◌, ◌++◌, length, refl, sym, ap, subst, arith, Option, Some, unwrap_or}
use Rattle.std.specs.Prelude.{IfSome, nat_lt}
use Rattle.std.proofs.lemmas.List.{append_assoc, length-map}
use Rattle.std.proofs.lemmas.Bool.Decides.{nat_tests}
use Rattle.std.specs.FinMap as rows_map
use Rattle.std.specs.List as list
use Rattle.std.specs.List.{list_any, AllByRecursion, IsDistinct}
use Rattle.dns_wire.specs.codes.RecordType.{type_number, type_of}
use Rattle.dns_wire.specs.declared.codes.record_type.RecordType.{RecordType}
use Rattle.dns_wire.specs.declared.codes.record_type.RecordType.TheVariants as types
use Rattle.dns_names.specs.Name.{DomainName}
use Rattle.dns_data.specs.rdata.{data_type, same_data, whole_len}
use Rattle.dns_records.specs.declared.row.Row.{Row}
use Rattle.dns_records.specs.Record.{Record}
use Rattle.dns_records.specs.RecordSet.{RecordSetValue, AreDistinct, record_data}
use Rattle.dns_zone_file.specs.Parsed.{is_singleton_type}
use Rattle.dns_zone.specs.Load.{is_internet, is_inside, is_soa, is_apex, has_long_data}
use Rattle.dns_zone.specs.Printed.{AreZoneSets}
use Rattle.dns_zone.specs.Rows.{Key, key, ZoneContent, set_key, row_of, rows_of, rows_of_sets, row_data, AreSoundRows, IsSoundSet, AreSoundSets, AreRowsAt, IsZone}
use Rattle.dns_zone.specs.Sets.{set_at, AreInOrder}
use Rattle.dns_zone.proofs.FirstLaws.{others_before}
use Rattle.dns_zone.proofs.KeptLaws.{AreApart, apart_of_order, distinct_of_apart, find_behind, none_pass, share_key, start_first}
use Rattle.dns_zone.proofs.LoadLaws.{AreFaultless, is_faultless}
use Rattle.dns_zone.proofs.RowLaws.{below_lower, get-sets, keys_tie, rows_if, same_lower, tied}

-- what each set of a zone is beside its rows
pub record IsPlainSet (s : RecordSetValue) : Type 0 where
  pub fqdn : s.name.is_fqdn ≡ true
  pub internet : is_internet s ≡ true
  pub type_named : type_of (type_number s.record_type) ≡ s.record_type

record IsWhole (origin : DomainName) (s : RecordSetValue) : Type 0 where
  pub plain : IsPlainSet s
  pub rows : AreRowsAt origin (set_key s) (rows_of s.records)

-- ---- a set by its rows

types_back : (t : RecordType) (records : List Record) → type_of (type_number t) ≡ t → AreSoundRows (rows_of records)
    → AllByRecursion (λ (row : Row). type_number (data_type row.rdata) ≡ type_number t) (rows_of records) → AllByRecursion (λ r. data_type r.rdata ≡ t) records
types_back t [] named sound all = tt
types_back t (r ∷ rs) named sound all =
    (sym sound.0.rdata.sound.type_named ∙ ap type_of all.0 ∙ named, types_back t rs named sound.1 all.1)

others_back : (d : Record) (records : List Record) → AllByRecursion (λ (row : Row). same_data d.rdata row.rdata ≡ false) (rows_of records) → AllByRecursion (λ r. same_data d.rdata r.rdata ≡ false) records
others_back d [] all = tt
others_back d (r ∷ rs) all = (all.0, others_back d rs all.1)

distinct_back : (records : List Record) → AreDistinct row_data (rows_of records) → AreDistinct record_data records
unfolding IsDistinct
distinct_back [] d = tt
distinct_back (r ∷ rs) d = (others_back r rs d.0, distinct_back rs d.1)

sound_set : (origin : DomainName) (s : RecordSetValue) → IsWhole origin s → IsSoundSet s
sound_set origin s h = record {
  fqdn = h.plain.fqdn;
  type_named = h.plain.type_named;
  filled = omega (arith, h.rows.filled, length-map s.records row_of);
  rows = h.rows.sound;
  of_type = types_back s.record_type s.records h.plain.type_named h.rows.sound h.rows.of_type;
  distinct = distinct_back s.records h.rows.distinct;
  single = λ e. sym (length-map s.records row_of) ∙ h.rows.single (ap is_singleton_type h.plain.type_named ∙ e);
}

sound_sets : (origin : DomainName) (sets : List RecordSetValue) → AllByRecursion (IsWhole origin) sets → AreSoundSets sets
sound_sets origin [] all = tt
sound_sets origin (s ∷ ss) all = (sound_set origin s all.0, sound_sets origin ss all.1)

-- ---- no fault

each_fails : {P : RecordSetValue → Type 0} (p : RecordSetValue → Bool) → ((s : RecordSetValue) → P s → p s ≡ false) → (sets : List RecordSetValue) → AllByRecursion P sets → list_any p sets ≡ false
each_fails p f [] all = refl
each_fails p f (s ∷ ss) all = (λ i. f s all.0 i || list_any p ss) ∙ each_fails p f ss all.1

number_is : (n : ℕ) → (n == 6) ≡ true → n ≡ 6
number_is n e = grind (arith, nat_tests)

not_elsewhere : (origin : DomainName) (s : RecordSetValue) → IsWhole origin s → (is_soa s && not (is_apex origin s)) ≡ false
not_elsewhere origin s h = by (is_soa s) refl
  where
    by : (b : Bool) → is_soa s ≡ b → (b && not (is_apex origin s)) ≡ false
    by true e = ap not (sym (same_lower origin.labels s.name.labels) ∙ h.rows.soa_at_origin (number_is (type_number s.record_type) e))
    by false e = refl

short_enough : (n : ℕ) → n < 2 ^ 16 → nat_lt 65535 n ≡ false
short_enough n h = grind (arith, nat_tests, h)

short_records : (records : List Record) → AreSoundRows (rows_of records) → list_any (λ r. nat_lt 65535 (whole_len r.rdata)) records ≡ false
short_records [] sound = refl
short_records (r ∷ rs) sound =
    (λ i. short_enough (whole_len r.rdata) sound.0.rdata.sound.fits i || list_any (λ r. nat_lt 65535 (whole_len r.rdata)) rs) ∙ short_records rs sound.1

flipped : (a : Bool) (n : ℕ) → (a && (6 == n)) ≡ ((n == 6) && a)
flipped true n = by (6 == n) (n == 6) refl refl
  where
    by : (x y : Bool) → (6 == n) ≡ x → (n == 6) ≡ y → x ≡ (y && true)
    by true true e f = refl
    by true false e f = grind (arith, nat_tests, e, f)
    by false true e f = grind (arith, nat_tests, e, f)
    by false false e f = refl
flipped false n = elim (n == 6) as (λ b. false ≡ (b && false)) [ true ↦ refl | false ↦ refl ]

or_true : (a : Bool) → (a || true) ≡ true
or_true true = refl
or_true false = refl

is_there : (origin : DomainName) (sets : List RecordSetValue) → length (unwrap_or (rows_if (list.find (tied (key origin.labels types.SOA)) sets)) []) ≡ 1
    → list_any (λ s. is_soa s && is_apex origin s) sets ≡ true
unfolding rows_if
is_there origin [] one = absurd (omega (arith, one))
is_there origin (s ∷ ss) one = by (tied (key origin.labels types.SOA) s) refl one (is_there origin ss)
  where
    by : (b : Bool) → tied (key origin.labels types.SOA) s ≡ b
        → length (unwrap_or (rows_if (cond b (Some s) (list.find (tied (key origin.labels types.SOA)) ss))) []) ≡ 1
        → (length (unwrap_or (rows_if (list.find (tied (key origin.labels types.SOA)) ss)) []) ≡ 1 → list_any (λ s. is_soa s && is_apex origin s) ss ≡ true)
        → ((is_soa s && is_apex origin s) || list_any (λ s. is_soa s && is_apex origin s) ss) ≡ true
    by true e h more =
        ap (λ b. b || list_any (λ s. is_soa s && is_apex origin s) ss)
        (sym (flipped (is_apex origin s) (type_number s.record_type)) ∙ keys_tie origin.labels s.name.labels types.SOA s.record_type ∙ e)
    by false e h more = ap (λ b. (is_soa s && is_apex origin s) || b) (more h) ∙ or_true (is_soa s && is_apex origin s)

-- ---- all sets of a zone

-- what a zone keeps, by its rows
pub record AreWhole (origin : DomainName) (sets : List RecordSetValue) : Type 0 where
  pub sound : AreSoundSets sets
  pub zone_sets : AreZoneSets origin sets

module _ (zone : ZoneContent) (sets : List RecordSetValue) (rows : zone.rows ≡ rows_of_sets sets) (well : IsZone zone) (sorted : AreInOrder sets) (plain : (k : Key) → IfSome (set_at sets k) IsPlainSet) where
  apart : AreApart sets
  apart = apart_of_order sets sorted

  one_whole : (s : RecordSetValue) (front back : List RecordSetValue) → sets ≡ front ++ s ∷ back → IsWhole zone.origin s
  unfolding rows_if
  one_whole s front back e =
      let here : set_at sets (set_key s) ≡ Some s =
      ap (λ (l : List RecordSetValue). set_at l (set_key s)) e ∙ find_behind s front back (others_before share_key front s back (subst AreApart e apart)) in
      let found : rows_map.get zone.rows (set_key s) ≡ Some (rows_of s.records) =
      ap (λ r. rows_map.get r (set_key s)) rows ∙ get-sets sets (set_key s) ∙ ap rows_if here in
      record {
        plain = subst (λ (o : Option RecordSetValue). IfSome o IsPlainSet) here (plain (set_key s));
        rows = subst (λ (o : Option (List Row)). IfSome o (AreRowsAt zone.origin (set_key s))) found (well.rows (set_key s));
      }

  each_whole : (front back : List RecordSetValue) → sets ≡ front ++ back → AllByRecursion (IsWhole zone.origin) back
  each_whole front [] e = tt
  each_whole front (s ∷ back) e = (one_whole s front back e, each_whole (front ++ s ∷ []) back (e ∙ sym (append_assoc front (s ∷ []) back)))

  pub whole_sets : AreWhole zone.origin sets
  whole_sets =
      let all = each_whole [] sets refl in
      let sound = sound_sets zone.origin sets all in
      let f : AreFaultless zone.origin sets = record {
        internet = each_fails (λ s. not (is_internet s)) (λ s h. ap not h.plain.internet) sets all;
        inside = each_fails (λ s. not (is_inside zone.origin s)) (λ s h. ap not (sym (below_lower zone.origin.labels s.name.labels) ∙ h.rows.inside)) sets all;
        soa = is_there zone.origin sets
            (ap (λ (o : Option (List Row)). length (unwrap_or o [])) (sym (ap (λ r. rows_map.get r (key zone.origin.labels types.SOA)) rows ∙ get-sets sets (key zone.origin.labels types.SOA))) ∙ well.soa);
        elsewhere = each_fails (λ s. is_soa s && not (is_apex zone.origin s)) (not_elsewhere zone.origin) sets all;
        short = each_fails has_long_data (λ s h. short_records s.records h.rows.sound) sets all;
      } in
      record {
        sound = sound;
        zone_sets = record {
          start_first = start_first zone.origin sets sorted (none_pass _ sets f.inside) f.soa;
          distinct = distinct_of_apart sets sound apart;
          faultless = is_faultless zone.origin sets f;
        };
      }
