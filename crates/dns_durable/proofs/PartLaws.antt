-- The text of a part of a zone, and one set more.
use Rattle.std.proofs.Common.{◌≡◌, ◌∙◌, ℕ, Bool, true, false, not, codes, ◌&&◌, ◌||◌, List, [], ◌∷◌, ◌++◌, flat_map, refl, sym, ap, Some}
use Rattle.std.proofs.lemmas.List.{append_assoc, append-nil}
use Rattle.std.specs.List.{list_any, AllByRecursion, IsDistinct}
use Rattle.dns_names.specs.Name.{DomainName}
use Rattle.dns_names.specs.Print.{text_of_name}
use Rattle.dns_records.specs.RecordSet.{RecordSetValue}
use Rattle.dns_zone_file.specs.RecordSets.{is_set_of}
use Rattle.dns_zone.specs.Load.{has_long_data, is_apex, is_inside, is_internet, is_soa}
use Rattle.dns_zone.specs.Lookup.{AreSetsOf}
use Rattle.dns_zone.specs.Printed.{is_start, owner_lines, set_lines, zone_text, BeginsWithStart}
use Rattle.dns_zone.specs.Rows.{Key, ZoneContent, set_key, AreSoundSets, IsSoundSet}
use Rattle.dns_zone.specs.Sets.{set_at, set_place}
use Rattle.dns_zone.proofs.KeptLaws.{all_fail, none_pass, set_tie, share_key}
use Rattle.dns_zone.proofs.LoadLaws.{faultless, is_faultless, AreFaultless}
use Rattle.dns_durable.specs.Draft.{IsPart, Settled}
use Rattle.dns_durable.specs.zone_texts.Stated.{IsStatedSet, with_origin}
use Rattle.dns_durable.proofs.BetweenLaws.{all_more, found_all, place_of_set, place_of_tied, true_false}

-- ---- parts of a zone

-- a set that no fault keeps from being one of a zone
pub record IsGood (origin : DomainName) (s : RecordSetValue) : Type 0 where
  pub sound : IsSoundSet s
  pub internet : not (is_internet s) ≡ false
  pub inside : not (is_inside origin s) ≡ false
  pub elsewhere : (is_soa s && not (is_apex origin s)) ≡ false
  pub short : has_long_data s ≡ false

-- each set of a zone is one
pub good_set : (zone : ZoneContent) (sets : List RecordSetValue) (k : Key) (s : RecordSetValue) → AreSetsOf zone sets → set_at sets k ≡ Some s → IsGood zone.origin s
good_set zone sets k s are e =
    let f : AreFaultless zone.origin sets = faultless zone.origin sets are.kept.faultless in
    record {
      sound = (found_all IsSoundSet k sets s are.sound e).0;
      internet = (found_all (λ t. not (is_internet t) ≡ false) k sets s (none_pass _ sets f.internet) e).0;
      inside = (found_all (λ t. not (is_inside zone.origin t) ≡ false) k sets s (none_pass _ sets f.inside) e).0;
      elsewhere = (found_all (λ t. (is_soa t && not (is_apex zone.origin t)) ≡ false) k sets s (none_pass _ sets f.elsewhere) e).0;
      short = (found_all (λ t. has_long_data t ≡ false) k sets s (none_pass _ sets f.short) e).0;
    }

any_more : (p : RecordSetValue → Bool) (xs : List RecordSetValue) (s : RecordSetValue) → list_any p xs ≡ false → p s ≡ false → list_any p (xs ++ s ∷ []) ≡ false
any_more p xs s none not = all_fail p (xs ++ s ∷ []) (all_more (λ t. p t ≡ false) xs s (none_pass p xs none) not)

some_more : (p : RecordSetValue → Bool) (xs : List RecordSetValue) (s : RecordSetValue) → list_any p xs ≡ true → list_any p (xs ++ s ∷ []) ≡ true
some_more p [] s some = absurd (cc)
some_more p (x ∷ xs) s some = by (p x) some (some_more p xs s)
  where
    by : (b : Bool) → (b || list_any p xs) ≡ true → (list_any p xs ≡ true → list_any p (xs ++ s ∷ []) ≡ true) → (b || list_any p (xs ++ s ∷ [])) ≡ true
    by true e more = refl
    by false e more = more e

faultless_more : (origin : DomainName) (xs : List RecordSetValue) (s : RecordSetValue) → AreFaultless origin xs → IsGood origin s → AreFaultless origin (xs ++ s ∷ [])
faultless_more origin xs s f good = record {
  internet = any_more (λ t. not (is_internet t)) xs s f.internet good.internet;
  inside = any_more (λ t. not (is_inside origin t)) xs s f.inside good.inside;
  soa = some_more (λ t. is_soa t && is_apex origin t) xs s f.soa;
  elsewhere = any_more (λ t. is_soa t && not (is_apex origin t)) xs s f.elsewhere good.elsewhere;
  short = any_more has_long_data xs s f.short good.short;
}

start_more : (origin : DomainName) (xs : List RecordSetValue) (s : RecordSetValue) → BeginsWithStart origin xs → BeginsWithStart origin (xs ++ s ∷ [])
start_more origin [] s start = absurd start
start_more origin (x ∷ xs) s start = start

distinct_more : (R : RecordSetValue → RecordSetValue → Bool) (xs : List RecordSetValue) (s : RecordSetValue) → IsDistinct R xs → AllByRecursion (λ x. R x s ≡ false) xs → IsDistinct R (xs ++ s ∷ [])
unfolding IsDistinct
distinct_more R [] s d all = (tt, tt)
distinct_more R (x ∷ xs) s d all = (all_more (λ y. R x y ≡ false) xs s d.0 all.0, distinct_more R xs s d.1 all.1)

-- the sets that are settled do not share the key of one that is not
apart_from : (settled : Settled) (xs : List RecordSetValue) (s : RecordSetValue) → AreSoundSets xs → IsSoundSet s → AllByRecursion (λ x. settled (set_place x) ≡ true) xs → settled (set_place s) ≡ false
    → AllByRecursion (λ x. is_set_of x.name x.record_type s ≡ false) xs
apart_from settled [] s sound own all un = tt
apart_from settled (x ∷ xs) s sound own all un = (set_tie x s sound.0.fqdn own.fqdn ∙ by (share_key x s) refl, apart_from settled xs s sound.1 own all.1 un)
  where
    by : (b : Bool) → share_key x s ≡ b → b ≡ false
    by true e =
        let place : set_place x ≡ set_place s = sym (place_of_set x) ∙ place_of_tied (set_key x) s e in
        true_false (settled (set_place s)) (ap settled (sym place) ∙ all.0) un
    by false e = refl

lines_more : (xs : List RecordSetValue) (s : RecordSetValue) → flat_map set_lines (xs ++ s ∷ []) ≡ flat_map set_lines xs ++ set_lines s
lines_more [] s = append-nil (set_lines s)
lines_more (x ∷ xs) s = ap (λ (l : List ℕ). set_lines x ++ l) (lines_more xs s) ∙ sym (append_assoc (set_lines x) (flat_map set_lines xs) (set_lines s))

text_more : (origin : DomainName) (xs : List RecordSetValue) (s : RecordSetValue) → BeginsWithStart origin xs → zone_text origin (xs ++ s ∷ []) ≡ zone_text origin xs ++ set_lines s
text_more origin [] s start = absurd start
text_more origin (x ∷ xs) s start =
    ap (λ (l : List ℕ). owner_lines origin x.records ++ l) (lines_more xs s) ∙ sym (append_assoc (owner_lines origin x.records) (flat_map set_lines xs) (set_lines s))

origin_more : (origin : DomainName) (l m : List ℕ) → with_origin origin (l ++ m) ≡ with_origin origin l ++ m
origin_more origin l m =
    ap (λ (t : List ℕ). codes "$ORIGIN " ++ t) (sym (append_assoc (text_of_name origin) (10 ∷ l) m))
    ∙ sym (append_assoc (codes "$ORIGIN ") (text_of_name origin ++ 10 ∷ l) m)

-- the lines of one more set
pub part_more : (base : ZoneContent) (settled : Settled) (sets : List RecordSetValue) (text : List ℕ) (s : RecordSetValue) → IsPart base sets text
    → AllByRecursion (λ x. settled (set_place x) ≡ true) sets → settled (set_place s) ≡ false → IsGood base.origin s → IsStatedSet s
    → IsPart base (sets ++ s ∷ []) (text ++ set_lines s)
part_more base settled sets text s part all un good stated = record {
  fqdn = part.fqdn;
  text_is = (λ i. part.text_is i ++ set_lines s) ∙ sym (origin_more base.origin (zone_text base.origin sets) (set_lines s))
      ∙ ap (with_origin base.origin) (sym (text_more base.origin sets s part.kept.start_first));
  sound = all_more IsSoundSet sets s part.sound good.sound;
  kept = record {
    start_first = start_more base.origin sets s part.kept.start_first;
    distinct = distinct_more (λ x y. is_set_of x.name x.record_type y) sets s part.kept.distinct (apart_from settled sets s part.sound good.sound all un);
    faultless = is_faultless base.origin (sets ++ s ∷ []) (faultless_more base.origin sets s (faultless base.origin sets part.kept.faultless) good);
  };
  stated = all_more IsStatedSet sets s part.stated stated;
}

one_distinct : (R : RecordSetValue → RecordSetValue → Bool) (x : RecordSetValue) → IsDistinct R (x ∷ [])
unfolding IsDistinct
one_distinct R x = (tt, tt)

-- the first lines: those of the SOA record
pub first_part : (zone : ZoneContent) (s : RecordSetValue) (more : List RecordSetValue) → AreSetsOf zone (s ∷ more) → IsStatedSet s
    → IsPart zone (s ∷ []) (with_origin zone.origin [] ++ owner_lines zone.origin s.records)
first_part zone s more are stated =
    let f : AreFaultless zone.origin (s ∷ more) = faultless zone.origin (s ∷ more) are.kept.faultless in
    record {
      fqdn = are.origin_fqdn;
      text_is = sym (origin_more zone.origin [] (owner_lines zone.origin s.records)) ∙ ap (with_origin zone.origin) (sym (append-nil (owner_lines zone.origin s.records)));
      sound = (are.sound.0, tt);
      kept = record {
        start_first = are.kept.start_first;
        distinct = one_distinct (λ x y. is_set_of x.name x.record_type y) s;
        faultless = is_faultless zone.origin (s ∷ []) (record {
          internet = first_false _ _ f.internet;
          inside = first_false _ _ f.inside;
          soa = first_true are.kept.start_first;
          elsewhere = first_false _ _ f.elsewhere;
          short = first_false _ _ f.short;
        });
      };
      stated = (stated, tt);
    }
  where
    first_false : (a b : Bool) → (a || b) ≡ false → (a || false) ≡ false
    first_false true b e = absurd (cc)
    first_false false b e = refl

    first_true : is_start zone.origin s ≡ true → (is_start zone.origin s || false) ≡ true
    first_true e = ap (λ (b : Bool). b || false) e
