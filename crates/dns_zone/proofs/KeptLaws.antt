-- The sets that a zone keeps, and its rows.
use Rattle.std.proofs.Common.{◌≡◌, ◌==◌, ◌+◌, ◌∙◌, map, Less, ℕ, Bool, true, false, not, cond, ◌&&◌, ◌||◌, List, [], ◌∷◌, ◌++◌, length, refl, sym, ap, subst, arith, Option, Some, None, unwrap_or}
use Rattle.std.specs.Prelude.{IfSome}
use Rattle.std.proofs.lemmas.List.{append_assoc, length-map}
use Rattle.std.proofs.lemmas.Bool.Decides.{nat_tests}
use Rattle.std.specs.Cmp.{Equal-is, eq_by_cmp_equiv, nat_cmp_total, ranked}
use Rattle.std.specs.Cmp.Lexicographic.{slice_cmp}
use Rattle.std.specs.List.Sorted.{IsStrictlySortedBy}
use Rattle.std.specs.FinMap as rows_map
use Rattle.std.specs.List as list
use Rattle.std.specs.List.{list_any, AllByRecursion, IsDistinct}
use Rattle.std.specs.Ordering.{eq_by_cmp, is_eq, nat_cmp, ordering_then}
use Rattle.dns_wire.specs.codes.RecordType.{type_number, type_of}
use Rattle.dns_wire.specs.declared.codes.record_type.RecordType.{RecordType}
use Rattle.dns_wire.specs.declared.codes.record_type.RecordType.TheVariants as types
use Rattle.dns_names.specs.Compare.{same_name}
use Rattle.dns_names.specs.Name.{DomainName}
use Rattle.dns_names.specs.internal.Compare.{same-lower}
use Rattle.dns_data.specs.rdata.{data_type, same_data}
use Rattle.dns_records.specs.Record.{Record}
use Rattle.dns_records.specs.declared.row.Row.{Row}
use Rattle.dns_records.specs.RecordSet.{RecordSetValue, AreDistinct, record_data}
use Rattle.dns_zone_file.specs.RecordSets.{is_set_of}
use Rattle.dns_zone_file.specs.Parsed.{AreDistinctSets, IsParsedSet, is_singleton_type}
use Rattle.dns_zone.specs.Load.{is_inside, is_soa, is_apex, fault_of}
use Rattle.dns_zone.specs.Printed.{is_start, BeginsWithStart, AreZoneSets}
use Rattle.dns_zone.specs.Rows.{Key, key, key_cmp, ZoneContent, set_key, row_of, rows_of, rows_of_sets, rows_at, row_data, IsSoundSet, AreSoundSets, AreRowsAt, IsZone}
use Rattle.dns_updates.specs.Keys.{owner_code, place_cmp, type_code}
use Rattle.dns_zone.specs.Sets.{set_at, set_place, AreInOrder}
use Rattle.dns_updates.proofs.OwnerCodeLaws.{below_begins, owner_of_lower}
use Rattle.dns_zone.proofs.FirstLaws.{others_before}
use Rattle.dns_updates.proofs.PlaceLaws.{places_tie}
use Rattle.dns_zone.proofs.LoadLaws.{AreFaultless, faultless, is_faultless, sound_sets}
use Rattle.dns_zone.proofs.RowLaws.{key_total, key_antisymmetric, keys_tie, tied, rows_if, get-sets, same_lower, below_lower}

-- ---- keys

-- sets of fully qualified owners have the same owner and type exactly if their keys tie
pub set_tie : (s t : RecordSetValue) → s.name.is_fqdn ≡ true → t.name.is_fqdn ≡ true → is_set_of s.name s.record_type t ≡ eq_by_cmp key_cmp (set_key s) (set_key t)
set_tie s t e f =
    (λ i. same_name (record { is_fqdn = e i; labels = s.name.labels }) (record { is_fqdn = f i; labels = t.name.labels }) && (type_number s.record_type == type_number t.record_type))
    ∙ keys_tie s.name.labels t.name.labels s.record_type t.record_type

-- whether two sets are at the same key
abbrev pub share_key : RecordSetValue → RecordSetValue → Bool
share_key s t = eq_by_cmp key_cmp (set_key s) (set_key t)

abbrev pub AreApart : List RecordSetValue → Type 0
AreApart sets = IsDistinct share_key sets

others_distinct : (s : RecordSetValue) (ss : List RecordSetValue) → s.name.is_fqdn ≡ true → AreSoundSets ss → AllByRecursion (λ t. share_key s t ≡ false) ss → AllByRecursion (λ t. is_set_of s.name s.record_type t ≡ false) ss
others_distinct s [] e sound others = tt
others_distinct s (t ∷ ss) e sound others = (set_tie s t e sound.0.fqdn ∙ others.0, others_distinct s ss e sound.1 others.1)

others_apart : (s : RecordSetValue) (ss : List RecordSetValue) → s.name.is_fqdn ≡ true → AreSoundSets ss → AllByRecursion (λ t. is_set_of s.name s.record_type t ≡ false) ss → AllByRecursion (λ t. share_key s t ≡ false) ss
others_apart s [] e sound others = tt
others_apart s (t ∷ ss) e sound others = (sym (set_tie s t e sound.0.fqdn) ∙ others.0, others_apart s ss e sound.1 others.1)

pub distinct_of_apart : (sets : List RecordSetValue) → AreSoundSets sets → AreApart sets → AreDistinctSets sets
unfolding IsDistinct
distinct_of_apart [] sound d = tt
distinct_of_apart (s ∷ ss) sound d = (others_distinct s ss sound.0.fqdn sound.1 d.0, distinct_of_apart ss sound.1 d.1)

apart_of_distinct : (sets : List RecordSetValue) → AreSoundSets sets → AreDistinctSets sets → AreApart sets
unfolding IsDistinct
apart_of_distinct [] sound d = tt
apart_of_distinct (s ∷ ss) sound d = (others_apart s ss sound.0.fqdn sound.1 d.0, apart_of_distinct ss sound.1 d.1)

others_in_order : (s : RecordSetValue) (ss : List RecordSetValue) → AllByRecursion (λ q. place_cmp (set_place s) q ≡ Less) (map set_place ss) → AllByRecursion (λ t. share_key s t ≡ false) ss
others_in_order s [] after = tt
others_in_order s (t ∷ ss) after =
    (sym (places_tie s.name.labels t.name.labels s.record_type t.record_type) ∙ ap is_eq after.0, others_in_order s ss after.1)

pub apart_of_order : (sets : List RecordSetValue) → AreInOrder sets → AreApart sets
unfolding IsDistinct IsStrictlySortedBy
apart_of_order [] sorted = tt
apart_of_order (s ∷ ss) sorted = (others_in_order s ss sorted.0, apart_of_order ss sorted.1)

-- ---- the same sets in another order

neither : (a b : Bool) → (a || b) ≡ false → (a ≡ false) × (b ≡ false)
neither true b e = absurd (cc)
neither false b e = (refl, e)

pub none_pass : {A : Type 0} (p : A → Bool) (xs : List A) → list_any p xs ≡ false → AllByRecursion (λ x. p x ≡ false) xs
none_pass p [] e = tt
none_pass p (x ∷ xs) e = let parts = neither (p x) (list_any p xs) e in (parts.0, none_pass p xs parts.1)

pub all_fail : {A : Type 0} (p : A → Bool) (xs : List A) → AllByRecursion (λ x. p x ≡ false) xs → list_any p xs ≡ false
all_fail p [] all = refl
all_fail p (x ∷ xs) all = (λ i. all.0 i || list_any p xs) ∙ all_fail p xs all.1

found : {A : Type 0} (P : A → Type 0) (p : A → Bool) (xs : List A) → AllByRecursion P xs → IfSome (list.find p xs) (λ x. P x × (p x ≡ true))
found P p [] all = tt
found P p (x ∷ xs) all = at (p x) refl (found P p xs all.1)
  where
    at : (b : Bool) → p x ≡ b → IfSome (list.find p xs) (λ x. P x × (p x ≡ true)) → IfSome (cond b (Some x) (list.find p xs)) (λ x. P x × (p x ≡ true))
    at true is more = (all.0, is)
    at false is more = more

pub find_behind : (s : RecordSetValue) (front back : List RecordSetValue) → AllByRecursion (λ t. share_key t s ≡ false) front → set_at (front ++ s ∷ back) (set_key s) ≡ Some s
find_behind s [] back others = ap (λ b. cond b (Some s) (set_at back (set_key s))) ((eq_by_cmp_equiv key_total).refl (set_key s))
find_behind s (t ∷ front) back others =
    ap (λ b. cond b (Some t) (set_at (front ++ s ∷ back) (set_key s))) ((eq_by_cmp_equiv key_total).symm (set_key s) (set_key t) ∙ others.0)
    ∙ find_behind s front back others.1

-- lists that have the same set at each key
abbrev pub HaveSameSets : List RecordSetValue → List RecordSetValue → Type 0
HaveSameSets xs ys = (k : Key) → set_at xs k ≡ set_at ys k

module _ (P : RecordSetValue → Type 0) (xs ys : List RecordSetValue) (all : AllByRecursion P ys) (same : HaveSameSets xs ys) (apart : AreApart xs) where
  one_too : (s : RecordSetValue) (front back : List RecordSetValue) → xs ≡ front ++ s ∷ back → P s
  one_too s front back e =
      let here : set_at ys (set_key s) ≡ Some s =
      sym (same (set_key s)) ∙ ap (λ (l : List RecordSetValue). set_at l (set_key s)) e
      ∙ find_behind s front back (others_before share_key front s back (subst AreApart e apart)) in
      (subst (λ (o : Option RecordSetValue). IfSome o (λ t. P t × (tied (set_key s) t ≡ true))) here (found P (tied (set_key s)) ys all)).0

  each_too : (front back : List RecordSetValue) → xs ≡ front ++ back → AllByRecursion P back
  each_too front [] e = tt
  each_too front (s ∷ back) e = (one_too s front back e, each_too (front ++ s ∷ []) back (e ∙ sym (append_assoc front (s ∷ []) back)))

  -- what holds of each set of one list holds of each of the other
  all_too : AllByRecursion P xs
  all_too = each_too [] xs refl

none_too : (p : RecordSetValue → Bool) (xs ys : List RecordSetValue) → HaveSameSets xs ys → AreApart xs → list_any p ys ≡ false → list_any p xs ≡ false
none_too p xs ys same apart e = all_fail p xs (all_too (λ s. p s ≡ false) xs ys (none_pass p ys e) same apart)

any_too : (p : RecordSetValue → Bool) (xs ys : List RecordSetValue) → HaveSameSets xs ys → AreApart xs → AreApart ys → list_any p xs ≡ list_any p ys
any_too p xs ys same apart_x apart_y = by (list_any p xs) (list_any p ys) refl refl
  where
    by : (a b : Bool) → list_any p xs ≡ a → list_any p ys ≡ b → a ≡ b
    by true true e f = refl
    by true false e f = sym e ∙ none_too p xs ys same apart_x f
    by false true e f = sym (none_too p ys xs (λ k. sym (same k)) apart_y e) ∙ f
    by false false e f = refl

faultless_too : (apex : DomainName) (xs ys : List RecordSetValue) → HaveSameSets xs ys → AreApart xs → AreApart ys → AreFaultless apex ys → AreFaultless apex xs
faultless_too apex xs ys same apart_x apart_y f = record {
  internet = any_too _ xs ys same apart_x apart_y ∙ f.internet;
  inside = any_too _ xs ys same apart_x apart_y ∙ f.inside;
  soa = any_too _ xs ys same apart_x apart_y ∙ f.soa;
  elsewhere = any_too _ xs ys same apart_x apart_y ∙ f.elsewhere;
  short = any_too _ xs ys same apart_x apart_y ∙ f.short;
}

rows_too : (xs ys : List RecordSetValue) → HaveSameSets xs ys → rows_of_sets xs ≡ rows_of_sets ys
rows_too xs ys same = rows_map.same_map key_total key_antisymmetric _ _ (λ q. get-sets xs q ∙ ap rows_if (same q) ∙ sym (get-sets ys q))

-- ---- the start of authority comes first

never_less : (p x : List ℕ) (n : ℕ) → ordering_then (slice_cmp nat_cmp (p ++ x) p) (nat_cmp n 0) ≡ Less → ⊥
never_less [] [] n e = absurd (omega (arith, ranked n 0 Less (sym e)))
never_less [] (c ∷ x) n e = cc
never_less (c ∷ p) x n e =
    never_less p x n (sym (ap (λ r. ordering_then (ordering_then r (slice_cmp nat_cmp (p ++ x) p)) (nat_cmp n 0)) ((Equal-is (nat_cmp c c)).0 ((eq_by_cmp_equiv nat_cmp_total).refl c))) ∙ e)

to_true : (b : Bool) → not b ≡ false → b ≡ true
to_true true e = refl
to_true false e = absurd (cc)

pub both_true : (a b : Bool) → (a && b) ≡ true → (a ≡ true) × (b ≡ true)
both_true true b e = (refl, e)
both_true false b e = absurd (cc)

pub start_place : (apex : DomainName) (t : RecordSetValue) → is_start apex t ≡ true → set_place t ≡ (owner_code apex.labels, 0)
start_place apex t h =
    let parts = both_true (is_soa t) (is_apex apex t) h in
    let owner = owner_of_lower t.name.labels apex.labels (sym (same-lower apex.labels t.name.labels parts.1)) in
    λ i. (owner i, cond (parts.0 i) 0 (type_number t.record_type + 1))

not_before_start : (apex : DomainName) (s t : RecordSetValue) → is_inside apex s ≡ true → is_start apex t ≡ true → place_cmp (set_place s) (set_place t) ≡ Less → ⊥
not_before_start apex s t inside start e =
    let ahead = below_begins apex.labels s.name.labels inside in
    never_less (owner_code apex.labels) ahead.0 (type_code s.record_type)
    (sym ((λ i. place_cmp (ahead.1 i, type_code s.record_type) (start_place apex t start i))) ∙ e)

no_start_after : (apex : DomainName) (s : RecordSetValue) (ss : List RecordSetValue) → is_inside apex s ≡ true → AllByRecursion (λ q. place_cmp (set_place s) q ≡ Less) (map set_place ss) → list_any (is_start apex) ss ≡ false
no_start_after apex s [] inside after = refl
no_start_after apex s (t ∷ ss) inside after = by (is_start apex t) refl (no_start_after apex s ss inside after.1)
  where
    by : (b : Bool) → is_start apex t ≡ b → list_any (is_start apex) ss ≡ false → (is_start apex t || list_any (is_start apex) ss) ≡ false
    by true h more = absurd (not_before_start apex s t inside h after.0)
    by false h more = (λ i. h i || list_any (is_start apex) ss) ∙ more

pub start_first : (apex : DomainName) (sets : List RecordSetValue) → AreInOrder sets → AllByRecursion (λ s. not (is_inside apex s) ≡ false) sets → list_any (is_start apex) sets ≡ true → BeginsWithStart apex sets
unfolding IsStrictlySortedBy
start_first apex [] sorted inside some = absurd (cc)
start_first apex (s ∷ ss) sorted inside some =
    sym (or_none (is_start apex s) (list_any (is_start apex) ss) (no_start_after apex s ss (to_true (is_inside apex s) inside.0) sorted.0)) ∙ some
  where
    or_none : (a b : Bool) → b ≡ false → (a || b) ≡ a
    or_none true b e = refl
    or_none false b e = e

-- what a zone keeps of sets
pub record AreKept (apex : DomainName) (sets kept : List RecordSetValue) : Type 0 where
  pub sound : AreSoundSets kept
  pub zone_sets : AreZoneSets apex kept
  pub rows : rows_of_sets kept ≡ rows_of_sets sets

pub kept_sets : (apex : DomainName) (sets kept : List RecordSetValue) → AreSoundSets sets → AreDistinctSets sets → fault_of (Some apex) sets ≡ None → HaveSameSets kept sets → AreInOrder kept → AreKept apex sets kept
kept_sets apex sets kept sound d e same sorted =
    let apart = apart_of_order kept sorted in
    let sound_kept = all_too IsSoundSet kept sets sound same apart in
    let f = faultless_too apex kept sets same apart (apart_of_distinct sets sound d) (faultless apex sets e) in
    record {
      sound = sound_kept;
      zone_sets = record {
        start_first = start_first apex kept sorted (none_pass _ kept f.inside) f.soa;
        distinct = distinct_of_apart kept sound_kept apart;
        faultless = is_faultless apex kept f;
      };
      rows = rows_too kept sets same;
    }

pub kept_of : (origin : Option DomainName) (apex : DomainName) (sets kept : List RecordSetValue) → AllByRecursion IsParsedSet sets → AreDistinctSets sets → origin ≡ Some apex → fault_of origin sets ≡ None → HaveSameSets kept sets → AreInOrder kept → AreKept apex sets kept
kept_of origin apex sets kept all d is e same sorted =
    kept_sets apex sets kept (sound_sets origin apex sets all is e) d (ap (λ o. fault_of o sets) (sym is) ∙ e) same sorted

-- ---- the rows of a zone

-- what each set of a zone is like
pub record IsKeptSet (origin : DomainName) (s : RecordSetValue) : Type 0 where
  pub sound : IsSoundSet s
  pub inside : not (is_inside origin s) ≡ false
  pub elsewhere : (is_soa s && not (is_apex origin s)) ≡ false

pub each_kept : (origin : DomainName) (sets : List RecordSetValue) → AreSoundSets sets → AllByRecursion (λ s. not (is_inside origin s) ≡ false) sets → AllByRecursion (λ s. (is_soa s && not (is_apex origin s)) ≡ false) sets → AllByRecursion (IsKeptSet origin) sets
each_kept origin [] sound inside elsewhere = tt
each_kept origin (s ∷ ss) sound inside elsewhere =
    (record { sound = sound.0; inside = inside.0; elsewhere = elsewhere.0 }, each_kept origin ss sound.1 inside.1 elsewhere.1)

rows_types : (t : RecordType) (records : List Record) → AllByRecursion (λ r. data_type r.rdata ≡ t) records → AllByRecursion (λ (row : Row). type_number (data_type row.rdata) ≡ type_number t) (rows_of records)
rows_types t [] all = tt
rows_types t (r ∷ rs) all = (ap type_number all.0, rows_types t rs all.1)

others_in_rows : (d : Record) (records : List Record) → AllByRecursion (λ r. same_data d.rdata r.rdata ≡ false) records → AllByRecursion (λ (row : Row). same_data d.rdata row.rdata ≡ false) (rows_of records)
others_in_rows d [] all = tt
others_in_rows d (r ∷ rs) all = (all.0, others_in_rows d rs all.1)

rows_distinct : (records : List Record) → AreDistinct record_data records → AreDistinct row_data (rows_of records)
unfolding IsDistinct
rows_distinct [] d = tt
rows_distinct (r ∷ rs) d = (others_in_rows r rs d.0, rows_distinct rs d.1)

at_apex : (a b : Bool) → (a && not b) ≡ false → a ≡ true → b ≡ true
at_apex true b e f = to_true b e
at_apex false b e f = absurd (cc)

number_test : (n : ℕ) → n ≡ 6 → (n == 6) ≡ true
number_test n e = grind (arith, nat_tests)

kept_rows : (origin : DomainName) (s : RecordSetValue) → IsKeptSet origin s → AreRowsAt origin (set_key s) (rows_of s.records)
kept_rows origin s kept = record {
  inside = below_lower origin.labels s.name.labels ∙ to_true _ kept.inside;
  filled = omega (arith, kept.sound.filled, length-map s.records row_of);
  sound = kept.sound.rows;
  of_type = rows_types s.record_type s.records kept.sound.of_type;
  distinct = rows_distinct s.records kept.sound.distinct;
  single = λ h. length-map s.records row_of ∙ kept.sound.single (subst (λ (t : RecordType). is_singleton_type t ≡ true) kept.sound.type_named h);
  soa_at_origin = λ h. same_lower origin.labels s.name.labels ∙ at_apex (is_soa s) (is_apex origin s) kept.elsewhere (number_test (type_number s.record_type) h);
}

pub tied_key : (q k : Key) → eq_by_cmp key_cmp q k ≡ true → k ≡ q
tied_key q k e = sym (key_antisymmetric q k ((Equal-is (key_cmp q k)).0 e))

rows_found : (origin : DomainName) (q : Key) (o : Option RecordSetValue) → IfSome o (λ s. IsKeptSet origin s × (tied q s ≡ true)) → IfSome (rows_if o) (AreRowsAt origin q)
unfolding rows_if
rows_found origin q None h = tt
rows_found origin q (Some s) h = subst (λ (k : Key). AreRowsAt origin k (rows_of s.records)) (tied_key q (set_key s) h.1) (kept_rows origin s h.0)

rows_of_key : (origin : DomainName) (sets : List RecordSetValue) → AreSoundSets sets → AreFaultless origin sets → (q : Key) → IfSome (rows_map.get (rows_of_sets sets) q) (AreRowsAt origin q)
rows_of_key origin sets sound f q =
    subst (λ (o : Option (List Row)). IfSome o (AreRowsAt origin q)) (sym (get-sets sets q))
    (rows_found origin q (list.find (tied q) sets) (found (IsKeptSet origin) (tied q) sets (each_kept origin sets sound (none_pass _ sets f.inside) (none_pass _ sets f.elsewhere))))

number_is : (n : ℕ) → (n == 6) ≡ true → n ≡ 6
number_is n e = grind (arith, nat_tests)

turned : (n : ℕ) → n ≡ 6 → (6 == n) ≡ true
turned n e = grind (arith, nat_tests)

-- a start of authority is a set of SOA records
pub start_type : (origin : DomainName) (s : RecordSetValue) → IsSoundSet s → is_start origin s ≡ true → s.record_type ≡ types.SOA
start_type origin s sound h = sym sound.type_named ∙ ap type_of (number_is (type_number s.record_type) (both_true (is_soa s) (is_apex origin s) h).0)

start_tied : (origin : DomainName) (s : RecordSetValue) → is_start origin s ≡ true → tied (key origin.labels types.SOA) s ≡ true
start_tied origin s h =
    let parts = both_true (is_soa s) (is_apex origin s) h in
    sym (keys_tie origin.labels s.name.labels types.SOA s.record_type)
    ∙ (λ i. parts.1 i && turned (type_number s.record_type) (number_is (type_number s.record_type) parts.0) i)

one_soa : (origin : DomainName) (sets : List RecordSetValue) → AreSoundSets sets → BeginsWithStart origin sets → length (rows_at (rows_of_sets sets) origin.labels types.SOA) ≡ 1
unfolding rows_if
one_soa origin [] sound h = absurd h
one_soa origin (s ∷ ss) sound h =
    let q : Key = key origin.labels types.SOA in
    let first : rows_map.get (rows_of_sets (s ∷ ss)) q ≡ Some (rows_of s.records) =
    get-sets (s ∷ ss) q ∙ ap (λ b. rows_if (cond b (Some s) (list.find (tied q) ss))) (start_tied origin s h) in
    ap (λ (o : Option (List Row)). length (unwrap_or o [])) first ∙ length-map s.records row_of
    ∙ sound.0.single (ap is_singleton_type (start_type origin s sound.0 h))

pub is_zone : (zone : ZoneContent) (sets : List RecordSetValue) → zone.rows ≡ rows_of_sets sets → zone.origin.is_fqdn ≡ true → AreSoundSets sets → AreZoneSets zone.origin sets → IsZone zone
is_zone zone sets e fqdn sound kept = record {
  origin_fqdn = fqdn;
  soa = ap (λ (rows : rows_map.FinMap key_cmp (List Row)). length (rows_at rows zone.origin.labels types.SOA)) e
      ∙ one_soa zone.origin sets sound kept.start_first;
  rows = λ q. subst (λ (rows : rows_map.FinMap key_cmp (List Row)). IfSome (rows_map.get rows q) (AreRowsAt zone.origin q)) (sym e)
      (rows_of_key zone.origin sets sound (faultless zone.origin sets kept.faultless) q);
}
