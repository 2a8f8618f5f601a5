-- Histories of a zone, and what clients lack.
use Rattle.std.proofs.Common.{◌≡◌, ◌==◌, ◌≤◌, ◌<◌, ◌+◌, ◌-◌, ◌∙◌, ℕ, Bool, true, false, cond, not, ◌&&◌, ◌||◌, List, [], ◌∷◌, ◌++◌, length, drop, refl, sym, ap, subst, arith, Option, Some, None, zero, suc, get_or, length-drop}
use Rattle.std.specs.Prelude.{nat_le, map}
use Rattle.std.proofs.lemmas.Bool.{eqb-true, leb-true, le-leb, lt-leb}
use Rattle.std.proofs.Math.Seq.{drop-cons, drop-length}
use Rattle.dns_wire.specs.codes.SerialNumber.{serial_order}
use Rattle.dns_wire.specs.declared.codes.serial_number.SerialOrder.{SerialOrder}
use Rattle.dns_wire.specs.declared.codes.serial_number.SerialOrder.TheVariants as orders
use Rattle.dns_records.specs.Record.{Record}
use Rattle.dns_records.specs.Rows.{Rows}
use Rattle.dns_differences.specs.declared.difference.Difference.{Difference}
use Rattle.dns_differences.specs.declared.history.Limits.{Limits}
use Rattle.dns_differences.specs.Difference.{applied_all, first_serial, in_zone, is_among, is_empty, is_numbered, octets, size, AreAlike, AreRecordsOf, HasSerial, IsDifference, Lead}
use Rattle.dns_differences.specs.History.{all_octets, extended, fits, from_serial, if_any, kept, known_since, last_serial, recorded, same_serial, since, since_by, sizes, IsHistoryOf}
use Rattle.dns_differences.proofs.DifferenceLaws.{all_lead}
use Rattle.dns_differences.proofs.RecordLaws.{record_equiv, two}

-- ---- differences that lead to the current version

from_alike : (before current new : Rows) (d : Difference) → AreAlike before current → IsDifference current new d → IsDifference before new d
from_alike before current new d same is = record {
  deleted = λ r. is.deleted r ∙ (λ i. sym (same r) i && not (in_zone new r));
  added = λ r. is.added r ∙ (λ i. in_zone new r && not (sym (same r) i));
}

to_alike : (ds : List Difference) (old current new : Rows) → Lead old ds current → AreAlike current new → Lead old ds new
to_alike [] old current new before same = λ r. before r ∙ same r
to_alike (d ∷ ds) old current new (next, (is, more)) same = (next, (is, to_alike ds next current new more same))

one_more : (ds : List Difference) (old current new : Rows) (d : Difference) → Lead old ds current → IsDifference current new d
    → Lead old (ds ++ d ∷ []) new
one_more [] old current new d same is = (new, (from_alike old current new d same is, λ r. refl))
one_more (e ∷ ds) old current new d (next, (first, more)) is = (next, (first, one_more ds next current new d more is))

pub later_history : (older ds : List Difference) (current : Rows) → IsHistoryOf current (older ++ ds) → IsHistoryOf current ds
later_history [] ds current h = h
later_history (d ∷ older) ds current (old, (next, (is, more))) = later_history older ds current (next, more)

pub empty_history : (current : Rows) → IsHistoryOf current []
empty_history current = (current, λ r. refl)

kept_history : (limits : Limits) (ds : List Difference) (current : Rows) → IsHistoryOf current ds → IsHistoryOf current (kept limits ds)
kept_history limits [] current h = h
kept_history limits (d ∷ ds) current (old, (next, (is, more))) = by (fits limits (d ∷ ds)) (kept_history limits ds current (next, more))
  where
    by : (b : Bool) → IsHistoryOf current (kept limits ds) → IsHistoryOf current (cond b (d ∷ ds) (kept limits ds))
    by true others = (old, (next, (is, more)))
    by false others = others

extended_history : (ds : List Difference) (current new : Rows) (d : Difference) → IsHistoryOf current ds → IsDifference current new d
    → IsHistoryOf new (extended ds d)
extended_history ds current new d (old, lead) is = by (same_serial (last_serial ds) (first_serial d.deleted.items))
  where
    by : (b : Bool) → IsHistoryOf new (cond b (ds ++ d ∷ []) (d ∷ []))
    by true = (old, one_more ds old current new d lead is)
    by false = (current, (new, (is, λ r. refl)))

no_records : (records : List Record) → (length records == 0) ≡ true → records ≡ []
no_records [] e = refl
no_records (r ∷ rs) e = absurd (omega (arith, eqb-true (length (r ∷ rs)) 0 e))

alike_at : (old new : Bool) → false ≡ (old && not new) → false ≡ (new && not old) → old ≡ new
alike_at true true d a = refl
alike_at true false d a = absurd (cc)
alike_at false true d a = absurd (cc)
alike_at false false d a = refl

nothing_changed : (current new : Rows) (d : Difference) → is_empty d ≡ true → IsDifference current new d → AreAlike current new
nothing_changed current new d e is r =
    let both = two (length d.deleted.items == 0) (length d.added.items == 0) e in
    alike_at (in_zone current r) (in_zone new r)
    (sym (ap (λ (l : List Record). is_among l r) (no_records d.deleted.items both.0)) ∙ is.deleted r)
    (sym (ap (λ (l : List Record). is_among l r) (no_records d.added.items both.1)) ∙ is.added r)

pub recorded_history : (limits : Limits) (ds : List Difference) (current new : Rows) (d : Difference) → IsHistoryOf current ds
    → IsDifference current new d → IsHistoryOf new (recorded limits ds d)
recorded_history limits ds current new d h is = by (is_empty d) refl (is_numbered d)
  where
    by : (b : Bool) → is_empty d ≡ b → (c : Bool) → IsHistoryOf new (cond b ds (cond c (kept limits (extended ds d)) []))
    by true e c = (h.0, to_alike ds h.0 current new h.1 (nothing_changed current new d e is))
    by false e true = kept_history limits (extended ds d) new (extended_history ds current new d h is)
    by false e false = empty_history new

-- ---- limits

pub none_fit : (limits : Limits) → fits limits [] ≡ true
none_fit limits =
    λ i. le-leb 0 limits.differences (omega arith) i && (le-leb 0 limits.records (omega arith) i && le-leb 0 limits.octets (omega arith) i)

kept_fit : (limits : Limits) (ds : List Difference) → fits limits (kept limits ds) ≡ true
kept_fit limits [] = none_fit limits
kept_fit limits (d ∷ ds) = by (fits limits (d ∷ ds)) refl (kept_fit limits ds)
  where
    by : (b : Bool) → fits limits (d ∷ ds) ≡ b → fits limits (kept limits ds) ≡ true → fits limits (cond b (d ∷ ds) (kept limits ds)) ≡ true
    by true e others = e
    by false e others = others

pub recorded_fit : (limits : Limits) (ds : List Difference) (d : Difference) → fits limits ds ≡ true → fits limits (recorded limits ds d) ≡ true
recorded_fit limits ds d e = by (is_empty d) (is_numbered d)
  where
    by : (b c : Bool) → fits limits (cond b ds (cond c (kept limits (extended ds d)) [])) ≡ true
    by true c = e
    by false true = kept_fit limits (extended ds d)
    by false false = none_fit limits

and_false : (a : Bool) → (a && false) ≡ false
and_false true = refl
and_false false = refl

too_many_octets : (limits : Limits) (ds : List Difference) → limits.octets < all_octets ds → fits limits ds ≡ false
too_many_octets limits ds octets =
    ap (λ (b : Bool). nat_le (length ds) limits.differences && (nat_le (sizes ds) limits.records && b)) (lt-leb (all_octets ds) limits.octets octets)
    ∙ ap (λ (b : Bool). nat_le (length ds) limits.differences && b) (and_false (nat_le (sizes ds) limits.records))
    ∙ and_false (nat_le (length ds) limits.differences)

-- differences fit by number, records and octets
all_fit : (limits : Limits) (ds : List Difference) → length ds ≤ limits.differences → sizes ds ≤ limits.records → all_octets ds ≤ limits.octets
    → fits limits ds ≡ true
all_fit limits ds number records octets =
    λ i. le-leb (length ds) limits.differences number i && (le-leb (sizes ds) limits.records records i && le-leb (all_octets ds) limits.octets octets i)

-- fewer differences fit
fewer_fit : (limits : Limits) (d : Difference) (ds : List Difference) → fits limits (d ∷ ds) ≡ true → fits limits ds ≡ true
fewer_fit limits d ds e =
    let first = two (nat_le (length (d ∷ ds)) limits.differences) (nat_le (sizes (d ∷ ds)) limits.records && nat_le (all_octets (d ∷ ds)) limits.octets) e in
    let others = two (nat_le (sizes (d ∷ ds)) limits.records) (nat_le (all_octets (d ∷ ds)) limits.octets) first.1 in
    let number : length ds ≤ limits.differences = omega (arith, leb-true (length (d ∷ ds)) limits.differences first.0) in
    let records : sizes ds ≤ limits.records = omega (arith, leb-true (sizes (d ∷ ds)) limits.records others.0) in
    let octets : all_octets ds ≤ limits.octets = omega (arith, leb-true (all_octets (d ∷ ds)) limits.octets others.1) in
    all_fit limits ds number records octets

drop_fits : (limits : Limits) (s : ℕ) (ds : List Difference) → fits limits ds ≡ true → fits limits (drop s ds) ≡ true
drop_fits limits zero ds e = e
drop_fits limits (suc s) [] e = e
drop_fits limits (suc s) (d ∷ ds) e = drop_fits limits s ds (fewer_fit limits d ds e)

more_too_many : (limits : Limits) (s : ℕ) (ds : List Difference) → fits limits (drop s ds) ≡ false → fits limits ds ≡ false
more_too_many limits s ds e = by (fits limits ds) refl
  where
    by : (b : Bool) → fits limits ds ≡ b → b ≡ false
    by true f = sym (drop_fits limits s ds f) ∙ e
    by false f = refl

all_kept : (limits : Limits) (ds : List Difference) → fits limits ds ≡ true → ds ≡ kept limits ds
all_kept limits [] e = refl
all_kept limits (d ∷ ds) e = sym (ap (λ (b : Bool). cond b (d ∷ ds) (kept limits ds)) e)

-- differences that fit are kept if one more before them does not fit
kept_from : (limits : Limits) (s : ℕ) (ds : List Difference) → fits limits (drop s ds) ≡ true
    → ((t : ℕ) → s ≡ suc t → fits limits (drop t ds) ≡ false) → drop s ds ≡ kept limits ds
kept_from limits zero ds fit before = all_kept limits ds fit
kept_from limits (suc s) [] fit before = refl
kept_from limits (suc s) (d ∷ ds) fit before =
    kept_from limits s ds fit (λ t e. subst (λ (n : ℕ). fits limits (drop n (d ∷ ds)) ≡ false) e (before s refl))
    ∙ sym (ap (λ (b : Bool). cond b (d ∷ ds) (kept limits ds)) (more_too_many limits s (d ∷ ds) (before s refl)))

-- the differences from a place on leave room for so many records and octets
pub record Leaves (limits : Limits) (ds : List Difference) (s room octets_room : ℕ) : Type 0 where
  pub within : s ≤ length ds
  pub records : sizes (drop s ds) + room ≡ limits.records
  pub octets_are : all_octets (drop s ds) + octets_room ≡ limits.octets
  pub number : length ds ≤ s + limits.differences

leaves_fit : (limits : Limits) (ds : List Difference) (s room octets_room : ℕ) → Leaves limits ds s room octets_room → fits limits (drop s ds) ≡ true
leaves_fit limits ds s room octets_room leaves =
    all_fit limits (drop s ds) (omega (arith, length-drop s ds, leaves.number, leaves.within)) (omega (arith, leaves.records)) (omega (arith, leaves.octets_are))

pub none_leave : (limits : Limits) (ds : List Difference) (s room octets_room : ℕ) → s ≡ length ds → room ≡ limits.records → octets_room ≡ limits.octets
    → Leaves limits ds s room octets_room
none_leave limits ds s room octets_room e is octets_is =
    let none : drop s ds ≡ [] = ap (λ (n : ℕ). drop n ds) e ∙ drop-length ds in
    record {
      within = omega (arith, e);
      records = omega (arith, ap sizes none, is);
      octets_are = omega (arith, ap all_octets none, octets_is);
      number = omega (arith, e);
    }

one_more_kept : (ds : List Difference) (s t : ℕ) (d : Difference) → s ≤ length ds → t + 1 ≡ s → d ≡ get_or ds t d → drop t ds ≡ d ∷ drop s ds
one_more_kept ds s t d within e is = drop-cons ds t d (omega (arith, e, within)) ∙ (λ i. sym is i ∷ drop (after i) ds)
  where
    after : suc t ≡ s
    after = omega (arith, e)

-- the octets at a place are those of the difference there
octets_at : (ds : List Difference) (t len : ℕ) (d : Difference) → t < length ds → d ≡ get_or ds t d → len ≡ get_or (map octets ds) t 0 → len ≡ octets d
octets_at [] t len d within is len_is = absurd (omega (arith, within))
octets_at (x ∷ ds) zero len d within is len_is = len_is ∙ ap octets (sym is)
octets_at (x ∷ ds) (suc t) len d within is len_is = octets_at ds t len d (omega (arith, within)) is len_is

pub one_leaves : (limits : Limits) (ds : List Difference) (s t room octets_room left octets_left len : ℕ) (d : Difference) → Leaves limits ds s room octets_room
    → t + 1 ≡ s → d ≡ get_or ds t d → len ≡ get_or (map octets ds) t 0 → length ds - s < limits.differences → left + size d ≡ room
    → octets_left + len ≡ octets_room → Leaves limits ds t left octets_left
one_leaves limits ds s t room octets_room left octets_left len d leaves e is len_is number fit octets_fit =
    let first : drop t ds ≡ d ∷ drop s ds = one_more_kept ds s t d leaves.within e is in
    let len_of : len ≡ octets d = octets_at ds t len d (omega (arith, e, leaves.within)) is len_is in
    record {
      within = omega (arith, e, leaves.within);
      records = omega (arith, ap sizes first, leaves.records, fit);
      octets_are = omega (arith, ap all_octets first, leaves.octets_are, octets_fit, len_of);
      number = omega (arith, e, number, leaves.within);
    }

pub kept_at_start : (limits : Limits) (ds : List Difference) (s room octets_room : ℕ) → Leaves limits ds s room octets_room → s ≡ 0 → drop s ds ≡ kept limits ds
kept_at_start limits ds s room octets_room leaves e =
    kept_from limits s ds (leaves_fit limits ds s room octets_room leaves) (λ t f. absurd (omega (arith, e, f)))

-- the differences from a place on are kept if those from the place before do not fit
kept_before : (limits : Limits) (ds : List Difference) (s t room octets_room : ℕ) → Leaves limits ds s room octets_room → t + 1 ≡ s
    → fits limits (drop t ds) ≡ false → drop s ds ≡ kept limits ds
kept_before limits ds s t room octets_room leaves e past =
    kept_from limits s ds (leaves_fit limits ds s room octets_room leaves) (λ u f. subst (λ (n : ℕ). fits limits (drop n ds) ≡ false) (omega (arith, e, f)) past)

pub kept_for_records : (limits : Limits) (ds : List Difference) (s t room octets_room : ℕ) (d : Difference) → Leaves limits ds s room octets_room → t + 1 ≡ s
    → d ≡ get_or ds t d → room < size d → drop s ds ≡ kept limits ds
kept_for_records limits ds s t room octets_room d leaves e is full =
    let first : drop t ds ≡ d ∷ drop s ds = one_more_kept ds s t d leaves.within e is in
    let records : limits.records < sizes (drop t ds) = omega (arith, ap sizes first, leaves.records, full) in
    kept_before limits ds s t room octets_room leaves e
    (ap (λ (b : Bool). nat_le (length (drop t ds)) limits.differences && (b && nat_le (all_octets (drop t ds)) limits.octets)) (lt-leb (sizes (drop t ds)) limits.records records)
    ∙ and_false (nat_le (length (drop t ds)) limits.differences))

pub kept_for_octets : (limits : Limits) (ds : List Difference) (s t room octets_room len : ℕ) (d : Difference) → Leaves limits ds s room octets_room → t + 1 ≡ s
    → d ≡ get_or ds t d → len ≡ get_or (map octets ds) t 0 → octets_room < len → drop s ds ≡ kept limits ds
kept_for_octets limits ds s t room octets_room len d leaves e is len_is full =
    let first : drop t ds ≡ d ∷ drop s ds = one_more_kept ds s t d leaves.within e is in
    let len_of : len ≡ octets d = octets_at ds t len d (omega (arith, e, leaves.within)) is len_is in
    let octets : limits.octets < all_octets (drop t ds) = omega (arith, ap all_octets first, leaves.octets_are, full, len_of) in
    kept_before limits ds s t room octets_room leaves e (too_many_octets limits (drop t ds) octets)

pub kept_for_number : (limits : Limits) (ds : List Difference) (s t room octets_room : ℕ) → Leaves limits ds s room octets_room → t + 1 ≡ s
    → limits.differences ≤ length ds - s → drop s ds ≡ kept limits ds
kept_for_number limits ds s t room octets_room leaves e full =
    let number : limits.differences < length (drop t ds) = omega (arith, length-drop t ds, e, full, leaves.within) in
    kept_before limits ds s t room octets_room leaves e
    (ap (λ (b : Bool). b && (nat_le (sizes (drop t ds)) limits.records && nat_le (all_octets (drop t ds)) limits.octets))
    (lt-leb (length (drop t ds)) limits.differences number))

-- ---- a difference that is beyond the limits alone

last_octets : (ds : List Difference) (d : Difference) → octets d ≤ all_octets (ds ++ d ∷ [])
last_octets [] d = omega arith
last_octets (e ∷ ds) d = omega (arith, last_octets ds d)

none_kept : (limits : Limits) (ds : List Difference) (d : Difference) → limits.octets < octets d → kept limits (ds ++ d ∷ []) ≡ []
none_kept limits [] d more = ap (λ (b : Bool). cond b (d ∷ []) []) (too_many_octets limits (d ∷ []) (omega (arith, last_octets [] d, more)))
none_kept limits (e ∷ ds) d more =
    ap (λ (b : Bool). cond b (e ∷ (ds ++ d ∷ [])) (kept limits (ds ++ d ∷ [])))
    (too_many_octets limits (e ∷ (ds ++ d ∷ [])) (omega (arith, last_octets (e ∷ ds) d, more)))
    ∙ none_kept limits ds d more

pub none_recorded : (limits : Limits) (ds : List Difference) (d : Difference) → limits.octets < octets d → kept limits (extended ds d) ≡ []
none_recorded limits ds d more = by (same_serial (last_serial ds) (first_serial d.deleted.items))
  where
    by : (b : Bool) → kept limits (cond b (ds ++ d ∷ []) (d ∷ [])) ≡ []
    by true = none_kept limits ds d more
    by false = none_kept limits [] d more

-- ---- what a client lacks

pub last_behind : (older : List Difference) (d : Difference) (more : List Difference) → last_serial (older ++ d ∷ more) ≡ last_serial (d ∷ more)
last_behind [] d more = refl
last_behind (e ∷ []) d more = refl
last_behind (e ∷ f ∷ older) d more = last_behind (f ∷ older) d more

pub is_serial : (o : Option ℕ) (n : ℕ) → same_serial o (Some n) ≡ true → o ≡ Some n
is_serial None n e = absurd (cc)
is_serial (Some m) n e = ap (λ (k : ℕ). Some k) (eqb-true m n e)

-- the differences from a version on
pub record Begins (serial : ℕ) (ds : List Difference) (d : Difference) (more : List Difference) : Type 0 where
  pub older : List Difference
  pub split : ds ≡ older ++ d ∷ more
  pub serial_is : first_serial d.deleted.items ≡ Some serial

first_deleted : List Difference → Option ℕ
first_deleted [] = None
first_deleted (x ∷ xs) = first_serial x.deleted.items

begins : (serial : ℕ) (ds : List Difference) (d : Difference) (more : List Difference) → from_serial serial ds ≡ d ∷ more → Begins serial ds d more
unfolding first_deleted
begins serial [] d more e = absurd (cc)
begins serial (f ∷ ds) d more e = by (same_serial (first_serial f.deleted.items) (Some serial)) refl e (begins serial ds d more)
  where
    by : (b : Bool) → same_serial (first_serial f.deleted.items) (Some serial) ≡ b → cond b (f ∷ ds) (from_serial serial ds) ≡ d ∷ more
        → (from_serial serial ds ≡ d ∷ more → Begins serial ds d more) → Begins serial (f ∷ ds) d more
    by true t is later = record {
      older = [];
      split = is;
      serial_is = sym (ap first_deleted is) ∙ is_serial (first_serial f.deleted.items) serial t;
    }
    by false t is later = let rest = later is in record {
      older = f ∷ rest.older;
      split = ap (λ (l : List Difference). f ∷ l) rest.split;
      serial_is = rest.serial_is;
    }

pub record Known (ds : List Difference) (current serial : ℕ) (d : Difference) (more : List Difference) : Type 0 where
  pub begins_at : Begins serial ds d more
  pub ends_at : last_serial (d ∷ more) ≡ Some current

any_is : (ds : List Difference) (d : Difference) (more : List Difference) → if_any ds ≡ Some (d ∷ more) → ds ≡ d ∷ more
any_is [] d more e = absurd (cc)
any_is (f ∷ ds) d more e = cc

known : (ds : List Difference) (current serial : ℕ) (d : Difference) (more : List Difference) → known_since ds current serial ≡ Some (d ∷ more)
    → Known ds current serial d more
known ds current serial d more e = by (same_serial (last_serial ds) (Some current)) refl e
  where
    by : (b : Bool) → same_serial (last_serial ds) (Some current) ≡ b → cond b (if_any (from_serial serial ds)) None ≡ Some (d ∷ more) → Known ds current serial d more
    by true t is =
        let b : Begins serial ds d more = begins serial ds d more (any_is (from_serial serial ds) d more is) in
        record {
          begins_at = b;
          ends_at = sym (ap last_serial b.split ∙ last_behind b.older d more) ∙ is_serial (last_serial ds) current t;
        }
    by false t is = absurd (cc)

pub is_known : (ds : List Difference) (current serial : ℕ) (d : Difference) (more : List Difference) → since ds current serial ≡ Some (d ∷ more)
    → Known ds current serial d more
is_known ds current serial d more e = by (serial_order serial current) e
  where
    by : (o : SerialOrder) → since_by o ds current serial ≡ Some (d ∷ more) → Known ds current serial d more
    by orders.Less is = known ds current serial d more is
    by orders.Equal is = absurd (cc)
    by orders.Greater is = absurd (cc)
    by orders.Undecided is = absurd (cc)

pub since_history : (ds : List Difference) (current serial : ℕ) (now : Rows) (d : Difference) (more : List Difference)
    → since ds current serial ≡ Some (d ∷ more) → IsHistoryOf now ds → IsHistoryOf now (d ∷ more)
since_history ds current serial now d more e h =
    let b : Begins serial ds d more = (is_known ds current serial d more e).begins_at in
    later_history b.older (d ∷ more) now (subst (IsHistoryOf now) b.split h)

-- ---- the serial numbers of versions

head_in : (rows : Rows) (kept : Record → Bool) (records : List Record) (serial : ℕ) → ((r : Record) → is_among records r ≡ (in_zone rows r && kept r))
    → first_serial records ≡ Some serial → HasSerial rows serial
head_in rows kept [] serial is e = absurd (cc)
head_in rows kept (r ∷ rs) serial is e =
    let here : (in_zone rows r && kept r) ≡ true = sym (is r) ∙ ap (λ (b : Bool). b || is_among rs r) (record_equiv.refl r) in
    (r, ((two (in_zone rows r) (kept r) here).0, e))

first_has : (old next : Rows) (d : Difference) (serial : ℕ) → IsDifference old next d → first_serial d.deleted.items ≡ Some serial → HasSerial old serial
first_has old next d serial is e = head_in old (λ r. not (in_zone next r)) d.deleted.items serial is.deleted e

last_has : (ds : List Difference) (old now : Rows) (serial : ℕ) → Lead old ds now → last_serial ds ≡ Some serial → HasSerial now serial
last_has [] old now serial lead e = absurd (cc)
last_has (d ∷ []) old now serial (next, (is, same)) e =
    let found : HasSerial next serial = head_in next (λ r. not (in_zone old r)) d.added.items serial is.added e in
    (found.0, (sym (same found.0) ∙ found.1.0, found.1.1))
last_has (d ∷ f ∷ more) old now serial (next, (is, lead)) e = last_has (f ∷ more) next now serial lead e

-- what a client gets of a history
pub reaches : (ds : List Difference) (current serial : ℕ) (now : Rows) (d : Difference) (more : List Difference)
    → since ds current serial ≡ Some (d ∷ more) → IsHistoryOf now ds
    → (old : Rows) × (HasSerial old serial × (HasSerial now current
    × ((records : List Record) → AreRecordsOf old records → AreRecordsOf now (applied_all (d ∷ more) records))))
reaches ds current serial now d more e h =
    let k : Known ds current serial d more = is_known ds current serial d more e in
    let p : IsHistoryOf now (d ∷ more) = since_history ds current serial now d more e h in (
      p.0,
      (
        first_has p.0 p.1.0 d serial p.1.1.0 k.begins_at.serial_is,
        (
          last_has (d ∷ more) p.0 now current p.1 k.ends_at,
          λ records are. all_lead (d ∷ more) p.0 now records p.1 are,
        ),
      ),
    )
