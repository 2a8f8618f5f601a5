-- Histories that are made, and that go on with the changes of their zones.
use Rattle.std.proofs.Common.{◌≡◌, ◌≤◌, ◌<◌, ◌+◌, ◌∙◌, ℕ, zero, suc, Bool, true, false, List, [], ◌∷◌, ◌++◌, length, take, get_or, Option, Some, None, refl, sym, ap, subst, arith}
use Rattle.std.proofs.lemmas.List.{take_more}
use Rattle.std.proofs.lemmas.Bool.Decides.{nat_tests}
use Rattle.std.specs.Prelude.{nat_eq, slice_get, slice_set, IsSomeAnd, Result, Ok, Err, OnOk, OnErr}
use Rattle.dns_differences.specs.declared.difference.Difference.{Difference}
use Rattle.dns_differences.specs.declared.history.Limits.{Limits}
use Rattle.dns_differences.specs.Difference.{IsDifference}
use Rattle.dns_differences.specs.History.{recorded, IsHistoryOf}
use Rattle.dns_differences.proofs.HistoryLaws.{empty_history, recorded_history}
use Rattle.dns_server.specs.Maintaining.{IsChangedAt}
use Rattle.dns_server.specs.declared.server.ZoneChange.{ZoneChange}
use Rattle.dns_zone.specs.Rows.{ZoneContent}
use Rattle.dns_transfers.specs.replies.Recording.{AreForgotten, AreHistoriesOf, AreNewIf, AreNewOf, AreRecorded, Becomes, IsKnownOf, IsNewOf, recorded_if}
use Rattle.dns_transfers.specs.declared.replies.zone_history.ZoneHistory.{ZoneHistory}

-- ---- places

some_apart : {A : Type 0} (x : A) → Some x ≡ None → ⊥
some_apart x e = cc

set_here : {A : Type 0} (xs : List A) (k : ℕ) (x y : A) → slice_get xs k ≡ Some y → slice_get (slice_set xs k x) k ≡ Some x
set_here [] k x y e = absurd (cc)
set_here (z ∷ xs) zero x y e = refl
set_here (z ∷ xs) (suc k) x y e = set_here xs k x y e

set_other : {A : Type 0} (xs : List A) (k place : ℕ) (x : A) → (k ≡ place → ⊥) → slice_get (slice_set xs k x) place ≡ slice_get xs place
set_other [] k place x differ = refl
set_other (z ∷ xs) zero zero x differ = absurd (differ refl)
set_other (z ∷ xs) zero (suc place) x differ = refl
set_other (z ∷ xs) (suc k) zero x differ = refl
set_other (z ∷ xs) (suc k) (suc place) x differ = set_other xs k place x (λ e. differ (ap (λ (n : ℕ). suc n) e))

set_length : {A : Type 0} (xs : List A) (k : ℕ) (x : A) → length (slice_set xs k x) ≡ length xs
set_length [] k x = refl
set_length (z ∷ xs) zero x = refl
set_length (z ∷ xs) (suc k) x = omega (arith, set_length xs k x)

-- what is at a place of one list has its counterpart in another of the same length
same_place : {A B : Type 0} (xs : List A) (ys : List B) (place : ℕ) (x : A) → length xs ≡ length ys → slice_get xs place ≡ Some x
    → (y : B) × (slice_get ys place ≡ Some y)
same_place [] ys place x same e = absurd (cc)
same_place (z ∷ xs) [] place x same e = absurd (omega (arith, same))
same_place (z ∷ xs) (y ∷ ys) zero x same e = (y, refl)
same_place (z ∷ xs) (y ∷ ys) (suc place) x same e = same_place xs ys place x (omega (arith, same)) e

same_some : {A : Type 0} {a b : A} → Some a ≡ Some b → a ≡ b
same_some e = cc

-- ---- histories without differences

append_new : (limits : Limits) (zones : List ZoneContent) (histories : List ZoneHistory) (zone : ZoneContent) (h : ZoneHistory)
    → AreNewOf limits zones histories → IsNewOf limits zone h → AreNewOf limits (zones ++ zone ∷ []) (histories ++ h ∷ [])
append_new limits [] [] zone h are is = (is, tt)
append_new limits [] (g ∷ histories) zone h are is = absurd are
append_new limits (z ∷ zones) [] zone h are is = absurd are
append_new limits (z ∷ zones) (g ∷ histories) zone h are is = (are.0, append_new limits zones histories zone h are.1 is)

pub next_new : (limits : Limits) (zones : List ZoneContent) (k : ℕ) (zone : ZoneContent) (old new : List ZoneHistory) (h : ZoneHistory) → k < length zones
    → zone ≡ get_or zones k zone → AreNewOf limits (take k zones) old → IsNewOf limits zone h → new ≡ old ++ h ∷ []
    → AreNewOf limits (take (k + 1) zones) new
next_new limits zones k zone old new h below at so_far is pushed =
    subst (λ (l : List ZoneContent). AreNewOf limits l new)
    (ap (λ (z : ZoneContent). take k zones ++ z ∷ []) at ∙ sym (take_more zones k zone below))
    (subst (AreNewOf limits (take k zones ++ zone ∷ [])) (sym pushed) (append_new limits (take k zones) old zone h so_far is))

new_known : (limits : Limits) (zones : List ZoneContent) (histories : List ZoneHistory) → AreNewOf limits zones histories → AreHistoriesOf zones histories
new_known limits [] [] are place h h_there = absurd (cc)
new_known limits [] (k ∷ histories) are place h h_there = absurd are
new_known limits (z ∷ zones) [] are place h h_there = absurd are
new_known limits (z ∷ zones) (k ∷ histories) are zero h h_there =
    let same_history : k ≡ h = cc in
    let is : IsNewOf limits z h = subst (IsNewOf limits z) same_history are.0 in
    record { origin_is = is.origin_is; leads = subst (IsHistoryOf z.rows) (sym is.none) (empty_history z.rows) }
new_known limits (z ∷ zones) (k ∷ histories) are (suc place) h h_there = new_known limits zones histories are.1 place h h_there

pub new_known_if : (limits : Option Limits) (zones : List ZoneContent) (histories : List ZoneHistory) → AreNewIf limits zones histories
    → AreHistoriesOf zones histories
new_known_if None zones histories none =
    λ place h h_there. absurd (some_apart h (sym (sym (ap (λ (l : List ZoneHistory). slice_get l place) none) ∙ h_there)))
new_known_if (Some limits) zones histories are = new_known limits zones histories are

-- ---- one more difference

-- a history that goes on, or begins again, at its place
pub recorded_at : (complete : Bool) (place : ℕ) (d : Difference) (old : List ZoneHistory) (h k : ZoneHistory) → slice_get old place ≡ Some h
    → Becomes h (recorded_if complete h d) k → AreRecorded complete place d old (slice_set old place k)
recorded_at complete place d old h k there becomes = record {
  count = set_length old place k;
  here = λ g l at_old at_new.
      subst (λ (x : ZoneHistory). Becomes g (recorded_if complete g d) x) (same_some (sym (set_here old place k h there) ∙ at_new))
      (subst (λ (x : ZoneHistory). Becomes x (recorded_if complete x d) k) (same_some (sym there ∙ at_old)) becomes);
  others = λ other differ. set_other old place other k (λ e. differ (sym e));
}

beyond : {A : Type 0} (xs : List A) (place : ℕ) (x : A) → length xs ≤ place → slice_get xs place ≡ Some x → ⊥
beyond [] place x past e = cc
beyond (y ∷ xs) zero x past e = omega (arith, past)
beyond (y ∷ xs) (suc place) x past e = beyond xs place x (omega (arith, past)) e

-- no history is at a place behind them all
pub none_recorded : (complete : Bool) (place : ℕ) (d : Difference) (old : List ZoneHistory) → length old ≤ place → AreRecorded complete place d old old
none_recorded complete place d old past = record {
  count = refl;
  here = λ h k at_old at_new. absurd (beyond old place h past at_old);
  others = λ other differ. refl;
}

goes_on : (complete : Bool) (old new : ZoneContent) (h k : ZoneHistory) (d : Difference) → new.origin ≡ old.origin → IsDifference old.rows new.rows d
    → Becomes h (recorded_if complete h d) k → IsKnownOf old h → IsKnownOf new k
goes_on true old new h k d origin is becomes known = record {
  origin_is = becomes.origin_is ∙ known.origin_is ∙ sym origin;
  leads = subst (IsHistoryOf new.rows) (sym becomes.differences_are) (recorded_history h.history.limits h.history.differences.items old.rows new.rows d known.leads is);
}
goes_on false old new h k d origin is becomes known = record {
  origin_is = becomes.origin_is ∙ known.origin_is ∙ sym origin;
  leads = subst (IsHistoryOf new.rows) (sym becomes.differences_are) (empty_history new.rows);
}

-- histories stay those of the zones
pub known_after : (complete : Bool) (c : ZoneChange) (zones after : List ZoneContent) (old new : List ZoneHistory) → IsChangedAt zones c after
    → AreRecorded complete c.place c.difference old new → AreHistoriesOf zones old → AreHistoriesOf after new
known_after complete c zones after old new changed are known place k k_there = by (nat_eq place c.place) refl
  where
    by : (b : Bool) → nat_eq place c.place ≡ b → IsSomeAnd (slice_get after place) (λ zone. IsKnownOf zone k)
    by true e =
        let here : place ≡ c.place = grind (arith, nat_tests) in
        let k_here : slice_get new c.place ≡ Some k = subst (λ (p : ℕ). slice_get new p ≡ Some k) here k_there in
        let h = same_place new old c.place k are.count k_here in
        let known_here : IsKnownOf changed.old h.0 = subst (λ (o : Option ZoneContent). IsSomeAnd o (λ zone. IsKnownOf zone h.0)) changed.there (known c.place h.0 h.1) in
        let there : slice_get after place ≡ Some changed.new =
        ap (slice_get after) here ∙ ap (λ (l : List ZoneContent). slice_get l c.place) changed.after_is ∙ set_here zones c.place changed.new changed.old changed.there in
        subst (λ (o : Option ZoneContent). IsSomeAnd o (λ zone. IsKnownOf zone k)) (sym there)
        (goes_on complete changed.old changed.new h.0 k c.difference changed.origin_is changed.recordable.difference (are.here h.0 k h.1 k_here) known_here)
    by false e =
        let elsewhere : place ≡ c.place → ⊥ = λ same. absurd (grind (arith, nat_tests)) in
        subst (λ (o : Option ZoneContent). IsSomeAnd o (λ zone. IsKnownOf zone k))
        (sym (ap (λ (l : List ZoneContent). slice_get l place) changed.after_is ∙ set_other zones c.place place changed.new (λ same. elsewhere (sym same))))
        (known place k (sym (are.others place elsewhere) ∙ k_there))

-- ---- histories that begin again

-- The histories before a place begin again, and those from it on are as they were.
pub record AreForgottenTo (old now : List ZoneHistory) (k : ℕ) : Type 0 where
  pub count : length now ≡ length old
  pub done : (place : ℕ) (h x : ZoneHistory) → place < k → slice_get old place ≡ Some h → slice_get now place ≡ Some x → Becomes h [] x
  pub rest : (place : ℕ) → k ≤ place → slice_get now place ≡ slice_get old place

index_is : (k place : ℕ) → nat_eq k place ≡ true → k ≡ place
index_is k place e = grind (arith, nat_tests)

indexes_differ : (k place : ℕ) → nat_eq k place ≡ false → k ≡ place → ⊥
indexes_differ k place e same = absurd (grind (arith, nat_tests))

before_it : (k place : ℕ) → nat_eq k place ≡ false → place < k + 1 → place < k
before_it k place e lt = grind (arith, nat_tests)

below : {A : Type 0} (xs : List A) (place : ℕ) (x : A) → slice_get xs place ≡ Some x → place < length xs
below [] place x e = absurd (cc)
below (y ∷ xs) zero x e = omega arith
below (y ∷ xs) (suc place) x e = omega (arith, below xs place x e)

module _ (old now : List ZoneHistory) (k : ℕ) (known new : ZoneHistory) (so_far : AreForgottenTo old now k) (there : slice_get now k ≡ Some known)
    (is : Becomes known [] new) where
  here_forgotten : (place : ℕ) (h x : ZoneHistory) → k ≡ place → slice_get old place ≡ Some h → slice_get (slice_set now k new) place ≡ Some x → Becomes h [] x
  here_forgotten place h x e h_there x_there =
      let is_new : new ≡ x = same_some (sym (set_here now k new known there) ∙ ap (slice_get (slice_set now k new)) e ∙ x_there) in
      let is_old : known ≡ h = same_some (sym there ∙ so_far.rest k (omega arith) ∙ ap (slice_get old) e ∙ h_there) in
      subst (λ (y : ZoneHistory). Becomes h [] y) is_new (subst (λ (y : ZoneHistory). Becomes y [] new) is_old is)

  either_forgotten : (t : Bool) (place : ℕ) (h x : ZoneHistory) → nat_eq k place ≡ t → place < k + 1 → slice_get old place ≡ Some h
      → slice_get (slice_set now k new) place ≡ Some x → Becomes h [] x
  either_forgotten true place h x e lt h_there x_there = here_forgotten place h x (index_is k place e) h_there x_there
  either_forgotten false place h x e lt h_there x_there =
      so_far.done place h x (before_it k place e lt) h_there (sym (set_other now k place new (indexes_differ k place e)) ∙ x_there)

  pub one_forgotten : AreForgottenTo old (slice_set now k new) (k + 1)
  one_forgotten = record {
    count = set_length now k new ∙ so_far.count;
    done = λ place h x. either_forgotten (nat_eq k place) place h x refl;
    rest = λ place le. set_other now k place new (λ e. absurd (omega (arith, le, e))) ∙ so_far.rest place (omega (arith, le));
  }

pub all_forgotten : (old now : List ZoneHistory) (k : ℕ) → AreForgottenTo old now k → length now ≤ k → AreForgotten old now
all_forgotten old now k so_far end = record {
  count = so_far.count;
  each = λ place h x h_there x_there. so_far.done place h x (omega (arith, below now place x x_there, end)) h_there x_there;
}

pub none_forgotten : (old : List ZoneHistory) → AreForgottenTo old old 0
none_forgotten old = record {
  count = refl;
  done = λ place h x lt h_there x_there. absurd (omega (arith, lt));
  rest = λ place le. refl;
}

-- ---- a change that is recorded, or begins the history again

pub known_either : {T E : Type 0} (r : Result T E) (c : ZoneChange) (zones after : List ZoneContent) (old : List ZoneHistory) (h k : ZoneHistory)
    → slice_get old c.place ≡ Some h → k.origin ≡ h.origin → k.history.limits ≡ h.history.limits
    → OnOk r (k.history.differences.items ≡ recorded h.history.limits h.history.differences.items c.difference) → OnErr r (k.history.differences.items ≡ [])
    → IsChangedAt zones c after → AreHistoriesOf zones old → AreHistoriesOf after (slice_set old c.place k)
known_either (Ok v) c zones after old h k there origin limits ok err changed known =
    known_after true c zones after old (slice_set old c.place k) changed
    (recorded_at true c.place c.difference old h k there (record { origin_is = origin; limits_are = limits; differences_are = ok })) known
known_either (Err e) c zones after old h k there origin limits ok err changed known =
    known_after false c zones after old (slice_set old c.place k) changed
    (recorded_at false c.place c.difference old h k there (record { origin_is = origin; limits_are = limits; differences_are = err })) known
