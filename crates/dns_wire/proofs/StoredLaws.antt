-- Suffixes whose bytes are stored one after another.
use Rattle.std.proofs.Common.{◌≡◌, ℕ, zero, suc, ◌+◌, Bool, true, false, cond, ltb, List, [], ◌∷◌, ◌++◌, ◌≤◌, length, take, drop, Some, refl, sym, ap, ◌∙◌, subst, arith}
use Rattle.std.specs.Prelude.{filter, slice_range, slice_get, Result, Ok, Err, OnErr}
use Rattle.std.proofs.lemmas.List.{take-append-le, take-append-drop, take_all, drop_at}
use Rattle.std.proofs.lemmas.Slice.{between_is}
use Rattle.dns_wire.specs.Suffixes.{Suffix, suffixes_before}
use Rattle.dns_wire.specs.internal.Suffixes.{suffix_of, suffixes_of, AreStoredFrom}
use Rattle.dns_wire.specs.declared.suffixes.Entry.{Entry}

pub on_err : {T E P : Type 0} (r : Result T E) → P → OnErr r P
on_err (Ok x) p = tt
on_err (Err error) p = p

-- ---- the ranges

pub stored-earlier : (earlier place end : ℕ) (es : List Entry) → earlier ≤ place → AreStoredFrom place end es → AreStoredFrom earlier end es
stored-earlier earlier place end [] le are = omega (arith, le, are)
stored-earlier earlier place end (e ∷ es) le are = (omega (arith, le, are.0), are.1, are.2)

pub stored-later : (place end later : ℕ) (es : List Entry) → end ≤ later → AreStoredFrom place end es → AreStoredFrom place later es
stored-later place end later [] le are = omega (arith, le, are)
stored-later place end later (e ∷ es) le are = (are.0, are.1, stored-later e.end end later es le are.2)

pub stored-push : (place end later : ℕ) (es : List Entry) (e : Entry) → AreStoredFrom place end es → end ≤ e.start → e.start ≤ e.end → e.end ≤ later → AreStoredFrom place later (es ++ e ∷ [])
stored-push place end later [] e are from order to = (omega (arith, are, from), order, to)
stored-push place end later (x ∷ es) e are from order to = (are.0, are.1, stored-push x.end end later es e are.2 from order to)

pub stored-filter : (test : Entry → Bool) (place end : ℕ) (es : List Entry) → AreStoredFrom place end es → AreStoredFrom place end (filter test es)
stored-filter test place end [] are = are
stored-filter test place end (e ∷ es) are = at (test e) (stored-filter test e.end end es are.2)
  where
    at : (b : Bool) → AreStoredFrom e.end end (filter test es) → AreStoredFrom place end (cond b (e ∷ filter test es) (filter test es))
    at true more = (are.0, are.1, more)
    at false more = stored-earlier place e.end end (filter test es) (omega (arith, are.0, are.1)) more

-- the range of an entry
pub stored-at : (place end : ℕ) (es : List Entry) (i : ℕ) (e : Entry) → AreStoredFrom place end es → slice_get es i ≡ Some e → (e.start ≤ e.end) × (e.end ≤ end)
stored-at place end [] i e are found = absurd (cc)
stored-at place end (x ∷ es) zero e are found = let same : x ≡ e = cc in subst (λ (y : Entry). (y.start ≤ y.end) × (y.end ≤ end)) same (are.1, within x.end es are.2)
  where
    within : (place : ℕ) (es : List Entry) → AreStoredFrom place end es → place ≤ end
    within place [] are = are
    within place (x ∷ es) are = omega (arith, are.0, are.1, within x.end es are.2)
stored-at place end (x ∷ es) (suc i) e are found = stored-at x.end end es i e are.2 found

-- up to the end of the last entry
pub stored-last : (place end : ℕ) (es : List Entry) (last : ℕ) (e : Entry) → AreStoredFrom place end es → last + 1 ≡ length es → slice_get es last ≡ Some e → AreStoredFrom place e.end es
stored-last place end [] last e are len found = absurd (cc)
stored-last place end (x ∷ []) zero e are len found = let same : x ≡ e = cc in (are.0, are.1, omega (arith, ap (λ (y : Entry). y.end) same))
stored-last place end (x ∷ y ∷ es) zero e are len found = absurd (omega (arith, len))
stored-last place end (x ∷ es) (suc last) e are len found = (are.0, are.1, stored-last x.end end es last e are.2 (omega (arith, len)) found)

-- ---- the bytes

-- bytes behind a range do not change it
range-append : (stored more : List ℕ) (e : Entry) → e.end ≤ length stored → slice_range (stored ++ more) e.start e.end ≡ slice_range stored e.start e.end
range-append stored more e within =
    between_is (stored ++ more) e.start e.end ∙ ap (drop e.start) (take-append-le e.end stored more within) ∙ sym (between_is stored e.start e.end)

pub suffixes_of-append : (place : ℕ) (stored more : List ℕ) (es : List Entry) → AreStoredFrom place (length stored) es → suffixes_of (stored ++ more) es ≡ suffixes_of stored es
suffixes_of-append place stored more [] are = refl
suffixes_of-append place stored more (e ∷ es) are =
    let within = stored-at place (length stored) (e ∷ es) 0 e are refl in
    rw (range-append stored more e within.1) (ap (λ (ss : List Suffix). suffix_of stored e ∷ ss) (suffixes_of-append e.end stored more es are.2))

pub suffixes_of-take : (place n : ℕ) (stored : List ℕ) (es : List Entry) → AreStoredFrom place (length (take n stored)) es → suffixes_of (take n stored) es ≡ suffixes_of stored es
suffixes_of-take place n stored es are =
    sym (suffixes_of-append place (take n stored) (drop n stored) es are) ∙ ap (λ (xs : List ℕ). suffixes_of xs es) (take-append-drop n stored)

-- choosing among the entries is choosing among the suffixes
pub suffixes_of-before : (place : ℕ) (stored : List ℕ) (es : List Entry) → suffixes_of stored (filter (λ e. ltb e.offset place) es) ≡ suffixes_before place (suffixes_of stored es)
suffixes_of-before place stored [] = refl
suffixes_of-before place stored (e ∷ es) = at (ltb e.offset place) (suffixes_of-before place stored es)
  where
    at : (b : Bool) → suffixes_of stored (filter (λ e. ltb e.offset place) es) ≡ suffixes_before place (suffixes_of stored es)
        → suffixes_of stored (cond b (e ∷ filter (λ e. ltb e.offset place) es) (filter (λ e. ltb e.offset place) es)) ≡ cond b (suffix_of stored e ∷ suffixes_before place (suffixes_of stored es)) (suffixes_before place (suffixes_of stored es))
    at true more = ap (λ (ss : List Suffix). suffix_of stored e ∷ ss) more
    at false more = more

-- a suffix more, with its bytes at the end
pub suffixes_of-push : (place : ℕ) (stored more : List ℕ) (es : List Entry) (e : Entry) → AreStoredFrom place (length stored) es → e.start ≡ length stored → e.end ≡ length (stored ++ more)
    → suffixes_of (stored ++ more) (es ++ e ∷ []) ≡ suffixes_of stored es ++ record { start = e.offset; bytes = more } ∷ []
suffixes_of-push place stored more [] e are start end =
    let bytes : slice_range (stored ++ more) e.start e.end ≡ more =
    between_is (stored ++ more) e.start e.end ∙ ap (drop e.start) (take_all e.end (stored ++ more) (omega (arith, end))) ∙ drop_at stored more e.start (sym start) in
    ap (λ (xs : List ℕ). record { start = e.offset; bytes = xs } ∷ []) bytes
suffixes_of-push place stored more (x ∷ es) e are start end =
    let within = stored-at place (length stored) (x ∷ es) 0 x are refl in
    rw (range-append stored more x within.1) (ap (λ (ss : List Suffix). suffix_of stored x ∷ ss) (suffixes_of-push x.end stored more es e are.2 start end))
