-- A verified request has the code of a key.
use Rattle.std.proofs.Common.{◌≡◌, ◌+◌, Bool, true, false, cond, not, ℕ, suc, List, [], ◌∷◌, length, Some, refl, subst, arith}
use Rattle.std.specs.Prelude.{nat_lt, slice_get}
use Rattle.dns_tsig.specs.Judge.{is_allowed_len, is_in_time, is_mac_of, judgement}
use Rattle.dns_tsig.specs.Verify.{by_key, is_key_of, verdict_from}
use Rattle.dns_tsig.specs.declared.covered.Coverage.TheVariants.{Variables}
use Rattle.dns_tsig.specs.declared.found.Signature.{Signature}
use Rattle.dns_tsig.specs.declared.judge.Judgement.{Judgement}
use Rattle.dns_tsig.specs.declared.judge.Judgement.TheVariants as judgements
use Rattle.dns_tsig.specs.declared.key.Key.{Key}
use Rattle.dns_tsig.specs.declared.verify.Verdict.TheVariants as verdicts
use Rattle.dns_tsig_laws.specs.Code.{IsOfHolder, request_code}

-- the four tests of a judgement
record Tests (allowed mac timely short : Bool) : Type 0 where
  is_allowed : allowed ≡ true
  is_mac : mac ≡ true
  is_timely : timely ≡ true
  is_whole : short ≡ false

tests : (allowed mac timely short : Bool)
    → cond (not allowed) judgements.FormErr (cond (not mac) judgements.BadSig (cond (not timely) judgements.BadTime (cond short judgements.BadTrunc judgements.Verified))) ≡ judgements.Verified → Tests allowed mac timely short
tests false mac timely short e = absurd (cc)
tests true false timely short e = absurd (cc)
tests true true false short e = absurd (cc)
tests true true true true e = absurd (cc)
tests true true true false e = record { is_allowed = refl; is_mac = refl; is_timely = refl; is_whole = refl }

-- the judgement by the key at an index is that of a verified request
record IsJudged (first index : ℕ) (j : Judgement) : Type 0 where
  same : index ≡ first
  judged : j ≡ judgements.Verified

judged_by : (first index : ℕ) (j : Judgement) → by_key first j ≡ verdicts.Verified index → IsJudged first index j
judged_by first index judgements.FormErr e = absurd (cc)
judged_by first index judgements.BadSig e = absurd (cc)
judged_by first index judgements.BadTime e = absurd (cc)
judged_by first index judgements.BadTrunc e = absurd (cc)
judged_by first index judgements.Verified e = record { same = cc; judged = refl }

-- the key that decides, among keys of which the first has an index
record Decides (first : ℕ) (keys : List Key) (request : List ℕ) (s : Signature) (now index : ℕ) : Type 0 where
  key : Key
  offset : ℕ
  index_is : index ≡ first + offset
  there : slice_get keys offset ≡ Some key
  of_key : is_key_of key s ≡ true
  judged : judgement key [] request s.place s.tsig Variables now ≡ judgements.Verified

decided : (first : ℕ) (keys : List Key) (request : List ℕ) (s : Signature) (now index : ℕ) → verdict_from first keys request s now ≡ verdicts.Verified index → Decides first keys request s now index
decided first [] request s now index e = absurd (cc)
decided first (key ∷ keys) request s now index e = by (λ later. decided (first + 1) keys request s now index later) (is_key_of key s) refl e
  where
    by : (verdict_from (first + 1) keys request s now ≡ verdicts.Verified index → Decides (first + 1) keys request s now index) → (is_same : Bool) → is_key_of key s ≡ is_same
        → cond is_same (by_key first (judgement key [] request s.place s.tsig Variables now)) (verdict_from (first + 1) keys request s now) ≡ verdicts.Verified index → Decides first (key ∷ keys) request s now index
    by next true is e =
        let j = judged_by first index (judgement key [] request s.place s.tsig Variables now) e in
        record { key = key; offset = 0; index_is = omega (arith, j.same); there = refl; of_key = is; judged = j.judged }
    by next false is e =
        let d = next e in
        record { key = d.key; offset = suc d.offset; index_is = omega (arith, d.index_is); there = d.there; of_key = d.of_key; judged = d.judged }

pub of_holder : (keys : List Key) (request : List ℕ) (s : Signature) (now index : ℕ) → verdict_from 0 keys request s now ≡ verdicts.Verified index → IsOfHolder keys index request s now
of_holder keys request s now index e =
    let d = decided 0 keys request s now index e in
    let offset_is : d.offset ≡ index = omega (arith, d.index_is) in
    let t = tests (is_allowed_len d.key.algorithm (length s.tsig.mac)) (is_mac_of (request_code d.key request s) s.tsig.mac) (is_in_time s.tsig.time s.tsig.fudge now) (nat_lt (length s.tsig.mac) d.key.least_mac) d.judged in
    record {
      key = d.key;
      there = subst (λ (n : ℕ). slice_get keys n ≡ Some d.key) offset_is d.there;
      of_key = d.of_key;
      allowed = t.is_allowed;
      mac = t.is_mac;
      in_time = t.is_timely;
      whole = t.is_whole;
    }
