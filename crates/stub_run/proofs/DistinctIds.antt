-- Distinct ids serve no two questions.
use Rattle.std.proofs.Common.{◌≡◌, ◌==◌, ◌&&◌, ◌+◌, ◌<◌, ℕ, zero, suc, Bool, false, List, [], ◌∷◌, map, take, length, sym, ap, subst, arith}
use Rattle.std.specs.Prelude.{EachIndex, slice_index}
use Rattle.std.specs.List.{AllByRecursion}
use Rattle.std.proofs.lemmas.Bool.Decides.{nat_tests}
use Rattle.dns_messages.specs.Question.{same_question}
use Rattle.dns_messages.specs.declared.query.Query.{Query}
use Rattle.stub_laws.specs.history.Faithful.{HasNoReuse, is_reuse}
use Rattle.stub_run.specs.Ids.{AreDistinct}

-- ---- the first ids

all-taken : (P : ℕ → Type 0) (count : ℕ) (ids : List ℕ) → AllByRecursion P ids → AllByRecursion P (take count ids)
all-taken P zero [] h = tt
all-taken P zero (id ∷ ids) h = tt
all-taken P (suc count) [] h = tt
all-taken P (suc count) (id ∷ ids) h = (h.0, all-taken P count ids h.1)

taken-distinct : (count : ℕ) (ids : List ℕ) → AreDistinct ids → AreDistinct (take count ids)
taken-distinct zero [] h = tt
taken-distinct zero (id ∷ ids) h = tt
taken-distinct (suc count) [] h = tt
taken-distinct (suc count) (id ∷ ids) h =
    (all-taken (λ other. (id == other) ≡ false) count ids h.0, taken-distinct count ids h.1)

-- ---- questions

abbrev ids_of : List (ℕ × Query) → List ℕ
ids_of sent = map (λ (draw : ℕ × Query). draw.0) sent

others-differ : (first : ℕ × Query) (sent : List (ℕ × Query)) → AllByRecursion (λ other. (first.0 == other) ≡ false) (ids_of sent)
    → AllByRecursion (λ later. is_reuse first later ≡ false) sent
others-differ first [] h = tt
others-differ first (later ∷ sent) h =
    (ap (λ (b : Bool). b && same_question later.1 first.1) h.0, others-differ first sent h.1)

no-reuse : (sent : List (ℕ × Query)) → AreDistinct (ids_of sent) → HasNoReuse sent
no-reuse [] h = tt
no-reuse (first ∷ sent) h = (others-differ first sent h.0, no-reuse sent h.1)

pub distinct-not-reused : (ids : List ℕ) (sent : List (ℕ × Query)) → AreDistinct ids
    → map (λ (draw : ℕ × Query). draw.0) sent ≡ take (length sent) ids → HasNoReuse sent
distinct-not-reused ids sent h drawn =
    no-reuse sent (subst AreDistinct (sym drawn) (taken-distinct (length sent) ids h))

-- ---- ids that count

differ : (a b : ℕ) → a < b → (a == b) ≡ false
differ a b h = grind (arith, nat_tests)

all-greater : (id n : ℕ) (ids : List ℕ) → id < n → EachIndex ids (λ k. slice_index ids k ≡ k + n)
    → AllByRecursion (λ other. (id == other) ≡ false) ids
all-greater id n [] less h = tt
all-greater id n (x ∷ ids) less h =
    let here : x ≡ 0 + n = h 0 (omega arith) in
    let first : x ≡ n = omega (arith, here) in (
      differ id x (omega (arith, first)),
      all-greater id (n + 1) ids (omega arith)
          (λ k within. let here : slice_index ids k ≡ suc k + n = h (suc k) (omega arith) in omega (arith, here)),
    )

pub counted-distinct : (n : ℕ) (ids : List ℕ) → EachIndex ids (λ k. slice_index ids k ≡ k + n) → AreDistinct ids
counted-distinct n [] h = tt
counted-distinct n (x ∷ ids) h =
    let here : x ≡ 0 + n = h 0 (omega arith) in
    let first : x ≡ n = omega (arith, here) in
    let rest : EachIndex ids (λ k. slice_index ids k ≡ k + (n + 1)) =
    λ k within. let here : slice_index ids k ≡ suc k + n = h (suc k) (omega arith) in omega (arith, here) in
    (all-greater x (n + 1) ids (omega (arith, first)) rest, counted-distinct (n + 1) ids rest)
