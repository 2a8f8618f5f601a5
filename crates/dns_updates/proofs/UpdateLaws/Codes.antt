-- Codes of records that pass.
use Rattle.std.proofs.Common.{◌≡◌, ◌==◌, ℕ, Bool, true, false, ◌&&◌, ◌||◌, List, [], ◌∷◌, ◌++◌, refl, ap, ◌∙◌, arith}
use Rattle.std.specs.Prelude.{nat_le}
use Rattle.std.specs.List.{list_all, AllByRecursion}
use Rattle.std.proofs.lemmas.Bool.Decides.{nat_tests}
use Rattle.dns_messages.specs.declared.response_code.ResponseCode.{ResponseCode}
use Rattle.dns_messages.specs.declared.response_code.ResponseCode.TheVariants.{NoError}
use Rattle.dns_updates.specs.Code.{first_fault, first_fault_of}

pub no_fault : {A : Type 0} (code : A → ResponseCode) (xs : List A) → AllByRecursion (λ x. code x ≡ NoError) xs → first_fault_of code xs ≡ NoError
no_fault code [] all = refl
no_fault code (x ∷ xs) all = ap (λ c. first_fault c (first_fault_of code xs)) all.0 ∙ no_fault code xs all.1

pub no_fault_append : {A : Type 0} (code : A → ResponseCode) (xs ys : List A) → AllByRecursion (λ x. code x ≡ NoError) xs → first_fault_of code (xs ++ ys) ≡ first_fault_of code ys
no_fault_append code [] ys all = refl
no_fault_append code (x ∷ xs) ys all = ap (λ c. first_fault c (first_fault_of code (xs ++ ys))) all.0 ∙ no_fault_append code xs ys all.1

pub last_fault : (c : ResponseCode) → first_fault c NoError ≡ c
last_fault NoError = refl
last_fault fault = refl

-- zone section, prerequisites, required sets and updates, of which the first and the last pass
pub code_of_parts : (z p s u : ResponseCode) → z ≡ NoError → u ≡ NoError → first_fault z (first_fault p (first_fault s u)) ≡ first_fault p s
code_of_parts z p s u ez eu =
    ap (λ c. first_fault c (first_fault p (first_fault s u))) ez ∙ ap (λ c. first_fault p (first_fault s c)) eu ∙ ap (first_fault p) (last_fault s)

pub or_first : (a b : Bool) → (a || b) ≡ false → a ≡ false
or_first true b e = absurd (cc)
or_first false b e = refl

pub or_second : (a b : Bool) → (a || b) ≡ false → b ≡ false
or_second true b e = absurd (cc)
or_second false b e = e

-- numbers outside 128 to 255
pub not_between : (n : ℕ) → (nat_le 128 n && nat_le n 255) ≡ false → (255 == n) ≡ false
not_between n e = grind (arith, nat_tests)

pub not_transfer : (n : ℕ) → (nat_le 128 n && nat_le n 255) ≡ false → (nat_le 252 n && nat_le n 254) ≡ false
not_transfer n e = grind (arith, nat_tests)

pub all_constant : {A : Type 0} (p : A → Bool) (b : Bool) (x : A) (xs : List A) → AllByRecursion (λ y. p y ≡ b) (x ∷ xs) → list_all p (x ∷ xs) ≡ b
all_constant p true x [] all = ap (λ c. c && true) all.0
all_constant p false x [] all = ap (λ c. c && true) all.0
all_constant p true x (y ∷ ys) all = ap (λ c. c && list_all p (y ∷ ys)) all.0 ∙ all_constant p true y ys all.1
all_constant p false x (y ∷ ys) all = ap (λ c. c && list_all p (y ∷ ys)) all.0

pub number_itself : (n : ℕ) → (n == n) ≡ true
number_itself n = grind (arith, nat_tests)

pub number_same : (m n : ℕ) → (m == n) ≡ true → m ≡ n
number_same m n e = grind (arith, nat_tests)

pub and_both : (a b : Bool) → (a && b) ≡ true → (a ≡ true) × (b ≡ true)
and_both true b e = (refl, e)
and_both false b e = absurd (cc)
