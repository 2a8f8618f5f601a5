-- Stacks of names, and labels from right to left.
use Rattle.std.proofs.Common.{◌≡◌, ◌++◌, ◌∷◌, [], List, ℕ, length, reverse, ap, refl, sym, ◌∙◌}
use Rattle.std.specs.Prelude.{◌==◌, ◌&&◌, ◌||◌, if◌then◌else◌, Bool, true, false, codes, Ok, Option}
use Rattle.std.specs.List.{list_any}
use Rattle.std.specs.Str.{str_eq_ignore_ascii_case, str_to_ascii_lowercase}
use Rattle.std.specs.Bool.{IsTrue}
use Rattle.std.proofs.lemmas.List.{reverse-append, reverse-reverse}
use Rattle.std.proofs.lemmas.Slice.Eq.{bytes_eq-Decides}
use Rattle.std.specs.Cmp.{both_ways}
use Rattle.std.proofs.lemmas.List.Folds.{list_any-append}
use Rattle.dns_names.specs.Name.{DomainName}
use Rattle.dns_names.specs.Compare.{same_name}
use Rattle.stub_core.specs.AttemptedNames.{attempted_names, is_complete, is_onion_path, joined_before}
use Rattle.stub_hosts.specs.Hosts.{qualified}

chosen : {A : Type 0} (b : Bool) (x y : A) → b ≡ true → (if b then x else y) ≡ x
chosen true x y is_true = refl
chosen false x y is_true = cc

other : {A : Type 0} (b : Bool) (x y : A) → b ≡ false → (if b then x else y) ≡ y
other true x y is_false = cc
other false x y is_false = refl

or-last : (a b : Bool) → (a || (b || false)) ≡ (b || a)
or-last true true = refl
or-last true false = refl
or-last false true = refl
or-last false false = refl

-- what is pushed on a stack comes first
pub reverse-push : {A : Type 0} (xs : List A) (x : A) → reverse (xs ++ x ∷ []) ≡ x ∷ reverse xs
reverse-push xs x = reverse-append xs (x ∷ [])

-- the order of a list does not matter to whether an element passes a test
pub any-reverse : {A : Type 0} (p : A → Bool) (xs : List A) → list_any p (reverse xs) ≡ list_any p xs
any-reverse p [] = refl
any-reverse p (x ∷ xs) =
    ap (list_any p) (reverse-append (x ∷ []) xs) ∙ (list_any-append p (reverse xs) (x ∷ []) ∙
    (ap (λ (b : Bool). b || (p x || false)) (any-reverse p xs) ∙ or-last (list_any p xs) (p x)))

pub push-distinct : (xs new : List DomainName) (name : DomainName)
    → list_any (λ y. same_name y name) xs ≡ false → new ≡ xs ++ name ∷ []
    → reverse new ≡ joined_before (Ok name) (reverse xs)
push-distinct xs new name absent grown =
    (ap reverse grown ∙ reverse-push xs name) ∙
    sym (other _ (reverse xs) (name ∷ reverse xs) (any-reverse (λ y. same_name y name) xs ∙ absent))

pub keep-distinct : (xs : List DomainName) (name : DomainName)
    → list_any (λ y. same_name y name) xs ≡ true → reverse xs ≡ joined_before (Ok name) (reverse xs)
keep-distinct xs name present =
    sym (chosen _ (reverse xs) (name ∷ reverse xs) (any-reverse (λ y. same_name y name) xs ∙ present))

pub only-attempt : (ndots : ℕ) (domain : Option DomainName) (search : List DomainName) (name : DomainName) (stack : List DomainName)
    → is_complete name ≡ true → reverse stack ≡ qualified name ∷ []
    → stack ≡ attempted_names ndots domain search name
only-attempt ndots domain search name stack complete pushed =
    (sym (reverse-reverse stack) ∙ ap reverse pushed) ∙ sym (chosen (is_complete name) _ _ complete)

-- the path of labels whose last two are known
pub onion-path : (labels rest front : List (List ℕ)) (zone service : List ℕ)
    → labels ≡ rest ++ zone ∷ [] → rest ≡ front ++ service ∷ []
    → is_onion_path (reverse labels) ≡ (str_eq_ignore_ascii_case zone (codes "onion") && length service == 56)
onion-path labels rest front zone service last next =
    ap (λ (xs : List (List ℕ)). is_onion_path (reverse xs)) last ∙
    (ap is_onion_path (reverse-push rest zone) ∙
    ap (λ (xs : List (List ℕ)). is_onion_path (zone ∷ xs)) (ap reverse next ∙ reverse-push front service))

-- a test of texts without regard to case
pub tests-alike : (x y : List ℕ) (r : Bool) → (IsTrue r → str_to_ascii_lowercase x ≡ str_to_ascii_lowercase y)
    → (str_to_ascii_lowercase x ≡ str_to_ascii_lowercase y → IsTrue r) → r ≡ str_eq_ignore_ascii_case x y
tests-alike x y r f g =
    let d = bytes_eq-Decides (str_to_ascii_lowercase x) (str_to_ascii_lowercase y) in
    both_ways r (str_eq_ignore_ascii_case x y) (λ t. d.1 (f t)) (λ t. g (d.0 t))
