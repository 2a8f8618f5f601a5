-- Keys and grants, one after another.
use Rattle.std.proofs.Common.{◌≡◌, ◌≢◌, ◌∙◌, ◌<◌, true, false, ℕ, zero, suc, List, [], ◌∷◌, ◌++◌, Some, length, map, get_or, append_assoc, refl, sym, ap, subst, arith}
use Rattle.std.specs.Prelude.{IfErr, Result, Ok, Err, slice_get}
use Rattle.dns_keys.specs.File.{IsKeyFile, key_value}
use Rattle.dns_tsig.specs.declared.key.Key.{Key}
use Rattle.nameserver_cli.specs.declared.ending.Ending.{Ending}
use Rattle.nameserver_cli.specs.declared.ending.Ending.TheVariants.{Memory}
use Rattle.nameserver_handlers.specs.Grants.{AreDistinct, HasTwice, RefusesKeys, has_name}
use Rattle.nameserver_handlers.specs.Grants.RefusesKeys.{has_key_twice}

module _ (old keys before found items left : List Key) (key : Key) (keys_are : keys ≡ old ++ before) (found_are : found ≡ before ++ items) (is : items ≡ key ∷ left) where
  here : found ≡ before ++ key ∷ left
  here = found_are ∙ ap (λ (xs : List Key). before ++ xs) is

  -- one more key is added
  pub key_more : (new : List Key) → (AreDistinct keys items → AreDistinct old found) → new ≡ keys ++ key ∷ [] → has_name keys key.name.items ≡ false
      → (x : List Key) × ((new ≡ old ++ x) × ((found ≡ x ++ left) × (AreDistinct new left → AreDistinct old found)))
  key_more new distinct added fresh = (
    before ++ key ∷ [],
    (
      added ∙ ap (λ (xs : List Key). xs ++ key ∷ []) keys_are ∙ append_assoc old before (key ∷ []),
      (
        here ∙ sym (append_assoc before (key ∷ []) left),
        λ rest. distinct (subst (λ (xs : List Key). AreDistinct keys xs) (sym is) (fresh, subst (λ (xs : List Key). AreDistinct xs left) added rest)),
      ),
    ),
  )

  -- a key is known
  pub key_twice : has_name keys key.name.items ≡ true → HasTwice old found
  key_twice known = record { before = before; key = key; after = left; found_are = here; is_known = ap (λ (xs : List Key). has_name xs key.name.items) (sym keys_are) ∙ known }

-- a text of keys is refused for one that is known
pub refused_for_one : {T : Type 0} (text : List ℕ) (keys found : List Key) (r : Result T Ending) → IsKeyFile text (map key_value found)
    → IfErr r (λ (ending : Ending). ending ≢ Memory → HasTwice keys found) → IfErr r (λ (ending : Ending). ending ≢ Memory → RefusesKeys text keys)
refused_for_one text keys found (Ok done) reads twice = tt
refused_for_one text keys found (Err ending) reads twice = λ has_memory. has_key_twice found reads (twice has_memory)

-- the item at a place
pub at_place : {A B : Type 0} (f : A → B) (items : List A) (place : ℕ) (d : A) → place < length items → slice_get (map f items) place ≡ Some (f (get_or items place d))
at_place f [] place d below = absurd (omega (arith, below))
at_place f (item ∷ items) zero d below = refl
at_place f (item ∷ items) (suc place) d below = at_place f items place d (omega (arith, below))
