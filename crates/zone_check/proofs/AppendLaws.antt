-- What is appended, piece by piece.
use Rattle.std.proofs.Common.{◌≡◌, ◌≤◌, ℕ, List, ◌++◌, length, take, ap, ◌∙◌, append_assoc}
use Rattle.std.specs.Prelude.{flat_map}
use Rattle.std.proofs.lemmas.List.{take_all}

-- what was appended to a text
pub record Has (start appended now : List ℕ) : Type 0 where
  pub is : now ≡ start ++ appended

pub first : (start x now : List ℕ) → now ≡ start ++ x → Has start x now
first start x now pushed = record { is = pushed }

-- one more piece
pub after : {start x r : List ℕ} (y next : List ℕ) → Has start x r → next ≡ r ++ y → Has start (x ++ y) next
after {start} {x} {r} y next so_far pushed =
    record { is = pushed ∙ ap (λ (l : List ℕ). l ++ y) so_far.is ∙ append_assoc start x y }

-- one more piece, by what it is
pub after_is : {start x r : List ℕ} (y z next : List ℕ) → Has start x r → next ≡ r ++ y → y ≡ z → Has start (x ++ z) next
after_is {start} {x} {r} y z next so_far pushed is = after z next so_far (pushed ∙ ap (λ (l : List ℕ). r ++ l) is)

-- all items of a list
pub all_appended : (f : ℕ → List ℕ) (start now given items found : List ℕ) (i : ℕ) → now ≡ start ++ flat_map f (take i given)
    → length given ≤ i → given ≡ items → items ≡ found → now ≡ start ++ flat_map f found
all_appended f start now given items found i so_far all given_is items_is =
    so_far
    ∙ ap (λ (l : List ℕ). start ++ flat_map f l) (take_all i given all)
    ∙ ap (λ (l : List ℕ). start ++ flat_map f l) (given_is ∙ items_is)
