use Rattle.std.proofs.Common.{◌≡◌, ◌<◌, List, ℕ, false, nat_eq, [], ◌∷◌, arith}
use Rattle.std.proofs.lemmas.Bool.Decides.{nat_tests}
use Rattle.dns_names.specs.Labels.{labels_len}
use Rattle.dns_names.proofs.BuildingLaws.{name_len-some}
use Rattle.dns_names.proofs.name.Name.is_empty.Goals as goal

-- the length is at least 1
some : (labels : List (List ℕ)) → 0 < labels_len labels
some [] = omega arith
some (label ∷ labels) = omega (arith, name_len-some labels)

-- and so it is not 0
not_zero : (len : ℕ) (labels : List (List ℕ)) → len ≡ labels_len labels → nat_eq len 0 ≡ false
not_zero len labels is = let positive = some labels in grind (arith, nat_tests)

pub returns : goal.returns
returns c = not_zero c.len.result c.args.self.now.labels c.len.ensures
