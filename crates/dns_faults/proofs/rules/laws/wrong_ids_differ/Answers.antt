use Rattle.std.proofs.Common.{◌∙◌, ℕ, List, ap, sym, take}
use Rattle.std.specs.Prelude.{slice_index}
use Rattle.dns_faults.proofs.EditLaws.{next-differs, wrong-id-is}
use Rattle.dns_faults.proofs.rules.laws.wrong_ids_differ.Goals as goal

pub returns : goal.returns
returns c = λ high low bytes h l e.
    let same = sym (ap (λ (xs : List ℕ). take 2 xs) (wrong-id-is high low bytes)) ∙ e in
    next-differs high low h l (ap (λ (xs : List ℕ). slice_index xs 0) same) (ap (λ (xs : List ℕ). slice_index xs 1) same)
