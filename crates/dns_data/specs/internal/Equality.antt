-- Equality of options is an equivalence.
use Rattle.std.specs.Cmp.{IsEquivalence, and_equiv, on_equiv}
use Rattle.std.specs.Cmp.Lexicographic.{nat_list_eq_equiv}
use Rattle.std.proofs.lemmas.Cmp.{nat_eq_equiv}
use Rattle.dns_data.specs.Field.{OptionValue, same_option}

pub same_option-equivalence : IsEquivalence same_option
same_option-equivalence =
    and_equiv (on_equiv (λ (o : OptionValue). o.code) nat_eq_equiv) (on_equiv (λ (o : OptionValue). o.bytes) nat_list_eq_equiv)
