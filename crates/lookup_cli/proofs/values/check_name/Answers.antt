use Rattle.std.proofs.Common.{rules, ◌≡◌, subst, inl, inr, codes, None, Some}
use Rattle.std.proofs.lemmas.Result.{IfErr-weaker}
use Rattle.lookup_cli.specs.Dig.{dig_word}
use Rattle.lookup_cli.specs.Ending.{IsOfInvalidValue}
use Rattle.lookup_cli.specs.Values.{advice_on, is_no_name, is_word, no_name}
use Rattle.lookup_cli.proofs.values.check_name.Goals as goal

pub returns-in-Some-clause-refused : goal.returns-in-Some-clause-refused
returns-in-Some-clause-refused c =
    let is : dig_word c.args.text.now c.args.is_alone ≡ Some c.in-Some.word = search rules in
    inr (
      advice_on c.in-Some.word,
      is_word c.in-Some.word is,
      subst (λ reason. IsOfInvalidValue (codes "NAME") c.args.text.now reason c.invalid.result) c.advice_on.ensures c.invalid.ensures,
    )

pub returns-in-None-clause-refused : goal.returns-in-None-clause-refused
returns-in-None-clause-refused c =
    let is : dig_word c.args.text.now c.args.is_alone ≡ None = search rules in
    IfErr-weaker c.check_text.result _ _ (λ ending h. elim h [
      | inl memory ↦ inl memory
      | inr refused ↦ inr (no_name, is_no_name is refused.0 refused.1, refused.2)
    ]) c.check_text.ensures.refused
