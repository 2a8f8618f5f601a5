use Rattle.std.proofs.Common.{rules, codes, inl, inr}
use Rattle.lookup_cli.specs.Arguments.{IsRefusal, found, of_zone}
use Rattle.lookup_cli.proofs.ArgumentsLaws.{no_name_refusal, passes}
use Rattle.lookup_cli.proofs.arguments.update_in.Goals as goal

pub returns-in_err-update_of-in-Some-Some-clause-refused : goal.returns-in_err-update_of-in-Some-Some-clause-refused
returns-in_err-update_of-in-Some-Some-clause-refused c =
    passes (IsRefusal (found c.args.matches.now)) _ c.in_err-update_of-in-Some-Some.field-0.0
    (elim c.in_err-update_of-in-Some-Some.ensures.refused [
      | inl zone ↦ no_name_refusal (found c.args.matches.now) (codes "--zone") c.in-Some-Some.zone.now c.in_err-update_of-in-Some-Some.field-0.0
          (of_zone c.in-Some-Some.zone.now (search rules)) zone
      | inr other ↦ other
    ]) c.from_residual.ensures.1
