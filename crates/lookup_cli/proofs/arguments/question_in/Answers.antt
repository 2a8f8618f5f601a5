use Rattle.std.proofs.Common.{rules, codes}
use Rattle.lookup_cli.specs.Arguments.{IsRefusal, found, of_type}
use Rattle.lookup_cli.specs.Values.{no_type}
use Rattle.lookup_cli.proofs.ArgumentsLaws.{invalid, passes}
use Rattle.lookup_cli.proofs.arguments.question_in.Goals as goal

pub returns-in_err-type_of-in-Some-clause-refused : goal.returns-in_err-type_of-in-Some-clause-refused
returns-in_err-type_of-in-Some-clause-refused c =
    passes (IsRefusal (found c.args.matches.now)) _ _
    (invalid (found c.args.matches.now) (codes "-t") c.in-Some.text.now no_type _ (of_type c.in-Some.text.now (search rules) c.in_err-type_of-in-Some.ensures.refused.0)
    c.in_err-type_of-in-Some.ensures.refused.1) c.from_residual.ensures.1
