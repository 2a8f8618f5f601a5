use Rattle.std.proofs.Common.{rules, codes}
use Rattle.lookup_cli.specs.Arguments.{IsRefusal, found, of_key_name}
use Rattle.lookup_cli.proofs.ArgumentsLaws.{no_name_refusal, passes}
use Rattle.lookup_cli.proofs.arguments.key_name_in.Goals as goal

pub returns-in_err-name_of-in-Some-clause-refused : goal.returns-in_err-name_of-in-Some-clause-refused
returns-in_err-name_of-in-Some-clause-refused c =
    passes (IsRefusal (found c.args.matches.now)) _ _
    (no_name_refusal (found c.args.matches.now) (codes "--key-name") c.in-Some.text.now _ (of_key_name c.in-Some.text.now (search rules))
    c.in_err-name_of-in-Some.ensures.refused) c.from_residual.ensures.1
