use Rattle.std.proofs.Common.{subst, map}
use Rattle.std.proofs.lemmas.Result.{IfErr-weaker, IfOk-weaker}
use Rattle.clap.specs.Words.{app_of}
use Rattle.lookup_cli.specs.Arguments.{AreArguments, IsRefusal, found_in}
use Rattle.lookup_cli.proofs.ArgumentsLaws.{found_is, words_refusal}
use Rattle.lookup_cli.proofs.arguments.read_arguments.Goals as goal

pub returns-clause-arguments : goal.returns-clause-arguments
returns-clause-arguments c =
    IfOk-weaker c.arguments_of.result _ _ (λ arguments h. subst (λ rows. AreArguments rows arguments)
    (found_is (app_of c.in_ok-command.field-0) (map (λ word. word.now) c.args.words.now) c.in-Ok.matches c.in_ok-command.ensures c.in-Ok.ensures.matches) h)
    c.arguments_of.ensures.arguments

pub returns-clause-refused : goal.returns-clause-refused
returns-clause-refused c =
    IfErr-weaker c.arguments_of.result _ _ (λ why h. words_refusal (found_in (map (λ word. word.now) c.args.words.now)) why
    (subst (λ rows. IsRefusal rows why)
    (found_is (app_of c.in_ok-command.field-0) (map (λ word. word.now) c.args.words.now) c.in-Ok.matches c.in_ok-command.ensures c.in-Ok.ensures.matches) h))
    c.arguments_of.ensures.refused
