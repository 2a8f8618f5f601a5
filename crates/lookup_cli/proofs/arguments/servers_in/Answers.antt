use Rattle.std.proofs.Common.{refl, subst, codes}
use Rattle.std.specs.List.{AllZip}
use Rattle.std.proofs.lemmas.Result.{IfErr-weaker, IfOk-weaker}
use Rattle.lookup_cli.specs.Arguments.{found}
use Rattle.lookup_cli.specs.Values.{IsServer}
use Rattle.lookup_cli.proofs.ArgumentsLaws.{servers_refusal, texts_are}
use Rattle.lookup_cli.proofs.arguments.servers_in.Goals as goal

pub returns-clause-servers : goal.returns-clause-servers
returns-clause-servers c =
    let are = texts_are c.args.matches.now (codes "server") c.get_strs.result _ c.unwrap_or.result c.get_strs.ensures c.unwrap_or.ensures refl in
    IfOk-weaker c.servers_of.result _ _ (λ values h. subst (λ texts. AllZip IsServer texts values.items) are h) c.servers_of.ensures.servers

pub returns-clause-refused : goal.returns-clause-refused
returns-clause-refused c =
    let are = texts_are c.args.matches.now (codes "server") c.get_strs.result _ c.unwrap_or.result c.get_strs.ensures c.unwrap_or.ensures refl in
    IfErr-weaker c.servers_of.result _ _ (λ why h. servers_refusal (found c.args.matches.now) _ why are h) c.servers_of.ensures.refused
