use Rattle.std.proofs.Common.{refl, subst, codes}
use Rattle.std.specs.List.{AllZip}
use Rattle.std.proofs.lemmas.Result.{IfErr-weaker, IfOk-weaker}
use Rattle.lookup_cli.specs.Arguments.{found}
use Rattle.lookup_cli.specs.Values.{SpellsName}
use Rattle.lookup_cli.proofs.ArgumentsLaws.{search_refusal, texts_are}
use Rattle.lookup_cli.proofs.arguments.search_in.Goals as goal

pub returns-clause-search : goal.returns-clause-search
returns-clause-search c =
    let are = texts_are c.args.matches.now (codes "search") c.get_strs.result _ c.unwrap_or.result c.get_strs.ensures c.unwrap_or.ensures refl in
    IfOk-weaker c.names_of.result _ _ (λ values h. subst (λ texts. AllZip SpellsName texts values.items) are h) c.names_of.ensures.names

pub returns-clause-refused : goal.returns-clause-refused
returns-clause-refused c =
    let are = texts_are c.args.matches.now (codes "search") c.get_strs.result _ c.unwrap_or.result c.get_strs.ensures c.unwrap_or.ensures refl in
    IfErr-weaker c.names_of.result _ _ (λ why h. search_refusal (found c.args.matches.now) _ why are h) c.names_of.ensures.refused
