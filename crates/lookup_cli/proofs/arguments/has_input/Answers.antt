use Rattle.std.proofs.Common.{◌∙◌, ap, refl, codes}
use Rattle.std.specs.List.{list_any}
use Rattle.clap.proofs.WalkLemmas.{list_any-map}
use Rattle.lookup_cli.specs.Arguments.{is_input}
use Rattle.lookup_cli.proofs.ArgumentsLaws.{texts_are}
use Rattle.lookup_cli.proofs.arguments.has_input.Goals as goal

pub returns : goal.returns
returns c =
    let are = texts_are c.args.matches.now (codes "NAME") c.get_strs.result _ c.unwrap_or.result c.get_strs.ensures c.unwrap_or.ensures refl in
    c.has_input_among.ensures ∙ list_any-map is_input (λ text. text.now) c.unwrap_or.result.now ∙ ap (list_any is_input) are
