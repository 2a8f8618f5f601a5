use Rattle.std.proofs.Common.{◌≡◌, ◌==◌, ap, refl, subst, codes, length, ℕ, List, Bor, sym}
use Rattle.std.proofs.lemmas.Result.{IfErr-weaker, IfOk-weaker}
use Rattle.std.proofs.lemmas.List.{length-map}
use Rattle.lookup_cli.specs.Arguments.{AreItems, found, is_given}
use Rattle.lookup_cli.proofs.ArgumentsLaws.{items_refusal, texts_are, texts_now}
use Rattle.lookup_cli.proofs.arguments.items_in.Goals as goal

-- texts and their bytes are as many
one : (texts : List (Bor (List ℕ))) → (length texts == 1) ≡ (length (texts_now texts) == 1)
one texts = ap (λ (n : ℕ). n == 1) (sym (length-map texts (λ t. t.now)))

pub returns-clause-items : goal.returns-clause-items
returns-clause-items c =
    let are = texts_are c.args.matches.now (codes "NAME") c.get_strs.result _ c.unwrap_or-texts.result c.get_strs.ensures c.unwrap_or-texts.ensures refl in
    IfOk-weaker c.items_of.result _ _ (λ items h.
    subst (λ texts. AreItems c.args.question (is_given (codes "reverse") (found c.args.matches.now)) texts items.items) are
    (subst (λ reverse. AreItems c.args.question reverse (texts_now c.unwrap_or-texts.result.now) items.items) c.is_given-reverse.ensures h)) c.items_of.ensures.items

pub returns-clause-refused : goal.returns-clause-refused
returns-clause-refused c =
    let are = texts_are c.args.matches.now (codes "NAME") c.get_strs.result _ c.unwrap_or-texts.result c.get_strs.ensures c.unwrap_or-texts.ensures refl in
    IfErr-weaker c.items_of.result _ _ (λ why h. items_refusal (found c.args.matches.now) _ _ why are (one c.unwrap_or-texts.result.now) h) c.items_of.ensures.refused
