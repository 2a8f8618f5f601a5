use Rattle.std.proofs.Common.{◌≡◌, ◌++◌, ◌∷◌, [], true, false, ap, sym, ◌∙◌}
use Rattle.std.specs.List.{list_any}
use Rattle.dns_names.specs.Compare.{same_name}
use Rattle.stub_core.proofs.AttemptedNamesLaws.{push-distinct, keep-distinct}
use Rattle.stub_core.proofs.attempted_names.push_distinct.Goals as goal

pub returns-in_ok-push : goal.returns-in_ok-push
returns-in_ok-push c =
    let absent : list_any (λ y. same_name y c.args.name) c.args.stack.now.items ≡ false =
    ap (list_any (λ y. same_name y c.args.name)) (sym c.deref.ensures.value)
    ∙ (sym c.contains.ensures.value ∙ c.if-not-contains.true) in
    let grown : c.push.new.self.items ≡ c.args.stack.now.items ++ c.args.name ∷ [] = c.in_ok-push.ensures.items in
    push-distinct c.args.stack.now.items c.push.new.self.items c.args.name absent grown

pub returns-else-not-contains : goal.returns-else-not-contains
returns-else-not-contains c =
    let present : list_any (λ y. same_name y c.args.name) c.args.stack.now.items ≡ true =
    ap (list_any (λ y. same_name y c.args.name)) (sym c.deref.ensures.value)
    ∙ (sym c.contains.ensures.value ∙ c.if-not-contains.false) in
    keep-distinct c.args.stack.now.items c.args.name present
