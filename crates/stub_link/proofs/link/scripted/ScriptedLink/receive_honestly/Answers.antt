use Rattle.std.proofs.Common.{◌≡◌, ◌∷◌, ℕ, List, Option, Some, None, Ok, refl, sym, ap, subst, ◌∙◌, arith}
use Rattle.std.proofs.lemmas.Grind.{common_steps}
use Rattle.std.proofs.lemmas.Bool.Decides.{nat_tests}
use Rattle.stub_link.specs.LinkState.{LinkState}
use Rattle.stub_link.specs.ScriptedLink.{IsRequest}
use Rattle.stub_link.proofs.Receiving.{first-removed, honest-nothing, honest-replied, honest-unreplied}
use Rattle.stub_link.proofs.link.scripted.ScriptedLink.receive_honestly.Goals as goal

pub returns-then-is_empty-clause-receives : goal.returns-then-is_empty-clause-receives
returns-then-is_empty-clause-receives c = λ state under_way h a. honest-nothing c.args.self.now state under_way (grind (arith, nat_tests, common_steps, c.if-is_empty.ensures)) h a

pub returns-then-branch-clause-receives : goal.returns-then-branch-clause-receives
returns-then-branch-clause-receives c =
    honest-replied c.args.self.now _ c.remove-bytes.result c.reply.result (first-removed c.args.self.now.under_way.items c.remove-bytes.new.self.items c.remove-bytes.result (grind (arith, nat_tests, c.if-is_empty.ensures)) c.remove-bytes.ensures.value c.remove-bytes.ensures.items)
    (λ now m s r. (c.in_ok-deliver.ensures.ok now m s (subst (λ (bs : List ℕ). IsRequest bs m) (sym c.as_slice.ensures.value) r)).1) refl refl c.reply.ensures

pub returns-clause-receives : goal.returns-clause-receives
returns-clause-receives c = λ state under_way h a.
    honest-unreplied c.args.self.now _ c.remove-bytes.result c.in_ok-deliver.field-0 state under_way (first-removed c.args.self.now.under_way.items c.remove-bytes.new.self.items c.remove-bytes.result (grind (arith, nat_tests, c.if-is_empty.ensures)) c.remove-bytes.ensures.value c.remove-bytes.ensures.items)
    (λ now m s r. (c.in_ok-deliver.ensures.ok now m s (subst (λ (bs : List ℕ). IsRequest bs m) (sym c.as_slice.ensures.value) r)).0) c.if-branch.false h a
