use Rattle.std.proofs.Common.{◌≡◌, sym, subst, ◌∙◌}
use Rattle.std.specs.Prelude.{◌&&◌, nat_lt, true, false, IfOk}
use Rattle.dns_messages.specs.declared.message.Message.{Message}
use Rattle.stub_client.specs.Step.{is_negative_end, kept_aliases, max_depth, next_question}
use Rattle.stub_client.specs.declared.caching_client.step.Step.{Step}
use Rattle.stub_client.specs.declared.caching_client.step.Step.TheVariants.{Follows}
use Rattle.stub_client.proofs.StepLaws.{follows-along}
use Rattle.stub_client.proofs.caching_client.step.follows_or_stops.Goals as goal

pub returns-then-is_followed : goal.returns-then-is_followed
returns-then-is_followed c =
    let goes : (c.args.chain.is_alias && nat_lt c.args.depth max_depth) ≡ true =
    sym c.is_followed.ensures ∙ c.if-is_followed.true in
    let no-end : is_negative_end c.args.query.now c.args.chain c.args.response.message ≡ false =
    sym c.is_negative_end.ensures ∙ c.if-is_negative_end.false in
    let follows : Message → Step = λ m. Follows (next_question c.args.query.now c.args.chain)
    (kept_aliases c.args.settings c.args.query.now c.args.chain c.args.kept m) in
    let there : IfOk c.follows.result (λ step. step ≡ follows c.args.response.message) =
    subst (λ (m : Message). IfOk c.follows.result (λ step. step ≡ follows m)) c.message.ensures c.follows.ensures in
    subst (λ (next : Step). IfOk c.follows.result (λ step. step ≡ next))
    (follows-along c.args.settings c.args.query.now c.args.chain c.args.kept c.args.depth c.args.response.message c.requires no-end
    goes)
    there
