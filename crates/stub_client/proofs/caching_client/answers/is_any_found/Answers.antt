use Rattle.std.proofs.Common.{◌≡◌, sym, ◌∙◌}
use Rattle.std.specs.Prelude.{true}
use Rattle.dns_messages.specs.Message.{all_records}
use Rattle.stub_client.specs.Step.{is_found}
use Rattle.stub_client.proofs.StepLaws.{any-here, any-nowhere, is_empty-filter}
use Rattle.stub_client.proofs.caching_client.answers.is_any_found.Goals as goal

pub returns-then-is_found : goal.returns-then-is_found
returns-then-is_found c =
    let passes : is_found c.args.query.now c.args.chain.now.name c.in-Some.entry.now ≡ true =
    sym c.is_found.ensures ∙ c.if-is_found.true in
    sym (is_empty-filter (is_found c.args.query.now c.args.chain.now.name) (all_records c.args.message.now)
    ∙ any-here (is_found c.args.query.now c.args.chain.now.name) (all_records c.args.message.now)
    c.loop-entry.entry-iterator c.next.new.self c.in-Some.entry.now c.in-Some.ensures.steps c.loop-entry.invariant passes)

pub returns : goal.returns
returns c =
    sym (is_empty-filter (is_found c.args.query.now c.args.chain.now.name) (all_records c.args.message.now)
    ∙ any-nowhere (is_found c.args.query.now c.args.chain.now.name) (all_records c.args.message.now)
    c.loop-entry.entry-iterator c.in-None.ensures.steps.0 c.loop-entry.invariant)
