use Rattle.std.proofs.Common.{◌≡◌, sym, ◌∙◌}
use Rattle.std.specs.Prelude.{◌&&◌, Bool, true}
use Rattle.dns_names.specs.Compare.{same_name}
use Rattle.dns_records.specs.Record.{Record}
use Rattle.dns_messages.specs.Message.{all_records}
use Rattle.dns_messages.specs.declared.query.Query.{Query}
use Rattle.stub_client.specs.Step.{is_found}
use Rattle.stub_client.specs.declared.caching_client.chain.Chain.{Chain}
use Rattle.stub_client.proofs.StepLaws.{any-filter, any-here, any-nowhere}
use Rattle.stub_client.proofs.caching_client.answers.is_end_found.Goals as goal

abbrev is_end : Chain → Record → Bool
is_end chain r = same_name r.name chain.name

abbrev is_found_end : Query → Chain → Record → Bool
is_found_end q chain r = is_found q chain.name r && is_end chain r

pub returns-then-is_found_at_end : goal.returns-then-is_found_at_end
returns-then-is_found_at_end c =
    let passes : is_found_end c.args.query.now c.args.chain.now c.in-Some.entry.now ≡ true =
    sym c.is_found_at_end.ensures ∙ c.if-is_found_at_end.true in
    sym (any-filter (is_end c.args.chain.now) (is_found c.args.query.now c.args.chain.now.name) (all_records c.args.message.now)
    ∙ any-here (is_found_end c.args.query.now c.args.chain.now) (all_records c.args.message.now)
    c.loop-entry.entry-iterator c.next.new.self c.in-Some.entry.now c.in-Some.ensures.steps c.loop-entry.invariant passes)

pub returns : goal.returns
returns c =
    sym (any-filter (is_end c.args.chain.now) (is_found c.args.query.now c.args.chain.now.name) (all_records c.args.message.now)
    ∙ any-nowhere (is_found_end c.args.query.now c.args.chain.now) (all_records c.args.message.now)
    c.loop-entry.entry-iterator c.in-None.ensures.steps.0 c.loop-entry.invariant)
