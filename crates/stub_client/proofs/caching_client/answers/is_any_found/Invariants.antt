use Rattle.std.proofs.Common.{◌≡◌}
use Rattle.std.specs.List.{list_any}
use Rattle.dns_messages.specs.Message.{all_records}
use Rattle.stub_client.specs.Step.{is_found}
use Rattle.stub_client.proofs.caching_client.answers.is_any_found.Given as goal

-- none of the records so far is found
abbrev pub invariant-loop-entry : goal.invariant-loop-entry
invariant-loop-entry l =
    list_any (is_found l.query l.chain.name) l.entry-iterator
    ≡ list_any (is_found l.query l.chain.name) (all_records l.message)
