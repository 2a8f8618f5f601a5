use Rattle.std.proofs.Common.{◌≡◌}
use Rattle.std.specs.Prelude.{◌&&◌}
use Rattle.dns_names.specs.Compare.{same_name}
use Rattle.std.specs.List.{list_any}
use Rattle.dns_messages.specs.Message.{all_records}
use Rattle.stub_client.specs.Step.{is_found}
use Rattle.stub_client.proofs.caching_client.answers.is_end_found.Given as goal

-- none of the records so far is found at the end
abbrev pub invariant-loop-entry : goal.invariant-loop-entry
invariant-loop-entry l =
    list_any (λ r. is_found l.query l.chain.name r && same_name r.name l.chain.name) l.entry-iterator
    ≡ list_any (λ r. is_found l.query l.chain.name r && same_name r.name l.chain.name) (all_records l.message)
