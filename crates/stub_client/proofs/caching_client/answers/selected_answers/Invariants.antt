use Rattle.std.proofs.Common.{◌≡◌, ◌++◌, map}
use Rattle.std.specs.Prelude.{◌||◌}
use Rattle.std.specs.List.{filter}
use Rattle.dns_messages.specs.Message.{all_records}
use Rattle.stub_client.specs.Step.{is_found, is_kept_alias, lowered}
use Rattle.stub_client.proofs.caching_client.answers.selected_answers.Given as goal

-- the records so far, and those that are left
abbrev pub invariant-loop-entry : goal.invariant-loop-entry
invariant-loop-entry l =
    l.answers ++ map (lowered l.chain.ttl) (filter (λ r. is_found l.query l.chain.name r || is_kept_alias l.settings l.query r) l.entry-iterator)
    ≡ l.fn.kept ++ map (lowered l.chain.ttl) (filter (λ r. is_found l.query l.chain.name r || is_kept_alias l.settings l.query r) (all_records l.message))
