use Rattle.stub_cache.specs.declared.cache.entry.Entry.{Entry}
use Rattle.stub_client.specs.Outcomes.{ComesTo}
use Rattle.stub_client.specs.Conclusions.{KeptComesTo}
use Rattle.stub_core.proofs.ResolvesLaws.{all-cleared_lookup}
use Rattle.stub_core.proofs.laws.outcomes.every_clear_keeps_outcomes.Goals as goal

pub returns : goal.returns
returns c = λ settings told asks name kind cache h.
    all-cleared_lookup (λ (e : Entry). KeptComesTo (ComesTo told asks) e.question e.kept) settings name kind cache.entries h
