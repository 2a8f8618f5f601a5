use Rattle.std.proofs.lemmas.List.Elements.{All-nil}
use Rattle.stub_cache.specs.declared.cache.entry.Entry.{Entry}
use Rattle.stub_client.specs.Conclusions.{KeptComesTo}
use Rattle.stub_core.proofs.ResolvesLaws.{all-cleared_lookup}
use Rattle.stub_laws.specs.walk.Walk.{AgreesWithWalk}
use Rattle.stub_laws.proofs.walk.laws.lookups.clears_keep_agreement.Goals as goal

pub returns-clause-name : goal.returns-clause-name
returns-clause-name c = λ zone cache settings name kind h.
    all-cleared_lookup (λ (e : Entry). KeptComesTo (AgreesWithWalk zone) e.question e.kept) settings name kind cache.entries h

pub returns-clause-all : goal.returns-clause-all
returns-clause-all c = λ zone cache. All-nil (λ (e : Entry). KeptComesTo (AgreesWithWalk zone) e.question e.kept)
