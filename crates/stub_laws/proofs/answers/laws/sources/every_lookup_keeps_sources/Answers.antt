use Rattle.std.proofs.lemmas.List.Elements.{All-nil}
use Rattle.std.specs.Prelude.{[]}
use Rattle.stub_laws.specs.answers.Sources.{IsRowNow}
use Rattle.stub_laws.proofs.SourcesLaws.{sources-keep}
use Rattle.stub_laws.proofs.answers.laws.sources.every_lookup_keeps_sources.Goals as goal

pub returns : goal.returns
returns c = λ config history settings now old q asks reply new looks same received holds.
    sources-keep config history settings now 0 [] old q asks reply new same (All-nil (IsRowNow history now)) holds received looks
