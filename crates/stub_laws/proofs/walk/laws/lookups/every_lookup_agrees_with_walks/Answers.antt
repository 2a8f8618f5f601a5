use Rattle.stub_laws.proofs.ResolverLaws.{client-agrees}
use Rattle.stub_laws.proofs.walk.laws.lookups.every_lookup_agrees_with_walks.Goals as goal

pub returns : goal.returns
returns c = λ zone good settings now old q asks reply new looks off asked agrees.
    client-agrees zone good settings off now old q asks reply new asked agrees looks
