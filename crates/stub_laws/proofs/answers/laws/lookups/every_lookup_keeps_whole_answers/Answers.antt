use Rattle.std.proofs.Common.{subst, sym}
use Rattle.stub_cache.specs.Ttl.{TtlConfigContent}
use Rattle.std.proofs.Common.{All}
use Rattle.stub_core.specs.Origins.{HasNoMinima}
use Rattle.stub_laws.specs.answers.Claims.{BearOut, HasNoNegativeMinima, longest_of}
use Rattle.stub_laws.proofs.ClaimLaws.{HasNoLeast, lookup-keeps, own-least}
use Rattle.stub_laws.proofs.AnswersResolverLaws.{none-kept}
use Rattle.stub_laws.proofs.answers.laws.lookups.every_lookup_keeps_whole_answers.Goals as goal

pub returns : goal.returns
returns g c = λ config answers absences special start settings now old q asks reply new looks same holds bears.
    lookup-keeps (HasNoMinima config) (HasNoNegativeMinima config) (longest_of config) g.C.WholeClaim.finds g.C.WholeClaim.misses g.C.WholeClaim.lacks
    g.C.WholeClaim.fails g.C.WholeClaim.deep answers absences special settings now 0 _ old q asks reply new
    (subst (HasNoLeast (HasNoMinima config) (HasNoNegativeMinima config) (longest_of config)) (sym same) (own-least config)) (none-kept settings q) (start q) holds
    (subst (λ (t : TtlConfigContent). All (BearOut g.C.WholeClaim.finds g.C.WholeClaim.misses g.C.WholeClaim.lacks g.C.WholeClaim.fails g.C.WholeClaim.deep settings t now) asks) (sym same) bears) looks
