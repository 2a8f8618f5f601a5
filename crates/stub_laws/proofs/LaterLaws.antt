-- What stood, and what was answered by it, as versions are added.
use Rattle.std.proofs.Common.{◌≤◌}
use Rattle.dns_names.specs.Name.{DomainName}
use Rattle.stub_client.specs.Origins.{Asked}
use Rattle.stub_link.specs.LinkState.{LinkState}
use Rattle.stub_laws.specs.history.Answered.{IsAnsweredBy}
use Rattle.stub_laws.specs.history.Faithful.{KeepsStanding}

pub answered-still : (origin : DomainName) (old new : LinkState) (asked : Asked) → asked.moment ≤ old.moment → KeepsStanding old new
    → IsAnsweredBy origin old.history asked → IsAnsweredBy origin new.history asked
answered-still origin old new asked past stands answered = λ response ok.
    let held = answered response ok in
    record { full = held.full; rows = held.rows; stand = stands asked.moment held.rows past held.stand; holds = held.holds }
