-- Where the same rows stand, what is answered by rows that stand is answered by the zone with these rows.
use Rattle.std.proofs.Common.{◌≡◌, ℕ, List, [], ◌∷◌, Err, All, subst}
use Rattle.std.proofs.lemmas.List.Elements.{All-cons, All-head, All-nil, All-tail}
use Rattle.dns_names.specs.Name.{DomainName}
use Rattle.dns_records.specs.Rows.{Rows}
use Rattle.stub_lookup.specs.declared.error.NetError.{NetError}
use Rattle.stub_client.specs.Handle.{Ask}
use Rattle.stub_client.specs.Origins.{asked_at}
use Rattle.stub_link.specs.LinkState.{Version}
use Rattle.stub_laws.specs.history.Answered.{IsAnsweredBy, zone_with}
use Rattle.stub_laws.specs.history.Stands.{StandAt}
use Rattle.stub_laws.specs.walk.Answered.{IsAskError, IsAsked, IsZoneReply}
use Rattle.stub_laws.proofs.FaultLaws.{zone-outcome}

module _ (origin : DomainName) (history : List Version) (rows : Rows) (now : ℕ)
    (steady : (other : Rows) → StandAt history now other → other ≡ rows) where
  abbrev FailsOnly : Ask → Type 0
  FailsOnly ask = (error : NetError) → ask.outcome ≡ Err error → IsAskError error

  one-asked : (ask : Ask) → IsAnsweredBy origin history (record { moment = now; ask = ask }) → FailsOnly ask → IsAsked (zone_with origin rows) ask
  one-asked ask answered fails =
      zone-outcome (zone_with origin rows) ask.question ask.outcome
      (λ response ok.
      (let held = answered response ok in
      subst (λ (r : Rows). IsZoneReply (zone_with origin r) ask.question response.message) (steady held.rows held.stand)
      (record { repeats = held.holds.queries; holds = held.holds }))) fails

  pub steady-asked : (asks : List Ask) → All (IsAnsweredBy origin history) (asked_at now asks) → All FailsOnly asks
      → All (IsAsked (zone_with origin rows)) asks
  steady-asked [] answered fails = All-nil (IsAsked (zone_with origin rows))
  steady-asked (ask ∷ asks) answered fails =
      All-cons (IsAsked (zone_with origin rows)) ask asks
      (one-asked ask (All-head (IsAnsweredBy origin history) (record { moment = now; ask = ask }) (asked_at now asks) answered)
      (All-head FailsOnly ask asks fails))
      (steady-asked asks (All-tail (IsAnsweredBy origin history) (record { moment = now; ask = ask }) (asked_at now asks) answered)
      (All-tail FailsOnly ask asks fails))
