-- When requests arrived: the clock is read after the last of those that are handled together, and shows the moment of all of them.
use Rattle.std.specs.Prelude.{◌≡◌, ◌++◌, ⊤, ℕ, List, [], ◌∷◌, Option, Some, None}
use Rattle.std.specs.List.{AllByRecursion, Contains}
use Rattle.dns_sockets.specs.Handler.{HandlerEvent, RequestContent, Handled, Noticed, Took, Transferred}
use Rattle.dns_sockets.specs.Trace.{Act, At, By}
use Rattle.dns_sockets.specs.World.{WorldEvent, Clocked, Read, Received}

-- what the clock showed last, unless something was received or read since
abbrev pub shown_after : Act → Option ℕ → Option ℕ
shown_after (At (Clocked moment)) shown = moment
shown_after (At (Received socket bytes peer)) shown = None
shown_after (At (Read stream bytes)) shown = None
shown_after act shown = shown

-- the requests of a call
abbrev pub requests_in : HandlerEvent → List RequestContent
requests_in (Handled requests outcome) = requests
requests_in (Transferred request is_busy messages) = request ∷ []
requests_in (Took request is_taken) = request ∷ []
requests_in (Noticed now notice) = []

-- requests have this moment
abbrev pub AreAt : Option ℕ → List RequestContent → Type 0
AreAt shown [] = ⊤
AreAt shown (r ∷ rs) = (shown ≡ Some r.moment) × AreAt shown rs

-- the same of those of an act
abbrev pub IsTimedAt : Option ℕ → Act → Type 0
IsTimedAt shown (At event) = ⊤
IsTimedAt shown (By origin call) = AreAt shown (requests_in call)

-- each request has the moment that was shown last, by a clock that was read after all that had arrived
abbrev pub AreTimed : Option ℕ → List Act → Type 0
AreTimed shown [] = ⊤
AreTimed shown (act ∷ acts) = IsTimedAt shown act × AreTimed (shown_after act shown) acts

-- the same whatever was shown before
abbrev pub IsTimed : List Act → Type 0
IsTimed acts = (shown : Option ℕ) → AreTimed shown acts

-- ---- a request

-- neither is the clock read, nor does anything arrive
abbrev pub IsStill : Act → Type 0
IsStill (At (Clocked moment)) = ⊥
IsStill (At (Received socket bytes peer)) = ⊥
IsStill (At (Read stream bytes)) = ⊥
IsStill act = ⊤

-- The clock showed a moment, and after that it was not read, and nothing arrived.
pub record IsDated (moment : ℕ) (acts : List Act) : Type 0 where
  pub earlier : List Act
  pub later : List Act
  pub acts_are : acts ≡ earlier ++ At (Clocked (Some moment)) ∷ later
  pub still : AllByRecursion IsStill later

-- A request had arrived at the datagram socket of an index before the clock showed its moment.
pub record HasArrived (socket : ℕ) (request : RequestContent) (acts : List Act) : Type 0 where
  pub dated : IsDated request.moment acts
  pub arrived : Contains dated.earlier (At (Received socket request.bytes request.peer))
