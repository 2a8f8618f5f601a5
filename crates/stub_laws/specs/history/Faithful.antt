-- States of a handle over the scripted link: what was sent, and by which rows each reply was made.
use Rattle.std.specs.Prelude.{◌≡◌, ◌≤◌, ◌==◌, ◌&&◌, ◌++◌, ◌⊎◌, Bool, true, false, Contains, IfSome, List, [], ◌∷◌, ℕ, Err}
use Rattle.std.specs.List.{AllByRecursion}
use Rattle.dns_names.specs.Name.{DomainName}
use Rattle.dns_records.specs.Rows.{Rows}
use Rattle.dns_messages.specs.Question.{same_question}
use Rattle.dns_messages.specs.declared.message.Message.{Message}
use Rattle.dns_messages.specs.declared.op_code.OpCode.TheVariants as ops
use Rattle.dns_messages.specs.declared.query.Query.{Query}
use Rattle.dns_zone.specs.Rows.{IsZone}
use Rattle.stub_lookup.specs.declared.error.LinkFault.TheVariants as fault
use Rattle.stub_lookup.specs.declared.error.NetError.TheVariants as net
use Rattle.stub_client.specs.Handle.{Outcome}
use Rattle.stub_link.specs.AskState.{AskState}
use Rattle.stub_link.specs.LinkState.{Course, Honest, LinkState, Listed, ServerReply, Version}
use Rattle.stub_link.specs.Request.{IsSoundUpdate}
use Rattle.stub_laws.specs.history.Answered.{AreZones}
use Rattle.stub_laws.specs.history.Stands.{Extends, StandAt}

-- ---- ids

-- whether a later question was sent under the id of another one, and asks the same
abbrev pub is_reuse : ℕ × Query → ℕ × Query → Bool
is_reuse first later = (first.0 == later.0) && same_question later.1 first.1

-- no id serves two equal questions
abbrev pub HasNoReuse : List (ℕ × Query) → Type 0
HasNoReuse [] = Unit {0}
HasNoReuse (first ∷ sent) = AllByRecursion (λ later. is_reuse first later ≡ false) sent × HasNoReuse sent

-- ---- what was sent

-- a datagram has one of the ids that were drawn, and asks the question that it was drawn for
pub record IsSentQuestion (sent : List (ℕ × Query)) (m : Message) : Type 0 where
  pub question : Query
  pub drawn : Contains sent (m.metadata.id, question)
  pub op_code : m.metadata.op_code ≡ ops.Query
  pub only : m.queries ≡ question ∷ []

-- a datagram asks a question that was sent, or is an update
abbrev pub IsSentDatagram : List (ℕ × Query) → Message → Type 0
IsSentDatagram sent m = IsSentQuestion sent m ⊎ IsSoundUpdate m

-- a fact of each datagram that the honest script still has to deliver
abbrev pub EachUnderWay : (Message → Type 0) → Course → Type 0
EachUnderWay Holds (Honest under_way) = AllByRecursion Holds under_way
EachUnderWay Holds (Listed events) = Unit {0}

-- a fact of each datagram that was sent
pub record EachSent (Holds : Message → Type 0) (state : LinkState) : Type 0 where
  pub datagrams : AllByRecursion Holds state.datagrams
  pub updates : AllByRecursion (λ place. IfSome place Holds) state.updates
  pub under_way : EachUnderWay Holds state.course

-- ---- the history of a zone

-- the last version has these rows, and began by a moment
pub record IsCurrent (history : List Version) (moment : ℕ) (rows : Rows) : Type 0 where
  pub before : List Version
  pub since : ℕ
  pub split : history ≡ before ++ record { moment = since; rows = rows } ∷ []
  pub begun : since ≤ moment

-- a reply was made by a moment, by rows that stood when it was made
pub record IsMadeBy (origin : DomainName) (history : List Version) (moment : ℕ) (r : ServerReply) : Type 0 where
  pub origin_is : r.zone.origin ≡ origin
  pub stand : StandAt history r.moment r.zone.rows
  pub past : r.moment ≤ moment

-- The server has a zone with this origin, and the last version of the history has its rows. Each version is a zone, and each
-- reply was made by rows that stood.
pub record HasHistory (origin : DomainName) (state : LinkState) : Type 0 where
  pub zone : IsZone state.zone
  pub origin_is : state.zone.origin ≡ origin
  pub versions : AreZones origin state.history
  pub current : IsCurrent state.history state.moment state.zone.rows
  pub replies : AllByRecursion (IsMadeBy origin state.history state.moment) state.replies

-- ---- states

-- A state is faithful: its server has a history, and each datagram that was sent, or replied to, asks a question under its id or
-- is an update.
pub record IsFaithful (origin : DomainName) (state : AskState) : Type 0 where
  pub history : HasHistory origin state.link
  pub sent : EachSent (IsSentDatagram state.sent) state.link
  pub replied : AllByRecursion (λ r. IsSentDatagram state.sent r.datagram) state.link.replies

-- what stood by the moment of a state still stands
abbrev pub KeepsStanding : LinkState → LinkState → Type 0
KeepsStanding old new =
    (moment : ℕ) (rows : Rows) → moment ≤ old.moment → StandAt old.history moment rows → StandAt new.history moment rows

-- A state is faithful if another one is, at the same moment; its history goes on, what stood still stands, and no id that was
-- drawn is forgotten.
pub record StaysFaithful (origin : DomainName) (old new : AskState) : Type 0 where
  pub faithful : IsFaithful origin new
  pub moment_is : new.link.moment ≡ old.link.moment
  pub added : Extends old.link.history new.link.history
  pub stands : KeepsStanding old.link new.link
  pub drawn : List (ℕ × Query)
  pub sent_is : new.sent ≡ old.sent ++ drawn

-- not F7 or F8: the stream brings no reply that cannot be read, and no other message
abbrev pub IsNoMismatch : Outcome → Type 0
IsNoMismatch (Err (net.Link fault.StreamUnreadable)) = ⊥
IsNoMismatch (Err (net.Link fault.StreamMismatch)) = ⊥
IsNoMismatch outcome = Unit {0}

-- a state stays faithful, unless the link or its server runs out of memory
abbrev pub StaysFaithfulUnlessOut : DomainName → AskState → AskState → Type 0
StaysFaithfulUnlessOut origin old new = (new.link.out_of_memory ≡ true) ⊎ StaysFaithful origin old new
