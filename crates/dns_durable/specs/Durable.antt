-- Zones whose updates outlast a crash.
use Rattle.std.specs.Prelude.{◌≡◌, ◌≢◌, ◌≤◌, ◌⊎◌, ℕ, Bool, true, false, List, [], ◌∷◌, ◌++◌, length, map, alloc_error}
use Rattle.std.specs.Prelude.{Result, Ok, Err}
use Rattle.std.specs.declared.alloc.AllocError.{AllocError}
use Rattle.dns_message_bytes.specs.frames.Frame.{frame, stream_of}
use Rattle.dns_journal.specs.declared.journal.Position.{Position}
use Rattle.dns_journal.specs.declared.journal.State.TheVariants as states
use Rattle.dns_journal.specs.Event.{Event}
use Rattle.dns_journal.specs.Storage.{Always, Disk, Ends, LeavesOnly}
use Rattle.dns_messages.specs.declared.message.Message.{Message}
use Rattle.dns_durable.specs.recovery.Updating.{IsOpen}
use Rattle.dns_zone.specs.Request.{IsRequest}
use Rattle.dns_zone.specs.Rows.{ZoneContent}
use Rattle.dns_durable.specs.Changes.{reply_bytes}
use Rattle.dns_durable.specs.Incoming.{AreAdmitted, changes_in}
use Rattle.dns_durable.specs.Reply.{AnswersAll}
use Rattle.dns_durable.specs.Rule.{entry_of, rule_in, step_of, updates_in}
use Rattle.dns_durable.specs.Storing.{IsLeft, IsWithOrWithout, entries_of}
use Rattle.dns_durable.specs.declared.durable_server.Replies.{Replies}
use Rattle.dns_durable.specs.declared.incoming.Arrived.{Arrived}
use Rattle.dns_durable.specs.declared.incoming.Incoming.{Incoming}
use Rattle.dns_durable.specs.declared.policy.Policy.{Policy}

-- zones after a request, by what a request makes of zones
pub record IsTaken (step : List ZoneContent → Message → List ZoneContent) (zones : List ZoneContent) (bytes : List ℕ)
    (after : List ZoneContent) : Type 0 where
  pub request : Message
  pub is_request : IsRequest bytes request
  pub after_is : after ≡ step zones request

-- zones after the requests in frames, one after another
pub data Takes (step : List ZoneContent → Message → List ZoneContent) : List ZoneContent → List ℕ → List ZoneContent → Type 0 where
  no_frame : {zones : List ZoneContent} → Takes step zones [] zones
  a_frame : {zones mid after : List ZoneContent} {bytes rest : List ℕ} → length bytes ≤ 65535
      → IsTaken step zones bytes mid → Takes step mid rest after → Takes step zones (frame bytes ++ rest) after

-- zones after some of the requests in frames, without a gap from the first one on
pub record TakesFront (step : List ZoneContent → Message → List ZoneContent) (zones : List ZoneContent) (bytes : List ℕ)
    (after : List ZoneContent) : Type 0 where
  pub front : List ℕ
  pub rest : List ℕ
  pub bytes_are : bytes ≡ front ++ rest
  pub takes : Takes step zones front after

-- zones after the updates of an entry, made by its rule
abbrev pub TakesEntry : List ZoneContent → List ℕ → List ZoneContent → Type 0
TakesEntry zones entry after = Takes (step_of (rule_in entry)) zones (updates_in entry) after

-- zones after some of the updates of an entry, without a gap from the first one on
abbrev pub TakesEntryFront : List ZoneContent → List ℕ → List ZoneContent → Type 0
TakesEntryFront zones entry after = TakesFront (step_of (rule_in entry)) zones (updates_in entry) after

-- zones after the entries of a journal, one after another
pub data Replays : List ZoneContent → List (List ℕ) → List ZoneContent → Type 0 where
  no_update : {zones : List ZoneContent} → Replays zones [] zones
  an_update : {zones mid after : List ZoneContent} {update : List ℕ} {more : List (List ℕ)}
      → TakesEntry zones update mid → Replays mid more after → Replays zones (update ∷ more) after

-- The entry for updates is on the disk, after the earlier ones.
abbrev pub IsOnDisk : List ℕ → List (List ℕ) → List ℕ → Position → Disk → List Event → Type 0
IsOnDisk text updates entry new d es = Ends (IsOpen text (updates ++ entries_of entry) new) d es

-- nothing is changed: not the zones, and neither the journal nor its position if that is ready
pub record IsUnchanged (old new : Position) (zones after : List ZoneContent) (es : List Event) : Type 0 where
  pub zones_are : after ≡ zones
  pub unasked : new.state ≡ states.Ready → (es ≡ []) × (new ≡ old)

-- updates are on the disk, and some of them were served; the journal takes no further ones
pub record IsBehind (text : List ℕ) (updates : List (List ℕ)) (entry : List ℕ) (new : Position)
    (zones after : List ZoneContent) (d : Disk) (es : List Event) : Type 0 where
  pub on_disk : IsOnDisk text updates entry new d es
  pub served : TakesEntryFront zones entry after
  pub suspended : new.state ≢ states.Ready

-- What requests lead to, by whether their updates are on the disk: the zones after all of these, or the same zones.
abbrev pub LeadsTo : Bool → List ℕ → List (List ℕ) → List ℕ → Position → Position
    → List ZoneContent → List ZoneContent → Disk → List Event → Type 0
LeadsTo true text updates entry old new zones after d es = IsOnDisk text updates entry new d es × TakesEntry zones entry after
LeadsTo false text updates entry old new zones after d es = IsUnchanged old new zones after es

-- what requests lead to, by their outcome: if memory is refused, some of their updates may have been served
abbrev pub EndsIn : Result Replies AllocError → List ℕ → List (List ℕ) → List ℕ → Position → Position
    → List ZoneContent → List ZoneContent → Disk → List Event → Type 0
EndsIn (Ok replies) text updates entry old new zones after d es =
    LeadsTo replies.is_stored text updates entry old new zones after d es
EndsIn (Err error) text updates entry old new zones after d es =
    IsUnchanged old new zones after es ⊎ IsBehind text updates entry new zones after d es

-- What requests ask of a storage whose journal is open. At any moment, a crash leaves the updates from before them, with the
-- entry of theirs or without.
pub record Commits (text : List ℕ) (updates : List (List ℕ)) (entry : List ℕ) (outcome : Result Replies AllocError)
    (old new : Position) (zones after : List ZoneContent) (d : Disk) (es : List Event) : Type 0 where
  pub any_moment : Always (LeavesOnly (IsWithOrWithout text updates entry old)) d es
  pub ends : EndsIn outcome text updates entry old new zones after d es

-- whether all updates of requests are on the disk, and are answered by the zones
abbrev pub is_acknowledged : Result Replies AllocError → Bool
is_acknowledged (Ok replies) = replies.is_stored
is_acknowledged (Err error) = false

-- what requests with an entry for their updates do: to a storage whose journal is open, and to a journal that is not ready, which
-- takes none
pub record Keeps (entry : List ℕ) (outcome : Result Replies AllocError) (old new : Position)
    (zones after : List ZoneContent) (es : List Event) : Type 0 where
  pub commits : (text : List ℕ) (updates : List (List ℕ)) (d : Disk) → IsOpen text updates old d
      → Commits text updates entry outcome old new zones after d es
  pub idle : old.state ≢ states.Ready → IsLeft entry (is_acknowledged outcome) old new es × (after ≡ zones)

-- The replies to requests that are decoded and verified. Where memory is refused there are none, and some of the updates that may be made
-- were served, without a gap from the first one on.
abbrev pub AnswersRequests : Policy → List Arrived → List ZoneContent → List ZoneContent
    → Result Replies AllocError → Type 0
AnswersRequests policy admitted zones after (Ok r) =
    AnswersAll policy r.is_stored zones admitted
    (map reply_bytes r.replies.items) after
AnswersRequests policy admitted zones after (Err error) =
    TakesFront (step_of policy.answering) zones (stream_of (changes_in admitted)) after

-- what requests that are decoded and verified ask of a storage, and what their replies are
pub record Answers (policy : Policy) (admitted : List Arrived) (outcome : Result Replies AllocError)
    (old new : Position) (zones after : List ZoneContent) (es : List Event) : Type 0 where
  pub keeps : Keeps (entry_of policy.answering (changes_in admitted)) outcome old new zones after es
  pub answered : AnswersRequests policy admitted zones after outcome

-- memory was refused before anything was done
pub record IsGivenUp (outcome : Result Replies AllocError) (old new : Position)
    (zones after : List ZoneContent) (es : List Event) : Type 0 where
  pub unasked : es ≡ []
  pub position : new ≡ old
  pub zones_are : after ≡ zones
  pub refused : outcome ≡ Err alloc_error

-- requests are decoded and verified, and then answered
pub record AnswersAdmitted (policy : Policy) (requests : List Incoming) (outcome : Result Replies AllocError) (old new : Position)
    (zones after : List ZoneContent) (es : List Event) : Type 0 where
  pub admitted : List Arrived
  pub are_admitted : AreAdmitted policy requests admitted
  pub answers : Answers policy admitted outcome old new zones after es

-- what requests that arrived together ask of a storage, and what their replies are
abbrev pub Responds : Policy → List Incoming → Result Replies AllocError → Position → Position
    → List ZoneContent → List ZoneContent → List Event → Type 0
Responds policy requests outcome old new zones after es =
    IsGivenUp outcome old new zones after es ⊎ AnswersAdmitted policy requests outcome old new zones after es
