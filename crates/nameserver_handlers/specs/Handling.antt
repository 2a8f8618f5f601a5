-- What a name server answers that keeps a journal, keys and a fault table.
use Rattle.std.specs.Prelude.{◌≡◌, ◌⊎◌, Bool, true, false, List, [], ◌∷◌, ℕ, is_none, map, option_map, Option, Some, None, Result, Ok, Err}
use Rattle.std.specs.Global.{Vec}
use Rattle.std.specs.declared.alloc.AllocError.{AllocError}
use Rattle.std.specs.Net.Socket.{socket_ip}
use Rattle.dns_durable.specs.Changes.{AreChanges, reply_bytes, reply_change}
use Rattle.dns_durable.specs.Durable.{Responds}
use Rattle.dns_durable.specs.declared.durable_server.Replies.{Replies}
use Rattle.dns_durable.specs.declared.incoming.Incoming.{Incoming}
use Rattle.dns_durable.specs.declared.incoming.Terms.{Terms}
use Rattle.dns_faults.specs.Delivery.{plain_sending, sending}
use Rattle.dns_faults.specs.declared.delivery.Delivery.{Delivery}
use Rattle.dns_faults.specs.declared.rules.table.CountedRule.{CountedRule}
use Rattle.dns_journal.specs.Event.{Event}
use Rattle.dns_journal.specs.Storage.{Performs}
use Rattle.dns_journal.specs.declared.journal.Position.{Position}
use Rattle.dns_journal.specs.declared.journal.State.TheVariants as states
use Rattle.dns_messages.specs.Grammar.{ReadsMessage}
use Rattle.dns_messages.specs.declared.message.Message.{Message}
use Rattle.dns_nameserver.specs.Answered.{IsCoverageOf, reply_transport, updates_of}
use Rattle.dns_nameserver.specs.Former.{Former, former_after, has_changed}
use Rattle.dns_server.specs.declared.server.ZoneChange.{ZoneChange}
use Rattle.dns_sockets.specs.Handler.{RequestContent}
use Rattle.dns_transfers.specs.replies.Recording.{AreForgotten, AreHistoriesOf, AreRecorded}
use Rattle.dns_transfers.specs.declared.replies.recorder.Recorder.{Recorder}
use Rattle.dns_transfers.specs.declared.replies.zone_history.ZoneHistory.{ZoneHistory}
use Rattle.dns_zone.specs.Rows.{ZoneContent}
use Rattle.nameserver_handlers.specs.Clock.{Shows}
use Rattle.nameserver_handlers.specs.TextFile.{AsksNothing}
use Rattle.nameserver_handlers.specs.Transferring.{Content, TransferByDatagram}
use Rattle.nameserver_handlers.specs.declared.handler.RequestHandler.{RequestHandler}
use Rattle.nameserver_handlers.specs.declared.settings.Settings.{Settings}
use Rattle.nameserver_handlers.specs.declared.serving.Recorded.{Recorded}
use Rattle.nameserver_handlers.specs.declared.transfers.Transfers.{Transfers}

-- What a handler keeps that matters for its replies: the storage of its journal, the position in it, the zones, its settings, the
-- differences of the zones, the zones from before the last update, and the rules of its fault table.
pub record Keeping (S : Type 0) : Type 0 where
  pub storage : S
  pub position : Position
  pub zones : List ZoneContent
  pub settings : Settings
  pub recorder : Recorder
  pub former : Option Former
  pub faults : List CountedRule

-- the same of a handler
abbrev pub keeping : {R S W : Type 0} → RequestHandler R S W → Keeping S
keeping h = record {
  storage = h.server.journal.storage;
  position = h.server.journal.position;
  zones = h.server.server;
  settings = h.settings;
  recorder = h.recorder;
  former = h.former;
  faults = h.faults;
}

-- ---- requests

-- What decides on the reply to a request, beside its bytes: the transport, with the greatest size of datagrams, whether the address of its
-- peer may update without a key, and the time by which its signature is in time.
pub record IsTerms (settings : Settings) (r : RequestContent) (terms : Terms) : Type 0 where
  pub covered : Bool
  pub coverage : IsCoverageOf settings.updaters (socket_ip r.peer) covered
  pub transport_is : terms.transport ≡ reply_transport r.transport settings.limit
  pub local_is : terms.local ≡ updates_of covered
  pub time_is : Shows settings.transfers.clock r.moment terms.time

-- the same of requests, in order
abbrev pub AreTerms : Settings → List RequestContent → List Terms → Type 0
AreTerms settings [] terms = terms ≡ []
AreTerms settings (r ∷ rs) [] = ⊥
AreTerms settings (r ∷ rs) (t ∷ ts) = IsTerms settings r t × AreTerms settings rs ts

-- requests that have arrived, with what else decides on their replies
abbrev pub AreIncoming : List RequestContent → List Terms → List Incoming → Type 0
AreIncoming [] terms incoming = (terms ≡ []) × (incoming ≡ [])
AreIncoming (r ∷ rs) terms [] = ⊥
AreIncoming (r ∷ rs) [] (i ∷ more) = ⊥
AreIncoming (r ∷ rs) (t ∷ ts) (i ∷ more) = ((i.bytes.now ≡ r.bytes) × (i.terms.now ≡ t)) × AreIncoming rs ts more

-- ---- the zones from before the last update

-- They follow an update that has changed records.
abbrev pub FollowsUpdate : Option Former → List ℕ → Option Former → Type 0
FollowsUpdate None bytes new = new ≡ None
FollowsUpdate (Some f) bytes new = (m : Message) × (ReadsMessage bytes m × (new ≡ Some (former_after f m)))

-- They follow it, or are given up for want of memory.
abbrev pub FollowsOne : Option Former → List ℕ → Option Former → Type 0
FollowsOne None bytes new = new ≡ None
FollowsOne (Some f) bytes new = (new ≡ None) ⊎ ((m : Message) × (ReadsMessage bytes m × (new ≡ Some (former_after f m))))

-- the same, if a request has changed records
abbrev pub FollowsIf : Bool → Option Former → List ℕ → Option Former → Type 0
FollowsIf true f bytes new = FollowsOne f bytes new
FollowsIf false f bytes new = new ≡ f

-- the bytes of the first request
abbrev pub first_bytes : List RequestContent → List ℕ
first_bytes [] = []
first_bytes (r ∷ rs) = r.bytes

-- the requests behind the first one
abbrev pub others_of : List RequestContent → List RequestContent
others_of [] = []
others_of (r ∷ rs) = rs

-- they follow requests, one after another, by whether each has changed records
abbrev pub Follows : Option Former → List RequestContent → List Bool → Option Former → Type 0
Follows f rs [] new = new ≡ f
Follows f rs (changed ∷ more) new = (mid : Option Former) × (FollowsIf changed f (first_bytes rs) mid × Follows mid (others_of rs) more new)

-- ---- replies

-- the bytes of a reply whose change is recorded, if there is one
abbrev pub recorded_bytes : Recorded → Option (List ℕ)
recorded_bytes r = option_map (λ bytes. bytes.items) r.reply

-- those of several, or nothing for want of memory
abbrev pub recorded_if : Result (Vec Recorded) AllocError → Option (List (Option (List ℕ)))
recorded_if (Ok recorded) = Some (map recorded_bytes recorded.items)
recorded_if (Err error) = None

-- that of one, or nothing for want of memory
abbrev pub one_if : Result Recorded AllocError → Option (List (Option (List ℕ)))
one_if (Ok recorded) = Some (recorded_bytes recorded ∷ [])
one_if (Err error) = None

-- The known differences of each zone lead to its rows, if they did before (RFC 1995 section 4).
abbrev pub KeepsHistories : {S : Type 0} → Keeping S → Keeping S → Type 0
KeepsHistories old new = AreHistoriesOf old.zones old.recorder.histories.items → AreHistoriesOf new.zones new.recorder.histories.items

-- The differences that are kept after a request: that of its change is recorded, or the history of the zone begins again for want of memory.
abbrev pub RecordsOne : Option ZoneChange → List ZoneHistory → List ZoneHistory → Type 0
RecordsOne None old new = new ≡ old
RecordsOne (Some c) old new = (complete : Bool) × AreRecorded complete c.place c.difference old new

-- the same after requests, one after another
abbrev pub RecordsAll : List (Option ZoneChange) → List ZoneHistory → List ZoneHistory → Type 0
RecordsAll [] old new = new ≡ old
RecordsAll (c ∷ more) old new = (mid : List ZoneHistory) × (RecordsOne c old mid × RecordsAll more mid new)

-- What requests with their terms ask of a storage, what becomes of the zones, and what the replies are (`dns_durable`): the updates that may
-- be made are on the disk before a reply says so. Updates that have changed records are followed by the zones from before them.
pub record AreServed {S : Type 0} (performs : S → Event → S → Type 0) (old : Keeping S) (rs : List RequestContent) (terms : List Terms)
    (replies : List (Option (List ℕ))) (new : Keeping S) : Type 0 where
  pub incoming : List Incoming
  pub outcome : Replies
  pub are_incoming : AreIncoming rs terms incoming
  pub serves : Performs performs old.storage new.storage (Responds old.settings.policy incoming (Ok outcome) old.position new.position old.zones new.zones)
  pub replies_are : replies ≡ map reply_bytes outcome.replies.items
  pub changes : AreChanges old.zones (map reply_change outcome.replies.items) new.zones
  pub recorded : RecordsAll (map reply_change outcome.replies.items) old.recorder.histories.items new.recorder.histories.items
  pub former_follows : Follows old.former rs (map (λ reply. has_changed (reply_change reply)) outcome.replies.items) new.former
  pub settings_kept : new.settings ≡ old.settings
  pub faults_kept : new.faults ≡ old.faults

-- Where memory was refused, nothing was done, or it is not known what was: but for zones, which only updates that may be made have changed.
pub record AreLeft {S : Type 0} (performs : S → Event → S → Type 0) (old : Keeping S) (rs : List RequestContent) (terms : List Terms)
    (new : Keeping S) : Type 0 where
  pub left : (((new.storage ≡ old.storage) × (new.position ≡ old.position)) × (new.zones ≡ old.zones))
      ⊎ ((incoming : List Incoming) × (outcome : Result Replies AllocError) × (AreIncoming rs terms incoming
      × Performs performs old.storage new.storage (Responds old.settings.policy incoming outcome old.position new.position old.zones new.zones)))
  pub settings_kept : new.settings ≡ old.settings
  pub faults_kept : new.faults ≡ old.faults

-- one of both
abbrev pub Responded : {S : Type 0} → (S → Event → S → Type 0) → Keeping S → List RequestContent → List Terms → Option (List (Option (List ℕ))) → Keeping S → Type 0
Responded performs old rs terms (Some replies) new = AreServed performs old rs terms replies new
Responded performs old rs terms None new = AreLeft performs old rs terms new

-- the differences are as they were, or no difference is known any more
abbrev pub ForgetsIf : Bool → Recorder → Recorder → Type 0
ForgetsIf false old new = new ≡ old
ForgetsIf true old new = AreForgotten old.histories.items new.histories.items

-- the zones from before the last update are as they were, or are not known any more
abbrev pub FormerIf : Bool → Option Former → Option Former → Type 0
FormerIf false old new = new ≡ old
FormerIf true old new = new ≡ None

-- the position in a journal, or that of a server without one, which takes updates again
abbrev pub position_again : Bool → Position → Position
position_again true p = p
position_again false p = record p { state = states.Ready }

-- the same where memory was refused
abbrev pub PositionIf : Bool → Bool → Position → Position → Type 0
PositionIf false has_journal old new = new ≡ old
PositionIf true has_journal old new = new ≡ position_again has_journal old

-- The same but for the error of the storage, which was told. Where memory was refused, neither differences nor the zones from before the
-- last update are known any more, and a server without a journal takes updates again.
pub record IsSettled {S : Type 0} (performs : S → Event → S → Type 0) (is_refused : Bool) (old new : Keeping S) : Type 0 where
  pub storage : AsksNothing performs old.storage new.storage
  pub position : PositionIf is_refused old.settings.has_journal old.position new.position
  pub zones : new.zones ≡ old.zones
  pub settings : new.settings ≡ old.settings
  pub recorder : ForgetsIf is_refused old.recorder new.recorder
  pub former : FormerIf is_refused old.former new.former
  pub faults : new.faults ≡ old.faults

-- requests with their terms are served, up to a state of the storage
pub record ServesWith {S : Type 0} (performs : S → Event → S → Type 0) (old : Keeping S) (rs : List RequestContent) (terms : List Terms)
    (replies : Option (List (Option (List ℕ)))) (new : Keeping S) : Type 0 where
  pub mid : Keeping S
  pub responded : Responded performs old rs terms replies mid
  pub settled : IsSettled performs (is_none replies) mid new

-- requests are served by their terms
pub record Serves {S : Type 0} (performs : S → Event → S → Type 0) (old : Keeping S) (rs : List RequestContent)
    (replies : Option (List (Option (List ℕ)))) (new : Keeping S) : Type 0 where
  pub terms : List Terms
  pub are_terms : AreTerms old.settings rs terms
  pub served : ServesWith performs old rs terms replies new

-- ---- what is sent

-- what is transferred: zones, their last differences, and the keys of a policy
abbrev pub kept_content : {S : Type 0} → Keeping S → Content
kept_content k = record { zones = k.zones; histories = k.recorder.histories.items; keys = k.settings.policy.keys.items }

-- what is sent for a request: the reply to one for an incremental transfer in a datagram, or else this
abbrev pub or_else : Option (List ℕ) → Option (List ℕ) → Option (List ℕ)
or_else (Some transferred) reply = Some transferred
or_else None reply = reply

-- a reply is sent once, at once
abbrev pub IsDelivered : Content → Transfers → ℕ → RequestContent → Option (List ℕ) → Delivery → Type 0
IsDelivered content t limit r reply d =
    (found : Option (List ℕ))
    × (TransferByDatagram content t (reply_transport r.transport limit) r found × (sending d ≡ plain_sending (or_else found reply)))

-- replies are, each for its request
abbrev pub AreDelivered : Content → Transfers → ℕ → List RequestContent → List (Option (List ℕ)) → List Delivery → Type 0
AreDelivered content t limit [] replies ds = ds ≡ []
AreDelivered content t limit (r ∷ rs) [] ds = ds ≡ []
AreDelivered content t limit (r ∷ rs) (reply ∷ more) [] = ⊥
AreDelivered content t limit (r ∷ rs) (reply ∷ more) (d ∷ ds) = IsDelivered content t limit r reply d × AreDelivered content t limit rs more ds

-- Requests that arrive together are answered, without a fault.
pub record AnswersTogether {S : Type 0} (performs : S → Event → S → Type 0) (old : Keeping S) (rs : List RequestContent)
    (ds : List Delivery) (new : Keeping S) : Type 0 where
  pub replies : List (Option (List ℕ))
  pub serves : Serves performs old rs (Some replies) new
  pub delivered : AreDelivered (kept_content new) new.settings.transfers new.settings.limit rs replies ds

-- Where memory is refused, there are no replies, and updates may have been made.
abbrev pub LeavesTogether : {S : Type 0} → (S → Event → S → Type 0) → Keeping S → List RequestContent → Keeping S → Type 0
LeavesTogether performs old rs new = (new ≡ old) ⊎ ((replies : Option (List (Option (List ℕ)))) × Serves performs old rs replies new)
