-- Calls of a server, one after another, and what a crash leaves of their updates.
use Rattle.std.specs.Prelude.{◌≡◌, ◌≢◌, ◌⊎◌, ℕ, Bool, true, false, List, [], ◌∷◌, ◌++◌, drop, is_ok, alloc_error, Result, Ok, Err}
use Rattle.std.specs.declared.alloc.AllocError.{AllocError}
use Rattle.sha2.specs.Sha256.{sha256}
use Rattle.dns_journal.specs.declared.journal.Position.{Position}
use Rattle.dns_journal.specs.declared.journal.State.TheVariants as states
use Rattle.dns_journal.specs.Appending.{IsRemainder}
use Rattle.dns_journal.specs.Event.{Event, Files}
use Rattle.dns_durable.specs.recovery.Compacting.{Recovers, mark}
use Rattle.dns_zone.specs.Rows.{ZoneContent}
use Rattle.dns_durable.specs.Compaction.{IsTextBehind, Rewrites}
use Rattle.dns_durable.specs.Durable.{Keeps, TakesEntry, is_acknowledged}
use Rattle.dns_durable.specs.Incoming.{AreAdmitted, changes_in}
use Rattle.dns_durable.specs.Rule.{entry_of}
use Rattle.dns_durable.specs.Storing.{IsGenuine, entries_of}
use Rattle.dns_durable.specs.declared.durable_server.Replies.{Replies}
use Rattle.dns_durable.specs.declared.error.CompactError.{CompactError}
use Rattle.dns_durable.specs.declared.incoming.Arrived.{Arrived}
use Rattle.dns_durable.specs.declared.incoming.Incoming.{Incoming}
use Rattle.dns_durable.specs.declared.policy.Policy.{Policy}

-- ---- calls

-- What is called: a batch of requests, with the entry for the updates that it may make, and its outcome; or a compaction, with the
-- text that it writes, the updates that this lacks because they were made while it was written, and its result.
pub data Deed : Type 0 where
  batch : List ℕ → Result Replies AllocError → Deed
  compaction : List ℕ → List ℕ → Result (Unit {0}) CompactError → Deed

-- a call: what was called, what that asked of the storage, and what it left
pub record Call : Type 0 where
  pub deed : Deed
  pub events : List Event
  pub new : Position
  pub after : List ZoneContent

-- a call keeps what its contract says
abbrev pub KeepsContract : Deed → Position → Position → List ZoneContent → List ZoneContent → List Event → Type 0
KeepsContract (batch frames outcome) old new zones after es = Keeps frames outcome old new zones after es
KeepsContract (compaction text carried result) old new zones after es = Rewrites text carried result old new zones after es

-- The entry for the updates of requests, by the outcome: that for the updates that may be made, or none if memory was refused before
-- the requests were decoded.
abbrev pub IsEntryOf : Policy → List Incoming → Result Replies AllocError → List ℕ → Type 0
IsEntryOf policy requests outcome frames =
    ((outcome ≡ Err alloc_error) × (frames ≡ []))
    ⊎ ((admitted : List Arrived) × (AreAdmitted policy requests admitted
    × (frames ≡ entry_of policy.answering (changes_in admitted))))

-- calls, one after another, each of which keeps what its contract says
pub data Runs : Position → List ZoneContent → List Call → Type 0 where
  no_call : {p : Position} {zones : List ZoneContent} → Runs p zones []
  a_call : {p : Position} {zones : List ZoneContent} {c : Call} {more : List Call}
      → KeepsContract c.deed p c.new zones c.after c.events → Runs c.new c.after more → Runs p zones (c ∷ more)

-- what calls asked of the storage, in order
abbrev pub events_of : List Call → List Event
events_of [] = []
events_of (c ∷ more) = c.events ++ events_of more

-- a batch of requests
abbrev pub IsBatch : Deed → Type 0
IsBatch (batch frames outcome) = Unit {0}
IsBatch (compaction text carried result) = ⊥

-- batches of requests alone
abbrev pub AreBatches : List Call → Type 0
AreBatches [] = Unit {0}
AreBatches (c ∷ more) = IsBatch c.deed × AreBatches more

-- Whether a call was done: all updates of a batch were acknowledged, or the text of a compaction and the updates that it lacks have
-- taken the place of the old text and its journal.
abbrev pub is_done : Deed → Bool
is_done (batch frames outcome) = is_acknowledged outcome
is_done (compaction text carried result) = is_ok result

-- the entry of a call, if it has one
abbrev pub entries_in : Deed → List (List ℕ)
entries_in (batch frames outcome) = entries_of frames
entries_in (compaction text carried result) = []

-- the entry of the updates that the text of a call lacks, if there are any: the new journal begins with it
abbrev pub lacking : Deed → List ℕ
lacking (batch frames outcome) = []
lacking (compaction text carried result) = carried

-- ---- the premises

-- Another text than the one whose place it takes has another digest.
abbrev pub HasOwnDigest : List ℕ → Deed → Type 0
HasOwnDigest former (batch frames outcome) = Unit {0}
HasOwnDigest former (compaction text carried result) = sha256 text ≡ sha256 former → text ≡ former

-- the text after a call
abbrev pub text_after : List ℕ → Deed → List ℕ
text_after former (batch frames outcome) = former
text_after former (compaction text carried (Ok done)) = text
text_after former (compaction text carried (Err error)) = former

-- no text of a compaction has the digest of the one whose place it takes, unless it is equal
abbrev pub HaveOwnDigests : List ℕ → List Call → Type 0
HaveOwnDigests former [] = Unit {0}
HaveOwnDigests former (c ∷ more) = HasOwnDigest former c.deed × HaveOwnDigests (text_after former c.deed) more

-- what a crash may leave of the entry that a call appends: that for its updates, or the mark of its text
abbrev pub IsGenuineOf : Deed → Position → Files → Type 0
IsGenuineOf (batch frames outcome) old files = IsGenuine frames old files
IsGenuineOf (compaction text carried result) old files = IsRemainder old (mark text carried) (drop old.end files.journal)

-- A crash left of the write that it may have torn what it may leave, and no seal is right by chance in that. It is the write of
-- the last call whose journal took entries: the last of all calls, or the one after which the journal took no further entries.
abbrev pub AreGenuine : Position → List Call → Files → Type 0
AreGenuine p [] files = Unit {0}
AreGenuine p (c ∷ more) files =
    (p.state ≡ states.Ready → (c.new.state ≢ states.Ready) ⊎ (more ≡ []) → IsGenuineOf c.deed p files)
    × AreGenuine c.new more files

-- where the journal ends after calls
abbrev pub position_after : Position → List Call → Position
position_after p [] = p
position_after p (c ∷ more) = position_after c.new more

-- calls after each of which the journal takes further entries
abbrev pub AreReady : List Call → Type 0
AreReady [] = Unit {0}
AreReady (c ∷ more) = (c.new.state ≡ states.Ready) × AreReady more

-- ---- what is left

-- a batch whose entry may be there: it was acknowledged, or the journal took no further entries after it
abbrev pub MayBeKept : Call → Type 0
MayBeKept c = IsBatch c.deed × ((is_done c.deed ≡ true) ⊎ (c.new.state ≢ states.Ready))

-- Entries of calls after the last compaction, in order: those that were acknowledged are among them, and of the others at most
-- one, that of the write that failed.
pub data Kept : List Call → List (List ℕ) → Type 0 where
  nothing : Kept [] []
  with_it : {c : Call} {more : List Call} {entries : List (List ℕ)} → MayBeKept c → Kept more entries
      → Kept (c ∷ more) (entries_in c.deed ++ entries)
  without_it : {c : Call} {more : List Call} {entries : List (List ℕ)} → is_done c.deed ≡ false
      → Kept more entries → Kept (c ∷ more) entries

-- the entry of a call that was interrupted is there, or is not
abbrev pub IsWholeOrNone : Deed → List (List ℕ) → Type 0
IsWholeOrNone deed entries = (entries ≡ []) ⊎ (entries ≡ entries_in deed)

-- Files have a text, and a journal with earlier updates, then those of calls that were done, and then perhaps those of a call that
-- was interrupted.
pub record AreInJournal (text : List ℕ) (updates : List (List ℕ)) (done : List Call) (last_deed : Deed) (files : Files) : Type 0 where
  pub text_is : files.text ≡ text
  pub kept : List (List ℕ)
  pub last : List (List ℕ)
  pub are_kept : Kept done kept
  pub is_last : IsWholeOrNone last_deed last
  pub recovers : Recovers files ((updates ++ kept) ++ last)

-- zones after a batch, by whether its updates were acknowledged: those after all of them, or the same
abbrev pub IsMade : Bool → List ℕ → List ZoneContent → List ZoneContent → Type 0
IsMade true frames zones after = TakesEntry zones frames after
IsMade false frames zones after = after ≡ zones

-- zones after a compaction, by whether it was done: those to which the updates that its text lacks lead from the zone that is read from
-- it, or the same
abbrev pub IsReadAgain : Bool → List ℕ → List ℕ → List ZoneContent → List ZoneContent → Type 0
IsReadAgain true text carried zones after =
    (again : ZoneContent) × (IsTextBehind zones text carried again × TakesEntry (again ∷ []) carried after)
IsReadAgain false text carried zones after = after ≡ zones

-- zones after a call
abbrev pub IsServed : Deed → List ZoneContent → List ZoneContent → Type 0
IsServed (batch frames outcome) zones after = IsMade (is_acknowledged outcome) frames zones after
IsServed (compaction text carried result) zones after = IsReadAgain (is_ok result) text carried zones after

-- zones after calls: those that exactly the acknowledged updates lead to, one after another
pub data Serves : List ZoneContent → List Call → List ZoneContent → Type 0 where
  serves_none : {zones : List ZoneContent} → Serves zones [] zones
  serves_call : {zones mid after : List ZoneContent} {c : Call} {more : List Call}
      → IsServed c.deed zones mid → Serves mid more after → Serves zones (c ∷ more) after

-- The text of a compaction after calls, and the updates that it lacks: it is one of the only zone, from which these updates lead to
-- exactly what the acknowledged updates of the calls lead to, and a zone with the same text is read from it.
pub record IsTextAfter (zones : List ZoneContent) (before : List Call) (text carried : List ℕ) : Type 0 where
  pub served : List ZoneContent
  pub again : ZoneContent
  pub serves : Serves zones before served
  pub behind : IsTextBehind served text carried again

-- a compaction that writes a text
abbrev pub Writes : Deed → List ℕ → Type 0
Writes (batch frames outcome) text = ⊥
Writes (compaction new carried result) text = text ≡ new

-- Files have the text of a compaction, which has the acknowledged updates of the calls before it, but those that it lacks, and a journal
-- with these and then those of the calls after it.
pub record AreInText (zones : List ZoneContent) (done : List Call) (last_deed : Deed) (files : Files) : Type 0 where
  pub before : List Call
  pub compacted : Call
  pub rest : List Call
  pub done_is : done ≡ before ++ compacted ∷ rest
  pub writes : Writes compacted.deed files.text
  pub is_text : IsTextAfter zones before files.text (lacking compacted.deed)
  pub journal : AreInJournal files.text (entries_of (lacking compacted.deed)) rest last_deed files

-- Files have the text of the compaction that was interrupted, which has the acknowledged updates of the calls before it, but those that
-- it lacks, which the journal has.
pub record AreInLastText (zones : List ZoneContent) (done : List Call) (last_deed : Deed) (files : Files) : Type 0 where
  pub writes : Writes last_deed files.text
  pub is_text : IsTextAfter zones done files.text (lacking last_deed)
  pub recovers : Recovers files (entries_of (lacking last_deed))

-- Files have the updates of calls: in the journal of the text from before them, or in the text of the last compaction of them that
-- has replaced it, and in the journal of that.
abbrev pub StandAfter : List ℕ → List (List ℕ) → List ZoneContent → List Call → Deed → Files → Type 0
StandAfter text updates zones done last_deed files =
    AreInJournal text updates done last_deed files
    ⊎ (AreInText zones done last_deed files ⊎ AreInLastText zones done last_deed files)

-- the text from before calls, or that of a compaction among them
abbrev pub IsTextOf : List ℕ → List Call → List ℕ → Type 0
IsTextOf former [] text = text ≡ former
IsTextOf former (c ∷ more) text = IsTextOf former more text ⊎ Writes c.deed text

-- what a crash leaves while a call is made after others, if that is what it may leave of a write
pub record Outlasts (text : List ℕ) (updates : List (List ℕ)) (p : Position) (zones : List ZoneContent) (done : List Call)
    (c : Call) (files : Files) : Type 0 where
  pub text_is : IsTextOf text (done ++ c ∷ []) files.text
  pub stands : AreGenuine p (done ++ c ∷ []) files → StandAfter text updates zones done c.deed files

-- what a crash leaves while a batch is answered after others, if that is what it may leave of a write
pub record OutlastsInJournal (text : List ℕ) (updates : List (List ℕ)) (p : Position) (done : List Call) (c : Call)
    (files : Files) : Type 0 where
  pub text_is : files.text ≡ text
  pub stands : AreGenuine p (done ++ c ∷ []) files → AreInJournal text updates done c.deed files
