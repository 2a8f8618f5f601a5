-- What a link that notes its calls has noted.
use Rattle.std.specs.Prelude.{◌≡◌, ◌⊎◌, ◌++◌, ◌∷◌, [], true, List, ℕ, Option, Result, map}
use Rattle.stub_link.specs.Link.{datagram_of, stream_reply_of}
use Rattle.stub_link.specs.declared.link.LinkError.{LinkError}
use Rattle.stub_link.specs.declared.wire_handle.WireHandle.{WireHandle}
use Rattle.stub_link.specs.declared.trace.note.Note.{Note}
use Rattle.stub_link.specs.declared.trace.note.Note.TheVariants.{Send, Receive, Stream}
use Rattle.stub_link.specs.declared.trace.traced_link.TracedLink.{TracedLink}

-- a call of a link, with its bytes and its result
pub data Call : Type 0 where
  sent : List ℕ → Result (Unit {0}) LinkError → Call
  received : Result (Option (List ℕ)) LinkError → Call
  streamed : List ℕ → Result (List ℕ) LinkError → Call

-- the call that a note is of
abbrev pub call_of : Note → Call
call_of (Send bytes outcome) = sent bytes.items outcome
call_of (Receive outcome) = received (datagram_of outcome)
call_of (Stream bytes outcome) = streamed bytes.items (stream_reply_of outcome)

-- the calls that were noted, in order
abbrev pub calls_of : {L : Type 0} → TracedLink L → List Call
calls_of traced = map call_of traced.notes.items

-- a traced link around another link
abbrev pub with_inner : {L : Type 0} → TracedLink L → L → TracedLink L
with_inner traced link = record traced { link = link }

-- A call was noted after the others, or there was no memory for it, which is known from then on.
abbrev pub IsNoted : {L : Type 0} → Call → TracedLink L → TracedLink L → Type 0
IsNoted call old new =
    ((calls_of new ≡ calls_of old ++ call ∷ []) × (new.is_incomplete ≡ old.is_incomplete))
    ⊎ ((calls_of new ≡ calls_of old) × (new.is_incomplete ≡ true))

-- ---- the calls of a traced link, by those of the other link

-- a datagram is sent by the other link, and the call is noted
abbrev pub traced_sends : {L : Type 0} → (L → List ℕ → Result (Unit {0}) LinkError → L → Type 0)
    → TracedLink L → List ℕ → Result (Unit {0}) LinkError → TracedLink L → Type 0
traced_sends sends old bytes result new = sends old.link bytes result new.link × IsNoted (sent bytes result) old new

-- a datagram is received by the other link, and the call is noted
abbrev pub traced_receives : {L : Type 0} → (L → Result (Option (List ℕ)) LinkError → L → Type 0)
    → TracedLink L → Result (Option (List ℕ)) LinkError → TracedLink L → Type 0
traced_receives receives old result new = receives old.link result new.link × IsNoted (received result) old new

-- a request is sent over a stream of the other link, and the call is noted with its reply
abbrev pub traced_streams : {L : Type 0} → (L → List ℕ → Result (List ℕ) LinkError → L → Type 0)
    → TracedLink L → List ℕ → Result (List ℕ) LinkError → TracedLink L → Type 0
traced_streams streams old bytes result new = streams old.link bytes result new.link × IsNoted (streamed bytes result) old new

-- the failures that the other link has counted
abbrev pub traced_count : {L : Type 0} → (L → ℕ) → TracedLink L → ℕ
traced_count failure_count traced = failure_count traced.link

-- a handle over a traced link, without the notes
abbrev pub untraced : {L : Type 0} → WireHandle (TracedLink L) → WireHandle L
untraced handle = record {
  alloc = handle.alloc;
  link = handle.link.link;
  ids = handle.ids;
  sent = handle.sent;
  dropped = handle.dropped;
  faults = handle.faults;
  questions = handle.questions;
}
