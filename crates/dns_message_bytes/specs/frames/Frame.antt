-- Frames of a stream of messages (RFC 1035 section 4.2.2, RFC 7766 section 8).
use Rattle.std.specs.Prelude.{◌≡◌, ℕ, ◌+◌, ◌*◌, ◌/◌, ◌%◌, ◌-◌, ◌^◌, ◌<◌, ◌≤◌, ◌⊎◌, List, [], ◌∷◌, ◌++◌, length, take, Option, Some, None, Result, Ok, Err, option_map}
use Rattle.std.specs.Global.{Vec}
use Rattle.dns_message_bytes.specs.declared.frames.error.FrameError.{FrameError}
use Rattle.dns_message_bytes.specs.declared.frames.error.FrameError.TheVariants as faults

-- the frame of a message: its length in two bytes, most significant first, and its bytes
abbrev pub frame : List ℕ → List ℕ
frame message = length message / 256 ∷ length message % 256 ∷ message

-- the frames of messages, one after another
abbrev pub stream_of : List (List ℕ) → List ℕ
stream_of [] = []
stream_of (message ∷ more) = frame message ++ stream_of more

-- messages that a frame can have
abbrev pub AreShort : List (List ℕ) → Type 0
AreShort [] = Unit {0}
AreShort (message ∷ more) = (length message ≤ 65535) × AreShort more

-- the number of bytes of the first frame of a stream: two, and as many as these say
abbrev pub frame_len : List ℕ → ℕ
frame_len [] = 2
frame_len (high ∷ []) = 2
frame_len (high ∷ low ∷ _) = 2 + (256 * high + low)

-- a stream ends within its first frame
abbrev pub EndsWithinFrame : List ℕ → Type 0
EndsWithinFrame bytes = (0 < length bytes) × (length bytes < frame_len bytes)

-- a read of a source puts bytes at the front of a buffer, and none only if none are left or the buffer is empty
pub record ReadsFront (old : List ℕ) (size : ℕ) (buffer new : List ℕ) (count : ℕ) : Type 0 where
  pub within : count ≤ size
  pub front : old ≡ take count buffer ++ new
  pub some : count ≡ 0 → 0 < size → old ≡ []

-- a count of failures rose, or is at its greatest
abbrev pub Rises : ℕ → ℕ → Type 0
Rises old new = (old < new) ⊎ (new ≡ 2 ^ 64 - 1)

-- a reading of a frame, by the bytes of its message
abbrev pub frame_read : Result (Option (Vec ℕ)) FrameError → Result (Option (List ℕ)) FrameError
frame_read (Ok found) = Ok (option_map (λ message. message.items) found)
frame_read (Err error) = Err error

-- how the first frame of a stream is read: its message is found, or the stream is at its end, or ends within the frame
abbrev pub ReadsFrame : List ℕ → Result (Option (List ℕ)) FrameError → List ℕ → Type 0
ReadsFrame old (Ok (Some message)) new = (length message ≤ 65535) × (old ≡ frame message ++ new)
ReadsFrame old (Ok None) new = (old ≡ []) × (new ≡ [])
ReadsFrame old (Err faults.Truncated) new = EndsWithinFrame old × (new ≡ [])
ReadsFrame old (Err faults.Failed) new = Unit {0}
ReadsFrame old (Err faults.Memory) new = Unit {0}

-- the messages that frames are read as, up to the end of a stream
abbrev pub ReadsAll : List ℕ → List (List ℕ) → Type 0
ReadsAll old [] = ReadsFrame old (Ok None) []
ReadsAll old (message ∷ more) = (new : List ℕ) × (ReadsFrame old (Ok (Some message)) new × ReadsAll new more)

-- bytes in memory, and the greatest number of them that a read gives
pub record Pieces : Type 0 where
  pub left : List ℕ
  pub piece : ℕ
