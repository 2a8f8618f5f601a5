-- The state of a stream: bytes that are received and not yet served, and bytes to be written (RFC 7766 sections 6.2 and 8).
use Rattle.std.specs.Prelude.{◌-◌, nat_le, if◌then◌else◌, List, [], ◌++◌, ℕ, Option, Some, None, length, take, drop}
use Rattle.dns_message_bytes.specs.frames.Frame.{frame, frame_len}

-- the greatest number of bytes that are received and not yet served: those of the longest frame
abbrev pub max_input_len : ℕ
max_input_len = 65537

-- the greatest number of bytes that wait to be written while a frame is served
abbrev pub max_waiting_len : ℕ
max_waiting_len = 65537

-- the greatest number of bytes that wait to be written at all: the longest frame may be added to those
abbrev pub max_output_len : ℕ
max_output_len = 131074

-- what contracts see of a connection
pub record Stream : Type 0 where
  pub input : List ℕ
  pub output : List ℕ

-- the message of the first frame of bytes, if all of it is there
abbrev pub first_message : List ℕ → Option (List ℕ)
first_message bytes =
    if nat_le (frame_len bytes) (length bytes) then Some (take (frame_len bytes - 2) (drop 2 bytes)) else None

-- the bytes after the first frame
abbrev pub behind_frame : List ℕ → List ℕ
behind_frame bytes = drop (frame_len bytes) bytes

-- The next message to serve: that of the first frame, unless too many bytes wait to be written.
abbrev pub next_message : Stream → Option (List ℕ)
next_message s = if nat_le (length s.output) max_waiting_len then first_message s.input else None

-- the frame of a reply, if there is one that a frame can have
abbrev pub reply_frame : Option (List ℕ) → List ℕ
reply_frame None = []
reply_frame (Some reply) = if nat_le (length reply) 65535 then frame reply else []

-- the stream when its first message is served: the frame of the message is gone, and that of the reply waits
abbrev pub completed : Stream → Option (List ℕ) → Stream
completed s reply = record { input = behind_frame s.input; output = s.output ++ reply_frame reply }
