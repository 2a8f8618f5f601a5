-- What is counted of a call does not depend on what it brought.
use Rattle.std.proofs.Common.{◌≡◌, Bool, ℕ, Option, Result, Ok, Err, refl}
use Rattle.std.specs.Global.{Vec}
use Rattle.stub_link.specs.Link.{datagram_of, stream_reply_of}
use Rattle.stub_link.specs.declared.link.LinkError.{LinkError}
use Rattle.stub_link.specs.declared.link.LinkError.TheVariants.{Failed, Memory}
use Rattle.stub_play.specs.sockets.SocketLink.{failures_after, memory_after}

pub datagram-failures : (r : Result (Option (Vec ℕ)) LinkError) (n : ℕ) → failures_after r n ≡ failures_after (datagram_of r) n
datagram-failures (Ok received) n = refl
datagram-failures (Err Failed) n = refl
datagram-failures (Err Memory) n = refl

pub datagram-memory : (r : Result (Option (Vec ℕ)) LinkError) (b : Bool) → memory_after r b ≡ memory_after (datagram_of r) b
datagram-memory (Ok received) b = refl
datagram-memory (Err Failed) b = refl
datagram-memory (Err Memory) b = refl

pub stream-failures : (r : Result (Vec ℕ) LinkError) (n : ℕ) → failures_after r n ≡ failures_after (stream_reply_of r) n
stream-failures (Ok bytes) n = refl
stream-failures (Err Failed) n = refl
stream-failures (Err Memory) n = refl

pub stream-memory : (r : Result (Vec ℕ) LinkError) (b : Bool) → memory_after r b ≡ memory_after (stream_reply_of r) b
stream-memory (Ok bytes) b = refl
stream-memory (Err Failed) b = refl
stream-memory (Err Memory) b = refl
