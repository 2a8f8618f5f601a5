-- How the frames of a stream are served by a responder (RFC 7766 sections 6.2 and 8).
use Rattle.std.specs.Prelude.{◌≡◌, ◌≤◌, ◌⊎◌, true, false, Bool, List, [], ◌∷◌, ◌++◌, ℕ, Option, Some, None, length, take, drop}
use Rattle.dns_server.specs.Connection.{Stream, behind_frame, completed, first_message, next_message, reply_frame}

-- whether a message has a reply, or none, in a state of a responder, and leaves it in another
abbrev pub Replies : Type 0 → Type 1
Replies S = S → List ℕ → Option (List ℕ) → S → Type 0

-- the first of some replies is given, or none
abbrev pub GivesNext : List (List ℕ) → Option (List ℕ) → List (List ℕ) → Type 0
GivesNext old None new = (old ≡ []) × (new ≡ [])
GivesNext old (Some reply) new = old ≡ reply ∷ new

-- messages are replied to one after another, and these are the frames of the replies
abbrev pub RepliesTo : {S : Type 0} → Replies S → S → List (List ℕ) → List ℕ → S → Type 0
RepliesTo replies s [] frames after = (frames ≡ []) × (after ≡ s)
RepliesTo {S} replies s (message ∷ more) frames after =
    (reply : Option (List ℕ)) × ((between : S) × ((rest : List ℕ) × (replies s message reply between
    × ((frames ≡ reply_frame reply ++ rest) × RepliesTo replies between more rest after))))

-- ---- the frames of a connection

-- bytes are the frames of messages, and what follows them
abbrev pub AreSplit : List ℕ → List (List ℕ) → List ℕ → Type 0
AreSplit bytes [] rest = rest ≡ bytes
AreSplit bytes (message ∷ more) rest = (first_message bytes ≡ Some message) × AreSplit (behind_frame bytes) more rest

-- Frames at the front of a stream are served: they are gone, and the frames of the replies to their messages wait.
pub record IsServed {S : Type 0} (replies : Replies S) (s : S) (c : Stream) (after : S) (new : Stream) : Type 0 where
  pub messages : List (List ℕ)
  pub frames : List ℕ
  pub split : AreSplit c.input messages new.input
  pub output : new.output ≡ c.output ++ frames
  pub replied : RepliesTo replies s messages frames after

-- the next message is served, or there is none
abbrev pub ServesNext : {S : Type 0} → Replies S → S → Stream → S → Stream → Bool → Type 0
ServesNext replies s c after new false = (next_message c ≡ None) × ((after ≡ s) × (new ≡ c))
ServesNext replies s c after new true =
    (message : List ℕ) × ((reply : Option (List ℕ)) × ((next_message c ≡ Some message)
    × (replies s message reply after × (new ≡ completed c reply))))

-- the next message may have its reply, which is lost
abbrev pub MayHaveReplied : {S : Type 0} → Replies S → S → Stream → S → Type 0
MayHaveReplied replies s c after =
    (after ≡ s) ⊎ ((message : List ℕ) × ((reply : Option (List ℕ)) × ((next_message c ≡ Some message) × replies s message reply after)))

-- frames are served up to one for whose reply memory was refused
pub record IsServedInPart {S : Type 0} (replies : Replies S) (s : S) (c : Stream) (after : S) (new : Stream) : Type 0 where
  pub between : S
  pub served : IsServed replies s c between new
  pub lost : MayHaveReplied replies between new after

-- ---- all that happens on a connection

-- bytes are received, or the next message is served, or so many bytes are written
pub data Step : Type 0 where
  Receive : List ℕ → Step
  Serve : Option (List ℕ) → Step
  Write : ℕ → Step

-- the bytes that steps receive
abbrev pub received_in : List Step → List ℕ
received_in [] = []
received_in (Receive bytes ∷ more) = bytes ++ received_in more
received_in (Serve reply ∷ more) = received_in more
received_in (Write count ∷ more) = received_in more

-- steps happen on a stream, write these bytes, and leave it and the responder so
abbrev pub Happen : {S : Type 0} → Replies S → S → Stream → List Step → List ℕ → S → Stream → Type 0
Happen replies s c [] written after new = (written ≡ []) × ((after ≡ s) × (new ≡ c))
Happen replies s c (Receive bytes ∷ more) written after new =
    Happen replies s (record c { input = c.input ++ bytes }) more written after new
Happen {S} replies s c (Serve reply ∷ more) written after new =
    (message : List ℕ) × ((between : S) × ((next_message c ≡ Some message)
    × (replies s message reply between × Happen replies between (completed c reply) more written after new)))
Happen replies s c (Write count ∷ more) written after new =
    (rest : List ℕ) × ((count ≤ length c.output) × ((written ≡ take count c.output ++ rest)
    × Happen replies s (record c { output = drop count c.output }) more rest after new))

-- a stream on which nothing happened
abbrev pub empty_stream : Stream
empty_stream = record { input = []; output = [] }

-- What was received is the frames of messages and the input that is left; what was written and waits is the frames of the
-- replies to these messages.
pub record IsHistory {S : Type 0} (replies : Replies S) (start : S) (received written : List ℕ) (now : S) (c : Stream) : Type 0 where
  pub messages : List (List ℕ)
  pub split : AreSplit received messages c.input
  pub replied : RepliesTo replies start messages (written ++ c.output) now

-- a message has one reply, and leaves one state
abbrev pub AreOnly : {S : Type 0} → Replies S → Type 0
AreOnly {S} replies =
    (s : S) (message : List ℕ) (one other : Option (List ℕ)) (after new : S)
    → replies s message one after → replies s message other new → (one ≡ other) × (after ≡ new)

-- a stream of which no whole frame is left
abbrev pub IsServedOut : Stream → Type 0
IsServedOut c = first_message c.input ≡ None
