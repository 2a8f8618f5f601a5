-- What was read and written on a connection, the requests that were handled, and the replies to them.
use Rattle.std.specs.Prelude.{◌≡◌, ◌==◌, if◌then◌else◌, true, ℕ, List, [], ◌∷◌, ◌++◌, ⊤, Some}
use Rattle.dns_server.specs.Connection.{behind_frame, first_message}
use Rattle.dns_sockets.specs.Connections.{delivered, transferred}
use Rattle.dns_sockets.specs.Handler.{HandlerEvent, RequestContent, Handled, Transferred}
use Rattle.dns_sockets.specs.Trace.{Act, At, By, Connection}
use Rattle.dns_sockets.specs.World.{Admitted, Read, Written}

-- the frames of the replies that a call returns
abbrev pub frames_of : HandlerEvent → List ℕ
frames_of (Handled requests (Some ds)) = delivered ds
frames_of (Transferred request is_busy (Some (Some messages))) = transferred messages
frames_of call = []

-- what was written on the connection of an index since it was admitted, after one more act
abbrev pub written_by : ℕ → Act → List ℕ → List ℕ
written_by index (At (Admitted stream true)) so_far = if stream == index then [] else so_far
written_by index (At (Written stream bytes)) so_far = if stream == index then so_far ++ bytes else so_far
written_by index act so_far = so_far

-- the same after several
abbrev pub written_on : ℕ → List ℕ → List Act → List ℕ
written_on index so_far [] = so_far
written_on index so_far (act ∷ acts) = written_on index (written_by index act so_far) acts

-- the frames of the replies to requests that arrived on the connection of an index since it was admitted, after one more act
abbrev pub replied_by : ℕ → Act → List ℕ → List ℕ
replied_by index (At (Admitted stream true)) so_far = if stream == index then [] else so_far
replied_by index (By (Connection stream) call) so_far = if stream == index then so_far ++ frames_of call else so_far
replied_by index act so_far = so_far

-- the same after several
abbrev pub replied_on : ℕ → List ℕ → List Act → List ℕ
replied_on index so_far [] = so_far
replied_on index so_far (act ∷ acts) = replied_on index (replied_by index act so_far) acts

-- what was read on the connection of an index since it was admitted, after one more act
abbrev pub read_by : ℕ → Act → List ℕ → List ℕ
read_by index (At (Admitted stream true)) so_far = if stream == index then [] else so_far
read_by index (At (Read stream (Some bytes))) so_far = if stream == index then so_far ++ bytes else so_far
read_by index act so_far = so_far

-- the same after several
abbrev pub read_on : ℕ → List ℕ → List Act → List ℕ
read_on index so_far [] = so_far
read_on index so_far (act ∷ acts) = read_on index (read_by index act so_far) acts

-- the requests that a call replies to
abbrev pub requests_of : HandlerEvent → List RequestContent
requests_of (Handled requests (Some ds)) = requests
requests_of (Transferred request is_busy (Some (Some messages))) = request ∷ []
requests_of call = []

-- the requests that were handled on the connection of an index since it was admitted, after one more act
abbrev pub handled_by : ℕ → Act → List RequestContent → List RequestContent
handled_by index (At (Admitted stream true)) so_far = if stream == index then [] else so_far
handled_by index (By (Connection stream) call) so_far = if stream == index then so_far ++ requests_of call else so_far
handled_by index act so_far = so_far

-- the same after several
abbrev pub handled_on : ℕ → List RequestContent → List Act → List RequestContent
handled_on index so_far [] = so_far
handled_on index so_far (act ∷ acts) = handled_on index (handled_by index act so_far) acts

-- requests have the messages of the first frames of bytes, in order
abbrev pub HaveArrived : List ℕ → List RequestContent → Type 0
HaveArrived bytes [] = ⊤
HaveArrived bytes (r ∷ rs) = (first_message bytes ≡ Some r.bytes) × HaveArrived (behind_frame bytes) rs

-- bytes are the first of others
abbrev pub IsFront : List ℕ → List ℕ → Type 0
IsFront bytes all = (rest : List ℕ) × (all ≡ bytes ++ rest)
