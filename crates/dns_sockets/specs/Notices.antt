-- Datagrams without a request, and the responses to them.
use Rattle.std.specs.Prelude.{◌≡◌, ◌⊎◌, ◌+◌, nat_lt, not, map, min, Bool, true, false, List, [], ◌∷◌, ◌++◌, ℕ, zero, suc, Option, Some, None}
use Rattle.std.specs.declared.net.socket_addr.SocketAddr.{SocketAddr}
use Rattle.dns_sockets.specs.Handler.{NoticeContent, Noticed}
use Rattle.dns_sockets.specs.Trace.{Act, At, By, Nowhere}
use Rattle.dns_sockets.specs.World.{WorldEvent, Sent}

-- whether bytes begin as a response does: QR, the first bit of the third byte, is set (RFC 1035 section 4.1.1)
abbrev pub is_response : List ℕ → Bool
is_response (a ∷ b ∷ flags ∷ more) = not (nat_lt flags 128)
is_response bytes = false

-- the earlier of a moment and another, if there is one
abbrev pub sooner : ℕ → Option ℕ → ℕ
sooner moment None = moment
sooner moment (Some other) = min moment other

-- a datagram is tried at one after another of so many sockets, from one of them on, until the system takes it
abbrev pub AreTries : ℕ → ℕ → List ℕ → SocketAddr → List WorldEvent → Type 0
AreTries socket zero bytes peer es = es ≡ []
AreTries socket (suc left) bytes peer es =
    (es ≡ Sent socket bytes peer true ∷ [])
    ⊎ ((rest : List WorldEvent) × ((es ≡ Sent socket bytes peer false ∷ rest) × AreTries (socket + 1) left bytes peer rest))

-- a datagram is due at a moment, and is sent from one of so many sockets
abbrev pub IsNotice : ℕ → ℕ → NoticeContent → List Act → Type 0
IsNotice sockets now notice acts =
    (sent : List WorldEvent) × ((acts ≡ By Nowhere (Noticed now (Some notice)) ∷ map At sent) × AreTries 0 sockets notice.bytes notice.peer sent)

-- at most so many datagrams that are due at a moment are sent
abbrev pub AreNotices : ℕ → ℕ → ℕ → List Act → Type 0
AreNotices zero sockets now acts = acts ≡ []
AreNotices (suc most) sockets now acts =
    (acts ≡ By Nowhere (Noticed now None) ∷ [])
    ⊎ ((notice : NoticeContent) × (first : List Act) × (rest : List Act)
    × ((acts ≡ first ++ rest) × (IsNotice sockets now notice first × AreNotices most sockets now rest)))
