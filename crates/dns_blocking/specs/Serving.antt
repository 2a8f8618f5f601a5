-- What serving does to what replies. What sockets carry is not known.
use Rattle.std.specs.Prelude.{◌≡◌, ◌<◌, ◌⊎◌, List, ℕ, Option}
use Rattle.dns_zone.specs.declared.transport.Transport.{Transport}

-- whether a request over a transport has a reply, or none, in a state of a responder, and leaves it in another
abbrev pub Replies : Type 0 → Type 1
Replies S = S → Transport → List ℕ → Option (List ℕ) → S → Type 0

-- A responder served a message that arrived over a transport, or none.
abbrev pub MayServe : {S : Type 0} → Replies S → Transport → S → S → Type 0
MayServe replies transport old new = (new ≡ old) ⊎ ((bytes : List ℕ) × ((reply : Option (List ℕ)) × replies old transport bytes reply new))

-- A responder served at most a number of messages, one after another. Nothing else changed it.
pub data ServesAtMost {S : Type 0} (replies : Replies S) (transport : Transport) (old : S) : ℕ → S → Type 0 where
  nothing : (most : ℕ) → ServesAtMost replies transport old most old
  one_more : (n most : ℕ) (now new : S) → n < most → ServesAtMost replies transport old n now → MayServe replies transport now new
      → ServesAtMost replies transport old most new
