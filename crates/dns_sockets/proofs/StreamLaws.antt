-- Messages that arrived over a stream, one after another.
use Rattle.std.proofs.Common.{◌≡◌, ◌∙◌, ◌+◌, ◌<◌, ◌≤◌, ℕ, zero, suc, List, [], ◌∷◌, ◌++◌, length, map, take, get_or, Bool, Option, refl, subst, sym, ap, arith}
use Rattle.std.specs.Global.{Vec}
use Rattle.std.specs.declared.net.socket_addr.SocketAddr.{SocketAddr}
use Rattle.std.proofs.lemmas.List.{map-append, take_all, take_more}
use Rattle.dns_sockets.specs.Events.{Performs}
use Rattle.dns_sockets.specs.Handler.{HandlerEvent, RequestContent, Transferred, message_bytes, request_content}
use Rattle.dns_sockets.specs.Stream.{AreAnswered, AreHandled, IsHandledUnless, stream_request}
use Rattle.dns_sockets.specs.declared.handler.Request.{Request}

-- a message as a request
abbrev pub message_request : SocketAddr → ℕ → Vec ℕ → RequestContent
message_request peer now message = stream_request peer now (message_bytes message)

pub messages_are : (peer : SocketAddr) (now : ℕ) (messages : List (Vec ℕ)) → map (message_request peer now) messages ≡ map (stream_request peer now) (map message_bytes messages)
messages_are peer now [] = refl
messages_are peer now (m ∷ ms) = ap (λ (l : List RequestContent). message_request peer now m ∷ l) (messages_are peer now ms)

-- a single request
pub single : (requests : List Request) (default : Request) → 1 ≤ length requests → length requests < 2 → map request_content requests ≡ request_content (get_or requests 0 default) ∷ []
single [] default some few = absurd (omega (arith, some))
single (r ∷ []) default some few = refl
single (r ∷ s ∷ more) default some few = absurd (omega (arith, few))

-- a request is answered by a reply of several messages, or handled
pub one_answered : {H : Type 0} (steps : H → HandlerEvent → H → Type 0) (h h1 h2 : H) (r : RequestContent) (is_busy : Bool) (messages : Option (Option (List (List ℕ)))) → steps h (Transferred r is_busy messages) h1
    → Performs steps h1 h2 (IsHandledUnless r messages) → Performs steps h h2 (AreAnswered is_busy (r ∷ []))
one_answered steps h h1 h2 r is_busy messages step rest = record {
  events = Transferred r is_busy messages ∷ rest.events;
  led = (h1, (step, rest.led));
  holds = (messages, rest.events, (refl, rest.holds));
}

-- several requests, or none, are handled together
pub together : (is_busy : Bool) (requests : List Request) (calls : List HandlerEvent) → (length requests < 1 → AreHandled (map request_content requests) calls → AreAnswered is_busy (map request_content requests) calls)
    × (2 ≤ length requests → AreHandled (map request_content requests) calls → AreAnswered is_busy (map request_content requests) calls)
together is_busy [] calls = (λ few handled. handled, λ many handled. absurd (omega (arith, many)))
together is_busy (r ∷ []) calls = (λ few handled. absurd (omega (arith, few)), λ many handled. absurd (omega (arith, many)))
together is_busy (r ∷ s ∷ more) calls = (λ few handled. absurd (omega (arith, few)), λ many handled. handled)
