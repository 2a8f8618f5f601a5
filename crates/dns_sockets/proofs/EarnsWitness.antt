-- A turn in which two datagrams arrive, are handled together, and have their replies, one of them twice; then a third reply is not paid.
use Rattle.std.proofs.Common.{◌≡◌, ℕ, Bool, true, false, List, [], ◌∷◌, ◌++◌, map, Some, None, arith, inl, inr, refl, subst, sym}
use Rattle.std.specs.Global.{Vec}
use Rattle.std.specs.declared.net.socket_addr.SocketAddr.{SocketAddr}
use Rattle.dns_faults.specs.declared.delivery.Delivery.{Delivery}
use Rattle.dns_sockets.specs.Datagrams.{Gathers, Handle, HandlesAt, IsTurn, Receive, TakesIf, are_handled, content_at, datagram_content}
use Rattle.dns_sockets.specs.Handler.{Handled}
use Rattle.dns_sockets.specs.Ledger.{AllPaid, Earns, replies as counted, requests}
use Rattle.dns_sockets.specs.Notices.{is_response}
use Rattle.dns_sockets.specs.Sent.{IsGiven}
use Rattle.dns_sockets.specs.Sent.IsGiven.{as_notice, as_reply}
use Rattle.dns_sockets.specs.Trace.{Act, At, By, Socket}
use Rattle.dns_sockets.specs.World.{Clocked, Received, Sent}
use Rattle.dns_sockets.specs.declared.datagrams.Datagram.{Datagram}
use Rattle.dns_sockets.specs.declared.datagrams.WaitingReply.{WaitingReply}
use Rattle.dns_sockets.specs.schedule.Schedule.{ScheduleContent}
use Rattle.dns_sockets.proofs.LedgerLaws.{earns_unclocked, turn_earns}
use Rattle.dns_sockets.proofs.SentLaws.{given}

module _ (first second : SocketAddr) (question reply other : Vec ℕ) (asks : is_response question.items ≡ false) where
  abbrev pub none_waits : ScheduleContent WaitingReply
  none_waits = record { items = []; capacity = 4096; pushed = 0 }

  abbrev pub from : SocketAddr → Datagram
  from peer = record { peer = peer; bytes = question }

  abbrev pub once : Delivery
  once = record { reply = Some reply; copies = 1; after_milliseconds = 0; close_after = None }

  abbrev pub twice : Delivery
  twice = record { reply = Some other; copies = 2; after_milliseconds = 0; close_after = None }

  abbrev pub arrived : SocketAddr → List Act
  arrived peer = At (Received 0 question.items peer) ∷ []

  abbrev pub replies : List Act
  replies =
      By (Socket 0) (Handled (map (content_at 5) (from first ∷ from second ∷ [])) (Some (once ∷ twice ∷ [])))
      ∷ At (Sent 0 reply.items first true) ∷ At (Sent 0 other.items second true) ∷ At (Sent 0 other.items second false) ∷ []

  abbrev pub acts : List Act
  acts = arrived first ++ arrived second ++ replies

  -- the same with the reading of the clock that shows the moment of the requests
  abbrev pub clocked : List Act
  clocked = arrived first ++ arrived second ++ At (Clocked (Some 5)) ∷ replies

  handled : HandlesAt (Some 5) 0 (from first ∷ from second ∷ []) none_waits replies none_waits
  handled = (
    Some (once ∷ twice ∷ []),
    are_handled 5 (from first ∷ from second ∷ []) (Some (once ∷ twice ∷ [])) ∷ [],
    Sent 0 reply.items first true ∷ Sent 0 other.items second true ∷ Sent 0 other.items second false ∷ [],
    (
      refl,
      (
        inl refl,
        (
          Sent 0 reply.items first true ∷ [],
          Sent 0 other.items second true ∷ Sent 0 other.items second false ∷ [],
          none_waits,
          (
            refl,
            (
              ((refl, ((refl, (refl, refl)), tt)), refl),
              (
                Sent 0 other.items second true ∷ Sent 0 other.items second false ∷ [],
                [],
                none_waits,
                (refl, (((refl, ((refl, (refl, refl)), ((refl, (refl, refl)), tt))), refl), (refl, refl))),
              ),
            ),
          ),
        ),
      ),
    ),
  )

  gathers : (peer : SocketAddr) (old new : List Datagram) → map datagram_content new ≡ map datagram_content old ++ (peer, question.items) ∷ [] → Gathers question.items peer old [] [] new
  gathers peer old new added = (Some false, (subst (λ (b : Bool). TakesIf b question.items peer [] [] (Some false)) (sym asks) (refl, (refl, refl)), inr added))

  pub turn : IsTurn 0 [] none_waits [] none_waits clocked
  turn = (
    Receive (arrived first) ∷ Receive (arrived second) ∷ Handle (At (Clocked (Some 5)) ∷ replies) ∷ [],
    (
      from first ∷ [],
      arrived second ++ At (Clocked (Some 5)) ∷ replies,
      (
        refl,
        (
          (Received 0 question.items first, [], [], (refl, (refl, gathers first [] (from first ∷ []) refl))),
          (
            from first ∷ from second ∷ [],
            At (Clocked (Some 5)) ∷ replies,
            (
              refl,
              (
                (Received 0 question.items second, [], [], (refl, (refl, gathers second (from first ∷ []) (from first ∷ from second ∷ []) refl))),
                (none_waits, [], (refl, (inr (Some 5, replies, (refl, handled)), (refl, (refl, refl))))),
              ),
            ),
          ),
        ),
      ),
    ),
  )

  -- the premise of the law is met
  pub earned : Earns [] [] acts
  earned = earns_unclocked [] [] (Some 5) (arrived first ++ arrived second) replies (turn_earns 0 none_waits none_waits [] clocked turn)

  -- with one for each datagram, a reply more is not paid: its conclusion says something
  pub one_more_is_not_paid : AllPaid (counted (record { of = λ socket peer bytes. 1; most = λ peer bytes. 1; bounded = λ socket peer bytes. omega arith })) 0 (acts ++ At (Sent 0 other.items second true) ∷ At (Sent 0 other.items second true) ∷ []) → ⊥
  one_more_is_not_paid paid = let last = paid.1.1.1.1.1.1.1.0 in omega (arith, last)

  -- and a request more was not there
  pub one_more_had_not_arrived : AllPaid (requests (λ socket peer bytes. 1)) 0 (acts ++ By (Socket 0) (Handled (map (content_at 5) (from first ∷ [])) None) ∷ []) → ⊥
  one_more_had_not_arrived paid = let last = paid.1.1.1.1.1.1.0 in omega (arith, last)

  -- what is sent was given
  pub a_reply_is_given : IsGiven 0 reply.items first (arrived first ++ arrived second ++ By (Socket 0) (Handled (map (content_at 5) (from first ∷ from second ∷ [])) (Some (once ∷ twice ∷ []))) ∷ [])
  a_reply_is_given =
      given [] (arrived first ++ arrived second ++ By (Socket 0) (Handled (map (content_at 5) (from first ∷ from second ∷ [])) (Some (once ∷ twice ∷ []))) ∷ [])
      (At (Sent 0 other.items second true) ∷ At (Sent 0 other.items second false) ∷ []) 0 reply.items first earned

-- and nothing is given by nothing
no_act : (before : List Act) (act : Act) (rest : List Act) → [] ≡ before ++ act ∷ rest → ⊥
no_act [] act rest none = cc none
no_act (x ∷ before) act rest none = cc none

pub nothing_is_given : (socket : ℕ) (bytes : List ℕ) (peer : SocketAddr) → IsGiven socket bytes peer [] → ⊥
nothing_is_given socket bytes peer (as_reply request delivery reply handled same_peer same_reply same_bytes) =
    no_act handled.before (By (Socket socket) (Handled handled.requests (Some handled.deliveries))) handled.rest handled.acts_are
nothing_is_given socket bytes peer (as_notice now contains) = absurd (omega (arith, contains.1))
