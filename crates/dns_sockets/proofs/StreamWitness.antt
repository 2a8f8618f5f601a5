-- A connection on which two requests arrive at once, and have their replies one after another; another order is refused.
use Rattle.std.proofs.Common.{◌≡◌, ◌∙◌, ◌==◌, ◌⊎◌, inl, inr, ℕ, Bool, true, false, List, [], ◌∷◌, ◌++◌, Option, Some, None, arith, refl, subst, sym}
use Rattle.std.specs.declared.net.socket_addr.SocketAddr.{SocketAddr}
use Rattle.dns_sockets.specs.Connections.{AreFollowed, Connected, Follows, Place, admitted, closed}
use Rattle.dns_sockets.specs.Handler.{RequestContent, Transferred}
use Rattle.dns_sockets.specs.Stream.{stream_request}
use Rattle.dns_sockets.specs.Trace.{Act, At, By, Connection}
use Rattle.dns_sockets.specs.World.{Accepted, Admitted, Closed, Read, Written}
use Rattle.dns_sockets.proofs.ConnectionLaws.{elsewhere, other_index, same_or_other}
use Rattle.dns_sockets.proofs.StreamStepLaws.{follows_both}

module _ (peer : SocketAddr) where
  abbrev first : RequestContent
  first = stream_request peer 5 (5 ∷ 6 ∷ [])

  abbrev second : RequestContent
  second = stream_request peer 5 (4 ∷ [])

  abbrev accepts : List Act
  accepts = At (Accepted 0 (Some peer)) ∷ At (Admitted 0 true) ∷ []

  -- the frames of both requests arrive together
  abbrev reads : List Act
  reads = At (Read 0 (Some (0 ∷ 2 ∷ 5 ∷ 6 ∷ 0 ∷ 1 ∷ 4 ∷ []))) ∷ []

  -- the first has a reply of two messages, the second one of one
  abbrev handles_first : Act
  handles_first = By (Connection 0) (Transferred first false (Some (Some ((9 ∷ []) ∷ (8 ∷ 7 ∷ []) ∷ []))))

  abbrev handles_second : Act
  handles_second = By (Connection 0) (Transferred second false (Some (Some ((3 ∷ []) ∷ []))))

  abbrev answers : List Act
  answers =
      handles_first ∷ At (Written 0 (0 ∷ 1 ∷ 9 ∷ 0 ∷ [])) ∷ handles_second
      ∷ At (Written 0 (2 ∷ 8 ∷ 7 ∷ [])) ∷ At (Written 0 (0 ∷ 1 ∷ 3 ∷ [])) ∷ []

  abbrev acts : List Act
  acts = accepts ++ (reads ++ answers) ++ At (Closed 0) ∷ []

  here : (accepted : Option SocketAddr) → Follows 0 (record { accepted = accepted; connection = None }) acts (record { accepted = None; connection = None })
  here accepted = (
    tt,
    (
      (refl, λ same. refl),
      (
        (λ same. (refl, omega arith)),
        (
          (λ same. (refl, (omega arith, (refl, (refl, (refl, tt)))))),
          (
            (λ same. refl),
            (
              (λ same. (refl, (omega arith, (refl, (refl, (refl, tt)))))),
              ((λ same. refl), ((λ same. refl), (tt, refl))),
            ),
          ),
        ),
      ),
    ),
  )

  elsewhere_none : (index : ℕ) (accepted : Option SocketAddr) → (0 ≡ index → ⊥) → Follows index (record { accepted = accepted; connection = None }) acts (record { accepted = None; connection = None })
  elsewhere_none index accepted differ =
      follows_both index (record { accepted = accepted; connection = None }) none none accepts ((reads ++ answers) ++ At (Closed 0) ∷ [])
      (tt, ((refl, λ same. refl), λ j. record { accepted = None; connection = admitted (other_index 0 index differ j) true (record { accepted = Some peer; connection = None }) }))
      (follows_both index none none none (reads ++ answers) (At (Closed 0) ∷ []) (elsewhere index 0 none (reads ++ answers) differ (refl, (refl, (refl, (refl, (refl, (refl, tt)))))))
      (tt, λ j. record { accepted = None; connection = closed (other_index 0 index differ j) None }))
    where
      none : Place
      none = record { accepted = None; connection = None }

  -- the premise of the law is met
  pub in_order : AreFollowed [] [] acts
  in_order = λ index accepted. (None, by index accepted (same_or_other 0 index))
    where
      by : (index : ℕ) (accepted : Option SocketAddr) → (0 ≡ index) ⊎ (0 ≡ index → ⊥) → Follows index (record { accepted = accepted; connection = None }) acts (record { accepted = None; connection = None })
      by index accepted (inl same) = subst (λ (i : ℕ). Follows i (record { accepted = accepted; connection = None }) acts (record { accepted = None; connection = None })) same (here accepted)
      by index accepted (inr differ) = elsewhere_none index accepted differ

  -- the second message is not written before the first: the premise says something
  pub another_order_is_refused : AreFollowed [] [] (accepts ++ reads ++ handles_first ∷ At (Written 0 (0 ∷ 2 ∷ 8 ∷ 7 ∷ [])) ∷ At (Closed 0) ∷ []) → ⊥
  another_order_is_refused follows = let bytes = (follows 0 None).1.1.1.1.1.0 refl in absurd (cc)

  -- and the second request is not handled before the first
  pub another_request_is_refused : AreFollowed [] [] (accepts ++ reads ++ handles_second ∷ At (Closed 0) ∷ []) → ⊥
  another_request_is_refused follows = let request = ((follows 0 None).1.1.1.1.0 refl).1.1.0 in absurd (cc)
