-- Datagrams without a request, one after another.
use Rattle.std.proofs.Common.{◌≡◌, ◌∙◌, ◌+◌, ◌-◌, ◌<◌, ◌≤◌, ℕ, zero, suc, Bool, true, false, List, [], ◌∷◌, ◌++◌, length, map, Option, Some, None, inl, inr, refl, sym, ap, subst, arith}
use Rattle.std.proofs.lemmas.List.{append-nil, append_assoc}
use Rattle.std.specs.declared.net.socket_addr.SocketAddr.{SocketAddr}
use Rattle.dns_sockets.specs.Handler.{NoticeContent, Noticed}
use Rattle.dns_sockets.specs.Notices.{AreNotices, AreTries, IsNotice}
use Rattle.dns_sockets.specs.Trace.{Act, At, By, Nowhere}
use Rattle.dns_sockets.specs.World.{WorldEvent, Sent}

-- ---- one datagram at one socket after another

-- what was tried, before what is still tried, are all tries
abbrev pub Tries : ℕ → ℕ → List ℕ → SocketAddr → List WorldEvent → Type 0
Tries socket sockets bytes peer done = (rest : List WorldEvent) → AreTries socket (sockets - socket) bytes peer rest → AreTries 0 sockets bytes peer (done ++ rest)

next_try : (socket left n : ℕ) (bytes : List ℕ) (peer : SocketAddr) (rest : List WorldEvent) → left ≡ suc n → AreTries (socket + 1) n bytes peer rest → AreTries socket left bytes peer (Sent socket bytes peer false ∷ rest)
next_try socket left n bytes peer rest is more = subst (λ (m : ℕ). AreTries socket m bytes peer (Sent socket bytes peer false ∷ rest)) (sym is) (inr (rest, (refl, more)))

last_try : (socket left n : ℕ) (bytes : List ℕ) (peer : SocketAddr) → left ≡ suc n → AreTries socket left bytes peer (Sent socket bytes peer true ∷ [])
last_try socket left n bytes peer is = subst (λ (m : ℕ). AreTries socket m bytes peer (Sent socket bytes peer true ∷ [])) (sym is) (inl refl)

no_try : (socket left : ℕ) (bytes : List ℕ) (peer : SocketAddr) → left ≡ 0 → AreTries socket left bytes peer []
no_try socket left bytes peer is = subst (λ (m : ℕ). AreTries socket m bytes peer []) (sym is) refl

-- one more socket did not take it
pub tries_more : (socket sockets : ℕ) (bytes sent : List ℕ) (peer : SocketAddr) (done : List WorldEvent) → socket < sockets → sent ≡ bytes → Tries socket sockets bytes peer done → Tries (socket + 1) sockets bytes peer (done ++ Sent socket sent peer false ∷ [])
tries_more socket sockets bytes sent peer done below is tries rest more =
    subst (λ (l : List WorldEvent). AreTries 0 sockets bytes peer l) (sym (append_assoc done (Sent socket sent peer false ∷ []) rest))
    (tries (Sent socket sent peer false ∷ rest) (subst (λ (b : List ℕ). AreTries socket (sockets - socket) bytes peer (Sent socket b peer false ∷ rest)) (sym is)
    (next_try socket (sockets - socket) (sockets - (socket + 1)) bytes peer rest (omega (arith, below)) more)))

-- a socket took it
pub tries_end : (socket sockets : ℕ) (bytes sent : List ℕ) (peer : SocketAddr) (done : List WorldEvent) → socket < sockets → sent ≡ bytes → Tries socket sockets bytes peer done → AreTries 0 sockets bytes peer (done ++ Sent socket sent peer true ∷ [])
tries_end socket sockets bytes sent peer done below is tries =
    tries (Sent socket sent peer true ∷ []) (subst (λ (b : List ℕ). AreTries socket (sockets - socket) bytes peer (Sent socket b peer true ∷ [])) (sym is)
    (last_try socket (sockets - socket) (sockets - (socket + 1)) bytes peer (omega (arith, below))))

-- no socket is left
pub tries_whole : (socket sockets : ℕ) (bytes : List ℕ) (peer : SocketAddr) (done : List WorldEvent) → sockets ≤ socket → Tries socket sockets bytes peer done → AreTries 0 sockets bytes peer done
tries_whole socket sockets bytes peer done all tries =
    subst (λ (l : List WorldEvent). AreTries 0 sockets bytes peer l) (append-nil done) (tries [] (no_try socket (sockets - socket) bytes peer (omega (arith, all))))

-- ---- one datagram after another

-- what was sent, before what is still sent, is all that is sent
abbrev pub Notices : ℕ → ℕ → ℕ → ℕ → List Act → Type 0
Notices count most sockets now done = (rest : List Act) → AreNotices (most - count) sockets now rest → AreNotices most sockets now (done ++ rest)

next_notice : (left n sockets now : ℕ) (notice : NoticeContent) (first rest : List Act) → left ≡ suc n → IsNotice sockets now notice first → AreNotices n sockets now rest → AreNotices left sockets now (first ++ rest)
next_notice left n sockets now notice first rest is one more = subst (λ (m : ℕ). AreNotices m sockets now (first ++ rest)) (sym is) (inr (notice, first, rest, (refl, (one, more))))

-- one more was sent
pub notices_more : (count most sockets now : ℕ) (notice : NoticeContent) (done first : List Act) → count < most → IsNotice sockets now notice first → Notices count most sockets now done → Notices (count + 1) most sockets now (done ++ first)
notices_more count most sockets now notice done first below one notices rest more =
    subst (λ (l : List Act). AreNotices most sockets now l) (sym (append_assoc done first rest))
    (notices (first ++ rest) (next_notice (most - count) (most - (count + 1)) sockets now notice first rest (omega (arith, below)) one more))

no_notice : (left n sockets now : ℕ) → left ≡ suc n → AreNotices left sockets now (By Nowhere (Noticed now None) ∷ [])
no_notice left n sockets now is = subst (λ (m : ℕ). AreNotices m sockets now (By Nowhere (Noticed now None) ∷ [])) (sym is) (inl refl)

-- none is due
pub notices_end : (count most sockets now : ℕ) (done : List Act) → count < most → Notices count most sockets now done → AreNotices most sockets now (done ++ By Nowhere (Noticed now None) ∷ [])
notices_end count most sockets now done below notices =
    notices (By Nowhere (Noticed now None) ∷ []) (no_notice (most - count) (most - (count + 1)) sockets now (omega (arith, below)))

none_left : (left sockets now : ℕ) → left ≡ 0 → AreNotices left sockets now []
none_left left sockets now is = subst (λ (m : ℕ). AreNotices m sockets now []) (sym is) refl

-- as many were sent as may be
pub notices_whole : (count most sockets now : ℕ) (done : List Act) → most ≤ count → Notices count most sockets now done → AreNotices most sockets now done
notices_whole count most sockets now done all notices =
    subst (λ (l : List Act). AreNotices most sockets now l) (append-nil done) (notices [] (none_left (most - count) sockets now (omega (arith, all))))
