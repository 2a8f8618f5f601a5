-- What was written on a connection is the front of the replies to its requests.
use Rattle.std.proofs.Common.{◌≡◌, ◌∙◌, ◌==◌, Bool, true, false, ℕ, List, [], ◌∷◌, ◌++◌, length, take, drop, append-nil, append_assoc, Option, Some, None, option_map, refl, sym, ap, subst, arith}
use Rattle.std.specs.Prelude.{IsSome, IsSomeAnd, ⊤, if◌then◌else◌}
use Rattle.std.specs.declared.net.socket_addr.SocketAddr.{SocketAddr}
use Rattle.std.proofs.lemmas.Bool.Decides.{nat_tests}
use Rattle.std.proofs.lemmas.List.{take-append-drop}
use Rattle.dns_sockets.specs.Connections.{Connected, Follows, IsActAllowed, IsCallAllowed, IsWriteAllowed, Place, act_after, admitted, call_after, changed, closed, connected, read_after, written_after}
use Rattle.dns_sockets.specs.Handler.{HandlerEvent, Handled, Noticed, Took, Transferred}
use Rattle.dns_sockets.specs.StreamHistory.{IsFront, frames_of, replied_by, replied_on, written_by, written_on}
use Rattle.dns_sockets.specs.Trace.{Act, At, By, Connection, Nowhere, Socket}
use Rattle.dns_sockets.specs.World.{WorldEvent, Accepted, Admitted, Clocked, Closed, Read, Received, Sent, Unreceived, Waited, Woken, Written}

-- what is to be written is what is left of the replies
abbrev AreLeft : Option Connected → List ℕ → List ℕ → Type 0
AreLeft None written replied = IsFront written replied
AreLeft (Some c) written replied = replied ≡ written ++ c.unwritten

left_front : (connection : Option Connected) (written replied : List ℕ) → AreLeft connection written replied → IsFront written replied
left_front None written replied left = left
left_front (Some c) written replied left = (c.unwritten, left)

-- ---- one act

pub same_if : (stream index : ℕ) → (stream == index) ≡ true → stream ≡ index
same_if stream index e = grind (arith, nat_tests)

after_write : (b : Bool) (bytes : List ℕ) (p : Place) (written replied : List ℕ) → (b ≡ true → IsSomeAnd p.connection (λ c. IsWriteAllowed c bytes)) → AreLeft p.connection written replied
    → AreLeft (changed b (written_after bytes) p).connection (if b then written ++ bytes else written) replied
after_write false bytes p written replied allowed left = left
after_write true bytes p written replied allowed left = by p.connection (allowed refl) left
  where
    by : (connection : Option Connected) → IsSomeAnd connection (λ c. IsWriteAllowed c bytes) → AreLeft connection written replied → AreLeft (option_map (written_after bytes) connection) (written ++ bytes) replied
    by None may l = absurd may
    by (Some c) may l =
        l ∙ ap (λ (rest : List ℕ). written ++ rest) (sym (take-append-drop (length bytes) c.unwritten) ∙ ap (λ (first : List ℕ). first ++ drop (length bytes) c.unwritten) (sym may))
        ∙ sym (append_assoc written bytes (drop (length bytes) c.unwritten))

called_unwritten : (call : HandlerEvent) (c : Connected) → (call_after call c).unwritten ≡ c.unwritten ++ frames_of call
called_unwritten (Handled requests (Some ds)) c = refl
called_unwritten (Handled requests None) c = sym (append-nil c.unwritten)
called_unwritten (Transferred request is_busy None) c = sym (append-nil c.unwritten)
called_unwritten (Transferred request is_busy (Some None)) c = sym (append-nil c.unwritten)
called_unwritten (Transferred request is_busy (Some (Some messages))) c = refl
called_unwritten (Took request is_taken) c = sym (append-nil c.unwritten)
called_unwritten (Noticed now notice) c = sym (append-nil c.unwritten)

after_call : (b : Bool) (call : HandlerEvent) (p : Place) (written replied : List ℕ) → (b ≡ true → IsSomeAnd p.connection (λ c. ⊤)) → AreLeft p.connection written replied
    → AreLeft (changed b (call_after call) p).connection written (if b then replied ++ frames_of call else replied)
after_call false call p written replied there left = left
after_call true call p written replied there left = by p.connection (there refl) left
  where
    by : (connection : Option Connected) → IsSomeAnd connection (λ c. ⊤) → AreLeft connection written replied → AreLeft (option_map (call_after call) connection) written (replied ++ frames_of call)
    by None some l = absurd some
    by (Some c) some l =
        ap (λ (first : List ℕ). first ++ frames_of call) l ∙ append_assoc written c.unwritten (frames_of call) ∙ ap (λ (rest : List ℕ). written ++ rest) (sym (called_unwritten call c))

after_read : (b : Bool) (bytes : Option (List ℕ)) (p : Place) (written replied : List ℕ) → AreLeft p.connection written replied → AreLeft (changed b (read_after bytes) p).connection written replied
after_read false bytes p written replied left = left
after_read true bytes p written replied left = by bytes p.connection left
  where
    by : (bytes : Option (List ℕ)) (connection : Option Connected) → AreLeft connection written replied → AreLeft (option_map (read_after bytes) connection) written replied
    by bytes None l = l
    by None (Some c) l = l
    by (Some read) (Some c) l = l

after_close : (b : Bool) (connection : Option Connected) (written replied : List ℕ) → AreLeft connection written replied → AreLeft (closed b connection) written replied
after_close true connection written replied left = left_front connection written replied left
after_close false connection written replied left = left

after_admission : (b is_admitted : Bool) (p : Place) (written replied : List ℕ) → IsSome p.accepted → AreLeft p.connection written replied
    → AreLeft (admitted b is_admitted p) (if is_admitted then (if b then [] else written) else written) (if is_admitted then (if b then [] else replied) else replied)
after_admission true true p written replied accepted left = by p.accepted accepted
  where
    by : (peer : Option SocketAddr) → IsSome peer → AreLeft (option_map connected peer) [] []
    by None some = absurd (cc)
    by (Some peer) some = refl
after_admission true false p written replied accepted left = left
after_admission false true p written replied accepted left = left
after_admission false false p written replied accepted left = left

pub there : (P : Connected → Type 0) (connection : Option Connected) → IsSomeAnd connection P → IsSomeAnd connection (λ c. ⊤)
there P None some = absurd some
there P (Some c) some = tt

after_act : (index : ℕ) (act : Act) (p : Place) (written replied : List ℕ) → IsActAllowed index p act → AreLeft p.connection written replied
    → AreLeft (act_after index act p).connection (written_by index act written) (replied_by index act replied)
after_act index (By (Connection stream) call) p written replied allowed left = after_call (stream == index) call p written replied (λ e. there (λ c. IsCallAllowed c call) p.connection (allowed (same_if stream index e))) left
after_act index (By (Socket socket) call) p written replied allowed left = left
after_act index (By Nowhere call) p written replied allowed left = left
after_act index (At (Accepted listener peer)) p written replied allowed left = left
after_act index (At (Admitted stream true)) p written replied allowed left = after_admission (stream == index) true p written replied allowed.0 left
after_act index (At (Admitted stream false)) p written replied allowed left = after_admission (stream == index) false p written replied allowed.0 left
after_act index (At (Closed stream)) p written replied allowed left = after_close (stream == index) p.connection written replied left
after_act index (At (Read stream bytes)) p written replied allowed left = after_read (stream == index) bytes p written replied left
after_act index (At (Written stream bytes)) p written replied allowed left = after_write (stream == index) bytes p written replied (λ e. allowed (same_if stream index e)) left
after_act index (At (Received socket bytes peer)) p written replied allowed left = left
after_act index (At (Unreceived socket)) p written replied allowed left = left
after_act index (At (Sent socket bytes peer taken)) p written replied allowed left = left
after_act index (At (Clocked moment)) p written replied allowed left = left
after_act index (At (Waited most)) p written replied allowed left = left
after_act index (At (Woken wake)) p written replied allowed left = left

-- ---- all acts

pub written_is_front : (index : ℕ) (old new : Place) (acts : List Act) (written replied : List ℕ) → AreLeft old.connection written replied → Follows index old acts new
    → IsFront (written_on index written acts) (replied_on index replied acts)
written_is_front index old new [] written replied left follows = left_front old.connection written replied left
written_is_front index old new (act ∷ acts) written replied left follows =
    written_is_front index (act_after index act old) new acts (written_by index act written) (replied_by index act replied) (after_act index act old written replied follows.0 left) follows.1
