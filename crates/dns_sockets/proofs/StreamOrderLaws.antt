-- The requests that are handled on a connection are the first that arrived on it.
use Rattle.std.proofs.Common.{◌≡◌, ◌∙◌, ◌+◌, ◌*◌, ◌-◌, ◌≤◌, ◌==◌, Bool, true, false, cond, ℕ, List, [], ◌∷◌, ◌++◌, length, take, drop, append-nil, append_assoc, Option, Some, None, option_map, refl, sym, ap, subst, arith}
use Rattle.std.specs.Prelude.{IsSome, IsSomeAnd, ⊤, if◌then◌else◌, nat_le}
use Rattle.std.specs.declared.net.socket_addr.SocketAddr.{SocketAddr}
use Rattle.std.proofs.lemmas.Bool.Decides.{nat_tests}
use Rattle.std.proofs.lemmas.List.{drop-append-le, length-append, take-append-le}
use Rattle.dns_message_bytes.specs.frames.Frame.{frame_len}
use Rattle.dns_server.specs.Connection.{behind_frame, first_message}
use Rattle.dns_sockets.specs.Connections.{AreNext, Connected, Follows, IsActAllowed, IsCallAllowed, IsReadAllowed, MayHandle, Place, act_after, admitted, behind, call_after, changed, closed, connected, read_after, written_after}
use Rattle.dns_sockets.specs.Handler.{HandlerEvent, RequestContent, Handled, Noticed, Took, Transferred}
use Rattle.dns_sockets.specs.StreamHistory.{HaveArrived, handled_by, handled_on, read_by, read_on, requests_of}
use Rattle.dns_sockets.specs.Trace.{Act, At, By, Connection, Nowhere, Socket}
use Rattle.dns_sockets.specs.World.{WorldEvent, Accepted, Admitted, Clocked, Closed, Read, Received, Sent, Unreceived, Waited, Woken, Written}
use Rattle.dns_sockets.proofs.StreamHistoryLaws.{same_if, there}

-- ---- frames

-- a frame that is there
whole_frame : (bytes message : List ℕ) → first_message bytes ≡ Some message → frame_len bytes ≤ length bytes
whole_frame bytes message e = by (nat_le (frame_len bytes) (length bytes)) refl e
  where
    by : (b : Bool) → nat_le (frame_len bytes) (length bytes) ≡ b → cond b (Some (take (frame_len bytes - 2) (drop 2 bytes))) None ≡ Some message → frame_len bytes ≤ length bytes
    by true t h = grind (arith, nat_tests)
    by false t h = absurd (cc)

-- it has the same length, whatever follows
len_more : (bytes more : List ℕ) → frame_len bytes ≤ length bytes → frame_len (bytes ++ more) ≡ frame_len bytes
len_more [] more le = absurd (omega (arith, le))
len_more (high ∷ []) more le = absurd (omega (arith, le))
len_more (high ∷ low ∷ rest) more le = refl

message_more : (bytes more : List ℕ) → frame_len bytes ≤ length bytes → take (frame_len bytes - 2) (drop 2 (bytes ++ more)) ≡ take (frame_len bytes - 2) (drop 2 bytes)
message_more [] more le = absurd (omega (arith, le))
message_more (high ∷ []) more le = absurd (omega (arith, le))
message_more (high ∷ low ∷ rest) more le = take-append-le (2 + (256 * high + low) - 2) rest more (omega (arith, le))

-- the first message is the same, whatever follows
first_more : (bytes more message : List ℕ) → first_message bytes ≡ Some message → first_message (bytes ++ more) ≡ Some message
first_more bytes more message first =
    let le = whole_frame bytes message first in
    is (nat_le (frame_len (bytes ++ more)) (length (bytes ++ more))) refl le
  where
    is : (b : Bool) → nat_le (frame_len (bytes ++ more)) (length (bytes ++ more)) ≡ b → frame_len bytes ≤ length bytes
        → cond b (Some (take (frame_len (bytes ++ more) - 2) (drop 2 (bytes ++ more)))) None ≡ Some message
    is true t le = ap Some (ap (λ (n : ℕ). take (n - 2) (drop 2 (bytes ++ more))) (len_more bytes more le) ∙ message_more bytes more le) ∙ there (nat_le (frame_len bytes) (length bytes)) refl first
      where
        there : (b : Bool) → nat_le (frame_len bytes) (length bytes) ≡ b → cond b (Some (take (frame_len bytes - 2) (drop 2 bytes))) None ≡ Some message → Some (take (frame_len bytes - 2) (drop 2 bytes)) ≡ Some message
        there true t h = h
        there false t h = absurd (cc)
    is false t le = absurd (let same = len_more bytes more le in grind (arith, nat_tests, same, length-append {A = ℕ}))

-- and what follows it
behind_more : (bytes more message : List ℕ) → first_message bytes ≡ Some message → behind_frame (bytes ++ more) ≡ behind_frame bytes ++ more
behind_more bytes more message first =
    let le = whole_frame bytes message first in
    ap (λ (n : ℕ). drop n (bytes ++ more)) (len_more bytes more le) ∙ drop-append-le (frame_len bytes) bytes more le

-- ---- requests

arrived_more : (bytes more : List ℕ) (rs : List RequestContent) → HaveArrived bytes rs → HaveArrived (bytes ++ more) rs × (behind rs (bytes ++ more) ≡ behind rs bytes ++ more)
arrived_more bytes more [] arrived = (tt, refl)
arrived_more bytes more (r ∷ rs) arrived =
    let follows = behind_more bytes more r.bytes arrived.0 in
    let rest = arrived_more (behind_frame bytes) more rs arrived.1 in
    ((first_more bytes more r.bytes arrived.0, subst (λ (left : List ℕ). HaveArrived left rs) (sym follows) rest.0), ap (behind rs) follows ∙ rest.1)

arrived_then : (bytes : List ℕ) (rs ss : List RequestContent) → HaveArrived bytes rs → HaveArrived (behind rs bytes) ss → HaveArrived bytes (rs ++ ss) × (behind (rs ++ ss) bytes ≡ behind ss (behind rs bytes))
arrived_then bytes [] ss first next = (next, refl)
arrived_then bytes (r ∷ rs) ss first next = let rest = arrived_then (behind_frame bytes) rs ss first.1 next in ((first.0, rest.0), rest.1)

next_arrived : (peer : SocketAddr) (bytes : List ℕ) (rs : List RequestContent) → AreNext peer bytes rs → HaveArrived bytes rs
next_arrived peer bytes [] next = tt
next_arrived peer bytes (r ∷ rs) next = (next.0, next_arrived peer (behind_frame bytes) rs next.1.1.1)

-- ---- one act

-- requests are the first that arrived, and what is not handled is behind them
abbrev AreFirst : Option Connected → List ℕ → List RequestContent → Type 0
AreFirst None read handled = HaveArrived read handled
AreFirst (Some c) read handled = HaveArrived read handled × (behind handled read ≡ c.unhandled)

first_arrived : (connection : Option Connected) (read : List ℕ) (handled : List RequestContent) → AreFirst connection read handled → HaveArrived read handled
first_arrived None read handled first = first
first_arrived (Some c) read handled first = first.0

read_some : (b : Bool) (bytes : List ℕ) (p : Place) (read : List ℕ) (handled : List RequestContent) → (b ≡ true → IsSomeAnd p.connection (λ c. ⊤)) → AreFirst p.connection read handled
    → AreFirst (changed b (read_after (Some bytes)) p).connection (if b then read ++ bytes else read) handled
read_some false bytes p read handled there first = first
read_some true bytes p read handled there first = by p.connection (there refl) first
  where
    by : (connection : Option Connected) → IsSomeAnd connection (λ c. ⊤) → AreFirst connection read handled → AreFirst (option_map (read_after (Some bytes)) connection) (read ++ bytes) handled
    by None some f = absurd some
    by (Some c) some f = let more = arrived_more read bytes handled f.0 in (more.0, more.1 ∙ ap (λ (left : List ℕ). left ++ bytes) f.1)

read_none : (b : Bool) (p : Place) (read : List ℕ) (handled : List RequestContent) → AreFirst p.connection read handled → AreFirst (changed b (read_after None) p).connection read handled
read_none false p read handled first = first
read_none true p read handled first = by p.connection first
  where
    by : (connection : Option Connected) → AreFirst connection read handled → AreFirst (option_map (read_after None) connection) read handled
    by None f = f
    by (Some c) f = f

write_first : (b : Bool) (bytes : List ℕ) (p : Place) (read : List ℕ) (handled : List RequestContent) → AreFirst p.connection read handled → AreFirst (changed b (written_after bytes) p).connection read handled
write_first false bytes p read handled first = first
write_first true bytes p read handled first = by p.connection first
  where
    by : (connection : Option Connected) → AreFirst connection read handled → AreFirst (option_map (written_after bytes) connection) read handled
    by None f = f
    by (Some c) f = f

-- more requests are handled
more_first : (c : Connected) (read : List ℕ) (handled requests : List RequestContent) → MayHandle c requests → AreFirst (Some c) read handled
    → HaveArrived read (handled ++ requests) × (behind (handled ++ requests) read ≡ behind requests c.unhandled)
more_first c read handled requests may first =
    let next = subst (λ (bytes : List ℕ). HaveArrived bytes requests) (sym first.1) (next_arrived c.peer c.unhandled requests may.1.1) in
    let all = arrived_then read handled requests first.0 next in
    (all.0, all.1 ∙ ap (behind requests) first.1)

-- none are
none_more : (c : Connected) (read : List ℕ) (handled : List RequestContent) → AreFirst (Some c) read handled → HaveArrived read (handled ++ []) × (behind (handled ++ []) read ≡ c.unhandled)
none_more c read handled first = subst (λ (rs : List RequestContent). HaveArrived read rs × (behind rs read ≡ c.unhandled)) (sym (append-nil handled)) first

call_first : (b : Bool) (call : HandlerEvent) (p : Place) (read : List ℕ) (handled : List RequestContent) → (b ≡ true → IsSomeAnd p.connection (λ c. IsCallAllowed c call)) → AreFirst p.connection read handled
    → AreFirst (changed b (call_after call) p).connection read (if b then handled ++ requests_of call else handled)
call_first false call p read handled allowed first = first
call_first true call p read handled allowed first = by call p.connection (allowed refl) first
  where
    by : (call : HandlerEvent) (connection : Option Connected) → IsSomeAnd connection (λ c. IsCallAllowed c call) → AreFirst connection read handled
        → AreFirst (option_map (call_after call) connection) read (handled ++ requests_of call)
    by call None some f = absurd some
    by (Handled requests (Some ds)) (Some c) may f = more_first c read handled requests may f
    by (Handled requests None) (Some c) may f = none_more c read handled f
    by (Transferred request is_busy (Some (Some messages))) (Some c) may f = more_first c read handled (request ∷ []) may f
    by (Transferred request is_busy (Some None)) (Some c) may f = none_more c read handled f
    by (Transferred request is_busy None) (Some c) may f = none_more c read handled f
    by (Took request is_taken) (Some c) may f = none_more c read handled f
    by (Noticed now notice) (Some c) may f = none_more c read handled f

close_first : (b : Bool) (connection : Option Connected) (read : List ℕ) (handled : List RequestContent) → AreFirst connection read handled → AreFirst (closed b connection) read handled
close_first true connection read handled first = first_arrived connection read handled first
close_first false connection read handled first = first

admission_first : (b : Bool) (p : Place) (read : List ℕ) (handled : List RequestContent) → IsSome p.accepted → AreFirst p.connection read handled
    → AreFirst (admitted b true p) (if b then [] else read) (if b then [] else handled)
admission_first true p read handled accepted first = by p.accepted accepted
  where
    by : (peer : Option SocketAddr) → IsSome peer → AreFirst (option_map connected peer) [] []
    by None some = absurd (cc)
    by (Some peer) some = (tt, refl)
admission_first false p read handled accepted first = first

refusal_first : (b : Bool) (p : Place) (read : List ℕ) (handled : List RequestContent) → AreFirst p.connection read handled → AreFirst (admitted b false p) read handled
refusal_first true p read handled first = first
refusal_first false p read handled first = first

act_first : (index : ℕ) (act : Act) (p : Place) (read : List ℕ) (handled : List RequestContent) → IsActAllowed index p act → AreFirst p.connection read handled
    → AreFirst (act_after index act p).connection (read_by index act read) (handled_by index act handled)
act_first index (By (Connection stream) call) p read handled allowed first = call_first (stream == index) call p read handled (λ e. allowed (same_if stream index e)) first
act_first index (By (Socket socket) call) p read handled allowed first = first
act_first index (By Nowhere call) p read handled allowed first = first
act_first index (At (Accepted listener peer)) p read handled allowed first = first
act_first index (At (Admitted stream true)) p read handled allowed first = admission_first (stream == index) p read handled allowed.0 first
act_first index (At (Admitted stream false)) p read handled allowed first = refusal_first (stream == index) p read handled first
act_first index (At (Closed stream)) p read handled allowed first = close_first (stream == index) p.connection read handled first
act_first index (At (Read stream (Some bytes))) p read handled allowed first =
    read_some (stream == index) bytes p read handled (λ e. there (λ c. IsReadAllowed c (Some bytes)) p.connection (allowed (same_if stream index e))) first
act_first index (At (Read stream None)) p read handled allowed first = read_none (stream == index) p read handled first
act_first index (At (Written stream bytes)) p read handled allowed first = write_first (stream == index) bytes p read handled first
act_first index (At (Received socket bytes peer)) p read handled allowed first = first
act_first index (At (Unreceived socket)) p read handled allowed first = first
act_first index (At (Sent socket bytes peer taken)) p read handled allowed first = first
act_first index (At (Clocked moment)) p read handled allowed first = first
act_first index (At (Waited most)) p read handled allowed first = first
act_first index (At (Woken wake)) p read handled allowed first = first

-- ---- all acts

pub requests_are_first : (index : ℕ) (old new : Place) (acts : List Act) (read : List ℕ) (handled : List RequestContent) → AreFirst old.connection read handled → Follows index old acts new
    → HaveArrived (read_on index read acts) (handled_on index handled acts)
requests_are_first index old new [] read handled first follows = first_arrived old.connection read handled first
requests_are_first index old new (act ∷ acts) read handled first follows =
    requests_are_first index (act_after index act old) new acts (read_by index act read) (handled_by index act handled) (act_first index act old read handled follows.0 first) follows.1
