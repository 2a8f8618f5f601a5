-- What the steps of a connection do to it.
use Rattle.std.proofs.Common.{◌≡◌, ◌∙◌, ◌+◌, ◌≤◌, ◌||◌, ◌==◌, Bool, true, false, cond, is_some, ℕ, List, [], ◌∷◌, ◌++◌, length, map, take, drop, append-nil, Option, Some, None, refl, sym, ap, subst, arith}
use Rattle.std.proofs.lemmas.Bool.Decides.{nat_tests}
use Rattle.std.proofs.Math.Seq.{take-append_seam}
use Rattle.std.proofs.lemmas.List.{drop-append-le, length-take, map-append, take-append-le}
use Rattle.std.specs.Global.{Vec}
use Rattle.std.specs.List.{AllByRecursion}
use Rattle.std.specs.declared.net.socket_addr.SocketAddr.{SocketAddr}
use Rattle.dns_faults.specs.declared.delivery.Delivery.{Delivery}
use Rattle.std.specs.Prelude.{OnOk, is_err, nat_le, Result, Ok, Err}
use Rattle.std.specs.declared.alloc.AllocError.{AllocError}
use Rattle.std.specs.declared.io.Error.{Error}
use Rattle.dns_server.specs.Connection.{Stream as Waiting, behind_frame, first_message, max_input_len, max_waiting_len, next_message}
use Rattle.dns_sockets.specs.Connections.{AreNext, Connected, Follows, IsEventAllowed, IsReadAllowed, MayHandle, Place, act_after, behind, call_after, changed, closes, closes_after, connection_of, delivered, event_after, held_bytes, read_after, reply_bytes, transferred, unless_closed, waiting_bytes, written_after}
use Rattle.dns_sockets.specs.Handler.{HandlerEvent, RequestContent, Handled, Transferred, message_bytes}
use Rattle.dns_sockets.specs.Output.{added}
use Rattle.dns_sockets.specs.Stream.{AnswersAt, held_message, held_reply, stream_request}
use Rattle.dns_sockets.specs.StreamSteps.{AreTaken, CallsFollow, CallsLeave, IsAnswered, IsReady, KeepsBytes, KeepsReplies, Leaves, StaysUnless, answered, bytes_read, ends_if, is_end, place, released}
use Rattle.dns_sockets.specs.Moments.{IsTimed}
use Rattle.dns_sockets.proofs.MomentLaws.{stream_timed, timed_both, timed_none}
use Rattle.dns_sockets.specs.Trace.{Act, At, By, Connection, Consults, IsOfStream, Leads, Traces}
use Rattle.dns_sockets.specs.declared.stream.HeldReply.{HeldReply}
use Rattle.dns_sockets.specs.declared.stream.Step.{Step}
use Rattle.dns_sockets.specs.declared.stream.Stream.{Stream}
use Rattle.dns_sockets.proofs.TraceLaws.{all_as, all_more, leads_both, leads_consulted}
use Rattle.dns_sockets.specs.World.{WorldEvent, Clocked, IsWithin, Read, Written, moved, read_event, write_event}
use Rattle.dns_sockets.specs.declared.world.Progress.{Progress}
use Rattle.dns_sockets.specs.declared.world.Progress.TheVariants as progresses

-- no more is moved than there is
pub within_moved : (progress : Progress) (most : ℕ) → IsWithin progress most → moved progress ≤ most
within_moved (progresses.Bytes count) most within = within
within_moved progresses.Interrupted most within = omega arith
within_moved progresses.Nothing most within = omega arith
within_moved progresses.Failed most within = omega arith

-- ---- requests

-- one more message is taken
pub taken_more : (bytes : List ℕ) (messages : List (List ℕ)) (rest message : List ℕ) → AreTaken bytes messages rest → first_message rest ≡ Some message
    → AreTaken bytes (messages ++ message ∷ []) (behind_frame rest)
taken_more bytes [] rest message taken first = (ap first_message taken ∙ first, ap behind_frame taken)
taken_more bytes (m ∷ more) rest message taken first = (taken.0, taken_more (behind_frame bytes) more rest message taken.1 first)

-- messages that were taken are the next requests
pub taken_are_next : (peer : SocketAddr) (now : ℕ) (bytes : List ℕ) (messages : List (List ℕ)) (rest : List ℕ) → AreTaken bytes messages rest
    → AreNext peer bytes (map (stream_request peer now) messages) × (behind (map (stream_request peer now) messages) bytes ≡ rest)
taken_are_next peer now bytes [] rest taken = (tt, taken)
taken_are_next peer now bytes (m ∷ more) rest taken =
    let others = taken_are_next peer now (behind_frame bytes) more rest taken.1 in
    ((taken.0, (refl, (refl, others.0))), others.1)

-- ---- replies

-- what is held of deliveries is what is written of them
pub held_delivered : (now : ℕ) (ds : List Delivery) → (held_bytes (map (held_reply now) ds) ≡ delivered ds) × (closes_after (map (held_reply now) ds) ≡ closes ds)
held_delivered now [] = (refl, refl)
held_delivered now (d ∷ ds) =
    let others = held_delivered now ds in
    (ap (λ (more : List ℕ). reply_bytes d.close_after d.reply ++ unless_closed d.close_after more) others.0, ap (λ (more : Bool). is_some d.close_after || more) others.1)

-- and the same of messages
pub held_transferred : (now : ℕ) (messages : List (Vec ℕ)) → (held_bytes (map (held_message now) messages) ≡ transferred (map message_bytes messages)) × (closes_after (map (held_message now) messages) ≡ false)
held_transferred now [] = (refl, refl)
held_transferred now (m ∷ more) =
    let others = held_transferred now more in
    (ap (λ (rest : List ℕ). added None m.items ++ rest) others.0, others.1)

-- requests that were handled together are answered
pub together_answered : (requests : List RequestContent) (ds : List Delivery) (held : List HeldReply) (now : ℕ) → held ≡ map (held_reply now) ds → IsAnswered false requests (Handled requests (Some ds) ∷ []) held
together_answered requests ds held now is c may =
    let bytes = held_delivered now ds in
    (may, λ j. record c { unhandled = behind requests c.unhandled; unwritten = c.unwritten ++ (sym bytes.0 ∙ ap held_bytes (sym is)) j; is_ending = (sym bytes.1 ∙ ap closes_after (sym is)) j })

-- or there is no memory for their replies
pub handled_at_least : (requests : List RequestContent) (outcome : Option (List Delivery)) (held : List HeldReply) → IsAnswered true requests (Handled requests outcome ∷ []) held
handled_at_least requests outcome held c may = (call_after (Handled requests outcome) c, (may, refl))

-- one of both
pub together_on : (r : Result (Unit {0}) AllocError) (requests : List RequestContent) (ds : List Delivery) (before held : List HeldReply) (now : ℕ) → before ≡ [] → OnOk r (held ≡ before ++ map (held_reply now) ds)
    → IsAnswered (is_err r) requests (Handled requests (Some ds) ∷ []) held
together_on (Ok done) requests ds before held now none is = together_answered requests ds held now (is ∙ ap (λ (first : List HeldReply). first ++ map (held_reply now) ds) none)
together_on (Err error) requests ds before held now none is = handled_at_least requests (Some ds) held

-- a request for a transfer is answered
pub transfer_answered : (request : RequestContent) (is_busy : Bool) (messages : List (Vec ℕ)) (held : List HeldReply) (now : ℕ) → held ≡ map (held_message now) messages
    → IsAnswered false (request ∷ []) (Transferred request is_busy (Some (Some (map message_bytes messages))) ∷ []) held
transfer_answered request is_busy messages held now is c may =
    let bytes = held_transferred now messages in
    (may, λ j. record c { unhandled = behind_frame c.unhandled; unwritten = c.unwritten ++ (sym bytes.0 ∙ ap held_bytes (sym is)) j; is_ending = (may.0 ∙ sym bytes.1 ∙ ap closes_after (sym is)) j })

-- or there is no memory for its replies
pub transferred_at_least : (request : RequestContent) (is_busy : Bool) (outcome : Option (Option (List (List ℕ)))) (held : List HeldReply) → IsAnswered true (request ∷ []) (Transferred request is_busy outcome ∷ []) held
transferred_at_least request is_busy outcome held c may = (call_after (Transferred request is_busy outcome) c, (may, refl))

-- one of both
pub transfer_on : (r : Result (Unit {0}) AllocError) (request : RequestContent) (is_busy : Bool) (messages : List (Vec ℕ)) (before held : List HeldReply) (now : ℕ) → before ≡ []
    → OnOk r (held ≡ before ++ map (held_message now) messages) → IsAnswered (is_err r) (request ∷ []) (Transferred request is_busy (Some (Some (map message_bytes messages))) ∷ []) held
transfer_on (Ok done) request is_busy messages before held now none is = transfer_answered request is_busy messages held now (is ∙ ap (λ (first : List HeldReply). first ++ map (held_message now) messages) none)
transfer_on (Err error) request is_busy messages before held now none is = transferred_at_least request is_busy (Some (Some (map message_bytes messages))) held

-- where memory was refused, requests are answered
pub refused_answered : (fails : Bool) (requests : List RequestContent) (calls : List HandlerEvent) (held : List HeldReply) → fails ≡ true → IsAnswered true requests calls held → IsAnswered fails requests calls held
refused_answered true requests calls held is answers = answers
refused_answered false requests calls held is answers = absurd (cc)

-- a request that is for no transfer is handled
pub then_answered : (fails is_busy : Bool) (request : RequestContent) (calls : List HandlerEvent) (held : List HeldReply) → IsAnswered fails (request ∷ []) calls held
    → IsAnswered fails (request ∷ []) (Transferred request is_busy (Some None) ∷ calls) held
then_answered true is_busy request calls held answers c may = let rest = answers c may in (rest.0, (may, rest.1))
then_answered false is_busy request calls held answers c may = (may, answers c may)

-- ---- what is gathered

-- the next message is that of the first frame
pub first_of_next : (s : Waiting) (message : List ℕ) → Some message ≡ next_message s → first_message s.input ≡ Some message
first_of_next s message is = by (nat_le (length s.output) max_waiting_len) is
  where
    by : (b : Bool) → Some message ≡ cond b (first_message s.input) None → first_message s.input ≡ Some message
    by true found = sym found
    by false found = absurd (cc)

-- one more message is gathered
pub gathered_more : (bytes rest after message : List ℕ) (old new : List (Vec ℕ)) (v : Vec ℕ) → AreTaken bytes (map message_bytes old) rest → new ≡ old ++ v ∷ [] → v.items ≡ message
    → first_message rest ≡ Some message → after ≡ behind_frame rest → AreTaken bytes (map message_bytes new) after
gathered_more bytes rest after message old new v taken more is first behind =
    subst (λ (messages : List (List ℕ)). AreTaken bytes messages after) (sym (ap (map message_bytes) more ∙ map-append message_bytes old (v ∷ []) ∙ (λ j. map message_bytes old ++ is j ∷ [])))
    (subst (λ (left : List ℕ). AreTaken bytes (map message_bytes old ++ message ∷ []) left) (sym behind) (taken_more bytes (map message_bytes old) rest message taken first))

-- ---- calls

-- where the clock fails, nothing is done
pub failed_leaves : (result : Result Step Error) → is_err result ≡ true → (a : Connected) → CallsLeave (ends_if result) a [] a
failed_leaves (Ok step) fails a = absurd (cc fails)
failed_leaves (Err error) fails a = refl

-- where a connection is to be closed, nothing has to happen
pub none_leave : (fails : Bool) (old new : Connected) → fails ≡ true → CallsLeave fails old [] new
none_leave true old new is = (old, refl)
none_leave false old new is = absurd (cc)

-- a connection that is ready has only its output to write
ready_waits : (s : Stream) → IsReady s → (connection_of s).unwritten ≡ s.output
ready_waits s ready = (λ j. s.output ++ waiting_bytes (ready.is_open j) (ready.none_held j)) ∙ append-nil s.output

ready_goes_on : (s : Stream) → IsReady s → (connection_of s).is_ending ≡ false
ready_goes_on s ready = λ j. ready.is_open j || closes_after (ready.none_held j)

-- requests that are next may be handled on a connection that is ready
ready_may : (s : Stream) (requests : List RequestContent) → IsReady s → AreNext s.peer s.connection.input requests → MayHandle (connection_of s) requests
ready_may s requests ready next = (ready_goes_on s ready, (subst (λ (bytes : List ℕ). length bytes ≤ max_waiting_len) (sym (ready_waits s ready)) ready.has_room, next))

-- a connection whose requests were taken and answered
answered_is : (s0 s1 s2 : Stream) (requests : List RequestContent) → IsReady s0 → behind requests s0.connection.input ≡ s1.connection.input → KeepsReplies s0 s1 → KeepsBytes s1 s2
    → answered requests s2.held.items (connection_of s0) ≡ connection_of s2
answered_is s0 s1 s2 requests ready taken first after =
    let stays = after.is_closing ∙ first.is_closing ∙ ready.is_open in
    let output = ready_waits s0 ready ∙ sym first.output ∙ sym after.output in
    λ j. record {
      peer = (sym first.peer ∙ sym after.peer) j;
      unhandled = (taken ∙ sym after.input) j;
      unwritten = output j ++ waiting_bytes (sym stays j) s2.held.items;
      is_ending = sym stays j || closes_after s2.held.items;
    }

calls_leave_as : (fails : Bool) (old a b : Connected) (calls : List HandlerEvent) → a ≡ b → CallsLeave fails old calls a → CallsLeave fails old calls b
calls_leave_as fails old a b calls is leave = subst (λ (c : Connected). CallsLeave fails old calls c) is leave

-- requests that were taken are answered
pub taken_leave : (fails : Bool) (s0 s1 s2 : Stream) (now : ℕ) (messages : List (List ℕ)) (requests : List RequestContent) (calls : List HandlerEvent) → IsReady s0
    → AreTaken s0.connection.input messages s1.connection.input → KeepsReplies s0 s1 → KeepsBytes s1 s2 → requests ≡ map (stream_request s1.peer now) messages
    → IsAnswered fails requests calls s2.held.items → CallsLeave fails (connection_of s0) calls (connection_of s2)
taken_leave fails s0 s1 s2 now messages requests calls ready taken first after are answers =
    let are_of = are ∙ ap (λ (peer : SocketAddr). map (stream_request peer now) messages) first.peer in
    let next = taken_are_next s0.peer now s0.connection.input messages s1.connection.input taken in
    let may = ready_may s0 requests ready (subst (λ (rs : List RequestContent). AreNext s0.peer s0.connection.input rs) (sym are_of) next.0) in
    calls_leave_as fails (connection_of s0) (answered requests s2.held.items (connection_of s0)) (connection_of s2) calls
    (answered_is s0 s1 s2 requests ready (ap (λ (rs : List RequestContent). behind rs s0.connection.input) are_of ∙ next.1) first after)
    (answers (connection_of s0) may)

-- ---- held replies

-- a reply that is released was the first that is held
pub released_is : (s0 s1 : Stream) (held : HeldReply) → s0.held.items ≡ held ∷ s1.held.items → s0.is_closing ≡ false → KeepsBytes s0 s1 → released held s1 ≡ connection_of s0
released_is s0 s1 held first stays kept = λ j. record {
  peer = kept.peer j;
  unhandled = kept.input j;
  unwritten = kept.output j ++ waiting_bytes (sym stays j) (sym first j);
  is_ending = sym stays j || closes_after (sym first j);
}

-- ---- one act

pub same_index : (index : ℕ) → (index == index) ≡ true
same_index index = by (index == index) refl
  where
    by : (b : Bool) → (index == index) ≡ b → b ≡ true
    by true is = refl
    by false is = absurd (grind (arith, nat_tests))

-- one event of a connection
event_leaves : (fails : Bool) (index : ℕ) (event : WorldEvent) (old new : Connected) → ((accepted : Option SocketAddr) → IsEventAllowed index (place accepted old) event)
    → ((accepted : Option SocketAddr) → (left : Connected) × ((event_after index event (place accepted old) ≡ place accepted left) × (fails ≡ false → left ≡ new))) → Leaves fails index old (At event ∷ []) new
event_leaves true index event old new allowed leads = λ accepted. ((leads accepted).0, (allowed accepted, (leads accepted).1.0))
event_leaves false index event old new allowed leads = λ accepted. (allowed accepted, (leads accepted).1.0 ∙ ap (place accepted) ((leads accepted).1.1 refl))

-- a read
pub read_leaves : (fails : Bool) (index : ℕ) (progress : Progress) (buffer : List ℕ) (s : Stream) (new : Connected) → IsReady s → length s.connection.input + length buffer ≤ max_input_len
    → StaysUnless fails (read_after (bytes_read progress buffer) (connection_of s)) new → Leaves fails index (connection_of s) (At (read_event index progress buffer) ∷ []) new
read_leaves fails index progress buffer s new ready room stays = by progress stays
  where
    reads : (bytes : Option (List ℕ)) → IsReadAllowed (connection_of s) bytes → StaysUnless fails (read_after bytes (connection_of s)) new → Leaves fails index (connection_of s) (At (Read index bytes) ∷ []) new
    reads bytes allowed left =
        event_leaves fails index (Read index bytes) (connection_of s) new (λ accepted is. allowed)
        (λ accepted. (read_after bytes (connection_of s), ((λ j. changed (same_index index j) (read_after bytes) (place accepted (connection_of s))), unless fails left)))
      where
        unless : (b : Bool) → StaysUnless b (read_after bytes (connection_of s)) new → b ≡ false → read_after bytes (connection_of s) ≡ new
        unless true left is = absurd (cc)
        unless false left is = sym left

    by : (p : Progress) → StaysUnless fails (read_after (bytes_read p buffer) (connection_of s)) new → Leaves fails index (connection_of s) (At (read_event index p buffer) ∷ []) new
    by (progresses.Bytes count) left = reads (Some (take count buffer)) (ready_goes_on s ready, omega (arith, room, length-take count buffer)) left
    by progresses.Interrupted left = reads None (ready_goes_on s ready) left
    by progresses.Nothing left = reads None (ready_goes_on s ready) left
    by progresses.Failed left = reads None (ready_goes_on s ready) left

-- the first bytes are all of these
pub front_is : (n : ℕ) (xs ys : List ℕ) → n ≡ length xs → take n (xs ++ ys) ≡ xs
front_is n xs ys is = ap (λ (count : ℕ). take count (xs ++ ys)) is ∙ take-append_seam xs ys

-- a write
pub write_leaves : (fails : Bool) (index : ℕ) (progress : Progress) (s : Stream) (new : Connected) → moved progress ≤ length s.output
    → new ≡ connection_of (record s { output = drop (moved progress) s.output }) → Leaves fails index (connection_of s) (At (write_event index progress s.output) ∷ []) new
write_leaves fails index progress s new within is = by progress within is
  where
    waits : List ℕ
    waits = waiting_bytes s.is_closing s.held.items

    writes : (bytes : List ℕ) → bytes ≡ take (length bytes) (s.output ++ waits) → new ≡ written_after bytes (connection_of s) → Leaves fails index (connection_of s) (At (Written index bytes) ∷ []) new
    writes bytes allowed left =
        event_leaves fails index (Written index bytes) (connection_of s) new (λ accepted is. allowed)
        (λ accepted. (written_after bytes (connection_of s), ((λ j. changed (same_index index j) (written_after bytes) (place accepted (connection_of s))), λ goes. sym left)))

    by : (p : Progress) → moved p ≤ length s.output → new ≡ connection_of (record s { output = drop (moved p) s.output }) → Leaves fails index (connection_of s) (At (write_event index p s.output) ∷ []) new
    by (progresses.Bytes count) le left =
        writes (take count s.output)
        (sym (ap (λ (n : ℕ). take n (s.output ++ waits)) (whole_is count le) ∙ take-append-le count s.output waits le))
        (left ∙ (λ j. record (connection_of s) { unwritten = (sym (drop-append-le count s.output waits le) ∙ ap (λ (n : ℕ). drop n (s.output ++ waits)) (sym (whole_is count le))) j }))
      where
        whole_is : (count : ℕ) → count ≤ length s.output → length (take count s.output) ≡ count
        whole_is count le = omega (arith, le, length-take count s.output)
    by progresses.Interrupted le left = writes [] refl left
    by progresses.Nothing le left = writes [] refl left
    by progresses.Failed le left = writes [] refl left

-- ---- steps

-- nothing happens
pub stays_leaves : (fails : Bool) (index : ℕ) (old new : Connected) → StaysUnless fails old new → Leaves fails index old [] new
stays_leaves true index old new stays = λ accepted. (old, refl)
stays_leaves false index old new stays = λ accepted. ap (place accepted) (sym stays)

-- calls are acts of their connection
calls_follow : (index : ℕ) (accepted : Option SocketAddr) (old new : Connected) (calls : List HandlerEvent) → CallsFollow old calls new
    → Follows index (place accepted old) (map (By (Connection index)) calls) (place accepted new)
calls_follow index accepted old new [] follow = ap (place accepted) follow
calls_follow index accepted old new (call ∷ calls) follow = (
  (λ is. follow.0),
  subst (λ (here : Bool). Follows index (changed here (call_after call) (place accepted old)) (map (By (Connection index)) calls) (place accepted new)) (sym (same_index index))
      (calls_follow index accepted (call_after call old) new calls follow.1),
)

pub calls_leaves : (fails : Bool) (index : ℕ) (old new : Connected) (calls : List HandlerEvent) → CallsLeave fails old calls new → Leaves fails index old (map (By (Connection index)) calls) new
calls_leaves true index old new calls leave = λ accepted. (leave.0, calls_follow index accepted old leave.0 calls leave.1)
calls_leaves false index old new calls leave = λ accepted. calls_follow index accepted old new calls leave

-- acts after others
pub follows_both : (index : ℕ) (a b c : Place) (xs ys : List Act) → Follows index a xs b → Follows index b ys c → Follows index a (xs ++ ys) c
follows_both index a b c [] ys first next = subst (λ (p : Place). Follows index p ys c) (sym first) next
follows_both index a b c (x ∷ xs) ys first next = (first.0, follows_both index (act_after index x a) b c xs ys first.1 next)

pub leaves_both : (fails : Bool) (index : ℕ) (a b c : Connected) (xs ys : List Act) → Leaves false index a xs b → Leaves fails index b ys c → Leaves fails index a (xs ++ ys) c
leaves_both true index a b c xs ys first next = λ accepted.
    let left = next accepted in
    (left.0, follows_both index (place accepted a) (place accepted b) (place accepted left.0) xs ys (first accepted) left.1)
leaves_both false index a b c xs ys first next = λ accepted. follows_both index (place accepted a) (place accepted b) (place accepted c) xs ys (first accepted) (next accepted)

-- a connection that goes on may be closed
pub leaves_any : (fails : Bool) (index : ℕ) (a b : Connected) (acts : List Act) → Leaves false index a acts b → Leaves fails index a acts b
leaves_any true index a b acts leaves = λ accepted. (b, leaves accepted)
leaves_any false index a b acts leaves = leaves

-- ---- several steps

module _ {S H : Type 0} (performs : S → WorldEvent → S → Type 0) (steps : H → HandlerEvent → H → Type 0) where
  -- a connection goes on, and may be closed then
  abbrev pub GoesOn : Bool → ℕ → Connected → Connected → S → S → H → H → Type 0
  GoesOn fails index a b w w1 h h1 = Traces performs steps w h w1 h1 (λ acts. AllByRecursion (IsOfStream index) acts × Leaves fails index a acts b × IsTimed acts)

  -- acts of a connection after others
  pub steps_then : (fails : Bool) (index : ℕ) (a b c : Connected) (w w1 w2 : S) (h h1 h2 : H)
      → GoesOn false index a b w w1 h h1
      → GoesOn fails index b c w1 w2 h1 h2
      → GoesOn fails index a c w w2 h h2
  steps_then fails index a b c w w1 w2 h h1 h2 first next = record {
    acts = first.acts ++ next.acts;
    leads = leads_both performs steps w w1 w2 h h1 h2 first.acts next.acts first.leads next.leads;
    holds = (all_more (IsOfStream index) first.acts next.acts first.holds.0 next.holds.0, leaves_both fails index a b c first.acts next.acts first.holds.1 next.holds.1, timed_both first.acts next.acts first.holds.2 next.holds.2);
  }

  -- no act
  pub steps_none : (index : ℕ) (a : Connected) (w : S) (h : H) → GoesOn false index a a w w h h
  steps_none index a w h = record { acts = []; leads = (refl, refl); holds = (tt, λ accepted. refl, timed_none) }

  -- a connection that goes on may be closed
  pub steps_any : (fails : Bool) (index : ℕ) (a b : Connected) (w w1 : S) (h h1 : H)
      → GoesOn false index a b w w1 h h1
      → GoesOn fails index a b w w1 h h1
  steps_any fails index a b w w1 h h1 all = record { acts = all.acts; leads = all.leads; holds = (all.holds.0, leaves_any fails index a b all.acts all.holds.1, all.holds.2) }

  -- the clock is read, and requests are answered
  pub consulted : (fails : Bool) (index : ℕ) (a b : Connected) (peer : SocketAddr) (is_busy : Bool) (w w1 : S) (h h1 : H)
      → Consults performs steps w h w1 h1 (λ clocks calls. (shown : Option ℕ) × ((clocks ≡ Clocked shown ∷ []) × (AnswersAt shown is_busy peer calls × CallsLeave fails a calls b)))
      → GoesOn fails index a b w w1 h h1
  consulted fails index a b peer is_busy w w1 h h1 happened =
      let shown = happened.holds.0 in
      let acts = map (By (Connection index)) happened.calls in
      record {
        acts = At (Clocked shown) ∷ acts;
        leads = subst (λ (es : List WorldEvent). Leads performs steps w h (map At es ++ acts) w1 h1) happened.holds.1.0
            (leads_consulted performs steps (Connection index) w w1 h h1 happened.events happened.calls happened.led happened.called);
        holds = (
          (tt, all_as performs steps (IsOfStream index) (By (Connection index)) (λ e. refl) happened.calls),
          leaves_both fails index a a b (At (Clocked shown) ∷ []) acts (λ accepted. (tt, refl)) (calls_leaves fails index a b happened.calls happened.holds.1.1.1),
          stream_timed index shown is_busy peer happened.calls happened.holds.1.1.0,
        );
      }

  -- where the clock fails, it goes on no further
  pub steps_fail : (result : Result Bool Error) → is_err result ≡ true → (index : ℕ) (a b : Connected) (w w1 : S) (h h1 : H) → GoesOn false index a b w w1 h h1 → GoesOn (is_end result) index a b w w1 h h1
  steps_fail (Ok closes) fails index a b w w1 h h1 all = absurd (cc fails)
  steps_fail (Err error) fails index a b w w1 h h1 all = all
