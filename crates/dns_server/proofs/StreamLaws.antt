-- Streams, and the frames that are served on them.
use Rattle.std.proofs.Common.{◌≡◌, ◌≤◌, ◌+◌, ◌-◌, ◌*◌, ◌/◌, ◌%◌, ℕ, Bool, true, false, cond, List, [], ◌∷◌, ◌++◌, refl, sym, ap, ◌∙◌, subst, length, take, drop, append_assoc, append-nil, arith, length-append, Option, Some, None}
use Rattle.std.specs.Prelude.{nat_le}
use Rattle.std.proofs.lemmas.Bool.Decides.{nat_tests}
use Rattle.std.proofs.lemmas.List.{take-append-le, drop-append-le, take-append-drop, take_all, drop_all}
use Rattle.dns_message_bytes.specs.frames.Frame.{AreShort, frame, frame_len, stream_of}
use Rattle.dns_server.specs.Connection.{Stream, behind_frame, completed, first_message, max_waiting_len, next_message, reply_frame}
use Rattle.dns_server.specs.Serving.{AreOnly, AreSplit, Happen, IsHistory, IsServed, IsServedOut, Replies, RepliesTo, ServesNext, Step, Receive, Serve, Write, empty_stream, received_in}

-- ---- the first frame

-- the message of a first frame that is there
pub first-is : (bytes message : List ℕ) → first_message bytes ≡ Some message
    → (frame_len bytes ≤ length bytes) × (message ≡ take (frame_len bytes - 2) (drop 2 bytes))
first-is bytes message e = by (nat_le (frame_len bytes) (length bytes)) refl e
  where
    by : (b : Bool) → nat_le (frame_len bytes) (length bytes) ≡ b
        → cond b (Some (take (frame_len bytes - 2) (drop 2 bytes))) None ≡ Some message
        → (frame_len bytes ≤ length bytes) × (message ≡ take (frame_len bytes - 2) (drop 2 bytes))
    by true t h = (grind (arith, nat_tests), cc)
    by false t h = absurd (cc)

-- a first frame that is there has a message
pub is-first : (bytes : List ℕ) → frame_len bytes ≤ length bytes → first_message bytes ≡ Some (take (frame_len bytes - 2) (drop 2 bytes))
is-first bytes le = by (nat_le (frame_len bytes) (length bytes)) refl
  where
    by : (b : Bool) → nat_le (frame_len bytes) (length bytes) ≡ b
        → cond b (Some (take (frame_len bytes - 2) (drop 2 bytes))) None ≡ Some (take (frame_len bytes - 2) (drop 2 bytes))
    by true t = refl
    by false t = absurd (grind (arith, nat_tests))

-- a next message is that of the first frame
pub next-first : (c : Stream) (message : List ℕ) → next_message c ≡ Some message → first_message c.input ≡ Some message
next-first c message e = by (nat_le (length c.output) max_waiting_len) e
  where
    by : (b : Bool) → cond b (first_message c.input) None ≡ Some message → first_message c.input ≡ Some message
    by true h = h
    by false h = absurd (cc)

-- ---- splits

-- one more frame is split off
pub split-next : (bytes : List ℕ) (messages : List (List ℕ)) (rest message : List ℕ) → AreSplit bytes messages rest
    → first_message rest ≡ Some message → AreSplit bytes (messages ++ message ∷ []) (behind_frame rest)
split-next bytes [] rest message e first = (subst (λ (b : List ℕ). first_message b ≡ Some message) e first, ap behind_frame e)
split-next bytes (m ∷ more) rest message (f, s) first = (f, split-next (behind_frame bytes) more rest message s first)

-- a first frame stays when bytes follow
first-grow : (bytes more message : List ℕ) → first_message bytes ≡ Some message
    → (first_message (bytes ++ more) ≡ Some message) × (behind_frame (bytes ++ more) ≡ behind_frame bytes ++ more)
first-grow [] more message e = let h = first-is [] message e in absurd (omega (arith, h.0))
first-grow (x ∷ []) more message e = let h = first-is (x ∷ []) message e in absurd (omega (arith, h.0))
first-grow (high ∷ low ∷ rest) more message e =
    let n : ℕ = 2 + (256 * high + low) in
    let h = first-is (high ∷ low ∷ rest) message e in
    let within : n ≤ length (high ∷ low ∷ rest) = h.0 in
    let longer : n ≤ length (high ∷ low ∷ (rest ++ more)) = omega (arith, within, length-append rest more) in
    let short : n - 2 ≤ length rest = omega (arith, within) in (
      is-first (high ∷ low ∷ (rest ++ more)) longer
          ∙ ap (λ (m : List ℕ). Some m) (take-append-le (n - 2) rest more short ∙ sym h.1),
      drop-append-le n (high ∷ low ∷ rest) more within,
    )

-- splits stay when bytes follow
pub split-grow : (bytes more : List ℕ) (messages : List (List ℕ)) (rest : List ℕ) → AreSplit bytes messages rest
    → AreSplit (bytes ++ more) messages (rest ++ more)
split-grow bytes more [] rest e = ap (λ (b : List ℕ). b ++ more) e
split-grow bytes more (m ∷ ms) rest (f, s) =
    let g = first-grow bytes more m f in
    (g.0, subst (λ (b : List ℕ). AreSplit b ms (rest ++ more)) (sym g.1) (split-grow (behind_frame bytes) more ms rest s))

-- bytes are split in one way, if no whole frame is left
pub split-only : (bytes : List ℕ) (ms ns : List (List ℕ)) (r q : List ℕ) → AreSplit bytes ms r → first_message r ≡ None
    → AreSplit bytes ns q → first_message q ≡ None → (ms ≡ ns) × (r ≡ q)
split-only bytes [] [] r q e none f stop = (refl, e ∙ sym f)
split-only bytes [] (m ∷ more) r q e none (f, s) stop =
    let both : ◌≡◌ {A = Option (List ℕ)} None (Some m) = sym none ∙ (ap first_message e ∙ f) in absurd (cc)
split-only bytes (m ∷ more) [] r q (f, s) none e stop =
    let both : ◌≡◌ {A = Option (List ℕ)} None (Some m) = sym stop ∙ (ap first_message e ∙ f) in absurd (cc)
split-only bytes (m ∷ more) (n ∷ others) r q (f, s) none (g, t) stop =
    let both : ◌≡◌ {A = Option (List ℕ)} (Some m) (Some n) = sym f ∙ g in
    let same : m ≡ n = cc in
    let rest = split-only (behind_frame bytes) more others r q s none t stop in
    ((λ i. same i ∷ rest.0 i), rest.1)

-- ---- replies

-- one more message is replied to
pub replies-next : {S : Type 0} (replies : Replies S) (s : S) (messages : List (List ℕ)) (frames : List ℕ) (now : S) (message : List ℕ)
    (reply : Option (List ℕ)) (after : S) → RepliesTo replies s messages frames now → replies now message reply after
    → RepliesTo replies s (messages ++ message ∷ []) (frames ++ reply_frame reply) after
replies-next {S} replies s [] frames now message reply after (e, n) r = (
  reply,
  (
    after,
    (
      [],
      (
        subst (λ (at : S). replies at message reply after) n r,
        (ap (λ (x : List ℕ). x ++ reply_frame reply) e ∙ sym (append-nil (reply_frame reply)), (refl, refl)),
      ),
    ),
  ),
)
replies-next {S} replies s (m ∷ more) frames now message reply after (first, (between, (rest, (r, (e, others))))) last = (
  first,
  (
    between,
    (
      rest ++ reply_frame reply,
      (
        r,
        (
          ap (λ (x : List ℕ). x ++ reply_frame reply) e ∙ append_assoc (reply_frame first) rest (reply_frame reply),
          replies-next replies between more rest now message reply after others last,
        ),
      ),
    ),
  ),
)

-- messages have one run of replies, if each has one
pub replies-only : {S : Type 0} (replies : Replies S) → AreOnly replies → (s : S) (messages : List (List ℕ)) (one other : List ℕ) (after new : S)
    → RepliesTo replies s messages one after → RepliesTo replies s messages other new → (one ≡ other) × (after ≡ new)
replies-only replies only s [] one other after new (e, n) (f, t) = (e ∙ sym f, n ∙ sym t)
replies-only {S} replies only s (m ∷ more) one other after new (p, (b, (rest, (r, (e, others))))) (q, (d, (last, (t, (f, more-others))))) =
    let same = only s m p q b d r t in
    let moved : RepliesTo replies b more last new = subst (λ (at : S). RepliesTo replies at more last new) (sym same.1) more-others in
    let after-same = replies-only replies only b more rest last after new others moved in
    (e ∙ ((λ i. reply_frame (same.0 i) ++ after-same.0 i) ∙ sym f), after-same.1)

-- ---- the frames of a connection

-- the next message is served too
pub served-next : {S : Type 0} (replies : Replies S) (s : S) (c : Stream) (now : S) (d : Stream) (after : S) (new : Stream)
    → IsServed replies s c now d → ServesNext replies now d after new true → IsServed replies s c after new
served-next {S} replies s c now d after new h (message, (reply, (next, (r, is)))) = record {
  messages = h.messages ++ message ∷ [];
  frames = h.frames ++ reply_frame reply;
  split =
      subst (λ (x : Stream). AreSplit c.input (h.messages ++ message ∷ []) x.input) (sym is)
      (split-next c.input h.messages d.input message h.split (next-first d message next));
  output =
      ap (λ (x : Stream). x.output) is ∙ (ap (λ (x : List ℕ). x ++ reply_frame reply) h.output
      ∙ append_assoc c.output h.frames (reply_frame reply));
  replied = replies-next replies s h.messages h.frames now message reply after h.replied r;
}

-- no message is served
pub served-none : {S : Type 0} (replies : Replies S) (s : S) (c : Stream) (now : S) (d : Stream) (after : S) (new : Stream)
    → IsServed replies s c now d → ServesNext replies now d after new false → IsServed replies s c after new
served-none {S} replies s c now d after new h (none, (same, is)) =
    subst (λ (x : Stream). IsServed replies s c after x) (sym is) (subst (λ (x : S). IsServed replies s c x d) (sym same) h)

-- the same, by whether there was one
pub served-on : {S : Type 0} (replies : Replies S) (s : S) (c : Stream) (now : S) (d : Stream) (after : S) (new : Stream) (b : Bool) → b ≡ true
    → IsServed replies s c now d → ServesNext replies now d after new b → IsServed replies s c after new
served-on replies s c now d after new true e h n = served-next replies s c now d after new h n
served-on replies s c now d after new false e h n = absurd (cc)

pub served-up : {S : Type 0} (replies : Replies S) (s : S) (c : Stream) (now : S) (d : Stream) (after : S) (new : Stream) (b : Bool) → b ≡ false
    → IsServed replies s c now d → ServesNext replies now d after new b → IsServed replies s c after new
served-up replies s c now d after new true e h n = absurd (cc)
served-up replies s c now d after new false e h n = served-none replies s c now d after new h n

-- ---- all that happens on a connection

-- a history goes on by steps
history-on : {S : Type 0} (replies : Replies S) (start now new : S) (received written : List ℕ) (c d : Stream) (steps : List Step) (more : List ℕ)
    → IsHistory replies start received written now c → Happen replies now c steps more new d
    → IsHistory replies start (received ++ received_in steps) (written ++ more) new d
history-on {S} replies start now new received written c d [] more h (e, (n, is)) =
    subst (λ (x : List ℕ). IsHistory replies start x (written ++ more) new d) (sym (append-nil received))
    (subst (λ (x : List ℕ). IsHistory replies start received x new d) (sym (ap (λ (x : List ℕ). written ++ x) e ∙ append-nil written))
    (subst (λ (x : S). IsHistory replies start received written x d) (sym n)
    (subst (λ (x : Stream). IsHistory replies start received written now x) (sym is) h)))
history-on replies start now new received written c d (Receive bytes ∷ steps) more h happen =
    let grown : Stream = record c { input = c.input ++ bytes } in
    let next : IsHistory replies start (received ++ bytes) written now grown = record {
      messages = h.messages;
      split = split-grow received bytes h.messages c.input h.split;
      replied = h.replied;
    } in
    subst (λ (x : List ℕ). IsHistory replies start x (written ++ more) new d) (append_assoc received bytes (received_in steps))
    (history-on replies start now new (received ++ bytes) written grown d steps more next happen)
history-on replies start now new received written c d (Serve reply ∷ steps) more h (message, (between, (next, (r, happen)))) =
    let served : IsHistory replies start received written between (completed c reply) = record {
      messages = h.messages ++ message ∷ [];
      split = split-next received h.messages c.input message h.split (next-first c message next);
      replied =
          subst (λ (x : List ℕ). RepliesTo replies start (h.messages ++ message ∷ []) x between)
          (append_assoc written c.output (reply_frame reply))
          (replies-next replies start h.messages (written ++ c.output) now message reply between h.replied r);
    } in
    history-on replies start between new received written (completed c reply) d steps more served happen
history-on replies start now new received written c d (Write count ∷ steps) more h (rest, (le, (e, happen))) =
    let front : List ℕ = take count c.output in
    let left : Stream = record c { output = drop count c.output } in
    let whole : written ++ c.output ≡ (written ++ front) ++ drop count c.output =
    ap (λ (x : List ℕ). written ++ x) (sym (take-append-drop count c.output)) ∙ sym (append_assoc written front (drop count c.output)) in
    let next : IsHistory replies start received (written ++ front) now left = record {
      messages = h.messages;
      split = h.split;
      replied = subst (λ (x : List ℕ). RepliesTo replies start h.messages x now) whole h.replied;
    } in
    subst (λ (x : List ℕ). IsHistory replies start (received ++ received_in steps) x new d)
    (append_assoc written front rest ∙ ap (λ (x : List ℕ). written ++ x) (sym e))
    (history-on replies start now new received (written ++ front) left d steps rest next happen)

-- all that happens on a new connection is a history
pub happen-history : {S : Type 0} (replies : Replies S) (start now : S) (steps : List Step) (written : List ℕ) (c : Stream)
    → Happen replies start empty_stream steps written now c → IsHistory replies start (received_in steps) written now c
happen-history replies start now steps written c happen =
    let begun : IsHistory replies start [] [] start empty_stream = record { messages = []; split = refl; replied = (refl, refl) } in
    history-on replies start start now [] [] empty_stream c steps written begun happen

-- two histories of the same bytes agree, if no whole frame is left
pub histories-agree : {S : Type 0} (replies : Replies S) → AreOnly replies → (start : S) (received one other : List ℕ) (now new : S) (c d : Stream)
    → IsHistory replies start received one now c → IsServedOut c → IsHistory replies start received other new d → IsServedOut d
    → (one ++ c.output ≡ other ++ d.output) × ((c.input ≡ d.input) × (now ≡ new))
histories-agree {S} replies only start received one other now new c d h out k gone =
    let same = split-only received h.messages k.messages c.input d.input h.split out k.split gone in
    let moved : RepliesTo replies start h.messages (other ++ d.output) new =
    subst (λ (ms : List (List ℕ)). RepliesTo replies start ms (other ++ d.output) new) (sym same.0) k.replied in
    let replied = replies-only replies only start h.messages (one ++ c.output) (other ++ d.output) now new h.replied moved in
    (replied.0, (same.1, replied.1))

-- ---- frames that were written

-- the first frame of a stream that was written
first-frame : (message rest : List ℕ) → length message ≤ 65535
    → (first_message (frame message ++ rest) ≡ Some message) × (behind_frame (frame message ++ rest) ≡ rest)
first-frame message rest short =
    let high : ℕ = length message / 256 in
    let low : ℕ = length message % 256 in
    let n : ℕ = 2 + (256 * high + low) in
    let is : n ≡ 2 + length message = omega arith in
    let within : n ≤ length (high ∷ low ∷ (message ++ rest)) = omega (arith, is, length-append message rest) in
    let front : n - 2 ≤ length message = omega (arith, is) in
    let whole : length message ≤ n - 2 = omega (arith, is) in
    let past : length (high ∷ low ∷ message) ≤ n = omega (arith, is) in
    let behind : n ≤ length (high ∷ low ∷ message) = omega (arith, is) in (
      is-first (high ∷ low ∷ (message ++ rest)) within
          ∙ ap (λ (m : List ℕ). Some m) (take-append-le (n - 2) message rest front ∙ take_all (n - 2) message whole),
      drop-append-le n (high ∷ low ∷ message) rest behind
          ∙ ap (λ (x : List ℕ). x ++ rest) (drop_all n (high ∷ low ∷ message) past),
    )

pub written-split : (messages : List (List ℕ)) (part : List ℕ) → AreShort messages → AreSplit (stream_of messages ++ part) messages part
written-split [] part short = refl
written-split (m ∷ more) part (short, others) =
    let first = first-frame m (stream_of more ++ part) short in
    let whole : stream_of (m ∷ more) ++ part ≡ frame m ++ (stream_of more ++ part) = append_assoc (frame m) (stream_of more) part in (
      ap first_message whole ∙ first.0,
      subst (λ (b : List ℕ). AreSplit b more part) (sym (ap behind_frame whole ∙ first.1)) (written-split more part others),
    )
