-- Replies that a signed network hands on are bytes that the network below gave, and were signed for the request that it was given.
use Rattle.std.proofs.Common.{◌≡◌, ◌⊎◌, List, [], ◌∷◌, ◌++◌, ℕ, Option, Some, None, Result, Ok, Err, refl, sym, subst, ap, ◌∙◌, append_assoc, inl, inr}
use Rattle.std.proofs.lemmas.List.Elements.{All-append, All-cons, All-nil}
use Rattle.std.specs.Global.{Vec}
use Rattle.std.specs.List.{All}
use Rattle.std.specs.Prelude.{IfOk, IfSome}
use Rattle.std.specs.declared.net.socket_addr.SocketAddr.{SocketAddr}
use Rattle.dns_tsig.specs.signer.Signer.{Checks, SignsRequest}
use Rattle.dns_tsig.specs.declared.signer.refusal.Refusal.{Refusal}
use Rattle.dns_tsig.specs.declared.signer.refusal.TsigError.{TsigError}
use Rattle.dns_tsig.specs.declared.key.Key.{Key}
use Rattle.stub_link.specs.Link.{datagram_of}
use Rattle.stub_link.specs.Wait.{one_more}
use Rattle.stub_link.specs.declared.link.LinkError.{LinkError}
use Rattle.stub_net.specs.Network.{NetworkCalls}
use Rattle.stub_net.specs.signed.Reply.{BringsReply, IsRepliedOver, by_datagram, by_stream}
use Rattle.stub_net.specs.signed.Run.{ClockRead, IsClockRead, IsOfWait, IsRun, IsStep, NetworkStep, Received, Sent, Streamed}
use Rattle.stub_net.specs.signed.Signed.{AfterCame, AfterCheck, AfterSigned, AfterSignedStream, AfterStreamed, ChecksReply, ReadsClock, ReadsTime, ReceivesSigned, SendsSigned, Signs, StreamsSigned, datagram_after, over, stream_after, time_at}
use Rattle.stub_net.specs.declared.signed.network.SignedNetwork.{SignedNetwork}

-- ---- runs of the network below

-- one run after another
run_append : {N : Type 0} (calls : NetworkCalls N) (run more : List NetworkStep) (old mid new : N) → IsRun calls old run mid → IsRun calls mid more new → IsRun calls old (run ++ more) new
run_append calls [] more old mid new r s = subst (λ n. IsRun calls n more new) r s
run_append calls (step ∷ run) more old mid new r s = (r.0, r.1, run_append calls run more r.0 mid new r.2 s)

-- A request was sent as a datagram, and since then nothing but a wait.
pub record AskedBy {N : Type 0} (calls : NetworkCalls N) (key : Key) (base : ℕ) (bytes : List ℕ) (first now : N) (code : List ℕ) : Type 0 where
  before : List NetworkStep
  signed_at : ℕ
  signed : List ℕ
  signs : SignsRequest key bytes (time_at base signed_at) code signed
  server : SocketAddr
  wait : List NetworkStep
  waits : All IsOfWait wait
  is_run : IsRun calls first (before ++ (ClockRead signed_at ∷ Sent server signed (Ok tt) ∷ wait)) now

-- a reply to a request came just now
pub record BroughtBy {N : Type 0} (calls : NetworkCalls N) (key : Key) (base : ℕ) (bytes : List ℕ) (first now : N) (code reply : List ℕ) : Type 0 where
  before : List NetworkStep
  signed_at : ℕ
  signed : List ℕ
  signs : SignsRequest key bytes (time_at base signed_at) code signed
  server : SocketAddr
  exchange : List NetworkStep
  brings : BringsReply server signed reply exchange
  is_run : IsRun calls first (before ++ (ClockRead signed_at ∷ exchange)) now

-- A request is signed when the clock reads a moment, and the network below does nothing else.
pub record SignedAt {N : Type 0} (calls : NetworkCalls N) (key : Key) (base : ℕ) (bytes : List ℕ) (old : N) (new : SignedNetwork N) (signed : List ℕ) : Type 0 where
  clock : ℕ
  reads : calls.reads_clock old clock new.network
  key_is : new.signer.key ≡ key
  base_is : new.base ≡ base
  signs : SignsRequest key bytes (time_at base clock) new.signer.code.items signed

module _ {N : Type 0} (calls : NetworkCalls N) (key : Key) (base : ℕ) (bytes : List ℕ) (first : N) where
  -- the network has the key, and its time begins at the base
  abbrev pub Has : SignedNetwork N → Type 0
  Has s = (s.signer.key ≡ key) × (s.base ≡ base)

  -- the network below has come here
  abbrev pub Reached : SignedNetwork N → Type 0
  Reached s = Has s × (run : List NetworkStep) × IsRun calls first run s.network

  -- the signed request was sent as a datagram, and a wait goes on
  abbrev pub Asked : SignedNetwork N → Type 0
  Asked s = Has s × AskedBy calls key base bytes first s.network s.signer.code.items

  -- a reply to the signed request came just now
  abbrev Brought : List ℕ → SignedNetwork N → Type 0
  Brought reply s = Has s × BroughtBy calls key base bytes first s.network s.signer.code.items reply

  -- a message is the signed reply that was received last on the way here
  abbrev pub Replied : SignedNetwork N → List ℕ → Type 0
  Replied s message = IsRepliedOver calls key base bytes first s.network message

  pub asked_reached : (s : SignedNetwork N) → Asked s → Reached s
  asked_reached s h = (h.0, _, h.1.is_run)

  -- ---- steps of the network below

  -- one more step
  further : (run : List NetworkStep) (step : NetworkStep) (old new : N) → IsRun calls first run old → IsStep calls old step new → IsRun calls first (run ++ step ∷ []) new
  further run step old new r s = run_append calls run (step ∷ []) first old new r (new, s, refl)

  reached_further : (s : SignedNetwork N) (step : NetworkStep) (n : N) → Reached s → IsStep calls s.network step n → Reached (over n s)
  reached_further s step n h i = (h.0, h.1 ++ step ∷ [], further h.1 step s.network n h.2 i)

  asked_further : (s : SignedNetwork N) (step : NetworkStep) (n : N) → IsOfWait step → Asked s → IsStep calls s.network step n → Asked (over n s)
  asked_further s step n w h i =
      let a = h.1 in (
        h.0,
        record {
          before = a.before;
          signed_at = a.signed_at;
          signed = a.signed;
          signs = a.signs;
          server = a.server;
          wait = a.wait ++ step ∷ [];
          waits = All-append IsOfWait a.wait (step ∷ []) a.waits (All-cons IsOfWait step [] w (All-nil IsOfWait));
          is_run = subst (λ run. IsRun calls first run n) (simp append_assoc) (further (a.before ++ (ClockRead a.signed_at ∷ Sent a.server a.signed (Ok tt) ∷ a.wait)) step s.network n a.is_run i);
        },
      )

  -- a datagram that is received in the wait
  datagram_brought : (s : SignedNetwork N) (deadline : ℕ) (reply : List ℕ) (n : N) → Asked s → calls.receives s.network deadline (Ok (Some reply)) n → Brought reply (over n s)
  datagram_brought s deadline reply n h r =
      let a = h.1 in
      let step : NetworkStep = Received deadline (Ok (Some reply)) in (
        h.0,
        record {
          before = a.before;
          signed_at = a.signed_at;
          signed = a.signed;
          signs = a.signs;
          server = a.server;
          exchange = Sent a.server a.signed (Ok tt) ∷ a.wait ++ step ∷ [];
          brings = by_datagram a.wait deadline a.waits;
          is_run = subst (λ run. IsRun calls first run n) (simp append_assoc) (further (a.before ++ (ClockRead a.signed_at ∷ Sent a.server a.signed (Ok tt) ∷ a.wait)) step s.network n a.is_run r);
        },
      )

  -- the clock is read once more after a reply
  replied_further : (old new : N) (now : ℕ) (message : List ℕ) → calls.reads_clock old now new → IsRepliedOver calls key base bytes first old message → IsRepliedOver calls key base bytes first new message
  replied_further old new now message r h =
      let e = h.ends in
      record {
        run = h.run ++ ClockRead now ∷ [];
        is_run = further h.run (ClockRead now) old new h.is_run r;
        ends = record {
          before = e.before;
          signed_at = e.signed_at;
          code = e.code;
          signed = e.signed;
          signs = e.signs;
          server = e.server;
          reply = e.reply;
          exchange = e.exchange;
          brings = e.brings;
          checked_at = e.checked_at;
          accepted = e.accepted;
          after = e.after ++ ClockRead now ∷ [];
          quiet = All-append IsClockRead e.after (ClockRead now ∷ []) e.quiet (All-cons IsClockRead (ClockRead now) [] tt (All-nil IsClockRead));
          run_is = ap (λ run. run ++ ClockRead now ∷ []) e.run_is ∙ simp append_assoc;
        };
      }

  -- ---- the clock

  time_reached : (old mid : SignedNetwork N) (time : ℕ) → ReadsTime calls.reads_clock old time mid → Reached old → Reached mid
  time_reached old mid time r h = subst Reached (sym r.new_is) (reached_further old (ClockRead r.clock) r.network h r.reads)

  time_asked : (old mid : SignedNetwork N) (time : ℕ) → ReadsTime calls.reads_clock old time mid → Asked old → Asked mid
  time_asked old mid time r h = subst Asked (sym r.new_is) (asked_further old (ClockRead r.clock) r.network tt h r.reads)

  pub clock_reached : (old new : SignedNetwork N) (now : ℕ) → ReadsClock calls.reads_clock old now new → Reached old → Reached new
  clock_reached old new now r h = subst Reached (sym r.new_is) (reached_further old (ClockRead now) r.network h r.reads)

  pub clock_asked : (old new : SignedNetwork N) (now : ℕ) → ReadsClock calls.reads_clock old now new → Asked old → Asked new
  clock_asked old new now r h = subst Asked (sym r.new_is) (asked_further old (ClockRead now) r.network tt h r.reads)

  pub clock_replied : (old new : SignedNetwork N) (now : ℕ) (message : List ℕ) → ReadsClock calls.reads_clock old now new → Replied old message → Replied new message
  clock_replied old new now message r h = subst (λ (s : SignedNetwork N). Replied s message) (sym r.new_is) (replied_further old.network r.network now message r.reads h)

  -- ---- requests

  signs_reached : (old new : SignedNetwork N) (result : Result (List ℕ) LinkError) → Reached old → Signs calls.reads_clock old bytes result new → Reached new
  signs_reached old new result h s =
      let mid : Reached s.mid = time_reached old s.mid s.time s.reads h in
      subst Reached (sym s.new_is) ((s.key_is ∙ h.0.0, mid.0.1), mid.1, mid.2)

  signs_at : (old new : SignedNetwork N) (signed : List ℕ) → Has old → Signs calls.reads_clock old bytes (Ok signed) new → SignedAt calls key base bytes old.network new signed
  signs_at old new signed h s =
      let time_is : s.time ≡ time_at base s.reads.clock = s.reads.time_is ∙ ap (λ b. time_at b s.reads.clock) h.1 in
      let by_key : SignsRequest key bytes s.time s.signer.code.items signed = subst (λ (k : Key). SignsRequest k bytes s.time s.signer.code.items signed) h.0 s.after in
      let there : SignedAt calls key base bytes old.network (record (over s.reads.network old) { signer = s.signer }) signed = record {
        clock = s.reads.clock;
        reads = s.reads.reads;
        key_is = s.key_is ∙ h.0;
        base_is = h.1;
        signs = subst (λ t. SignsRequest key bytes t s.signer.code.items signed) time_is by_key;
      } in
      subst (λ (n : SignedNetwork N). SignedAt calls key base bytes old.network n signed) (sym s.new_is)
      (subst (λ (n : SignedNetwork N). SignedAt calls key base bytes old.network (record n { signer = s.signer }) signed) (sym s.reads.new_is) there)

  -- after a send the signed request was sent, or it failed
  abbrev pub AfterSending : Result (Unit {0}) LinkError → SignedNetwork N → Type 0
  AfterSending (Ok done) s = Asked s
  AfterSending (Err error) s = Reached s

  signed_sent : (server : SocketAddr) (signed : List ℕ) (old mid : SignedNetwork N) (n : N) → Reached old → SignedAt calls key base bytes old.network mid signed → calls.sends mid.network server signed (Ok tt) n → Asked (over n mid)
  signed_sent server signed old mid n h g i = (
    (g.key_is, g.base_is),
    record {
      before = h.1;
      signed_at = g.clock;
      signed = signed;
      signs = g.signs;
      server = server;
      wait = [];
      waits = All-nil IsOfWait;
      is_run = run_append calls h.1 (ClockRead g.clock ∷ Sent server signed (Ok tt) ∷ []) first old.network n h.2 (mid.network, g.reads, (n, i, refl));
    },
  )

  sent_signed : (server : SocketAddr) (signed : Result (List ℕ) LinkError) (old mid : SignedNetwork N) (result : Result (Unit {0}) LinkError) (new : SignedNetwork N) → Reached old → Signs calls.reads_clock old bytes signed mid
      → AfterSigned calls.sends server signed mid result new → AfterSending result new
  sent_signed server (Ok signed) old mid (Ok done) new h s a = subst Asked (sym a.2) (signed_sent server signed old mid a.0 h (signs_at old mid signed h.0 s) a.1)
  sent_signed server (Ok signed) old mid (Err error) new h s a = subst Reached (sym a.2) (reached_further mid (Sent server signed (Err error)) a.0 (signs_reached old mid (Ok signed) h s) a.1)
  sent_signed server (Err error) old mid (Ok done) new h s a = absurd (cc)
  sent_signed server (Err error) old mid (Err other) new h s a = subst Reached (sym a.1) (signs_reached old mid (Err error) h s)

  pub send_signed : (server : SocketAddr) (old new : SignedNetwork N) (result : Result (Unit {0}) LinkError) → Reached old → SendsSigned calls.sends calls.reads_clock old server bytes result new → AfterSending result new
  send_signed server old new result h s = sent_signed server s.signed old s.mid result new h s.signs s.after

  -- ---- replies

  -- what a check of a reply leads to
  abbrev Came : Result (Option (List ℕ)) LinkError → SignedNetwork N → Type 0
  Came (Ok (Some message)) s = Replied s message
  Came (Ok None) s = Unit {0}
  Came (Err error) s = Unit {0}

  -- the network after a check is as it was when the clock was read, but for what is told of replies
  after_check : (P : SignedNetwork N → Type 0) → ((s : SignedNetwork N) (refused : ℕ) (refusal : Option Refusal) (error : Option TsigError) → P s → P (record s { refused = refused; refusal = refusal; error = error }))
      → (reply : List ℕ) (time : ℕ) (mid : SignedNetwork N) (result : Result (Option (List ℕ)) LinkError) (new : SignedNetwork N) → P mid → AfterCheck reply time mid result new → P new
  after_check P p reply time mid (Ok (Some message)) new h a = subst P (sym a.2) (p mid mid.refused mid.refusal a.0 h)
  after_check P p reply time mid (Ok None) new h a = subst P (sym a.2) (p mid (one_more mid.refused) (Some a.0) mid.error h)
  after_check P p reply time mid (Err error) new h a = subst P (sym a.1) h

  check_reached : (reply : List ℕ) (old : SignedNetwork N) (result : Result (Option (List ℕ)) LinkError) (new : SignedNetwork N) → Reached old → ChecksReply calls.reads_clock old reply result new → Reached new
  check_reached reply old result new h c = after_check Reached (λ s refused refusal error r. r) reply c.time c.mid result new (time_reached old c.mid c.time c.reads h) c.after

  check_asked : (reply : List ℕ) (old : SignedNetwork N) (result : Result (Option (List ℕ)) LinkError) (new : SignedNetwork N) → Asked old → ChecksReply calls.reads_clock old reply result new → Asked new
  check_asked reply old result new h c = after_check Asked (λ s refused refusal error r. r) reply c.time c.mid result new (time_asked old c.mid c.time c.reads h) c.after

  -- what is accepted was brought, and checked when the clock was read
  brought_replied : (reply message : List ℕ) (old : SignedNetwork N) (n : N) (clock : ℕ) (error : Option TsigError) → Brought reply old → calls.reads_clock old.network clock n
      → Checks old.signer.key old.signer.code.items reply (time_at old.base clock) (Ok (record { message = message; error = error })) → IsRepliedOver calls key base bytes first n message
  brought_replied reply message old n clock error h r c =
      let b = h.1 in
      let by_key : Checks key old.signer.code.items reply (time_at old.base clock) (Ok (record { message = message; error = error })) = subst (λ (k : Key). Checks k old.signer.code.items reply (time_at old.base clock) (Ok (record { message = message; error = error }))) h.0.0 c in
      record {
        run = (b.before ++ (ClockRead b.signed_at ∷ b.exchange)) ++ ClockRead clock ∷ [];
        is_run = further (b.before ++ (ClockRead b.signed_at ∷ b.exchange)) (ClockRead clock) old.network n b.is_run r;
        ends = record {
          before = b.before;
          signed_at = b.signed_at;
          code = old.signer.code.items;
          signed = b.signed;
          signs = b.signs;
          server = b.server;
          reply = reply;
          exchange = b.exchange;
          brings = b.brings;
          checked_at = clock;
          accepted = record { error = error; checks = subst (λ zero. Checks key old.signer.code.items reply (time_at zero clock) (Ok (record { message = message; error = error }))) h.0.1 by_key };
          after = [];
          quiet = All-nil IsClockRead;
          run_is = simp append_assoc;
        };
      }

  checked_came : (reply : List ℕ) (old : SignedNetwork N) (n : N) (clock time : ℕ) (mid : SignedNetwork N) (result : Result (Option (List ℕ)) LinkError) (new : SignedNetwork N) → Brought reply old → calls.reads_clock old.network clock n
      → time ≡ time_at old.base clock → mid ≡ over n old → AfterCheck reply time mid result new → Came result new
  checked_came reply old n clock time mid (Ok (Some message)) new h r t e a =
      let at_mid : Checks mid.signer.key mid.signer.code.items reply (time_at old.base clock) (Ok (record { message = message; error = a.0 })) = subst (λ t. Checks mid.signer.key mid.signer.code.items reply t (Ok (record { message = message; error = a.0 }))) t a.1 in
      let at_old : Checks old.signer.key old.signer.code.items reply (time_at old.base clock) (Ok (record { message = message; error = a.0 })) = subst (λ (s : SignedNetwork N). Checks s.signer.key s.signer.code.items reply (time_at old.base clock) (Ok (record { message = message; error = a.0 }))) e at_mid in
      subst (λ (s : SignedNetwork N). Replied s message) (sym (a.2 ∙ ap (λ (s : SignedNetwork N). record s { error = a.0 }) e)) (brought_replied reply message old n clock a.0 h r at_old)
  checked_came reply old n clock time mid (Ok None) new h r t e a = tt
  checked_came reply old n clock time mid (Err error) new h r t e a = tt

  check_came : (reply : List ℕ) (old : SignedNetwork N) (result : Result (Option (List ℕ)) LinkError) (new : SignedNetwork N) → Brought reply old → ChecksReply calls.reads_clock old reply result new → Came result new
  check_came reply old result new h c = checked_came reply old c.reads.network c.reads.clock c.time c.mid result new h c.reads.reads c.reads.time_is c.reads.new_is c.after

  -- what is handed on of datagrams: signed replies, and empty ones
  abbrev pub HandedOn : Result (Option (List ℕ)) LinkError → SignedNetwork N → Type 0
  HandedOn (Ok (Some message)) s = (message ≡ []) ⊎ Replied s message
  HandedOn (Ok None) s = Unit {0}
  HandedOn (Err error) s = Unit {0}

  datagram_came : (checked : Result (Option (List ℕ)) LinkError) (s : SignedNetwork N) → Came checked s → HandedOn (datagram_after checked) s
  datagram_came (Ok (Some message)) s h = inr h
  datagram_came (Ok None) s h = inl refl
  datagram_came (Err error) s h = tt

  after_came : (came : Result (Option (List ℕ)) LinkError) (deadline : ℕ) (old : SignedNetwork N) (n : N) (result : Result (Option (List ℕ)) LinkError) (new : SignedNetwork N) → Asked old → calls.receives old.network deadline came n
      → AfterCame calls.reads_clock came (over n old) result new → Asked new × HandedOn result new
  after_came (Ok (Some reply)) deadline old n result new h i a = (
    check_asked reply (over n old) a.checked new (asked_further old (Received deadline (Ok (Some reply))) n tt h i) a.checks,
    subst (λ r. HandedOn r new) (sym a.result_is) (datagram_came a.checked new (check_came reply (over n old) a.checked new (datagram_brought old deadline reply n h i) a.checks)),
  )
  after_came (Ok None) deadline old n result new h i a = (subst Asked (sym a.1) (asked_further old (Received deadline (Ok None)) n tt h i), subst (λ r. HandedOn r new) (sym a.0) tt)
  after_came (Err error) deadline old n result new h i a = (subst Asked (sym a.1) (asked_further old (Received deadline (Err error)) n tt h i), subst (λ r. HandedOn r new) (sym a.0) tt)

  pub receive_ready : (deadline : ℕ) (old : SignedNetwork N) (result : Result (Option (List ℕ)) LinkError) (new : SignedNetwork N) → Asked old → ReceivesSigned calls.receives calls.reads_clock old deadline result new → Asked new × HandedOn result new
  receive_ready deadline old result new h r = after_came r.came deadline old r.network result new h r.receives_it r.after

  -- ---- streams

  abbrev pub FromStream : Result (List ℕ) LinkError → SignedNetwork N → Type 0
  FromStream (Ok message) s = Replied s message
  FromStream (Err error) s = Unit {0}

  stream_came : (checked : Result (Option (List ℕ)) LinkError) (s : SignedNetwork N) → Came checked s → FromStream (stream_after checked) s
  stream_came (Ok (Some message)) s h = h
  stream_came (Ok None) s h = tt
  stream_came (Err error) s h = tt

  stream_brought : (server : SocketAddr) (signed : List ℕ) (deadline : ℕ) (reply : List ℕ) (old mid : SignedNetwork N) (n : N) → Reached old → SignedAt calls key base bytes old.network mid signed
      → calls.streams mid.network server signed deadline (Ok reply) n → Brought reply (over n mid)
  stream_brought server signed deadline reply old mid n h g i = (
    (g.key_is, g.base_is),
    record {
      before = h.1;
      signed_at = g.clock;
      signed = signed;
      signs = g.signs;
      server = server;
      exchange = Streamed server signed deadline (Ok reply) ∷ [];
      brings = by_stream deadline;
      is_run = run_append calls h.1 (ClockRead g.clock ∷ Streamed server signed deadline (Ok reply) ∷ []) first old.network n h.2 (mid.network, g.reads, (n, i, refl));
    },
  )

  after_streamed : (server : SocketAddr) (signed : List ℕ) (deadline : ℕ) (came : Result (List ℕ) LinkError) (old mid : SignedNetwork N) (n : N) (result : Result (List ℕ) LinkError) (new : SignedNetwork N) → Reached old → Reached mid
      → SignedAt calls key base bytes old.network mid signed → calls.streams mid.network server signed deadline came n → AfterStreamed calls.reads_clock came (over n mid) result new → Reached new × FromStream result new
  after_streamed server signed deadline (Ok reply) old mid n result new h k g i a = (
    check_reached reply (over n mid) a.checked new (reached_further mid (Streamed server signed deadline (Ok reply)) n k i) a.checks,
    subst (λ r. FromStream r new) (sym a.result_is) (stream_came a.checked new (check_came reply (over n mid) a.checked new (stream_brought server signed deadline reply old mid n h g i) a.checks)),
  )
  after_streamed server signed deadline (Err error) old mid n result new h k g i a =
      (subst Reached (sym a.1) (reached_further mid (Streamed server signed deadline (Err error)) n k i), subst (λ r. FromStream r new) (sym a.0) tt)

  after_signed_stream : (server : SocketAddr) (deadline : ℕ) (signed : Result (List ℕ) LinkError) (old mid : SignedNetwork N) (result : Result (List ℕ) LinkError) (new : SignedNetwork N) → Reached old → Signs calls.reads_clock old bytes signed mid
      → AfterSignedStream calls.streams calls.reads_clock server deadline signed mid result new → Reached new × FromStream result new
  after_signed_stream server deadline (Ok signed) old mid result new h s a =
      after_streamed server signed deadline a.came old mid a.network result new h (signs_reached old mid (Ok signed) h s) (signs_at old mid signed h.0 s) a.asks a.after
  after_signed_stream server deadline (Err error) old mid result new h s a = (subst Reached (sym a.1) (signs_reached old mid (Err error) h s), subst (λ r. FromStream r new) (sym a.0) tt)

  pub stream_signed : (server : SocketAddr) (deadline : ℕ) (old : SignedNetwork N) (result : Result (List ℕ) LinkError) (new : SignedNetwork N) → Reached old → StreamsSigned calls.streams calls.reads_clock old server bytes deadline result new → Reached new × FromStream result new
  stream_signed server deadline old result new h s = after_signed_stream server deadline s.signed old s.mid result new h s.signs s.after

  -- one request as a datagram, and what is received next
  once_replied : (server : SocketAddr) (signed : List ℕ) (deadline : ℕ) (reply message : List ℕ) (old mid : SignedNetwork N) (asked came : N) (new : SignedNetwork N) → Reached old → Signs calls.reads_clock old bytes (Ok signed) mid
      → calls.sends mid.network server signed (Ok tt) asked → calls.receives asked deadline (Ok (Some reply)) came → ChecksReply calls.reads_clock (over came mid) reply (Ok (Some message)) new → Replied new message
  once_replied server signed deadline reply message old mid asked came new h s i r c =
      check_came reply (over came mid) (Ok (Some message)) new (datagram_brought (over asked mid) deadline reply came (signed_sent server signed old mid asked h (signs_at old mid signed h.0 s) i) r) c

-- a request that is asked once
pub asked_once : {N : Type 0} (calls : NetworkCalls N) (request : List ℕ) (server : SocketAddr) (signed : List ℕ) (deadline : ℕ) (reply message : List ℕ) (old mid : SignedNetwork N) (asked came : N) (new : SignedNetwork N)
    → Signs calls.reads_clock old request (Ok signed) mid → calls.sends mid.network server signed (Ok tt) asked → calls.receives asked deadline (Ok (Some reply)) came
    → ChecksReply calls.reads_clock (over came mid) reply (Ok (Some message)) new → IsRepliedOver calls old.signer.key old.base request old.network new.network message
asked_once calls request server signed deadline reply message old mid asked came new s i r c =
    once_replied calls old.signer.key old.base request old.network server signed deadline reply message old mid asked came new ((refl, refl), [], refl) s i r c

-- the same, by what the check of the reply results in
pub checked_once : {N : Type 0} (calls : NetworkCalls N) (request : List ℕ) (server : SocketAddr) (signed : List ℕ) (deadline : ℕ) (reply : List ℕ) (result : Result (Option (Vec ℕ)) LinkError) (old mid : SignedNetwork N) (asked came : N) (new : SignedNetwork N)
    → Signs calls.reads_clock old request (Ok signed) mid → calls.sends mid.network server signed (Ok tt) asked → calls.receives asked deadline (Ok (Some reply)) came
    → ChecksReply calls.reads_clock (over came mid) reply (datagram_of result) new
    → IfOk result (λ received. IfSome received (λ message. IsRepliedOver calls old.signer.key old.base request old.network new.network message.items))
checked_once calls request server signed deadline reply (Ok (Some message)) old mid asked came new s i r c = asked_once calls request server signed deadline reply message.items old mid asked came new s i r c
checked_once calls request server signed deadline reply (Ok None) old mid asked came new s i r c = tt
checked_once calls request server signed deadline reply (Err error) old mid asked came new s i r c = tt
