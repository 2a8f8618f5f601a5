-- A network that signs has the clock of the network below, and each of its calls makes at most three of that one.
use Rattle.std.proofs.Common.{◌≡◌, ◌+◌, ◌*◌, ◌≤◌, max, List, ℕ, Option, Some, None, Result, Ok, Err, ap, arith}
use Rattle.std.specs.declared.net.socket_addr.SocketAddr.{SocketAddr}
use Rattle.stub_link.specs.declared.link.LinkError.{LinkError}
use Rattle.stub_net.specs.Network.{NetworkCalls}
use Rattle.stub_net.specs.Time.{IsClock, IsTimed}
use Rattle.stub_net.specs.signed.Signed.{AfterCame, AfterCheck, AfterSigned, AfterSignedStream, AfterStreamed, ChecksReply, ReadsTime, Signs, over, signed_calls}
use Rattle.stub_net.specs.declared.signed.network.SignedNetwork.{SignedNetwork}

-- the clock of the network below
abbrev clock_below : {N : Type 0} → (N → ℕ) → SignedNetwork N → ℕ
clock_below clock signed = clock signed.network

-- ---- the clock does not go back

module _ {N : Type 0} (calls : NetworkCalls N) (clock : N → ℕ) (k : IsClock calls clock) where
  time-forward : (old : SignedNetwork N) (time : ℕ) (new : SignedNetwork N) → ReadsTime calls.reads_clock old time new → clock old.network ≤ clock new.network
  time-forward old time new r =
      let read : (clock old.network ≤ r.clock) × (r.clock ≤ clock r.network) = k.reads_clock _ _ _ r.reads in
      let is : clock new.network ≡ clock r.network = ap (clock_below clock) r.new_is in
      omega (arith, read.0, read.1, is)

  signs-forward : (old : SignedNetwork N) (request : List ℕ) (result : Result (List ℕ) LinkError) (new : SignedNetwork N) → Signs calls.reads_clock old request result new → clock old.network ≤ clock new.network
  signs-forward old request result new s =
      let is : clock new.network ≡ clock s.mid.network = ap (clock_below clock) s.new_is in
      omega (arith, time-forward old s.time s.mid s.reads, is)

  sent-forward : (server : SocketAddr) (signed : Result (List ℕ) LinkError) (mid : SignedNetwork N) (result : Result (Unit {0}) LinkError) (new : SignedNetwork N) → AfterSigned calls.sends server signed mid result new → clock mid.network ≤ clock new.network
  sent-forward server (Ok bytes) mid result new a =
      let is : clock new.network ≡ clock a.0 = ap (clock_below clock) a.2 in
      omega (arith, k.sends _ _ _ _ _ a.1, is)
  sent-forward server (Err error) mid result new a =
      let is : clock new.network ≡ clock mid.network = ap (clock_below clock) a.1 in
      omega (arith, is)

  check-same : (reply : List ℕ) (time : ℕ) (mid : SignedNetwork N) (result : Result (Option (List ℕ)) LinkError) (new : SignedNetwork N) → AfterCheck reply time mid result new → clock new.network ≡ clock mid.network
  check-same reply time mid (Ok (Some message)) new a = ap (clock_below clock) a.2
  check-same reply time mid (Ok None) new a = ap (clock_below clock) a.2
  check-same reply time mid (Err error) new a = ap (clock_below clock) a.1

  checks-forward : (old : SignedNetwork N) (reply : List ℕ) (result : Result (Option (List ℕ)) LinkError) (new : SignedNetwork N) → ChecksReply calls.reads_clock old reply result new → clock old.network ≤ clock new.network
  checks-forward old reply result new c =
      omega (arith, time-forward old c.time c.mid c.reads, check-same reply c.time c.mid result new c.after)

  came-forward : (came : Result (Option (List ℕ)) LinkError) (mid : SignedNetwork N) (result : Result (Option (List ℕ)) LinkError) (new : SignedNetwork N) → AfterCame calls.reads_clock came mid result new → clock mid.network ≤ clock new.network
  came-forward (Ok (Some reply)) mid result new a = checks-forward mid reply a.checked new a.checks
  came-forward (Ok None) mid result new a =
      let is : clock new.network ≡ clock mid.network = ap (clock_below clock) a.1 in omega (arith, is)
  came-forward (Err error) mid result new a =
      let is : clock new.network ≡ clock mid.network = ap (clock_below clock) a.1 in omega (arith, is)

  streamed-forward : (came : Result (List ℕ) LinkError) (mid : SignedNetwork N) (result : Result (List ℕ) LinkError) (new : SignedNetwork N) → AfterStreamed calls.reads_clock came mid result new → clock mid.network ≤ clock new.network
  streamed-forward (Ok reply) mid result new a = checks-forward mid reply a.checked new a.checks
  streamed-forward (Err error) mid result new a =
      let is : clock new.network ≡ clock mid.network = ap (clock_below clock) a.1 in omega (arith, is)

  stream-forward : (server : SocketAddr) (deadline : ℕ) (signed : Result (List ℕ) LinkError) (mid : SignedNetwork N) (result : Result (List ℕ) LinkError) (new : SignedNetwork N) → AfterSignedStream calls.streams calls.reads_clock server deadline signed mid result new
      → clock mid.network ≤ clock new.network
  stream-forward server deadline (Ok bytes) mid result new a =
      omega (arith, k.streams _ _ _ _ _ _ a.asks, streamed-forward a.came (over a.network mid) result new a.after)
  stream-forward server deadline (Err error) mid result new a =
      let is : clock new.network ≡ clock mid.network = ap (clock_below clock) a.1 in omega (arith, is)

  -- a datagram that is handed on arrived in time
  came-arrives : (old : N) (deadline : ℕ) (came : Result (Option (List ℕ)) LinkError) (network : N) (mid : SignedNetwork N) (bytes : List ℕ) (new : SignedNetwork N)
      → calls.receives old deadline came network → AfterCame calls.reads_clock came mid (Ok (Some bytes)) new → clock old ≤ deadline
  came-arrives old deadline (Ok (Some reply)) network mid bytes new r a = k.arrives old deadline reply network r
  came-arrives old deadline (Ok None) network mid bytes new r a = absurd (cc a.0)
  came-arrives old deadline (Err error) network mid bytes new r a = absurd (cc a.0)

  pub signed-clock : IsClock (signed_calls calls) (clock_below clock)
  signed-clock = record {
    sends = λ old server bytes result new s. omega (arith, signs-forward old bytes s.signed s.mid s.signs, sent-forward server s.signed s.mid result new s.after);
    receives = λ old deadline result new r. omega (arith, k.receives _ _ _ _ r.receives_it, came-forward r.came (over r.network old) result new r.after);
    streams = λ old server bytes deadline result new s. omega (arith, signs-forward old bytes s.signed s.mid s.signs, stream-forward server deadline s.signed s.mid result new s.after);
    reads_clock = λ old now new r.
        let read : (clock old.network ≤ now) × (now ≤ clock r.network) = k.reads_clock _ _ _ r.reads in
        let is : clock new.network ≡ clock r.network = ap (clock_below clock) r.new_is in
        (read.0, omega (arith, read.1, is));
    arrives = λ old deadline bytes new r. came-arrives old.network deadline r.came r.network (over r.network old) bytes new r.receives_it r.after;
  }

-- ---- the calls end in time

module _ {N : Type 0} (calls : NetworkCalls N) (clock : N → ℕ) (slack : ℕ) (k : IsTimed calls clock slack) where
  time-late : (old : SignedNetwork N) (time : ℕ) (new : SignedNetwork N) → ReadsTime calls.reads_clock old time new → clock new.network ≤ clock old.network + slack
  time-late old time new r =
      let is : clock new.network ≡ clock r.network = ap (clock_below clock) r.new_is in
      omega (arith, k.prompt.reads_clock _ _ _ r.reads, is)

  signs-late : (old : SignedNetwork N) (request : List ℕ) (result : Result (List ℕ) LinkError) (new : SignedNetwork N) → Signs calls.reads_clock old request result new → clock new.network ≤ clock old.network + slack
  signs-late old request result new s =
      let is : clock new.network ≡ clock s.mid.network = ap (clock_below clock) s.new_is in
      omega (arith, time-late old s.time s.mid s.reads, is)

  sent-late : (server : SocketAddr) (signed : Result (List ℕ) LinkError) (mid : SignedNetwork N) (result : Result (Unit {0}) LinkError) (new : SignedNetwork N) → AfterSigned calls.sends server signed mid result new → clock new.network ≤ clock mid.network + slack
  sent-late server (Ok bytes) mid result new a =
      let is : clock new.network ≡ clock a.0 = ap (clock_below clock) a.2 in
      omega (arith, k.prompt.sends _ _ _ _ _ a.1, is)
  sent-late server (Err error) mid result new a =
      let is : clock new.network ≡ clock mid.network = ap (clock_below clock) a.1 in
      omega (arith, is)

  checks-late : (old : SignedNetwork N) (reply : List ℕ) (result : Result (Option (List ℕ)) LinkError) (new : SignedNetwork N) → ChecksReply calls.reads_clock old reply result new → clock new.network ≤ clock old.network + slack
  checks-late old reply result new c =
      omega (arith, time-late old c.time c.mid c.reads, check-same calls clock k.clock_is reply c.time c.mid result new c.after)

  came-late : (came : Result (Option (List ℕ)) LinkError) (mid : SignedNetwork N) (result : Result (Option (List ℕ)) LinkError) (new : SignedNetwork N) → AfterCame calls.reads_clock came mid result new → clock new.network ≤ clock mid.network + slack
  came-late (Ok (Some reply)) mid result new a = checks-late mid reply a.checked new a.checks
  came-late (Ok None) mid result new a =
      let is : clock new.network ≡ clock mid.network = ap (clock_below clock) a.1 in omega (arith, is)
  came-late (Err error) mid result new a =
      let is : clock new.network ≡ clock mid.network = ap (clock_below clock) a.1 in omega (arith, is)

  streamed-late : (came : Result (List ℕ) LinkError) (mid : SignedNetwork N) (result : Result (List ℕ) LinkError) (new : SignedNetwork N) → AfterStreamed calls.reads_clock came mid result new → clock new.network ≤ clock mid.network + slack
  streamed-late (Ok reply) mid result new a = checks-late mid reply a.checked new a.checks
  streamed-late (Err error) mid result new a =
      let is : clock new.network ≡ clock mid.network = ap (clock_below clock) a.1 in omega (arith, is)

  stream-late : (server : SocketAddr) (deadline : ℕ) (signed : Result (List ℕ) LinkError) (mid : SignedNetwork N) (result : Result (List ℕ) LinkError) (new : SignedNetwork N) → AfterSignedStream calls.streams calls.reads_clock server deadline signed mid result new
      → clock new.network ≤ max (clock mid.network) deadline + 2 * slack
  stream-late server deadline (Ok bytes) mid result new a =
      omega (arith, k.prompt.streams _ _ _ _ _ _ a.asks, streamed-late a.came (over a.network mid) result new a.after)
  stream-late server deadline (Err error) mid result new a =
      let is : clock new.network ≡ clock mid.network = ap (clock_below clock) a.1 in omega (arith, is)

  pub signed-timed : IsTimed (signed_calls calls) (clock_below clock) (3 * slack)
  signed-timed = record {
    clock_is = signed-clock calls clock k.clock_is;
    prompt = record {
      sends = λ old server bytes result new s. omega (arith, signs-late old bytes s.signed s.mid s.signs, sent-late server s.signed s.mid result new s.after);
      receives = λ old deadline result new r. omega (arith, k.prompt.receives _ _ _ _ r.receives_it, came-late r.came (over r.network old) result new r.after);
      streams = λ old server bytes deadline result new s. omega (arith, signs-late old bytes s.signed s.mid s.signs, stream-late server deadline s.signed s.mid result new s.after);
      reads_clock = λ old now new r.
          let is : clock new.network ≡ clock r.network = ap (clock_below clock) r.new_is in
          omega (arith, k.prompt.reads_clock _ _ _ r.reads, is);
    };
  }
