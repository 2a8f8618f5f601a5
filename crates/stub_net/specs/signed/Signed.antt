-- A network that signs requests, and checks the signatures of replies (RFC 8945 sections 5.1 and 5.4).
use Rattle.std.specs.Prelude.{◌≡◌, ◌≢◌, ◌+◌, ◌/◌, ◌-◌, ◌^◌, min, List, [], ℕ, Option, Some, None, Result, Ok, Err}
use Rattle.std.specs.declared.net.socket_addr.SocketAddr.{SocketAddr}
use Rattle.dns_tsig.specs.signer.Signer.{Checks, SignsRequest}
use Rattle.dns_tsig.specs.declared.signer.refusal.Refusal.{Refusal}
use Rattle.dns_tsig.specs.declared.signer.refusal.TsigError.{TsigError}
use Rattle.dns_tsig.specs.declared.signer.signer.Signer.{Signer}
use Rattle.dns_tsig.specs.Sign.{refusal_of}
use Rattle.dns_tsig.specs.declared.error.SignError.{SignError}
use Rattle.dns_tsig.specs.declared.error.SignError.TheVariants as signing
use Rattle.dns_tsig.specs.declared.key.Key.{Key}
use Rattle.stub_link.specs.Wait.{one_more}
use Rattle.stub_link.specs.declared.link.LinkError.{LinkError}
use Rattle.stub_link.specs.declared.link.LinkError.TheVariants.{Failed, Memory}
use Rattle.stub_net.specs.Network.{NetworkCalls}
use Rattle.stub_net.specs.declared.signed.network.SignedNetwork.{SignedNetwork}

-- ---- the network

-- before any request: no reply has been refused, and no server has refused a request
pub record IsFirst {N : Type 0} (network : N) (key : Key) (base : ℕ) (signed : SignedNetwork N) : Type 0 where
  pub network_is : signed.network ≡ network
  pub key_is : signed.signer.key ≡ key
  pub base_is : signed.base ≡ base
  pub nothing_refused : signed.refused ≡ 0
  pub no_refusal : signed.refusal ≡ None
  pub no_error : signed.error ≡ None

-- over another state of the network below
abbrev pub over : {N : Type 0} → N → SignedNetwork N → SignedNetwork N
over network signed = record signed { network = network }

-- a reply is refused: it is counted, and the reason is kept
abbrev pub count_refusal : {N : Type 0} → Refusal → SignedNetwork N → SignedNetwork N
count_refusal refusal signed = record signed { refused = one_more signed.refused; refusal = Some refusal }

-- ---- the clock

-- the time in seconds, when the clock below reads milliseconds since a time
abbrev pub time_at : ℕ → ℕ → ℕ
time_at base clock = min (base + clock / 1000) (2 ^ 64 - 1)

-- the time is that of the clock below
pub record ReadsTime {N : Type 0} (reads_clock : N → ℕ → N → Type 0) (old : SignedNetwork N) (time : ℕ) (new : SignedNetwork N)
    : Type 0 where
  pub clock : ℕ
  pub network : N
  pub reads : reads_clock old.network clock network
  pub time_is : time ≡ time_at old.base clock
  pub new_is : new ≡ over network old

-- the clock is that below
pub record ReadsClock {N : Type 0} (reads_clock : N → ℕ → N → Type 0) (old : SignedNetwork N) (now : ℕ) (new : SignedNetwork N)
    : Type 0 where
  pub network : N
  pub reads : reads_clock old.network now network
  pub new_is : new ≡ over network old

-- ---- requests

-- the error of a network for a request that is not signed
abbrev pub link_error : SignError → LinkError
link_error signing.Memory = Memory
link_error error = Failed

-- a request is signed, or is refused for a reason that it gives; there may be no memory for the signature
abbrev pub AfterSign : Signer → List ℕ → ℕ → Result (List ℕ) LinkError → Signer → Type 0
AfterSign old request time (Ok signed) new = SignsRequest old.key request time new.code.items signed
AfterSign old request time (Err failure) new =
    (error : SignError) × (failure ≡ link_error error) × (error ≢ signing.Memory → refusal_of request ≡ Some error)

-- A request is signed with the key, at the time of the clock.
pub record Signs {N : Type 0} (reads_clock : N → ℕ → N → Type 0) (old : SignedNetwork N) (request : List ℕ)
    (result : Result (List ℕ) LinkError) (new : SignedNetwork N) : Type 0 where
  pub time : ℕ
  pub mid : SignedNetwork N
  pub signer : Signer
  pub reads : ReadsTime reads_clock old time mid
  pub key_is : signer.key ≡ old.signer.key
  pub after : AfterSign old.signer request time result signer
  pub new_is : new ≡ record mid { signer = signer }

-- what is sent is the signed request; one that cannot be signed is not sent
abbrev pub AfterSigned : {N : Type 0} → (N → SocketAddr → List ℕ → Result (Unit {0}) LinkError → N → Type 0) → SocketAddr
    → Result (List ℕ) LinkError → SignedNetwork N → Result (Unit {0}) LinkError → SignedNetwork N → Type 0
AfterSigned {N} sends server (Ok signed) mid result new =
    (network : N) × sends mid.network server signed result network × (new ≡ over network mid)
AfterSigned sends server (Err error) mid result new = (result ≡ Err error) × (new ≡ mid)

-- A request is signed, and sent.
pub record SendsSigned {N : Type 0} (sends : N → SocketAddr → List ℕ → Result (Unit {0}) LinkError → N → Type 0)
    (reads_clock : N → ℕ → N → Type 0) (old : SignedNetwork N) (server : SocketAddr) (request : List ℕ)
    (result : Result (Unit {0}) LinkError) (new : SignedNetwork N) : Type 0 where
  pub signed : Result (List ℕ) LinkError
  pub mid : SignedNetwork N
  pub signs : Signs reads_clock old request signed mid
  pub after : AfterSigned sends server signed mid result new

-- ---- replies

-- a reply is accepted, without its signature, and the error that it reports is kept; or it is refused; there may be no memory
abbrev pub AfterCheck : {N : Type 0} → List ℕ → ℕ → SignedNetwork N → Result (Option (List ℕ)) LinkError → SignedNetwork N → Type 0
AfterCheck reply time mid (Ok (Some message)) new =
    (error : Option TsigError)
    × Checks mid.signer.key mid.signer.code.items reply time (Ok (record { message = message; error = error }))
    × (new ≡ record mid { error = error })
AfterCheck reply time mid (Ok None) new =
    (refusal : Refusal) × Checks mid.signer.key mid.signer.code.items reply time (Err refusal) × (new ≡ count_refusal refusal mid)
AfterCheck reply time mid (Err error) new = (error ≡ Memory) × (new ≡ mid)

-- A reply is checked at the time of the clock, by the code of the last request.
pub record ChecksReply {N : Type 0} (reads_clock : N → ℕ → N → Type 0) (old : SignedNetwork N) (reply : List ℕ)
    (result : Result (Option (List ℕ)) LinkError) (new : SignedNetwork N) : Type 0 where
  pub time : ℕ
  pub mid : SignedNetwork N
  pub reads : ReadsTime reads_clock old time mid
  pub after : AfterCheck reply time mid result new

-- a datagram that is refused is handed on as an empty one
abbrev pub datagram_after : Result (Option (List ℕ)) LinkError → Result (Option (List ℕ)) LinkError
datagram_after (Ok (Some message)) = Ok (Some message)
datagram_after (Ok None) = Ok (Some [])
datagram_after (Err error) = Err error

-- a datagram is checked
pub record ChecksDatagram {N : Type 0} (reads_clock : N → ℕ → N → Type 0) (old : SignedNetwork N) (reply : List ℕ)
    (result : Result (Option (List ℕ)) LinkError) (new : SignedNetwork N) : Type 0 where
  pub checked : Result (Option (List ℕ)) LinkError
  pub checks : ChecksReply reads_clock old reply checked new
  pub result_is : result ≡ datagram_after checked

-- what arrives is checked
abbrev pub AfterCame : {N : Type 0} → (N → ℕ → N → Type 0) → Result (Option (List ℕ)) LinkError → SignedNetwork N
    → Result (Option (List ℕ)) LinkError → SignedNetwork N → Type 0
AfterCame reads_clock (Ok (Some reply)) mid result new = ChecksDatagram reads_clock mid reply result new
AfterCame reads_clock (Ok None) mid result new = (result ≡ Ok None) × (new ≡ mid)
AfterCame reads_clock (Err error) mid result new = (result ≡ Err error) × (new ≡ mid)

-- A datagram is received until a deadline, and checked.
pub record ReceivesSigned {N : Type 0} (receives : N → ℕ → Result (Option (List ℕ)) LinkError → N → Type 0)
    (reads_clock : N → ℕ → N → Type 0) (old : SignedNetwork N) (deadline : ℕ) (result : Result (Option (List ℕ)) LinkError)
    (new : SignedNetwork N) : Type 0 where
  pub came : Result (Option (List ℕ)) LinkError
  pub network : N
  pub receives_it : receives old.network deadline came network
  pub after : AfterCame reads_clock came (over network old) result new

-- ---- streams

-- a stream whose reply is refused has failed
abbrev pub stream_after : Result (Option (List ℕ)) LinkError → Result (List ℕ) LinkError
stream_after (Ok (Some message)) = Ok message
stream_after (Ok None) = Err Failed
stream_after (Err error) = Err error

-- the reply over a stream is checked
pub record ChecksStream {N : Type 0} (reads_clock : N → ℕ → N → Type 0) (old : SignedNetwork N) (reply : List ℕ)
    (result : Result (List ℕ) LinkError) (new : SignedNetwork N) : Type 0 where
  pub checked : Result (Option (List ℕ)) LinkError
  pub checks : ChecksReply reads_clock old reply checked new
  pub result_is : result ≡ stream_after checked

-- what is received over a stream is checked
abbrev pub AfterStreamed : {N : Type 0} → (N → ℕ → N → Type 0) → Result (List ℕ) LinkError → SignedNetwork N
    → Result (List ℕ) LinkError → SignedNetwork N → Type 0
AfterStreamed reads_clock (Ok reply) mid result new = ChecksStream reads_clock mid reply result new
AfterStreamed reads_clock (Err error) mid result new = (result ≡ Err error) × (new ≡ mid)

-- a signed request is asked over a stream until a deadline, and the reply is checked
pub record AsksSigned {N : Type 0} (streams : N → SocketAddr → List ℕ → ℕ → Result (List ℕ) LinkError → N → Type 0)
    (reads_clock : N → ℕ → N → Type 0) (old : SignedNetwork N) (server : SocketAddr) (signed : List ℕ) (deadline : ℕ)
    (result : Result (List ℕ) LinkError) (new : SignedNetwork N) : Type 0 where
  pub came : Result (List ℕ) LinkError
  pub network : N
  pub asks : streams old.network server signed deadline came network
  pub after : AfterStreamed reads_clock came (over network old) result new

-- the signed request is asked; one that cannot be signed is not sent
abbrev pub AfterSignedStream : {N : Type 0} → (N → SocketAddr → List ℕ → ℕ → Result (List ℕ) LinkError → N → Type 0)
    → (N → ℕ → N → Type 0) → SocketAddr → ℕ → Result (List ℕ) LinkError → SignedNetwork N → Result (List ℕ) LinkError
    → SignedNetwork N → Type 0
AfterSignedStream streams reads_clock server deadline (Ok signed) mid result new =
    AsksSigned streams reads_clock mid server signed deadline result new
AfterSignedStream streams reads_clock server deadline (Err error) mid result new = (result ≡ Err error) × (new ≡ mid)

-- A request is signed, and asked over a stream.
pub record StreamsSigned {N : Type 0} (streams : N → SocketAddr → List ℕ → ℕ → Result (List ℕ) LinkError → N → Type 0)
    (reads_clock : N → ℕ → N → Type 0) (old : SignedNetwork N) (server : SocketAddr) (request : List ℕ) (deadline : ℕ)
    (result : Result (List ℕ) LinkError) (new : SignedNetwork N) : Type 0 where
  pub signed : Result (List ℕ) LinkError
  pub mid : SignedNetwork N
  pub signs : Signs reads_clock old request signed mid
  pub after : AfterSignedStream streams reads_clock server deadline signed mid result new

-- ---- the calls

-- the calls of a network that signs, over those of the network below
abbrev pub signed_calls : {N : Type 0} → NetworkCalls N → NetworkCalls (SignedNetwork N)
signed_calls calls = record {
  sends = SendsSigned calls.sends calls.reads_clock;
  receives = ReceivesSigned calls.receives calls.reads_clock;
  streams = StreamsSigned calls.streams calls.reads_clock;
  reads_clock = ReadsClock calls.reads_clock;
}
