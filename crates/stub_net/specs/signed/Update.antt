-- Updates that are sent signed.
use Rattle.std.specs.Prelude.{◌≡◌, ◌&&◌, nat_lt, if◌then◌else◌, Bool, true, false, ℕ, Option, Some, None, Result, Ok, Err}
use Rattle.dns_messages.specs.declared.message.Message.{Message}
use Rattle.dns_messages.specs.declared.response.DnsResponse.{DnsResponse}
use Rattle.dns_messages.specs.declared.response_code.ResponseCode.{ResponseCode}
use Rattle.dns_tsig.specs.declared.signer.refusal.Refusal.{Refusal}
use Rattle.dns_tsig.specs.declared.key.Key.{Key}
use Rattle.stub_lookup.specs.declared.error.NetError.{NetError}
use Rattle.stub_lookup.specs.declared.error.NetError.TheVariants.{Link}
use Rattle.stub_net.specs.Network.{NetworkCalls}
use Rattle.stub_net.specs.Pool.{Updates}
use Rattle.stub_net.specs.declared.pool.NameServerPool.{NameServerPool}
use Rattle.stub_net.specs.signed.Reply.{IsSignedReply}
use Rattle.stub_net.specs.signed.Signed.{signed_calls}
use Rattle.stub_net.specs.declared.signed.error.UpdateError.{UpdateError}
use Rattle.stub_net.specs.declared.signed.error.UpdateError.TheVariants.{Net, Refused}
use Rattle.stub_net.specs.declared.signed.network.SignedNetwork.{SignedNetwork}

-- whether an error says that no reply came
abbrev pub is_fault : NetError → Bool
is_fault (Link fault) = true
is_fault error = false

-- a refusal, or another error if there is none
abbrev pub refused_error : Option Refusal → NetError → UpdateError
refused_error (Some refusal) error = Refused refusal
refused_error None error = Net error

-- why there is no reply, if so many were refused before and after: the last refusal, if one was refused since
abbrev pub error_after : NetError → ℕ → ℕ → Option Refusal → UpdateError
error_after error before after refusal =
    if is_fault error && nat_lt before after then refused_error refusal error else Net error

-- the outcome of an update
abbrev pub outcome_of : Result ResponseCode NetError → ℕ → ℕ → Option Refusal → Result ResponseCode UpdateError
outcome_of (Ok code) before after refusal = Ok code
outcome_of (Err error) before after refusal = Err (error_after error before after refusal)

-- An update is sent, signed, as a pool sends it. Where a reply was refused and none was accepted, the last refusal is the error.
pub record SendsUpdate {N I : Type 0} (calls : NetworkCalls N) (old : NameServerPool (SignedNetwork N) I) (update : Message)
    (outcome : Result ResponseCode UpdateError) (new : NameServerPool (SignedNetwork N) I) : Type 0 where
  pub reply : Result ResponseCode NetError
  pub updates : Updates (signed_calls calls) old update reply new
  pub outcome_is : outcome ≡ outcome_of reply old.requester.network.refused new.requester.network.refused new.requester.network.refusal

-- A response code is that of a reply which a holder of a key signed for an update, and which the network below gave as it went from
-- a state to another.
pub record IsSignedCode {N : Type 0} (calls : NetworkCalls N) (key : Key) (base : ℕ) (update : Message) (old new : N)
    (code : ResponseCode) : Type 0 where
  pub response : DnsResponse
  pub signed : IsSignedReply calls key base update old new response
  pub code_is : code ≡ response.message.metadata.response_code
