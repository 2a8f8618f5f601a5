-- Handles: what they are asked, one question after another, and the handle that returns the outcomes of a list.
use Rattle.std.specs.Prelude.{◌≡◌, List, [], ◌∷◌, ℕ, Result, Err, codes}
use Rattle.dns_messages.specs.declared.query.Query.{Query}
use Rattle.dns_messages.specs.declared.response.DnsResponse.{DnsResponse}
use Rattle.stub_config.specs.declared.request_options.DnsRequestOptions.{DnsRequestOptions}
use Rattle.stub_lookup.specs.declared.error.NetError.{NetError}
use Rattle.stub_lookup.specs.declared.error.NetError.TheVariants as errors
use Rattle.stub_client.specs.Request.{request_of}
use Rattle.stub_client.specs.declared.request.DnsRequest.{DnsRequest}

-- what a handle returns
abbrev pub Outcome : Type 0
Outcome = Result DnsResponse NetError

-- The behavior of a handle: from a state, a request at a moment may have this outcome and lead to that state.
abbrev pub Behavior : Type 0 → Type 1
Behavior H = H → DnsRequest → ℕ → Outcome → H → Type 0

-- a question that a handle was asked, and the outcome
pub record Ask : Type 0 where
  pub question : Query
  pub outcome : Outcome

-- the request that asks a question
abbrev pub request_for : Query → DnsRequestOptions → DnsRequest
request_for q options = record { message = request_of q options; options = options }

-- these questions with these outcomes, one after another, lead a handle from the old state to the new one
abbrev pub Led : {H : Type 0} → (H → DnsRequest → ℕ → Outcome → H → Type 0) → DnsRequestOptions → ℕ → H
    → List Ask → H → Type 0
Led gives options now old [] new = new ≡ old
Led {H} gives options now old (ask ∷ asks) new =
    (mid : H) × gives old (request_for ask.question options) now ask.outcome mid × Led gives options now mid asks new

-- an error with this text
abbrev pub IsMessage : {A : Type 0} → List ℕ → Result A NetError → Type 0
IsMessage text (Err (errors.Message message)) = message.now ≡ text
IsMessage text other = ⊥

-- the text of the error of a handle whose list of outcomes is used up
abbrev pub no_outcome : List ℕ
no_outcome = codes "no outcome is left"

-- the first outcome of a list, or an error with this text if there is none
abbrev pub Pops : List Outcome → Outcome → List Outcome → Type 0
Pops [] outcome rest = IsMessage no_outcome outcome × (rest ≡ [])
Pops (first ∷ others) outcome rest = (outcome ≡ first) × (rest ≡ others)
