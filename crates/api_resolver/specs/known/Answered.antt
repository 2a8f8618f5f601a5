-- A handle over the replies that are known.
use Rattle.std.specs.Prelude.{◌≡◌, ◌⊎◌, List, [], ◌∷◌, Option, Some, None, Err}
use Rattle.dns_messages.specs.declared.query.Query.{Query}
use Rattle.stub_client.specs.Handle.{Outcome}
use Rattle.stub_lookup.specs.declared.error.NetError.TheVariants as net
use Rattle.api_resolver.specs.known.Known.{Restores, outcome_for}
use Rattle.api_resolver.specs.declared.known.known.KnownOutcome.{KnownOutcome}
use Rattle.api_resolver.specs.declared.known.known.KnownReply.{KnownReply}

-- a handle: the replies that are known, and the question that was asked and has none
pub record AnsweredState : Type 0 where
  pub known : List KnownReply
  pub wanted : Option Query

-- A question has the outcome that is known, or is wanted. There may be no memory for it.
abbrev pub GivesKnown : Option KnownOutcome → Query → AnsweredState → Outcome → AnsweredState → Type 0
GivesKnown (Some known) q old outcome new = Restores known outcome × (new ≡ old)
GivesKnown None q old outcome new =
    (outcome ≡ Err net.Memory) × ((new ≡ old) ⊎ (new ≡ record old { wanted = Some q }))

-- the outcome of a question
abbrev pub GivesTo : Query → AnsweredState → Outcome → AnsweredState → Type 0
GivesTo q old outcome new = GivesKnown (outcome_for old.known q) q old outcome new

-- the outcome of a request, which asks one question
abbrev pub Gives : AnsweredState → List Query → Outcome → AnsweredState → Type 0
Gives old (q ∷ []) outcome new = GivesTo q old outcome new
Gives old queries outcome new = (outcome ≡ Err net.Unsupported) × (new ≡ old)
