-- For which requests a rule decides.
use Rattle.std.specs.Prelude.{◌≡◌, List, [], ◌∷◌, ℕ, Option, Some, None}
use Rattle.std.specs.List.{find}
use Rattle.dns_messages.specs.declared.message_type.MessageType.TheVariants as kinds
use Rattle.dns_messages.specs.declared.message.Message.{Message}
use Rattle.dns_messages.specs.declared.query.Query.{Query}
use Rattle.dns_messages.specs.Grammar.{ReadsMessage}
use Rattle.dns_faults.specs.declared.decided.Decided.{Decided}
use Rattle.dns_faults.specs.declared.rules.fault.Transport.{Transport}
use Rattle.dns_faults.specs.declared.rules.table.CountedRule.{CountedRule}
use Rattle.dns_faults.specs.rules.Table.{applies, counted, decision_of}

-- the first rule that applies to the only question of a request, if it has exactly one
abbrev pub deciding : List CountedRule → Transport → List Query → Option CountedRule
deciding table transport (q ∷ []) = find (applies q.name q.query_type transport) table
deciding table transport queries = None

-- Bytes are a request for which the rule decides that applies first.
pub record IsDecided (table : List CountedRule) (bytes : List ℕ) (transport : Transport) (d : Decided) : Type 0 where
  pub rule : CountedRule
  pub reads : ReadsMessage bytes d.request
  pub asks : d.request.metadata.message_type ≡ kinds.Query
  pub decides : deciding table transport d.request.queries ≡ Some rule
  pub decision_is : d.decision ≡ decision_of transport rule

-- No rule decides for these bytes: they do not decode, are a response, or none applies.
abbrev pub IsUndecided : List CountedRule → List ℕ → Transport → Type 0
IsUndecided table bytes transport =
    (m : Message) → ReadsMessage bytes m → m.metadata.message_type ≡ kinds.Query → deciding table transport m.queries ≡ None

-- what a table decides for bytes
abbrev pub Decides : List CountedRule → List ℕ → Transport → Option Decided → Type 0
Decides table bytes transport (Some d) = IsDecided table bytes transport d
Decides table bytes transport None = IsUndecided table bytes transport

-- the table after it has decided for a request: the rule that did is counted
abbrev pub counted_for : List CountedRule → Transport → List Query → List CountedRule
counted_for table transport (q ∷ []) = counted (applies q.name q.query_type transport) table
counted_for table transport queries = table
