-- What a table decides for a request.
use Rattle.std.proofs.Common.{◌≡◌, ◌∙◌, List, ℕ, Option, Some, None, refl, sym, ap, subst}
use Rattle.std.specs.Prelude.{IfSome, option_map}
use Rattle.dns_messages.specs.Grammar.{ReadsMessage}
use Rattle.dns_messages.specs.declared.message.Message.{Message}
use Rattle.dns_messages.specs.declared.message_type.MessageType.TheVariants as kinds
use Rattle.dns_messages.specs.declared.query.Query.{Query}
use Rattle.dns_faults.specs.Decided.{Decides, IsDecided, deciding}
use Rattle.dns_faults.specs.declared.decided.Decided.{Decided}
use Rattle.dns_faults.specs.declared.rules.fault.Transport.{Transport}
use Rattle.dns_faults.specs.declared.rules.table.CountedRule.{CountedRule}
use Rattle.dns_faults.specs.declared.rules.table.Decision.{Decision}
use Rattle.dns_faults.specs.rules.Table.{decision_of}

module _ (table : List CountedRule) (bytes : List ℕ) (transport : Transport) (m : Message) (reads : ReadsMessage bytes m) (asks : m.metadata.message_type ≡ kinds.Query)
    (same : (other : Message) → ReadsMessage bytes other → other ≡ m) where
  by_rule : (d : Decided) (found : Option CountedRule) → deciding table transport m.queries ≡ found → d.request ≡ m → Some d.decision ≡ option_map (decision_of transport) found
      → IsDecided table bytes transport d
  by_rule d None is request decision = absurd (cc decision)
  by_rule d (Some rule) is request decision = record {
    rule = rule;
    reads = subst (λ (x : Message). ReadsMessage bytes x) (sym request) reads;
    asks = ap (λ (x : Message). x.metadata.message_type) request ∙ asks;
    decides = ap (λ (x : Message). deciding table transport x.queries) request ∙ is;
    decision_is = cc decision;
  }

  by_none : (found : Option CountedRule) → deciding table transport m.queries ≡ found → option_map (decision_of transport) found ≡ None
      → (other : Message) → ReadsMessage bytes other → other.metadata.message_type ≡ kinds.Query → deciding table transport other.queries ≡ None
  by_none None is none other also_reads also_asks = ap (λ (x : Message). deciding table transport x.queries) (same other also_reads) ∙ is
  by_none (Some rule) is none other also_reads also_asks = absurd (cc none)

  -- by the result of the decision
  pub decides : (result : Option Decided)
      → IfSome result (λ d. (d.request ≡ m) × (Some d.decision ≡ option_map (decision_of transport) (deciding table transport m.queries)))
      → (result ≡ None → option_map (decision_of transport) (deciding table transport m.queries) ≡ None)
      → Decides table bytes transport result
  decides (Some d) some none = by_rule d (deciding table transport m.queries) refl some.0 some.1
  decides None some none = by_none (deciding table transport m.queries) refl (none refl)
