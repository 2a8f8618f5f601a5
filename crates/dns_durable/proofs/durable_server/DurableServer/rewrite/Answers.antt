use Rattle.std.proofs.Common.{ℕ, List, Option, Some, None, subst, sym}
use Rattle.std.specs.Prelude.{IfSome}
use Rattle.std.specs.String.{string_bytes}
use Rattle.dns_zone.specs.Rows.{ZoneContent}
use Rattle.dns_durable.specs.Compaction.{IsRewritten, IsStatedText, IsSuccessor}
use Rattle.dns_durable.proofs.CompactionLaws.{ready_read, ready_stated}
use Rattle.dns_durable.proofs.durable_server.DurableServer.rewrite.Goals as goal

pub returns-in-Some-clause-ready : goal.returns-in-Some-clause-ready
returns-in-Some-clause-ready g c =
    subst (λ (carried : List ℕ). IsSuccessor c.args.self.now.server (string_bytes c.in-Some.text) carried None) (sym c.new.ensures.items)
    (ready_stated c.args.self.now.server (string_bytes c.in-Some.text)
    (subst (λ (z : List ZoneContent). IsStatedText z (string_bytes c.in-Some.text)) c.zones.ensures.zones
    (subst (λ (o : Option _). IfSome o (λ text. IsStatedText c.zones.result.now (string_bytes text))) c.in-Some.is c.in_ok-text.ensures)))

pub returns-in_ok-text-in-None-clause-ready : goal.returns-in_ok-text-in-None-clause-ready
returns-in_ok-text-in-None-clause-ready g c =
    let read = c.in_ok-text-in-None.field-0 in
    subst (λ (carried : List ℕ). IsSuccessor c.args.self.now.server (string_bytes read.text) carried (Some read.zone)) (sym c.new-in-None.ensures.items)
    (ready_read c.args.self.now.server (string_bytes read.text) read.zone
    (subst (λ (z : List ZoneContent). IsRewritten z (string_bytes read.text) read.zone) c.zones-in-None.ensures.zones c.in_ok-text-in-None.ensures.rewritten))
