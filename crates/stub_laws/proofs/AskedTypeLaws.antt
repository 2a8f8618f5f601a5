-- Answers that stood have the types that were asked for, and aliases.
use Rattle.std.proofs.Common.{◌≡◌, ℕ, ◌==◌, ◌||◌, Bool, true, false, List, Ok, All, refl, sym, subst, inl, inr, arith}
use Rattle.std.specs.Prelude.{◌⊎◌}
use Rattle.std.proofs.lemmas.Bool.Decides.{nat_tests}
use Rattle.std.proofs.lemmas.List.Elements.{All-weaker}
use Rattle.dns_wire.specs.codes.RecordType.{type_number}
use Rattle.dns_wire.specs.declared.codes.record_type.RecordType.TheVariants as types
use Rattle.dns_names.specs.Name.{DomainName}
use Rattle.dns_records.specs.Record.{Record}
use Rattle.dns_messages.specs.Response.{has_type}
use Rattle.dns_messages.specs.declared.query.Query.{Query}
use Rattle.dns_messages.specs.declared.response.DnsResponse.{DnsResponse}
use Rattle.dns_zone.specs.Answer.{IsChain, answer}
use Rattle.dns_zone.specs.Rows.{ZoneContent}
use Rattle.stub_client.specs.AnswerTypes.{HasAskedTypes, is_asked_or_alias}
use Rattle.stub_client.specs.Origins.{Asked}
use Rattle.stub_client.specs.Step.{meaning}
use Rattle.stub_link.specs.LinkState.{Version}
use Rattle.stub_laws.specs.history.Answered.{AreZones, IsAnsweredBy, zone_with}
use Rattle.stub_laws.proofs.AnswerRowLaws.{IsAnswerRow, answer-rows, number_of, zone-of-rows}
use Rattle.stub_laws.proofs.FreshLaws.{meant}

numbers-equal : (m n : ℕ) → m ≡ n → (m == n) ≡ true
numbers-equal m n h = grind (arith, nat_tests)

second-of : (a b c : Bool) → b ≡ true → (a || b) || c ≡ true
second-of true b c h = refl
second-of false true c h = refl
second-of false false c h = absurd (cc)

third-of : (a b c : Bool) → c ≡ true → (a || b) || c ≡ true
third-of true b c h = refl
third-of false true c h = refl
third-of false false c h = h

asked-or-alias : (q : Query) (r : Record) → (number_of r ≡ type_number q.query_type) ⊎ (number_of r ≡ 5) → is_asked_or_alias q r ≡ true
asked-or-alias q r (inl is) =
    second-of (type_number q.query_type == 255) (has_type q.query_type r) (has_type types.CNAME r)
    (numbers-equal (number_of r) (type_number q.query_type) is)
asked-or-alias q r (inr is) =
    third-of (type_number q.query_type == 255) (has_type q.query_type r) (has_type types.CNAME r) (numbers-equal (number_of r) 5 is)

pub asked-types : ((zone : ZoneContent) (q : Query) → IsChain zone.rows q.query_type q.name (answer zone q).answers)
    → (origin : DomainName) (history : List Version) → AreZones origin history → (asked : List Asked) → All (IsAnsweredBy origin history) asked
    → All (λ a. (response : DnsResponse) → meaning a.ask.outcome ≡ Ok response → HasAskedTypes a.ask.question response.message) asked
asked-types chains origin history zones asked answered =
    All-weaker (IsAnsweredBy origin history)
    (λ (a : Asked). (response : DnsResponse) → meaning a.ask.outcome ≡ Ok response → HasAskedTypes a.ask.question response.message)
    (λ a by response means.
    (let held = by response (meant a.ask.outcome response means) in
    let q : Query = a.ask.question in
    let zone : ZoneContent = zone_with origin held.rows in
    subst (λ (rs : List Record). All (λ r. is_asked_or_alias q r ≡ true) rs) (sym held.holds.answers)
    (All-weaker (IsAnswerRow held.rows q.query_type) (λ (r : Record). is_asked_or_alias q r ≡ true)
    (λ r row. asked-or-alias q r row.kind) (answer zone q).answers
    (answer-rows zone (zone-of-rows origin history a.moment held.rows zones held.stand) q.query_type (chains zone q)))))
    asked answered
