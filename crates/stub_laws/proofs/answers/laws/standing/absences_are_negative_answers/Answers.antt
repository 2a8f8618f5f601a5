use Rattle.std.proofs.Common.{◌≡◌, ◌||◌, not, false, List, ap, ◌∙◌}
use Rattle.dns_records.specs.declared.row.Row.{Row}
use Rattle.dns_zone.specs.Answer.{direct_answer, is_refused}
use Rattle.stub_hosts.specs.Hosts.{question}
use Rattle.stub_laws.specs.history.Answered.{zone_with}
use Rattle.stub_laws.proofs.answers.laws.standing.absences_are_negative_answers.Goals as goal

pub returns : goal.returns
returns c = λ config preserves origin history age now kind from absence a named.
    let accepted : is_refused (zone_with origin a.rows) (question a.owner kind) ≡ false = λ i. named i || not (a.inside i) in
    c.names_without_alias_are_answered_directly.ensures (zone_with origin a.rows) (question a.owner kind) accepted a.no_alias
    ∙ ap (λ (rows : List Row). direct_answer (zone_with origin a.rows) a.owner rows) a.no_row
