use Rattle.std.proofs.Common.{arith}
use Rattle.dns_zone.proofs.LoadLaws.{reads_ok, reads_refusal}
use Rattle.dns_zone.proofs.PrintableLaws.{printable_zone}
use Rattle.dns_zone.proofs.zone.Zone.from_text_with.Goals as goal

pub returns-clause-ok : goal.returns-clause-ok
returns-clause-ok c =
    reads_ok c.args.types _ _ c.args.text.now c.in_ok-records.records c.in_ok-origin.origin c.in_ok-records.ensures.ok c.in_ok-origin.ensures
    c.zone_of.result c.zone_of.ensures.origin c.zone_of.ensures.rows c.zone_of.ensures.faultless

pub returns-clause-refused : goal.returns-clause-refused
returns-clause-refused c =
    reads_refusal c.args.types _ _ c.args.text.now c.in_ok-records.records c.in_ok-origin.origin c.in_ok-records.ensures.ok c.in_ok-origin.ensures
    c.zone_of.result c.zone_of.ensures.refused

pub returns-clause-printable : goal.returns-clause-printable
returns-clause-printable c = λ nine.
    printable_zone c.args.types _ _ c.args.text.now c.in_ok-records.records nine c.in_ok-records.ensures.ok c.zone_of.result c.zone_of.ensures.rows
    (λ k. omega (arith, c.type_inv.text k)) c.texts_are_octets.ensures c.origin_is_valid.ensures
