use Rattle.std.proofs.Common.{◌∙◌, true, ap, sym}
use Rattle.dns_wire.specs.declared.codes.dns_class.DNSClass.TheVariants.{IN}
use Rattle.dns_names.specs.Name.{DomainName}
use Rattle.dns_records.specs.RecordSet.{empty_set}
use Rattle.dns_zone.proofs.StoreLaws.{inserted, stands}
use Rattle.dns_zone.proofs.sets.ZoneSets.reserve_one.Goals as goal

pub returns-then-contains-clause-ok : goal.returns-then-contains-clause-ok
returns-then-contains-clause-ok c = λ k. stands c.args.set.now c.args.self.now k (sym c.contains.ensures ∙ c.if-contains.true)

pub returns-clause-ok : goal.returns-clause-ok
returns-clause-ok c = λ k.
    inserted c.args.set.now c.args.self.now c.insert.new.self c.new.result k c.type_number_round_trips.ensures
    (c.new.ensures ∙ (λ i. empty_set ((c.set_fqdn.ensures ∙ ap (λ (n : DomainName). record n { is_fqdn = true }) c.in_ok-name.ensures.ok) i) (c.canonical-record_type.ensures i) IN 0 0))
    (sym c.contains.ensures ∙ c.if-contains.false) (c.in_ok-insert.ensures.ok k)
