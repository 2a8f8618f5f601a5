use Rattle.std.proofs.Common.{Option, ap, length, rules, sym, ◌∙◌}
use Rattle.dns_wire.proofs.SuffixLaws.{filter_from_retain_by}
use Rattle.dns_records.specs.Record.{Record}
use Rattle.dns_records.specs.edits.Places.{records_in}
use Rattle.dns_records.specs.edits.internal.Edits.{has_other_data}
use Rattle.dns_records.proofs.PlaceLaws.{Places, count_kept, kept}
use Rattle.dns_records.proofs.edits.edited_records.retain_others.Goals as goal

pub returns-clause-records : goal.returns-clause-records
returns-clause-records c =
    ap records_in (filter_from_retain_by _ (λ (place : Option Record). has_other_data place c.args.rdata.now) _ (λ x b q k. search rules) _ _ c.retain.ensures.filtered)
    ∙ kept c.args.places.now.items c.args.rdata.now

pub returns-clause-len : goal.returns-clause-len
returns-clause-len c =
    let e = filter_from_retain_by _ (λ (place : Option Record). has_other_data place c.args.rdata.now) _ (λ x b q k. search rules) _ _ c.retain.ensures.filtered in
    ap (λ (places : Places). length (records_in places)) e ∙ count_kept c.args.places.now.items c.args.rdata.now ∙ sym (ap length e)
