use Rattle.std.proofs.Common.{ap, arith, length, sym, ◌∙◌}
use Rattle.dns_records.specs.edits.Places.{records_in}
use Rattle.dns_records.proofs.PlaceLaws.{Places, none_yet}
use Rattle.dns_records.proofs.edits.edited_records.EditedRecords.empty.Goals as goal

pub invariant_of-result : goal.invariant_of-result
invariant_of-result c = record {
  counted = sym (ap (λ (places : Places). length (records_in places)) c.new.ensures.items ∙ ap length none_yet);
  empty = c.new-2.ensures.items;
  fits = omega (arith, ap length c.new.ensures.items);
  indexed = c.new-3.ensures c.new.result.items;
}

pub returns : goal.returns
returns c = ap records_in c.new.ensures.items ∙ none_yet
