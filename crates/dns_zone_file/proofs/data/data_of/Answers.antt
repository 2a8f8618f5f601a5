use Rattle.std.proofs.Common.{rules, refl, sym}
use Rattle.dns_zone_file.specs.Data.{compressed}
use Rattle.dns_zone_file.proofs.DataLaws.{none_at, some_at, not_decoded_at}
use Rattle.dns_zone_file.proofs.data.data_of.Goals as goal

pub returns-then-is_empty-clause-refused : goal.returns-then-is_empty-clause-refused
returns-then-is_empty-clause-refused c = none_at c.args.record_type c.args.bytes.now (sym (c.if-is_empty.ensures))

pub returns-then-not-is_plain-clause-refused : goal.returns-then-not-is_plain-clause-refused
returns-then-not-is_plain-clause-refused c = compressed (some_at c.args.bytes.now (sym (c.if-is_empty.ensures))) (search rules)

pub returns-in-Err : goal.returns-in-Err
returns-in-Err c = record {
  ok = tt;
  named = tt;
  refused = not_decoded_at c.args.record_type c.args.bytes.now _ c.new-decoder.result c.in-Err.field-0 c.new-decoder.ensures refl
      (some_at c.args.bytes.now (sym (c.if-is_empty.ensures))) (search rules) (c.in-Err.ensures.refused (search rules));
}
