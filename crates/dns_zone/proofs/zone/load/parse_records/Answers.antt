use Rattle.std.proofs.Common.{rules}
use Rattle.dns_zone.proofs.LoadLaws.{reads_error}
use Rattle.dns_zone.proofs.zone.load.parse_records.Goals as goal

pub returns-in-Err : goal.returns-in-Err
returns-in-Err c = record {
  ok = tt;
  refused = λ other.
      reads_error c.args.types _ _ c.in_ok-origin.origin c.args.text.now c.with_types.result c.in-Err.error c.with_types.ensures c.in_ok-origin.ensures
      (c.in-Err.ensures.refused (search rules));
}
