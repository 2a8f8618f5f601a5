use Rattle.std.proofs.Common.{refl}
use Rattle.dns_durable.proofs.BatchLaws.{only_one}
use Rattle.dns_durable.proofs.compaction.stated_text.Goals as goal

pub returns : goal.returns
returns c = record {
  zone = c.zone-item.result;
  zones_are = only_one c.args.zones.now c.zone-item.result c.in-len1.len_at_least c.in-len1.len_below c.zone-item.is;
  is_text = c.in_ok-file_text.ensures;
  stated = c.if-not-is_stated.ensures refl;
}
