use Rattle.std.proofs.Common.{◌++◌, get_or, arith, rules}
use Rattle.std.proofs.Output.{has_written_append}
use Rattle.dns_log.specs.Json.{json_octet}
use Rattle.dns_log.proofs.JsonLaws.{octet_more}
use Rattle.dns_log.proofs.json.write_octets.Goals as goal

pub loop-octet-preserved : goal.loop-octet-preserved
loop-octet-preserved g c = λ plain.
    let so_far = c.loop-octet.invariant plain in (
      so_far.0 ++ json_octet (get_or c.args.octets.now c.loop-octet.octet-index 0),
      has_written_append _ _ _ _ _ _ so_far.1 (search rules),
      octet_more c.args.octets.now c.loop-octet.octet-index so_far.0 _ (omega arith) so_far.2,
    )
