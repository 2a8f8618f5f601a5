use Rattle.std.proofs.Common.{rules}
use Rattle.dns_log.proofs.JsonLaws.{escaped}
use Rattle.dns_log.proofs.json.write_escaped.Goals as goal

pub returns : goal.returns
returns g c =
    escaped g.W.Write.write_str_gives _ _ c.args.f.now _ c.write-result.result (g.D.Display.output c.args.value.now) (search rules) (λ same. search rules)
    c.write-result.ensures.writes
