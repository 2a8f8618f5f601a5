use Rattle.dns_zone_file.proofs.AsciiLaws.{all_ascii, not_all_ascii}
use Rattle.dns_zone_file.proofs.entry.ascii_text.Goals as goal

pub returns-then-is_ascii : goal.returns-then-is_ascii
returns-then-is_ascii c = search (all_ascii c.args.text.now c.if-is_ascii.ensures.cases)

pub returns-else-is_ascii : goal.returns-else-is_ascii
returns-else-is_ascii c = search (not_all_ascii c.args.text.now c.if-is_ascii.ensures.cases)
