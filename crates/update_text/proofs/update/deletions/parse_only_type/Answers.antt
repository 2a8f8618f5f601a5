use Rattle.std.proofs.Common.{◌≤◌, length, arith}
use Rattle.update_text.proofs.UpdateLaws.{no_only_type}
use Rattle.update_text.proofs.update.deletions.parse_only_type.Goals as goal

pub returns-in_default-2 : goal.returns-in_default-2
returns-in_default-2 c =
    let many : 2 ≤ length c.args.arguments.now = omega arith in
    no_only_type c.args.types c.args.arguments.now many
