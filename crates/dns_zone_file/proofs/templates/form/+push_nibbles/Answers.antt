use Rattle.std.proofs.Common.{◌<◌, arith}
use Rattle.std.proofs.lemmas.Bool.Decides.{nat_tests}
use Rattle.dns_zone_file.proofs.NumberLaws.{one_nibble}
use Rattle.dns_zone_file.proofs.templates.form.+push_nibbles.Goals as goal

pub returns : goal.returns
returns t c =
    let some : 1 < c.args.len = grind (arith, nat_tests) in
    one_nibble c.args.base c.args.len c.args.number c.digit.result c.args.text.now.items c.push.new.self.items c.push-2.new.self.items c.push_nibbles.new.text.items some
    c.digit.ensures c.in_ok-push.ensures.items c.in_ok-push-2.ensures.items c.in_ok-push_nibbles.ensures
