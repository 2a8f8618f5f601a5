use Rattle.std.proofs.Common.{◌<◌, arith}
use Rattle.std.proofs.lemmas.Bool.Decides.{nat_tests}
use Rattle.dns_zone_file.proofs.NumberLaws.{one_digit}
use Rattle.dns_zone_file.proofs.templates.form.+push_digits.Goals as goal

pub returns : goal.returns
returns t c =
    let some : 0 < c.args.count = grind (arith, nat_tests) in
    one_digit c.args.base c.args.count c.args.number c.radix-radix.result c.digit.result c.args.text.now.items c.push_digits.new.text.items c.push.new.self.items some
    c.radix-radix.ensures.value c.digit.ensures c.in_ok-push_digits.ensures c.in_ok-push.ensures.items
