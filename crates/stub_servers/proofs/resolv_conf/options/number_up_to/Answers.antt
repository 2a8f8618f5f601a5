use Rattle.std.proofs.Common.{arith, sym, ◌∙◌}
use Rattle.stub_servers.proofs.OptionLaws.{number-turn}
use Rattle.stub_servers.proofs.resolv_conf.options.number_up_to.Goals as goal

pub loop-octet-preserved : goal.loop-octet-preserved
loop-octet-preserved c = record {
  bound = omega (arith, c.with_digit-number.ensures);
  completes = number-turn c.args.greatest c.loop-octet.number c.with_digit-number.result c.args.text.now c.loop-octet.octet-index
      c.loop-octet-test.true (sym c.is_ascii_digit.ensures.value ∙ c.if-not-is_ascii_digit.false) c.with_digit-number.ensures
      c.loop-octet.invariant.completes;
}
