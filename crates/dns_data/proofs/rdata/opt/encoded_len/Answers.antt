use Rattle.std.proofs.Common.{ap, arith, length}
use Rattle.std.proofs.Common.{List, ℕ}
use Rattle.dns_data.proofs.PrintingLaws.{len_further}
use Rattle.dns_data.proofs.rdata.opt.encoded_len.Goals as goal

pub loop-option-preserved : goal.loop-option-preserved
loop-option-preserved c = record {
  completes = len_further c.args.options.now c.loop-option.option-index c.loop-option.len (length c.data.result.now) _ c.option-item.result _ c.option-item.is (ap (λ (l : List ℕ). length l) c.data.ensures.value) c.loop-option-test.true
      c.loop-option.invariant.completes;
  bounded = omega (arith, c.data.ensures.bounded, c.loop-option.invariant.bounded);
}
