use Rattle.std.proofs.Common.{List, ℕ, ap, arith, length}
use Rattle.dns_data.proofs.LengthLaws.{string_further}
use Rattle.dns_data.proofs.rdata.txt.TXT.encoded_len.Goals as goal

pub loop-string-preserved : goal.loop-string-preserved
loop-string-preserved c = record {
  completes = string_further c.as_slice-strings.result.now c.loop-string.string-index c.loop-string.len (length c.as_slice.result.now) _ c.string-item.result _ c.string-item.is (ap (λ (l : List ℕ). length l) c.as_slice.ensures.value) c.loop-string-test.true
      c.loop-string.invariant.completes;
  bounded = omega (arith, c.as_slice.ensures.bounded, c.loop-string.invariant.bounded);
}
