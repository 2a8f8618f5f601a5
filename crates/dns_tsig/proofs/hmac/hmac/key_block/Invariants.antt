use Rattle.std.proofs.Common.{◌≡◌, ◌-◌, ◌≤◌, ◌++◌, length}
use Rattle.std.specs.Prelude.{replicate}
use Rattle.dns_tsig.specs.hmac.Hmac.{short_key}
use Rattle.dns_tsig.proofs.hmac.hmac.key_block.Given as goal

-- zeros follow the key up to the count
abbrev pub invariant-loop : goal.invariant-loop
invariant-loop l = record {
  len : length l.block.items ≡ l.counter;
  from : length (short_key l.fn.algorithm l.key) ≤ l.counter;
  zeros : l.block.items ≡ short_key l.fn.algorithm l.key ++ replicate (l.counter - length (short_key l.fn.algorithm l.key)) 0;
}
