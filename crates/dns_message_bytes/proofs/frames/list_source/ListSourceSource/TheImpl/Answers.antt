use Rattle.std.proofs.Common.{ℕ, Result, OnErr, sym, subst, arith}
use Rattle.dns_message_bytes.specs.frames.Frame.{Rises}
use Rattle.dns_message_bytes.proofs.frames.list_source.ListSourceSource.TheImpl.Goals as goal

-- a read never fails
pub read-tells : goal.read-tells
read-tells g c = record {
  ok = c.ensures.ok;
  kept = omega arith;
  fails = subst (λ (r : Result ℕ (Unit {0})). OnErr r (Rises 0 0)) (sym c.ensures.count) tt;
}
