use Rattle.std.proofs.Common.{arith}
use Rattle.dns_wire.proofs.PointerLaws.{pointer_at-is}
use Rattle.dns_wire.proofs.pointers.prior_target.Goals as goal
use Rattle.dns_wire.proofs.pointers.prior_target.Goals.{then-buffer-place-lt2-via-then-buffer-place-lt2, then-buffer-place-lt2-via-else-buffer-place-lt2+then-buffer-place-lt-POINTER}

pub returns-then-buffer-place-lt2-clause-none : goal.returns-then-buffer-place-lt2-clause-none
returns-then-buffer-place-lt2-clause-none c = λ _ target e.
    let is = pointer_at-is c.args.buffer.now c.args.place target e in
    elim c.then-buffer-place-lt2.branch [
      | then-buffer-place-lt2-via-then-buffer-place-lt2 w ↦ absurd (let short = w.if-buffer-place-lt2.true in omega (arith, is.0))
      | then-buffer-place-lt2-via-else-buffer-place-lt2+then-buffer-place-lt-POINTER w ↦ absurd (let low = w.if-buffer-place-lt-POINTER.true in omega (arith, is.1))
    ]
