use Rattle.std.proofs.Common.{◌≡◌, ◌∙◌}
use Rattle.dns_wire.proofs.encoder.BinEncoder.emit_iter.Goals as goal

pub returns-clause-items : goal.returns-clause-items
returns-clause-items g c =
    let ran = c.in_ok-lent.ensures.ran in
    let lent : c.deref.result.now ≡ ran.0 = c.deref.ensures.value ∙ ran.2.0 in
    let end = ran.1.2 tt in
    let written = c.emit_all_refs.ensures in (
      c.deref.result.now,
      λ n. (end.0, (ran.1.0, rw lent (ran.1.1), end.1)),
      record { wrote = written.wrote; writable = written.writable; all = written.all; not_all = written.not_all },
    )
