use Rattle.std.proofs.Common.{◌≡◌, ◌-◌, refl, sym, subst, take, drop}
use Rattle.dns_journal.specs.format.Format.{AreZeros}
use Rattle.dns_journal.proofs.TornLaws.{unwritten_end}
use Rattle.dns_journal.proofs.format.torn.has_unwritten_frame_end.Goals as goal

pub returns : goal.returns
returns c =
    let r = c.args.room in
    let end = c.args.end.now in
    let same : take (28 - r) (drop r end) ≡ drop r (take 28 end) = unwritten_end r (28 - r) end refl in
    (λ yes. (c.if-room-ge-FRAME_LEN.false, subst AreZeros same (c.are_zeros.ensures.0 yes)), λ h. c.are_zeros.ensures.1 (subst AreZeros (sym same) h.1))
