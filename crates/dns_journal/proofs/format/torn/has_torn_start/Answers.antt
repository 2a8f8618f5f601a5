use Rattle.std.proofs.Common.{refl}
use Rattle.dns_journal.proofs.TornLaws.{start_of, start_unwritten, start_zeros, torn_only}
use Rattle.dns_journal.proofs.format.torn.has_torn_start.Goals as goal

pub returns-then-are_zeros : goal.returns-then-are_zeros
returns-then-are_zeros c =
    let zeros = c.are_zeros.ensures.0 c.if-are_zeros.true in
    let start = start_zeros c.args.key.now c.args.link c.args.place _ _ c.args.end.now c.room-room.ensures c.min-in_block.ensures zeros in
    (λ _. start, λ _. refl)

pub returns-then-has_unwritten_frame_end : goal.returns-then-has_unwritten_frame_end
returns-then-has_unwritten_frame_end c =
    let second = c.has_unwritten_frame_end.ensures.0 c.if-has_unwritten_frame_end.true in
    let start = start_unwritten c.args.key.now c.args.link c.args.place _ _ c.args.end.now c.room-room.ensures c.min-in_block.ensures second in
    (λ _. start, λ _. refl)

pub returns : goal.returns
returns c = (
  λ yes. start_of c.args.key.now c.args.link c.args.place _ _ c.args.end.now c.room-room.ensures c.min-in_block.ensures (c.is_torn_entry.ensures.0 yes),
  λ start. c.is_torn_entry.ensures.1 (torn_only c.args.key.now c.args.link c.args.place _ _ c.args.end.now c.room-room.ensures c.min-in_block.ensures c.if-end-lt-FRAME_LEN.false
      (λ zeros. let yes = c.are_zeros.ensures.1 zeros in absurd (cc (yes, c.if-are_zeros.false)))
      (λ second. let yes = c.has_unwritten_frame_end.ensures.1 second in absurd (cc (yes, c.if-has_unwritten_frame_end.false)))
      start),
)
