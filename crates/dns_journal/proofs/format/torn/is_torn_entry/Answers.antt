use Rattle.std.proofs.Common.{arith}
use Rattle.dns_journal.proofs.TornLaws.{torn_frame, torn_len}
use Rattle.dns_journal.proofs.format.torn.is_torn_entry.Goals as goal

pub returns-then-len-gt-MAX_PAYLOAD_LEN : goal.returns-then-len-gt-MAX_PAYLOAD_LEN
returns-then-len-gt-MAX_PAYLOAD_LEN c = (
  λ e. absurd cc,
  λ torn.
      let same = torn_len c.args.key.now c.args.link c.args.in_block _ c.args.end.now c.number_in-len.ensures.number torn in
      absurd (omega (arith, same, torn.small, c.if-len-gt-MAX_PAYLOAD_LEN.true)),
)

pub returns-then-end-len : goal.returns-then-end-len
returns-then-end-len c = (
  λ e. absurd cc,
  λ torn.
      let same = torn_len c.args.key.now c.args.link c.args.in_block _ c.args.end.now c.number_in-len.ensures.number torn in
      absurd (omega (arith, same, torn.within, c.if-end-len.true)),
)

pub returns-then-in_block-len : goal.returns-then-in_block-len
returns-then-in_block-len c = (
  λ e. absurd cc,
  λ torn.
      let same = torn_len c.args.key.now c.args.link c.args.in_block _ c.args.end.now c.number_in-len.ensures.number torn in
      absurd (omega (arith, same, torn.unfinished, c.if-in_block-len.true)),
)

pub returns : goal.returns
returns c = (
  λ yes. record {
    len = c.number_in-len.result;
    small = omega arith;
    frame_is = c.has_frame.ensures.0 yes;
    within = omega arith;
    unfinished = omega arith;
  },
  λ torn. c.has_frame.ensures.1 (torn_frame c.args.key.now c.args.link c.args.in_block _ c.args.end.now c.number_in-len.ensures.number torn),
)
