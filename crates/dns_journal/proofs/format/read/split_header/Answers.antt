use Rattle.std.proofs.Common.{refl, ◌∙◌, sym, ap}
use Rattle.dns_journal.specs.format.Format.{word}
use Rattle.dns_journal.proofs.JournalLaws.{header_found, header_long, header_sealed}
use Rattle.dns_journal.proofs.format.read.split_header.Goals as goal

pub returns-clause-found : goal.returns-clause-found
returns-clause-found c = header_found c.args.bytes.now _ _ _ _ c.if-bytes-lt-HEADER_LEN.false (c.begins_with.ensures.0 c.if-not-begins_with.false) refl refl refl c.head_seal.ensures (c.is_word.ensures.0 c.if-not-is_word.false)

pub returns-then-bytes-lt-HEADER_LEN-clause-none : goal.returns-then-bytes-lt-HEADER_LEN-clause-none
returns-then-bytes-lt-HEADER_LEN-clause-none c has = header_long c.args.bytes.now has c.if-bytes-lt-HEADER_LEN.true

pub returns-then-not-is_word-clause-none : goal.returns-then-not-is_word-clause-none
returns-then-not-is_word-clause-none c has =
    let yes = c.is_word.ensures.1 (header_sealed c.args.bytes.now 48 8 refl refl has ∙ ap word (sym c.head_seal.ensures)) in
    absurd (cc (yes, c.if-not-is_word.true))
