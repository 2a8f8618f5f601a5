use Rattle.std.proofs.Common.{◌≡◌}
use Rattle.dns_messages.specs.Grammar.{kind_of}
use Rattle.dns_messages.proofs.SectionLaws.{ReadsFront}
use Rattle.dns_messages.proofs.section.SectionRecords.read.Given as goal

abbrev pub invariant-loop-nth : goal.invariant-loop-nth
invariant-loop-nth l = record {
  front : ReadsFront l.fn.decoder.bytes (kind_of l.fn.op_code l.fn.is_additional) l.fn.decoder.index l.fn.count l.nth l.self l.decoder.index;
  same_bytes : l.decoder.bytes ≡ l.fn.decoder.bytes;
  untouched : l.nth ≡ 0 → l.self ≡ l.fn.self;
}
