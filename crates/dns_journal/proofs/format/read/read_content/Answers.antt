use Rattle.std.proofs.Common.{List, ℕ, map, ap, refl}
use Rattle.dns_journal.proofs.JournalLaws.{entries_read, link_read}
use Rattle.dns_journal.proofs.format.read.read_content.Goals as goal

pub content_of-requires-clause-front : goal.content_of-requires-clause-front
content_of-requires-clause-front c =
    entries_read _ _ _ _ _ _ _ _ c.requires.len refl (ap (λ (s : ℕ). record { seal = s; number = 0 }) c.head_seal.ensures) c.requires.parts
    c.in-Ok.ensures.parts c.in-Ok.ensures.short c.in-Ok.ensures.link c.in-Ok.ensures.none

pub content_of-requires-clause-link : goal.content_of-requires-clause-link
content_of-requires-clause-link c =
    let ps : List (List ℕ) = map (λ p. p.now) c.in-Ok.entries.payloads.items in
    link_read c.args.head.now ps _ _ _ c.requires.len refl (ap (λ (s : ℕ). record { seal = s; number = 0 }) c.head_seal.ensures) c.in-Ok.ensures.link
