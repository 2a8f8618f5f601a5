use Rattle.std.proofs.Common.{refl, ap, ◌∙◌, ◌+◌, ℕ, List, length, map}
use Rattle.dns_journal.proofs.JournalLaws.{damaged, length-front, whole}
use Rattle.dns_journal.proofs.format.read.content_of.Goals as goal

pub returns-then-not-is_torn-clause-refused : goal.returns-then-not-is_torn-clause-refused
returns-then-not-is_torn-clause-refused c =
    damaged _ _ _ _ _ _ _ c.requires.front c.requires.place c.requires.link refl
    (λ h. let yes = c.is_torn.ensures.1 h in absurd (cc (yes, c.if-not-is_torn.true)))

pub returns-clause-journal : goal.returns-clause-journal
returns-clause-journal c = whole _ _ _ _ _ _ _ c.requires.front c.requires.place c.requires.link refl (c.is_torn.ensures.0 c.if-not-is_torn.false)

pub returns-clause-len : goal.returns-clause-len
returns-clause-len c =
    let ps : List (List ℕ) = map (λ p. p.now) c.args.entries.payloads.items in
    ap (λ (k : ℕ). k + length c.args.entries.end.now) c.requires.place
    ∙ length-front c.args.bytes.now c.args.head.now c.args.entries.end.now ps c.requires.front.head_len c.requires.front.parts
