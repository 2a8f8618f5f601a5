use Rattle.std.proofs.Common.{◌≡◌, ℕ, ◌+◌, ◌-◌, refl, ap, ◌∙◌, arith}
use Rattle.dns_journal.specs.format.Format.{frame}
use Rattle.dns_journal.proofs.EntryLaws.{found_entry, len_of, parts_of, sealed_of, stored_of}
use Rattle.dns_journal.proofs.format.find.entry_of_len.Goals as goal

pub returns-then-not-has_frame-clause-none : goal.returns-then-not-has_frame-clause-none
returns-then-not-has_frame-clause-none c payload rest begins =
    let bytes = c.args.bytes.now in
    let p = parts_of c.args.key.now c.args.link payload bytes rest begins in
    let same = len_of c.args.key.now c.args.link bytes payload rest c.args.len c.requires.len begins in
    let yes = c.has_frame.ensures.1 (p.frame_is ∙ ap (λ (k : ℕ). frame c.args.key.now c.args.link k) same) in
    absurd (cc (yes, c.if-not-has_frame.true))

pub returns-then-not-is_word-clause-none : goal.returns-then-not-is_word-clause-none
returns-then-not-is_word-clause-none c payload rest begins =
    let bytes = c.args.bytes.now in
    let len = c.args.len in
    let m : 28 + len - 28 ≡ len = omega arith in
    let k : 36 + len - (28 + len) ≡ 8 = omega arith in
    let same = len_of c.args.key.now c.args.link bytes payload rest len c.requires.len begins in
    let sealed = sealed_of c.args.key.now c.args.link bytes _ len _ _ m c.requires.within (c.as_slice.ensures ∙ c.front.ensures) c.seal-sealed.ensures in
    let yes = c.is_word.ensures.1 (stored_of c.args.key.now c.args.link bytes payload rest len _ _ _ m k same begins sealed) in
    absurd (cc (yes, c.if-not-is_word.true))

pub returns-clause-found : goal.returns-clause-found
returns-clause-found c =
    let bytes = c.args.bytes.now in
    let len = c.args.len in
    let m : 28 + len - 28 ≡ len = omega arith in
    let k : 36 + len - (28 + len) ≡ 8 = omega arith in
    let sealed = sealed_of c.args.key.now c.args.link bytes _ len _ _ m c.requires.within (c.as_slice.ensures ∙ c.front.ensures) c.seal-sealed.ensures in
    found_entry c.args.key.now c.args.link bytes len _ _ _ _ m k refl c.requires.small c.requires.within (c.has_frame.ensures.0 c.if-not-has_frame.false)
    (c.is_word.ensures.0 c.if-not-is_word.false) sealed

pub returns-clause-link : goal.returns-clause-link
returns-clause-link c =
    let m : 28 + c.args.len - 28 ≡ c.args.len = omega arith in
    let sealed = sealed_of c.args.key.now c.args.link c.args.bytes.now _ c.args.len _ _ m c.requires.within (c.as_slice.ensures ∙ c.front.ensures) c.seal-sealed.ensures in
    ap (λ (s : ℕ). record { seal = s; number = c.args.link.number + 1 }) sealed
