use Rattle.std.proofs.Common.{◌≡◌, ◌+◌, List, ℕ, take, refl, sym, ◌∙◌, ap}
use Rattle.dns_journal.specs.format.Format.{check, front, word}
use Rattle.dns_journal.proofs.EntryLaws.{check_of, framed, front_of}
use Rattle.dns_journal.proofs.format.find.has_frame.Goals as goal

pub returns-then-is_slice : goal.returns-then-is_slice
returns-then-is_slice c =
    let key = c.args.key.now in
    let link = c.args.link in
    let len = c.args.len in
    let bytes = c.args.bytes.now in
    let first : take 20 bytes ≡ front link.seal (link.number + 1) len = c.is_slice.ensures.0 c.if-is_slice.true ∙ c.as_slice.ensures ∙ c.front-front.ensures in
    let check_is : word c.check.result ≡ word (check key (front link.seal (link.number + 1) len)) =
    ap word (c.check.ensures ∙ ap (λ (l : List ℕ). check key l) (c.as_slice-then-is_slice.ensures ∙ c.front-front.ensures)) in
    (λ yes. framed key link len 8 bytes refl first (c.is_word.ensures.0 yes ∙ check_is), λ is. c.is_word.ensures.1 (check_of key link len 8 bytes refl is ∙ sym check_is))

pub returns-else-is_slice : goal.returns-else-is_slice
returns-else-is_slice c = (
  λ e. absurd cc,
  λ is.
      let yes = c.is_slice.ensures.1 (front_of c.args.key.now c.args.link c.args.len c.args.bytes.now is ∙ sym (c.as_slice.ensures ∙ c.front-front.ensures)) in
      absurd (cc (yes, c.if-is_slice.false)),
)
