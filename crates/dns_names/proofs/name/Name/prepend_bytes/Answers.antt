use Rattle.std.proofs.Common.{◌≡◌, true, false, [], ◌∷◌, ◌++◌, Ok, refl, subst, arith}
use Rattle.dns_names.specs.Name.{IsInline, IsInlineOutcome}
use Rattle.dns_names.proofs.BuildingLaws.{front_fits}
use Rattle.dns_names.proofs.InlineLaws.{inline_front}
use Rattle.dns_names.proofs.name.Name.prepend_bytes.Goals as goal

pub returns-in_err-push-clause-inline : goal.returns-in_err-push-clause-inline
returns-in_err-push-clause-inline c =
    let room = front_fits c.args.self.now (Ok c.args.label.now) c.args.label.now refl (omega (arith, c.encoded_len.ensures.value, c.if-encoded_len-label-gt-MAX_LENGTH.false)) in
    λ inline.
    let is : IsInline (c.args.label.now ∷ c.args.self.now.labels) = subst IsInlineOutcome room inline in
    let first : IsInline (c.new-name.result.labels ++ c.args.label.now ∷ []) = rw c.new-name.ensures (inline_front (c.args.label.now ∷ []) c.args.self.now.labels is) in
    let clash : false ≡ true = c.in_err-push.ensures.inline first in
    absurd (cc)
