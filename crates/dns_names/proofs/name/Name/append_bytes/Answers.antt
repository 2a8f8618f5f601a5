use Rattle.std.proofs.Common.{◌≡◌, true, false, ◌++◌, ◌∷◌, [], Ok, refl, sym, subst, arith}
use Rattle.dns_names.specs.Name.{IsInline, IsInlineOutcome}
use Rattle.dns_names.proofs.BuildingLaws.{label_fits, label_overflows}
use Rattle.dns_names.proofs.name.Name.append_bytes.Goals as goal

pub returns-then-encoded_len-label-gt-MAX_LENGTH-clause-outcome : goal.returns-then-encoded_len-label-gt-MAX_LENGTH-clause-outcome
returns-then-encoded_len-label-gt-MAX_LENGTH-clause-outcome c =
    λ _. label_overflows c.args.self (Ok c.args.label.now) c.args.label.now refl (omega (arith, c.encoded_len.ensures.value, c.if-encoded_len-label-gt-MAX_LENGTH.true))

pub returns-then-encoded_len-label-gt-MAX_LENGTH-clause-inline : goal.returns-then-encoded_len-label-gt-MAX_LENGTH-clause-inline
returns-then-encoded_len-label-gt-MAX_LENGTH-clause-inline c =
    λ _. sym (label_overflows c.args.self (Ok c.args.label.now) c.args.label.now refl (omega (arith, c.encoded_len.ensures.value, c.if-encoded_len-label-gt-MAX_LENGTH.true)))

pub returns-in_err-push-clause-inline : goal.returns-in_err-push-clause-inline
returns-in_err-push-clause-inline c =
    let fits = label_fits c.args.self (Ok c.args.label.now) c.args.label.now refl (omega (arith, c.encoded_len.ensures.value, c.if-encoded_len-label-gt-MAX_LENGTH.false)) in
    λ inline.
    let is : IsInline (c.args.self.labels ++ c.args.label.now ∷ []) = subst IsInlineOutcome fits inline in
    let clash : false ≡ true = c.in_err-push.ensures.inline is in
    absurd (cc)

pub returns-clause-outcome : goal.returns-clause-outcome
returns-clause-outcome c =
    rw c.in_ok-push.ensures.ok
    (label_fits c.args.self (Ok c.args.label.now) c.args.label.now refl (omega (arith, c.encoded_len.ensures.value, c.if-encoded_len-label-gt-MAX_LENGTH.false)))

pub returns-clause-inline : goal.returns-clause-inline
returns-clause-inline c =
    let fits = label_fits c.args.self (Ok c.args.label.now) c.args.label.now refl (omega (arith, c.encoded_len.ensures.value, c.if-encoded_len-label-gt-MAX_LENGTH.false)) in
    λ _. rw c.in_ok-push.ensures.ok (sym fits)
