use Rattle.std.proofs.Common.{◌≡◌, true, false, [], ◌∷◌, ◌++◌, Ok, Err, refl, sym, subst, ◌∙◌, arith}
use Rattle.dns_names.specs.declared.error.ParseError.TheVariants.{DomainNameTooLong}
use Rattle.dns_names.specs.Parse.{PartialName, IsInlinePartial}
use Rattle.dns_names.proofs.TextLaws.{ends_too_long, ends_well}
use Rattle.dns_names.proofs.name.partial.PartialName.end_label.Goals as goal

pub returns-then-encoded_len-gt-MAX_LENGTH-clause-refused : goal.returns-then-encoded_len-gt-MAX_LENGTH-clause-refused
returns-then-encoded_len-gt-MAX_LENGTH-clause-refused c = λ _. ends_too_long c.args.self.now (omega (arith, c.label_len.ensures)) (omega (arith, c.encoded_len.ensures))

pub returns-clause-ok : goal.returns-clause-ok
returns-clause-ok c = ends_well c.args.self.now c.complete_label.new.self (omega (arith, c.label_len.ensures)) (omega (arith, c.encoded_len.ensures)) c.in_ok-complete_label.ensures.ok

-- ---- what is decided without memory

pub returns-then-encoded_len-gt-MAX_LENGTH-clause-inline : goal.returns-then-encoded_len-gt-MAX_LENGTH-clause-inline
returns-then-encoded_len-gt-MAX_LENGTH-clause-inline c = λ next e is.
    let clash : Err DomainNameTooLong ≡ Ok next = sym (ends_too_long c.args.self.now (omega (arith, c.label_len.ensures)) (omega (arith, c.encoded_len.ensures))) ∙ e in
    absurd (cc)

pub returns-in_err-complete_label-clause-inline : goal.returns-in_err-complete_label-clause-inline
returns-in_err-complete_label-clause-inline c = λ next f is.
    let b = c.args.self.now in
    let completed : PartialName = record { labels = b.labels ++ b.label ∷ []; label = [] } in
    let same : Ok completed ≡ Ok next = sym (ends_well b completed (omega (arith, c.label_len.ensures)) (omega (arith, c.encoded_len.ensures)) refl) ∙ f in
    let next_is : completed ≡ next = cc in
    let inline : IsInlinePartial completed = subst IsInlinePartial (sym next_is) is in
    let clash : false ≡ true = c.in_err-complete_label.ensures.inline (record { few = inline.few; short = omega (arith, inline.short) }) in
    absurd (cc)

pub returns-in_err-complete_label-clause-fault : goal.returns-in_err-complete_label-clause-fault
returns-in_err-complete_label-clause-fault c = λ error e.
    let b = c.args.self.now in
    let next : PartialName = record { labels = b.labels ++ b.label ∷ []; label = [] } in
    let clash : Ok next ≡ Err error = sym (ends_well b next (omega (arith, c.label_len.ensures)) (omega (arith, c.encoded_len.ensures)) refl) ∙ e in
    absurd (cc)

pub returns-clause-fault : goal.returns-clause-fault
returns-clause-fault c = λ error e.
    let b = c.args.self.now in
    let next : PartialName = record { labels = b.labels ++ b.label ∷ []; label = [] } in
    let clash : Ok next ≡ Err error = sym (ends_well b next (omega (arith, c.label_len.ensures)) (omega (arith, c.encoded_len.ensures)) refl) ∙ e in
    absurd (cc)
