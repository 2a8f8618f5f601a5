use Rattle.std.proofs.Common.{◌≡◌, ◌+◌, true, false, ◌++◌, ℕ, List, length, ap, sym, ◌∙◌, arith, length-append}
use Rattle.dns_wire.specs.Writing.{labels_form}
use Rattle.dns_wire.specs.Name.{AreLabels}
use Rattle.dns_names.specs.internal.Name.{labels_in}
use Rattle.dns_names.proofs.PartsLaws.{few_labels}
use Rattle.dns_names.proofs.WireLaws.{is_wire, labels_are, labels_form-append, are-append}
use Rattle.dns_names.proofs.InlineLaws.{wire_fits}
use Rattle.dns_names.proofs.name.Name.push_run.Goals as goal
use Rattle.dns_names.proofs.name.Name.push_run.Goals.{In_ok-extend_from_slice}

-- the labels before, and those of the run
abbrev own : (c : In_ok-extend_from_slice) → List (List ℕ)
own c = labels_in c.self.inside.label_count c.self.inside.wire.items

abbrev more : (c : In_ok-extend_from_slice) → List (List ℕ)
more c = labels_in c.args.count c.args.run.now

are : (c : In_ok-extend_from_slice) → AreLabels (own c ++ more c)
are c =
    let fits = rw (← c.self.view_is) at c.requires.fits in
    are-append (own c) (more c) c.self.invariant.are.each c.requires.run.each fits

form : (c : In_ok-extend_from_slice) → c.extend_from_slice.new.self.items ≡ labels_form (own c ++ more c)
form c =
    c.in_ok-extend_from_slice.ensures.ok ∙ ap (λ (xs : List ℕ). xs ++ c.args.run.now) c.self.invariant.form ∙ ap (λ (xs : List ℕ). labels_form (own c) ++ xs) c.requires.run.form
    ∙ sym (labels_form-append (own c) (more c))

many : (c : In_ok-extend_from_slice) → c.self.inside.label_count + c.args.count ≡ length (own c ++ more c)
many c = omega (arith, c.self.invariant.many, c.requires.run.many, length-append (own c) (more c))

pub overflow_cast-self : goal.overflow_cast-self
overflow_cast-self c =
    let at = (goal.at.overflow_cast-self c).In_ok-extend_from_slice in
    omega (arith, many at, few_labels _ (are at))

pub overflow_add-self : goal.overflow_add-self
overflow_add-self c =
    let at = (goal.at.overflow_add-self c).In_ok-extend_from_slice in
    omega (arith, many at, few_labels _ (are at))

pub invariant_of-self-2 : goal.invariant_of-self-2
invariant_of-self-2 c =
    let at = (goal.at.invariant_of-self-2 c).In_ok-extend_from_slice in
    is_wire _ _ (own at ++ more at) (form at) (many at) (are at)

pub returns-clause-ok : goal.returns-clause-ok
returns-clause-ok c =
    let at = (goal.at.returns-clause-ok c).In_ok-extend_from_slice in
    rw (← c.self.view_is) (ap (λ (ls : List (List ℕ)). record { is_fqdn = c.self.inside.is_fqdn; labels = ls }) (labels_are _ _ (own at ++ more at) (form at) (many at)))

pub returns-in_err-extend_from_slice-clause-inline : goal.returns-in_err-extend_from_slice-clause-inline
returns-in_err-extend_from_slice-clause-inline c =
    let own' = labels_in c.self.inside.label_count c.self.inside.wire.items in
    let more' = labels_in c.args.count c.args.run.now in
    rw (← c.self.view_is)
    (λ is.
    let lens = length-append (labels_form own') (labels_form more') in
    let clash : false ≡ true = c.in_err-extend_from_slice.ensures.succeeds
    (omega (arith, c.capacity.ensures.value, c.capacity.ensures.at_least_inline, wire_fits (own' ++ more') is, lens, ap (λ (xs : List ℕ). length xs) (labels_form-append own' more'), ap (λ (xs : List ℕ). length xs) c.self.invariant.form, ap (λ (xs : List ℕ). length xs) c.requires.run.form)) in
    absurd (cc))
