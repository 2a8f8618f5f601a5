use Rattle.std.proofs.Common.{◌≡◌, true, false, ◌++◌, sym, subst, arith}
use Rattle.dns_names.specs.Name.{IsInline, IsInlineOutcome}
use Rattle.dns_names.proofs.BuildingLaws.{name_len-append, fits, overflows, not_refused}
use Rattle.dns_names.proofs.name.Name.append_name.Goals as goal

pub returns-then-encoded_len-clause-outcome : goal.returns-then-encoded_len-clause-outcome
returns-then-encoded_len-clause-outcome c =
    λ _. overflows (record c.args.self { is_fqdn = c.args.other.now.is_fqdn }) c.args.other.now.labels
    (omega (arith, name_len-append c.args.self.labels c.args.other.now.labels, c.encoded_len.ensures.value, c.encoded_len-2.ensures.value, c.if-encoded_len.true))

pub push_labels-requires-clause-fits : goal.push_labels-requires-clause-fits
push_labels-requires-clause-fits c = omega (arith, name_len-append c.args.self.labels c.args.other.now.labels, c.encoded_len.ensures.value, c.encoded_len-2.ensures.value, c.if-encoded_len.false)

pub returns-clause-outcome : goal.returns-clause-outcome
returns-clause-outcome c =
    rw (c.set_fqdn.ensures, c.in_ok-push_labels.ensures.ok, c.is_fqdn.ensures)
    (fits (record c.args.self { is_fqdn = c.args.other.now.is_fqdn }) c.args.other.now.labels
    (omega (arith, name_len-append c.args.self.labels c.args.other.now.labels, c.encoded_len.ensures.value, c.encoded_len-2.ensures.value, c.if-encoded_len.false)))

pub returns-in_err-push_labels-clause-fault : goal.returns-in_err-push_labels-clause-fault
returns-in_err-push_labels-clause-fault c =
    λ error refused. absurd (not_refused (record c.args.self { is_fqdn = c.args.other.now.is_fqdn }) c.args.other.now.labels error
    (omega (arith, name_len-append c.args.self.labels c.args.other.now.labels, c.encoded_len.ensures.value, c.encoded_len-2.ensures.value, c.if-encoded_len.false)) refused)

pub returns-clause-fault : goal.returns-clause-fault
returns-clause-fault c =
    λ error refused. absurd (not_refused (record c.args.self { is_fqdn = c.args.other.now.is_fqdn }) c.args.other.now.labels error
    (omega (arith, name_len-append c.args.self.labels c.args.other.now.labels, c.encoded_len.ensures.value, c.encoded_len-2.ensures.value, c.if-encoded_len.false)) refused)

-- ---- a name that is stored inline

pub returns-then-encoded_len-clause-inline : goal.returns-then-encoded_len-clause-inline
returns-then-encoded_len-clause-inline c =
    λ _. sym (overflows (record c.args.self { is_fqdn = c.args.other.now.is_fqdn }) c.args.other.now.labels
    (omega (arith, name_len-append c.args.self.labels c.args.other.now.labels, c.encoded_len.ensures.value, c.encoded_len-2.ensures.value, c.if-encoded_len.true)))

pub returns-in_err-push_labels-clause-inline : goal.returns-in_err-push_labels-clause-inline
returns-in_err-push_labels-clause-inline c =
    let room = fits (record c.args.self { is_fqdn = c.args.other.now.is_fqdn }) c.args.other.now.labels
    (omega (arith, name_len-append c.args.self.labels c.args.other.now.labels, c.encoded_len.ensures.value, c.encoded_len-2.ensures.value, c.if-encoded_len.false)) in
    λ inline.
    let is : IsInline (c.args.self.labels ++ c.args.other.now.labels) = subst IsInlineOutcome room inline in
    let clash : false ≡ true = c.in_err-push_labels.ensures.inline is in
    absurd (cc)

pub returns-clause-inline : goal.returns-clause-inline
returns-clause-inline c =
    let room = fits (record c.args.self { is_fqdn = c.args.other.now.is_fqdn }) c.args.other.now.labels
    (omega (arith, name_len-append c.args.self.labels c.args.other.now.labels, c.encoded_len.ensures.value, c.encoded_len-2.ensures.value, c.if-encoded_len.false)) in
    λ _. rw (c.set_fqdn.ensures, c.in_ok-push_labels.ensures.ok, c.is_fqdn.ensures) (sym room)
