use Rattle.std.proofs.Common.{◌≡◌, ◌+◌, ◌≤◌, true, false, length, ap, arith}
use Rattle.dns_wire.specs.Name.{name_len}
use Rattle.dns_names.specs.internal.Name.{labels_in}
use Rattle.dns_names.proofs.WireLaws.{len_is}
use Rattle.dns_names.proofs.name.Name.clone.Goals as goal

pub returns-in_err-from_slice-clause-inline : goal.returns-in_err-from_slice-clause-inline
returns-in_err-from_slice-clause-inline c =
    let count = c.self.inside.label_count in
    let bytes = c.self.inside.wire.items in
    let copied : length c.as_slice.result.now ≡ length bytes = ap length c.as_slice.ensures in
    rw (← c.self.view_is)
    (λ few short.
    let counted : length (labels_in count bytes) ≤ 24 = few in
    let fits : name_len (labels_in count bytes) ≤ length (labels_in count bytes) + 33 = short in
    let clash : false ≡ true = c.in_err-from_slice.ensures.succeeds (omega (arith, copied, counted, fits, len_is count bytes c.self.invariant)) in
    absurd (cc))
