use Rattle.std.proofs.Common.{◌+◌, List, ℕ, drop, sym, ap, ◌∙◌}
use Rattle.std.proofs.lemmas.Result.{err_from_is_err_and}
use Rattle.dns_fields.specs.service.List.{list_bytes}
use Rattle.dns_fields.proofs.LoopLaws.{at_place}
use Rattle.dns_fields.proofs.service.list.list_bytes.Goals as goal

pub loop-octet-preserved : goal.loop-octet-preserved
loop-octet-preserved c =
    sym (ap (λ (l : List ℕ). list_bytes c.args.kind c.loop-octet.bytes.items c.loop-octet.item.items c.loop-octet.is_escaped l)
    (at_place c.args.octets.now c.loop-octet.octet-index 0 c.loop-octet-test.true)
    ∙ c.in_ok-is_escaped.ensures.ok (drop (c.loop-octet.octet-index + 1) c.args.octets.now)) ∙ c.loop-octet.invariant

pub returns-in_err-is_escaped-clause-refused : goal.returns-in_err-is_escaped-clause-refused
returns-in_err-is_escaped-clause-refused c =
    let p = err_from_is_err_and c.from_residual.result c.from_residual.ensures.1 in
    rw (p.1, p.2) (λ other.
    sym c.loop-octet.invariant
    ∙ ap (λ (l : List ℕ). list_bytes c.args.kind c.loop-octet.bytes.items c.loop-octet.item.items c.loop-octet.is_escaped l)
    (at_place c.args.octets.now c.loop-octet.octet-index 0 c.loop-octet-test.true)
    ∙ c.in_err-is_escaped.ensures.refused (drop (c.loop-octet.octet-index + 1) c.args.octets.now) other)
