use Rattle.std.proofs.Common.{◌∙◌, ◌+◌, ℕ, List, ap, get_or, map, subst, sym, take}
use Rattle.std.specs.List.{AllZip}
use Rattle.std.specs.Prelude.{string_bytes}
use Rattle.dns_keys.specs.declared.grants.grant.Grant.{Grant}
use Rattle.nameserver_cli.proofs.ValueLaws.{read_more}
use Rattle.nameserver_handlers.specs.Grants.{IsGrantOf, RefusesGrant}
use Rattle.std.proofs.lemmas.Result.{err_from_is_err_and}
use Rattle.nameserver_handlers.proofs.PolicyLaws.{at_place}
use Rattle.nameserver_handlers.proofs.policy.grants_of.Goals as goal

pub loop-text-preserved : goal.loop-text-preserved
loop-text-preserved c =
    subst (λ (grants : List Grant). AllZip (IsGrantOf c.args.keys.now c.args.zones.now) (map string_bytes (take (c.loop-text.text-index + 1) c.args.texts.now)) grants) (sym c.in_ok-push.ensures.items)
    (read_more (IsGrantOf c.args.keys.now c.args.zones.now) string_bytes c.args.texts.now c.loop-text.text-index c.text-item.result c.loop-text.grants.items c.in_ok-grant_of.field-0 c.loop-text-test.true c.loop-text.invariant
    (subst (λ (text : List ℕ). IsGrantOf c.args.keys.now c.args.zones.now text c.in_ok-grant_of.field-0) (c.as_str.ensures.value ∙ ap string_bytes c.text-item.is) c.in_ok-grant_of.ensures.ok))

pub returns-in_err-grant_of-clause-refused : goal.returns-in_err-grant_of-clause-refused
returns-in_err-grant_of-clause-refused c =
    let p = err_from_is_err_and c.from_residual.result c.from_residual.ensures.1 in
    rw (p.1, p.2) (λ has_memory. record {
      place = c.loop-text.text-index;
      text = string_bytes (get_or c.args.texts.now c.loop-text.text-index c.text-item.result);
      one = at_place string_bytes c.args.texts.now c.loop-text.text-index c.text-item.result c.loop-text-test.true;
      refused = subst (λ (text : List ℕ). RefusesGrant c.args.keys.now c.args.zones.now text c.in_err-grant_of.field-0.0) (c.as_str.ensures.value ∙ ap string_bytes c.text-item.is)
          (c.in_err-grant_of.ensures.refused has_memory);
    })
