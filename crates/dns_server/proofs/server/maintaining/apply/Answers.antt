use Rattle.std.proofs.Common.{◌≡◌, ◌∙◌, ap, sym, subst, unwrap_or}
use Rattle.dns_messages.specs.Sound.{IsSound}
use Rattle.dns_updates.specs.Code.{update_code}
use Rattle.dns_server.specs.SetTtls.{with_one_ttl}
use Rattle.dns_server.proofs.PlaceLaws.{if-ok}
use Rattle.dns_server.proofs.SetTtlCodeLaws.{completed_sound, same_code}
use Rattle.dns_server.proofs.server.maintaining.apply.Goals as goal

pub update_with-requires : goal.update_with-requires
update_with-requires c =
    subst IsSound (sym (ap (λ o. unwrap_or o c.args.update.now) (sym c.in-Some.is) ∙ c.in_ok-message.ensures))
    (completed_sound c.args.zone.now c.args.update.now c.origin-origin.ensures.well_formed c.requires)

pub returns-in-Some-clause-code : goal.returns-in-Some-clause-code
returns-in-Some-clause-code c =
    let is : c.in-Some.message ≡ with_one_ttl c.args.zone.now.rows c.args.update.now = ap (λ o. unwrap_or o c.args.update.now) (sym c.in-Some.is) ∙ c.in_ok-message.ensures in
    if-ok c.update_with.result (λ applied. applied.code ≡ update_code c.args.zone.now.origin c.args.zone.now.rows c.in-Some.message)
    (λ applied. applied.code ≡ update_code c.args.zone.now.origin c.args.zone.now.rows c.args.update.now) c.update_with.ensures.code
    (λ applied h. h ∙ ap (update_code c.args.zone.now.origin c.args.zone.now.rows) is ∙ same_code c.args.zone.now c.args.update.now c.origin-origin.ensures.well_formed)
