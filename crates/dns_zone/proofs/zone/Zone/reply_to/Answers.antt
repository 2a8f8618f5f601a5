use Rattle.std.proofs.Common.{◌≡◌, ◌≤◌, ◌∙◌, ap, sym, subst}
use Rattle.dns_messages.specs.declared.message.Message.{Message}
use Rattle.dns_messages.specs.Cut.{front_reach}
use Rattle.dns_messages.specs.Sound.{IsSound}
use Rattle.dns_updates.specs.Code.{update_code}
use Rattle.dns_zone.specs.Serving.{bare_reply, borrowed_reply, reply_by_code}
use Rattle.dns_zone.proofs.FaultLaws.{update_fits}
use Rattle.dns_zone.proofs.ServingLaws.{bare_fits, bare_sound}
use Rattle.dns_zone.proofs.zone.Zone.reply_to.Goals as goal
use Rattle.dns_zone.proofs.zone.Zone.reply_to.Goals.{After-bare_reply}

bare_is : (c : After-bare_reply) → ◌≡◌ {A = Message} (borrowed_reply c.bare_reply.result) (bare_reply c.args.request.now (update_code c.args.self.now.origin c.args.self.now.rows c.args.request.now))
bare_is c = c.bare_reply.ensures ∙ ap (bare_reply c.args.request.now) c.update_code.ensures

pub returns-in-Update-clause-reply : goal.returns-in-Update-clause-reply
returns-in-Update-clause-reply c = bare_is c ∙ sym (ap (reply_by_code c.args.self.now c.args.request.now) c.in-Update.is)

pub returns-in-Update-clause-sound : goal.returns-in-Update-clause-sound
returns-in-Update-clause-sound c = λ request.
    let code = update_fits c.args.self.now.origin c.args.self.now.rows c.args.request.now in
    subst IsSound (sym (bare_is c)) (bare_sound c.args.request.now (update_code c.args.self.now.origin c.args.self.now.rows c.args.request.now) code.fits code.named request)

pub returns-in-Update-clause-short : goal.returns-in-Update-clause-short
returns-in-Update-clause-short c =
    subst (λ (x : Message). front_reach x ≤ 512) (sym (bare_is c)) (bare_fits c.args.request.now (update_code c.args.self.now.origin c.args.self.now.rows c.args.request.now))
