use Rattle.std.proofs.Common.{sym, subst}
use Rattle.dns_zone.specs.Answer.{IsSoundAnswer}
use Rattle.dns_zone.proofs.AnswerLaws.{sound_answer}
use Rattle.dns_zone.proofs.RowLaws.{sound_rows_at}
use Rattle.dns_zone.proofs.zone.Zone.answer_ref.Goals as goal

pub returns-clause-sound : goal.returns-clause-sound
returns-clause-sound c = λ fqdn.
    subst IsSoundAnswer (sym c.answer_from.ensures)
    (sound_answer _ c.self.invariant.0 (sound_rows_at _ c.self.invariant.1) c.args.query.now fqdn)
