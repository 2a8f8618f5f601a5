use Rattle.std.proofs.Common.{sym}
use Rattle.dns_server.proofs.SetTtlLaws.{has_later, inserted}
use Rattle.dns_server.proofs.server.set_ttls.SetTtls.note.Goals as goal

pub returns-in-Some-clause-last : goal.returns-in-Some-clause-last
returns-in-Some-clause-last c = λ more last. has_later more c.args.update.now c.args.self.now c.in-Some.field-0 (sym c.in-Some.ensures) last

pub returns-in_ok-insert-in-None-clause-last : goal.returns-in_ok-insert-in-None-clause-last
returns-in_ok-insert-in-None-clause-last c = λ more last.
    inserted more c.args.update.now c.args.self.now c.insert.new.self (sym c.if-not-is_addition.ensures) (sym c.in-None.ensures) c.in_ok-insert-in-None.ensures last
