use Rattle.std.proofs.Common.{ap, sym, ◌∙◌}
use Rattle.dns_wire.specs.declared.codes.dns_class.DNSClass.{DNSClass}
use Rattle.dns_updates.specs.Change.{is_put}
use Rattle.dns_updates.proofs.PutLaws.{puts}
use Rattle.dns_updates.proofs.changes.single.is_put.Goals as goal

pub returns-in-IN-clause-put : goal.returns-in-IN-clause-put
returns-in-IN-clause-put g c = c.is_put_addition.ensures ∙ sym (ap (λ (k : DNSClass). is_put (g.Z.ZoneRows.rows c.args.zone.now) k c.args.update.now) c.in-IN.is)

pub returns-in-IN-clause-change : goal.returns-in-IN-clause-change
returns-in-IN-clause-change g c = λ is origin.
    puts origin (g.Z.ZoneRows.rows c.args.zone.now) c.args.update.now.dns_class c.args.update.now
    (ap (λ (k : DNSClass). is_put (g.Z.ZoneRows.rows c.args.zone.now) k c.args.update.now) c.in-IN.is ∙ sym c.is_put_addition.ensures ∙ is)
