use Rattle.std.proofs.Common.{Option, subst, sym}
use Rattle.dns_server.specs.declared.server.ZoneChange.{ZoneChange}
use Rattle.nameserver_handlers.specs.Handling.{RecordsOne}
use Rattle.nameserver_handlers.proofs.HandlingLaws.{records_either}
use Rattle.nameserver_handlers.proofs.serving.record_change.Goals as goal

pub returns : goal.returns
returns c =
    subst (λ (change : Option ZoneChange). RecordsOne change c.args.recorder.now.histories.items c.record-recorded.new.self.histories.items) (sym c.in-Some.is)
    (records_either c.in-Some.change c.args.recorder.now.histories.items c.record-recorded.new.self.histories.items c.record-recorded.result c.record-recorded.ensures.ok c.record-recorded.ensures.err)
