use Rattle.std.proofs.Common.{sym}
use Rattle.stub_run.proofs.Happening.{begun-other, begun-update, takes-other, takes-update}
use Rattle.stub_run.proofs.event_link.ScriptedLinkEventLink.begin.Goals as goal

pub returns-in-Some : goal.returns-in-Some
returns-in-Some c = record {
  begins = begun-update c.args.self.now c.begin_update.new.self c.args.event.now c.in-Some.field-0.now c.begin_update.result
      (sym c.in-Some.ensures.message) c.begin_update.ensures;
  refused = takes-update c.args.event.now c.in-Some.field-0.now c.begin_update.result (sym c.in-Some.ensures.message);
}

pub returns-in-None : goal.returns-in-None
returns-in-None c = record {
  begins = begun-other c.args.self.now c.begin_event.new.self c.args.event.now c.begin_event.result (sym c.in-None.ensures.message)
      c.begin_event.ensures.begins;
  refused = takes-other c.args.event.now c.begin_event.result c.begin_event.ensures.refused;
}
