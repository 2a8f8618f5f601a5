use Rattle.std.proofs.Common.{sym, ap}
use Rattle.std.specs.Prelude.{option_map}
use Rattle.dns_faults.specs.rules.Table.{applies, decision_of}
use Rattle.dns_faults.proofs.TableLaws.{counted-none, find-none, place-decides}
use Rattle.dns_faults.proofs.rules.table.FaultTable.decide.Goals as goal

pub returns-in-Some-clause-decision : goal.returns-in-Some-clause-decision
returns-in-Some-clause-decision c =
    (place-decides (applies c.args.name.now c.args.record_type c.args.transport) c.args.self.now c.in-Some.place c.args.transport
    c.decide_by.result c.decide_by.new.self c.in-Some.ensures.place c.decide_by.ensures.decision c.decide_by.ensures.counts).0

pub returns-in-Some-clause-counts : goal.returns-in-Some-clause-counts
returns-in-Some-clause-counts c =
    (place-decides (applies c.args.name.now c.args.record_type c.args.transport) c.args.self.now c.in-Some.place c.args.transport
    c.decide_by.result c.decide_by.new.self c.in-Some.ensures.place c.decide_by.ensures.decision c.decide_by.ensures.counts).1

pub returns-in-None-clause-decision : goal.returns-in-None-clause-decision
returns-in-None-clause-decision c =
    sym (ap (option_map (decision_of c.args.transport))
    (find-none (applies c.args.name.now c.args.record_type c.args.transport) c.args.self.now c.in-None.ensures.place))

pub returns-in-None-clause-counts : goal.returns-in-None-clause-counts
returns-in-None-clause-counts c =
    sym (counted-none (applies c.args.name.now c.args.record_type c.args.transport) c.args.self.now
    (find-none (applies c.args.name.now c.args.record_type c.args.transport) c.args.self.now c.in-None.ensures.place))
