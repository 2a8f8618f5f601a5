use Rattle.std.proofs.Common.{◌≡◌, ◌≤◌, length, take, vec_capacity, vec_len}
use Rattle.stub_run.specs.RunOver.{HasRunOver, rules_of}
use Rattle.stub_run.proofs.runs.run_events.Given as goal

-- the events so far led to these reports, and there is room for all reports
abbrev pub invariant-loop-event : goal.invariant-loop-event
invariant-loop-event g l = record {
  runs : HasRunOver (rules_of g.L.EventLink.begins g.L.EventLink.ends g.L.EventLink.is_out g.L.Link.sends g.L.Link.receives g.L.Link.streams g.L.Link.failure_count) l.fn.resolver (take l.event-index l.events) l.reports.items l.resolver;
  count : vec_len l.reports ≡ l.event-index;
  room : length l.events ≤ vec_capacity l.reports;
}
