-- A report of the run in which w. is an alias of h.: any that has its event reports, the ids that were drawn, and no dropped datagram.
use Rattle.std.proofs.Common.{◌≡◌, ℕ, List, Vec, Global, sym, subst}
use Rattle.dns_messages.specs.Grammar.{ReadsMessage}
use Rattle.stub_run.specs.Run.{IsReportOf, RunState, Runs, asks_of}
use Rattle.stub_run.specs.declared.report.EventReport.{EventReport}
use Rattle.stub_run.specs.declared.report.Report.{Report}
use Rattle.stub_witnesses.proofs.RunWitness.{events, first, last, reply_message, reports, runs, states}

module _ (buffer : Vec ℕ Global) (reads : ReadsMessage buffer.items reply_message) (base : RunState) where
  -- runs_have_one_history
  pub is_reported : (report : Report) → report.events.items ≡ reports → report.sent.items ≡ (asks_of (last buffer reads base)).sent → report.dropped ≡ 0
      → IsReportOf (first buffer reads base) events report
  is_reported report events_are sent_are dropped_are = record {
    states = states buffer reads base;
    last = last buffer reads base;
    runs = subst (λ (rs : List EventReport). Runs (first buffer reads base) events rs (states buffer reads base) (last buffer reads base)) (sym events_are)
        (runs buffer reads base);
    sent = sent_are;
    dropped = dropped_are;
  }
