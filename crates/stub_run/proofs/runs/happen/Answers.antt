use Rattle.std.proofs.Common.{Ok, sym, ◌∙◌}
use Rattle.stub_run.specs.Event.{TakesMemory}
use Rattle.stub_run.specs.RunOver.{BeginsOver, EndsOver, Happens, link_is_out, no_beginning, no_end, rules_of}
use Rattle.stub_run.proofs.RunningOver.{as-err, as-ok, front-same, happens-front, if-err, if-ok, if-some, step-of}
use Rattle.stub_run.proofs.runs.happen.Goals as goal

-- no memory as the event begins
pub returns-then-is_err : goal.returns-then-is_err
returns-then-is_err g c = record {
  step = tt;
  stop = λ none.
      no_beginning
      (if-err c.begin.result (TakesMemory c.args.event.now) (sym c.is_err.ensures.value ∙ c.if-is_err.true) c.begin.ensures.refused);
  front = front-same c.args.resolver.now c.begin.new.resolver c.begin.ensures.sent;
}

-- no memory as the event ends
pub returns-then-is_err-2 : goal.returns-then-is_err-2
returns-then-is_err-2 g c =
    let rules = rules_of g.L.EventLink.begins g.L.EventLink.ends g.L.EventLink.is_out g.L.Link.sends g.L.Link.receives g.L.Link.streams g.L.Link.failure_count in
    let old = c.args.resolver.now in
    let begun = c.begin.new.resolver in
    let replied = c.reply_to-reply.new.resolver in
    let e = c.args.event.now in
    let reply = c.reply_to-reply.result in
    let happens : Happens rules old e reply replied = record {
      begun = begun;
      begins = if-ok c.begin.result (BeginsOver rules old e begun) (sym c.is_err.ensures.value ∙ c.if-is_err.false) c.begin.ensures.begins;
      replies = c.reply_to-reply.ensures;
    } in
    let error = as-err c.end.result (λ result. EndsOver rules replied result c.end.new.resolver)
    (sym c.is_err-2.ensures.value ∙ c.if-is_err-2.true) c.end.ensures.ends in
    record {
      step = tt;
      stop = λ none. no_end reply replied c.end.new.resolver error.0 happens error.1;
      front = happens-front g.L.Link.sends g.L.Link.receives g.L.Link.streams g.L.Link.failure_count old begun replied c.end.new.resolver e.at e.action reply
          c.reply_to-reply.ensures c.begin.ensures.sent c.end.ensures.sent;
    }

pub returns : goal.returns
returns g c =
    let rules = rules_of g.L.EventLink.begins g.L.EventLink.ends g.L.EventLink.is_out g.L.Link.sends g.L.Link.receives g.L.Link.streams g.L.Link.failure_count in
    let old = c.args.resolver.now in
    let begun = c.begin.new.resolver in
    let replied = c.reply_to-reply.new.resolver in
    let ended = c.end.new.resolver in
    let e = c.args.event.now in
    let reply = c.reply_to-reply.result in
    let happens : Happens rules old e reply replied = record {
      begun = begun;
      begins = if-ok c.begin.result (BeginsOver rules old e begun) (sym c.is_err.ensures.value ∙ c.if-is_err.false) c.begin.ensures.begins;
      replies = c.reply_to-reply.ensures;
    } in
    let ends : EndsOver rules replied (Ok tt) ended =
    as-ok c.end.result (λ result. EndsOver rules replied result ended) (sym c.is_err-2.ensures.value ∙ c.if-is_err-2.false) c.end.ensures.ends in
    record {
      step = if-some _ _ c.event_report.result
          (λ report reports. step-of rules old replied ended e reply report happens ends reports.0 reports.1) c.event_report.ensures.report;
      stop = λ none. link_is_out reply replied ended happens ends (c.event_report.ensures.none none);
      front = happens-front g.L.Link.sends g.L.Link.receives g.L.Link.streams g.L.Link.failure_count old begun replied ended e.at e.action reply
          c.reply_to-reply.ensures c.begin.ensures.sent c.end.ensures.sent;
    }
