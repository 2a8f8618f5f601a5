use Rattle.std.proofs.Common.{◌≡◌, ◌∙◌, ◌++◌, [], ◌∷◌, List, ℕ, subst}
use Rattle.dns_log.specs.Entry.{entry_text}
use Rattle.nameserver_handlers.specs.RequestLog.{HasLine}
use Rattle.nameserver_handlers.proofs.request_log.RequestLog.append_request.Goals as goal

pub returns-clause-ok : goal.returns-clause-ok
returns-clause-ok g c =
    let made = c.in_ok-entry.ensures in
    let text : c.as_str.result.now ≡ entry_text c.in_ok-entry.entry ++ 10 ∷ [] = c.as_str.ensures.value ∙ c.in_ok-line.ensures.ok in (
      c.in_ok-entry.entry,
      (
        record {
          moment = made.arrived.0;
          peer = made.peer;
          transport = made.arrived.1;
          id = made.asked.0;
          op_code = made.asked.1;
          question = made.question;
          code = made.code;
          counts = made.sent.0;
          request_len = made.arrived.2;
          reply_len = made.sent.1;
          fault_line = made.effects.0;
          is_update_applied = made.effects.1;
        },
        subst (λ (line : List ℕ). HasLine g.W.Write.contents c.args.self.now line c.append.new.self) text c.append.ensures,
      ),
    )
