use Rattle.std.proofs.Common.{◌≡◌, ◌∙◌, Bool, ℕ, List, Err, map, sym, subst}
use Rattle.dns_message_bytes.specs.frames.Frame.{stream_of}
use Rattle.dns_journal.specs.declared.journal.Journal.{Journal}
use Rattle.dns_journal.specs.Storage.{Led, Performs}
use Rattle.dns_durable.specs.Changes.{reply_bytes}
use Rattle.dns_durable.specs.Durable.{Answers, TakesFront}
use Rattle.dns_durable.specs.Incoming.{changes_in}
use Rattle.dns_durable.specs.Reply.{AnswersAll}
use Rattle.dns_durable.specs.Rule.{entry_of, step_of}
use Rattle.dns_durable.specs.Storing.{Asks}
use Rattle.dns_durable.specs.declared.incoming.Arrived.{Arrived}
use Rattle.dns_durable.proofs.AnsweringLaws.{answers_take, none_served}
use Rattle.dns_durable.proofs.KeepingLaws.{keeps_answered, keeps_behind, keeps_refused}
use Rattle.dns_durable.proofs.RuleLaws.{entry_takes, entry_takes_front}
use Rattle.dns_durable.proofs.durable_server.respond_batch.Goals.{then-is_stored, else-is_stored}
use Rattle.dns_durable.proofs.durable_server.respond_batch.Goals as goal

pub returns-in-Ok-clause-performs : goal.returns-in-Ok-clause-performs
returns-in-Ok-clause-performs g c =
    let entry = entry_of c.args.policy.now.answering (changes_in c.args.batch.now.admitted.items) in
    let p = c.args.journal.now.position in
    let q = c.store-is_stored.new.journal.position in
    let es = c.store-is_stored.ensures.events in
    let after = c.answer_all.new.server in
    let policy = c.args.policy.now in
    let entry_is : c.as_slice.result.now ≡ entry = c.as_slice.ensures.value ∙ c.requires.entry in
    let asks = subst (λ (l : List ℕ). Asks l c.store-is_stored.result p q es) entry_is c.store-is_stored.ensures.holds in
    let answered = subst (λ (l : List Arrived). AnswersAll policy c.store-is_stored.result c.args.server.now l
    (map reply_bytes c.in-Ok.replies.items) after) c.as_slice-2.ensures.value c.in-Ok.ensures.answered in
    record {
      events = es;
      led = c.store-is_stored.ensures.led;
      holds = record {
        keeps = keeps_answered entry (record { replies = c.in-Ok.replies; is_stored = c.store-is_stored.result }) p q c.args.server.now after es asks
            (λ is. entry_takes policy.answering c.args.server.now after (changes_in c.args.batch.now.admitted.items) (answers_take policy c.args.server.now after c.args.batch.now.admitted.items (map reply_bytes c.in-Ok.replies.items) c.requires.judged
            (subst (λ (b : Bool). AnswersAll policy b c.args.server.now c.args.batch.now.admitted.items
            (map reply_bytes c.in-Ok.replies.items) after) is answered)))
            c.in-Ok.ensures.unchanged;
        answered = answered;
      };
    }

pub returns-after-is_stored-clause-performs : goal.returns-after-is_stored-clause-performs
returns-after-is_stored-clause-performs g c =
    let entry = entry_of c.args.policy.now.answering (changes_in c.args.batch.now.admitted.items) in
    let z = c.args.server.now in
    let p = c.args.journal.now.position in
    let mid = c.store-is_stored.new.journal in
    let es = c.store-is_stored.ensures.events in
    let after = c.answer_all.new.server in
    let policy = c.args.policy.now in
    let items = c.args.batch.now.admitted.items in
    let error = c.in-Err.error in
    let entry_is : c.as_slice.result.now ≡ entry = c.as_slice.ensures.value ∙ c.requires.entry in
    let asks = subst (λ (l : List ℕ). Asks l c.store-is_stored.result p mid.position es) entry_is c.store-is_stored.ensures.holds in
    let Goal = λ (j : Journal g.row.S.Denot). Performs g.S.Storage.performs c.args.journal.now.storage j.storage (Answers policy items (Err error) p j.position z after) in
    elim c.if-is_stored.branch [
      | then-is_stored w ↦
          let new = w.suspend.new.journal in
          let given : w.as_slice-then-is_stored.result.now ≡ entry = w.as_slice-then-is_stored.ensures.value ∙ c.requires.entry in
          let served = subst (λ (l : List Arrived). TakesFront (step_of policy.answering) z (stream_of (changes_in l)) after) c.as_slice-2.ensures.value (c.in-Err.ensures.failed w.if-is_stored.true) in
          let front = entry_takes_front policy.answering z after (changes_in items) served in
          subst Goal (sym w.journal-is) (record {
            events = es;
            led = subst (λ (s : g.row.S.Denot). Led g.S.Storage.performs c.args.journal.now.storage es s) (sym w.suspend.ensures.storage) c.store-is_stored.ensures.led;
            holds = record {
              keeps = keeps_behind entry error p mid.position new.position z after es (subst (λ (b : Bool). Asks entry b p mid.position es) w.if-is_stored.true asks) front
                  (λ none. w.suspend.ensures.empty (given ∙ none)) (λ some. w.suspend.ensures.lost (λ none. some (sym given ∙ none))) w.suspend.ensures.end w.suspend.ensures.digest w.suspend.ensures.key w.suspend.ensures.link;
              answered = served;
            };
          })
      | else-is_stored w ↦ subst Goal (sym w.journal-is) (record {
        events = es;
        led = c.store-is_stored.ensures.led;
        holds = record {
          keeps = keeps_refused entry error p mid.position z after es (subst (λ (b : Bool). Asks entry b p mid.position es) w.if-is_stored.false asks) (c.in-Err.ensures.unchanged w.if-is_stored.false);
          answered = none_served policy.answering z after items (c.in-Err.ensures.unchanged w.if-is_stored.false);
        };
      })
    ]
