use Rattle.std.proofs.Common.{◌≡◌, ◌+◌, ◌++◌, true, false, [], ◌∷◌, ◌∙◌, ap, arith}
use Rattle.stub_script.specs.EventContent.{content_of}
use Rattle.stub_script.specs.ScriptText.{NoEvent, OneEvent, Unreadable, is_update, meaning_of, updates_after}
use Rattle.stub_script.proofs.ScriptLaws.{IsLine, contents_at, counted, ends_at_end, ends_at_fault, few_more, line_of, more_beside, past_no_event, past_one_event}
use Rattle.stub_script.proofs.script_text.read_lines.Goals as goal
use Rattle.stub_script.proofs.script_text.read_lines.Goals.{in-Nothing, in-Holds+in_ok-push-in-Holds+in_ok-push-in-Holds-2}

pub returns-in-Unreadable-clause-refused : goal.returns-in-Unreadable-clause-refused
returns-in-Unreadable-clause-refused c = λ other.
    let line : IsLine c.args.types c.args.origin.now c.loop-i.update_count c.args.all.now c.loop-i.i Unreadable =
    line_of c.args.types c.args.origin.now c.loop-i.update_count c.update_id.result c.args.all.now c.loop-i.i c.in_ok-read_line.field-0 Unreadable
    c.update_id.ensures c.loop-i-test.true (ap meaning_of c.in-Unreadable.is) c.in_ok-read_line.ensures in
    ends_at_fault c.args.types c.args.origin.now c.args.all.now c.loop-i.i c.loop-i.update_count (contents_at c.loop-i.lines.items c.loop-i.events.items) line
    c.loop-i.invariant.leads

pub loop-i-preserved : goal.loop-i-preserved
loop-i-preserved c =
    elim c.match-branch-2.branch [
      | in-Nothing w ↦
          let line : IsLine c.args.types c.args.origin.now c.loop-i.update_count c.args.all.now c.loop-i.i NoEvent =
          line_of c.args.types c.args.origin.now c.loop-i.update_count c.update_id.result c.args.all.now c.loop-i.i c.in_ok-read_line.field-0 NoEvent
          c.update_id.ensures c.loop-i-test.true (ap meaning_of w.in-Nothing.is) c.in_ok-read_line.ensures in
          rw (w.lines-is, w.events-is, w.update_count-is) (record {
            beside = c.loop-i.invariant.beside;
            few = omega (arith, c.loop-i.invariant.few);
            leads = past_no_event c.args.types c.args.origin.now c.args.all.now c.loop-i.i c.loop-i.update_count
                (contents_at c.loop-i.lines.items c.loop-i.events.items) line c.loop-i.invariant.leads;
          })
      | in-Holds+in_ok-push-in-Holds+in_ok-push-in-Holds-2 w ↦
          let event = w.in-Holds.event in
          let line : IsLine c.args.types c.args.origin.now c.loop-i.update_count c.args.all.now c.loop-i.i (OneEvent (content_of event)) =
          line_of c.args.types c.args.origin.now c.loop-i.update_count c.update_id.result c.args.all.now c.loop-i.i c.in_ok-read_line.field-0 (OneEvent (content_of event))
          c.update_id.ensures c.loop-i-test.true (ap meaning_of w.in-Holds.is) c.in_ok-read_line.ensures in
          let numbers : c.match-branch-2.lines.items ≡ c.loop-i.lines.items ++ (c.loop-i.i + 1) ∷ [] = ap (λ v. v.items) w.lines-is ∙ w.in_ok-push-in-Holds-2.ensures.items in
          let events : c.match-branch-2.events.items ≡ c.loop-i.events.items ++ event ∷ [] = ap (λ v. v.items) w.events-is ∙ w.in_ok-push-in-Holds.ensures.items in
          let count : c.match-branch-2.update_count ≡ updates_after c.loop-i.update_count (content_of event) =
          w.update_count-is ∙ counted c.loop-i.update_count w.from-update_count.result w.is_update.result (content_of event) w.is_update.ensures w.from-update_count.ensures in
          rw (numbers, events, count) (record {
            beside = more_beside c.loop-i.lines.items c.loop-i.events.items (c.loop-i.i + 1) event c.loop-i.invariant.beside;
            few = few_more c.loop-i.update_count c.loop-i.i (content_of event) c.loop-i.invariant.few;
            leads = past_one_event c.args.types c.args.origin.now c.args.all.now c.loop-i.i c.loop-i.update_count c.loop-i.lines.items c.loop-i.events.items event line
                c.loop-i.invariant.beside c.loop-i.invariant.leads;
          })
    ]

pub returns-clause-ok : goal.returns-clause-ok
returns-clause-ok c =
    ends_at_end c.args.types c.args.origin.now c.args.all.now c.loop-i.i c.loop-i.update_count (contents_at c.loop-i.lines.items c.loop-i.events.items)
    c.loop-i-test.false c.loop-i.invariant.leads
