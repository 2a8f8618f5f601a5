use Rattle.std.proofs.Common.{List, ℕ, Option, Some, None, map, option_map, subst}
use Rattle.update_text.specs.Words.{AreLineWords}
use Rattle.update_text.specs.declared.line.Line.{Line}
use Rattle.stub_script.specs.ScriptText.{of_no_line}
use Rattle.stub_script.proofs.LineLaws.{event_of_words, no_event_of_words}
use Rattle.stub_script.proofs.script_text.read_event_line.Goals as goal

-- the words of a line
abbrev texts : Option Line → Option (List (List ℕ) × List (List ℕ))
texts found = option_map (λ line. (map (λ word. word.items) line.words.items, map (λ word. word.items) line.more.items)) found

pub returns-in_default : goal.returns-in_default
returns-in_default c =
    of_no_line (subst (λ (found : Option Line). AreLineWords c.args.line.now (texts found)) c.in_default.is c.in_ok-line.ensures.words)

pub returns-in-Some-2 : goal.returns-in-Some-2
returns-in-Some-2 c =
    let line : AreLineWords c.args.line.now (texts (Some c.in-Some.line)) =
    subst (λ (found : Option Line). AreLineWords c.args.line.now (texts found)) c.in-Some.is c.in_ok-line.ensures.words in
    event_of_words c.args.types c.args.origin.now c.args.id c.args.line.now c.in-Some.line c.as_slice-in-Some-2.result.now c.as_slice.result.now c.in_ok-script.field-0
    c.in-Some-2.script c.read_event.result line c.as_slice-in-Some-2.ensures.value c.as_slice.ensures.value c.in-Some-2.is c.in_ok-script.ensures c.read_event.ensures

pub returns : goal.returns
returns c =
    let line : AreLineWords c.args.line.now (texts (Some c.in-Some.line)) =
    subst (λ (found : Option Line). AreLineWords c.args.line.now (texts found)) c.in-Some.is c.in_ok-line.ensures.words in
    no_event_of_words c.args.types c.args.origin.now c.args.id c.args.line.now c.in-Some.line c.as_slice.result.now c.in_ok-script.field-0 line
    c.as_slice.ensures.value c.in-None.is c.in_ok-script.ensures
