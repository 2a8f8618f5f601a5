-- The events of lines of words, with or without a link script.
use Rattle.std.proofs.Common.{◌≡◌, ◌∙◌, ℕ, List, map, Option, Some, None, Result, Ok, Err, IfOk, option_map, Vec, Global, refl, sym, ap, subst}
use Rattle.dns_names.specs.Name.{DomainName}
use Rattle.dns_zone_file.specs.declared.types.Types.{Types}
use Rattle.stub_link.specs.declared.link.script.Script.{Script}
use Rattle.stub_run.specs.declared.event.Event.{Event}
use Rattle.update_text.specs.Words.{AreLineWords}
use Rattle.update_text.specs.declared.line.Line.{Line}
use Rattle.stub_script.specs.EventContent.{LinkScript, content_of, link_content}
use Rattle.stub_script.specs.LinkWords.{link_of_words}
use Rattle.stub_script.specs.ScriptText.{IsEvent, IsEventIf, IsEventOfLine, of_line}

abbrev pub texts : List (Vec ℕ Global) → List (List ℕ)
texts = map (λ word. word.items)

-- the event of a line by its words, with the link script that those after its semicolon spell
pub event_of_words : {E : Type 0} (types : Types) (origin : DomainName) (id : ℕ) (text : List ℕ) (line : Line) (words more : List (Vec ℕ Global))
    (script : Option Script) (s : Script) (result : Result (Option Event) E)
    → AreLineWords text (Some (texts line.words.items, texts line.more.items)) → words ≡ line.words.items → more ≡ line.more.items
    → script ≡ Some s → option_map link_content script ≡ link_of_words (texts more)
    → IfOk result (λ e. IsEvent types origin id (link_content s) (texts words) (option_map content_of e))
    → IfOk result (λ e. IsEventOfLine types origin id text (option_map content_of e))
event_of_words types origin id text line words more script s (Ok e) are words_are more_is is spelled event =
    let link : Some (link_content s) ≡ link_of_words (texts line.more.items) =
    sym (ap (λ (x : Option Script). option_map link_content x) is) ∙ spelled ∙ ap (λ (x : List (Vec ℕ Global)). link_of_words (texts x)) more_is in
    of_line are (subst (λ (x : Option LinkScript). IsEventIf types origin id x (texts line.words.items) (option_map content_of e)) link (rw words_are at event))
event_of_words types origin id text line words more script s (Err e) are words_are more_is is spelled event = tt

-- the words after the semicolon are no link script
pub no_event_of_words : (types : Types) (origin : DomainName) (id : ℕ) (text : List ℕ) (line : Line) (more : List (Vec ℕ Global)) (script : Option Script)
    → AreLineWords text (Some (texts line.words.items, texts line.more.items)) → more ≡ line.more.items → script ≡ None
    → option_map link_content script ≡ link_of_words (texts more) → IsEventOfLine types origin id text None
no_event_of_words types origin id text line more script are more_is is spelled =
    let none : None ≡ link_of_words (texts line.more.items) =
    sym (ap (λ (x : Option Script). option_map link_content x) is) ∙ spelled ∙ ap (λ (x : List (Vec ℕ Global)). link_of_words (texts x)) more_is in
    of_line are (subst (λ (x : Option LinkScript). IsEventIf types origin id x (texts line.words.items) None) none refl)
