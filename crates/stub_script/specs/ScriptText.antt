-- The text of a script: one event a line, `<moment> <keyword> <arguments>`, perhaps with a link script after a semicolon.
-- Blank lines and lines that begin with `#` are skipped.
use Rattle.std.specs.Prelude.{◌≡◌, ◌==◌, ◌+◌, ◌%◌, if◌then◌else◌, Bool, true, false, List, [], ◌∷◌, ℕ, codes, Option, Some, None, Result, Ok, Err}
use Rattle.std.specs.Str.{bytes_eq}
use Rattle.std.specs.Str.Lines.{lines}
use Rattle.dns_names.specs.Name.{DomainName}
use Rattle.dns_zone_file.specs.declared.types.Types.{Types}
use Rattle.stub_run.specs.declared.event.Event.{Event}
use Rattle.stub_script.specs.ClearLine.{clear_all_of, clear_of}
use Rattle.stub_script.specs.EventContent.{ActionContent, EventContent, LinkScript, Update, content_of}
use Rattle.stub_script.specs.LinkWords.{link_of_words}
use Rattle.stub_script.specs.LookupLine.{ip_of, lookup_of}
use Rattle.stub_script.specs.ScriptFields.{moment}
use Rattle.update_text.specs.Words.{IsLine, is_blank}
use Rattle.stub_script.specs.UpdateLine.{IsUpdateLine}
use Rattle.stub_script.specs.declared.script_text.Keyword.{Keyword}
use Rattle.stub_script.specs.declared.script_text.Keyword.TheVariants as keyword
use Rattle.stub_script.specs.declared.script_text.LineContent.{LineContent}
use Rattle.stub_script.specs.declared.script_text.LineContent.TheVariants as line
use Rattle.stub_script.specs.declared.script_text.ScriptFault.{ScriptFault}
use Rattle.stub_script.specs.declared.script_text.ScriptFault.TheVariants.{Line}

-- ---- events

-- the keyword that a word is
abbrev pub keyword_of : List ℕ → Option Keyword
keyword_of word =
    if bytes_eq word (codes "lookup") then Some keyword.Lookup
    else if bytes_eq word (codes "ip") then Some keyword.Ip
    else if bytes_eq word (codes "clear") then Some keyword.Clear
    else if bytes_eq word (codes "clearall") then Some keyword.ClearAll
    else if bytes_eq word (codes "update") then Some keyword.Update
    else None

-- the action of a keyword and the words after it, or none; an update has this id
abbrev pub IsAction : Types → DomainName → ℕ → Option Keyword → List (List ℕ) → Option ActionContent → Type 0
IsAction types origin id (Some keyword.Lookup) arguments found = found ≡ lookup_of types arguments
IsAction types origin id (Some keyword.Ip) arguments found = found ≡ ip_of arguments
IsAction types origin id (Some keyword.Clear) arguments found = found ≡ clear_of types arguments
IsAction types origin id (Some keyword.ClearAll) arguments found = found ≡ clear_all_of arguments
IsAction types origin id (Some keyword.Update) arguments found = IsUpdateLine types origin id arguments found
IsAction types origin id None arguments found = found ≡ None

-- the event of a moment and an action, during which the link follows a script, or none
abbrev pub IsEventAt : Types → DomainName → ℕ → LinkScript → Option ℕ → Option Keyword → List (List ℕ) → Option EventContent → Type 0
IsEventAt types origin id link (Some at) keyword arguments None = IsAction types origin id keyword arguments None
IsEventAt types origin id link (Some at) keyword arguments (Some e) =
    (e.at ≡ at) × (e.link ≡ link) × IsAction types origin id keyword arguments (Some e.action)
IsEventAt types origin id link None keyword arguments found = found ≡ None

-- the event of a line's words
abbrev pub IsEvent : Types → DomainName → ℕ → LinkScript → List (List ℕ) → Option EventContent → Type 0
IsEvent types origin id link (at ∷ keyword ∷ arguments) found = IsEventAt types origin id link (moment at) (keyword_of keyword) arguments found
IsEvent types origin id link words found = found ≡ None

-- ---- lines

-- the event of the words of a line, with the link script that its words spell
abbrev pub IsEventIf : Types → DomainName → ℕ → Option LinkScript → List (List ℕ) → Option EventContent → Type 0
IsEventIf types origin id (Some link) words found = IsEvent types origin id link words found
IsEventIf types origin id None words found = found ≡ None

-- the event of a line of words, or none if the text is no such line
pub data IsEventOfLine (types : Types) (origin : DomainName) (id : ℕ) (text : List ℕ) : Option EventContent → Type 0 where
  of_line : {words link : List (List ℕ)} {found : Option EventContent} → IsLine text words link
      → IsEventIf types origin id (link_of_words link) words found → IsEventOfLine types origin id text found
  of_no_line : ¬ ((words : List (List ℕ)) × (link : List (List ℕ)) × IsLine text words link) → IsEventOfLine types origin id text None

-- a text without the blanks in front
abbrev pub after_blanks : List ℕ → List ℕ
after_blanks [] = []
after_blanks (c ∷ cs) = if is_blank c then after_blanks cs else c ∷ cs

-- no character is left, or a comment
abbrev pub begins_comment : List ℕ → Bool
begins_comment [] = true
begins_comment (c ∷ cs) = c == 35

-- whether a line has blanks alone, or a comment after them
abbrev pub is_skipped : List ℕ → Bool
is_skipped text = begins_comment (after_blanks text)

-- what a line means
pub data Meaning : Type 0 where
  NoEvent : Meaning
  OneEvent : EventContent → Meaning
  Unreadable : Meaning

-- the meaning of a line by its content
abbrev pub meaning_of : LineContent → Meaning
meaning_of line.Nothing = NoEvent
meaning_of (line.Holds e) = OneEvent (content_of e)
meaning_of line.Unreadable = Unreadable

-- the meaning of a line that is to have an event
abbrev pub meaning_if : Option EventContent → Meaning
meaning_if (Some e) = OneEvent e
meaning_if None = Unreadable

-- the meaning of a line that is skipped, and of one that is not
abbrev pub MeansIf : Bool → Types → DomainName → ℕ → List ℕ → Meaning → Type 0
MeansIf true types origin id text meaning = meaning ≡ NoEvent
MeansIf false types origin id text meaning = (found : Option EventContent) × IsEventOfLine types origin id text found × (meaning ≡ meaning_if found)

-- the meaning of a line, in which an update has this id
abbrev pub Means : Types → DomainName → ℕ → List ℕ → Meaning → Type 0
Means types origin id text meaning = MeansIf (is_skipped text) types origin id text meaning

-- ---- scripts

-- whether an action is an update
abbrev pub is_update : ActionContent → Bool
is_update (Update message) = true
is_update action = false

-- the number of updates up to an event, after this many
abbrev pub updates_after : ℕ → EventContent → ℕ
updates_after count e = if is_update e.action then count + 1 else count

-- the id of the update after this many
abbrev pub update_id : ℕ → ℕ
update_id count = count % 65536

-- an event and its line, before what the lines below it hold
abbrev pub with_event : ℕ → EventContent → Result (List (ℕ × EventContent)) ScriptFault → Result (List (ℕ × EventContent)) ScriptFault
with_event number e (Ok events) = Ok ((number, e) ∷ events)
with_event number e (Err fault) = Err fault

-- IsScriptFrom types origin count number lines found: the events of the lines, each with its line, or the first line that cannot be
-- read. The first line has this number, and this many updates come before it.
pub data IsScriptFrom (types : Types) (origin : DomainName) : ℕ → ℕ → List (List ℕ) → Result (List (ℕ × EventContent)) ScriptFault → Type 0 where
  no_line : {count number : ℕ} → IsScriptFrom types origin count number [] (Ok [])
  past_nothing : {count number : ℕ} {text : List ℕ} {more : List (List ℕ)} {found : Result (List (ℕ × EventContent)) ScriptFault}
      → Means types origin (update_id count) text NoEvent → IsScriptFrom types origin count (number + 1) more found
      → IsScriptFrom types origin count number (text ∷ more) found
  past_event : {count number : ℕ} {text : List ℕ} {more : List (List ℕ)} (e : EventContent) (found : Result (List (ℕ × EventContent)) ScriptFault)
      → Means types origin (update_id count) text (OneEvent e) → IsScriptFrom types origin (updates_after count e) (number + 1) more found
      → IsScriptFrom types origin count number (text ∷ more) (with_event number e found)
  at_fault : {count number : ℕ} {text : List ℕ} {more : List (List ℕ)} → Means types origin (update_id count) text Unreadable
      → IsScriptFrom types origin count number (text ∷ more) (Err (Line number))

-- The events of a text, each with its line, counted from 1, or the first line that cannot be read.
abbrev pub IsScriptOf : Types → DomainName → List ℕ → Result (List (ℕ × EventContent)) ScriptFault → Type 0
IsScriptOf types origin text found = IsScriptFrom types origin 0 1 (lines text) found

-- lines and events, side by side
abbrev pub side_by_side : List ℕ → List Event → List (ℕ × Event)
side_by_side (number ∷ numbers) (e ∷ events) = (number, e) ∷ side_by_side numbers events
side_by_side numbers events = []

-- the events of a script by their content
abbrev pub contents_of : List (ℕ × Event) → List (ℕ × EventContent)
contents_of [] = []
contents_of (e ∷ events) = (e.0, content_of e.1) ∷ contents_of events
