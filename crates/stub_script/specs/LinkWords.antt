-- The words of a link script: nothing, `honest`, or the events of a list.
use Rattle.std.specs.Prelude.{if◌then◌else◌, Bool, true, false, List, [], ◌∷◌, ℕ, codes, Option, Some, None, option_map, ◌==◌}
use Rattle.std.specs.Str.{bytes_eq}
use Rattle.dns_wire.specs.codes.Decimal.{decimal_up_to}
use Rattle.stub_link.specs.declared.link.script.LinkEvent.{LinkEvent}
use Rattle.stub_link.specs.declared.link.script.LinkEvent.TheVariants.{Question, Update, Reply, Quiet, Fail}
use Rattle.stub_script.specs.EventContent.{LinkScript, Honest, Listed}

-- the event of a letter and a number: `q<n>`, `u<k>` or `r<n>`
abbrev pub numbered_event : ℕ → Option ℕ → Option LinkEvent
numbered_event letter None = None
numbered_event letter (Some number) =
    if letter == 113 then Some (Question number)
    else if letter == 117 then Some (Update number)
    else if letter == 114 then Some (Reply number)
    else None

-- a letter, and a number of 64 bits
abbrev pub lettered_event : List ℕ → Option LinkEvent
lettered_event [] = None
lettered_event (letter ∷ digits) = numbered_event letter (decimal_up_to 18446744073709551615 digits)

-- the event of a word: `quiet`, `fail`, or a letter and a number
abbrev pub link_event : List ℕ → Option LinkEvent
link_event word =
    if bytes_eq word (codes "quiet") then Some Quiet
    else if bytes_eq word (codes "fail") then Some Fail
    else lettered_event word

-- an event before others, if each is one
abbrev pub event_before : Option LinkEvent → Option (List LinkEvent) → Option (List LinkEvent)
event_before (Some e) (Some events) = Some (e ∷ events)
event_before e events = None

-- the event of each word
abbrev pub link_events : List (List ℕ) → Option (List LinkEvent)
link_events [] = Some []
link_events (word ∷ words) = event_before (link_event word) (link_events words)

-- no word, or `honest` alone
abbrev pub is_honest : List (List ℕ) → Bool
is_honest [] = true
is_honest (word ∷ []) = bytes_eq word (codes "honest")
is_honest words = false

-- the script of its words
abbrev pub link_of_words : List (List ℕ) → Option LinkScript
link_of_words words = if is_honest words then Some Honest else option_map Listed (link_events words)
