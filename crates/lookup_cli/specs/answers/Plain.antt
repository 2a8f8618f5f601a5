-- Answers as lines of text, and why an answer has no records.
use Rattle.std.specs.Prelude.{Bool, true, false, List, [], ◌∷◌, ◌++◌, ℕ, Option, Some, None, codes, flat_map, option_map}
use Rattle.dns_records.specs.Record.{Record}
use Rattle.dns_zone_file.specs.declared.types.Types.TheVariants.{All}
use Rattle.dns_zone_file.specs.record_texts.RecordText.{record_text}
use Rattle.lookup_cli.specs.answers.Answer.{code_of, denies_name, records_of}
use Rattle.lookup_cli.specs.answers.Item.{item_text}
use Rattle.lookup_cli.specs.answers.Status.{status_of}
use Rattle.lookup_cli.specs.declared.answers.answer.Answer.{Answer}
use Rattle.lookup_cli.specs.declared.answers.item.Item.{Item}
use Rattle.lookup_cli.specs.declared.answers.item.Question.{Question}
use Rattle.lookup_cli.specs.declared.answers.item.Question.TheVariants.{Unknown}
use Rattle.lookup_cli.specs.declared.answers.status.Status.{Status}
use Rattle.lookup_cli.specs.declared.answers.status.Status.TheVariants.{Failed}

-- ---- records

-- the heading of one of several answers
abbrev pub heading : Bool → Item → List ℕ
heading true item = codes "; " ++ (item_text item ++ 10 ∷ [])
heading false item = []

-- a record on a line of its own
abbrev pub record_line : Record → List ℕ
record_line r = record_text All r ++ 10 ∷ []

-- an answer: its heading, if it is one of several, and its records
abbrev pub plain_text : Bool → Answer → List ℕ
plain_text has_heading a = heading has_heading a.item ++ flat_map record_line (records_of a.outcome)

-- ---- reasons

-- why a lookup without an error found nothing, by whether its name is denied
abbrev pub nothing_text : Bool → List ℕ
nothing_text true = codes "no such name"
nothing_text false = codes "no records of the type"

-- why a lookup of a status has no records; the texts of the errors of other libraries are theirs
abbrev pub reason_by : Question → Status → Bool → Option (List ℕ)
reason_by Unknown status denied = Some (codes "no such type")
reason_by question Failed denied = None
reason_by question status denied = Some (nothing_text denied)

-- why an answer has no records
abbrev pub reason_text : Answer → Option (List ℕ)
reason_text a = reason_by a.item.question (status_of a.outcome) (denies_name (code_of a.outcome))

-- a reason as a line, after what was looked up
abbrev pub reason_line : Item → List ℕ → List ℕ
reason_line item reason = item_text item ++ (codes ": " ++ (reason ++ 10 ∷ []))

-- why an answer has no records, as a line
abbrev pub answer_reason : Answer → Option (List ℕ)
answer_reason a = option_map (reason_line a.item) (reason_text a)
