-- The actions of a rule, from the words after its type.
use Rattle.std.specs.Prelude.{if◌then◌else◌, nat_le, Bool, true, false, List, [], ◌∷◌, ℕ, Option, Some, None, Result, Ok, Err, is_some}
use Rattle.dns_wire.specs.codes.Decimal.{decimal_up_to, is_digit}
use Rattle.dns_faults.specs.declared.rules.fault.Fault.{Fault}
use Rattle.dns_faults.specs.declared.rules.fault.Service.{Service}
use Rattle.dns_faults.specs.declared.rules.fault.Service.TheVariants as services
use Rattle.dns_faults.specs.rules.Fault.{has_action, no_fault}
use Rattle.dns_faults.specs.declared.table.actions.Actions.{Actions}
use Rattle.dns_faults.specs.declared.table.actions.Next.{Next}
use Rattle.dns_faults.specs.declared.table.actions.Next.TheVariants as next
use Rattle.dns_faults.specs.declared.table.error.RuleFault.{RuleFault}
use Rattle.dns_faults.specs.declared.table.error.RuleFault.TheVariants as faults
use Rattle.dns_faults.specs.declared.table.keyword.Keyword.{Keyword}
use Rattle.dns_faults.specs.declared.table.keyword.Keyword.TheVariants as words
use Rattle.dns_faults.specs.table.Code.{code_in_text}
use Rattle.dns_faults.specs.table.Keyword.{keyword_of}

-- ---- which actions may stand beside one another

-- an action occurs at most once
abbrev pub checked_absent : Bool → Result (Unit {0}) RuleFault
checked_absent true = Err faults.Repeated
checked_absent false = Ok tt

-- there is one service: `drop`, `stale` or `code`
abbrev pub checked_service : Service → Service → Result (Unit {0}) RuleFault
checked_service services.Plain new = Ok tt
checked_service services.Drop services.Drop = Err faults.Repeated
checked_service services.Stale services.Stale = Err faults.Repeated
checked_service (services.Code number) (services.Code other) = Err faults.Repeated
checked_service present new = Err faults.Exclusive

-- whether a keyword may follow these actions
abbrev pub checked : Fault → Keyword → Result (Unit {0}) RuleFault
checked f words.Drop = checked_service f.service services.Drop
checked f words.Stale = checked_service f.service services.Stale
checked f words.Code = checked_service f.service (services.Code 0)
checked f words.Truncate = checked_absent f.truncate
checked f words.WrongId = checked_absent f.wrong_id
checked f words.WrongQuestion = checked_absent f.wrong_question
checked f words.Garbage = checked_absent (is_some f.garbage)
checked f words.Duplicate = checked_absent f.duplicate
checked f words.Close = checked_absent (is_some f.close)
checked f words.Delay = checked_absent (is_some f.delay)
checked f words.Times = Ok tt

-- whether there is an action beside the service
abbrev pub has_others : Fault → Bool
has_others f = has_action (record f { service = services.Plain })

-- ---- word by word

-- no action yet
abbrev pub start : Actions
start = record { fault = no_fault; times = None; next = next.Keyword }

-- these actions, and then a keyword
abbrev pub with_fault : Actions → Fault → Actions
with_fault a f = record a { fault = f; next = next.Keyword }

-- the actions with a keyword that may follow; the next word is its argument, if it has one
abbrev pub with_keyword : Actions → Keyword → Actions
with_keyword a words.Drop = with_fault a (record a.fault { service = services.Drop })
with_keyword a words.Stale = with_fault a (record a.fault { service = services.Stale })
with_keyword a words.Truncate = with_fault a (record a.fault { truncate = true })
with_keyword a words.WrongId = with_fault a (record a.fault { wrong_id = true })
with_keyword a words.WrongQuestion = with_fault a (record a.fault { wrong_question = true })
with_keyword a words.Duplicate = with_fault a (record a.fault { duplicate = true })
with_keyword a words.Close = record (with_fault a (record a.fault { close = Some 0 })) { next = next.Close }
with_keyword a words.Delay = record a { next = next.Delay }
with_keyword a words.Code = record a { next = next.Code }
with_keyword a words.Garbage = record a { next = next.Garbage }
with_keyword a words.Times = record a { next = next.Times }

-- a keyword, if it may follow
abbrev pub with_checked : Actions → Keyword → Result (Unit {0}) RuleFault → Result Actions RuleFault
with_checked a keyword (Ok u) = Ok (with_keyword a keyword)
with_checked a keyword (Err fault) = Err fault

-- a word that may be a keyword
abbrev pub with_word : Actions → Option Keyword → Result Actions RuleFault
with_word a None = Err faults.UnknownAction
with_word a (Some keyword) = with_checked a keyword (checked a.fault keyword)

-- the actions after a keyword
abbrev pub after_keyword : Actions → List ℕ → Result Actions RuleFault
after_keyword a word = with_word a (keyword_of word)

-- a number that is at least the least
abbrev pub at_least : ℕ → Option ℕ → Result ℕ RuleFault
at_least least None = Err faults.Number
at_least least (Some number) = if nat_le least number then Ok number else Err faults.Number

-- a decimal number from the least to the greatest
abbrev pub number_in : ℕ → ℕ → List ℕ → Result ℕ RuleFault
number_in least greatest word = at_least least (decimal_up_to greatest word)

-- whether a word begins with a digit
abbrev pub begins_with_digit : List ℕ → Bool
begins_with_digit [] = false
begins_with_digit (c ∷ cs) = is_digit c

-- actions with an argument, or its fault
abbrev pub with_argument : {X : Type 0} → Result X RuleFault → (X → Actions) → Result Actions RuleFault
with_argument (Ok x) actions = Ok (actions x)
with_argument (Err fault) actions = Err fault

-- a response code, or the fault that there is none
abbrev pub code_argument : Option ℕ → Result ℕ RuleFault
code_argument None = Err faults.Code
code_argument (Some number) = Ok number

-- after `close`: a number of bytes, of the at most 65,537 of a frame, or a keyword
abbrev pub after_close : Actions → List ℕ → Result Actions RuleFault
after_close a word =
    if begins_with_digit word then with_argument (number_in 0 65537 word) (λ n. with_fault a (record a.fault { close = Some n }))
    else after_keyword a word

-- the actions after a word, by what it may be: delays have at most an hour, and garbage at least a byte
abbrev pub after_by : Next → Actions → List ℕ → Result Actions RuleFault
after_by next.Keyword a word = after_keyword a word
after_by next.Delay a word = with_argument (number_in 0 3600000 word) (λ n. with_fault a (record a.fault { delay = Some n }))
after_by next.Code a word = with_argument (code_argument (code_in_text word)) (λ n. with_fault a (record a.fault { service = services.Code n }))
after_by next.Garbage a word = with_argument (number_in 1 65535 word) (λ n. with_fault a (record a.fault { garbage = Some n }))
after_by next.Close a word = after_close a word
after_by next.Times a word = with_argument (number_in 1 4294967295 word) (λ n. record a { times = Some n; next = next.End })
after_by next.End a word = Err faults.Surplus

-- the actions after a word
abbrev pub after_word : Actions → List ℕ → Result Actions RuleFault
after_word a word = after_by a.next a word

-- whether a word is missing at the end
abbrev pub is_open : Next → Bool
is_open next.Keyword = false
is_open next.Close = false
is_open next.End = false
is_open other = true

-- whether a service is `drop`
abbrev pub is_drop : Service → Bool
is_drop services.Drop = true
is_drop other = false

-- the actions at the end of the line: there is at least one, and `drop` is alone
abbrev pub ended : Actions → Result Actions RuleFault
ended a =
    if is_open a.next then Err faults.NoNumber
    else if has_action a.fault then (if is_drop a.fault.service then (if has_others a.fault then Err faults.Exclusive else Ok a) else Ok a)
    else Err faults.NoAction

-- the actions at the end of these words, or the first fault
abbrev pub after_words : Actions → List (List ℕ) → Result Actions RuleFault
after_words a [] = ended a
after_words a (w ∷ ws) = elim (after_word a w) [ Ok next ↦ after_words next ws | Err fault ↦ Err fault ]

-- the actions of the words after the type
abbrev pub actions_of : List (List ℕ) → Result Actions RuleFault
actions_of words = after_words start words
