-- Tables from text.
use Rattle.std.specs.Prelude.{◌==◌, ◌+◌, ◌||◌, ◌++◌, if◌then◌else◌, Bool, true, false, List, [], ◌∷◌, ℕ, Result, Ok, Err}
use Rattle.std.specs.Str.Lines.{lines}
use Rattle.dns_faults.specs.declared.rules.rule.Rule.{Rule}
use Rattle.dns_faults.specs.declared.rules.table.CountedRule.{CountedRule}
use Rattle.dns_faults.specs.rules.Table.{fresh}
use Rattle.dns_faults.specs.declared.table.error.RuleFault.{RuleFault}
use Rattle.dns_faults.specs.declared.table.error.FaultTableError.{FaultTableError}
use Rattle.dns_faults.specs.declared.table.error.FaultTableError.TheVariants as errors
use Rattle.dns_faults.specs.table.Line.{rule_in}

-- blanks are space, tab and carriage return
abbrev pub is_blank : ℕ → Bool
is_blank c = c == 32 || (c == 9 || c == 13)

-- a word in front of others, unless it is empty
abbrev pub word_before : List ℕ → List (List ℕ) → List (List ℕ)
word_before [] words = words
word_before (c ∷ cs) words = (c ∷ cs) ∷ words

-- the words of a text that follows an open word: blanks separate words
abbrev pub words_after : List ℕ → List ℕ → List (List ℕ)
words_after word [] = word_before word []
words_after word (c ∷ cs) = if is_blank c then word_before word (words_after [] cs) else words_after (word ++ c ∷ []) cs

-- the words of a text
abbrev pub words_of : List ℕ → List (List ℕ)
words_of text = words_after [] text

-- whether a line is blank or a comment
abbrev pub is_skipped : List (List ℕ) → Bool
is_skipped [] = true
is_skipped ([] ∷ words) = false
is_skipped ((c ∷ cs) ∷ words) = c == 35

-- the rules with one more, or the fault of its line
abbrev pub rules_with : ℕ → List CountedRule → Result Rule RuleFault → Result (List CountedRule) FaultTableError
rules_with line rules (Ok rule) = Ok (rules ++ fresh rule ∷ [])
rules_with line rules (Err fault) = Err (errors.Line line fault)

-- the rules after a line
abbrev pub rules_after : ℕ → List CountedRule → List ℕ → Result (List CountedRule) FaultTableError
rules_after line rules text =
    if is_skipped (words_of text) then Ok rules else rules_with line rules (rule_in line (words_of text))

-- the rules after lines, of which the first has this number, or the fault of the first that has one
abbrev pub rules_from : ℕ → List CountedRule → List (List ℕ) → Result (List CountedRule) FaultTableError
rules_from line rules [] = Ok rules
rules_from line rules (text ∷ texts) =
    elim (rules_after line rules text) [ Ok more ↦ rules_from (line + 1) more texts | Err error ↦ Err error ]

-- the table of a text
abbrev pub table_in : List ℕ → Result (List CountedRule) FaultTableError
table_in text = rules_from 1 [] (lines text)
