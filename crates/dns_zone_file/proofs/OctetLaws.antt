-- The tokens of a text of octets consist of octets.
use Rattle.std.proofs.Common.{ℕ, zero, suc, ◌+◌, Bool, true, false, List, [], ◌∷◌, take, drop, codes, Option, Result, IfSome, IfOk, subst}
use Rattle.std.specs.Prelude.{not}
use Rattle.std.specs.List.{AllByRecursion}
use Rattle.std.specs.Str.{bytes_eq}
use Rattle.dns_names.specs.Print.{AreOctets}
use Rattle.dns_text.specs.Front.{Front, TextEnd, LineEnd, Gap, Comment, Open, Close, Quoted, Word, Unclosed, Broken, front}
use Rattle.dns_text.specs.Lexer.{Lexeme, Blank, CharData, At, Include, Origin, Ttl, EOL, word_token, LexerState, past, Step, Skips, Yields, Ends, Refuses, step_past, NextToken, past_nothing, at_token, at_end, at_fault}
use Rattle.dns_text.specs.declared.error.LexerError.{LexerError}
use Rattle.dns_text.specs.declared.error.LexerError.TheVariants as fault
use Rattle.dns_data.proofs.ValidLaws.{HasOctets}
use Rattle.dns_zone_file.specs.Entry.{LexesEntry, line_end, text_end, one_token}
use Rattle.dns_zone_file.proofs.ParsedLaws.{if_either}

taken : (n : ℕ) (text : List ℕ) → AreOctets text → AreOctets (take n text)
taken zero text are = tt
taken (suc n) [] are = tt
taken (suc n) (c ∷ cs) are = (are.0, taken n cs are.1)

dropped : (n : ℕ) (text : List ℕ) → AreOctets text → AreOctets (drop n text)
dropped zero text are = are
dropped (suc n) [] are = tt
dropped (suc n) (c ∷ cs) are = dropped n cs are.1

word_octets : (is_front : Bool) (text : List ℕ) → AreOctets text → HasOctets (word_token is_front text)
word_octets is_front text are =
    if_either HasOctets (bytes_eq text (codes "@")) At _ tt
    (if_either HasOctets (not is_front) (CharData text) _ are
    (if_either HasOctets (bytes_eq text (codes "$INCLUDE")) Include _ tt
    (if_either HasOctets (bytes_eq text (codes "$ORIGIN")) Origin _ tt
    (if_either HasOctets (bytes_eq text (codes "$TTL")) Ttl (CharData text) tt are))))

abbrev StepsOverOctets : Step → Type 0
StepsOverOctets (Skips next) = AreOctets next.text
StepsOverOctets (Yields token next) = HasOctets token × AreOctets next.text
StepsOverOctets other = Unit {0}

steps : (f : Front) (p : LexerState) → AreOctets p.text → StepsOverOctets (step_past f p)
steps TextEnd p are = if_either StepsOverOctets p.is_open (Refuses (fault.UnclosedList p.entry)) Ends tt tt
steps (LineEnd n) p are =
    if_either StepsOverOctets p.is_open (Skips (record p { text = drop n p.text; line = p.line + 1 }))
    (Yields EOL (record p { text = drop n p.text; line = p.line + 1; entry = p.line + 1; is_open = false; is_front = true }))
    (dropped n p.text are) (tt, dropped n p.text are)
steps Gap p are = if_either StepsOverOctets p.is_front (Yields Blank (past 1 p)) (Skips (past 1 p)) (tt, dropped 1 p.text are) (dropped 1 p.text are)
steps (Comment n) p are = dropped n p.text are
steps Open p are = if_either StepsOverOctets p.is_open (Refuses (fault.NestedList p.line)) (Skips (record (past 1 p) { is_open = true })) tt (dropped 1 p.text are)
steps Close p are = if_either StepsOverOctets p.is_open (Skips (record (past 1 p) { is_open = false })) (Refuses (fault.UnopenedList p.line)) (dropped 1 p.text are) tt
steps (Quoted n) p are = (taken n (drop 1 p.text) (dropped 1 p.text are), dropped (n + 2) p.text are)
steps (Word n) p are = (word_octets p.is_front (take n p.text) (taken n p.text are), dropped n p.text are)
steps Unclosed p are = tt
steps Broken p are = tt

abbrev FindsOctets : Result (Option Lexeme) LexerError → Type 0
FindsOctets found = IfOk found (λ token. IfSome token HasOctets)

next_octets : {p next : LexerState} {found : Result (Option Lexeme) LexerError} → NextToken p found next → AreOctets p.text → FindsOctets found × AreOctets next.text
next_octets (past_nothing {p = p} is more) are = next_octets more (subst StepsOverOctets is (steps (front p.quotes p.text) p are))
next_octets (at_token {p = p} is) are = subst StepsOverOctets is (steps (front p.quotes p.text) p are)
next_octets (at_end is) are = (tt, are)
next_octets (at_fault is) are = (tt, are)

pub entry_octets : {p next : LexerState} {tokens : List Lexeme} → LexesEntry p tokens next → AreOctets p.text → AllByRecursion HasOctets tokens × AreOctets next.text
entry_octets (line_end is) are = (tt, (next_octets is are).1)
entry_octets (text_end is some ends) are = let first = next_octets is are in ((first.0, tt), (next_octets ends first.1).1)
entry_octets (one_token is some more) are =
    let first = next_octets is are in
    let later = entry_octets more first.1 in ((first.0, later.0), later.1)
