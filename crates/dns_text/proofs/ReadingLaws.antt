-- A reading of tokens has one outcome, goes forward, and stays at the end and at a fault.
use Rattle.std.proofs.Common.{◌≡◌, ℕ, ◌+◌, ◌<◌, ◌≤◌, Bool, true, false, ◌&&◌, ◌||◌, List, [], ◌∷◌, length, drop, Option, Some, None, Result, Ok, Err, refl, sym, ap, subst, ◌∙◌, arith, length-drop}
use Rattle.std.specs.Prelude.{◌==◌, not, if◌then◌else◌}
use Rattle.std.proofs.lemmas.Bool.Decides.{nat_tests}
use Rattle.dns_text.specs.declared.error.LexerError.{LexerError}
use Rattle.dns_text.specs.declared.quotes.Quotes.{Quotes}
use Rattle.dns_text.specs.Front.{Run, Bare, Front, TextEnd, LineEnd, Gap, Comment, Open, Close, Quoted, Word, Unclosed, Broken, line_end, is_blank, string_run, ends_run, run_from, quoted, word, front}
use Rattle.dns_text.specs.Lexer.{LexerState, Lexeme, Step, Skips, Yields, step_past, step, NextToken, past_nothing, at_token, at_end, at_fault}

-- ---- what stands in front has a character

-- a line's end and a word have a character at least
abbrev Takes : Front → Type 0
Takes (LineEnd n) = 0 < n
Takes (Word n) = 0 < n
Takes _ = Unit {0}

run_least : (r : Run) (is_escaped : Bool) (place : ℕ) (cs : List ℕ) (n : ℕ) → run_from r is_escaped place cs ≡ Some n → place ≤ n
run_least r is_escaped place [] n e = at is_escaped e
  where
    at : (b : Bool) → (if b then None else Some place) ≡ Some n → place ≤ n
    at true q = absurd (cc)
    at false q = let is : place ≡ n = cc in omega arith
run_least r is_escaped place (c ∷ cs) n e = at (ends_run r is_escaped (c ∷ cs)) e (run_least r (not is_escaped && c == 92) (place + 1) cs n)
  where
    stop : (b : Bool) → (if b then None else Some place) ≡ Some n → place ≤ n
    stop true q = absurd (cc)
    stop false q = let is : place ≡ n = cc in omega arith

    at : (b : Bool) → (if b then (if is_escaped then None else Some place) else run_from r (not is_escaped && c == 92) (place + 1) cs) ≡ Some n
        → (run_from r (not is_escaped && c == 92) (place + 1) cs ≡ Some n → place + 1 ≤ n) → place ≤ n
    at true q more = stop is_escaped q
    at false q more = omega (arith, more q)

-- where nothing stops it, a run has a character
run_some : (r : Run) (c : ℕ) (cs : List ℕ) (n : ℕ) → ends_run r false (c ∷ cs) ≡ false → run_from r false 0 (c ∷ cs) ≡ Some n → 0 < n
run_some r c cs n on e =
    let more : run_from r (not false && c == 92) (0 + 1) cs ≡ Some n =
    sym (ap (λ (b : Bool). if b then Some 0 else run_from r (not false && c == 92) (0 + 1) cs) on) ∙ e in
    omega (arith, run_least r (not false && c == 92) (0 + 1) cs n more)

takes_word : (o : Option ℕ) → ((n : ℕ) → o ≡ Some n → 0 < n) → Takes (word o)
takes_word None some = tt
takes_word (Some n) some = some n refl

takes_quoted : (o : Option ℕ) (cs : List ℕ) → Takes (quoted o cs)
takes_quoted None cs = tt
takes_quoted (Some n) cs = at _
  where
    at : (b : Bool) → Takes (if b then Quoted n else Unclosed)
    at true = tt
    at false = tt

by_test : (t : Bool) (x y : Front) → (t ≡ true → Takes x) → (t ≡ false → Takes y) → Takes (if t then x else y)
by_test true x y p q = p refl
by_test false x y p q = q refl

none_stops : (line blank comment quote opening closing : Bool) → line ≡ false → blank ≡ false → comment ≡ false → opening ≡ false → closing ≡ false → quote ≡ false
    → (line || (not false && (blank || comment || quote || opening || closing))) ≡ false
none_stops line blank comment quote opening closing a b d e f g = rw (a, b, d, e, f, g) refl

takes_front : (quotes : Quotes) (c : ℕ) (cs : List ℕ) → Takes (front quotes (c ∷ cs))
takes_front quotes c cs =
    by_test (not (line_end (c ∷ cs) == 0)) _ _ (λ e. some_line (line_end (c ∷ cs)) e) (λ line.
    by_test (is_blank c) _ _ (λ e. tt) (λ blank.
    by_test (c == 59) _ _ (λ e. tt) (λ comment.
    by_test (c == 40) _ _ (λ e. tt) (λ opening.
    by_test (c == 41) _ _ (λ e. tt) (λ closing.
    by_test (c == 34) _ _ (λ e. takes_quoted (run_from (string_run quotes) false 0 cs) cs) (λ quote.
    takes_word (run_from Bare false 0 (c ∷ cs)) (λ n. run_some Bare c cs n
    (none_stops (not (line_end (c ∷ cs) == 0)) (is_blank c) (c == 59) (c == 34) (c == 40) (c == 41) line blank comment opening closing quote))))))))
  where
    some_line : (n : ℕ) → not (n == 0) ≡ true → 0 < n
    some_line n e = grind (arith, nat_tests)

-- ---- a step goes forward

-- with a token less is left, and without one no more
abbrev Forward : ℕ → Step → Type 0
Forward n (Skips next) = length next.text ≤ n
Forward n (Yields token next) = length next.text < n
Forward n _ = Unit {0}

by_flag : (t : Bool) (n : ℕ) (x y : Step) → Forward n x → Forward n y → Forward n (if t then x else y)
by_flag true n x y p q = p
by_flag false n x y p q = q

no_more : (n : ℕ) (text : List ℕ) → length (drop n text) ≤ length text
no_more n text = omega (arith, length-drop n text)

less : (n : ℕ) (text : List ℕ) → 0 < n → 0 < length text → length (drop n text) < length text
less n text some has = omega (arith, length-drop n text)

past_front : (f : Front) (p : LexerState) → Takes f → 0 < length p.text → Forward (length p.text) (step_past f p)
past_front TextEnd p some has = by_flag p.is_open (length p.text) _ _ tt tt
past_front (LineEnd n) p some has = by_flag p.is_open (length p.text) _ _ (no_more n p.text) (less n p.text some has)
past_front Gap p some has = by_flag p.is_front (length p.text) _ _ (less 1 p.text (omega arith) has) (no_more 1 p.text)
past_front (Comment n) p some has = no_more n p.text
past_front Open p some has = by_flag p.is_open (length p.text) _ _ tt (no_more 1 p.text)
past_front Close p some has = by_flag p.is_open (length p.text) _ _ (no_more 1 p.text) tt
past_front (Quoted n) p some has = less (n + 2) p.text (omega arith) has
past_front (Word n) p some has = less n p.text some has
past_front Unclosed p some has = tt
past_front Broken p some has = tt

forward : (p : LexerState) → Forward (length p.text) (step p)
forward p = at p.text refl
  where
    at : (text : List ℕ) → p.text ≡ text → Forward (length p.text) (step_past (front p.quotes text) p)
    at [] e = by_flag p.is_open (length p.text) _ _ tt tt
    at (c ∷ cs) e = past_front (front p.quotes (c ∷ cs)) p (takes_front p.quotes c cs) (omega (arith, ap (λ (l : List ℕ). length l) e))

-- ---- the next token

shorter : {p end : LexerState} {found : Result (Option Lexeme) LexerError} (token : Lexeme) → NextToken p found end → found ≡ Ok (Some token) → length end.text < length p.text
shorter {p} token (past_nothing {next = next} e more) is =
    let first : length next.text ≤ length p.text = subst (Forward (length p.text)) e (forward p) in
    omega (arith, shorter token more is)
shorter {p} {end} token (at_token {token = token'} e) is = subst (Forward (length p.text)) e (forward p)
shorter token (at_end e) is = absurd (cc)
shorter token (at_fault e) is = absurd (cc)

pub each_shortens : (p next : LexerState) (token : Lexeme) → NextToken p (Ok (Some token)) next → length next.text < length p.text
each_shortens p next token read = shorter token read refl

one_outcome : {p q r : LexerState} {a b : Result (Option Lexeme) LexerError} → NextToken p a q → NextToken p b r → (a ≡ b) × (q ≡ r)
one_outcome {r = r} {b = b} (past_nothing {next = next} e more) (past_nothing {next = next'} e' more') =
    let same : next' ≡ next = cc in
    one_outcome more (subst (λ (x : LexerState). NextToken x b r) same more')
one_outcome (past_nothing e more) (at_token e') = absurd (cc)
one_outcome (past_nothing e more) (at_end e') = absurd (cc)
one_outcome (past_nothing e more) (at_fault e') = absurd (cc)
one_outcome (at_token e) (past_nothing e' more') = absurd (cc)
one_outcome (at_token {next = next} {token = token} e) (at_token {next = next'} {token = token'} e') =
    let same : token ≡ token' = cc in let there : next ≡ next' = cc in (ap (λ (t : Lexeme). Ok (Some t)) same, there)
one_outcome (at_token e) (at_end e') = absurd (cc)
one_outcome (at_token e) (at_fault e') = absurd (cc)
one_outcome (at_end e) (past_nothing e' more') = absurd (cc)
one_outcome (at_end e) (at_token e') = absurd (cc)
one_outcome (at_end e) (at_end e') = (refl, refl)
one_outcome (at_end e) (at_fault e') = absurd (cc)
one_outcome (at_fault e) (past_nothing e' more') = absurd (cc)
one_outcome (at_fault e) (at_token e') = absurd (cc)
one_outcome (at_fault e) (at_end e') = absurd (cc)
one_outcome (at_fault {error = error} e) (at_fault {error = error'} e') =
    let same : error ≡ error' = cc in (ap (λ (x : LexerError). Err x) same, refl)

pub same_outcome : (p q r : LexerState) (a b : Result (Option Lexeme) LexerError) → NextToken p a q → NextToken p b r → (a ≡ b) × (q ≡ r)
same_outcome p q r a b one other = one_outcome one other

-- the end and a fault are read again
again_at_end : {p end : LexerState} {found : Result (Option Lexeme) LexerError} → NextToken p found end → found ≡ Ok None → NextToken end (Ok None) end
again_at_end (past_nothing e more) is = again_at_end more is
again_at_end (at_token e) is = absurd (cc)
again_at_end (at_end e) is = at_end e
again_at_end (at_fault e) is = absurd (cc)

again_at_fault : {p end : LexerState} {found : Result (Option Lexeme) LexerError} (error : LexerError) → NextToken p found end → found ≡ Err error → NextToken end (Err error) end
again_at_fault error (past_nothing e more) is = again_at_fault error more is
again_at_fault error (at_token e) is = absurd (cc)
again_at_fault error (at_end e) is = absurd (cc)
again_at_fault {p} error (at_fault {error = error'} e) is = let same : error' ≡ error = cc in subst (λ (x : LexerError). NextToken p (Err x) p) same (at_fault e)

pub end_stays : (p end : LexerState) → NextToken p (Ok None) end → NextToken end (Ok None) end
end_stays p end read = again_at_end read refl

pub fault_stays : (p end : LexerState) (error : LexerError) → NextToken p (Err error) end → NextToken end (Err error) end
fault_stays p end error read = again_at_fault error read refl
