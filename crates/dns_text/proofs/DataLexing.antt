-- The text of data lexes to the data.
use Rattle.std.proofs.Common.{◌≡◌, ℕ, suc, ◌+◌, ◌<◌, Bool, true, false, ◌&&◌, List, [], ◌∷◌, ◌++◌, length, take, drop, Option, Some, None, Ok, refl, sym, ap, subst, ◌∙◌, append_assoc, arith}
use Rattle.std.specs.Prelude.{◌≢◌, ◌==◌, not, if◌then◌else◌, count_by}
use Rattle.std.specs.List.{AllByRecursion}
use Rattle.std.specs.Str.{bytes_eq}
use Rattle.std.proofs.Math.Seq.{take-append_seam, drop-append_seam, drop-append-add}
use Rattle.std.proofs.lemmas.List.{append-nil}
use Rattle.dns_text.specs.declared.quotes.Quotes.{Quotes}
use Rattle.dns_text.specs.declared.quotes.Quotes.TheVariants.{OneLine, ManyLines}
use Rattle.dns_text.specs.Front.{Run, Bare, InQuotes, OverLines, string_run, line_end, is_on_line, Front, Quoted, Word, Unclosed, begins_with_feed, quoted, word, front}
use Rattle.dns_text.specs.FrontGrammar.{by_text_end, IsCut, RunGoesTo, no_further, unescaped, escaped, IsRunOver, by_cut, by_stop}
use Rattle.dns_text.specs.Lexer.{LexerState, Lexeme, CharData, QuotedString, At, word_token, Yields, step_past, step, NextToken, past_nothing, at_token, at_end}
use Rattle.dns_text.specs.Tokens.{LexesTo, no_token, one_token, IsRun, no_character, one_character, one_escape, IsDatum, datum_text, data_text}
use Rattle.dns_text.proofs.TokenGrammarLaws.{unequal, no_line, goes_in, quote_stops, run_read, word_begun}

-- ---- what the text of a datum begins with

no_end : (r : Run) (n : ℕ) → n ≡ 0 → (is_on_line r && not (n == 0)) ≡ false
no_end Bare n e = rw e refl
no_end InQuotes n e = rw e refl
no_end OverLines n e = refl

on_line : (r : Run) (c : ℕ) (cs : List ℕ) → c ≢ 10 → c ≢ 13 → ¬ IsCut r (c ∷ cs)
on_line r c cs n m = goes_in r c cs (no_end r (line_end (c ∷ cs)) (no_line c cs (unequal c 10 n) (ap (λ (t : Bool). t && begins_with_feed cs) (unequal c 13 m))))

goes : {r : Run} {run : List ℕ} → IsRun r run → (rest : List ℕ) → RunGoesTo r (run ++ rest) run rest
goes no_character rest = no_further
goes {r} (one_character {c = c} {run = run} n m e k more) rest = unescaped (on_line r c (run ++ rest) n m) e k (goes more rest)
goes {r} (one_escape {c = c} {run = run} n m more) rest = escaped (on_line r c (run ++ rest) n m) (goes more rest)

-- a string on one line is one wherever strings may go over several
over_lines : {run : List ℕ} → IsRun InQuotes run → IsRun OverLines run
over_lines no_character = no_character
over_lines (one_character n m e k more) = one_character n m e k (over_lines more)
over_lines (one_escape n m more) = one_escape n m (over_lines more)

string_goes : (quotes : Quotes) {run : List ℕ} → IsRun InQuotes run → (rest : List ℕ) → RunGoesTo (string_run quotes) (run ++ rest) run rest
string_goes OneLine is rest = goes is rest
string_goes ManyLines is rest = goes (over_lines is) rest

word_front : (quotes : Quotes) (run rest : List ℕ) → IsRun Bare run → 0 < length run → IsRunOver Bare rest → front quotes (run ++ rest) ≡ Word (length run)
word_front quotes run rest is some over = word_begun quotes (goes is rest) some ∙ ap word (run_read (goes is rest) over)

string_front : (quotes : Quotes) (string rest : List ℕ) → IsRun InQuotes string → front quotes (34 ∷ (string ++ 34 ∷ rest)) ≡ Quoted (length string)
string_front quotes string rest is =
    ap (λ (o : Option ℕ). quoted o (string ++ 34 ∷ rest)) (run_read (string_goes quotes is (34 ∷ rest)) (by_stop (quote_stops quotes)))
    ∙ ap (λ (l : List ℕ). if bytes_eq (take 1 l) (34 ∷ []) then Quoted (length string) else Unclosed) (drop-append_seam string (34 ∷ rest))

-- ---- one token

abbrev at : LexerState → List ℕ → Bool → LexerState
at p text is_front = record p { text = text; is_front = is_front }

plain_word : (is_front : Bool) (run : List ℕ) → word_token true run ≡ CharData run → word_token is_front run ≡ CharData run
plain_word true run e = e
plain_word false run e = by (bytes_eq run (64 ∷ [])) _ e
  where
    by : (t : Bool) (other : Lexeme) → (if t then At else other) ≡ CharData run → (if t then At else CharData run) ≡ CharData run
    by true other q = q
    by false other q = refl

word_step : (p : LexerState) (is_front : Bool) (run rest : List ℕ) → IsDatum (CharData run) → IsRunOver Bare rest → step (at p (run ++ rest) is_front) ≡ Yields (CharData run) (at p rest false)
word_step p is_front run rest is over =
    ap (λ (f : Front). step_past f (at p (run ++ rest) is_front)) (word_front p.quotes run rest is.1 is.0 over)
    ∙ ap (λ (l : List ℕ). Yields (word_token is_front l) (at p (drop (length run) (run ++ rest)) false)) (take-append_seam run rest)
    ∙ ap (λ (l : List ℕ). Yields (word_token is_front run) (at p l false)) (drop-append_seam run rest)
    ∙ ap (λ (t : Lexeme). Yields t (at p rest false)) (plain_word is_front run is.2)

-- a string on one line has no line feed
no_feed : {run : List ℕ} → IsRun InQuotes run → count_by (λ c. c == 10) run ≡ 0
no_feed no_character = refl
no_feed (one_character {c = c} n m e k more) = rw (unequal c 10 n) (no_feed more)
no_feed (one_escape {c = c} n m more) = rw (unequal c 10 n) (no_feed more)

stays : (n k : ℕ) → k ≡ 0 → n + k ≡ n
stays n k e = omega (arith, e)

string_step : (p : LexerState) (is_front : Bool) (string rest : List ℕ) → IsRun InQuotes string → step (at p (34 ∷ (string ++ 34 ∷ rest)) is_front) ≡ Yields (QuotedString string) (at p rest false)
string_step p is_front string rest is =
    ap (λ (f : Front). step_past f (at p (34 ∷ (string ++ 34 ∷ rest)) is_front)) (string_front p.quotes string rest is)
    ∙ ap (λ (l : List ℕ). Yields (QuotedString l) (record (at p (drop (length string + 2) (34 ∷ (string ++ 34 ∷ rest))) false) { line = p.line + count_by (λ c. c == 10) l })) (take-append_seam string (34 ∷ rest))
    ∙ ap (λ (n : ℕ). Yields (QuotedString string) (record (at p (drop (length string + 2) (34 ∷ (string ++ 34 ∷ rest))) false) { line = n })) (stays p.line (count_by (λ c. c == 10) string) (no_feed is))
    ∙ ap (λ (k : ℕ). Yields (QuotedString string) (at p (drop k (34 ∷ (string ++ 34 ∷ rest))) false)) (further (length string))
    ∙ ap (λ (l : List ℕ). Yields (QuotedString string) (at p l false)) (drop-append-add string (34 ∷ rest) 1)
  where
    further : (n : ℕ) → n + 2 ≡ suc (n + 1)
    further n = omega arith

-- the token at the start of its text
pub datum_next : (p : LexerState) (is_front : Bool) (datum : Lexeme) (rest : List ℕ) → IsDatum datum → IsRunOver Bare rest
    → NextToken (at p (datum_text datum ++ rest) is_front) (Ok (Some datum)) (at p rest false)
datum_next p is_front (CharData run) rest is over = at_token (word_step p is_front run rest is over)
datum_next p is_front (QuotedString string) rest is over =
    subst (λ (l : List ℕ). NextToken (at p (34 ∷ l) is_front) (Ok (Some (QuotedString string))) (at p rest false)) (sym (append_assoc string (34 ∷ []) rest)) (at_token (string_step p is_front string rest is))
datum_next p is_front _ rest is over = absurd is

-- ---- all tokens

past_blank : {q end : LexerState} {tokens : List Lexeme} → LexesTo q tokens end → (p : LexerState) (rest : List ℕ) → q ≡ at p rest false → LexesTo (at p (32 ∷ rest) false) tokens end
past_blank (no_token {end = end} next) p rest e = no_token (past_nothing refl (subst (λ (s : LexerState). NextToken s (Ok None) end) e next))
past_blank (one_token {next = after} {token = token} next more) p rest e = one_token (past_nothing refl (subst (λ (s : LexerState). NextToken s (Ok (Some token)) after) e next)) more

no_more : (p : LexerState) → p.is_open ≡ false → NextToken (at p [] false) (Ok None) (at p [] false)
no_more p e = at_end (rw e refl)

lexes : (p : LexerState) (is_front : Bool) (datum : Lexeme) (more : List Lexeme) → AllByRecursion IsDatum (datum ∷ more) → p.is_open ≡ false
    → LexesTo (at p (data_text (datum ∷ more)) is_front) (datum ∷ more) (at p [] false)
lexes p is_front datum [] are closed =
    one_token (subst (λ (l : List ℕ). NextToken (at p l is_front) (Ok (Some datum)) (at p [] false)) (append-nil (datum_text datum)) (datum_next p is_front datum [] are.0 (by_cut by_text_end)))
    (no_token (no_more p closed))
lexes p is_front datum (next ∷ more) are closed =
    one_token (datum_next p is_front datum (32 ∷ data_text (next ∷ more)) are.0 (by_stop refl)) (past_blank (lexes p false next more are.1 closed) p (data_text (next ∷ more)) refl)

pub data_lex_back : (p : LexerState) (datum : Lexeme) (more : List Lexeme) → AllByRecursion IsDatum (datum ∷ more) → p.is_open ≡ false → p.text ≡ data_text (datum ∷ more)
    → LexesTo p (datum ∷ more) (record p { text = []; is_front = false })
data_lex_back p datum more are closed e =
    subst (λ (q : LexerState). LexesTo q (datum ∷ more) (at p [] false)) (sym (ap (λ (l : List ℕ). at p l p.is_front) e)) (lexes p p.is_front datum more are closed)
