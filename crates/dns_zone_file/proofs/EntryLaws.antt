-- How an entry is read, token after token.
use Rattle.std.proofs.Common.{◌≡◌, ◌≢◌, ◌≤◌, ◌<◌, ◌+◌, ℕ, Bool, true, false, List, [], ◌∷◌, ◌++◌, length, map, drop, if◌then◌else◌, Ok, Some, None, refl, sym, subst, ap, ◌∙◌, append_assoc, append-nil, length-append, length-drop, arith, Result, Option}
use Rattle.std.proofs.lemmas.List.{map-append}
use Rattle.dns_text.specs.Front.{Front, TextEnd, LineEnd, Gap, Comment, Open, Close, Quoted, Word, Unclosed, Broken, front}
use Rattle.dns_text.specs.Lexer.{Lexeme, EOL, LexerState, Step, Skips, Yields, Ends, Refuses, step_past, NextToken, past_nothing, at_token, at_end, at_fault}
use Rattle.dns_text.specs.Token.{lexeme}
use Rattle.dns_text.specs.declared.token.Token.{Token}
use Rattle.dns_text.specs.declared.token.Token.TheVariants as code
use Rattle.dns_text.specs.declared.error.LexerError.{LexerError}
use Rattle.dns_text.proofs.ReadingLaws.{each_shortens}
use Rattle.dns_zone_file.specs.Entry.{LexesEntry, line_end, text_end, one_token, RefusesTokens, past_token}

-- The tokens from a state to another, none of which ends a line.
pub data ReadsTokens (p : LexerState) : List Lexeme → LexerState → Type 0 where
  no_token : ReadsTokens p [] p
  one_more : {q next : LexerState} {token : Lexeme} {tokens : List Lexeme} → ReadsTokens p tokens q → NextToken q (Ok (Some token)) next → token ≢ EOL → ReadsTokens p (tokens ++ token ∷ []) next

-- what follows completes the entry
completes : {p q end : LexerState} {tokens more : List Lexeme} → ReadsTokens p tokens q → LexesEntry q more end → LexesEntry p (tokens ++ more) end
completes no_token lexes = lexes
completes {p} {end = end} {more = more} (one_more {token = token} {tokens = tokens} reads next is) lexes =
    subst (λ (l : List Lexeme). LexesEntry p l end) (sym (append_assoc tokens (token ∷ []) more)) (completes reads (one_token next is lexes))

pub by_line_end : {p q end : LexerState} {tokens : List Lexeme} → ReadsTokens p tokens q → NextToken q (Ok (Some EOL)) end → LexesEntry p tokens end
by_line_end {p} {end = end} {tokens = tokens} reads next =
    subst (λ (l : List Lexeme). LexesEntry p l end) (append-nil tokens) (completes reads (line_end next))

pub by_text_end : {p q end : LexerState} {tokens : List Lexeme} → ReadsTokens p tokens q → NextToken q (Ok None) end → tokens ≢ [] → LexesEntry p tokens end
by_text_end no_token next some = absurd (some refl)
by_text_end (one_more reads next is) last some = completes reads (text_end next is last)

pub none_read : {p q : LexerState} {tokens : List Lexeme} → ReadsTokens p tokens q → tokens ≡ [] → q ≡ p
none_read no_token e = refl
none_read (one_more {token = token} {tokens = tokens} reads next is) e = absurd (omega (arith, length-append tokens (token ∷ []), ap length e))

pub refuses : {p q : LexerState} {tokens : List Lexeme} {error : LexerError} → ReadsTokens p tokens q → RefusesTokens q error → RefusesTokens p error
refuses no_token refusal = refusal
refuses (one_more reads next is) refusal = refuses reads (past_token next is refusal)

pub shortens : {p q : LexerState} {tokens : List Lexeme} → ReadsTokens p tokens q → length q.text + length tokens ≤ length p.text
shortens no_token = omega arith
shortens (one_more {q = q} {next = next} {token = token} {tokens = tokens} reads read is) =
    omega (arith, shortens reads, each_shortens q next token read, length-append tokens (token ∷ []))

-- ---- the rest of the text

-- without a token no more is left
abbrev NoMore : ℕ → Step → Type 0
NoMore n (Skips next) = length next.text ≤ n
NoMore n (Yields token next) = Unit {0}
NoMore n Ends = Unit {0}
NoMore n (Refuses error) = Unit {0}

by_flag : (b : Bool) (n : ℕ) (x y : Step) → NoMore n x → NoMore n y → NoMore n (if b then x else y)
by_flag true n x y p q = p
by_flag false n x y p q = q

drops : (n : ℕ) (text : List ℕ) → length (drop n text) ≤ length text
drops n text = omega (arith, length-drop n text)

no_more : (f : Front) (p : LexerState) → NoMore (length p.text) (step_past f p)
no_more TextEnd p = by_flag p.is_open (length p.text) _ _ tt tt
no_more (LineEnd n) p = by_flag p.is_open (length p.text) _ _ (drops n p.text) tt
no_more Gap p = by_flag p.is_front (length p.text) _ _ tt (drops 1 p.text)
no_more (Comment n) p = drops n p.text
no_more Open p = by_flag p.is_open (length p.text) _ _ tt (drops 1 p.text)
no_more Close p = by_flag p.is_open (length p.text) _ _ (drops 1 p.text) tt
no_more (Quoted n) p = tt
no_more (Word n) p = tt
no_more Unclosed p = tt
no_more Broken p = tt

at_the_end : {p end : LexerState} {found : Result (Option Lexeme) LexerError} → NextToken p found end → found ≡ Ok None → length end.text ≤ length p.text
at_the_end {p} (past_nothing {next = next} e more) is =
    let first : length next.text ≤ length p.text = subst (NoMore (length p.text)) e (no_more (front p.quotes p.text) p) in
    omega (arith, at_the_end more is)
at_the_end (at_token e) is = absurd (cc)
at_the_end (at_end e) is = omega arith
at_the_end (at_fault e) is = absurd (cc)

-- each entry consumes part of the text
pub shorter_by_line : {p q end : LexerState} {tokens : List Lexeme} (token : Lexeme) → ReadsTokens p tokens q → NextToken q (Ok (Some token)) end → length end.text < length p.text
shorter_by_line {q = q} {end = end} token reads next = omega (arith, shortens reads, each_shortens q end token next)

some_token : (tokens : List Lexeme) → tokens ≢ [] → 0 < length tokens
some_token [] some = absurd (some refl)
some_token (token ∷ tokens) some = omega arith

pub shorter_by_end : {p q end : LexerState} {tokens : List Lexeme} → ReadsTokens p tokens q → NextToken q (Ok None) end → tokens ≢ [] → length end.text < length p.text
shorter_by_end {tokens = tokens} reads next some = omega (arith, shortens reads, at_the_end next refl, some_token tokens some)

-- ---- tokens of the code

not_line_end : (token : Token) → (token ≡ code.EOL → ⊥) → lexeme token ≢ EOL
not_line_end code.Blank is e = absurd (cc)
not_line_end (code.CharData text) is e = absurd (cc)
not_line_end (code.Quoted text) is e = absurd (cc)
not_line_end code.At is e = absurd (cc)
not_line_end code.Include is e = absurd (cc)
not_line_end code.Origin is e = absurd (cc)
not_line_end code.Ttl is e = absurd (cc)
not_line_end code.EOL is e = is refl

pub push_token : {p q next : LexerState} (read pushed : List Token) (token : Token) → ReadsTokens p (map lexeme read) q → NextToken q (Ok (Some (lexeme token))) next → (token ≡ code.EOL → ⊥) → pushed ≡ read ++ token ∷ [] → ReadsTokens p (map lexeme pushed) next
push_token {p} {next = next} read pushed token reads found is e =
    subst (λ (l : List Lexeme). ReadsTokens p l next) (sym (ap (λ (l : List Token). map lexeme l) e ∙ map-append lexeme read (token ∷ []))) (one_more reads found (not_line_end token is))

pub no_lexeme : (read : List Token) → length read ≡ 0 → map lexeme read ≡ []
no_lexeme [] e = refl
no_lexeme (token ∷ read) e = absurd (omega arith)

pub some_lexeme : (read : List Token) → 0 < length read → map lexeme read ≢ []
some_lexeme [] h e = omega arith
some_lexeme (token ∷ read) h e = absurd (cc)
