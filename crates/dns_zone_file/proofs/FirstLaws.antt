-- The first token of a text, or its fault.
use Rattle.std.proofs.Common.{◌≡◌, List, ℕ, Option, Some, None, Result, Ok, Err, subst, true, false}
use Rattle.dns_text.specs.Lexer.{Lexeme, LexerState, NextToken}
use Rattle.dns_text.specs.Token.{lexeme, answer}
use Rattle.dns_text.specs.declared.token.Token.{Token}
use Rattle.dns_text.specs.declared.error.LexerError.{LexerError}
use Rattle.dns_text.proofs.ReadingLaws.{same_outcome}
use Rattle.dns_zone_file.specs.declared.types.Types.{Types}
use Rattle.dns_zone_file.specs.Parsing.{start_in}
use Rattle.dns_zone_file.specs.internal.Parsing.{HasNoToken}

-- ---- what the code finds

pub first_fault : (p lexer end : LexerState) (error : LexerError) → lexer ≡ p → NextToken lexer (Err error) end → HasNoToken p (Err error)
first_fault p lexer end error same next = (end, subst (λ (q : LexerState). NextToken q (Err error) end) same next)

pub first_token : (p lexer end : LexerState) (found : Option Token) (token : Token) → lexer ≡ p → found ≡ Some token → NextToken lexer (answer (Ok found)) end → HasNoToken p (Ok false)
first_token p lexer end found token same is next =
    let there = subst (λ (f : Option Token). NextToken lexer (answer (Ok f)) end) is next in
    (lexeme token, (end, subst (λ (q : LexerState). NextToken q (Ok (Some (lexeme token))) end) same there))

pub first_end : (p lexer end : LexerState) (found : Option Token) → lexer ≡ p → found ≡ None → NextToken lexer (answer (Ok found)) end → HasNoToken p (Ok true)
first_end p lexer end found same is next =
    let there = subst (λ (f : Option Token). NextToken lexer (answer (Ok f)) end) is next in
    (end, subst (λ (q : LexerState). NextToken q (Ok None) end) same there)

-- ---- there is one first token

module _ (p q r : LexerState) where
  pub fault_is_no_end : (error : LexerError) → NextToken p (Err error) q → NextToken p (Ok None) r → ⊥
  fault_is_no_end error fault end = let same = (same_outcome p q r (Err error) (Ok None) fault end).0 in absurd (cc same)

  pub token_is_no_end : (token : Lexeme) → NextToken p (Ok (Some token)) q → NextToken p (Ok None) r → ⊥
  token_is_no_end token found end = let same = (same_outcome p q r (Ok (Some token)) (Ok None) found end).0 in absurd (cc same)

  pub end_is_no_fault : (error : LexerError) → NextToken p (Ok None) q → NextToken p (Err error) r → ⊥
  end_is_no_fault error end fault = let same = (same_outcome p q r (Ok None) (Err error) end fault).0 in absurd (cc same)

  pub token_is_no_fault : (token : Lexeme) (error : LexerError) → NextToken p (Ok (Some token)) q → NextToken p (Err error) r → ⊥
  token_is_no_fault token error found fault = let same = (same_outcome p q r (Ok (Some token)) (Err error) found fault).0 in absurd (cc same)

  pub one_fault : (a b : LexerError) → NextToken p (Err a) q → NextToken p (Err b) r → a ≡ b
  one_fault a b fault other = let same = (same_outcome p q r (Err a) (Err b) fault other).0 in cc same

-- ---- of equal texts

pub of_text : {outcome : Result (Option Lexeme) LexerError} {end : LexerState} (types others : Types) (text other : List ℕ) → types ≡ others → text ≡ other
    → NextToken (start_in types text) outcome end → NextToken (start_in others other) outcome end
of_text {outcome} {end} types others text other one same next =
    subst (λ (t : Types). NextToken (start_in t other) outcome end) one (subst (λ (t : List ℕ). NextToken (start_in types t) outcome end) same next)
