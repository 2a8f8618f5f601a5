-- The parameters of tokens, one after another.
use Rattle.std.proofs.Common.{◌≡◌, ℕ, zero, suc, ◌<◌, List, [], ◌∷◌, length, take, drop, get_or, map, Result, Ok, Err, refl, sym, ap, ◌∙◌, arith}
use denote.Ref.{Bor}
use Rattle.dns_text.specs.CharacterString.{unescaped}
use Rattle.dns_text.specs.Lexer.{Lexeme, CharData}
use Rattle.dns_text.specs.Token.{lexeme}
use Rattle.dns_text.specs.declared.token.Token.{Token}
use Rattle.dns_text.specs.declared.token.Token.TheVariants as token
use Rattle.dns_formats.specs.Service.{key_end, quoted_value, value_text, more_tokens, with_octets, in_order}
use Rattle.dns_formats.specs.declared.fault.TokenFault.{TokenFault}
use Rattle.dns_formats.specs.declared.fault.TokenFault.TheVariants.{NotAWord}

skips : (n : ℕ) (bytes : List ℕ) (ts : List Token) → in_order n bytes (map lexeme ts) ≡ in_order 0 bytes (map lexeme (drop n ts))
skips zero bytes ts = refl
skips (suc n) bytes [] = refl
skips (suc n) bytes (t ∷ ts) = skips n bytes ts

-- the rest of the parameters, after one
abbrev after : List ℕ → List Lexeme → Result (List ℕ) TokenFault → Result (List ℕ) TokenFault
after text tokens outcome = elim outcome as (λ _. Result (List ℕ) TokenFault) [ Ok more ↦ in_order (more_tokens (quoted_value text tokens)) more tokens | Err fault ↦ Err fault ]

at_word : (bytes text : List ℕ) (t : Token) (ts : List Token) → lexeme t ≡ CharData text
    → in_order 0 bytes (map lexeme (t ∷ ts)) ≡ after text (map lexeme ts) (with_octets bytes (take (key_end text) text) (unescaped (value_text text (map lexeme ts))))
at_word bytes text t ts is = ap (λ (l : Lexeme). in_order 0 bytes (l ∷ map lexeme ts)) is

pub parameter_further : (whole : Result (List ℕ) TokenFault) (bytes all text : List ℕ) (xs : List Token) (d : Token) → 0 < length xs → lexeme (get_or xs 0 d) ≡ CharData text
    → with_octets bytes (take (key_end text) text) (unescaped (value_text text (map lexeme (drop 1 xs)))) ≡ Ok all → in_order 0 bytes (map lexeme xs) ≡ whole
    → in_order 0 all (map lexeme (drop (more_tokens (quoted_value text (map lexeme (drop 1 xs)))) (drop 1 xs))) ≡ whole
parameter_further whole bytes all text [] d some is adds e = absurd (omega arith)
parameter_further whole bytes all text (t ∷ ts) d some is adds e =
    sym (skips (more_tokens (quoted_value text (map lexeme ts))) all ts) ∙ sym (at_word bytes text t ts is ∙ ap (after text (map lexeme ts)) adds) ∙ e

pub parameter_stops : (whole : Result (List ℕ) TokenFault) (bytes : List ℕ) (fault : TokenFault) (text : List ℕ) (xs : List Token) (d : Token) → 0 < length xs → lexeme (get_or xs 0 d) ≡ CharData text
    → with_octets bytes (take (key_end text) text) (unescaped (value_text text (map lexeme (drop 1 xs)))) ≡ Err fault → in_order 0 bytes (map lexeme xs) ≡ whole → whole ≡ Err fault
parameter_stops whole bytes fault text [] d some is refuses e = absurd (omega arith)
parameter_stops whole bytes fault text (t ∷ ts) d some is refuses e = sym e ∙ at_word bytes text t ts is ∙ ap (after text (map lexeme ts)) refuses

no_word : (bytes : List ℕ) (t : Token) (more : List Lexeme) → ((text : Bor (List ℕ)) → t ≡ token.CharData text → ⊥) → in_order 0 bytes (lexeme t ∷ more) ≡ Err NotAWord
no_word bytes token.Blank more not = refl
no_word bytes (token.CharData text) more not = absurd (not text refl)
no_word bytes (token.Quoted text) more not = refl
no_word bytes token.At more not = refl
no_word bytes token.Include more not = refl
no_word bytes token.Origin more not = refl
no_word bytes token.Ttl more not = refl
no_word bytes token.EOL more not = refl

pub not_a_word : (whole : Result (List ℕ) TokenFault) (bytes : List ℕ) (xs : List Token) (d : Token) → 0 < length xs → ((text : Bor (List ℕ)) → get_or xs 0 d ≡ token.CharData text → ⊥)
    → in_order 0 bytes (map lexeme xs) ≡ whole → whole ≡ Err NotAWord
not_a_word whole bytes [] d some not e = absurd (omega arith)
not_a_word whole bytes (t ∷ ts) d some not e = sym e ∙ no_word bytes t (map lexeme ts) not
