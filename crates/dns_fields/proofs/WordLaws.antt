-- The words of tokens.
use Rattle.std.proofs.Common.{◌≡◌, ℕ, zero, suc, ◌<◌, ◌≤◌, List, [], ◌∷◌, length, get_or, map, Some, None, refl, sym, ap, arith}
use denote.Ref.{Bor}
use Rattle.dns_text.specs.Lexer.{Lexeme, CharData}
use Rattle.dns_text.specs.Token.{lexeme}
use Rattle.dns_text.specs.declared.token.Token.{Token}
use Rattle.dns_text.specs.declared.token.Token.TheVariants as token
use Rattle.dns_fields.specs.location.Angle.{word_at}

pub past_end : (place : ℕ) (ts : List Token) → length ts ≤ place → None ≡ word_at place (map lexeme ts)
past_end place [] past = refl
past_end zero (t ∷ ts) past = absurd (omega arith)
past_end (suc place) (t ∷ ts) past = past_end place ts (omega arith)

at_word : (text : List ℕ) (word : Lexeme) (more : List Lexeme) → word ≡ CharData text → Some text ≡ word_at 0 (word ∷ more)
at_word text word more is = sym (ap (λ (w : Lexeme). word_at 0 (w ∷ more)) is)

pub word_there : (place : ℕ) (ts : List Token) (d : Token) (text : List ℕ) → place < length ts → lexeme (get_or ts place d) ≡ CharData text → Some text ≡ word_at place (map lexeme ts)
word_there place [] d text within is = absurd (omega arith)
word_there zero (t ∷ ts) d text within is = at_word text (lexeme t) (map lexeme ts) is
word_there (suc place) (t ∷ ts) d text within is = word_there place ts d text (omega arith) is

other : (t : Token) (more : List Lexeme) → ((text : Bor (List ℕ)) → t ≡ token.CharData text → ⊥) → None ≡ word_at 0 (lexeme t ∷ more)
other token.Blank more not = refl
other (token.CharData text) more not = absurd (not text refl)
other (token.Quoted text) more not = refl
other token.At more not = refl
other token.Include more not = refl
other token.Origin more not = refl
other token.Ttl more not = refl
other token.EOL more not = refl

pub no_word : (place : ℕ) (ts : List Token) (d : Token) → place < length ts → ((text : Bor (List ℕ)) → get_or ts place d ≡ token.CharData text → ⊥) → None ≡ word_at place (map lexeme ts)
no_word place [] d within not = absurd (omega arith)
no_word zero (t ∷ ts) d within not = other t (map lexeme ts) not
no_word (suc place) (t ∷ ts) d within not = no_word place ts d (omega arith) not
