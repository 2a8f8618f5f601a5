-- The value of a `Token` in contracts.
use Rattle.std.specs.Prelude.{Option, Some, None, Result, Ok, Err}
use Rattle.dns_text.specs.Lexer as text
use Rattle.dns_text.specs.declared.error.LexerError.{LexerError}
use Rattle.dns_text.specs.declared.token.Token.{Token}
use Rattle.dns_text.specs.declared.token.Token.TheVariants.{Blank, CharData, Quoted, At, Include, Origin, Ttl, EOL}

-- the code's token as that of the definitions
abbrev pub lexeme : Token → text.Lexeme
lexeme Blank = text.Blank
lexeme (CharData bytes) = text.CharData bytes.now
lexeme (Quoted bytes) = text.QuotedString bytes.now
lexeme At = text.At
lexeme Include = text.Include
lexeme Origin = text.Origin
lexeme Ttl = text.Ttl
lexeme EOL = text.EOL

-- the result of `next_token` in contracts
abbrev pub answer : Result (Option Token) LexerError → Result (Option text.Lexeme) LexerError
answer (Ok None) = Ok None
answer (Ok (Some token)) = Ok (Some (lexeme token))
answer (Err error) = Err error
