-- The parser's symbols, as the definitions see them.
use Rattle.dns_names.specs.declared.text.symbol.Symbol as code
use Rattle.dns_names.specs.declared.text.symbol.Symbol.TheVariants as codes
use Rattle.dns_names.specs.Parse as text

-- the code's symbol as that of the definitions
abbrev pub symbol_of : code.Symbol → text.Symbol
symbol_of codes.Dot = text.Dot
symbol_of (codes.Plain c) = text.Plain c
symbol_of (codes.Escaped c) = text.Escaped c
symbol_of codes.Broken = text.Broken
