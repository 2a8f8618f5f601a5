-- Numbers by their mnemonics: algorithms of DNSSEC, and types of certificates.
use Rattle.std.specs.Prelude.{ℕ, List, Option, Some, None, Result, Ok, Err, map}
use Rattle.dns_wire.specs.codes.CodeText.{or_else}
use Rattle.dns_wire.specs.codes.Decimal.{decimal_up_to}
use Rattle.dns_fields.specs.bitmaps.TypeWord.{number_among}
use Rattle.dns_text.specs.Lexer.{Lexeme, CharData}
use Rattle.dns_formats.specs.declared.fault.TokenFault.{TokenFault}
use Rattle.dns_formats.specs.declared.fault.TokenFault.TheVariants.{NotAWord, NotAMnemonic}
use Rattle.dns_formats.specs.declared.mnemonic.TheConstants.{ALGORITHMS, CERTIFICATE_TYPES}

-- ---- the tables, which the code has

-- of algorithms
abbrev pub algorithms : List (List ℕ × ℕ)
algorithms = map (λ line. (line.0.now, line.1)) ALGORITHMS.now

-- of types of certificates
abbrev pub certificate_types : List (List ℕ × ℕ)
certificate_types = map (λ line. (line.0.now, line.1)) CERTIFICATE_TYPES.now

-- ---- words

-- the number, or the fault that there is none
abbrev pub mnemonic_or_fault : Option ℕ → Result ℕ TokenFault
mnemonic_or_fault None = Err NotAMnemonic
mnemonic_or_fault (Some number) = Ok number

-- a decimal number up to the greatest, or a mnemonic of a table
abbrev pub word_number : List (List ℕ × ℕ) → ℕ → Lexeme → Result ℕ TokenFault
word_number words greatest (CharData text) =
    mnemonic_or_fault (or_else (decimal_up_to greatest text) (number_among words text))
word_number words greatest token = Err NotAWord
