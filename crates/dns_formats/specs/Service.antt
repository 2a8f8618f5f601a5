-- The parameters of service bindings, from their tokens (RFC 9460 section 2.1).
use Rattle.std.specs.Prelude.{ℕ, zero, suc, ◌+◌, ◌==◌, if◌then◌else◌, List, [], ◌∷◌, length, take, drop, Option, Some, None, unwrap_or, Result, Ok, Err}
use Rattle.std.specs.List.{position_or_len}
use Rattle.dns_text.specs.CharacterString.{unescaped}
use Rattle.dns_text.specs.Lexer.{Lexeme, CharData, QuotedString}
use Rattle.dns_fields.specs.service.Wire.{are_parameters}
use Rattle.dns_fields.specs.service.Parameter.{with_parameter}
use Rattle.dns_fields.specs.declared.service.fault.ServiceFault.{ServiceFault}
use Rattle.dns_fields.specs.declared.service.fault.ServiceFault.TheVariants as service
use Rattle.dns_formats.specs.declared.fault.TokenFault.{TokenFault}
use Rattle.dns_formats.specs.declared.fault.TokenFault.TheVariants.{NotAWord, InvalidEscape, Parameter, NotParameters, Memory}

-- the fault of a parameter, as one of its token
abbrev pub service_fault : ServiceFault → TokenFault
service_fault service.Memory = Memory
service_fault fault = Parameter fault

-- the outcome of a parameter, with the fault of its token
abbrev pub of_service : Result (List ℕ) ServiceFault → Result (List ℕ) TokenFault
of_service (Ok bytes) = Ok bytes
of_service (Err fault) = Err (service_fault fault)

-- where the key of a parameter ends: at the first `=`, or with the text
abbrev pub key_end : List ℕ → ℕ
key_end text = position_or_len (λ c. c == 61) text

-- a quoted value: the next token, if the text ends with its first `=`
abbrev pub quoted_value : List ℕ → List Lexeme → Option (List ℕ)
quoted_value text (QuotedString quoted ∷ tokens) = if key_end text + 1 == length text then Some quoted else None
quoted_value text tokens = None

-- the text of a value: what is quoted, or follows the first `=`, or none
abbrev pub value_text : List ℕ → List Lexeme → List ℕ
value_text text tokens = unwrap_or (quoted_value text tokens) (drop (key_end text + 1) text)

-- how many tokens more a parameter has
abbrev pub more_tokens : Option (List ℕ) → ℕ
more_tokens None = 0
more_tokens (Some quoted) = 1

-- parameters with one more, from its key and the octets of its value
abbrev pub with_octets : List ℕ → List ℕ → Option (List ℕ) → Result (List ℕ) TokenFault
with_octets bytes name None = Err InvalidEscape
with_octets bytes name (Some octets) = of_service (with_parameter bytes name octets)

-- Parameters in any order, after `past` more tokens of the one before, in the order of their keys.
abbrev pub in_order : ℕ → List ℕ → List Lexeme → Result (List ℕ) TokenFault
in_order past bytes [] = Ok bytes
in_order (suc past) bytes (token ∷ tokens) = in_order past bytes tokens
in_order zero bytes (CharData text ∷ tokens) =
    elim (with_octets bytes (take (key_end text) text) (unescaped (value_text text tokens)))
    [ Ok more ↦ in_order (more_tokens (quoted_value text tokens)) more tokens | Err fault ↦ Err fault ]
in_order zero bytes (token ∷ tokens) = Err NotAWord

-- the parameters, if they belong together
abbrev pub together : Result (List ℕ) TokenFault → Result (List ℕ) TokenFault
together (Ok bytes) = if are_parameters bytes 0 0 bytes then Ok bytes else Err NotParameters
together (Err fault) = Err fault

-- the bytes of the parameters that tokens denote
abbrev pub parameters_bytes : List Lexeme → Result (List ℕ) TokenFault
parameters_bytes tokens = together (in_order 0 [] tokens)
