-- Response codes in text (RFC 6895 section 2.3).
use Rattle.std.specs.Prelude.{List, [], ◌∷◌, ℕ, Option, option_map}
use Rattle.std.specs.List.{find}
use Rattle.std.specs.Str.{str_eq_ignore_ascii_case}
use Rattle.dns_wire.specs.codes.CodeText.{or_else}
use Rattle.dns_wire.specs.codes.Decimal.{decimal_up_to}
use Rattle.dns_messages.specs.declared.response_code.ResponseCode.{ResponseCode}
use Rattle.dns_messages.specs.declared.response_code.ResponseCode.TheVariants.{NoError, FormErr, ServFail, NXDomain, NotImp, Refused, YXDomain, YXRRSet, NXRRSet, NotAuth, NotZone, BADVERS, BADSIG, BADKEY, BADTIME, BADMODE, BADNAME, BADALG, BADTRUNC, BADCOOKIE}
use Rattle.dns_messages.specs.ResponseCode.{code_name, code_number}

-- the response codes that have a name
abbrev pub named_codes : List ResponseCode
named_codes = NoError ∷ FormErr ∷ ServFail ∷ NXDomain ∷ NotImp ∷ Refused ∷ YXDomain ∷ YXRRSet ∷ NXRRSet ∷ NotAuth ∷ NotZone ∷ BADVERS ∷ BADSIG ∷ BADKEY ∷ BADTIME ∷ BADMODE ∷ BADNAME ∷ BADALG ∷ BADTRUNC ∷ BADCOOKIE ∷ []

-- the number of the response code in a text: a name in any case, or a number of at most twelve bits
abbrev pub code_in_text : List ℕ → Option ℕ
code_in_text text =
    or_else (option_map code_number (find (λ code. str_eq_ignore_ascii_case (code_name code) text) named_codes))
    (decimal_up_to 4095 text)
