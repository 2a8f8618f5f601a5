-- Response codes, their numbers and their names (RFC 1035 section 4.1.1, RFC 6895 section 2.3).
use Rattle.std.specs.Prelude.{◌≡◌, ◌==◌, ◌+◌, ◌*◌, ◌/◌, ◌%◌, ◌&&◌, ◌||◌, nat_le, if◌then◌else◌, Bool, false, ℕ, List, [], ◌++◌, map, codes}
use Rattle.std.specs.Char.{to_ascii_uppercase}
use Rattle.std.specs.Fmt.{decimal}
use Rattle.dns_messages.specs.declared.response_code.ResponseCode.{ResponseCode}
use Rattle.dns_messages.specs.declared.response_code.ResponseCode.TheVariants as code

-- two codes have the number 16 (RFC 6895 section 2.3)
abbrev pub code_number : ResponseCode → ℕ
code_number code.NoError = 0
code_number code.FormErr = 1
code_number code.ServFail = 2
code_number code.NXDomain = 3
code_number code.NotImp = 4
code_number code.Refused = 5
code_number code.YXDomain = 6
code_number code.YXRRSet = 7
code_number code.NXRRSet = 8
code_number code.NotAuth = 9
code_number code.NotZone = 10
code_number code.BADVERS = 16
code_number code.BADSIG = 16
code_number code.BADKEY = 17
code_number code.BADTIME = 18
code_number code.BADMODE = 19
code_number code.BADNAME = 20
code_number code.BADALG = 21
code_number code.BADTRUNC = 22
code_number code.BADCOOKIE = 23
code_number (code.Unknown number) = number

-- the code with a number; 16 decodes to BADSIG
abbrev pub code_of : ℕ → ResponseCode
code_of number =
    if number == 0 then code.NoError
    else if number == 1 then code.FormErr
    else if number == 2 then code.ServFail
    else if number == 3 then code.NXDomain
    else if number == 4 then code.NotImp
    else if number == 5 then code.Refused
    else if number == 6 then code.YXDomain
    else if number == 7 then code.YXRRSet
    else if number == 8 then code.NXRRSet
    else if number == 9 then code.NotAuth
    else if number == 10 then code.NotZone
    else if number == 16 then code.BADSIG
    else if number == 17 then code.BADKEY
    else if number == 18 then code.BADTIME
    else if number == 19 then code.BADMODE
    else if number == 20 then code.BADNAME
    else if number == 21 then code.BADALG
    else if number == 22 then code.BADTRUNC
    else if number == 23 then code.BADCOOKIE
    else code.Unknown number

-- whether a code has a name for this number
abbrev pub is_assigned_code : ℕ → Bool
is_assigned_code number = nat_le number 10 || (nat_le 16 number && nat_le number 23)

-- the codes that numbers decode to: not BADVERS, and Unknown only if no code has a name for its number
abbrev pub IsDecodedCode : ResponseCode → Type 0
IsDecodedCode code.BADVERS = ⊥
IsDecodedCode (code.Unknown number) = is_assigned_code number ≡ false
IsDecodedCode c = Unit {0}

-- ---- twelve bits: four in the header, eight in an OPT record (RFC 6891 section 6.1.3)

-- the lowest four bits of a code, which the header has
abbrev pub code_low : ResponseCode → ℕ
code_low c = code_number c % 16

-- the eight bits above them, which the OPT record has
abbrev pub code_high : ResponseCode → ℕ
code_high c = code_number c / 16 % 256

-- the code with these upper eight and lowest four bits
abbrev pub code_from_parts : ℕ → ℕ → ResponseCode
code_from_parts high low = code_of (16 * high + low % 16)

-- ---- text

-- the name of a code, empty for a code without one
abbrev pub code_name : ResponseCode → List ℕ
code_name code.NoError = codes "NoError"
code_name code.FormErr = codes "FormErr"
code_name code.ServFail = codes "ServFail"
code_name code.NXDomain = codes "NXDomain"
code_name code.NotImp = codes "NotImp"
code_name code.Refused = codes "Refused"
code_name code.YXDomain = codes "YXDomain"
code_name code.YXRRSet = codes "YXRRSet"
code_name code.NXRRSet = codes "NXRRSet"
code_name code.NotAuth = codes "NotAuth"
code_name code.NotZone = codes "NotZone"
code_name code.BADVERS = codes "BADVERS"
code_name code.BADSIG = codes "BADSIG"
code_name code.BADKEY = codes "BADKEY"
code_name code.BADTIME = codes "BADTIME"
code_name code.BADMODE = codes "BADMODE"
code_name code.BADNAME = codes "BADNAME"
code_name code.BADALG = codes "BADALG"
code_name code.BADTRUNC = codes "BADTRUNC"
code_name code.BADCOOKIE = codes "BADCOOKIE"
code_name (code.Unknown number) = []

-- the name, or CODE and the number
abbrev pub code_text : ResponseCode → List ℕ
code_text (code.Unknown number) = codes "CODE" ++ decimal number
code_text c = code_name c

-- The status of a message: the name of its code in capitals, or CODE and its number. In a message, the code 16 is BADVERS (RFC
-- 6891 section 9): BADSIG occurs in TSIG records alone (RFC 8945 section 4.3).
abbrev pub status_text : ResponseCode → List ℕ
status_text code.BADSIG = codes "BADVERS"
status_text (code.Unknown number) = codes "CODE" ++ decimal number
status_text c = map to_ascii_uppercase (code_name c)
