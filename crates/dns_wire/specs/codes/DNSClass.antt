-- Classes and their numbers (RFC 1035 sections 3.2.4 and 3.2.5, RFC 2136 section 1.3).
use Rattle.std.specs.Prelude.{ℕ, ◌==◌, Bool, if◌then◌else◌}
use Rattle.dns_wire.specs.declared.codes.dns_class.DNSClass.{DNSClass}
use Rattle.dns_wire.specs.declared.codes.dns_class.DNSClass.TheVariants.{IN, CH, HS, NONE, ANY, OPT, Unknown}

-- the number of a class; that of `OPT` is the payload size (RFC 6891 section 6.1.2)
abbrev pub class_number : DNSClass → ℕ
class_number IN = 1
class_number CH = 3
class_number HS = 4
class_number NONE = 254
class_number ANY = 255
class_number (OPT payload) = payload
class_number (Unknown number) = number

-- classes are equal if their numbers are (RFC 3597 section 3)
abbrev pub same_class : DNSClass → DNSClass → Bool
same_class a b = class_number a == class_number b

-- the class with a number
abbrev pub class_of : ℕ → DNSClass
class_of number =
    if number == 1 then IN
    else if number == 3 then CH
    else if number == 4 then HS
    else if number == 254 then NONE
    else if number == 255 then ANY
    else Unknown number
