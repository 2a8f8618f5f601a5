-- Types and classes in text (RFC 1035 section 5.1, RFC 3597 section 5).
use Rattle.std.specs.Prelude.{ℕ, nat_lt, if◌then◌else◌, List, [], ◌∷◌, ◌++◌, length, take, drop, Option, Some, None, codes, find}
use Rattle.std.specs.Fmt.{decimal}
use Rattle.std.specs.Str.{str_eq_ignore_ascii_case}
use Rattle.dns_wire.specs.codes.Decimal.{decimal_up_to}
use Rattle.dns_wire.specs.codes.RecordType.{type_of}
use Rattle.dns_wire.specs.codes.DNSClass.{class_of}
use Rattle.dns_wire.specs.declared.codes.record_type.RecordType.{RecordType}
use Rattle.dns_wire.specs.declared.codes.record_type.RecordType.TheVariants.{A, NS, CNAME, SOA, NULL, PTR, HINFO, MX, TXT, SIG, KEY, AAAA, SRV, NAPTR, CERT, DNAME, OPT, DS, SSHFP, RRSIG, NSEC, DNSKEY, NSEC3, NSEC3PARAM, TLSA, SMIMEA, CDS, CDNSKEY, OPENPGPKEY, CSYNC, SVCB, HTTPS, TSIG, IXFR, AXFR, ANY, CAA, ZERO, Unknown}
use Rattle.dns_wire.specs.declared.codes.dns_class.DNSClass.{DNSClass}
use Rattle.dns_wire.specs.declared.codes.dns_class.DNSClass.TheVariants as class

-- ---- names

-- the name of a type later than RFC 1035 (IANA registry of RR types), empty for any other type
abbrev pub later_type_name : RecordType → List ℕ
later_type_name SIG = codes "SIG"
later_type_name KEY = codes "KEY"
later_type_name AAAA = codes "AAAA"
later_type_name SRV = codes "SRV"
later_type_name NAPTR = codes "NAPTR"
later_type_name CERT = codes "CERT"
later_type_name DNAME = codes "DNAME"
later_type_name OPT = codes "OPT"
later_type_name DS = codes "DS"
later_type_name SSHFP = codes "SSHFP"
later_type_name RRSIG = codes "RRSIG"
later_type_name NSEC = codes "NSEC"
later_type_name DNSKEY = codes "DNSKEY"
later_type_name NSEC3 = codes "NSEC3"
later_type_name NSEC3PARAM = codes "NSEC3PARAM"
later_type_name TLSA = codes "TLSA"
later_type_name SMIMEA = codes "SMIMEA"
later_type_name CDS = codes "CDS"
later_type_name CDNSKEY = codes "CDNSKEY"
later_type_name OPENPGPKEY = codes "OPENPGPKEY"
later_type_name CSYNC = codes "CSYNC"
later_type_name SVCB = codes "SVCB"
later_type_name HTTPS = codes "HTTPS"
later_type_name TSIG = codes "TSIG"
later_type_name IXFR = codes "IXFR"
later_type_name CAA = codes "CAA"
later_type_name ZERO = codes "ZERO"
later_type_name kind = []

-- the name of a type (RFC 1035 section 3.2.2, and later types), empty for a type without one
abbrev pub type_name : RecordType → List ℕ
type_name A = codes "A"
type_name NS = codes "NS"
type_name CNAME = codes "CNAME"
type_name SOA = codes "SOA"
type_name NULL = codes "NULL"
type_name PTR = codes "PTR"
type_name HINFO = codes "HINFO"
type_name MX = codes "MX"
type_name TXT = codes "TXT"
type_name AXFR = codes "AXFR"
type_name ANY = codes "ANY"
type_name kind = later_type_name kind

-- the types that have a name
abbrev pub named_types : List RecordType
named_types = A ∷ NS ∷ CNAME ∷ SOA ∷ NULL ∷ PTR ∷ HINFO ∷ MX ∷ TXT ∷ SIG ∷ KEY ∷ AAAA ∷ SRV ∷ NAPTR ∷ CERT ∷ DNAME ∷ OPT ∷ DS ∷ SSHFP ∷ RRSIG ∷ NSEC ∷ DNSKEY ∷ NSEC3 ∷ NSEC3PARAM ∷ TLSA ∷ SMIMEA ∷ CDS ∷ CDNSKEY ∷ OPENPGPKEY ∷ CSYNC ∷ SVCB ∷ HTTPS ∷ TSIG ∷ IXFR ∷ AXFR ∷ ANY ∷ CAA ∷ ZERO ∷ []

-- the name of a class (RFC 1035 section 3.2.4, RFC 2136 section 1.3), empty for a class without one
abbrev pub class_name : DNSClass → List ℕ
class_name class.IN = codes "IN"
class_name class.CH = codes "CH"
class_name class.HS = codes "HS"
class_name class.NONE = codes "NONE"
class_name class.ANY = codes "ANY"
class_name (class.OPT payload) = []
class_name (class.Unknown number) = []

-- the classes that have a name
abbrev pub named_classes : List DNSClass
named_classes = class.IN ∷ class.CH ∷ class.HS ∷ class.NONE ∷ class.ANY ∷ []

-- the text of a type: its name, or TYPE and its number
abbrev pub type_text : RecordType → List ℕ
type_text (Unknown number) = codes "TYPE" ++ decimal number
type_text kind = type_name kind

-- the text of a class: its name, or CLASS and its number
abbrev pub class_text : DNSClass → List ℕ
class_text (class.OPT payload) = codes "CLASS" ++ decimal payload
class_text (class.Unknown number) = codes "CLASS" ++ decimal number
class_text class = class_name class

-- ---- numbers after a word

-- the 16-bit number in a text, after a word in any case
abbrev pub numbered_text : List ℕ → List ℕ → Option ℕ
numbered_text word text =
    if nat_lt (length text) (length word) then None
    else if str_eq_ignore_ascii_case (take (length word) text) word then decimal_up_to 65535 (drop (length word) text)
    else None

-- the type with a number, if there is one
abbrev pub numbered_type : Option ℕ → Option RecordType
numbered_type None = None
numbered_type (Some number) = Some (type_of number)

-- the first value, or else the other
abbrev pub or_else : {X : Type 0} → Option X → Option X → Option X
or_else (Some x) other = Some x
or_else None other = other

-- the type in a text: a name in any case, or TYPE and a number
abbrev pub type_of_text : List ℕ → Option RecordType
type_of_text text =
    or_else (find (λ kind. str_eq_ignore_ascii_case (type_name kind) text) named_types)
    (numbered_type (numbered_text (codes "TYPE") text))

-- the class with a number, if there is one
abbrev pub numbered_class : Option ℕ → Option DNSClass
numbered_class None = None
numbered_class (Some number) = Some (class_of number)

-- the class in a text: a name in any case, or CLASS and a number
abbrev pub class_of_text : List ℕ → Option DNSClass
class_of_text text =
    or_else (find (λ class. str_eq_ignore_ascii_case (class_name class) text) named_classes)
    (numbered_class (numbered_text (codes "CLASS") text))
