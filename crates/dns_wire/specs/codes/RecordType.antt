-- Types and their numbers (RFC 1035 sections 3.2.2 and 3.2.3, and later types of the IANA registry).
use Rattle.std.specs.Prelude.{ℕ, ◌==◌, if◌then◌else◌, Bool, true, false}
use Rattle.dns_wire.specs.declared.codes.record_type.RecordType.{RecordType}
use Rattle.dns_wire.specs.declared.codes.record_type.RecordType.TheVariants.{A, NS, CNAME, SOA, NULL, PTR, HINFO, MX, TXT, SIG, KEY, AAAA, SRV, NAPTR, CERT, DNAME, OPT, DS, SSHFP, RRSIG, NSEC, DNSKEY, NSEC3, NSEC3PARAM, TLSA, SMIMEA, CDS, CDNSKEY, OPENPGPKEY, CSYNC, SVCB, HTTPS, TSIG, IXFR, AXFR, ANY, CAA, ZERO, Unknown}

-- ---- the number of a type

-- the number of a type later than RFC 1035, 0 for any other type
abbrev pub later_type_number : RecordType → ℕ
later_type_number SIG = 24
later_type_number KEY = 25
later_type_number AAAA = 28
later_type_number SRV = 33
later_type_number NAPTR = 35
later_type_number CERT = 37
later_type_number DNAME = 39
later_type_number OPT = 41
later_type_number DS = 43
later_type_number SSHFP = 44
later_type_number RRSIG = 46
later_type_number NSEC = 47
later_type_number DNSKEY = 48
later_type_number NSEC3 = 50
later_type_number NSEC3PARAM = 51
later_type_number TLSA = 52
later_type_number SMIMEA = 53
later_type_number CDS = 59
later_type_number CDNSKEY = 60
later_type_number OPENPGPKEY = 61
later_type_number CSYNC = 62
later_type_number SVCB = 64
later_type_number HTTPS = 65
later_type_number TSIG = 250
later_type_number IXFR = 251
later_type_number CAA = 257
later_type_number (Unknown number) = number
later_type_number kind = 0

-- the number of a type (RFC 1035 sections 3.2.2 and 3.2.3, and later types)
abbrev pub type_number : RecordType → ℕ
type_number A = 1
type_number NS = 2
type_number CNAME = 5
type_number SOA = 6
type_number NULL = 10
type_number PTR = 12
type_number HINFO = 13
type_number MX = 15
type_number TXT = 16
type_number AXFR = 252
type_number ANY = 255
type_number kind = later_type_number kind

-- types are equal if their numbers are (RFC 3597 section 3)
abbrev pub same_type : RecordType → RecordType → Bool
same_type a b = type_number a == type_number b

-- ---- the type with a number

-- the type later than RFC 1035 with a number, or `Unknown`
abbrev pub later_type_of : ℕ → RecordType
later_type_of number =
    if number == 24 then SIG
    else if number == 25 then KEY
    else if number == 28 then AAAA
    else if number == 33 then SRV
    else if number == 35 then NAPTR
    else if number == 37 then CERT
    else if number == 39 then DNAME
    else if number == 41 then OPT
    else if number == 43 then DS
    else if number == 44 then SSHFP
    else if number == 46 then RRSIG
    else if number == 47 then NSEC
    else if number == 48 then DNSKEY
    else if number == 50 then NSEC3
    else if number == 51 then NSEC3PARAM
    else if number == 52 then TLSA
    else if number == 53 then SMIMEA
    else if number == 59 then CDS
    else if number == 60 then CDNSKEY
    else if number == 61 then OPENPGPKEY
    else if number == 62 then CSYNC
    else if number == 64 then SVCB
    else if number == 65 then HTTPS
    else if number == 250 then TSIG
    else if number == 251 then IXFR
    else if number == 257 then CAA
    else if number == 0 then ZERO
    else Unknown number

-- the type with a number, `Unknown` if none is named (RFC 3597 section 3)
abbrev pub type_of : ℕ → RecordType
type_of number =
    if number == 1 then A
    else if number == 2 then NS
    else if number == 5 then CNAME
    else if number == 6 then SOA
    else if number == 10 then NULL
    else if number == 12 then PTR
    else if number == 13 then HINFO
    else if number == 15 then MX
    else if number == 16 then TXT
    else if number == 252 then AXFR
    else if number == 255 then ANY
    else later_type_of number

-- the types of DNSSEC
abbrev pub is_dnssec_type : RecordType → Bool
is_dnssec_type SIG = true
is_dnssec_type KEY = true
is_dnssec_type DS = true
is_dnssec_type RRSIG = true
is_dnssec_type NSEC = true
is_dnssec_type DNSKEY = true
is_dnssec_type NSEC3 = true
is_dnssec_type NSEC3PARAM = true
is_dnssec_type CDS = true
is_dnssec_type CDNSKEY = true
is_dnssec_type kind = false
