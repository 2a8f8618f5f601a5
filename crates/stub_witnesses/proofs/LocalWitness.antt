-- What records of the local host have: an address of theirs begins with 127 (RFC 1122 section 3.2.1.3, RFC 6761 section 6.3).
use Rattle.std.proofs.Common.{◌≡◌, ℕ, List, [], ◌∷◌, refl, subst}
use Rattle.std.proofs.lemmas.Bool.{cond_both}
use Rattle.dns_wire.specs.codes.DNSClass.{class_number, class_of}
use Rattle.dns_wire.specs.codes.RecordType.{type_number, type_of}
use Rattle.dns_wire.specs.declared.codes.dns_class.DNSClass.{DNSClass}
use Rattle.dns_wire.specs.declared.codes.dns_class.DNSClass.TheVariants as classes
use Rattle.dns_wire.specs.declared.codes.record_type.RecordType.{RecordType}
use Rattle.dns_wire.specs.declared.codes.record_type.RecordType.TheVariants as types
use Rattle.dns_names.specs.Name.{DomainName}
use Rattle.dns_text.specs.Usage.{is_loopback, is_nonexistent}
use Rattle.dns_data.specs.declared.rdata.RData.{RData}
use Rattle.dns_data.specs.declared.rdata.RData.TheVariants as of
use Rattle.dns_records.specs.Record.{Record}
use Rattle.dns_messages.specs.declared.query.Query.{Query}
use Rattle.dns_messages.specs.declared.response_code.ResponseCode.TheVariants.{NXDomain}
use Rattle.stub_client.specs.SpecialNames.{in_class, loopback_answer, loopback_data, name_answer, special_answer}
use Rattle.stub_client.specs.declared.special_names.SpecialAnswer.{SpecialAnswer}
use Rattle.stub_client.specs.declared.special_names.SpecialAnswer.TheVariants.{Ordinary, Loopback, Nothing}

-- the first byte of an IPv4 address, and 127 for data of any other type
abbrev pub first_of : List ℕ → ℕ
first_of [] = 127
first_of (byte ∷ bytes) = byte

abbrev pub first_byte : RData → ℕ
first_byte (of.A a) = first_of a.0.octets
first_byte other = 127

abbrev pub IsLocal : SpecialAnswer → Type 0
IsLocal (Loopback r) = first_byte r.rdata ≡ 127
IsLocal other = Unit {0}

data-is-local : (name : DomainName) (kind : RecordType) → IsLocal (loopback_answer name (loopback_data kind))
data-is-local name types.A = refl
data-is-local name types.AAAA = refl
data-is-local name types.PTR = refl
data-is-local name other = tt

name-is-local : (name : DomainName) (kind : RecordType) → IsLocal (name_answer name kind)
name-is-local name kind =
    cond_both (is_loopback name) (loopback_answer name (loopback_data kind)) _ IsLocal (λ local. data-is-local name kind)
    (λ far. cond_both (is_nonexistent name) (Nothing NXDomain) Ordinary IsLocal (λ none. tt) (λ some. tt))

class-is-local : (c : DNSClass) (answer : SpecialAnswer) → IsLocal answer → IsLocal (in_class c answer)
class-is-local classes.IN answer h = h
class-is-local other answer h = tt

question-is-local : (q : Query) → IsLocal (special_answer q)
question-is-local q =
    class-is-local (class_of (class_number q.query_class)) (name_answer q.name (type_of (type_number q.query_type)))
    (name-is-local q.name (type_of (type_number q.query_type)))

pub local_byte : (q : Query) (r : Record) → special_answer q ≡ Loopback r → first_byte r.rdata ≡ 127
local_byte q r special = subst IsLocal special (question-is-local q)
