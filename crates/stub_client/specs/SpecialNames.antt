-- The answers of special-use names (RFC 6303, RFC 6761, RFC 7686).
use Rattle.std.specs.Prelude.{if◌then◌else◌, [], ◌∷◌, Option, Some, None}
use Rattle.dns_wire.specs.codes.DNSClass.{class_number, class_of}
use Rattle.dns_wire.specs.codes.RecordType.{type_number, type_of}
use Rattle.dns_wire.specs.declared.codes.record_type.RecordType.{RecordType}
use Rattle.dns_wire.specs.declared.codes.record_type.RecordType.TheVariants as types
use Rattle.dns_wire.specs.declared.codes.dns_class.DNSClass.{DNSClass}
use Rattle.dns_wire.specs.declared.codes.dns_class.DNSClass.TheVariants as classes
use Rattle.dns_names.specs.Name.{DomainName}
use Rattle.dns_text.specs.Usage.{is_loopback, is_nonexistent, zone_name, localhost_zone}
use Rattle.dns_data.specs.declared.rdata.RData.{RData}
use Rattle.dns_data.specs.declared.rdata.RData.TheVariants as of
use Rattle.dns_records.specs.Record.{Record}
use Rattle.dns_messages.specs.declared.query.Query.{Query}
use Rattle.dns_messages.specs.declared.response_code.ResponseCode.TheVariants.{NoError, NXDomain}
use Rattle.stub_lookup.specs.Lookup.{max_ttl}
use Rattle.stub_client.specs.declared.special_names.SpecialAnswer.{SpecialAnswer}
use Rattle.stub_client.specs.declared.special_names.SpecialAnswer.TheVariants.{Ordinary, Loopback, Nothing}

-- the loopback addresses (RFC 1122 section 3.2.1.3, RFC 4291 section 2.5.3), and the name of the local host
abbrev pub loopback_data : RecordType → Option RData
loopback_data types.A = Some (of.A (record { 0 = record { octets = 127 ∷ 0 ∷ 0 ∷ 1 ∷ [] } }))
loopback_data types.AAAA = Some (of.AAAA (record { 0 = record { segments = 0 ∷ 0 ∷ 0 ∷ 0 ∷ 0 ∷ 0 ∷ 0 ∷ 1 ∷ [] } }))
loopback_data types.PTR = Some (of.PTR (record { 0 = zone_name localhost_zone }))
loopback_data other = None

-- a record of the local host, with a TTL of a day
abbrev pub loopback_record : DomainName → RData → Record
loopback_record name rdata = record { name = name; dns_class = classes.IN; ttl = max_ttl; rdata = rdata }

-- a name of the local host exists, with records of these types alone
abbrev pub loopback_answer : DomainName → Option RData → SpecialAnswer
loopback_answer name None = Nothing NoError
loopback_answer name (Some rdata) = Loopback (loopback_record name rdata)

-- How a name is answered in the class of the Internet: with a record of the local host, or with no records, or as any other name
-- (RFC 6761 section 6).
abbrev pub name_answer : DomainName → RecordType → SpecialAnswer
name_answer name record_type =
    if is_loopback name then loopback_answer name (loopback_data record_type)
    else if is_nonexistent name then Nothing NXDomain
    else Ordinary

-- in other classes than that of the Internet no name is special
abbrev pub in_class : DNSClass → SpecialAnswer → SpecialAnswer
in_class classes.IN answer = answer
in_class other answer = Ordinary

-- a question is answered with a record of the local host
abbrev pub IsLoopback : SpecialAnswer → Type 0
IsLoopback (Loopback r) = Unit {0}
IsLoopback answer = ⊥

-- How a question is answered without cache and servers, if it is. Its type and its class are taken by their numbers.
abbrev pub special_answer : Query → SpecialAnswer
special_answer q =
    in_class (class_of (class_number q.query_class)) (name_answer q.name (type_of (type_number q.query_type)))
