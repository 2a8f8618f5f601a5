-- The fields of a script's lines: moments, names, types and hosts.
use Rattle.std.specs.Prelude.{◌≡◌, ◌||◌, ◌⊎◌, if◌then◌else◌, is_some, is_ok, Bool, List, ℕ, Option, Some, None, Result, Ok, Err}
use Rattle.std.specs.Net.Grammar.{IsIpText}
use Rattle.std.specs.Net.Reader.{read_ipv4, read_ipv6, whole_value}
use Rattle.std.specs.declared.net.ip_addr.IpAddr.{IpAddr}
use Rattle.dns_wire.specs.codes.Decimal.{decimal_up_to}
use Rattle.dns_wire.specs.declared.codes.record_type.RecordType.{RecordType}
use Rattle.dns_names.specs.Name.{DomainName}
use Rattle.dns_names.specs.Parse.{name_of_text}
use Rattle.dns_names.specs.declared.error.ParseError.{ParseError}
use Rattle.dns_zone_file.specs.declared.types.Types.{Types}
use Rattle.update_text.specs.TypeWord.{type_named}

-- a moment, in seconds: a number of 64 bits
abbrev pub moment : List ℕ → Option ℕ
moment text = decimal_up_to 18446744073709551615 text

-- a name, if the text is one
abbrev pub name_if_ok : Result DomainName ParseError → Option DomainName
name_if_ok (Ok name) = Some name
name_if_ok (Err error) = None

-- a name, which may be relative
unfoldable pub name_of : List ℕ → Option DomainName
name_of text = name_if_ok (name_of_text text)

-- The text is that of an address: four decimal numbers, or hexadecimal groups.
unfoldable pub is_address : List ℕ → Bool
is_address text = is_some (whole_value (read_ipv4 text)) || is_some (whole_value (read_ipv6 text))

-- a host, as it is written
unfoldable pub host_of : List ℕ → Option (List ℕ)
host_of text = if is_address text || is_ok (name_of_text text) then Some text else None

-- the text spells an address or a name
abbrev pub SpellsHost : List ℕ → Type 0
SpellsHost text = ((address : IpAddr) × IsIpText text address) ⊎ ((name : DomainName) × (name_of_text text ≡ Ok name))

-- a name and a type
abbrev pub question_if : Option DomainName → Option RecordType → Option (DomainName × RecordType)
question_if (Some name) (Some kind) = Some (name, kind)
question_if name kind = None

-- the words of a name and a type, which zone files of these types may have
unfoldable pub question_of : Types → List ℕ → List ℕ → Option (DomainName × RecordType)
question_of types name kind = question_if (name_of name) (type_named types kind)
