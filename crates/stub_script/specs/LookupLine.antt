-- Lines of lookups: `<at> lookup <name> <type>` and `<at> ip <host>`.
use Rattle.std.specs.Prelude.{List, [], ◌∷◌, ℕ, Option, Some, None}
use Rattle.dns_wire.specs.declared.codes.record_type.RecordType.{RecordType}
use Rattle.dns_names.specs.Name.{DomainName}
use Rattle.dns_zone_file.specs.declared.types.Types.{Types}
use Rattle.stub_script.specs.EventContent.{ActionContent, Lookup, LookupIp}
use Rattle.stub_script.specs.ScriptFields.{host_of, question_of}

-- the lookup of a question, if there is one
abbrev pub lookup_if : Option (DomainName × RecordType) → Option ActionContent
lookup_if (Some (name, kind)) = Some (Lookup name kind)
lookup_if None = None

-- the lookup of a name and a type, by the words after its keyword
abbrev pub lookup_of : Types → List (List ℕ) → Option ActionContent
lookup_of types (name ∷ kind ∷ []) = lookup_if (question_of types name kind)
lookup_of types arguments = None

-- the lookup of a host's addresses, if there is a host
abbrev pub ip_if : Option (List ℕ) → Option ActionContent
ip_if (Some host) = Some (LookupIp host)
ip_if None = None

-- the lookup of a host's addresses, by the words after its keyword
abbrev pub ip_of : List (List ℕ) → Option ActionContent
ip_of (host ∷ []) = ip_if (host_of host)
ip_of arguments = None
