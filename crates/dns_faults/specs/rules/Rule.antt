-- The questions that a rule matches.
use Rattle.std.specs.Prelude.{◌==◌, ◌&&◌, nat_lt, Bool, true, length}
use Rattle.dns_wire.specs.codes.RecordType.{type_number}
use Rattle.dns_wire.specs.declared.codes.record_type.RecordType.{RecordType}
use Rattle.dns_names.specs.Name.{DomainName}
use Rattle.dns_names.specs.Compare.{at_or_below, same_labels}
use Rattle.dns_faults.specs.declared.rules.rule.NamePattern.{NamePattern}
use Rattle.dns_faults.specs.declared.rules.rule.NamePattern.TheVariants as names
use Rattle.dns_faults.specs.declared.rules.rule.TypePattern.{TypePattern}
use Rattle.dns_faults.specs.declared.rules.rule.TypePattern.TheVariants as types

-- whether a name is any name, this name, or a name below it, ignoring ASCII case
abbrev pub matches_name : NamePattern → DomainName → Bool
matches_name names.Any name = true
matches_name (names.Exactly own) name = same_labels own.labels name.labels
matches_name (names.Below own) name =
    nat_lt (length own.labels) (length name.labels) && at_or_below own.labels name.labels

-- whether a type is any type, or has this number
abbrev pub matches_type : TypePattern → RecordType → Bool
matches_type types.Any record_type = true
matches_type (types.Exactly own) record_type = type_number own == type_number record_type
