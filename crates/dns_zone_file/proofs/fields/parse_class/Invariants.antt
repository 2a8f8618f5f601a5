use Rattle.std.proofs.Common.{◌≡◌, drop, find}
use Rattle.std.specs.Str.{str_eq_ignore_ascii_case}
use Rattle.dns_wire.specs.codes.CodeText.{class_name}
use Rattle.dns_zone_file.specs.Fields.{zone_class}
use Rattle.dns_zone_file.proofs.fields.parse_class.Given as goal

-- none of the classes before the index is it
abbrev pub invariant-loop-class : goal.invariant-loop-class
invariant-loop-class l =
    find (λ class. str_eq_ignore_ascii_case (class_name class) l.text) (drop l.class-index l.class-items) ≡ zone_class l.text
