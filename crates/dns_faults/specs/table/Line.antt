-- Rules from the words of a line.
use Rattle.std.specs.Prelude.{◌==◌, if◌then◌else◌, true, List, [], ◌∷◌, ℕ, length, Option, Some, None, Result, Ok, Err, option_map}
use Rattle.std.specs.Str.{bytes_eq}
use Rattle.dns_wire.specs.codes.CodeText.{type_of_text}
use Rattle.dns_names.specs.Name.{DomainName}
use Rattle.dns_names.specs.Build.{base_name, star}
use Rattle.dns_names.specs.Labels.{begins_with_star}
use Rattle.dns_names.specs.Parse.{name_of_text}
use Rattle.dns_faults.specs.declared.rules.rule.NamePattern.{NamePattern}
use Rattle.dns_faults.specs.declared.rules.rule.NamePattern.TheVariants as names
use Rattle.dns_faults.specs.declared.rules.rule.TypePattern.{TypePattern}
use Rattle.dns_faults.specs.declared.rules.rule.TypePattern.TheVariants as types
use Rattle.dns_faults.specs.declared.rules.rule.Rule.{Rule}
use Rattle.dns_faults.specs.declared.table.actions.Actions.{Actions}
use Rattle.dns_faults.specs.declared.table.error.RuleFault.{RuleFault}
use Rattle.dns_faults.specs.declared.table.error.RuleFault.TheVariants as faults
use Rattle.dns_faults.specs.table.Actions.{actions_of}

-- The names that a name stands for: with `*` as its first label, those below the rest, and `*` alone is any name.
abbrev pub names_of : DomainName → NamePattern
names_of name =
    if begins_with_star name.labels then (if length (base_name name).labels == 0 then names.Any else names.Below (base_name name))
    else names.Exactly (record name { is_fqdn = true })

-- the names of a word, if it spells a name
abbrev pub names_in : List ℕ → Option NamePattern
names_in word = elim (name_of_text word) [ Ok name ↦ Some (names_of name) | Err error ↦ None ]

-- the types of a word: `*` is any, and others are mnemonics in any case or numbers after TYPE (RFC 3597 section 5)
abbrev pub types_in : List ℕ → Option TypePattern
types_in word = if bytes_eq word star then Some types.Any else option_map types.Exactly (type_of_text word)

-- a rule with these names, types and actions
abbrev pub rule_with : ℕ → NamePattern → TypePattern → Result Actions RuleFault → Result Rule RuleFault
rule_with line p q (Ok a) = Ok (record { line = line; names = p; types = q; fault = a.fault; times = a.times })
rule_with line p q (Err fault) = Err fault

-- the rule of the words after a name and a type
abbrev pub rule_after_type : ℕ → NamePattern → Option TypePattern → List (List ℕ) → Result Rule RuleFault
rule_after_type line p None words = Err faults.Type
rule_after_type line p (Some q) words = rule_with line p q (actions_of words)

-- the rule of the words after a name
abbrev pub rule_after_name : ℕ → Option NamePattern → List (List ℕ) → Result Rule RuleFault
rule_after_name line None words = Err faults.Name
rule_after_name line (Some p) [] = Err faults.NoType
rule_after_name line (Some p) (w ∷ ws) = rule_after_type line p (types_in w) ws

-- the rule of the words of a line: a name, a type, and actions
abbrev pub rule_in : ℕ → List (List ℕ) → Result Rule RuleFault
rule_in line [] = Err faults.Name
rule_in line (w ∷ ws) = rule_after_name line (names_in w) ws
