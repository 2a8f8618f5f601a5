-- Tables of rules, and the rule that decides.
use Rattle.std.specs.Prelude.{◌+◌, ◌&&◌, min, nat_lt, if◌then◌else◌, Bool, true, List, [], ◌∷◌, ℕ, Option, Some, None}
use Rattle.dns_wire.specs.declared.codes.record_type.RecordType.{RecordType}
use Rattle.dns_names.specs.Name.{DomainName}
use Rattle.dns_faults.specs.declared.rules.fault.Transport.{Transport}
use Rattle.dns_faults.specs.declared.rules.rule.Rule.{Rule}
use Rattle.dns_faults.specs.declared.rules.table.CountedRule.{CountedRule}
use Rattle.dns_faults.specs.declared.rules.table.Decision.{Decision}
use Rattle.dns_faults.specs.rules.Fault.{has_action, on_transport}
use Rattle.dns_faults.specs.rules.Rule.{matches_name, matches_type}

-- a rule that has not decided yet
abbrev pub fresh : Rule → CountedRule
fresh rule = record { rule = rule; count = 0 }

-- whether a count is below the number of times, if there is one
abbrev pub is_left : Option ℕ → ℕ → Bool
is_left None count = true
is_left (Some times) count = nat_lt count times

-- whether a rule is not used up
abbrev pub has_uses_left : CountedRule → Bool
has_uses_left r = is_left r.rule.times r.count

-- A rule applies to a question on a transport if it is not used up, matches the question, and has an action there.
abbrev pub applies : DomainName → RecordType → Transport → CountedRule → Bool
applies name record_type transport r =
    has_uses_left r && (matches_type r.rule.types record_type
    && (has_action (on_transport transport r.rule.fault) && matches_name r.rule.names name))

-- what a rule decides on a transport
abbrev pub decision_of : Transport → CountedRule → Decision
decision_of transport r = record { fault = on_transport transport r.rule.fault; line = r.rule.line }

-- the rule after it has decided once more; the count has 64 bits, and stops at the greatest number
abbrev pub with_count : CountedRule → CountedRule
with_count r = record r { count = min (r.count + 1) 18446744073709551615 }

-- the rules after the first that applies has decided, by a test whether a rule applies
abbrev pub counted : (CountedRule → Bool) → List CountedRule → List CountedRule
counted test [] = []
counted test (r ∷ rs) = if test r then with_count r ∷ rs else r ∷ counted test rs
