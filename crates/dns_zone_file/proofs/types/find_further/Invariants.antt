use Rattle.std.proofs.Common.{◌≡◌, drop, find}
use Rattle.std.specs.Str.{str_eq_ignore_ascii_case}
use Rattle.dns_zone_file.specs.Types.{further_name}
use Rattle.dns_zone_file.proofs.types.find_further.Given as goal

-- none of the numbers before the index is it
abbrev pub invariant-loop-number : goal.invariant-loop-number
invariant-loop-number l =
    find (λ number. str_eq_ignore_ascii_case (further_name number) l.text) (drop l.number-index l.numbers) ≡ find (λ number. str_eq_ignore_ascii_case (further_name number) l.text) l.numbers
