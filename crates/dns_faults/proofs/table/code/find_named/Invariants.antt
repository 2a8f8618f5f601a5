use Rattle.std.proofs.Common.{◌≡◌, drop, find}
use Rattle.std.specs.Str.{str_eq_ignore_ascii_case}
use Rattle.dns_messages.specs.ResponseCode.{code_name}
use Rattle.dns_faults.proofs.table.code.find_named.Given as goal

-- none of the codes before the index is it
abbrev pub invariant-loop-code : goal.invariant-loop-code
invariant-loop-code l =
    find (λ code. str_eq_ignore_ascii_case (code_name code) l.word) (drop l.code-index l.codes) ≡ find (λ code. str_eq_ignore_ascii_case (code_name code) l.word) l.codes
