use Rattle.std.proofs.Common.{◌≡◌, drop, find}
use Rattle.std.specs.Str.{bytes_eq}
use Rattle.dns_faults.specs.table.Keyword.{keyword_text}
use Rattle.dns_faults.proofs.table.keyword.find_keyword.Given as goal

-- none of the keywords before the index is it
abbrev pub invariant-loop-keyword : goal.invariant-loop-keyword
invariant-loop-keyword l =
    find (λ keyword. bytes_eq (keyword_text keyword) l.word) (drop l.keyword-index l.keywords) ≡ find (λ keyword. bytes_eq (keyword_text keyword) l.word) l.keywords
