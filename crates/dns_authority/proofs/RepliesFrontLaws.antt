-- Header and question fit every datagram.
use Rattle.std.proofs.Common.{◌≤◌, ◌+◌, ℕ, List, [], ◌∷◌, length, arith}
use Rattle.std.specs.List.{AllByRecursion}
use Rattle.dns_wire.specs.Name.{name_len}
use Rattle.dns_wire.specs.Encodable.{Plain, reach, start_position}
use Rattle.dns_wire.specs.Items.{all_pieces}
use Rattle.dns_wire.proofs.SectionLaws.{reach-most}
use Rattle.dns_messages.specs.declared.query.Query.{Query}
use Rattle.dns_messages.specs.Cut.{header_end, query_item, twelve_zeros}

-- One question at most, after the header: it has at most 271 bytes, and an OPT record fits beside it.
pub front_fits : (queries : List Query) → length queries ≤ 1 → AllByRecursion (λ q. name_len q.name.labels ≤ 255) queries
    → reach start_position (Plain twelve_zeros ∷ all_pieces query_item header_end queries) ≤ 500
front_fits [] few short = omega (arith, reach-most start_position (Plain twelve_zeros ∷ all_pieces query_item header_end []))
front_fits (q ∷ []) few short = omega (arith, reach-most start_position (Plain twelve_zeros ∷ all_pieces query_item header_end (q ∷ [])), short.0)
front_fits (q ∷ r ∷ more) few short = absurd (omega arith)

pub within : (reached limit : ℕ) → reached ≤ 500 → 512 ≤ limit → reached + 11 ≤ limit
within reached limit fits least = omega arith
