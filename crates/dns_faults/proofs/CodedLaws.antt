-- Replies that have a response code and nothing else.
use Rattle.std.proofs.Common.{◌≡◌, ◌≤◌, List, [], ◌∷◌, sym, subst, arith}
use Rattle.dns_wire.specs.Name.{name_len}
use Rattle.dns_wire.specs.Encodable.{Plain, reach, start_position}
use Rattle.dns_wire.specs.Items.{all_pieces}
use Rattle.dns_wire.proofs.SectionLaws.{reach-most}
use Rattle.dns_messages.specs.declared.query.Query.{Query}
use Rattle.dns_messages.specs.Cut.{header_end, query_item, twelve_zeros}

-- header and one question fit in 512 bytes
pub front-short : (qs : List Query) (q : Query) → qs ≡ q ∷ [] → name_len q.name.labels ≤ 255
    → reach start_position (Plain twelve_zeros ∷ all_pieces query_item header_end qs) ≤ 512
front-short qs q e h =
    subst (λ (xs : List Query). reach start_position (Plain twelve_zeros ∷ all_pieces query_item header_end xs) ≤ 512) (sym e)
    (omega (arith, reach-most start_position (Plain twelve_zeros ∷ all_pieces query_item header_end (q ∷ [])), h))
