-- The lengths of questions and of records without compression.
use Rattle.std.proofs.Common.{◌≡◌, ℕ, suc, ◌+◌, ◌<◌, List, [], ◌∷◌, length, drop, get_or, Option, Some, None, sym, ap, ◌∙◌, arith}
use Rattle.std.specs.Prelude.{IfSome}
use Rattle.std.proofs.Math.Seq.{drop-cons}
use Rattle.dns_wire.specs.Name.{name_len}
use Rattle.dns_wire.specs.Encodable.{Piece, Position, form}
use Rattle.dns_data.specs.rdata.{data_kinds, data_values, whole_len}
use Rattle.dns_data.proofs.LengthLaws.{form-whole, values_len-pieces}
use Rattle.dns_records.specs.Record.{Record, record_pieces}
use Rattle.dns_messages.specs.declared.edns.Edns.{Edns}
use Rattle.dns_messages.specs.declared.query.Query.{Query}
use Rattle.dns_messages.specs.Cut.{edns_item, items_len, listed, query_item, uncompressed_position}
use Rattle.dns_messages.specs.Edns.{opt_record}
use Rattle.dns_message_bytes.specs.soundness.Size.{record_len}

pub query-len : (q : Query) → length (form uncompressed_position (query_item q uncompressed_position)) ≡ name_len q.name.labels + 4
query-len q = omega (arith, form-whole (query_item q uncompressed_position))

pub record-len : (r : Record) → record_len r ≡ (name_len r.name.labels + 10) + whole_len r.rdata
record-len r =
    omega (arith, form-whole (record_pieces uncompressed_position r), values_len-pieces (data_kinds r.rdata) (data_values r.rdata))

-- the length of the OPT record of a message that has one
pub edns-len : (found : Option Edns) (e : Edns) → found ≡ Some e → items_len edns_item (listed found) ≡ 11 + whole_len (opt_record e).rdata
edns-len found e is =
    let all : items_len edns_item (listed found) ≡ items_len edns_item (e ∷ []) = ap (λ (x : Option Edns). items_len edns_item (listed x)) is in
    omega (arith, all, record-len (opt_record e))

-- the length of the items from an index on, by that of the next
pub items-further : {X : Type 0} (pieces : X → Position → List Piece) (xs : List X) (i : ℕ) (x d : X) → x ≡ get_or xs i d → i < length xs
    → items_len pieces (drop i xs) ≡ length (form uncompressed_position (pieces x uncompressed_position)) + items_len pieces (drop (i + 1) xs)
items-further {X} pieces xs i x d is within =
    let next : suc i ≡ i + 1 = omega arith in
    let here : drop i xs ≡ x ∷ drop (i + 1) xs =
    drop-cons xs i d within ∙ ap (λ (k : ℕ). get_or xs i d ∷ drop k xs) next ∙ ap (λ (y : X). y ∷ drop (i + 1) xs) (sym is) in
    ap (items_len pieces) here

-- what is left after two lengths
pub left-after : (found : Option ℕ) (len left all whole : ℕ) → IfSome found (λ rest. rest + len ≡ left) → left + all ≡ whole + len
    → IfSome found (λ rest. rest + all ≡ whole)
left-after None len left all whole some same = tt
left-after (Some rest) len left all whole some same = omega (arith, some, same)
