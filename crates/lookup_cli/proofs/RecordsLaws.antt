-- What is written record by record.
use Rattle.std.proofs.Common.{◌≡◌, ◌∙◌, ◌<◌, ◌≤◌, ◌+◌, ◌-◌, ◌++◌, ℕ, suc, List, [], ◌∷◌, length, take, drop, get_or, flat_map, ap, sym, arith}
use Rattle.std.proofs.lemmas.List.{take_all, take_more, flat_map_more}
use Rattle.dns_records.specs.Record.{Record}
use Rattle.lookup_cli.specs.answers.JsonRecords.{json_record, json_records, other_record}

-- the text of one more item follows that of those before it
pub one_more : {X : Type 0} (text : X → List ℕ) (items : List X) (i : ℕ) (x : X) → i < length items → get_or items i x ≡ x
    → flat_map text (take i items) ++ text x ≡ flat_map text (take (i + 1) items)
one_more text items i x within is =
    flat_map_more text [] (take i items) x
    ∙ ap (flat_map text) (sym (take_more items i x within ∙ ap (λ y. take i items ++ y ∷ []) is))

-- the records of a slice are the first one and the others
pub first_and_others : (records : List Record) (first : Record) → 1 ≤ length records → first ≡ get_or records 0 first
    → json_record first ++ flat_map other_record (take (length records - 1) (drop 1 records)) ≡ json_records records
first_and_others [] first some is = absurd (omega (arith, some))
first_and_others (r ∷ records) first some is =
    let same : take (suc (length records) - 1) records ≡ records = take_all (suc (length records) - 1) records (omega arith) in
    ap (λ x. json_record x ++ flat_map other_record (take (suc (length records) - 1) records)) is
    ∙ ap (λ (l : List Record). json_record r ++ flat_map other_record l) same
