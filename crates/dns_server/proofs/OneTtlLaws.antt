-- All additions of a completed update to a set have one TTL.
use Rattle.std.proofs.Common.{◌≡◌, ◌==◌, ◌∙◌, ℕ, Bool, true, false, cond, not, ◌&&◌, List, [], ◌∷◌, ◌++◌, map, refl, sym, ap, Option, Some, None, unwrap_or, is_none, is_some}
use Rattle.std.specs.Prelude.{IfSome}
use Rattle.std.specs.FinMap as rows_map
use Rattle.std.specs.List.{AllByRecursion}
use Rattle.dns_wire.specs.codes.RecordType.{type_number}
use Rattle.dns_data.specs.rdata.{data_type}
use Rattle.dns_messages.specs.declared.message.Message.{Message}
use Rattle.dns_names.specs.Compare.{same_labels}
use Rattle.dns_names.specs.internal.Compare.{same_labels-equivalence}
use Rattle.dns_records.specs.Record.{Record}
use Rattle.dns_records.specs.Rows.{key_of, set_of, type_of_record}
use Rattle.dns_records.specs.declared.row.Row.{Row}
use Rattle.dns_updates.specs.Records.{is_type}
use Rattle.dns_updates.proofs.UpdateLaws.Codes.{and_both, number_itself, number_same}
use Rattle.dns_zone.specs.Rows.{ZoneContent, AreRowsAt, IsZone}
use Rattle.dns_server.specs.SetTtls.{adds_to, is_addition, last_ttl, restated, restated_rows, set_ttl, ttl_with, with_one_ttl, with_set_ttl, HaveOneTtl}
use Rattle.dns_server.proofs.SetTtlCodeLaws.{all_append, all_mapped, restated_row}

-- an update that has the TTL of the last addition to its set, if it is one
abbrev HasLast : List Record → Record → Type 0
HasLast updates x = is_addition x ≡ true → last_ttl updates x ≡ Some x.ttl

-- ---- records of one set

-- what is added to the set of a record is added to that of another of the same owner and type
record AreOfOneSet (r s : Record) : Type 0 where
  pub owner : (u : Record) → same_labels r.name.labels u.name.labels ≡ same_labels s.name.labels u.name.labels
  pub number : type_number (type_of_record r) ≡ type_number (type_of_record s)

same_last : (r s : Record) → AreOfOneSet r s → (updates : List Record) → last_ttl updates r ≡ last_ttl updates s
same_last r s same [] = refl
same_last r s same (u ∷ more) = ap (λ o. ttl_with o r u) (same_last r s same more) ∙ by (last_ttl more s)
  where
    by : (o : Option ℕ) → ttl_with o r u ≡ ttl_with o s u
    by (Some t) = refl
    by None = λ i. cond (is_addition u && (same.owner u i && (same.number i == type_number (type_of_record u)))) (Some u.ttl) None

of_one_set : (r s : Record) → adds_to r s ≡ true → AreOfOneSet r s
of_one_set r s e =
    let both = and_both (same_labels r.name.labels s.name.labels) (is_type (type_of_record r) (type_of_record s))
    (and_both (is_addition s) (same_labels r.name.labels s.name.labels && is_type (type_of_record r) (type_of_record s)) e).1 in
    record {
      owner = λ u. same_labels-equivalence.congr r.name.labels s.name.labels u.name.labels both.0;
      number = number_same (type_number (type_of_record r)) (type_number (type_of_record s)) both.1;
    }

-- ---- one more update, in front

still_last : (x u : Record) (more : List Record) → HasLast more x → HasLast (u ∷ more) x
still_last x u more known e = ap (λ o. ttl_with o x u) (known e)

all_still : (u : Record) (more xs : List Record) → AllByRecursion (HasLast more) xs → AllByRecursion (HasLast (u ∷ more)) xs
all_still u more [] all = tt
all_still u more (x ∷ xs) all = (still_last x u more all.0, all_still u more xs all.1)

-- the last addition to a set, and what has its owner, its type and its TTL
is_last : (x u : Record) (more : List Record) → is_addition u ≡ true → last_ttl more u ≡ None → AreOfOneSet x u → x.ttl ≡ u.ttl → HasLast (u ∷ more) x
is_last x u more added none same ttl e =
    ap (λ o. ttl_with o x u) (same_last x u same more ∙ none)
    ∙ ap (λ b. cond b (Some u.ttl) None) (λ i. added i && ((same.owner u ∙ same_labels-equivalence.refl u.name.labels) i && (ap (λ n. n == type_number (type_of_record u)) same.number ∙ number_itself (type_number (type_of_record u))) i))
    ∙ ap Some (sym ttl)

-- ---- the records of a zone

restated_last : (u : Record) (more : List Record) → is_addition u ≡ true → last_ttl more u ≡ None → (rows : List Row)
    → AllByRecursion (λ (row : Row). type_number (data_type row.rdata) ≡ type_number (type_of_record u)) rows → AllByRecursion (λ row. HasLast (u ∷ more) (restated_row u row)) rows
restated_last u more added none [] typed = tt
restated_last u more added none (row ∷ rows) typed =
    (is_last (restated_row u row) u more added none (record { owner = λ r. refl; number = typed.0 }) refl, restated_last u more added none rows typed.1)

is_none_of : (o : Option ℕ) → is_none o ≡ true → o ≡ None
is_none_of None e = refl
is_none_of (Some t) e = absurd cc

restated_have : (zone : ZoneContent) → IsZone zone → (updates : List Record) → AllByRecursion (HasLast updates) (restated zone.rows updates)
restated_have zone is [] = tt
restated_have zone is (u ∷ more) =
    all_append (HasLast (u ∷ more)) (restated zone.rows more) (cond (is_addition u && is_none (last_ttl more u)) (restated_rows u (set_of zone.rows u)) [])
    (all_still u more (restated zone.rows more) (restated_have zone is more)) (by (is_addition u && is_none (last_ttl more u)) refl)
  where
    there : is_addition u ≡ true → last_ttl more u ≡ None → (o : Option (List Row)) → IfSome o (AreRowsAt zone.origin (key_of u)) → AllByRecursion (HasLast (u ∷ more)) (restated_rows u (unwrap_or o []))
    there added none None are = tt
    there added none (Some rows) are =
        all_mapped (HasLast (u ∷ more)) (restated_row u) (λ (row : Row). not (row.ttl == u.ttl)) rows (restated_last u more added none rows are.of_type)

    by : (b : Bool) → (is_addition u && is_none (last_ttl more u)) ≡ b → AllByRecursion (HasLast (u ∷ more)) (cond b (restated_rows u (set_of zone.rows u)) [])
    by true e =
        let both = and_both (is_addition u) (is_none (last_ttl more u)) e in
        there both.0 (is_none_of (last_ttl more u) both.1) (rows_map.get zone.rows (key_of u)) (is.rows (key_of u))
    by false e = tt

-- ---- the updates themselves

-- an addition that others or itself follow
abbrev IsFollowed : List Record → Record → Type 0
IsFollowed updates x = is_addition x ≡ true → is_some (last_ttl updates x) ≡ true

followed_more : (x u : Record) (more : List Record) → IsFollowed more x → IsFollowed (u ∷ more) x
followed_more x u more known e = by (last_ttl more x) (known e)
  where
    by : (o : Option ℕ) → is_some o ≡ true → is_some (ttl_with o x u) ≡ true
    by (Some t) f = refl
    by None f = absurd cc

all_followed_more : (u : Record) (more xs : List Record) → AllByRecursion (IsFollowed more) xs → AllByRecursion (IsFollowed (u ∷ more)) xs
all_followed_more u more [] all = tt
all_followed_more u more (x ∷ xs) all = (followed_more x u more all.0, all_followed_more u more xs all.1)

itself : (u : Record) (more : List Record) → IsFollowed (u ∷ more) u
itself u more e = by (last_ttl more u)
  where
    by : (o : Option ℕ) → is_some (ttl_with o u u) ≡ true
    by (Some t) = refl
    by None = ap (λ b. is_some (cond b (Some u.ttl) None)) (λ i. e i && (same_labels-equivalence.refl u.name.labels i && number_itself (type_number (type_of_record u)) i))

all_followed : (updates : List Record) → AllByRecursion (IsFollowed updates) updates
all_followed [] = tt
all_followed (u ∷ more) = (itself u more, all_followed_more u more more (all_followed more))

set_last : (updates : List Record) (x : Record) → IsFollowed updates x → is_addition x ≡ true → last_ttl updates x ≡ Some (set_ttl updates x)
set_last updates x known e = by (last_ttl updates x) (known e) ∙ ap (λ b. Some (cond b (unwrap_or (last_ttl updates x) x.ttl) x.ttl)) (sym e)
  where
    by : (o : Option ℕ) → is_some o ≡ true → o ≡ Some (unwrap_or o x.ttl)
    by (Some t) f = refl
    by None f = absurd cc

all_set : (updates xs : List Record) → AllByRecursion (IsFollowed updates) xs → AllByRecursion (HasLast updates) (map (with_set_ttl updates) xs)
all_set updates [] all = tt
all_set updates (x ∷ xs) all =
    ((λ e. sym (same_last x (with_set_ttl updates x) (record { owner = λ u. refl; number = refl }) updates) ∙ set_last updates x all.0 e), all_set updates xs all.1)

-- ---- all of them

have_one : (updates : List Record) (r : Record) → HasLast updates r → (xs : List Record) → AllByRecursion (HasLast updates) xs
    → AllByRecursion (λ s. is_addition r ≡ true → adds_to r s ≡ true → r.ttl ≡ s.ttl) xs
have_one updates r known [] all = tt
have_one updates r known (s ∷ xs) all = (
  (λ added adds.
      let one : Some r.ttl ≡ Some s.ttl = sym (known added) ∙ same_last r s (of_one_set r s adds) updates
      ∙ all.0 (and_both (is_addition s) (same_labels r.name.labels s.name.labels && is_type (type_of_record r) (type_of_record s)) adds).0 in
      cc),
  have_one updates r known xs all.1,
)

all_one : (updates xs ys : List Record) → AllByRecursion (HasLast updates) xs → AllByRecursion (HasLast updates) ys
    → AllByRecursion (λ r. AllByRecursion (λ s. is_addition r ≡ true → adds_to r s ≡ true → r.ttl ≡ s.ttl) ys) xs
all_one updates [] ys all others = tt
all_one updates (x ∷ xs) ys all others = (have_one updates x all.0 ys others, all_one updates xs ys all.1 others)

pub one_ttl : (zone : ZoneContent) (m : Message) → IsZone zone → HaveOneTtl (with_one_ttl zone.rows m).authorities
one_ttl zone m is =
    let all : AllByRecursion (HasLast m.authorities) (restated zone.rows m.authorities ++ map (with_set_ttl m.authorities) m.authorities) =
    all_append (HasLast m.authorities) (restated zone.rows m.authorities) (map (with_set_ttl m.authorities) m.authorities) (restated_have zone is m.authorities)
    (all_set m.authorities m.authorities (all_followed m.authorities)) in
    all_one m.authorities (restated zone.rows m.authorities ++ map (with_set_ttl m.authorities) m.authorities) (restated zone.rows m.authorities ++ map (with_set_ttl m.authorities) m.authorities) all all
