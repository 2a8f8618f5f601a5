-- Records that are taken from a source, up to the first that has no room.
use Rattle.std.proofs.Common.{◌≡◌, ◌<◌, ◌≤◌, ◌+◌, ◌-◌, ◌∙◌, ℕ, Bool, true, false, cond, ltb, List, [], ◌∷◌, ◌++◌, map, length, refl, sym, ap, arith, length-append, Option, Some, None, option_map}
use Rattle.std.proofs.lemmas.Bool.{lt-ltb, le-ltb, ltb-false}
use Rattle.std.proofs.lemmas.List.{append_assoc, append-nil, map-append}
use Rattle.dns_messages.specs.Cut.{items_len, listed, record_item}
use Rattle.dns_records.specs.Record.{Record}
use Rattle.dns_message_bytes.specs.soundness.Size.{record_len}
use Rattle.dns_message_bytes.proofs.SizeLaws.{record-len}
use Rattle.dns_transfers.specs.declared.lent_record.LentRecord.{LentRecord}
use Rattle.dns_transfers.specs.declared.records.Records.{Records}
use Rattle.dns_transfers.specs.Records.{lent_record, left_of, front, IsNext, IsPeeked}

-- ---- the next record

abbrev known : Option LentRecord → List Record
known o = listed (option_map {T = LentRecord} {U = Record} lent_record o)

-- what is left if the next record is taken from the source
pub first_taken : {S : Type 0} (left : S → List Record) (old new : Records S) (next : Option LentRecord) → old.next ≡ None → new.next ≡ next → IsNext (left old.rest) next (left new.rest) → IsPeeked left old next new
first_taken {S} left old new None none is e =
    let one : left_of left old ≡ left old.rest = ap (λ (o : Option LentRecord). known o ++ left old.rest) none in
    let two : left_of left new ≡ left new.rest = ap (λ (o : Option LentRecord). known o ++ left new.rest) is in
    (one ∙ e.0, two ∙ e.1)
first_taken {S} left old new (Some r) none is e =
    let one : left_of left old ≡ left old.rest = ap (λ (o : Option LentRecord). known o ++ left old.rest) none in
    let two : left_of left new ≡ lent_record r ∷ left new.rest = ap (λ (o : Option LentRecord). known o ++ left new.rest) is in
    (is, two ∙ sym e ∙ sym one)

-- what is left if it was known
pub known_before : {S : Type 0} (left : S → List Record) (old : Records S) (next : Option LentRecord) → (old.next ≡ None → ⊥) → old.next ≡ next → IsPeeked left old next old
known_before left old None some e = absurd (some e)
known_before left old (Some r) some e = (e, refl)

-- what is left with and without the next record
pub known_next : {S : Type 0} (left : S → List Record) (s : Records S) (r : LentRecord) → s.next ≡ Some r → left_of left s ≡ lent_record r ∷ left s.rest
known_next {S} left s r e = ap (λ (o : Option LentRecord). known o ++ left s.rest) e

-- ---- the front

front_stops : (room : ℕ) (r : Record) (rs : List Record) → room < record_len r → front room (r ∷ rs) ≡ []
front_stops room r rs long = ap (λ (b : Bool). cond b [] (r ∷ front (room - record_len r) rs)) (lt-ltb room (record_len r) long)

front_goes_on : (room left : ℕ) (r : Record) (rs : List Record) → left + record_len r ≡ room → front room (r ∷ rs) ≡ r ∷ front left rs
front_goes_on room left r rs e =
    let fits : ltb room (record_len r) ≡ false = le-ltb room (record_len r) (omega (arith, e)) in
    let rest : room - record_len r ≡ left = omega (arith, e) in
    ap (λ (b : Bool). cond b [] (r ∷ front (room - record_len r) rs)) fits ∙ ap (λ (n : ℕ). r ∷ front n rs) rest

-- the records of the front have room
pub front_within : (room : ℕ) (rs : List Record) → items_len record_item (front room rs) ≤ room
front_within room [] = omega arith
front_within room (r ∷ rs) = at (ltb room (record_len r)) refl (front_within (room - record_len r) rs)
  where
    at : (b : Bool) → ltb room (record_len r) ≡ b → items_len record_item (front (room - record_len r) rs) ≤ room - record_len r → items_len record_item (cond b [] (r ∷ front (room - record_len r) rs)) ≤ room
    at true e h = omega arith
    at false e h = omega (arith, h, ltb-false room (record_len r) e)

-- a front with a record has room
pub room_positive : (room : ℕ) (rs : List Record) → 0 < length (front room rs) → 0 < room
room_positive room [] some = absurd (omega (arith, some))
room_positive room (r ∷ rs) some = at (ltb room (record_len r)) refl some
  where
    at : (b : Bool) → ltb room (record_len r) ≡ b → 0 < length (cond b [] (r ∷ front (room - record_len r) rs)) → 0 < room
    at true e h = absurd (omega (arith, h))
    at false e h = omega (arith, record-len r, ltb-false room (record_len r) e)

-- ---- records that are taken one after another

-- some records are taken, so much room is left, and so are these records
pub record Takes (all : List Record) (room : ℕ) (taken : List LentRecord) (left : ℕ) (rest : List Record) : Type 0 where
  pub joined : map lent_record taken ++ rest ≡ all
  pub fronts : map lent_record taken ++ front left rest ≡ front room all

pub takes_none : (all : List Record) (room : ℕ) → Takes all room [] room all
takes_none all room = record { joined = refl; fronts = refl }

pub takes_one : (all rest new : List Record) (room left after : ℕ) (taken items : List LentRecord) (r : LentRecord) → Takes all room taken left rest → rest ≡ lent_record r ∷ new → after + record_len (lent_record r) ≡ left
    → items ≡ taken ++ r ∷ [] → Takes all room items after new
takes_one all rest new room left after taken items r t here fits pushed =
    let one : map lent_record items ≡ map lent_record taken ++ lent_record r ∷ [] = ap (map lent_record) pushed ∙ map-append lent_record taken (r ∷ []) in
    record {
      joined = ap (λ (l : List Record). l ++ new) one ∙ append_assoc (map lent_record taken) (lent_record r ∷ []) new ∙ ap (λ (l : List Record). map lent_record taken ++ l) (sym here) ∙ t.joined;
      fronts = ap (λ (l : List Record). l ++ front after new) one ∙ append_assoc (map lent_record taken) (lent_record r ∷ []) (front after new)
          ∙ ap (λ (l : List Record). map lent_record taken ++ l) (sym (ap (front left) here ∙ front_goes_on left after (lent_record r) new fits)) ∙ t.fronts;
    }

-- a record that has room is taken
pub takes_some : (all rest new : List Record) (room left after : ℕ) (taken : List LentRecord) (r : LentRecord) → Takes all room taken left rest → rest ≡ lent_record r ∷ new → after + record_len (lent_record r) ≡ left
    → front room all ≡ [] → ⊥
takes_some all rest new room left after taken r t here fits none =
    let more : front left rest ≡ lent_record r ∷ front after new = ap (front left) here ∙ front_goes_on left after (lent_record r) new fits in
    let some : map lent_record taken ++ lent_record r ∷ front after new ≡ [] = ap (λ (l : List Record). map lent_record taken ++ l) (sym more) ∙ t.fronts ∙ none in
    absurd (omega (arith, ap length some, length-append (map lent_record taken) (lent_record r ∷ front after new)))

-- the next record has no room
pub takes_no_more : (all rest more : List Record) (room left : ℕ) (taken : List LentRecord) (r : Record) → Takes all room taken left rest → rest ≡ r ∷ more → left < record_len r → map lent_record taken ≡ front room all
takes_no_more all rest more room left taken r t e long =
    sym (append-nil (map lent_record taken)) ∙ ap (λ (l : List Record). map lent_record taken ++ l) (sym (ap (front left) e ∙ front_stops left r more long)) ∙ t.fronts

-- no record is left
pub takes_all : (all rest : List Record) (room left : ℕ) (taken : List LentRecord) → Takes all room taken left rest → rest ≡ [] → map lent_record taken ≡ front room all
takes_all all rest room left taken t e = sym (append-nil (map lent_record taken)) ∙ ap (λ (l : List Record). map lent_record taken ++ front left l) (sym e) ∙ t.fronts
