-- Sections, as far as they are read.
use Rattle.std.proofs.Common.{◌≡◌, ◌&&◌, ◌||◌, ◌+◌, ◌-◌, ◌<◌, not, Bool, true, false, ℕ, List, [], ◌∷◌, ◌++◌, length, Option, Some, None, refl, sym, ap, subst, ◌∙◌, arith, length-append}
use Rattle.std.specs.Prelude.{if◌then◌else◌, option_map}
use Rattle.std.specs.List.{filter, find, list_any}
use Rattle.std.specs.Option.{is_some, option_or}
use Rattle.std.proofs.lemmas.List.{append-nil}
use Rattle.std.proofs.lemmas.List.Elements.{filter-append}
use Rattle.std.proofs.lemmas.List.Folds.{find-append}
use Rattle.dns_wire.specs.declared.codes.record_type.RecordType.{RecordType}
use Rattle.dns_wire.specs.declared.codes.record_type.RecordType.TheVariants as types
use Rattle.dns_wire.specs.Decodable.{Follow}
use Rattle.dns_data.specs.rdata.{data_type, is_update_data}
use Rattle.dns_wire.specs.declared.error.DecodeError.{DecodeError}
use Rattle.dns_records.specs.Record.{Record, head_of, ReadsRecord, bad_head, bad_data}
use Rattle.dns_records.specs.internal.Records.{head_same, record_same, record_not_refused}
use Rattle.dns_messages.specs.declared.edns.Edns.{Edns}
use Rattle.dns_messages.specs.declared.section.SectionRecords.{SectionRecords}
use Rattle.dns_messages.specs.Edns.{edns_of}
use Rattle.dns_messages.specs.Section.{Setting, SectionKind, setting_of, is_opt_type, is_tsig_type, is_opt, is_signature, head_fault, record_fault, AreWellPlaced, ReadsSection, RefusesNext, RefusesSection, bad_record_head, out_of_place, bad_record_data, IsPartition, ReadsSectionRecords, with_record}
use Rattle.dns_messages.proofs.FollowLaws.{follow_same, follow_rest, follow_push}
use Rattle.dns_messages.proofs.PlacementLaws.{fault_of_head, opt_first, placed_push, placed_at, unsigned_front, plain_section}

-- ---- bytes decode to one section at most

pub section_same : (bytes : List ℕ) (kind : SectionKind) (place count : ℕ) (xs ys : List Record) (end end' : ℕ) → ReadsSection bytes kind place count xs end → ReadsSection bytes kind place count ys end' → (xs ≡ ys) × (end ≡ end')
section_same bytes kind place count xs ys end end' a b =
    follow_same (ReadsRecord bytes) (record_same bytes) place xs ys end end' (a.count_is ∙ sym b.count_is) a.records b.records

-- ---- a section that is read is not refused

next_not_refused : (bytes : List ℕ) (s : Setting) (place : ℕ) (r : Record) (end : ℕ) (error : DecodeError) → ReadsRecord bytes place r end → record_fault s r ≡ None → RefusesNext bytes s place error → ⊥
next_not_refused bytes s place r end error reads placed (bad_record_head refused) = record_not_refused bytes place r end error reads (bad_head refused)
next_not_refused bytes s place r end error reads placed (out_of_place h {data_place} head fault) =
    let same = head_same bytes place (head_of r reads.len) h reads.data_place data_place reads.head head in
    let clash : None ≡ Some error = sym placed ∙ fault_of_head bytes place end s r reads ∙ ap (head_fault s) same.0 ∙ fault in
    absurd (cc)
next_not_refused bytes s place r end error reads placed (bad_record_data h {data_place} head fault refused) = record_not_refused bytes place r end error reads (bad_data h head refused)

-- a record is not read where the next is refused
pub refused_here : (bytes : List ℕ) (kind : SectionKind) (count : ℕ) (front : List Record) (left middle : ℕ) (error : DecodeError) (r : Record) (rest : List Record) (end : ℕ) → AreWellPlaced kind false count (front ++ r ∷ rest) → length front + (left + 1) ≡ count → ReadsRecord bytes middle r end
    → RefusesNext bytes (setting_of kind (list_any is_opt front) (left + 1)) middle error → ⊥
refused_here bytes kind count front left middle error r rest end placed counted reads refused =
    let left_is : count - length front ≡ left + 1 = omega (arith, counted) in
    let there : record_fault (setting_of kind (list_any is_opt front) (left + 1)) r ≡ None = subst (λ (n : ℕ). record_fault (setting_of kind (list_any is_opt front) n) r ≡ None) left_is (placed_at kind false count front r rest placed) in
    next_not_refused bytes (setting_of kind (list_any is_opt front) (left + 1)) middle r end error reads there refused

refused_at : (bytes : List ℕ) (kind : SectionKind) (count : ℕ) (front : List Record) (left middle : ℕ) (error : DecodeError) (rest : List Record) (end : ℕ) → AreWellPlaced kind false count (front ++ rest) → length (front ++ rest) ≡ count → length front + (left + 1) ≡ count → Follow (ReadsRecord bytes) middle rest end
    → RefusesNext bytes (setting_of kind (list_any is_opt front) (left + 1)) middle error → ⊥
refused_at bytes kind count front left middle error [] end placed all counted follow refused = omega (arith, all, counted, length-append front [])
refused_at bytes kind count front left middle error (r ∷ rest) end placed all counted follow refused = refused_here bytes kind count front left middle error r rest follow.0 placed counted follow.1 refused

pub section_not_refused : (bytes : List ℕ) (kind : SectionKind) (place count : ℕ) (rs : List Record) (end : ℕ) (error : DecodeError) → ReadsSection bytes kind place count rs end → RefusesSection bytes kind place count error → ⊥
section_not_refused bytes kind place count rs end error reads refuses =
    let rest = follow_rest (ReadsRecord bytes) (record_same bytes) place refuses.front rs refuses.middle end (omega (arith, refuses.counted, reads.count_is)) refuses.records reads.records in
    refused_at bytes kind count refuses.front refuses.left refuses.middle error rest.0 end
    (subst (AreWellPlaced kind false count) rest.1 reads.placed)
    (ap (λ (l : List Record). length l) (sym rest.1) ∙ reads.count_is)
    refuses.counted rest.2 refuses.next

-- ---- lists with one more record

module _ {X : Type 0} (p : X → Bool) where
  skip_one : (xs : List X) (x : X) → p x ≡ false → filter p (xs ++ x ∷ []) ≡ filter p xs
  skip_one xs x e = filter-append p xs (x ∷ []) ∙ ap (λ (b : Bool). filter p xs ++ (if b then x ∷ [] else [])) e ∙ append-nil (filter p xs)

  take_one : (xs : List X) (x : X) → p x ≡ true → filter p (xs ++ x ∷ []) ≡ filter p xs ++ x ∷ []
  take_one xs x e = filter-append p xs (x ∷ []) ∙ ap (λ (b : Bool). filter p xs ++ (if b then x ∷ [] else [])) e

  or_none : (o : Option X) → option_or o None ≡ o
  or_none None = refl
  or_none (Some x) = refl

  pass_one : (xs : List X) (x : X) → p x ≡ false → find p (xs ++ x ∷ []) ≡ find p xs
  pass_one xs x e = find-append p xs (x ∷ []) ∙ ap (λ (b : Bool). option_or (find p xs) (if b then Some x else None)) e ∙ or_none (find p xs)

  find_one : (xs : List X) (x : X) → p x ≡ true → find p xs ≡ None → find p (xs ++ x ∷ []) ≡ Some x
  find_one xs x e none = find-append p xs (x ∷ []) ∙ ap (λ (o : Option X). option_or o (if p x then Some x else None)) none ∙ ap (λ (b : Bool). if b then Some x else None) e

  some_found : (xs : List X) → is_some (find p xs) ≡ list_any p xs
  some_found [] = refl
  some_found (x ∷ xs) = by (p x) (some_found xs)
    where
      by : (b : Bool) → is_some (find p xs) ≡ list_any p xs → is_some (if b then Some x else find p xs) ≡ (b || list_any p xs)
      by true rest = refl
      by false rest = rest

some_mapped : {X Y : Type 0} (f : X → Y) (o : Option X) → is_some (option_map f o) ≡ is_some o
some_mapped f None = refl
some_mapped f (Some x) = refl

not_some : {X : Type 0} (o : Option X) → is_some o ≡ false → o ≡ None
not_some None e = refl
not_some (Some x) e = absurd (cc)

-- an OPT record was found if and only if one was there
pub edns_found : (rs : List Record) (s : SectionRecords) → IsPartition rs s → is_some s.edns ≡ list_any is_opt rs
edns_found rs s p = ap (λ (o : Option Edns). is_some o) p.edns ∙ some_mapped edns_of (find is_opt rs) ∙ some_found is_opt rs

-- ---- the records of a section with one more

abbrev ordinary : Record → Bool
ordinary r = not (is_opt r || is_signature r)

unsigned_type : (t : RecordType) (empty : Bool) → is_opt_type t ≡ true → (is_tsig_type t && not empty) ≡ false
unsigned_type types.OPT empty e = refl
unsigned_type t empty e = absurd (cc)

opt_unsigned : (r : Record) → is_opt r ≡ true → is_signature r ≡ false
opt_unsigned r e = unsigned_type (data_type r.rdata) (is_update_data r.rdata) e

partition_cases : (rs : List Record) (s : SectionRecords) (r : Record) (o g : Bool) → is_opt r ≡ o → is_signature r ≡ g → IsPartition rs s → (o ≡ true → list_any is_opt rs ≡ false) → (g ≡ true → find is_signature rs ≡ None)
    → IsPartition (rs ++ r ∷ []) (if o then record s { edns = Some (edns_of r) } else if g then record s { signature = Some r } else record s { records = s.records ++ r ∷ [] })
partition_cases rs s r true g o_is g_is p first last = record {
  records = p.records ∙ sym (skip_one ordinary rs r (ap (λ (b : Bool). not (b || is_signature r)) o_is));
  edns = ap (option_map edns_of) (sym (find_one is_opt rs r o_is (not_some (find is_opt rs) (some_found is_opt rs ∙ first refl))));
  signature = p.signature ∙ sym (pass_one is_signature rs r (opt_unsigned r o_is));
}
partition_cases rs s r false true o_is g_is p first last = record {
  records = p.records ∙ sym (skip_one ordinary rs r (ap (λ (b : Bool). not (b || is_signature r)) o_is ∙ ap (λ (b : Bool). not b) g_is));
  edns = p.edns ∙ ap (option_map edns_of) (sym (pass_one is_opt rs r o_is));
  signature = sym (find_one is_signature rs r g_is (last refl));
}
partition_cases rs s r false false o_is g_is p first last = record {
  records = ap (λ (l : List Record). l ++ r ∷ []) p.records ∙ sym (take_one ordinary rs r (ap (λ (b : Bool). not (b || is_signature r)) o_is ∙ ap (λ (b : Bool). not b) g_is));
  edns = p.edns ∙ ap (option_map edns_of) (sym (pass_one is_opt rs r o_is));
  signature = p.signature ∙ sym (pass_one is_signature rs r g_is);
}

-- ---- a section as far as it is read

-- so many records of a section are read, up to a place
pub record ReadsFront (bytes : List ℕ) (kind : SectionKind) (place count taken : ℕ) (s : SectionRecords) (middle : ℕ) : Type 0 where
  pub all : List Record
  pub records : Follow (ReadsRecord bytes) place all middle
  pub count_is : length all ≡ taken
  pub placed : AreWellPlaced kind false count all
  pub partition : IsPartition all s

abbrev next_setting : SectionKind → SectionRecords → ℕ → Setting
next_setting kind s left = setting_of kind (is_some s.edns) left

-- the setting by what was found is the setting by what was there
setting_is : (kind : SectionKind) (count taken : ℕ) (all : List Record) (s : SectionRecords) → length all ≡ taken → IsPartition all s → next_setting kind s (count - taken) ≡ setting_of kind (list_any is_opt all) (count - length all)
setting_is kind count taken all s count_is p =
    ap (λ (b : Bool). setting_of kind b (count - taken)) (edns_found all s p) ∙ ap (λ (n : ℕ). setting_of kind (list_any is_opt all) (count - n)) (sym count_is)

pub front_empty : (bytes : List ℕ) (kind : SectionKind) (place count : ℕ) → ReadsFront bytes kind place count 0 (record { records = []; edns = None; signature = None }) place
front_empty bytes kind place count = record {
  all = [];
  records = refl;
  count_is = refl;
  placed = tt;
  partition = record { records = refl; edns = refl; signature = refl };
}

pub front_next : (bytes : List ℕ) (kind : SectionKind) (place count taken : ℕ) (s : SectionRecords) (middle : ℕ) (r : Record) (end : ℕ) → ReadsFront bytes kind place count taken s middle → taken < count → ReadsRecord bytes middle r end → record_fault (setting_of kind (is_some s.edns) (count - taken)) r ≡ None
    → ReadsFront bytes kind place count (taken + 1) (with_record s r) end
front_next bytes kind place count taken s middle r end f less reads placed =
    let found = setting_is kind count taken f.all s f.count_is f.partition in
    let there : record_fault (setting_of kind (list_any is_opt f.all) (count - length f.all)) r ≡ None = subst (λ (x : Setting). record_fault x r ≡ None) found placed in
    record {
      all = f.all ++ r ∷ [];
      records = follow_push (ReadsRecord bytes) place f.all r middle end f.records reads;
      count_is = omega (arith, length-append f.all (r ∷ []), f.count_is);
      placed = placed_push kind false count f.all r f.placed there;
      partition = partition_cases f.all s r (is_opt r) (is_signature r) refl refl f.partition
          (λ opt. (opt_first (setting_of kind (list_any is_opt f.all) (count - length f.all)) r there opt).1)
          (λ signed. unsigned_front kind false count f.all f.placed (omega (arith, less, f.count_is)));
    }

pub front_refused : (bytes : List ℕ) (kind : SectionKind) (place count taken : ℕ) (s : SectionRecords) (middle : ℕ) (error : DecodeError) → ReadsFront bytes kind place count taken s middle → taken < count → RefusesNext bytes (setting_of kind (is_some s.edns) (count - taken)) middle error
    → RefusesSection bytes kind place count error
front_refused bytes kind place count taken s middle error f less refused =
    let left_is : count - length f.all ≡ (count - taken - 1) + 1 = omega (arith, less, f.count_is) in
    let found = setting_is kind count taken f.all s f.count_is f.partition ∙ ap (setting_of kind (list_any is_opt f.all)) left_is in
    record {
      front = f.all;
      middle = middle;
      records = f.records;
      placed = f.placed;
      left = count - taken - 1;
      counted = omega (arith, less, f.count_is);
      next = subst (λ (x : Setting). RefusesNext bytes x middle error) found refused;
    }

pub front_whole : (bytes : List ℕ) (kind : SectionKind) (place count taken : ℕ) (s : SectionRecords) (middle : ℕ) → ReadsFront bytes kind place count taken s middle → taken ≡ count → ReadsSectionRecords bytes kind place count s middle
front_whole bytes kind place count taken s middle f e = record {
  all = f.all;
  section = record { records = f.records; count_is = f.count_is ∙ e; placed = f.placed };
  partition = f.partition;
}

-- a section other than the additional one has ordinary records alone
pub plain_records : (bytes : List ℕ) (kind : SectionKind) (place count : ℕ) (s : SectionRecords) (end : ℕ) → kind.is_additional ≡ false → ReadsSectionRecords bytes kind place count s end → ReadsSection bytes kind place count s.records end
plain_records bytes kind place count s end plain r =
    subst (λ (rs : List Record). ReadsSection bytes kind place count rs end) (sym (r.partition.records ∙ plain_section kind false count r.all plain r.section.placed)) r.section
