-- Difference sequences are read back from the records of a transfer, and in one way only.
use Rattle.std.proofs.Common.{◌≡◌, ◌∙◌, Bool, true, false, not, ◌||◌, ◌&&◌, List, [], ◌∷◌, ◌++◌, map, flat_map, refl, sym, ap}
use Rattle.std.proofs.lemmas.List.{append_assoc, append_cancel_right}
use Rattle.std.proofs.lemmas.List.Folds.{list_any-append, flat_map-map}
use Rattle.std.proofs.lemmas.Map.Views.{any-filter_same}
use Rattle.std.specs.List.{filter, AllByRecursion}
use Rattle.dns_records.specs.Record.{Record}
use Rattle.dns_differences.specs.Difference.{applied, applied_all, is_among, same_in_zone}
use Rattle.dns_differences.proofs.RecordLaws.{alike}
use Rattle.dns_differences.specs.declared.difference.Difference.{Difference}
use Rattle.dns_transfers.specs.incremental.DifferenceRecords.{incremental_records, with_owners}
use Rattle.dns_transfers.specs.incremental.Reading.{changed_by, changed_by_all, is_soa, sequence_of, sequence_records, IsPart, IsSequence, Reads, Sequence}

-- ---- the end of a part

-- whether records end, or go on with an SOA record
abbrev starts : List Record → Bool
starts [] = true
starts (r ∷ rs) = is_soa r

abbrev first_of : Record → List Record → Record
first_of other [] = other
first_of other (r ∷ rs) = r

abbrev rest_of : List Record → List Record
rest_of [] = []
rest_of (r ∷ rs) = rs

not_start : (r : Record) (rs more : List Record) → is_soa r ≡ false → starts more ≡ true → more ≡ r ∷ rs → ⊥
not_start r rs [] other s e = absurd (cc)
not_start r rs (x ∷ more) other s e =
    let differ : true ≡ false = sym s ∙ ap is_soa (ap (first_of r) e) ∙ other in
    absurd (cc)

-- a part ends before the next SOA record
same_others : (a b more rest : List Record) → AllByRecursion (λ r. is_soa r ≡ false) a → AllByRecursion (λ r. is_soa r ≡ false) b
    → starts more ≡ true → starts rest ≡ true → a ++ more ≡ b ++ rest → (a ≡ b) × (more ≡ rest)
same_others [] [] more rest none other s t e = (refl, e)
same_others [] (y ∷ b) more rest none other s t e = absurd (not_start y (b ++ rest) more other.0 s e)
same_others (x ∷ a) [] more rest none other s t e = absurd (not_start x (a ++ more) rest none.0 t (sym e))
same_others (x ∷ a) (y ∷ b) more rest none other s t e =
    let first : x ≡ y = ap (first_of x) e in
    let tails = same_others a b more rest none.1 other.1 s t (ap rest_of e) in
    (λ i. first i ∷ tails.0 i, tails.1)

same_part : (a b more rest : List Record) → IsPart a → IsPart b → starts more ≡ true → starts rest ≡ true → a ++ more ≡ b ++ rest
    → (a ≡ b) × (more ≡ rest)
same_part a b more rest p q s t e =
    let joined : p.start ∷ (p.others ++ more) ≡ q.start ∷ (q.others ++ rest) =
    sym (ap (λ (l : List Record). l ++ more) p.split) ∙ e ∙ ap (λ (l : List Record). l ++ rest) q.split in
    let first : p.start ≡ q.start = ap (first_of p.start) joined in
    let tails = same_others p.others q.others more rest p.no_other q.no_other s t (ap rest_of joined) in
    (p.split ∙ (λ i. first i ∷ tails.0 i) ∙ sym q.split, tails.1)

-- ---- difference sequences

part_starts : (a more : List Record) → IsPart a → starts (a ++ more) ≡ true
part_starts a more p = ap (λ (l : List Record). starts (l ++ more)) p.split ∙ p.is_start

sequences_start : (ss : List Sequence) → AllByRecursion IsSequence ss → starts (flat_map sequence_records ss) ≡ true
sequences_start [] all = refl
sequences_start (s ∷ ss) all =
    ap starts (append_assoc s.deleted s.added (flat_map sequence_records ss))
    ∙ part_starts s.deleted (s.added ++ flat_map sequence_records ss) all.0.deleted

no_records : (a more : List Record) → IsPart a → [] ≡ a ++ more → ⊥
no_records a more p e =
    let here : [] ≡ p.start ∷ (p.others ++ more) = e ∙ ap (λ (l : List Record). l ++ more) p.split in
    absurd (cc)

same_sequences : (ss ts : List Sequence) → AllByRecursion IsSequence ss → AllByRecursion IsSequence ts
    → flat_map sequence_records ss ≡ flat_map sequence_records ts → ss ≡ ts
same_sequences [] [] all others e = refl
same_sequences [] (t ∷ ts) all others e =
    absurd (no_records t.deleted (t.added ++ flat_map sequence_records ts) others.0.deleted (e ∙ append_assoc t.deleted t.added (flat_map sequence_records ts)))
same_sequences (s ∷ ss) [] all others e =
    absurd (no_records s.deleted (s.added ++ flat_map sequence_records ss) all.0.deleted (sym e ∙ append_assoc s.deleted s.added (flat_map sequence_records ss)))
same_sequences (s ∷ ss) (t ∷ ts) all others e =
    let apart : s.deleted ++ (s.added ++ flat_map sequence_records ss) ≡ t.deleted ++ (t.added ++ flat_map sequence_records ts) =
    sym (append_assoc s.deleted s.added (flat_map sequence_records ss)) ∙ e ∙ append_assoc t.deleted t.added (flat_map sequence_records ts) in
    let one = same_part s.deleted t.deleted (s.added ++ flat_map sequence_records ss) (t.added ++ flat_map sequence_records ts) all.0.deleted others.0.deleted
    (part_starts s.added (flat_map sequence_records ss) all.0.added) (part_starts t.added (flat_map sequence_records ts) others.0.added) apart in
    let two = same_part s.added t.added (flat_map sequence_records ss) (flat_map sequence_records ts) all.0.added others.0.added
    (sequences_start ss all.1) (sequences_start ts others.1) one.1 in
    let more : ss ≡ ts = same_sequences ss ts all.1 others.1 two.1 in
    λ i. record { deleted = one.0 i; added = two.0 i } ∷ more i

-- ---- the records of a transfer

-- one record alone is not one before others and one after them
not_alone : (soa start end : Record) (body : List Record) → soa ∷ [] ≡ start ∷ (body ++ end ∷ []) → ⊥
not_alone soa start end [] e = let rest : [] ≡ end ∷ [] = ap rest_of e in absurd (cc)
not_alone soa start end (r ∷ body) e = let rest : [] ≡ r ∷ (body ++ end ∷ []) = ap rest_of e in absurd (cc)

pub read_once : (records : List Record) (ss ts : List Sequence) → Reads records ss → Reads records ts → ss ≡ ts
read_once records [] [] one other = refl
read_once records [] (t ∷ ts) (soa, (is, e)) (start, (is_start, (all, f))) =
    absurd (not_alone soa start start (flat_map sequence_records (t ∷ ts)) (sym e ∙ f))
read_once records (s ∷ ss) [] (soa, (is, (all, e))) (start, (is_start, f)) =
    absurd (not_alone start soa soa (flat_map sequence_records (s ∷ ss)) (sym f ∙ e))
read_once records (s ∷ ss) (t ∷ ts) (soa, (is, (all, e))) (start, (is_start, (others, f))) =
    let joined : soa ∷ (flat_map sequence_records (s ∷ ss) ++ soa ∷ []) ≡ start ∷ (flat_map sequence_records (t ∷ ts) ++ start ∷ []) = sym e ∙ f in
    let first : soa ≡ start = ap (first_of soa) joined in
    let bodies : flat_map sequence_records (s ∷ ss) ++ start ∷ [] ≡ flat_map sequence_records (t ∷ ts) ++ start ∷ [] =
    ap (λ (r : Record). flat_map sequence_records (s ∷ ss) ++ r ∷ []) (sym first) ∙ ap rest_of joined in
    same_sequences (s ∷ ss) (t ∷ ts) all others (append_cancel_right (flat_map sequence_records (s ∷ ss)) (flat_map sequence_records (t ∷ ts)) (start ∷ []) bodies)

-- the difference sequences of differences are read back
pub read_back : (soa : Record) (ds : List Difference) → is_soa soa ≡ true → AllByRecursion IsSequence (map sequence_of ds)
    → Reads (incremental_records (soa ∷ []) ds) (map sequence_of ds)
read_back soa [] is all = (soa, (is, refl))
read_back soa (d ∷ ds) is all =
    (soa, (is, (all, ap (λ (l : List Record). soa ∷ (l ++ soa ∷ [])) (sym (flat_map-map sequence_records sequence_of (d ∷ ds))))))

-- ---- what a client has then

among_owned : (records : List Record) (r : Record) → is_among (with_owners records) r ≡ is_among records r
among_owned [] r = refl
among_owned (x ∷ records) r = ap (λ (b : Bool). same_in_zone x r || b) (among_owned records r)

-- two lists have the same records of a zone
abbrev AreSame : List Record → List Record → Type 0
AreSame a b = (r : Record) → is_among a r ≡ is_among b r

filter_same : (kept : Record → Bool) (records : List Record) (d : List Record) → ((r : Record) → kept r ≡ not (is_among d r))
    → filter kept records ≡ filter (λ r. not (is_among d r)) records
filter_same kept records d same = ap (λ (k : Record → Bool). filter k records) (λ i r. same r i)

-- a difference sequence changes records as its difference does
one_applied : (d : Difference) (records : List Record) (r : Record)
    → is_among (changed_by (sequence_of d) records) r ≡ is_among (applied d records) r
one_applied d records r =
    ap (λ (l : List Record). is_among (l ++ with_owners d.added.items) r)
    (filter_same (λ x. not (is_among (with_owners d.deleted.items) x)) records d.deleted.items (λ x. ap not (among_owned d.deleted.items x)))
    ∙ list_any-append (λ x. same_in_zone x r) (filter (λ x. not (is_among d.deleted.items x)) records) (with_owners d.added.items)
    ∙ ap (λ (b : Bool). is_among (filter (λ x. not (is_among d.deleted.items x)) records) r || b) (among_owned d.added.items r)
    ∙ sym (list_any-append (λ x. same_in_zone x r) (filter (λ x. not (is_among d.deleted.items x)) records) d.added.items)

-- the records that are among those after a difference
applied_among : (d : Difference) (records : List Record) (r : Record)
    → is_among (applied d records) r ≡ ((not (is_among d.deleted.items r) && is_among records r) || is_among d.added.items r)
applied_among d records r =
    list_any-append (λ x. same_in_zone x r) (filter (λ x. not (is_among d.deleted.items x)) records) d.added.items
    ∙ ap (λ (b : Bool). b || is_among d.added.items r)
    (any-filter_same (λ x. same_in_zone x r) (λ x. not (is_among d.deleted.items x)) (not (is_among d.deleted.items r))
    (λ x e. ap not (alike d.deleted.items x r e)) records)

-- the same records stay the same under a difference sequence
same_applied : (d : Difference) (a b : List Record) → AreSame a b → AreSame (applied d a) (applied d b)
same_applied d a b same r =
    applied_among d a r ∙ ap (λ (x : Bool). (not (is_among d.deleted.items r) && x) || is_among d.added.items r) (same r) ∙ sym (applied_among d b r)

-- Difference sequences change the records of a client as their differences do.
pub all_applied : (ds : List Difference) (a b : List Record) → AreSame a b → AreSame (changed_by_all (map sequence_of ds) a) (applied_all ds b)
all_applied [] a b same = same
all_applied (d ∷ ds) a b same =
    all_applied ds (changed_by (sequence_of d) a) (applied d b) (λ r. one_applied d a r ∙ same_applied d a b same r)
