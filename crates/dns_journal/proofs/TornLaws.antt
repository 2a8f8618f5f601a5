-- What an interrupted write leaves.
use Rattle.std.proofs.Common.{◌≡◌, ℕ, zero, suc, ◌+◌, ◌-◌, ◌<◌, ◌≤◌, ◌⊎◌, List, [], ◌∷◌, ◌++◌, length, take, drop, min, refl, sym, ap, subst, ◌∙◌, arith, inl, inr}
use Rattle.std.proofs.lemmas.Bool.{cases_eq, cases_lt}
use Rattle.std.proofs.lemmas.List.{take_at, take_all, take-append-drop, length-take, drop_all, length-drop}
use Rattle.dns_journal.specs.declared.format.link.Link.{Link}
use Rattle.dns_journal.specs.format.Format.{check, entry, entry_seal, frame, room, word, AreZeros, BeginsWith, HasLaterFrame, HasTornStart, IsFrame, IsInterrupted, IsShort, IsTorn, IsTornEntry, IsTornWrite}
use Rattle.std.specs.Int.{w32, from_be_bytes}
use Rattle.dns_journal.proofs.EntryLaws.{drop_take, longer, number_at, length-entry, length-frame, take_swap, take_take}

-- ---- nothing

no_later : (key : List ℕ) → ¬ (HasLaterFrame key [])
no_later key h =
    let nil : List ℕ = [] in
    let none : drop h.at nil ≡ nil = drop_all h.at nil (omega arith) in
    omega (arith, h.is_frame.whole, ap (λ (l : List ℕ). length l) none)

pub nothing_torn : (key : List ℕ) (link : Link) (place : ℕ) → IsTorn key link place []
nothing_torn key link place = record { bounded = omega arith; alone = no_later key; start = inl (omega arith) }

-- ---- ends that are cut short

-- a front of zeros is zeros
pub zeros_front : (n : ℕ) (bytes : List ℕ) → AreZeros bytes → AreZeros (take n bytes)
zeros_front zero bytes zeros i = refl
zeros_front (suc n) [] zeros i = refl
zeros_front (suc n) (x ∷ bytes) zeros zero = zeros 0
zeros_front (suc n) (x ∷ bytes) zeros (suc i) = zeros_front n bytes (λ j. zeros (suc j)) i

-- a frame in a front of bytes is one in the bytes
frame_whole : (key : List ℕ) (n : ℕ) (bytes : List ℕ) → IsFrame key (take n bytes) → IsFrame key bytes
frame_whole key n bytes is =
    let size : 28 ≤ min n (length bytes) = omega (arith, is.whole, length-take n bytes) in
    let front : take 20 (take n bytes) ≡ take 20 bytes = take_take 20 n bytes (omega (arith, size)) in
    let behind : take 8 (drop 20 (take n bytes)) ≡ take 8 (drop 20 bytes) =
    ap (λ (l : List ℕ). take 8 l) (drop_take 20 n bytes) ∙ take_take 8 (n - 20) (drop 20 bytes) (omega (arith, size)) in
    record {
      whole = omega (arith, size);
      checked = sym behind ∙ is.checked ∙ ap (λ (l : List ℕ). word (check key l)) front;
    }

later_whole : (key : List ℕ) (n : ℕ) (bytes : List ℕ) → HasLaterFrame key (take n bytes) → HasLaterFrame key bytes
later_whole key n bytes h = record {
  at = h.at;
  late = h.late;
  is_frame = frame_whole key (n - h.at) (drop h.at bytes) (subst (λ (l : List ℕ). IsFrame key l) (drop_take h.at n bytes) h.is_frame);
}

module _ (key : List ℕ) (link : Link) (place n : ℕ) (end : List ℕ) where
  same_front : 28 ≤ length (take n end) → take 28 (take n end) ≡ take 28 end
  same_front long = take_take 28 n end (omega (arith, long, length-take n end))

  start_front : HasTornStart key link place end → HasTornStart key link place (take n end)
  start_front start = elim (cases_lt (length (take n end)) 28) [
    | inl short ↦ inl short
    | inr long ↦ elim start [
      | inl short ↦ absurd (omega (arith, short, long, length-take n end))
      | inr (inl zeros) ↦ inr (inl (subst AreZeros (take_swap n (room place) end) (zeros_front n (take (room place) end) zeros)))
      | inr (inr (inl second)) ↦ inr (inr (inl (second.0, subst (λ (l : List ℕ). AreZeros (drop (room place) l)) (sym (same_front long)) second.1)))
      | inr (inr (inr torn)) ↦ inr (inr (inr (record {
        len = torn.len;
        small = torn.small;
        frame_is = same_front long ∙ torn.frame_is;
        within = omega (arith, torn.within, length-take n end);
        unfinished = omega (arith, torn.unfinished, length-take n end);
      })))
    ]
  ]

  pub torn_front : IsTorn key link place end → IsTorn key link place (take n end)
  torn_front torn = record {
    bounded = omega (arith, torn.bounded, length-take n end);
    alone = λ h. torn.alone (later_whole key n end h);
    start = start_front torn.start;
  }

-- ---- interrupted writes

module _ (key : List ℕ) (link : Link) (place : ℕ) (payload left : List ℕ) (short : IsShort payload) where
  abbrev E : List ℕ
  E = entry key link payload

  abbrev W : List ℕ
  W = take (length left) E

  first_is : 28 ≤ length left → take 28 W ≡ frame key link (length payload)
  first_is long =
      take_take 28 (length left) E long
      ∙ take_at (frame key link (length payload)) (payload ++ word (entry_seal key link payload)) 28 (length-frame key link (length payload))

  -- what is in the first block is not all of it
  not_all : length left ≤ length E → take (room place) left ≡ take (room place) W → (left ≡ E → ⊥) → min (room place) (length left) < 36 + length payload
  not_all no_longer written differs = elim (cases_lt (min (room place) (length left)) (36 + length payload)) [
    | inl less ↦ less
    | inr whole ↦
        let size = length-entry key link payload in
        let full : length E ≤ length left = omega (arith, whole, size) in
        let in_room : length left ≤ room place = omega (arith, whole, no_longer, size) in
        let all : W ≡ E = take_all (length left) E full in
        let here : take (room place) left ≡ left = take_all (room place) left in_room in
        let there : take (room place) W ≡ E = ap (λ (l : List ℕ). take (room place) l) all ∙ take_all (room place) E (omega (arith, in_room, full, no_longer)) in
        absurd (differs (sym here ∙ written ∙ there))
  ]

  -- its frame was written
  framed : length left ≤ length E → take (room place) left ≡ take (room place) W → take 28 left ≡ take 28 W → (left ≡ E → ⊥) → 28 ≤ length left
      → IsTornEntry key link (min (room place) (length left)) left
  framed no_longer written same differs long = record {
    len = length payload;
    small = short;
    frame_is = same ∙ first_is long;
    within = omega (arith, no_longer, length-entry key link payload);
    unfinished = not_all no_longer written differs;
  }

  -- the frame lies in the block in which the write began
  in_first : 28 ≤ room place → take (room place) left ≡ take (room place) W → take 28 left ≡ take 28 W
  in_first fits written = sym (take_take 28 (room place) left fits) ∙ ap (λ (l : List ℕ). take 28 l) written ∙ take_take 28 (room place) W fits

  -- it reaches into the next one
  in_both : room place < 28 → take (room place) left ≡ take (room place) W → drop (room place) (take 28 left) ≡ drop (room place) (take 28 W) → take 28 left ≡ take 28 W
  in_both passes written second =
      let r = room place in
      let within : r ≤ 28 = omega (arith, passes) in
      let front : take r (take 28 left) ≡ take r (take 28 W) = take_take r 28 left within ∙ written ∙ sym (take_take r 28 W within) in
      sym (take-append-drop r (take 28 left)) ∙ ap (λ (l : List ℕ). l ++ drop r (take 28 left)) front
      ∙ ap (λ (l : List ℕ). take r (take 28 W) ++ l) second ∙ take-append-drop r (take 28 W)

  interrupted_start : IsInterrupted place E left → (left ≡ E → ⊥) → HasTornStart key link place left
  interrupted_start it differs = elim (cases_lt (length left) 28) [
    | inl small ↦ inl small
    | inr long ↦ elim it.first [
      | inr zeros ↦ inr (inl zeros)
      | inl written ↦ elim (cases_lt (room place) 28) [
        | inr fits ↦ inr (inr (inr (framed it.no_longer written (in_first fits written) differs long)))
        | inl passes ↦ elim it.second [
          | inr zeros ↦ inr (inr (inl (passes, zeros)))
          | inl second ↦ inr (inr (inr (framed it.no_longer written (in_both passes written second) differs long)))
        ]
      ]
    ]
  ]

  -- what is left of it is torn, unless all of it is there
  pub torn_write : IsTornWrite key link place payload left → (left ≡ E → ⊥) → IsTorn key link place left
  torn_write it differs = record {
    bounded = omega (arith, it.interrupted.no_longer, length-entry key link payload, short);
    alone = it.no_forgery.alone;
    start = interrupted_start it.interrupted differs;
  }

-- ---- a write that a crash stopped within the frame

-- no entry fits in a part of a frame
part_alone : (key left : List ℕ) → length left ≤ 28 → ¬ (HasLaterFrame key left)
part_alone key left few h = omega (arith, few, h.late, h.is_frame.whole, length-drop h.at left)

part_none : (key : List ℕ) (link : Link) (left : List ℕ) → length left ≤ 28 → (other rest : List ℕ) → BeginsWith key link other left rest → ⊥
part_none key link left few other rest begins = omega (arith, few, longer key link other left rest begins)

-- the first bytes of an entry, up to the end of its frame, are what an interrupted write of it leaves
pub frame_part : (key : List ℕ) (link : Link) (place : ℕ) (payload : List ℕ) (n : ℕ) → n ≤ 28 → IsTornWrite key link place payload (take n (entry key link payload))
frame_part key link place payload n few =
    let E = entry key link payload in
    let size = length-entry key link payload in
    let len : length (take n E) ≡ n = omega (arith, few, size, length-take n E) in
    let same : take (length (take n E)) E ≡ take n E = ap (λ (k : ℕ). take k E) len in
    record {
      interrupted = record {
        no_longer = omega (arith, len, few, size);
        first = inl (ap (λ (l : List ℕ). take (room place) l) (sym same));
        second = inl (ap (λ (l : List ℕ). drop (room place) (take 28 l)) (sym same));
      };
      no_forgery = record {
        alone = part_alone key (take n E) (omega (arith, len, few));
        genuine = λ other rest begins. absurd (part_none key link (take n E) (omega (arith, len, few)) other rest begins);
      };
    }

-- ---- what is decided

-- the length in the frame of a torn entry
pub torn_len : (key : List ℕ) (link : Link) (in_block n : ℕ) (end : List ℕ) → n ≡ from_be_bytes w32 (take 4 (drop 16 end)) → (torn : IsTornEntry key link in_block end) → torn.len ≡ n
torn_len key link in_block n end is torn = sym (number_at key link torn.len end torn.small torn.frame_is) ∙ sym is

pub torn_frame : (key : List ℕ) (link : Link) (in_block n : ℕ) (end : List ℕ) → n ≡ from_be_bytes w32 (take 4 (drop 16 end)) → IsTornEntry key link in_block end → take 28 end ≡ frame key link n
torn_frame key link in_block n end is torn = torn.frame_is ∙ ap (λ (k : ℕ). frame key link k) (torn_len key link in_block n end is torn)

-- a frame whose end is in a block that was not written
pub unwritten_end : (r m : ℕ) (end : List ℕ) → m ≡ 28 - r → take m (drop r end) ≡ drop r (take 28 end)
unwritten_end r m end is = ap (λ (k : ℕ). take k (drop r end)) is ∙ sym (drop_take r 28 end)

-- what is in the block in which bytes begin
pub in_block_is : (k r : ℕ) (end : List ℕ) → k ≡ min r (length end) → take k end ≡ take r end
in_block_is k r end is = elim (cases_lt r (length end)) [
  | inl less ↦ ap (λ (j : ℕ). take j end) (omega (arith, is, less))
  | inr all ↦ take_all k end (omega (arith, is, all)) ∙ sym (take_all r end all)
]

pub whole_or_not : (xs ys : List ℕ) → (xs ≡ ys) ⊎ (xs ≡ ys → ⊥)
whole_or_not [] [] = inl refl
whole_or_not [] (y ∷ ys) = inr (λ e. absurd cc)
whole_or_not (x ∷ xs) [] = inr (λ e. absurd cc)
whole_or_not (x ∷ xs) (y ∷ ys) = elim (cases_eq x y) [
  | inl e ↦ elim (whole_or_not xs ys) [
    | inl f ↦ inl (cc (e, f))
    | inr differ ↦ inr (λ h. let tails : xs ≡ ys = cc in differ tails)
  ]
  | inr differ ↦ inr (λ h. let heads : x ≡ y = cc in differ heads)
]

module _ (key : List ℕ) (link : Link) (place r k : ℕ) (end : List ℕ) (room_is : r ≡ room place) (in_block : k ≡ min r (length end)) where
  pub start_of : IsTornEntry key link k end → HasTornStart key link place end
  start_of torn = inr (inr (inr (subst (λ (j : ℕ). IsTornEntry key link j end) (in_block ∙ ap (λ (j : ℕ). min j (length end)) room_is) torn)))

  pub torn_only : 28 ≤ length end → (AreZeros (take k end) → ⊥) → ((r < 28) × AreZeros (drop r (take 28 end)) → ⊥) → HasTornStart key link place end → IsTornEntry key link k end
  torn_only long not_first not_second start = elim start [
    | inl short ↦ absurd (omega (arith, short, long))
    | inr (inl zeros) ↦ absurd (not_first (subst AreZeros (ap (λ (j : ℕ). take j end) (sym room_is) ∙ sym (in_block_is k r end in_block)) zeros))
    | inr (inr (inl second)) ↦ absurd (not_second (subst (λ (j : ℕ). (j < 28) × AreZeros (drop j (take 28 end))) (sym room_is) second))
    | inr (inr (inr torn)) ↦ subst (λ (j : ℕ). IsTornEntry key link j end) (sym (in_block ∙ ap (λ (j : ℕ). min j (length end)) room_is)) torn
  ]

  pub start_zeros : AreZeros (take k end) → HasTornStart key link place end
  start_zeros zeros = inr (inl (subst AreZeros (in_block_is k r end in_block ∙ ap (λ (j : ℕ). take j end) room_is) zeros))

  pub start_unwritten : (r < 28) × AreZeros (drop r (take 28 end)) → HasTornStart key link place end
  start_unwritten second = inr (inr (inl (subst (λ (j : ℕ). (j < 28) × AreZeros (drop j (take 28 end))) room_is second)))
