-- A name that is written compressed is read again, and what is remembered of it can be pointed at.
use Rattle.std.proofs.Common.{◌≡◌, ℕ, ◌+◌, ◌-◌, ◌*◌, ◌/◌, ◌%◌, ◌<◌, ◌≤◌, Bool, true, false, cond, ltb, List, [], ◌∷◌, ◌++◌, length, take, drop, Option, Some, None, Ok, refl, sym, ap, subst, ◌∙◌, ◌⊎◌, inl, inr, arith, length-append, length-drop}
use Rattle.std.specs.List.{AllByRecursion}
use Rattle.std.specs.Int.{w16, to_be_bytes}
use Rattle.std.specs.Prelude.{is_some, is_none, ◌&&◌, if◌then◌else◌, bit_or}
use Rattle.std.specs.Option.{option_map_or}
use Rattle.std.proofs.lemmas.List.{take_at, drop_at, append-nil}
use Rattle.std.proofs.lemmas.Nat.{or_shifted}
use Rattle.std.proofs.lemmas.Bool.{ltb-true}
use Rattle.dns_wire.specs.Element.{Pointer, element, element_at}
use Rattle.dns_wire.specs.Encoder.{Suffix, place_of, remember, suffixes_before}
use Rattle.dns_wire.specs.Name.{IsLabel, AreLabels, name_len}
use Rattle.dns_wire.specs.Reading.{Reads, ReadsName, at_closing, at_label, at_pointer}
use Rattle.dns_wire.specs.Writing.{labels_form, pointer_form, compressed_form, remember_labels, IsPointerTarget, ArePointerTargets}
use Rattle.dns_wire.specs.Laws.{pointer_target, TargetSurvives, ArePointerTargetsUnlessLost}
use Rattle.dns_wire.proofs.ElementLaws.{element-pointer}
use Rattle.dns_wire.proofs.NameLaws.{length-labels_form, past, label_there}
use Rattle.dns_wire.proofs.ReadingLaws.{reads-append}
use Rattle.dns_wire.proofs.SuffixLaws.{all_weaker, all-push, all-suffixes_before, place_of-found, AgreeBelow, remember-agree}

-- ---- a pointer

pub pointer_form-is : (target : ℕ) → target < 16384 → pointer_form target ≡ ((49152 + target) / 256) ∷ ((49152 + target) % 256) ∷ []
pointer_form-is target small =
    let sum : bit_or 49152 target ≡ 49152 + target = or_shifted 3 14 target small in
    let high : (49152 + target) / 256 % 256 ≡ (49152 + target) / 256 = omega arith in
    ap (λ (n : ℕ). to_be_bytes w16 n) sum ∙ ap (λ (n : ℕ). n ∷ ((49152 + target) % 256) ∷ []) high

pointer_there : (buffer : List ℕ) (place target : ℕ) (rest : List ℕ) → target < 16384 → drop place buffer ≡ pointer_form target ++ rest → element_at buffer place ≡ Ok (Pointer target)
pointer_there buffer place target rest small h =
    let there = element-pointer ((49152 + target) / 256) ((49152 + target) % 256) rest (omega arith) in
    let is : 256 * ((49152 + target) / 256 - 192) + (49152 + target) % 256 ≡ target = omega arith in
    ap element (h ∙ ap (λ (xs : List ℕ). xs ++ rest) (pointer_form-is target small)) ∙ there ∙ ap (λ (t : ℕ). Ok (Pointer t)) is

-- ---- written compressed and read again

-- labels are seen in their form
labels_form-same : (a b : List (List ℕ)) → labels_form a ≡ labels_form b → a ≡ b
labels_form-same [] [] e = refl
labels_form-same [] (m ∷ b) e = absurd (cc)
labels_form-same (l ∷ a) [] e = absurd (cc)
labels_form-same (l ∷ a) (m ∷ b) e =
    let len : length l ≡ length m = cc in
    let tails : l ++ labels_form a ≡ m ++ labels_form b = cc in
    let first : l ≡ m = sym (take_at l (labels_form a) (length l) refl) ∙ ap (take (length l)) tails ∙ take_at m (labels_form b) (length l) (sym len) in
    let rest : labels_form a ≡ labels_form b = sym (drop_at l (labels_form a) (length l) refl) ∙ ap (drop (length l)) tails ∙ drop_at m (labels_form b) (length l) (sym len) in
    ap (λ (x : List ℕ). x ∷ a) first ∙ ap (λ (xs : List (List ℕ)). m ∷ xs) (labels_form-same a b rest)

-- the suffixes stand but for those that are lost, and begin before a place
abbrev pub AreTargetsBefore : (ℕ → Type 0) → List ℕ → ℕ → List Suffix → Type 0
AreTargetsBefore lost buffer place suffixes = AllByRecursion (λ s. (lost s.start ⊎ IsPointerTarget buffer s) × (s.start < place)) suffixes

later : (lost : ℕ → Type 0) (buffer : List ℕ) (place n : ℕ) (suffixes : List Suffix) → AreTargetsBefore lost buffer place suffixes → AreTargetsBefore lost buffer (place + n) suffixes
later lost buffer place n suffixes all =
    all_weaker {P = λ s. (lost s.start ⊎ IsPointerTarget buffer s) × (s.start < place)} {Q = λ s. (lost s.start ⊎ IsPointerTarget buffer s) × (s.start < place + n)} (λ s q. (q.0, omega (arith, q.1))) suffixes all

pub unless : {A B : Type 0} → A ⊎ B → (A → ⊥) → B
unless (inl a) refuted = absurd (refuted a)
unless (inr b) refuted = b

pub compressed_reads : (lost : ℕ → Type 0) (buffer : List ℕ) (suffixes : List Suffix) (place segment left : ℕ) (labels : List (List ℕ)) (rest : List ℕ) → AllByRecursion IsLabel labels → name_len labels ≤ left
    → AreTargetsBefore lost buffer segment suffixes → TargetSurvives lost (pointer_target suffixes labels) → drop place buffer ≡ compressed_form suffixes labels ++ rest → Reads buffer place segment left labels (place + length (compressed_form suffixes labels))
compressed_reads lost buffer suffixes place segment left [] rest all fits stand clear h = at_closing (ap element h)
compressed_reads lost buffer suffixes place segment left (label ∷ labels) rest all fits stand clear h =
    at (place_of suffixes (labels_form (label ∷ labels))) refl clear h
    (λ clear again. compressed_reads lost buffer suffixes (place + (length label + 1)) segment (left - (length label + 1)) labels rest all.1 (omega arith) stand clear (past buffer place label (compressed_form suffixes labels) rest again))
  where
    at : (found : Option ℕ) → place_of suffixes (labels_form (label ∷ labels)) ≡ found → TargetSurvives lost (option_map_or Some found (pointer_target suffixes labels)) → drop place buffer ≡ option_map_or pointer_form found (length label ∷ (label ++ compressed_form suffixes labels)) ++ rest
        → (TargetSurvives lost (pointer_target suffixes labels) → drop place buffer ≡ (length label ∷ (label ++ compressed_form suffixes labels)) ++ rest → Reads buffer (place + (length label + 1)) segment (left - (length label + 1)) labels (place + (length label + 1) + length (compressed_form suffixes labels)))
        → Reads buffer place segment left (label ∷ labels) (place + length (option_map_or pointer_form found (length label ∷ (label ++ compressed_form suffixes labels))))
    at (Some target) is clear h more =
        let found = place_of-found (λ s. (lost s.start ⊎ IsPointerTarget buffer s) × (s.start < segment)) suffixes (labels_form (label ∷ labels)) target stand is in
        let is_target : IsPointerTarget buffer found.0 = unless found.3.0 (λ is_lost. clear target refl (subst lost found.1 is_lost)) in
        let same : is_target.labels ≡ label ∷ labels = labels_form-same is_target.labels (label ∷ labels) (sym is_target.form ∙ found.2) in
        let r = is_target.reads left (subst (λ (ls : List (List ℕ)). name_len ls ≤ left) (sym same) fits) in
        let there : Reads buffer target target left (label ∷ labels) r.0 = subst (λ (t : ℕ). Reads buffer t t left (label ∷ labels) r.0) found.1 (subst (λ (ls : List (List ℕ)). Reads buffer found.0.start found.0.start left ls r.0) same r.1) in
        at_pointer (pointer_there buffer place target rest (omega (arith, is_target.near, found.1)) h) (omega (arith, found.1, found.3.1)) there
    at None is clear h more =
        let room : length label + 1 < left = omega (arith, length-labels_form labels) in
        let end : place + (length label + 1) + length (compressed_form suffixes labels) ≡ place + length (length label ∷ (label ++ compressed_form suffixes labels)) = omega (arith, length-append label (compressed_form suffixes labels)) in
        subst (λ (e : ℕ). Reads buffer place segment left (label ∷ labels) e) end (at_label (label_there buffer place label (compressed_form suffixes labels) rest all.0 h) room (more clear h))

-- ---- what is remembered stands

pub target-append : (buffer more : List ℕ) (suffix : Suffix) → IsPointerTarget buffer suffix → IsPointerTarget (buffer ++ more) suffix
target-append buffer more suffix s = record {
  labels = s.labels;
  form = s.form;
  within = omega (arith, s.within, length-append buffer more);
  near = s.near;
  reads = λ left fits. let r = s.reads left fits in (r.0, reads-append more r.1);
}

pub targets-append : (buffer more : List ℕ) (suffixes : List Suffix) → ArePointerTargets buffer suffixes → ArePointerTargets (buffer ++ more) suffixes
targets-append buffer more suffixes stand = all_weaker (target-append buffer more) suffixes stand

remember-all : (P : Suffix → Type 0) (suffixes : List Suffix) (place : ℕ) (bytes : List ℕ) → AllByRecursion P suffixes → (place < 16383 → P (record { start = place; bytes = bytes })) → AllByRecursion P (remember suffixes place bytes)
remember-all P suffixes place bytes all new = at (ltb place 16383) (ltb (length suffixes) 64 && is_none (place_of suffixes bytes)) refl
  where
    at : (near room : Bool) → ltb place 16383 ≡ near → AllByRecursion P (cond (near && room) (suffixes ++ record { start = place; bytes = bytes } ∷ []) suffixes)
    at true true e = all-push P suffixes (record { start = place; bytes = bytes }) all (new (ltb-true _ _ e))
    at true false e = all
    at false room e = all

-- a name that was just written stands at its place
target-there : (lost : ℕ → Type 0) (buffer : List ℕ) (old : List Suffix) (place : ℕ) (label : List ℕ) (labels : List (List ℕ)) (rest : List ℕ) → AllByRecursion IsLabel (label ∷ labels) → AreTargetsBefore lost buffer place old
    → TargetSurvives lost (pointer_target old (label ∷ labels)) → drop place buffer ≡ compressed_form old (label ∷ labels) ++ rest → place < length buffer → place < 16383 → IsPointerTarget buffer (record { start = place; bytes = labels_form (label ∷ labels) })
target-there lost buffer old place label labels rest all stand clear h within near = record {
  labels = label ∷ labels;
  form = refl;
  within = within;
  near = near;
  reads = λ left fits. (place + length (compressed_form old (label ∷ labels)), compressed_reads lost buffer old place place left (label ∷ labels) rest all fits stand clear h);
}

remember_labels-targets : (lost : ℕ → Type 0) (buffer : List ℕ) (old now : List Suffix) (place : ℕ) (labels : List (List ℕ)) (rest : List ℕ) → AllByRecursion IsLabel labels → AreTargetsBefore lost buffer place old
    → ArePointerTargetsUnlessLost lost buffer now → TargetSurvives lost (pointer_target old labels) → AgreeBelow (name_len labels) old now → drop place buffer ≡ compressed_form old labels ++ rest → ArePointerTargetsUnlessLost lost buffer (remember_labels now place labels)
remember_labels-targets lost buffer old now place [] rest all behind stand clear agree h = stand
remember_labels-targets lost buffer old now place (label ∷ labels) rest all behind stand clear agree h =
    let bytes : List ℕ = labels_form (label ∷ labels) in
    let len : length bytes + 1 ≡ name_len (label ∷ labels) = length-labels_form (label ∷ labels) in
    at (place_of now bytes) (agree bytes (omega (arith, len)))
    (λ none.
    let again : drop place buffer ≡ (length label ∷ (label ++ compressed_form old labels)) ++ rest = subst (λ (found : Option ℕ). drop place buffer ≡ option_map_or pointer_form found (length label ∷ (label ++ compressed_form old labels)) ++ rest) none h in
    let within : place < length buffer = omega (arith, ap length again, length-drop place buffer) in
    let stand' = remember-all (λ s. lost s.start ⊎ IsPointerTarget buffer s) now place bytes stand (λ near. inr (target-there lost buffer old place label labels rest all behind clear h within near)) in
    let agree' = remember-agree (name_len labels) old now place bytes (omega (arith, len)) (λ sought lt. agree sought (omega arith)) in
    let clear' : TargetSurvives lost (pointer_target old labels) = subst (λ (found : Option ℕ). TargetSurvives lost (option_map_or Some found (pointer_target old labels))) none clear in
    remember_labels-targets lost buffer old (remember now place bytes) (place + (length label + 1)) labels rest all.1 (later lost buffer place (length label + 1) old behind) stand' clear' agree' (past buffer place label (compressed_form old labels) rest again))
  where
    at : (found : Option ℕ) → found ≡ place_of old (labels_form (label ∷ labels)) → (place_of old (labels_form (label ∷ labels)) ≡ None → ArePointerTargetsUnlessLost lost buffer (remember_labels (remember now place (labels_form (label ∷ labels))) (place + (length label + 1)) labels))
        → ArePointerTargetsUnlessLost lost buffer (if is_some found then suffixes_before place now else remember_labels (remember now place (labels_form (label ∷ labels))) (place + (length label + 1)) labels)
    at (Some target) is more = all-suffixes_before (λ s. lost s.start ⊎ IsPointerTarget buffer s) place now stand
    at None is more = more (sym is)

-- and begins before the end of the name
pub remember_labels-behind : (old now : List Suffix) (place end : ℕ) (labels : List (List ℕ)) → AllByRecursion (λ s. s.start < end) now → AgreeBelow (name_len labels) old now → place + length (compressed_form old labels) ≤ end
    → AllByRecursion (λ s. s.start < end) (remember_labels now place labels)
remember_labels-behind old now place end [] behind agree within = behind
remember_labels-behind old now place end (label ∷ labels) behind agree within =
    let bytes : List ℕ = labels_form (label ∷ labels) in
    let len : length bytes + 1 ≡ name_len (label ∷ labels) = length-labels_form (label ∷ labels) in
    at (place_of now bytes) (agree bytes (omega (arith, len)))
    (λ none.
    let room : place + length (length label ∷ (label ++ compressed_form old labels)) ≤ end = subst (λ (found : Option ℕ). place + length (option_map_or pointer_form found (length label ∷ (label ++ compressed_form old labels))) ≤ end) none within in
    let behind' = remember-all (λ s. s.start < end) now place bytes behind (λ near. omega (arith, room)) in
    let agree' = remember-agree (name_len labels) old now place bytes (omega (arith, len)) (λ sought lt. agree sought (omega arith)) in
    remember_labels-behind old (remember now place bytes) (place + (length label + 1)) end labels behind' agree' (omega (arith, room, length-append label (compressed_form old labels))))
  where
    at : (found : Option ℕ) → found ≡ place_of old (labels_form (label ∷ labels)) → (place_of old (labels_form (label ∷ labels)) ≡ None → AllByRecursion (λ s. s.start < end) (remember_labels (remember now place (labels_form (label ∷ labels))) (place + (length label + 1)) labels))
        → AllByRecursion (λ s. s.start < end) (if is_some found then suffixes_before place now else remember_labels (remember now place (labels_form (label ∷ labels))) (place + (length label + 1)) labels)
    at (Some target) is more = all-suffixes_before (λ s. s.start < end) place now behind
    at None is more = more (sym is)

-- ---- at the end of the buffer

pub unless_lost-append : (lost : ℕ → Type 0) (buffer more : List ℕ) (suffixes : List Suffix) → ArePointerTargetsUnlessLost lost buffer suffixes → ArePointerTargetsUnlessLost lost (buffer ++ more) suffixes
unless_lost-append lost buffer more suffixes stand = all_weaker {P = λ s. lost s.start ⊎ IsPointerTarget buffer s} {Q = λ s. lost s.start ⊎ IsPointerTarget (buffer ++ more) s} (λ s q. grown s q) suffixes stand
  where
    grown : (s : Suffix) → lost s.start ⊎ IsPointerTarget buffer s → lost s.start ⊎ IsPointerTarget (buffer ++ more) s
    grown s (inl is_lost) = inl is_lost
    grown s (inr is_target) = inr (target-append buffer more s is_target)

both : (P Q : Suffix → Type 0) (suffixes : List Suffix) → AllByRecursion P suffixes → AllByRecursion Q suffixes → AllByRecursion (λ s. P s × Q s) suffixes
both P Q [] p q = tt
both P Q (s ∷ suffixes) p q = ((p.0, q.0), both P Q suffixes p.1 q.1)

old_targets : (lost : ℕ → Type 0) (buffer more : List ℕ) (suffixes : List Suffix) → ArePointerTargetsUnlessLost lost buffer suffixes → AllByRecursion (λ s. s.start < length buffer) suffixes → AreTargetsBefore lost (buffer ++ more) (length buffer) suffixes
old_targets lost buffer more suffixes stand behind =
    both (λ s. lost s.start ⊎ IsPointerTarget (buffer ++ more) s) (λ s. s.start < length buffer) suffixes (unless_lost-append lost buffer more suffixes stand) behind

-- a name that is written there is read there
pub compressed_decodes : (lost : ℕ → Type 0) (buffer : List ℕ) (suffixes : List Suffix) (labels : List (List ℕ)) → AreLabels labels → ArePointerTargetsUnlessLost lost buffer suffixes → AllByRecursion (λ s. s.start < length buffer) suffixes
    → TargetSurvives lost (pointer_target suffixes labels) → ReadsName (buffer ++ compressed_form suffixes labels) (length buffer) labels (length buffer + length (compressed_form suffixes labels))
compressed_decodes lost buffer suffixes labels is stand behind clear =
    let form : List ℕ = compressed_form suffixes labels in
    compressed_reads lost (buffer ++ form) suffixes (length buffer) (length buffer) 255 labels [] is.each is.fits (old_targets lost buffer form suffixes stand behind) clear (drop_at buffer form (length buffer) refl ∙ sym (append-nil form))

-- and what is remembered then stands
pub remember_labels-targets_again : (lost : ℕ → Type 0) (buffer : List ℕ) (suffixes : List Suffix) (labels : List (List ℕ)) → AreLabels labels → ArePointerTargetsUnlessLost lost buffer suffixes → AllByRecursion (λ s. s.start < length buffer) suffixes
    → TargetSurvives lost (pointer_target suffixes labels) → ArePointerTargetsUnlessLost lost (buffer ++ compressed_form suffixes labels) (remember_labels suffixes (length buffer) labels)
remember_labels-targets_again lost buffer suffixes labels is stand behind clear =
    let form : List ℕ = compressed_form suffixes labels in
    remember_labels-targets lost (buffer ++ form) suffixes suffixes (length buffer) labels [] is.each (old_targets lost buffer form suffixes stand behind) (unless_lost-append lost buffer form suffixes stand) clear (λ bytes lt. refl)
    (drop_at buffer form (length buffer) refl ∙ sym (append-nil form))
