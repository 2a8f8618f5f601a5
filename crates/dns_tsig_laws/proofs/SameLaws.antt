-- Equal covered texts are of the same message.
use Rattle.std.proofs.Common.{◌≡◌, ◌<◌, ◌≤◌, ◌-◌, ◌/◌, ◌%◌, ◌^◌, ℕ, List, [], ◌∷◌, ◌++◌, length, drop, refl, sym, ap, ◌∙◌, arith, append_assoc, length-append}
use Rattle.std.proofs.Math.Nat.{div-eq_of_lt}
use Rattle.std.proofs.lemmas.List.{append_cancel_left, length-drop, length-take}
use Rattle.std.proofs.lemmas.Nat.{from_be_bytes-to_be_bytes_2, from_be_bytes-to_be_bytes_8}
use Rattle.std.specs.Int.{w16, w64, from_be_bytes, to_be_bytes}
use Rattle.std.specs.Prelude.{slice_range}
use Rattle.dns_tsig.specs.Covered.{class_and_ttl, outcome, prior_bytes, timers, unsigned_message, variables}
use Rattle.dns_tsig.specs.Judge.{received_text}
use Rattle.dns_tsig.specs.Key.{algorithm_name}
use Rattle.dns_tsig.specs.Numbers.{number_at}
use Rattle.dns_tsig.specs.TsigFields.{TsigFields}
use Rattle.dns_tsig.specs.declared.covered.Coverage.TheVariants.{Variables}
use Rattle.dns_tsig.specs.declared.key.Key.{Key}
use Rattle.dns_tsig_laws.specs.Same.{DoFieldsFit, HasRecordAt, IsSameSigned}

-- two lists are equal in two parts
pub record AreSame (a b c d : List ℕ) : Type 0 where
  pub front : a ≡ c
  pub rest : b ≡ d

pub same_front : (a b c d : List ℕ) → length a ≡ length c → a ++ b ≡ c ++ d → AreSame a b c d
same_front [] b [] d l e = record { front = refl; rest = e }
same_front [] b (y ∷ c) d l e = absurd (omega arith)
same_front (x ∷ a) b [] d l e = absurd (omega arith)
same_front (x ∷ a) b (y ∷ c) d l e =
    let tails : a ++ b ≡ c ++ d = cc in
    let r : AreSame a b c d = same_front a b c d (omega arith) tails in
    let heads : x ≡ y = cc in
    record { front = cc (r.front); rest = r.rest }

pub same_back : (a b c d : List ℕ) → length b ≡ length d → a ++ b ≡ c ++ d → AreSame a b c d
same_back a b c d l e =
    let sum : length (a ++ b) ≡ length (c ++ d) = ap length e in
    same_front a b c d (omega (arith, length-append a b, length-append c d)) e

-- numbers whose bytes are equal
same_16 : (x y : ℕ) → x < 2 ^ 16 → y < 2 ^ 16 → to_be_bytes w16 x ≡ to_be_bytes w16 y → x ≡ y
same_16 x y h k e = sym (from_be_bytes-to_be_bytes_2 x h) ∙ ap (from_be_bytes w16) e ∙ from_be_bytes-to_be_bytes_2 y k

-- the first two of eight bytes of a number of 48 bits are zero
pub time_bytes : (t : ℕ) → t < 2 ^ 48 → to_be_bytes w64 t ≡ 0 ∷ 0 ∷ drop 2 (to_be_bytes w64 t)
time_bytes t h =
    let highest : t / 256 ^ 7 % 256 ≡ 0 = ap (λ (q : ℕ). q % 256) (div-eq_of_lt (omega arith)) in
    let next : t / 256 ^ 6 % 256 ≡ 0 = ap (λ (q : ℕ). q % 256) (div-eq_of_lt (omega arith)) in
    ap (λ (b : ℕ). b ∷ drop 1 (to_be_bytes w64 t)) highest ∙ ap (λ (b : ℕ). 0 ∷ b ∷ drop 2 (to_be_bytes w64 t)) next

same_time : (x y : ℕ) → x < 2 ^ 48 → y < 2 ^ 48 → drop 2 (to_be_bytes w64 x) ≡ drop 2 (to_be_bytes w64 y) → x ≡ y
same_time x y h k e =
    let bytes : to_be_bytes w64 x ≡ to_be_bytes w64 y = time_bytes x h ∙ ap (λ (b : List ℕ). 0 ∷ 0 ∷ b) e ∙ sym (time_bytes y k) in
    sym (from_be_bytes-to_be_bytes_8 x (omega arith)) ∙ ap (from_be_bytes w64) bytes ∙ from_be_bytes-to_be_bytes_8 y (omega arith)

-- a longer list has the same length after the same front
pub same_length : (a x y : List ℕ) → length x ≡ length y → length (a ++ x) ≡ length (a ++ y)
same_length a x y e = omega (arith, length-append a x, length-append a y)

-- the flags and three counts of a header
flags_length : (message : List ℕ) → 12 ≤ length message → length (slice_range message 2 10) ≡ 8
flags_length message h = omega (arith, length-take 8 (drop 2 message), length-drop 2 message)

pub same_signed : (key : Key) (prior one two : List ℕ) (place end : ℕ) (first second : TsigFields) → HasRecordAt one place → HasRecordAt two end → DoFieldsFit first → DoFieldsFit second
    → length first.other ≡ length second.other → received_text key prior one place first Variables ≡ received_text key prior two end second Variables → IsSameSigned one place first two end second
same_signed key prior one two place end first second h k f g l e =
    let tail : TsigFields → List ℕ = λ (t : TsigFields). timers t.time t.fudge ++ outcome t.error t.other in
    let named : TsigFields → List ℕ = λ (t : TsigFields). variables key t.time t.fudge t.error t.other in
    let tails : length (tail first) ≡ length (tail second) = omega arith in
    let lengths : length (named first) ≡ length (named second) =
    same_length key.name.items _ _ (same_length class_and_ttl _ _ (same_length (algorithm_name key.algorithm) (tail first) (tail second) tails)) in
    let together = sym (append_assoc (prior_bytes prior) (unsigned_message one place first.original_id) (named first)) ∙ e ∙ append_assoc (prior_bytes prior) (unsigned_message two end second.original_id) (named second) in
    let inner = append_cancel_left (prior_bytes prior) (unsigned_message one place first.original_id ++ named first) (unsigned_message two end second.original_id ++ named second) together in
    let parts = same_back (unsigned_message one place first.original_id) (named first) (unsigned_message two end second.original_id) (named second) lengths inner in
    let count : List ℕ → List ℕ = λ (m : List ℕ). to_be_bytes w16 (number_at m 10 - 1) in
    let ids = same_front (to_be_bytes w16 first.original_id) (slice_range one 2 10 ++ (count one ++ slice_range one 12 place)) (to_be_bytes w16 second.original_id) (slice_range two 2 10 ++ (count two ++ slice_range two 12 end)) refl parts.front in
    let flags = same_front (slice_range one 2 10) (count one ++ slice_range one 12 place) (slice_range two 2 10) (count two ++ slice_range two 12 end)
    (flags_length one (omega arith) ∙ sym (flags_length two (omega arith))) ids.rest in
    let counts = same_front (count one) (slice_range one 12 place) (count two) (slice_range two 12 end) refl flags.rest in
    let less : number_at one 10 - 1 ≡ number_at two 10 - 1 = same_16 (number_at one 10 - 1) (number_at two 10 - 1) (omega arith) (omega arith) counts.front in
    let by_name = append_cancel_left key.name.items (class_and_ttl ++ (algorithm_name key.algorithm ++ tail first)) (class_and_ttl ++ (algorithm_name key.algorithm ++ tail second)) parts.rest in
    let by_class = append_cancel_left class_and_ttl (algorithm_name key.algorithm ++ tail first) (algorithm_name key.algorithm ++ tail second) by_name in
    let by_algorithm = append_cancel_left (algorithm_name key.algorithm) (tail first) (tail second) by_class in
    let times = same_front (drop 2 (to_be_bytes w64 first.time)) (to_be_bytes w16 first.fudge ++ outcome first.error first.other) (drop 2 (to_be_bytes w64 second.time)) (to_be_bytes w16 second.fudge ++ outcome second.error second.other) refl by_algorithm in
    let fudges = same_front (to_be_bytes w16 first.fudge) (outcome first.error first.other) (to_be_bytes w16 second.fudge) (outcome second.error second.other) refl times.rest in
    let errors = same_front (to_be_bytes w16 first.error) (to_be_bytes w16 (length first.other) ++ first.other) (to_be_bytes w16 second.error) (to_be_bytes w16 (length second.other) ++ second.other) refl fudges.rest in
    let others = same_front (to_be_bytes w16 (length first.other)) first.other (to_be_bytes w16 (length second.other)) second.other refl errors.rest in
    record {
      flags_and_counts = flags.front;
      additionals = omega arith;
      sections = counts.rest;
      original_id = same_16 first.original_id second.original_id f.original_id g.original_id ids.front;
      time = same_time first.time second.time f.time g.time times.front;
      fudge = same_16 first.fudge second.fudge f.fudge g.fudge fudges.front;
      error = same_16 first.error second.error f.error g.error errors.front;
      other = others.rest;
    }
