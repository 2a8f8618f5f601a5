-- The types of a bitmap are encoded as the bitmap.
use Rattle.std.proofs.Common.{◌≡◌, ℕ, zero, suc, ◌+◌, ◌-◌, ◌*◌, ◌/◌, ◌%◌, ◌<◌, ◌≤◌, max, Bool, true, false, ◌&&◌, ◌||◌, List, [], ◌∷◌, ◌++◌, length, refl, sym, ap, subst, ◌∙◌, append_assoc, arith}
use Rattle.std.specs.Prelude.{◌==◌, ◌≢◌, not, nat_le, if◌then◌else◌}
use Rattle.std.specs.List.{AllByRecursion}
use Rattle.std.proofs.lemmas.Bool.Decides.{nat_tests}
use Rattle.std.proofs.lemmas.List.{append-nil}
use Rattle.dns_fields.specs.bitmaps.Bitmap.{weights, has_type, octet_of, octets_from, octets_needed, block_of, block, blocks, bitmap_of, types_of_octet, types_of_octets, types_of, is_bitmap}

-- ---- tests

equal : (n m : ℕ) → (n == m) ≡ true → n ≡ m
equal n m q = grind (arith, nat_tests)

differ : (n m : ℕ) → n ≢ m → (n == m) ≡ false
differ n m other = by (n == m) refl
  where
    by : (b : Bool) → (n == m) ≡ b → (n == m) ≡ false
    by true q = absurd (other (equal n m q))
    by false q = q

same : (n m : ℕ) → n ≡ m → (n == m) ≡ true
same n m e = grind (arith, nat_tests)

other_than : (n m : ℕ) → (n == m) ≡ false → n ≡ m → ⊥
other_than n m q e = let yes : (n == m) ≡ true = same n m e in absurd (cc)

at_most : (n m : ℕ) → nat_le n m ≡ true → n ≤ m
at_most n m q = grind (arith, nat_tests)

above : (n m : ℕ) → nat_le n m ≡ false → m < n
above n m q = grind (arith, nat_tests)

first_of : (a b : Bool) → (a && b) ≡ true → a ≡ true
first_of true b e = refl
first_of false b e = e

second_of : (a b : Bool) → (a && b) ≡ true → b ≡ true
second_of true b e = e
second_of false b e = absurd (cc)

-- ---- lists

all_map : (P Q : ℕ → Type 0) → ((t : ℕ) → P t → Q t) → (xs : List ℕ) → AllByRecursion P xs → AllByRecursion Q xs
all_map P Q f [] are = tt
all_map P Q f (x ∷ xs) are = (f x are.0, all_map P Q f xs are.1)

all_append : (P : ℕ → Type 0) (xs ys : List ℕ) → AllByRecursion P xs → AllByRecursion P ys → AllByRecursion P (xs ++ ys)
all_append P [] ys are more = more
all_append P (x ∷ xs) ys are more = (are.0, all_append P xs ys are.1 more)

-- ---- whether a type is among others

none_there : (types : List ℕ) (m : ℕ) → AllByRecursion (λ t. t ≢ m) types → has_type types m ≡ false
none_there [] m are = refl
none_there (x ∷ xs) m are = ap (λ (b : Bool). b || has_type xs m) (differ x m are.0) ∙ none_there xs m are.1

absent_first : (a b : List ℕ) (m : ℕ) → AllByRecursion (λ t. t ≢ m) a → has_type (a ++ b) m ≡ has_type b m
absent_first [] b m are = refl
absent_first (x ∷ xs) b m are = ap (λ (t : Bool). t || has_type (xs ++ b) m) (differ x m are.0) ∙ absent_first xs b m are.1

absent_last : (a b : List ℕ) (m : ℕ) → AllByRecursion (λ t. t ≢ m) b → has_type (a ++ b) m ≡ has_type a m
absent_last [] b m are = none_there b m are
absent_last (x ∷ xs) b m are = ap (λ (t : Bool). x == m || t) (absent_last xs b m are)

-- ---- octets

octet_same : (ws types others : List ℕ) (number : ℕ) → ((m : ℕ) → number ≤ m → m < number + length ws → has_type types m ≡ has_type others m)
    → octet_of ws types number ≡ octet_of ws others number
octet_same [] types others number alike = refl
octet_same (w ∷ ws) types others number alike =
    ap (λ (b : Bool). (if b then w else 0) + octet_of ws types (number + 1)) (alike number (omega arith) (omega arith))
    ∙ ap (λ (n : ℕ). (if has_type others number then w else 0) + n) (octet_same ws types others (number + 1) (λ m low high. alike m (omega arith) (omega arith)))

within_octet : (ws : List ℕ) (number octet : ℕ) → AllByRecursion (λ t. (number ≤ t) × (t < number + length ws)) (types_of_octet ws number octet)
within_octet [] number octet = tt
within_octet (w ∷ ws) number octet = by (nat_le w octet) (λ left. within_octet ws (number + 1) left)
  where
    by : (b : Bool) → ((left : ℕ) → AllByRecursion (λ t. (number + 1 ≤ t) × (t < number + 1 + length ws)) (types_of_octet ws (number + 1) left))
        → AllByRecursion (λ t. (number ≤ t) × (t < number + length (w ∷ ws)))
        ((if b then number ∷ [] else []) ++ types_of_octet ws (number + 1) (if b then octet - w else octet))
    by true rest = ((omega arith, omega arith), all_map _ _ (λ t p. let low = p.0 in let high = p.1 in (omega arith, omega arith)) (types_of_octet ws (number + 1) (octet - w)) (rest (octet - w)))
    by false rest = all_map _ _ (λ t p. let low = p.0 in let high = p.1 in (omega arith, omega arith)) (types_of_octet ws (number + 1) octet) (rest octet)

-- each weight is half of the one before
abbrev IsHalved : List ℕ → ℕ → Type 0
IsHalved [] bound = bound ≡ 1
IsHalved (w ∷ ws) bound = (bound ≡ w + w) × IsHalved ws w

octet_back : (ws : List ℕ) (bound number octet : ℕ) → IsHalved ws bound → octet < bound → octet_of ws (types_of_octet ws number octet) number ≡ octet
octet_back [] bound number octet is small = omega arith
octet_back (w ∷ ws) bound number octet is small = by (nat_le w octet) refl (λ left few. octet_back ws w (number + 1) left is.1 few)
  where
    twice : bound ≡ w + w
    twice = is.0

    set : octet_of ws (types_of_octet ws (number + 1) (octet - w)) (number + 1) ≡ octet - w → w ≤ octet
        → octet_of (w ∷ ws) (number ∷ types_of_octet ws (number + 1) (octet - w)) number ≡ octet
    set back le =
        let types : List ℕ = types_of_octet ws (number + 1) (octet - w) in
        let alike : octet_of ws (number ∷ types) (number + 1) ≡ octet_of ws types (number + 1) =
        octet_same ws (number ∷ types) types (number + 1) (λ m low high. ap (λ (b : Bool). b || has_type types m) (differ number m (λ e. absurd (omega arith)))) in
        let whole : w + (octet - w) ≡ octet = omega arith in
        ap (λ (b : Bool). (if b || has_type types number then w else 0) + octet_of ws (number ∷ types) (number + 1)) (same number number refl)
        ∙ ap (λ (n : ℕ). w + n) (alike ∙ back) ∙ whole

    clear : octet_of ws (types_of_octet ws (number + 1) octet) (number + 1) ≡ octet → octet < w
        → octet_of (w ∷ ws) (types_of_octet ws (number + 1) octet) number ≡ octet
    clear back lt =
        let types : List ℕ = types_of_octet ws (number + 1) octet in
        let none : has_type types number ≡ false =
        none_there types number (all_map _ _ (λ t p. λ e. let low = p.0 in absurd (omega arith)) types (within_octet ws (number + 1) octet)) in
        let rest : 0 + octet_of ws types (number + 1) ≡ octet = omega (arith, back) in
        ap (λ (b : Bool). (if b then w else 0) + octet_of ws types (number + 1)) none ∙ rest

    by : (b : Bool) → nat_le w octet ≡ b → ((left : ℕ) → left < w → octet_of ws (types_of_octet ws (number + 1) left) (number + 1) ≡ left)
        → octet_of (w ∷ ws) ((if b then number ∷ [] else []) ++ types_of_octet ws (number + 1) (if b then octet - w else octet)) number ≡ octet
    by true q back = let le = at_most w octet q in set (back (octet - w) (omega (arith, twice))) le
    by false q back = let lt = above w octet q in clear (back octet lt) lt

halved : IsHalved weights 256
halved = (refl, (refl, (refl, (refl, (refl, (refl, (refl, (refl, refl))))))))

octets_same : (count base : ℕ) (types others : List ℕ) → ((m : ℕ) → base ≤ m → m < base + 8 * count → has_type types m ≡ has_type others m)
    → octets_from types base count ≡ octets_from others base count
octets_same zero base types others alike = refl
octets_same (suc count) base types others alike =
    ap (λ (o : ℕ). o ∷ octets_from types (base + 8) count) (octet_same weights types others base (λ m low high. alike m low (omega arith)))
    ∙ ap (λ (l : List ℕ). octet_of weights others base ∷ l) (octets_same count (base + 8) types others (λ m low high. alike m (omega arith) (omega arith)))

within_octets : (base : ℕ) (octets : List ℕ) → AllByRecursion (λ t. (base ≤ t) × (t < base + 8 * length octets)) (types_of_octets base octets)
within_octets base [] = tt
within_octets base (c ∷ cs) =
    all_append _ (types_of_octet weights base c) (types_of_octets (base + 8) cs)
    (all_map _ _ (λ t p. let low = p.0 in let high = p.1 in (low, omega arith)) (types_of_octet weights base c) (within_octet weights base c))
    (all_map _ _ (λ t p. let low = p.0 in let high = p.1 in (omega arith, omega arith)) (types_of_octets (base + 8) cs) (within_octets (base + 8) cs))

octets_back : (octets : List ℕ) (base : ℕ) → AllByRecursion (λ c. c < 256) octets → octets_from (types_of_octets base octets) base (length octets) ≡ octets
octets_back [] base are = refl
octets_back (c ∷ cs) base are =
    let here : List ℕ = types_of_octet weights base c in
    let more : List ℕ = types_of_octets (base + 8) cs in
    let front : octet_of weights (here ++ more) base ≡ octet_of weights here base =
    octet_same weights (here ++ more) here base (λ m low high. absent_last here more m (all_map _ _ (λ t p. let from = p.0 in omega arith) more (within_octets (base + 8) cs))) in
    let rest : octets_from (here ++ more) (base + 8) (length cs) ≡ octets_from more (base + 8) (length cs) =
    octets_same (length cs) (base + 8) (here ++ more) more (λ m low high. absent_first here more m (all_map _ _ (λ t p. let below = p.1 in omega arith) here (within_octet weights base c))) in
    ap (λ (o : ℕ). o ∷ octets_from (here ++ more) (base + 8) (length cs)) (front ∙ octet_back weights 256 base c halved are.0)
    ∙ ap (λ (l : List ℕ). c ∷ l) (rest ∙ octets_back cs (base + 8) are.1)

-- ---- how many octets a window needs

needed_append : (s : ℕ) (a b : List ℕ) (w : ℕ) → octets_needed s (a ++ b) w ≡ octets_needed (octets_needed s a w) b w
needed_append s [] b w = refl
needed_append s (x ∷ xs) b w = needed_append (if x / 256 == w then max s (x % 256 / 8 + 1) else s) xs b w

none_needed : (s : ℕ) (xs : List ℕ) (w : ℕ) → AllByRecursion (λ t. t / 256 ≢ w) xs → octets_needed s xs w ≡ s
none_needed s [] w are = refl
none_needed s (x ∷ xs) w are =
    ap (λ (b : Bool). octets_needed (if b then max s (x % 256 / 8 + 1) else s) xs w) (differ (x / 256) w are.0) ∙ none_needed s xs w are.1

abbrev InOctet : ℕ → ℕ → List ℕ → Type 0
InOctet w j types = AllByRecursion (λ t. (256 * w + 8 * j ≤ t) × (t < 256 * w + 8 * j + 8)) types

one_needed : (j s w t : ℕ) → 256 * w + 8 * j ≤ t → t < 256 * w + 8 * j + 8 → j < 32 → s ≤ j + 1
    → (if t / 256 == w then max s (t % 256 / 8 + 1) else s) ≡ j + 1
one_needed j s w t low high few le =
    let window : t / 256 ≡ w = omega arith in
    let place : t % 256 / 8 ≡ j = omega arith in
    ap (λ (b : Bool). if b then max s (t % 256 / 8 + 1) else s) (same (t / 256) w window) ∙ ap (λ (n : ℕ). max s (n + 1)) place ∙ omega arith

still_needed : (j w : ℕ) (types : List ℕ) → InOctet w j types → j < 32 → octets_needed (j + 1) types w ≡ j + 1
still_needed j w [] are few = refl
still_needed j w (t ∷ ts) are few =
    ap (λ (n : ℕ). octets_needed n ts w) (one_needed j (j + 1) w t are.0.0 are.0.1 few (omega arith)) ∙ still_needed j w ts are.1 few

octet_needed : (j s w : ℕ) (types : List ℕ) → InOctet w j types → j < 32 → s ≤ j + 1 → types ≢ [] → octets_needed s types w ≡ j + 1
octet_needed j s w [] are few le some = absurd (some refl)
octet_needed j s w (t ∷ ts) are few le some = ap (λ (n : ℕ). octets_needed n ts w) (one_needed j s w t are.0.0 are.0.1 few le) ∙ still_needed j w ts are.1 few

few_needed : (j s w : ℕ) (types : List ℕ) → InOctet w j types → j < 32 → s ≤ j + 1 → octets_needed s types w ≤ j + 1
few_needed j s w [] are few le = le
few_needed j s w (t ∷ ts) are few le =
    let e : octets_needed s (t ∷ ts) w ≡ j + 1 = octet_needed j s w (t ∷ ts) are few le (λ q. absurd (cc)) in omega arith

-- at least one octet, the last of which is not zero
abbrev Ends : List ℕ → Type 0
Ends [] = ⊥
Ends (c ∷ []) = c ≢ 0
Ends (c ∷ d ∷ cs) = Ends (d ∷ cs)

some_types : (base c : ℕ) → c < 256 → c ≢ 0 → types_of_octet weights base c ≢ []
some_types base c small some e = some (sym (octet_back weights 256 base c halved small) ∙ ap (λ (types : List ℕ). octet_of weights types base) e)

in_octet : (w j c : ℕ) → InOctet w j (types_of_octet weights (256 * w + 8 * j) c)
in_octet w j c = within_octet weights (256 * w + 8 * j) c

octets_needed_is : (octets : List ℕ) (j s w : ℕ) → Ends octets → j + length octets ≤ 32 → s ≤ j → AllByRecursion (λ c. c < 256) octets
    → octets_needed s (types_of_octets (256 * w + 8 * j) octets) w ≡ j + length octets
octets_needed_is [] j s w ends few le are = absurd ends
octets_needed_is (c ∷ []) j s w ends few le are =
    ap (λ (l : List ℕ). octets_needed s l w) (append-nil (types_of_octet weights (256 * w + 8 * j) c))
    ∙ octet_needed j s w (types_of_octet weights (256 * w + 8 * j) c) (in_octet w j c) (omega arith) (omega arith) (some_types (256 * w + 8 * j) c are.0 ends)
octets_needed_is (c ∷ d ∷ cs) j s w ends few le are =
    let here : List ℕ = types_of_octet weights (256 * w + 8 * j) c in
    let next : 256 * w + 8 * j + 8 ≡ 256 * w + 8 * (j + 1) = omega arith in
    let sofar : octets_needed s here w ≤ j + 1 = few_needed j s w here (in_octet w j c) (omega arith) (omega arith) in
    needed_append s here (types_of_octets (256 * w + 8 * j + 8) (d ∷ cs)) w
    ∙ ap (λ (b : ℕ). octets_needed (octets_needed s here w) (types_of_octets b (d ∷ cs)) w) next
    ∙ octets_needed_is (d ∷ cs) (j + 1) (octets_needed s here w) w ends (omega arith) sofar are.1
    ∙ omega arith

-- ---- blocks

base_free : (b : ℕ) (bytes : List ℕ) → types_of b 0 bytes ≡ types_of 0 0 bytes
base_free b [] = refl
base_free b (w ∷ []) = refl
base_free b (w ∷ n ∷ rest) = refl

-- a block's octets, and the blocks after them
record IsBlock (least base count : ℕ) (rest : List ℕ) : Type 0 where
  octets : List ℕ
  more : List ℕ
  bytes : rest ≡ octets ++ more
  len : length octets ≡ count
  ends : Ends octets
  after : is_bitmap least 0 more ≡ true
  types : types_of base count rest ≡ types_of_octets base octets ++ types_of 0 0 more

not_zero : (c : ℕ) → not (c == 0) ≡ true → c ≢ 0
not_zero c e is = absurd (grind (arith, nat_tests))

longer : (c : ℕ) (octets : List ℕ) → Ends octets → Ends (c ∷ octets)
longer c [] ends = absurd ends
longer c (d ∷ ds) ends = ends

split_block : (count least base : ℕ) (rest : List ℕ) → is_bitmap least (suc count) rest ≡ true → IsBlock least base (suc count) rest
split_block zero least base [] e = absurd (cc)
split_block zero least base (c ∷ more) e = record {
  octets = c ∷ [];
  more = more;
  bytes = refl;
  len = refl;
  ends = not_zero c (first_of (not (c == 0)) (is_bitmap least 0 more) e);
  after = second_of (not (c == 0)) (is_bitmap least 0 more) e;
  types = ap (λ (l : List ℕ). types_of_octet weights base c ++ l) (base_free (base + 8) more)
      ∙ ap (λ (l : List ℕ). l ++ types_of 0 0 more) (sym (append-nil (types_of_octet weights base c)));
}
split_block (suc count) least base [] e = absurd (cc)
split_block (suc count) least base (c ∷ rest) e =
    let b = split_block count least (base + 8) rest e in
    record {
      octets = c ∷ b.octets;
      more = b.more;
      bytes = ap (λ (l : List ℕ). c ∷ l) b.bytes;
      len = ap suc b.len;
      ends = longer c b.octets b.ends;
      after = b.after;
      types = ap (λ (l : List ℕ). types_of_octet weights base c ++ l) b.types
          ∙ sym (append_assoc (types_of_octet weights base c) (types_of_octets (base + 8) b.octets) (types_of 0 0 b.more));
    }

-- the types of a bitmap are those of its windows
from_least : (least base left lower : ℕ) (bytes : List ℕ) → is_bitmap least left bytes ≡ true → lower ≤ base → lower ≤ 256 * least
    → AllByRecursion (λ t. lower ≤ t) (types_of base left bytes)
from_least least base zero lower [] e low le = tt
from_least least base zero lower (w ∷ []) e low le = absurd (cc)
from_least least base zero lower (w ∷ n ∷ rest) e low le =
    let up : least ≤ w = at_most least w (first_of (nat_le least w) _ e) in
    from_least (w + 1) (256 * w) n lower rest (second_of (nat_le n 32) _ (second_of (nat_le 1 n) _ (second_of (nat_le least w) _ e))) (omega arith) (omega arith)
from_least least base (suc zero) lower [] e low le = absurd (cc)
from_least least base (suc (suc left)) lower [] e low le = absurd (cc)
from_least least base (suc zero) lower (c ∷ rest) e low le =
    all_append _ (types_of_octet weights base c) (types_of (base + 8) 0 rest)
    (all_map _ _ (λ t p. let from = p.0 in omega arith) (types_of_octet weights base c) (within_octet weights base c))
    (from_least least (base + 8) 0 lower rest (second_of (not (c == 0)) _ e) (omega arith) le)
from_least least base (suc (suc left)) lower (c ∷ rest) e low le =
    all_append _ (types_of_octet weights base c) (types_of (base + 8) (suc left) rest)
    (all_map _ _ (λ t p. let from = p.0 in omega arith) (types_of_octet weights base c) (within_octet weights base c))
    (from_least least (base + 8) (suc left) lower rest e (omega arith) le)

no_block : (types : List ℕ) (w : ℕ) → AllByRecursion (λ t. t / 256 ≢ w) types → block types w ≡ []
no_block types w are = ap (λ (n : ℕ). block_of types w n) (none_needed 0 types w are)

no_blocks : (types : List ℕ) (w k : ℕ) → AllByRecursion (λ t. t < 256 * w) types → blocks types w k ≡ []
unfolding blocks
no_blocks types w zero are = refl
no_blocks types w (suc k) are =
    ap (λ (l : List ℕ). l ++ blocks types (w + 1) k) (no_block types w (all_map _ _ (λ t p. λ e. absurd (omega arith)) types are))
    ∙ no_blocks types (w + 1) k (all_map _ _ (λ t p. omega arith) types are)

octets_split : (a b : List ℕ) → AllByRecursion (λ c. c < 256) (a ++ b) → AllByRecursion (λ c. c < 256) a × AllByRecursion (λ c. c < 256) b
octets_split [] b are = (tt, are)
octets_split (x ∷ xs) b are = let p = octets_split xs b are.1 in ((are.0, p.0), p.1)

-- the block of a window whose types lie between those before it and those after it
block_back : (before after octets : List ℕ) (w count : ℕ) → AllByRecursion (λ t. t < 256 * w) before → AllByRecursion (λ t. 256 * (w + 1) ≤ t) after
    → AllByRecursion (λ c. c < 256) octets → Ends octets → length octets ≡ suc count → suc count ≤ 32
    → block (before ++ (types_of_octets (256 * w) octets ++ after)) w ≡ w ∷ suc count ∷ octets
block_back before after octets w count low high are ends len few =
    let own : List ℕ = types_of_octets (256 * w) octets in
    let types : List ℕ = before ++ (own ++ after) in
    let start : 256 * w ≡ 256 * w + 8 * 0 = omega arith in
    let needs : octets_needed 0 types w ≡ suc count =
    needed_append 0 before (own ++ after) w
    ∙ ap (λ (n : ℕ). octets_needed n (own ++ after) w) (none_needed 0 before w (all_map _ _ (λ t p. λ e. absurd (omega arith)) before low))
    ∙ needed_append 0 own after w
    ∙ ap (λ (n : ℕ). octets_needed n after w)
    (ap (λ (b : ℕ). octets_needed 0 (types_of_octets b octets) w) start ∙ octets_needed_is octets 0 0 w ends (omega arith) (omega arith) are)
    ∙ none_needed (0 + length octets) after w (all_map _ _ (λ t p. λ e. absurd (omega arith)) after high)
    ∙ omega arith in
    let alike : octets_from types (256 * w) (suc count) ≡ octets_from own (256 * w) (suc count) =
    octets_same (suc count) (256 * w) types own (λ m from to.
    absent_first before (own ++ after) m (all_map _ _ (λ t p. omega arith) before low) ∙ absent_last own after m (all_map _ _ (λ t p. omega arith) after high)) in
    ap (λ (n : ℕ). block_of types w n) needs
    ∙ ap (λ (l : List ℕ). w ∷ suc count ∷ l) (alike ∙ ap (λ (n : ℕ). octets_from own (256 * w) n) (sym len) ∙ octets_back octets (256 * w) are)

-- what is known of the front of a bitmap
record IsFront (least w n : ℕ) (rest : List ℕ) : Type 0 where
  up : least ≤ w
  some : 1 ≤ n
  few : n ≤ 32
  more : is_bitmap (w + 1) n rest ≡ true

front : (least w n : ℕ) (rest : List ℕ) → is_bitmap least 0 (w ∷ n ∷ rest) ≡ true → IsFront least w n rest
front least w n rest e = record {
  up = at_most least w (first_of (nat_le least w) _ e);
  some = at_most 1 n (first_of (nat_le 1 n) _ (second_of (nat_le least w) _ e));
  few = at_most n 32 (first_of (nat_le n 32) _ (second_of (nat_le 1 n) _ (second_of (nat_le least w) _ e)));
  more = second_of (nat_le n 32) _ (second_of (nat_le 1 n) _ (second_of (nat_le least w) _ e));
}

le_is : (a b : ℕ) → a ≤ b → nat_le a b ≡ true
le_is a b le = grind (arith, nat_tests)

later_least : (least w n : ℕ) (rest : List ℕ) → least ≤ w → is_bitmap (w + 1) n rest ≡ true → 1 ≤ n → n ≤ 32 → is_bitmap least 0 (w ∷ n ∷ rest) ≡ true
later_least least w n rest up more some few =
    ap (λ (b : Bool). b && (nat_le 1 n && (nat_le n 32 && is_bitmap (w + 1) n rest))) (le_is least w up)
    ∙ ap (λ (b : Bool). b && (nat_le n 32 && is_bitmap (w + 1) n rest)) (le_is 1 n some)
    ∙ ap (λ (b : Bool). b && is_bitmap (w + 1) n rest) (le_is n 32 few) ∙ more

blocks_back : (k w : ℕ) (before bytes : List ℕ) → w + k ≡ 256 → AllByRecursion (λ t. t < 256 * w) before → AllByRecursion (λ c. c < 256) bytes → is_bitmap w 0 bytes ≡ true
    → blocks (before ++ types_of 0 0 bytes) w k ≡ bytes
unfolding blocks
blocks_back zero w before [] total low are is = refl
blocks_back zero w before (v ∷ []) total low are is = absurd (cc)
blocks_back zero w before (v ∷ n ∷ rest) total low are is = let f = front w v n rest is in let up = f.up in let small = are.0 in absurd (omega arith)
blocks_back (suc k) w before [] total low are is =
    ap (λ (l : List ℕ). blocks l w (suc k)) (append-nil before) ∙ no_blocks before w (suc k) low
blocks_back (suc k) w before (v ∷ []) total low are is = absurd (cc)
blocks_back (suc k) w before (v ∷ zero ∷ rest) total low are is = let f = front w v 0 rest is in let some = f.some in absurd (omega arith)
blocks_back (suc k) w before (v ∷ suc count ∷ rest) total low are is =
    by (w == v) refl (λ first bytes below octets sound. blocks_back k (w + 1) first bytes (omega arith) below octets sound)
  where
    f : IsFront w v (suc count) rest
    f = front w v (suc count) rest is

    here : ((first bytes : List ℕ) → AllByRecursion (λ t. t < 256 * (w + 1)) first → AllByRecursion (λ c. c < 256) bytes → is_bitmap (w + 1) 0 bytes ≡ true
        → blocks (first ++ types_of 0 0 bytes) (w + 1) k ≡ bytes)
        → w ≡ v → blocks (before ++ types_of 0 0 (v ∷ suc count ∷ rest)) w (suc k) ≡ v ∷ suc count ∷ rest
    here back e =
        let b = split_block count (v + 1) (256 * v) rest f.more in
        let p = octets_split b.octets b.more (subst (λ (l : List ℕ). AllByRecursion (λ c. c < 256) l) b.bytes are.1.1) in
        let own : List ℕ = types_of_octets (256 * w) b.octets in
        let after : List ℕ = types_of 0 0 b.more in
        let types : types_of 0 0 (v ∷ suc count ∷ rest) ≡ own ++ after =
        b.types ∙ ap (λ (n : ℕ). types_of_octets (256 * n) b.octets ++ after) (sym e) in
        let later : AllByRecursion (λ t. 256 * (w + 1) ≤ t) after =
        subst (λ (l : List ℕ). AllByRecursion (λ t. 256 * (w + 1) ≤ t) l) (base_free (256 * (w + 1)) b.more)
        (from_least (v + 1) (256 * (w + 1)) 0 (256 * (w + 1)) b.more b.after (omega arith) (omega arith)) in
        let few : suc count ≤ 32 = f.few in
        let len = b.len in
        let first : block (before ++ (own ++ after)) w ≡ w ∷ suc count ∷ b.octets = block_back before after b.octets w count low later p.0 b.ends len few in
        let next : is_bitmap (w + 1) 0 b.more ≡ true = ap (λ (n : ℕ). is_bitmap (n + 1) 0 b.more) e ∙ b.after in
        let wider : AllByRecursion (λ t. t < 256 * (w + 1)) (before ++ own) =
        all_append _ before own (all_map _ _ (λ t q. omega arith) before low) (all_map _ _ (λ t q. let high = q.1 in omega arith) own (within_octets (256 * w) b.octets)) in
        ap (λ (l : List ℕ). blocks (before ++ l) w (suc k)) types
        ∙ ap (λ (l : List ℕ). l ++ blocks (before ++ (own ++ after)) (w + 1) k) first
        ∙ ap (λ (l : List ℕ). (w ∷ suc count ∷ b.octets) ++ blocks l (w + 1) k) (sym (append_assoc before own after))
        ∙ ap (λ (l : List ℕ). (w ∷ suc count ∷ b.octets) ++ l) (back (before ++ own) b.more wider p.1 next)
        ∙ ap (λ (n : ℕ). n ∷ suc count ∷ (b.octets ++ b.more)) e
        ∙ ap (λ (l : List ℕ). v ∷ suc count ∷ l) (sym b.bytes)

    later : ((first bytes : List ℕ) → AllByRecursion (λ t. t < 256 * (w + 1)) first → AllByRecursion (λ c. c < 256) bytes → is_bitmap (w + 1) 0 bytes ≡ true
        → blocks (first ++ types_of 0 0 bytes) (w + 1) k ≡ bytes)
        → w ≢ v → blocks (before ++ types_of 0 0 (v ∷ suc count ∷ rest)) w (suc k) ≡ v ∷ suc count ∷ rest
    later back other =
        let up : w ≤ v = f.up in
        let types : List ℕ = types_of 0 0 (v ∷ suc count ∷ rest) in
        let from : AllByRecursion (λ t. 256 * (w + 1) ≤ t) types =
        from_least (v + 1) (256 * v) (suc count) (256 * (w + 1)) rest f.more (omega arith) (omega arith) in
        let none : block (before ++ types) w ≡ [] =
        no_block (before ++ types) w
        (all_append _ before types (all_map _ _ (λ t q. λ e. absurd (omega arith)) before low) (all_map _ _ (λ t q. λ e. absurd (omega arith)) types from)) in
        ap (λ (l : List ℕ). l ++ blocks (before ++ types) (w + 1) k) none
        ∙ back before (v ∷ suc count ∷ rest) (all_map _ _ (λ t q. omega arith) before low) are (later_least (w + 1) v (suc count) rest (omega arith) f.more f.some f.few)

    by : (b : Bool) → (w == v) ≡ b → ((first bytes : List ℕ) → AllByRecursion (λ t. t < 256 * (w + 1)) first → AllByRecursion (λ c. c < 256) bytes → is_bitmap (w + 1) 0 bytes ≡ true
        → blocks (first ++ types_of 0 0 bytes) (w + 1) k ≡ bytes)
        → blocks (before ++ types_of 0 0 (v ∷ suc count ∷ rest)) w (suc k) ≡ v ∷ suc count ∷ rest
    by true q back = here back (equal w v q)
    by false q back = later back (λ e. absurd (other_than w v q e))

pub bitmap_back : (bytes : List ℕ) → AllByRecursion (λ c. c < 256) bytes → is_bitmap 0 0 bytes ≡ true → bitmap_of (types_of 0 0 bytes) ≡ bytes
unfolding bitmap_of
bitmap_back bytes are is = blocks_back 256 0 [] bytes refl tt are is

-- types are numbers of 16 bits
pub types_small : (least base left : ℕ) (bytes : List ℕ) → is_bitmap least left bytes ≡ true → AllByRecursion (λ c. c < 256) bytes → base + 8 * left ≤ 65536
    → AllByRecursion (λ t. t < 65536) (types_of base left bytes)
types_small least base zero [] e are le = tt
types_small least base zero (w ∷ []) e are le = absurd (cc)
types_small least base zero (w ∷ n ∷ rest) e are le =
    let small = are.0 in
    let few : n ≤ 32 = at_most n 32 (first_of (nat_le n 32) _ (second_of (nat_le 1 n) _ (second_of (nat_le least w) _ e))) in
    types_small (w + 1) (256 * w) n rest (second_of (nat_le n 32) _ (second_of (nat_le 1 n) _ (second_of (nat_le least w) _ e))) are.1.1 (omega arith)
types_small least base (suc zero) [] e are le = absurd (cc)
types_small least base (suc (suc left)) [] e are le = absurd (cc)
types_small least base (suc zero) (c ∷ rest) e are le =
    all_append _ (types_of_octet weights base c) (types_of (base + 8) 0 rest)
    (all_map _ _ (λ t p. let high = p.1 in omega arith) (types_of_octet weights base c) (within_octet weights base c))
    (types_small least (base + 8) 0 rest (second_of (not (c == 0)) _ e) are.1 (omega arith))
types_small least base (suc (suc left)) (c ∷ rest) e are le =
    all_append _ (types_of_octet weights base c) (types_of (base + 8) (suc left) rest)
    (all_map _ _ (λ t p. let high = p.1 in omega arith) (types_of_octet weights base c) (within_octet weights base c))
    (types_small least (base + 8) (suc left) rest e are.1 (omega arith))
