-- Labels that are stored as they are encoded, each after its length.
use Rattle.std.proofs.Common.{◌≡◌, ℕ, zero, suc, ◌+◌, ◌-◌, ◌<◌, ◌≤◌, List, [], ◌∷◌, ◌++◌, length, take, drop, map, get_or, refl, sym, ap, subst, ◌∙◌, append_assoc, arith, length-append, add-one}
use Rattle.std.specs.List.{AllByRecursion}
use Rattle.std.specs.Prelude.{slice_range, slice_get, Some}
use Rattle.std.proofs.lemmas.List.{take_all, drop_all, append-nil, drop_at, take_at, length-map, take-append-drop}
use Rattle.dns_wire.specs.Name.{IsLabel, name_len, AreLabels}
use Rattle.dns_wire.specs.Writing.{labels_form}
use Rattle.dns_wire.proofs.NameLaws.{length-labels_form}
use Rattle.dns_names.specs.internal.Name.{labels_in, IsRun, IsWire}

-- ---- what encodes labels, decodes to them

labels_in-form : (labels : List (List ℕ)) → labels_in (length labels) (labels_form labels) ≡ labels
labels_in-form [] = refl
labels_in-form (l ∷ labels) =
    rw (take_at l (labels_form labels) (length l) refl, drop_at l (labels_form labels) (length l) refl) (ap (λ (ls : List (List ℕ)). l ∷ ls) (labels_in-form labels))

pub labels_are : (count : ℕ) (bytes : List ℕ) (labels : List (List ℕ)) → bytes ≡ labels_form labels → count ≡ length labels → labels_in count bytes ≡ labels
labels_are count bytes labels form many = rw (form, many) (labels_in-form labels)

pub is_run : (count : ℕ) (bytes : List ℕ) (labels : List (List ℕ)) → bytes ≡ labels_form labels → count ≡ length labels → AllByRecursion IsLabel labels → IsRun count bytes
is_run count bytes labels form many each =
    let same : labels ≡ labels_in count bytes = sym (labels_are count bytes labels form many) in
    record {
      form = form ∙ ap labels_form same;
      many = sym (ap (λ (ls : List (List ℕ)). length ls) same) ∙ sym many;
      each = subst (λ (ls : List (List ℕ)). AllByRecursion IsLabel ls) same each;
    }

pub is_wire : (count : ℕ) (bytes : List ℕ) (labels : List (List ℕ)) → bytes ≡ labels_form labels → count ≡ length labels → AreLabels labels → IsWire count bytes
is_wire count bytes labels form many are =
    let same : labels ≡ labels_in count bytes = sym (labels_are count bytes labels form many) in
    record {
      form = form ∙ ap labels_form same;
      many = sym (ap (λ (ls : List (List ℕ)). length ls) same) ∙ sym many;
      are = subst AreLabels same are;
    }

pub no_labels : AreLabels []
no_labels = record { each = tt; fits = omega arith }

-- ---- lengths

pub len_is : (count : ℕ) (bytes : List ℕ) → IsWire count bytes → name_len (labels_in count bytes) ≡ length bytes + 1
len_is count bytes w = omega (arith, ap (λ (xs : List ℕ). length xs) w.form, length-labels_form (labels_in count bytes))

-- ---- labels one after another

pub labels_form-append : (a b : List (List ℕ)) → labels_form (a ++ b) ≡ labels_form a ++ labels_form b
labels_form-append [] b = refl
labels_form-append (l ∷ a) b =
    ap (λ (xs : List ℕ). length l ∷ (l ++ xs)) (labels_form-append a b) ∙ ap (λ (xs : List ℕ). length l ∷ xs) (sym (append_assoc l (labels_form a) (labels_form b)))

pub form-push : (labels : List (List ℕ)) (label : List ℕ) → labels_form (labels ++ label ∷ []) ≡ (labels_form labels ++ length label ∷ []) ++ label
form-push labels label =
    labels_form-append labels (label ∷ []) ∙ ap (λ (xs : List ℕ). labels_form labels ++ length label ∷ xs) (append-nil label)
    ∙ sym (append_assoc (labels_form labels) (length label ∷ []) label)

each-append : (a b : List (List ℕ)) → AllByRecursion IsLabel a → AllByRecursion IsLabel b → AllByRecursion IsLabel (a ++ b)
each-append [] b all more = more
each-append (l ∷ a) b all more = (all.0, each-append a b all.1 more)

pub are-append : (a b : List (List ℕ)) → AllByRecursion IsLabel a → AllByRecursion IsLabel b → name_len (a ++ b) ≤ 255 → AreLabels (a ++ b)
are-append a b all more fits = record { each = each-append a b all more; fits = fits }

pub labels_form-split : (i : ℕ) (labels : List (List ℕ)) → labels_form labels ≡ labels_form (take i labels) ++ labels_form (drop i labels)
labels_form-split i labels = ap labels_form (sym (take-append-drop i labels)) ∙ labels_form-append (take i labels) (drop i labels)

pub front_le : (i : ℕ) (labels : List (List ℕ)) → length (labels_form (take i labels)) ≤ length (labels_form labels)
front_le i labels = omega (arith, ap (λ (xs : List ℕ). length xs) (labels_form-split i labels), length-append (labels_form (take i labels)) (labels_form (drop i labels)))

-- the bytes after the first labels
pub form-after : (i : ℕ) (labels : List (List ℕ)) → drop (length (labels_form (take i labels))) (labels_form labels) ≡ labels_form (drop i labels)
form-after i labels = ap (drop (length (labels_form (take i labels)))) (labels_form-split i labels) ∙ drop_at (labels_form (take i labels)) (labels_form (drop i labels)) _ refl

-- ---- one label

pub slice_get_or : (labels : List (List ℕ)) (i : ℕ) → i < length labels → slice_get labels i ≡ Some (get_or labels i [])
slice_get_or [] i lt = absurd (omega arith)
slice_get_or (l ∷ labels) zero lt = refl
slice_get_or (l ∷ labels) (suc i) lt = slice_get_or labels i (omega arith)

pub label_or : (labels : List (List ℕ)) (i : ℕ) → AllByRecursion IsLabel labels → i < length labels → IsLabel (get_or labels i [])
label_or [] i all lt = absurd (omega arith)
label_or (l ∷ labels) zero all lt = all.0
label_or (l ∷ labels) (suc i) all lt = label_or labels i all.1 (omega arith)

pub drop-first : (labels : List (List ℕ)) (i : ℕ) → i < length labels → drop i labels ≡ get_or labels i [] ∷ drop (i + 1) labels
drop-first labels i lt = rw add-one (go labels i lt)
  where
    go : (labels : List (List ℕ)) (i : ℕ) → i < length labels → drop i labels ≡ get_or labels i [] ∷ drop (suc i) labels
    go [] i lt = absurd (omega arith)
    go (l ∷ labels) zero lt = refl
    go (l ∷ labels) (suc i) lt = go labels i (omega arith)

pub take-next : (labels : List (List ℕ)) (i : ℕ) → i < length labels → take (i + 1) labels ≡ take i labels ++ get_or labels i [] ∷ []
take-next labels i lt = rw add-one (go labels i lt)
  where
    go : (labels : List (List ℕ)) (i : ℕ) → i < length labels → take (suc i) labels ≡ take i labels ++ get_or labels i [] ∷ []
    go [] i lt = absurd (omega arith)
    go (l ∷ labels) zero lt = refl
    go (l ∷ labels) (suc i) lt = ap (λ (ls : List (List ℕ)). l ∷ ls) (go labels i (omega arith))

-- the byte after the first labels is the length of the next
pub len_after : (labels : List (List ℕ)) (i : ℕ) → i < length labels → get_or (labels_form labels) (length (labels_form (take i labels))) 0 ≡ length (get_or labels i [])
len_after (l ∷ labels) zero lt = refl
len_after [] i lt = absurd (omega arith)
len_after (l ∷ labels) (suc i) lt = at l (labels_form labels) (length (labels_form (take i labels))) (length (labels_form (take (suc i) (l ∷ labels)))) (omega (arith, length-append l (labels_form (take i labels)))) ∙ len_after labels i (omega arith)
  where
    past : (xs ys : List ℕ) (n k : ℕ) → k ≡ length xs + n → get_or (xs ++ ys) k 0 ≡ get_or ys n 0
    past [] ys n k e = let same : k ≡ n = omega arith in ap (λ (m : ℕ). get_or ys m 0) same
    past (x ∷ xs) ys n zero e = absurd (omega arith)
    past (x ∷ xs) ys n (suc k) e = past xs ys n k (omega arith)

    at : (l rest : List ℕ) (n place : ℕ) → place ≡ 1 + (length l + n) → get_or (length l ∷ (l ++ rest)) place 0 ≡ get_or rest n 0
    at l rest n place e = past (length l ∷ l) rest n place (omega arith)

pub front-next : (labels : List (List ℕ)) (i : ℕ) → i < length labels → length (labels_form (take (i + 1) labels)) ≡ length (labels_form (take i labels)) + (length (get_or labels i []) + 1)
front-next labels i lt =
    let parts : labels_form (take (i + 1) labels) ≡ (labels_form (take i labels) ++ length (get_or labels i []) ∷ []) ++ get_or labels i [] =
    ap labels_form (take-next labels i lt) ∙ form-push (take i labels) (get_or labels i []) in
    omega (arith, ap (λ (xs : List ℕ). length xs) parts, length-append (labels_form (take i labels) ++ length (get_or labels i []) ∷ []) (get_or labels i []), length-append (labels_form (take i labels)) (length (get_or labels i []) ∷ []))

-- a label that is cut from what begins with it
pub first_label : (bytes label rest : List ℕ) → bytes ≡ length label ∷ (label ++ rest) → slice_range bytes 1 (get_or bytes 0 0 + 1) ≡ label
first_label bytes label rest e =
    let len : (length label + 1) - 1 ≡ length label = omega arith in
    ap (λ (xs : List ℕ). slice_range xs 1 (get_or xs 0 0 + 1)) e ∙ ap (λ (n : ℕ). take n (label ++ rest)) len ∙ take_at label rest (length label) refl

-- the bytes from a label on begin with its length
pub begins_with : (bytes : List ℕ) (labels : List (List ℕ)) (i : ℕ) → bytes ≡ labels_form (drop i labels) → i < length labels
    → bytes ≡ length (get_or labels i []) ∷ (get_or labels i [] ++ labels_form (drop (i + 1) labels))
begins_with bytes labels i form lt = form ∙ ap labels_form (drop-first labels i lt)

pub taken_label : (bytes label rest : List ℕ) → bytes ≡ length label ∷ (label ++ rest) → take (get_or bytes 0 0) (drop 1 bytes) ≡ label
taken_label bytes label rest e =
    ap (λ (xs : List ℕ). take (get_or xs 0 0) (drop 1 xs)) e ∙ take_at label rest (length label) refl

pub after_label : (bytes label rest : List ℕ) → bytes ≡ length label ∷ (label ++ rest) → drop (get_or bytes 0 0 + 1) bytes ≡ rest
after_label bytes label rest e =
    ap (λ (xs : List ℕ). drop (get_or xs 0 0 + 1) xs) e ∙ rw add-one (drop_at label rest (length label) refl)

-- ---- each byte changed

pub labels_form-map : (f : ℕ → ℕ) (labels : List (List ℕ)) → ((n : ℕ) → n < 64 → f n ≡ n) → AllByRecursion IsLabel labels → map f (labels_form labels) ≡ labels_form (map (map f) labels)
labels_form-map f [] keeps all = refl
labels_form-map f (l ∷ labels) keeps all =
    let len : f (length l) ≡ length (map f l) = keeps (length l) all.0.most ∙ sym (length-map l f) in
    let parts : map f (l ++ labels_form labels) ≡ map f l ++ labels_form (map (map f) labels) = mapped l (labels_form labels) ∙ ap (λ (xs : List ℕ). map f l ++ xs) (labels_form-map f labels keeps all.1) in
    ap (λ (n : ℕ). n ∷ map f (l ++ labels_form labels)) len ∙ ap (λ (xs : List ℕ). length (map f l) ∷ xs) parts
  where
    mapped : (a b : List ℕ) → map f (a ++ b) ≡ map f a ++ map f b
    mapped [] b = refl
    mapped (x ∷ a) b = ap (λ (xs : List ℕ). f x ∷ xs) (mapped a b)

-- ---- the bytes changed in place

refill_all : (old new : List ℕ) → length new ≡ length old → take (length old) (new ++ drop (length new) old) ≡ new
refill_all old new same = rw (drop_all (length new) old (omega arith), append-nil) (take_all (length old) new (omega arith))

pub refill_map : (f : ℕ → ℕ) (old lent new : List ℕ) → lent ≡ old → new ≡ map f lent → take (length old) (new ++ drop (length new) old) ≡ map f old
refill_map f old lent new same changed =
    let all : new ≡ map f old = changed ∙ ap (map f) same in
    refill_all old new (ap (λ (xs : List ℕ). length xs) all ∙ length-map old f) ∙ all
