-- Names without compression pointers, as they are read.
use Rattle.std.specs.Prelude.{slice_range}
use Rattle.std.proofs.Common.{◌≡◌, ℕ, ◌+◌, ◌-◌, ◌<◌, ◌≤◌, List, [], ◌∷◌, ◌++◌, length, take, drop, get_or, refl, sym, ap, subst, ◌∙◌, append_assoc, arith, length-append}
use Rattle.std.specs.List.{AllByRecursion}
use Rattle.std.proofs.lemmas.List.{take_all, append-nil, take_at, drop_at}
use Rattle.dns_wire.specs.Decoder.{Decoder, rest}
use Rattle.dns_wire.specs.Name.{IsLabel, AreLabels, name_len}
use Rattle.dns_wire.specs.Writing.{labels_form, whole_form}
use Rattle.dns_wire.specs.Reading.{ReadsName}
use Rattle.dns_wire.proofs.NameLaws.{length-labels_form, length-whole_form, whole_reads}
use Rattle.dns_names.specs.internal.Name.{labels_in}
use Rattle.dns_names.proofs.WireLaws.{form-push}
use Rattle.dns_message_bytes.specs.view.internal.PlainNames.{IsWhole, PassesLabels}

-- ---- the labels of an encoding

pub labels_in-front : (labels : List (List ℕ)) (more : List ℕ) → labels_in (length labels) (labels_form labels ++ more) ≡ labels
labels_in-front [] more = refl
labels_in-front (l ∷ labels) more =
    let parts : (l ++ labels_form labels) ++ more ≡ l ++ (labels_form labels ++ more) = append_assoc l (labels_form labels) more in
    rw (parts, take_at l (labels_form labels ++ more) (length l) refl, drop_at l (labels_form labels ++ more) (length l) refl) (ap (λ (ls : List (List ℕ)). l ∷ ls) (labels_in-front labels more))

pub labels_are : (count : ℕ) (bytes : List ℕ) (labels : List (List ℕ)) → bytes ≡ whole_form labels → length labels ≡ count → labels_in count bytes ≡ labels
labels_are count bytes labels form many = rw (form, sym many) (labels_in-front labels (0 ∷ []))

pub is_whole : (count : ℕ) (bytes : List ℕ) (labels : List (List ℕ)) → bytes ≡ whole_form labels → length labels ≡ count → AreLabels labels → IsWhole count bytes
is_whole count bytes labels form many are =
    let same : labels ≡ labels_in count bytes = sym (labels_are count bytes labels form many) in
    record {
      form = form ∙ ap whole_form same;
      many = sym (ap (λ (ls : List (List ℕ)). length ls) same) ∙ many;
      are = subst AreLabels same are;
    }

-- ---- what is read so far

-- so many labels are read
pub record Front (old : Decoder) (count : ℕ) (now : Decoder) : Type 0 where
  pub labels : List (List ℕ)
  pub read : rest old ≡ labels_form labels ++ rest now
  pub many : length labels ≡ count
  pub each : AllByRecursion IsLabel labels
  pub index : now.index ≡ old.index + length (labels_form labels)

-- of a name that the bytes begin with, these labels are left
pub record Left (old now : Decoder) (labels : List (List ℕ)) (more : List ℕ) : Type 0 where
  pub left : List (List ℕ)
  pub there : rest now ≡ whole_form left ++ more
  pub each : AllByRecursion IsLabel left
  pub fits : now.index + name_len left ≡ old.index + name_len labels

-- whatever name the bytes begin with, it goes on from here
abbrev pub Onward : Decoder → Decoder → Type 0
Onward old now = (labels : List (List ℕ)) (more : List ℕ) → AreLabels labels → rest old ≡ whole_form labels ++ more → Left old now labels more

-- the bytes begin with no name
abbrev pub NoName : Decoder → Type 0
NoName old = (labels : List (List ℕ)) (more : List ℕ) → AreLabels labels → rest old ≡ whole_form labels ++ more → ⊥

pub front-start : (old : Decoder) → Front old 0 old
front-start old = record { labels = []; read = refl; many = refl; each = tt; index = omega arith }

pub onward-start : (old : Decoder) → Onward old old
onward-start old = λ labels more are e. record { left = labels; there = e; each = are.each; fits = refl }

each-push : (labels : List (List ℕ)) (label : List ℕ) → AllByRecursion IsLabel labels → IsLabel label → AllByRecursion IsLabel (labels ++ label ∷ [])
each-push [] label each is = (is, tt)
each-push (l ∷ labels) label each is = (each.0, each-push labels label each.1 is)

pub many-push : (labels : List (List ℕ)) (label : List ℕ) → length (labels ++ label ∷ []) ≡ length labels + 1
many-push labels label = length-append labels (label ∷ [])

-- one more label
pub front-next : (old now next : Decoder) (count len : ℕ) (label : List ℕ) → Front old count now → rest now ≡ len ∷ (label ++ rest next) → length label ≡ len
    → 0 < len → len < 64 → next.index ≡ now.index + 1 + len → Front old (count + 1) next
front-next old now next count len label f e is_len some most index =
    let parts : labels_form (f.labels ++ label ∷ []) ≡ (labels_form f.labels ++ length label ∷ []) ++ label = form-push f.labels label in
    let here : rest now ≡ (length label ∷ label) ++ rest next = e ∙ ap (λ (n : ℕ). n ∷ (label ++ rest next)) (sym is_len) in
    let joined : labels_form f.labels ++ ((length label ∷ label) ++ rest next) ≡ ((labels_form f.labels ++ length label ∷ []) ++ label) ++ rest next =
    sym (append_assoc (labels_form f.labels) (length label ∷ label) (rest next))
    ∙ ap (λ (xs : List ℕ). xs ++ rest next) (sym (append_assoc (labels_form f.labels) (length label ∷ []) label)) in
    let size : length (labels_form (f.labels ++ label ∷ [])) ≡ length (labels_form f.labels) + (length label + 1) =
    omega (arith, ap (λ (xs : List ℕ). length xs) parts, length-append (labels_form f.labels ++ length label ∷ []) label, length-append (labels_form f.labels) (length label ∷ [])) in
    record {
      labels = f.labels ++ label ∷ [];
      read = f.read ∙ ap (λ (xs : List ℕ). labels_form f.labels ++ xs) here ∙ joined ∙ ap (λ (xs : List ℕ). xs ++ rest next) (sym parts);
      many = omega (arith, many-push f.labels label, f.many);
      each = each-push f.labels label f.each (record { some = omega (arith, is_len, some); most = omega (arith, is_len, most) });
      index = omega (arith, index, f.index, size, is_len);
    }

-- the root's zero byte
pub passes : (old now next : Decoder) (count len : ℕ) → Front old count now → rest now ≡ len ∷ rest next → len ≡ 0 → next.index ≡ now.index + 1 → next.index < old.index + 256 → PassesLabels old count next
passes old now next count len f e zero_is index room =
    let here : rest now ≡ 0 ∷ rest next = e ∙ ap (λ (n : ℕ). n ∷ rest next) zero_is in
    record {
      labels = f.labels;
      read = f.read ∙ ap (λ (xs : List ℕ). labels_form f.labels ++ xs) here ∙ sym (append_assoc (labels_form f.labels) (0 ∷ []) (rest next));
      many = f.many;
      are = record { each = f.each; fits = omega (arith, length-labels_form f.labels, f.index, index, room) };
      index = omega (arith, length-labels_form f.labels, f.index, index);
    }

-- a label takes a byte at least
pub count_within : (old now : Decoder) (count : ℕ) → Front old count now → count + old.index ≤ now.index
count_within old now count f = omega (arith, f.many, f.index, each_some f.labels)
  where
    each_some : (labels : List (List ℕ)) → length labels ≤ length (labels_form labels)
    each_some [] = omega arith
    each_some (l ∷ labels) = omega (arith, each_some labels, length-append l (labels_form labels))

-- what was read is the encoding of the name
pub slice_is : (old new : Decoder) (count start : ℕ) (bytes : List ℕ) (p : PassesLabels old count new) → new.bytes ≡ old.bytes → start ≡ old.index → bytes ≡ slice_range new.bytes start new.index → bytes ≡ whole_form p.labels
slice_is old new count start bytes p same at cut =
    let len : new.index - old.index ≡ length (whole_form p.labels) = omega (arith, p.index, length-whole_form p.labels) in
    cut ∙ ap (λ (n : ℕ). slice_range new.bytes n new.index) at ∙ ap (λ (xs : List ℕ). slice_range xs old.index new.index) same
    ∙ ap (λ (n : ℕ). take n (rest old)) len ∙ ap (take (length (whole_form p.labels))) p.read ∙ take_at (whole_form p.labels) (rest new) (length (whole_form p.labels)) refl

-- ---- what is left

heads : (x y : ℕ) (xs ys : List ℕ) → x ∷ xs ≡ y ∷ ys → (x ≡ y) × (xs ≡ ys)
heads x y xs ys e = (cc, cc)

-- no byte is left
pub no_end : (old now : Decoder) → Onward old now → rest now ≡ [] → NoName old
no_end old now onward none labels more are e = by (onward labels more are e).left (onward labels more are e).there
  where
    by : (left : List (List ℕ)) → rest now ≡ whole_form left ++ more → ⊥
    by [] h = let clash : [] ≡ 0 ∷ more = sym none ∙ h in cc
    by (l ∷ left) h = let clash : [] ≡ (length l ∷ (l ++ labels_form left) ++ 0 ∷ []) ++ more = sym none ∙ h in cc

-- a byte that is no length of a label
pub no_length : (old now : Decoder) (len : ℕ) (after : List ℕ) → Onward old now → rest now ≡ len ∷ after → 63 < len → NoName old
no_length old now len after onward here large labels more are e = by (onward labels more are e).left (onward labels more are e).there (onward labels more are e).each
  where
    by : (left : List (List ℕ)) → rest now ≡ whole_form left ++ more → AllByRecursion IsLabel left → ⊥
    by [] h each = omega (arith, (heads len 0 after more (sym here ∙ h)).0, large)
    by (l ∷ left) h each = omega (arith, (heads len (length l) after (((l ++ labels_form left) ++ 0 ∷ []) ++ more) (sym here ∙ h)).0, large, each.0.most)

-- what a label that is there leaves
pub onward-next : (old now next : Decoder) (len : ℕ) (label after : List ℕ) → Onward old now → rest now ≡ len ∷ (label ++ rest next) → length label ≡ len
    → 0 < len → next.index ≡ now.index + 1 + len → Onward old next
onward-next old now next len label after onward here is_len some index labels more are e =
    by (onward labels more are e).left (onward labels more are e).there (onward labels more are e).each (onward labels more are e).fits
  where
    front : (a b xs ys : List ℕ) → length a ≡ length b → a ++ xs ≡ b ++ ys → xs ≡ ys
    front a b xs ys same eq = sym (drop_at a xs (length a) refl) ∙ ap (drop (length a)) eq ∙ drop_at b ys (length a) (sym same)

    by : (left : List (List ℕ)) → rest now ≡ whole_form left ++ more → AllByRecursion IsLabel left → now.index + name_len left ≡ old.index + name_len labels → Left old next labels more
    by [] h each fits = absurd (omega (arith, (heads len 0 (label ++ rest next) more (sym here ∙ h)).0, some))
    by (l ∷ left) h each fits =
        let both = heads len (length l) (label ++ rest next) (((l ++ labels_form left) ++ 0 ∷ []) ++ more) (sym here ∙ h) in
        let parts : ((l ++ labels_form left) ++ 0 ∷ []) ++ more ≡ l ++ (whole_form left ++ more) =
        ap (λ (xs : List ℕ). xs ++ more) (append_assoc l (labels_form left) (0 ∷ [])) ∙ append_assoc l (whole_form left) more in
        record {
          left = left;
          there = front label l (rest next) (whole_form left ++ more) (is_len ∙ both.0) (both.1 ∙ parts);
          each = each.1;
          fits = omega (arith, fits, index, both.0);
        }

-- too few bytes are left for a label
pub no_label : (old now next : Decoder) (len : ℕ) → Onward old now → rest now ≡ len ∷ rest next → length (rest next) < len → NoName old
no_label old now next len onward here short labels more are e = by (onward labels more are e).left (onward labels more are e).there
  where
    by : (left : List (List ℕ)) → rest now ≡ whole_form left ++ more → ⊥
    by [] h = omega (arith, (heads len 0 (rest next) more (sym here ∙ h)).0, short)
    by (l ∷ left) h =
        let both = heads len (length l) (rest next) (((l ++ labels_form left) ++ 0 ∷ []) ++ more) (sym here ∙ h) in
        omega (arith, both.0, short, ap (λ (xs : List ℕ). length xs) both.1, length-append ((l ++ labels_form left) ++ 0 ∷ []) more, length-append (l ++ labels_form left) (0 ∷ []), length-append l (labels_form left))

-- too few of the 255 bytes are left for a label
pub no_room : (old now next : Decoder) (len : ℕ) → Onward old now → rest now ≡ len ∷ rest next → 0 < len → next.index ≡ now.index + 1 → old.index + 255 ≤ next.index + len → NoName old
no_room old now next len onward here some index full labels more are e =
    by (onward labels more are e).left (onward labels more are e).there (onward labels more are e).fits
  where
    by : (left : List (List ℕ)) → rest now ≡ whole_form left ++ more → now.index + name_len left ≡ old.index + name_len labels → ⊥
    by [] h fits = omega (arith, (heads len 0 (rest next) more (sym here ∙ h)).0, some)
    by (l ∷ left) h fits =
        let both = heads len (length l) (rest next) (((l ++ labels_form left) ++ 0 ∷ []) ++ more) (sym here ∙ h) in
        omega (arith, both.0, fits, are.fits, index, full, length-labels_form left)

-- ---- the name that was read

pub whole_name : (old new : Decoder) (count start : ℕ) (bytes : List ℕ) → PassesLabels old count new → new.bytes ≡ old.bytes → start ≡ old.index → bytes ≡ slice_range new.bytes start new.index → IsWhole count bytes
whole_name old new count start bytes p same at cut = is_whole count bytes p.labels (slice_is old new count start bytes p same at cut) p.many p.are

pub whole_labels : (old new : Decoder) (count start : ℕ) (bytes : List ℕ) → PassesLabels old count new → new.bytes ≡ old.bytes → start ≡ old.index → bytes ≡ slice_range new.bytes start new.index → AreLabels (labels_in count bytes)
whole_labels old new count start bytes p same at cut = (whole_name old new count start bytes p same at cut).are

pub whole_read : (old new : Decoder) (count start : ℕ) (bytes : List ℕ) → PassesLabels old count new → new.bytes ≡ old.bytes → start ≡ old.index → bytes ≡ slice_range new.bytes start new.index → rest old ≡ whole_form (labels_in count bytes) ++ rest new
whole_read old new count start bytes p same at cut =
    p.read ∙ ap (λ (ls : List (List ℕ)). whole_form ls ++ rest new) (sym (labels_are count bytes p.labels (slice_is old new count start bytes p same at cut) p.many))

-- ---- one label after another

-- the first label, and the name that is left
pub record Split (count : ℕ) (bytes : List ℕ) : Type 0 where
  pub len : ℕ
  pub label : List ℕ
  pub after : List ℕ
  pub there : bytes ≡ len ∷ (label ++ after)
  pub is_len : length label ≡ len
  pub small : len < 64
  pub left : IsWhole (count - 1) after
  pub labels : labels_in count bytes ≡ label ∷ labels_in (count - 1) after

pub splits : (count : ℕ) (bytes : List ℕ) → IsWhole count bytes → 0 < count → Split count bytes
splits count bytes w some = by (labels_in count bytes) refl w.form w.many w.are
  where
    by : (labels : List (List ℕ)) → labels_in count bytes ≡ labels → bytes ≡ whole_form labels → length labels ≡ count → AreLabels labels → Split count bytes
    by [] is form many are = absurd (omega (arith, many, some))
    by (l ∷ ls) is form many are =
        let one : length ls ≡ count - 1 = omega (arith, many) in
        let fits : name_len ls ≤ 255 = omega (arith, are.fits) in
        let others : AreLabels ls = record { each = are.each.1; fits = fits } in
        record {
          len = length l;
          label = l;
          after = whole_form ls;
          there = form ∙ ap (λ (xs : List ℕ). length l ∷ xs) (append_assoc l (labels_form ls) (0 ∷ []));
          is_len = refl;
          small = are.each.0.most;
          left = is_whole (count - 1) (whole_form ls) ls refl one others;
          labels = is ∙ ap (λ (xs : List (List ℕ)). l ∷ xs) (sym (labels_are (count - 1) (whole_form ls) ls refl one));
        }

-- the name without its first label, as the bytes behind it
pub split-left : (count : ℕ) (bytes : List ℕ) (end : ℕ) → (s : Split count bytes) → end ≡ s.len + 1 → take (length bytes - end) (drop end bytes) ≡ s.after
split-left count bytes end s e =
    let whole : bytes ≡ (s.len ∷ s.label) ++ s.after = s.there in
    let at : drop end bytes ≡ s.after = ap (drop end) whole ∙ drop_at (s.len ∷ s.label) s.after end (omega (arith, e, s.is_len)) in
    let left : length bytes - end ≡ length s.after = omega (arith, e, s.is_len, ap (λ (xs : List ℕ). length xs) whole, length-append (s.len ∷ s.label) s.after) in
    ap (take (length bytes - end)) at ∙ ap (λ (n : ℕ). take n s.after) left ∙ take_all (length s.after) s.after (omega arith)

pub split-first : (count : ℕ) (bytes : List ℕ) (end : ℕ) → (s : Split count bytes) → end ≡ s.len + 1 → take (end - 1) (drop 1 bytes) ≡ s.label
split-first count bytes end s e =
    ap (λ (xs : List ℕ). take (end - 1) (drop 1 xs)) s.there ∙ take_at s.label s.after (end - 1) (omega (arith, e, s.is_len))

pub split-len : (count : ℕ) (bytes : List ℕ) → (s : Split count bytes) → get_or bytes 0 0 ≡ s.len
split-len count bytes s = ap (λ (xs : List ℕ). get_or xs 0 0) s.there

-- the encoding is decoded as the name
pub whole_decodes : (labels : List (List ℕ)) (bytes : List ℕ) → bytes ≡ whole_form labels → AreLabels labels → ReadsName bytes 0 labels (0 + name_len labels)
whole_decodes labels bytes form are = whole_reads bytes 0 0 255 labels [] are.each are.fits (form ∙ sym (append-nil (whole_form labels)))

pub next_labels : (count : ℕ) (bytes : List ℕ) (end : ℕ) → (s : Split count bytes) → end ≡ s.len + 1 → labels_in count bytes ≡ take (end - 1) (drop 1 bytes) ∷ labels_in (count - 1) (take (length bytes - end) (drop end bytes))
next_labels count bytes end s e =
    s.labels ∙ ap (λ (l : List ℕ). l ∷ labels_in (count - 1) s.after) (sym (split-first count bytes end s e))
    ∙ ap (λ (xs : List ℕ). take (end - 1) (drop 1 bytes) ∷ labels_in (count - 1) xs) (sym (split-left count bytes end s e))
