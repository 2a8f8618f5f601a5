-- The names that bytes encode, label by label, and names that are made of parts of others.
use Rattle.std.proofs.Common.{◌≡◌, ◌≢◌, ◌+◌, ◌-◌, ◌<◌, ◌≤◌, ◌++◌, Bool, true, false, ◌==◌, add-one, zero, suc, ℕ, List, [], ◌∷◌, length, take, drop, refl, sym, ap, ◌∙◌, arith, Option, None, Result, Ok, Err, cond, nat_lt}
use Rattle.std.specs.Prelude.{IfOk}
use Rattle.dns_names.specs.Name.{DomainName}
use Rattle.dns_names.specs.Build.{append_label}
use Rattle.dns_names.specs.Label.{label_of_bytes, max_label_len}
use Rattle.dns_names.specs.declared.error.ParseError.{ParseError}
use Rattle.dns_names.specs.declared.error.ParseError.TheVariants.{EmptyLabel, LabelBytesTooLong}
use Rattle.dns_authority.specs.steps.Redirection.{after_label, max_labels, name_along, split_label, with_label, with_part}

-- ---- labels of bytes

one_label : (i : ℕ) → i < max_labels → max_labels - i ≡ suc (max_labels - (i + 1))
one_label i below = omega arith

along : (count : ℕ) (name : DomainName) (bytes : List ℕ) → name_along (suc count) name bytes ≡ with_part (name_along count) name (split_label bytes)
unfolding name_along
along count name bytes = refl

-- one label is read
pub reads_label : (i : ℕ) (name : DomainName) (bytes : List ℕ) (o : Option (List ℕ × List ℕ)) → i < max_labels → o ≡ split_label bytes
    → name_along (max_labels - i) name bytes ≡ with_part (name_along (max_labels - (i + 1))) name o
reads_label i name bytes o below is =
    ap (λ (n : ℕ). name_along n name bytes) (one_label i below) ∙ along (max_labels - (i + 1)) name bytes ∙ ap (with_part (name_along (max_labels - (i + 1))) name) (sym is)

-- no label is left to read
pub reads_none : (i : ℕ) (name : DomainName) (bytes : List ℕ) → max_labels ≤ i → name_along (max_labels - i) name bytes ≡ None
unfolding name_along
reads_none i name bytes all = let none : max_labels - i ≡ 0 = omega arith in ap (λ (n : ℕ). name_along n name bytes) none

-- a label that is not empty is appended, or refused
pub appends : (rest : DomainName → List ℕ → Option DomainName) (name : DomainName) (label bytes : List ℕ) (result : Result DomainName ParseError) → length label ≢ 0
    → append_label name (label_of_bytes label) ≡ result → with_label rest name label bytes ≡ after_label rest bytes result
appends rest name [] bytes result some is = absurd (some refl)
appends rest name (octet ∷ label) bytes result some is = ap (after_label rest bytes) is

-- ---- the first labels of a name

made_of : (b : Bool) (error : ParseError) (name longer : DomainName) → ◌≡◌ {A = Result DomainName ParseError} (cond b (Err error) (Ok name)) (Ok longer) → longer ≡ name
made_of true error name longer is = absurd (cc)
made_of false error name longer is = cc

label_made : (front longer : DomainName) (label : List ℕ) (b d : Bool) (e f : ParseError) → append_label front (cond b (Err e) (cond d (Err f) (Ok label))) ≡ Ok longer
    → longer ≡ record front { labels = front.labels ++ label ∷ [] }
label_made front longer label true d e f is = absurd (cc)
label_made front longer label false true e f is = absurd (cc)
label_made front longer label false false e f is = made_of _ _ _ longer is

-- a label that was appended
pub appended : (front longer : DomainName) (label : List ℕ) → append_label front (label_of_bytes label) ≡ Ok longer → longer ≡ record front { labels = front.labels ++ label ∷ [] }
appended front longer label is = label_made front longer label (length label == 0) (nat_lt max_label_len (length label)) EmptyLabel LabelBytesTooLong is

more_labels : (kept : ℕ) (labels : List (List ℕ)) (label : List ℕ) (rest : List (List ℕ)) → label ∷ rest ≡ drop kept labels
    → (take (suc kept) labels ≡ take kept labels ++ label ∷ []) × (rest ≡ drop (suc kept) labels)
more_labels zero [] label rest is = absurd (cc)
more_labels (suc kept) [] label rest is = absurd (cc)
more_labels zero (first ∷ labels) label rest is =
    let same : label ≡ first = cc in
    let left : rest ≡ labels = cc in
    (ap (λ (l : List ℕ). l ∷ []) (sym same), left)
more_labels (suc kept) (first ∷ labels) label rest is =
    let more = more_labels kept labels label rest is in
    (ap (λ (ls : List (List ℕ)). first ∷ ls) more.0, more.1)

-- the first labels, and one more
pub one_more : (kept : ℕ) (labels : List (List ℕ)) (label : List ℕ) (rest : List (List ℕ)) → label ∷ rest ≡ drop kept labels
    → (take (kept + 1) labels ≡ take kept labels ++ label ∷ []) × (rest ≡ drop (kept + 1) labels)
one_more kept labels label rest is = rw (add-one) (more_labels kept labels label rest is)

-- ---- outcomes

pub if_ok : {A E : Type 0} {P Q : A → Type 0} (r : Result A E) → IfOk r P → ((x : A) → P x → Q x) → IfOk r Q
if_ok (Ok x) p f = f x p
if_ok (Err e) p f = tt
