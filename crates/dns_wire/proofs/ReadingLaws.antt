-- Reading a name has one outcome, and gives what may be a name.
use Rattle.std.proofs.Common.{◌≡◌, ℕ, ◌+◌, ◌-◌, ◌*◌, ◌<◌, ◌≤◌, List, [], ◌∷◌, ◌++◌, length, drop, Result, Ok, refl, sym, ap, subst, ◌∙◌, arith}
use Rattle.std.specs.List.{AllByRecursion}
use Rattle.dns_wire.specs.declared.error.DecodeError.{DecodeError}
use Rattle.dns_wire.specs.Element.{Element, Closing, Label, Pointer}
use Rattle.dns_wire.specs.Name.{IsLabel, name_len, AreLabels}
use Rattle.dns_wire.specs.Reading.{Reads, ReadsName, at_closing, at_label, at_pointer, Refuses, at_fault, at_long_name, at_forward_pointer, past_label, past_pointer}
use Rattle.dns_wire.proofs.ElementLaws.{element-is_label, element_at-append}

-- ---- one outcome

same_label : {r : Result Element DecodeError} {a b : List ℕ} → r ≡ Ok (Label a) → r ≡ Ok (Label b) → a ≡ b
same_label p q = cc

same_target : {r : Result Element DecodeError} {a b : ℕ} → r ≡ Ok (Pointer a) → r ≡ Ok (Pointer b) → a ≡ b
same_target p q = cc

-- the labels that are read, and their end, are determined
pub reads_same : {buffer : List ℕ} {place segment left end end' : ℕ} {labels labels' : List (List ℕ)} → Reads buffer place segment left labels end → Reads buffer place segment left labels' end' → (labels ≡ labels') × (end ≡ end')
reads_same (at_closing e) (at_closing e') = (refl, refl)
reads_same (at_closing e) (at_label e' room r') = absurd (cc)
reads_same (at_closing e) (at_pointer e' back r') = absurd (cc)
reads_same (at_label e room r) (at_closing e') = absurd (cc)
reads_same {buffer} {place} {segment} {left} {end} {end'} (at_label {label = a} {labels = as'} e room r) (at_label {label = b} {labels = bs} e' room' r') =
    let same : a ≡ b = same_label e e' in
    let rest = reads_same r (subst (λ (l : List ℕ). Reads buffer (place + (length l + 1)) segment (left - (length l + 1)) bs end') (sym same) r') in
    (ap (λ (l : List ℕ). l ∷ as') same ∙ ap (λ (ls : List (List ℕ)). b ∷ ls) rest.0, rest.1)
reads_same (at_label e room r) (at_pointer e' back r') = absurd (cc)
reads_same (at_pointer e back r) (at_closing e') = absurd (cc)
reads_same (at_pointer e back r) (at_label e' room r') = absurd (cc)
reads_same {buffer} {left = left} (at_pointer e back r) (at_pointer {end = end'} {labels = bs} e' back' r') =
    ((reads_same r (subst (λ (t : ℕ). Reads buffer t t left bs end') (sym (same_target e e')) r')).0, refl)

-- a name that is read is not refused
pub reads_not_refused : {buffer : List ℕ} {place segment left end : ℕ} {labels : List (List ℕ)} {error : DecodeError} → Reads buffer place segment left labels end → Refuses buffer place segment left error → ⊥
reads_not_refused (at_closing e) (at_fault e') = cc
reads_not_refused (at_closing e) (at_long_name e' full) = cc
reads_not_refused (at_closing e) (at_forward_pointer e' forward) = cc
reads_not_refused (at_closing e) (past_label e' room' r') = cc
reads_not_refused (at_closing e) (past_pointer e' back' r') = cc
reads_not_refused (at_label e room r) (at_fault e') = cc
reads_not_refused (at_label e room r) (at_long_name e' full) = let same = same_label e e' in omega (arith, ap (λ (l : List ℕ). length l) same)
reads_not_refused (at_label e room r) (at_forward_pointer e' forward) = cc
reads_not_refused {buffer} {place} {segment} {left} {error = error} (at_label e room r) (past_label e' room' r') =
    reads_not_refused r (subst (λ (l : List ℕ). Refuses buffer (place + (length l + 1)) segment (left - (length l + 1)) error) (sym (same_label e e')) r')
reads_not_refused (at_label e room r) (past_pointer e' back' r') = cc
reads_not_refused (at_pointer e back r) (at_fault e') = cc
reads_not_refused (at_pointer e back r) (at_long_name e' full) = cc
reads_not_refused (at_pointer e back r) (at_forward_pointer e' forward) = let same = same_target e e' in omega arith
reads_not_refused (at_pointer e back r) (past_label e' room' r') = cc
reads_not_refused {buffer} {left = left} {error = error} (at_pointer e back r) (past_pointer e' back' r') =
    reads_not_refused r (subst (λ (t : ℕ). Refuses buffer t t left error) (sym (same_target e e')) r')

-- a name is refused with one error
pub refuses_same : {buffer : List ℕ} {place segment left : ℕ} {error error' : DecodeError} → Refuses buffer place segment left error → Refuses buffer place segment left error' → error ≡ error'
refuses_same (at_fault e) (at_fault e') = cc
refuses_same (at_fault e) (at_long_name e' full') = absurd (cc)
refuses_same (at_fault e) (at_forward_pointer e' forward') = absurd (cc)
refuses_same (at_fault e) (past_label e' room' r') = absurd (cc)
refuses_same (at_fault e) (past_pointer e' back' r') = absurd (cc)
refuses_same (at_long_name e full) (at_fault e') = absurd (cc)
refuses_same (at_long_name e full) (at_long_name e' full') = refl
refuses_same (at_long_name e full) (at_forward_pointer e' forward') = absurd (cc)
refuses_same (at_long_name e full) (past_label e' room' r') = let same = same_label e e' in absurd (omega (arith, ap (λ (l : List ℕ). length l) same))
refuses_same (at_long_name e full) (past_pointer e' back' r') = absurd (cc)
refuses_same (at_forward_pointer e forward) (at_fault e') = absurd (cc)
refuses_same (at_forward_pointer e forward) (at_long_name e' full') = absurd (cc)
refuses_same (at_forward_pointer e forward) (at_forward_pointer e' forward') = refl
refuses_same (at_forward_pointer e forward) (past_label e' room' r') = absurd (cc)
refuses_same (at_forward_pointer e forward) (past_pointer e' back' r') = let same = same_target e e' in absurd (omega arith)
refuses_same (past_label e room r) (at_fault e') = absurd (cc)
refuses_same (past_label e room r) (at_long_name e' full') = let same = same_label e e' in absurd (omega (arith, ap (λ (l : List ℕ). length l) same))
refuses_same (past_label e room r) (at_forward_pointer e' forward') = absurd (cc)
refuses_same {buffer} {place} {segment} {left} {error' = error'} (past_label e room r) (past_label e' room' r') =
    refuses_same r (subst (λ (l : List ℕ). Refuses buffer (place + (length l + 1)) segment (left - (length l + 1)) error') (sym (same_label e e')) r')
refuses_same (past_label e room r) (past_pointer e' back' r') = absurd (cc)
refuses_same (past_pointer e back r) (at_fault e') = absurd (cc)
refuses_same (past_pointer e back r) (at_long_name e' full') = absurd (cc)
refuses_same (past_pointer e back r) (at_forward_pointer e' forward') = let same = same_target e e' in absurd (omega arith)
refuses_same (past_pointer e back r) (past_label e' room' r') = absurd (cc)
refuses_same {buffer} {left = left} {error' = error'} (past_pointer e back r) (past_pointer e' back' r') =
    refuses_same r (subst (λ (t : ℕ). Refuses buffer t t left error') (sym (same_target e e')) r')

-- ---- what is read may be a name

-- each label that is read is one, and all fit into what is left
pub reads-fits : {buffer : List ℕ} {place segment left end : ℕ} {labels : List (List ℕ)} → Reads buffer place segment left labels end → 0 < left → (name_len labels ≤ left) × AllByRecursion IsLabel labels
reads-fits (at_closing e) some = (omega arith, tt)
reads-fits {buffer} {place} (at_label {label = label} e room r) some =
    let rest = reads-fits r (omega arith) in
    (omega (arith, rest.0), (element-is_label (drop place buffer) label e, rest.1))
reads-fits (at_pointer e back r) some = reads-fits r some

pub reads_name-fits : {buffer : List ℕ} {place end : ℕ} {labels : List (List ℕ)} → ReadsName buffer place labels end → AreLabels labels
reads_name-fits r = let fits = reads-fits r (omega arith) in record { each = fits.1; fits = fits.0 }

-- ---- how many labels

count_bound : (labels : List (List ℕ)) → AllByRecursion IsLabel labels → 2 * length labels + 1 ≤ name_len labels
count_bound [] each = omega arith
count_bound (label ∷ labels) each = omega (arith, count_bound labels each.1, each.0.some)

-- a name has at most 127 labels
pub most_labels : (labels : List (List ℕ)) → AreLabels labels → length labels ≤ 127
most_labels labels is = omega (arith, count_bound labels is.each, is.fits)

-- ---- bytes that follow change nothing

pub reads-append : {buffer : List ℕ} {place segment left end : ℕ} {labels : List (List ℕ)} (more : List ℕ) → Reads buffer place segment left labels end → Reads (buffer ++ more) place segment left labels end
reads-append {buffer} more (at_closing e) = at_closing (element_at-append buffer more _ Closing e)
reads-append {buffer} more (at_label {label = label} e room r) = at_label (element_at-append buffer more _ (Label label) e) room (reads-append more r)
reads-append {buffer} more (at_pointer {target = target} e back r) = at_pointer (element_at-append buffer more _ (Pointer target) e) back (reads-append more r)
