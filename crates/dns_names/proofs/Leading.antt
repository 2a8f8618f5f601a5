-- A name that is being read, seen from its end: all of its labels begin with those that were read so far.
use Rattle.std.proofs.Common.{◌≡◌, ℕ, ◌+◌, ◌-◌, List, [], ◌∷◌, ◌++◌, length, Result, Ok, Err, refl, sym, ap, subst, ◌∙◌, append_assoc, arith}
use Rattle.dns_wire.specs.declared.error.DecodeError.{DecodeError}
use Rattle.dns_wire.specs.Element.{Element, Label, Pointer, element_at}
use Rattle.dns_wire.specs.Name.{name_len}
use Rattle.dns_wire.specs.Pointers.{Follows, at_end, past_link}
use Rattle.dns_wire.specs.Reading.{Reads, at_closing, at_label, at_pointer, ReadsName}
use Rattle.dns_names.specs.Name.{IsInline}
use Rattle.dns_names.proofs.InlineLaws.{inline_prefix}
use Rattle.dns_names.proofs.Underway.{name_len-push}

-- In these bytes, a name that begins at start was read as far as index, in a segment that begins at segment: whatever name
-- is there, its labels are those so far and those that are read from index on.
pub record Leads (bytes : List ℕ) (start index segment : ℕ) (labels : List (List ℕ)) : Type 0 where
  pub rest : (all : List (List ℕ)) (last : ℕ) → ReadsName bytes start all last
      → (more : List (List ℕ)) × (end : ℕ) × (all ≡ labels ++ more) × Reads bytes index segment (256 - name_len labels) more end

pub leads_start : (bytes : List ℕ) (start : ℕ) → Leads bytes start start start []
leads_start bytes start = record { rest = λ all last r. (all, last, refl, r) }

label_first : {bytes : List ℕ} {place segment left end : ℕ} {more : List (List ℕ)} (label : List ℕ) → element_at bytes place ≡ Ok (Label label)
    → Reads bytes place segment left more end
    → (rest : List (List ℕ)) × (more ≡ label ∷ rest) × Reads bytes (place + (length label + 1)) segment (left - (length label + 1)) rest end
label_first label e (at_closing e') = absurd (cc)
label_first {bytes} {place} {segment} {left} {end} label e (at_label {label = b} {labels = bs} e' room r) =
    let same : b ≡ label = cc in
    (bs, ap (λ (l : List ℕ). l ∷ bs) same, subst (λ (l : List ℕ). Reads bytes (place + (length l + 1)) segment (left - (length l + 1)) bs end) same r)
label_first label e (at_pointer e' back r) = absurd (cc)

pointer_first : {bytes : List ℕ} {place segment left end : ℕ} {more : List (List ℕ)} (target : ℕ) → element_at bytes place ≡ Ok (Pointer target)
    → Reads bytes place segment left more end → (last : ℕ) × Reads bytes target target left more last
pointer_first target e (at_closing e') = absurd (cc)
pointer_first target e (at_label e' room r) = absurd (cc)
pointer_first {bytes} {left = left} {more = more} target e (at_pointer {target = t} {end = last} e' back r) =
    let same : t ≡ target = cc in
    (last, subst (λ (n : ℕ). Reads bytes n n left more last) same r)

module _ {bytes : List ℕ} {start index segment : ℕ} {labels : List (List ℕ)} (u : Leads bytes start index segment labels) where
  pub leads_label : (label : List ℕ) → element_at bytes index ≡ Ok (Label label) → Leads bytes start (index + (length label + 1)) segment (labels ++ label ∷ [])
  leads_label label e =
      let left : (256 - name_len labels) - (length label + 1) ≡ 256 - name_len (labels ++ label ∷ []) = omega (arith, name_len-push labels label) in
      record {
        rest = λ all last r.
            let found = u.rest all last r in
            let next = label_first label e found.3 in (
              next.0,
              found.1,
              found.2 ∙ ap (λ (ls : List (List ℕ)). labels ++ ls) next.1 ∙ sym (append_assoc labels (label ∷ []) next.0),
              subst (λ (n : ℕ). Reads bytes (index + (length label + 1)) segment n next.0 found.1) left next.2,
            );
      }

  pub leads_pointer : (target : ℕ) → element_at bytes index ≡ Ok (Pointer target) → Leads bytes start target target labels
  leads_pointer target e = record {
    rest = λ all last r.
        let found = u.rest all last r in
        let next = pointer_first target e found.3 in
        (found.0, next.0, found.2, next.1);
  }

  -- the labels of a name that is stored inline, up to the one that is read next
  pub inline_next : (label : List ℕ) → element_at bytes index ≡ Ok (Label label) → (all : List (List ℕ)) (last : ℕ) → ReadsName bytes start all last
      → IsInline all → IsInline (labels ++ label ∷ [])
  inline_next label e all last r is =
      let found = u.rest all last r in
      let next = label_first label e found.3 in
      inline_prefix all (labels ++ label ∷ []) next.0
      (found.2 ∙ ap (λ (ls : List (List ℕ)). labels ++ ls) next.1 ∙ sym (append_assoc labels (label ∷ []) next.0)) is

-- past a chain of pointers
pub leads_pointers : {bytes : List ℕ} {start place to : ℕ} {labels : List (List ℕ)} → Follows bytes place to
    → Leads bytes start place place labels → Leads bytes start to to labels
leads_pointers (at_end last) u = u
leads_pointers (past_link {target = target} e back f) u = leads_pointers f (leads_pointer u target e)

-- ---- a fault at the start

pub fault_is : {r : Result Element DecodeError} {x error : DecodeError} → r ≡ Err x → r ≡ Err error → x ≡ error
fault_is p q = cc

pub no_fault : (bytes : List ℕ) (index start : ℕ) (x : Element) (error : DecodeError) → element_at bytes index ≡ Ok x → index ≡ start
    → element_at bytes start ≡ Err error → ⊥
no_fault bytes index start x error p same e = let here : element_at bytes start ≡ Ok x = ap (element_at bytes) (sym same) ∙ p in cc
