-- A name that is being read: what is still read completes it, and what is still refused refuses it.
use Rattle.std.proofs.Common.{◌≡◌, ◌≢◌, ℕ, ◌+◌, ◌-◌, ◌<◌, ◌≤◌, List, [], ◌∷◌, ◌++◌, length, Option, Some, None, Ok, Err, subst, append_assoc, arith}
use Rattle.std.specs.Prelude.{unwrap_or, IfSome}
use Rattle.std.proofs.lemmas.List.{append-nil}
use Rattle.dns_wire.specs.declared.error.DecodeError.{DecodeError}
use Rattle.dns_wire.specs.declared.error.DecodeError.TheVariants.{PointerNotPriorToLabel, DomainNameTooLong, Memory}
use Rattle.dns_wire.proofs.DecodeErrorLaws.{memory_alone}
use Rattle.dns_wire.proofs.ReadingLaws.{reads_not_refused}
use Rattle.dns_wire.specs.Element.{Closing, Label, Pointer, element_at}
use Rattle.dns_wire.specs.Name.{name_len}
use Rattle.dns_wire.specs.Pointers.{Follows, at_end, past_link}
use Rattle.dns_wire.specs.Reading.{Reads, Refuses, at_closing, at_label, at_pointer, at_fault, at_long_name, at_forward_pointer, past_label, past_pointer, ReadsName, RefusesName}

-- In these bytes, a name that begins at start was read as far as index, in a segment that begins at segment: these are
-- its labels so far, and it ends at end, if that is known.
pub record Underway (bytes : List ℕ) (start index segment : ℕ) (labels : List (List ℕ)) (end : Option ℕ) : Type 0 where
  pub reads : (more : List (List ℕ)) (last : ℕ) → Reads bytes index segment (256 - name_len labels) more last → ReadsName bytes start (labels ++ more) (unwrap_or end last)
  pub refuses : (error : DecodeError) → Refuses bytes index segment (256 - name_len labels) error → RefusesName bytes start error
  pub fits : name_len labels ≤ 255

pub starts : (bytes : List ℕ) (start : ℕ) → Underway bytes start start start [] None
starts bytes start = record { reads = λ more last r. r; refuses = λ error r. r; fits = omega arith }

pub name_len-push : (labels : List (List ℕ)) (label : List ℕ) → name_len (labels ++ label ∷ []) ≡ name_len labels + (length label + 1)
name_len-push [] label = omega arith
name_len-push (first ∷ labels) label = omega (arith, name_len-push labels label)

module _ {bytes : List ℕ} {start index segment : ℕ} {labels : List (List ℕ)} {end : Option ℕ} (u : Underway bytes start index segment labels end) where
  pub on_closing : element_at bytes index ≡ Ok Closing → ReadsName bytes start labels (unwrap_or end (index + 1))
  on_closing e = subst (λ (ls : List (List ℕ)). ReadsName bytes start ls (unwrap_or end (index + 1))) (append-nil labels) (u.reads [] (index + 1) (at_closing e))

  pub on_label : (label : List ℕ) → element_at bytes index ≡ Ok (Label label) → name_len labels + (length label + 1) ≤ 255 → Underway bytes start (index + (length label + 1)) segment (labels ++ label ∷ []) end
  on_label label e room =
      let left : 256 - name_len (labels ++ label ∷ []) ≡ (256 - name_len labels) - (length label + 1) = omega (arith, name_len-push labels label) in
      let free : length label + 1 < 256 - name_len labels = omega arith in
      record {
        reads = λ more last r. rw append_assoc (u.reads (label ∷ more) last (at_label e free (rw left at r)));
        refuses = λ error r. u.refuses error (past_label e free (rw left at r));
        fits = omega (arith, name_len-push labels label);
      }

  pub on_pointer : (target : ℕ) → element_at bytes index ≡ Ok (Pointer target) → target < segment → Underway bytes start target target labels (Some (unwrap_or end (index + 2)))
  on_pointer target e back = record {
    reads = λ more last r. u.reads more (index + 2) (at_pointer e back r);
    refuses = λ error r. u.refuses error (past_pointer e back r);
    fits = u.fits;
  }

  pub on_fault : (error : DecodeError) → element_at bytes index ≡ Err error → RefusesName bytes start error
  on_fault error e = u.refuses error (at_fault e)

  pub on_long_name : (label : List ℕ) → element_at bytes index ≡ Ok (Label label) → 255 < name_len labels + (length label + 1) → RefusesName bytes start DomainNameTooLong
  on_long_name label e over = u.refuses DomainNameTooLong (at_long_name e (omega arith))

  pub on_forward_pointer : (target : ℕ) → element_at bytes index ≡ Ok (Pointer target) → segment ≤ target → RefusesName bytes start PointerNotPriorToLabel
  on_forward_pointer target e on = u.refuses PointerNotPriorToLabel (at_forward_pointer e on)

-- past a chain of pointers, once the end is known
pub on_pointers : {bytes : List ℕ} {start place to end : ℕ} {labels : List (List ℕ)} → Follows bytes place to
    → Underway bytes start place place labels (Some end) → Underway bytes start to to labels (Some end)
on_pointers (at_end last) u = u
on_pointers (past_link {target = target} e back f) u = on_pointers f (on_pointer u target e back)

pub unwrap_or-within : (o : Option ℕ) (x n : ℕ) → IfSome o (λ e. e ≤ n) → x ≤ n → unwrap_or o x ≤ n
unwrap_or-within None x n within le = le
unwrap_or-within (Some e) x n within le = within

-- where a name is read, only want of memory refuses it
pub only_memory : {bytes : List ℕ} {start last : ℕ} {labels : List (List ℕ)} → (error : DecodeError) → ReadsName bytes start labels last → (error ≢ Memory → RefusesName bytes start error) → error ≡ Memory
only_memory error r refused = memory_alone error (λ other. reads_not_refused r (refused other))
