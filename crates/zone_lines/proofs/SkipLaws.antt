-- Where a file is read on, line by line.
use Rattle.std.proofs.Common.{◌≡◌, ◌<◌, ◌≤◌, ◌+◌, ◌-◌, ℕ, Bool, true, false, List, [], ◌∷◌, length, refl, sym, ap, subst, ◌∙◌, add-one, arith}
use Rattle.std.specs.List.{position_or_len}
use Rattle.std.specs.Prelude.{◌==◌}
use Rattle.std.proofs.lemmas.List.{length-drop}
use Rattle.zone_lines.specs.Skip.{after_line, continues_entry, first_line, lines_after, opens_list, Resumes, at_next_line, past_list, SkipsContinuation, at_entry, past_line, taken_lines}

pub line_shortens : (text : List ℕ) → 0 < length text → length (after_line text) < length text
line_shortens text some = omega (arith, length-drop (position_or_len (λ b. b == 10) text + 1) text)

pub continues_some : (text : List ℕ) → continues_entry text ≡ true → 0 < length text
continues_some [] e = absurd cc
continues_some (c ∷ cs) e = omega arith

-- what the rest leads to, the whole leads to
pub record Continues (base : ℕ) (text : List ℕ) (here : ℕ) (rest : List ℕ) : Type 0 where
  pub leads : (next : ℕ) (left : List ℕ) → SkipsContinuation here rest next left → SkipsContinuation base text next left
  pub shorter : length rest ≤ length text

pub at_first : (base : ℕ) (text : List ℕ) → Continues base text base text
at_first base text = record { leads = λ next left skips. skips; shorter = omega arith }

pub one_line : (base here then : ℕ) (text rest after : List ℕ) → Continues base text here rest → continues_entry rest ≡ true → then ≡ here + 1
    → after ≡ after_line rest → Continues base text then after
one_line base here then text rest after so_far continues is after_is = record {
  leads = λ next left skips.
      so_far.leads next left
      (past_line continues (subst (λ (n : ℕ). SkipsContinuation n (after_line rest) next left) is (subst (λ (l : List ℕ). SkipsContinuation then l next left) after_is skips)));
  shorter = let shorter = so_far.shorter in omega (arith, line_shortens rest (continues_some rest continues), ap length after_is);
}

pub no_line : (base here : ℕ) (text rest : List ℕ) → Continues base text here rest → continues_entry rest ≡ false → SkipsContinuation base text here rest
no_line base here text rest so_far ends = so_far.leads here rest (at_entry ends)

-- ---- texts after some lines

pub record IsAfter (text : List ℕ) (done : ℕ) (rest : List ℕ) : Type 0 where
  pub rest_is : rest ≡ lines_after done text
  pub no_longer : length rest ≤ length text
  pub shorter : 0 < done → 0 < length text → length rest < length text

pub after_none : (text : List ℕ) → IsAfter text 0 text
after_none text = record { rest_is = refl; no_longer = omega arith; shorter = λ some. absurd (omega arith) }

line_no_longer : (text : List ℕ) → length (after_line text) ≤ length text
line_no_longer text = omega (arith, length-drop (position_or_len (λ b. b == 10) text + 1) text)

empty_or_shorter : (rest : List ℕ) (n : ℕ) → length rest ≤ n → 0 < n → length (after_line rest) < n
empty_or_shorter [] n h some = omega (arith, line_no_longer [])
empty_or_shorter (c ∷ cs) n h some = omega (arith, line_shortens (c ∷ cs) (omega arith))

pub after_one : (text : List ℕ) (done then : ℕ) (rest next : List ℕ) → IsAfter text done rest → next ≡ after_line rest → then ≡ done + 1
    → IsAfter text then next
after_one text done then rest next is e n =
    let before = is.no_longer in
    let is_next : next ≡ lines_after then text =
    e ∙ ap after_line is.rest_is ∙ ap (λ (k : ℕ). lines_after k text) (sym (n ∙ add-one done)) in
    record {
      rest_is = is_next;
      no_longer = omega (arith, line_no_longer rest, ap length e);
      shorter = λ some full. omega (arith, empty_or_shorter rest (length text) before full, ap length e);
    }

-- ---- the section after an entry

module _ (base : ℕ) (text : List ℕ) (entry fault_line count there : ℕ) (rest first whole : List ℕ) (count_is : count ≡ taken_lines entry fault_line)
    (there_is : there ≡ base + count) (rest_is : rest ≡ lines_after count text) (whole_is : whole ≡ lines_after (entry - 1) text) (first_is : first ≡ first_line whole) where
  opens : (b : Bool) → b ≡ opens_list first → opens_list (first_line (lines_after (entry - 1) text)) ≡ b
  opens b e = ap (λ (l : List ℕ). opens_list (first_line l)) (sym whole_is) ∙ ap opens_list (sym first_is) ∙ sym e

  pub resumes_here : false ≡ opens_list first → Resumes base text entry fault_line there rest
  resumes_here e =
      subst (λ (n : ℕ). Resumes base text entry fault_line n rest) (sym (there_is ∙ ap (λ (k : ℕ). base + k) count_is))
      (subst (λ (l : List ℕ). Resumes base text entry fault_line (base + taken_lines entry fault_line) l) (sym (rest_is ∙ ap (λ (k : ℕ). lines_after k text) count_is))
      (at_next_line (opens false e)))

  pub resumes_past : true ≡ opens_list first → (next : ℕ) (left : List ℕ) → SkipsContinuation there rest next left
      → Resumes base text entry fault_line next left
  resumes_past e next left skips =
      past_list (opens true e)
      (subst (λ (n : ℕ). SkipsContinuation n (lines_after (taken_lines entry fault_line) text) next left) (there_is ∙ ap (λ (k : ℕ). base + k) count_is)
      (subst (λ (l : List ℕ). SkipsContinuation there l next left) (rest_is ∙ ap (λ (k : ℕ). lines_after k text) count_is) skips))
