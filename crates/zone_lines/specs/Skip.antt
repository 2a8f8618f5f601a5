-- Where a file is read on after a fault of its text.
use Rattle.std.specs.Prelude.{◌≡◌, ◌==◌, ◌||◌, ◌+◌, ◌-◌, ℕ, zero, suc, nat_lt, if◌then◌else◌, Bool, true, false, List, [], ◌∷◌}
use Rattle.std.specs.List.{after_first, before_first, list_any}

-- a text after its first line, and that line without its line feed
abbrev pub after_line : List ℕ → List ℕ
after_line text = after_first (λ b. b == 10) text

-- a text up to its first line feed, or the whole text where there is none
abbrev pub first_line : List ℕ → List ℕ
first_line text = before_first (λ b. b == 10) text

-- a text after so many of its lines
abbrev pub lines_after : ℕ → List ℕ → List ℕ
lines_after zero text = text
lines_after (suc n) text = after_line (lines_after n text)

-- whether a line has an opening parenthesis, with which an entry may go on on further lines
abbrev pub opens_list : List ℕ → Bool
opens_list line = list_any (λ b. b == 40) line

-- whether a text begins with a blank or a closing parenthesis
abbrev pub continues_entry : List ℕ → Bool
continues_entry [] = false
continues_entry (c ∷ cs) = c == 32 || c == 9 || c == 41

-- The lines up to that of the fault, which may begin an entry; at least the first line of the entry is skipped.
abbrev pub taken_lines : ℕ → ℕ → ℕ
taken_lines entry fault_line =
    if nat_lt entry (fault_line - 1) then fault_line - 1 else (if entry == 0 then 1 else entry)

-- SkipsContinuation base text next rest: the lines that continue an entry are skipped; `base` and `next` count the lines before.
pub data SkipsContinuation : ℕ → List ℕ → ℕ → List ℕ → Type 0 where
  at_entry : {base : ℕ} {text : List ℕ} → continues_entry text ≡ false → SkipsContinuation base text base text
  past_line : {base next : ℕ} {text rest : List ℕ} → continues_entry text ≡ true
      → SkipsContinuation (base + 1) (after_line text) next rest → SkipsContinuation base text next rest

-- Resumes base text entry fault_line next rest: an entry that begins on a line of a text has a fault on a line, and the file is
-- read on at the rest. If the first line of the entry has an opening parenthesis, the lines that continue it are skipped, too.
pub data Resumes (base : ℕ) (text : List ℕ) (entry fault_line : ℕ) : ℕ → List ℕ → Type 0 where
  at_next_line : opens_list (first_line (lines_after (entry - 1) text)) ≡ false
      → Resumes base text entry fault_line (base + taken_lines entry fault_line) (lines_after (taken_lines entry fault_line) text)
  past_list : {next : ℕ} {rest : List ℕ} → opens_list (first_line (lines_after (entry - 1) text)) ≡ true
      → SkipsContinuation (base + taken_lines entry fault_line) (lines_after (taken_lines entry fault_line) text) next rest
      → Resumes base text entry fault_line next rest
