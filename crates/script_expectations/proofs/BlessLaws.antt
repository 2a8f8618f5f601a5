-- Blessed scripts, line by line.
use Rattle.std.proofs.Common.{◌≡◌, ℕ, ◌+◌, ◌<◌, ◌++◌, ◌==◌, Option, length, take, Bool, true, false, List, [], ◌∷◌, drop, flat_map, map, sym, ap, ◌∙◌, refl, subst, eqb-true}
use Rattle.std.proofs.lemmas.Bool.{false≢true}
use Rattle.std.proofs.lemmas.List.{append-nil, append_assoc}
use Rattle.std.proofs.lemmas.List.Concat.{flat_map-append}
use Rattle.std.proofs.lemmas.Slice.Eq.{bytes_eq-Decides, slice_eq-Decides}
use Rattle.std.specs.Borrow.{Bor}
use Rattle.std.specs.Cmp.Lexicographic.{pointwise}
use Rattle.std.specs.Io.KnownBytes.{Appends}
use Rattle.std.specs.Str.{bytes_eq}
use Rattle.script_expectations.specs.Bless.{blessed, blessed_text, expectation, left_over, line_text}
use Rattle.script_expectations.specs.Differences.{are_met, events_from}
use Rattle.script_expectations.specs.Line.{expected_lines, is_event, is_expectation, texts, without_expectations}
use Rattle.script_expectations.specs.Printed.{event_len, event_lines, later_lines}
use Rattle.script_expectations.proofs.LineLaws.{first_lines, lines_after, lines_from, text_at}
use Rattle.script_expectations.proofs.WritingLaws.{Writes, writes_more}

-- ---- the text of a blessed script, from a line on

pub text_at_event : (script : List (Bor (List ℕ))) (i : ℕ) (line : Bor (List ℕ)) (printed : List (List ℕ))
    → drop i script ≡ line ∷ drop (i + 1) script → is_event line.now ≡ true
    → blessed_text (texts (drop i script)) printed
    ≡ (line_text line.now ++ flat_map line_text (map expectation (event_lines printed)))
    ++ blessed_text (texts (drop (i + 1) script)) (later_lines printed)
text_at_event script i line printed e is =
    rw (e, is)
    (ap (λ (t : List ℕ). line_text line.now ++ t)
    (flat_map-append line_text (map expectation (event_lines printed)) (blessed (texts (drop (i + 1) script)) (later_lines printed)))
    ∙ sym (append_assoc (line_text line.now) (flat_map line_text (map expectation (event_lines printed))) (blessed_text (texts (drop (i + 1) script)) (later_lines printed))))

pub text_at_expectation : (script : List (Bor (List ℕ))) (i : ℕ) (line : Bor (List ℕ)) (printed : List (List ℕ))
    → drop i script ≡ line ∷ drop (i + 1) script → is_event line.now ≡ false → is_expectation line.now ≡ true
    → blessed_text (texts (drop i script)) printed ≡ blessed_text (texts (drop (i + 1) script)) printed
text_at_expectation script i line printed e is found = rw (e, is, found) refl

pub text_at_other : (script : List (Bor (List ℕ))) (i : ℕ) (line : Bor (List ℕ)) (printed : List (List ℕ))
    → drop i script ≡ line ∷ drop (i + 1) script → is_event line.now ≡ false → is_expectation line.now ≡ false
    → blessed_text (texts (drop i script)) printed ≡ line_text line.now ++ blessed_text (texts (drop (i + 1) script)) printed
text_at_other script i line printed e is found = rw (e, is, found) refl

-- ---- expectations among lines

pub expected-append : (xs ys : List (List ℕ)) → expected_lines (map expectation xs ++ ys) ≡ xs ++ expected_lines ys
expected-append [] ys = refl
expected-append (x ∷ xs) ys = ap (λ (l : List (List ℕ)). x ∷ l) (expected-append xs ys)

without-append : (xs ys : List (List ℕ)) → without_expectations (map expectation xs ++ ys) ≡ without_expectations ys
without-append [] ys = refl
without-append (x ∷ xs) ys = without-append xs ys

met-append : (xs ys printed : List (List ℕ)) → ((number : ℕ) → are_met (events_from number ys printed) ≡ true) → (number : ℕ)
    → are_met (events_from number (map expectation xs ++ ys) printed) ≡ true
met-append [] ys printed h number = h number
met-append (x ∷ xs) ys printed h number = met-append xs ys printed h (number + 1)

-- a line that begins with `#` has no event
no_event_at_mark : (b : Bool) (c : ℕ) (cs : List ℕ) → (c == 35) ≡ b → is_event (c ∷ cs) ≡ true → is_expectation (c ∷ cs) ≡ false
no_event_at_mark true c cs e h = absurd (false≢true (subst (λ (d : ℕ). is_event (d ∷ cs) ≡ true) (eqb-true c 35 e) h))
no_event_at_mark false c cs e h = rw e refl

event_is_no_expectation : (line : List ℕ) → is_event line ≡ true → is_expectation line ≡ false
event_is_no_expectation [] h = refl
event_is_no_expectation (c ∷ cs) h = no_event_at_mark (c == 35) c cs refl h

-- ---- blessed scripts

-- which of its kinds a line is
pub data Kind (line : List ℕ) : Type 0 where
  has_event : is_event line ≡ true → Kind line
  expects : is_event line ≡ false → is_expectation line ≡ true → Kind line
  has_neither : is_event line ≡ false → is_expectation line ≡ false → Kind line

kind_by : (line : List ℕ) (b c : Bool) → is_event line ≡ b → is_expectation line ≡ c → Kind line
kind_by line true c e h = has_event e
kind_by line false true e h = expects e h
kind_by line false false e h = has_neither e h

kind_of : (line : List ℕ) → Kind line
kind_of line = kind_by line (is_event line) (is_expectation line) refl refl

-- an event is followed by its expectations
blessed_event : (line : List ℕ) (lines printed : List (List ℕ)) → is_event line ≡ true
    → blessed (line ∷ lines) printed ≡ line ∷ (map expectation (event_lines printed) ++ blessed lines (later_lines printed))
blessed_event line lines printed e = rw e refl

-- no expectation comes before the first event
none_in_front_at : (line : List ℕ) (lines printed : List (List ℕ)) → Kind line → expected_lines (blessed lines printed) ≡ []
    → expected_lines (blessed (line ∷ lines) printed) ≡ []
none_in_front_at line lines printed (has_event e) h = rw (e, e) refl
none_in_front_at line lines printed (expects e k) h = rw (e, k) h
none_in_front_at line lines printed (has_neither e k) h = rw (e, k, e, k) h

pub none_in_front : (script printed : List (List ℕ)) → expected_lines (blessed script printed) ≡ []
none_in_front [] printed = refl
none_in_front (line ∷ lines) printed = none_in_front_at line lines printed (kind_of line) (none_in_front lines printed)

-- lines are equal to themselves
equal_lines : (lines : List (List ℕ)) → pointwise bytes_eq lines lines ≡ true
equal_lines lines = (slice_eq-Decides bytes_eq-Decides lines lines (pointwise bytes_eq lines lines) refl).1 refl

-- an event and its expectations
met_event : (line : List ℕ) (rest printed : List (List ℕ)) (number : ℕ) → is_event line ≡ true → expected_lines rest ≡ event_lines printed
    → are_met (events_from (number + 1) rest (later_lines printed)) ≡ true → are_met (events_from number (line ∷ rest) printed) ≡ true
met_event line rest printed number e same h = rw (e, same, equal_lines (event_lines printed)) h

-- the events of these lines are met, whatever the number of the first
abbrev AreMetFrom : List (List ℕ) → Type 0
AreMetFrom lines =
    (printed : List (List ℕ)) → left_over lines printed ≡ [] → (number : ℕ) → are_met (events_from number (blessed lines printed) printed) ≡ true

met_at : (line : List ℕ) (lines printed : List (List ℕ)) → Kind line → AreMetFrom lines → left_over (line ∷ lines) printed ≡ [] → (number : ℕ)
    → are_met (events_from number (blessed (line ∷ lines) printed) printed) ≡ true
met_at line lines printed (has_event e) later h number =
    let left : left_over lines (later_lines printed) ≡ [] = rw e at h in
    let same : expected_lines (map expectation (event_lines printed) ++ blessed lines (later_lines printed)) ≡ event_lines printed =
    expected-append (event_lines printed) (blessed lines (later_lines printed))
    ∙ (ap (λ (l : List (List ℕ)). event_lines printed ++ l) (none_in_front lines (later_lines printed)) ∙ append-nil (event_lines printed)) in
    let all : are_met (events_from number (line ∷ (map expectation (event_lines printed) ++ blessed lines (later_lines printed))) printed) ≡ true =
    met_event line (map expectation (event_lines printed) ++ blessed lines (later_lines printed)) printed number e same
    (met-append (event_lines printed) (blessed lines (later_lines printed)) (later_lines printed) (later (later_lines printed) left) (number + 1)) in
    subst (λ (l : List (List ℕ)). are_met (events_from number l printed) ≡ true) (sym (blessed_event line lines printed e)) all
met_at line lines printed (expects e k) later h number =
    let left : left_over lines printed ≡ [] = rw e at h in rw (e, k) (later printed left number)
met_at line lines printed (has_neither e k) later h number =
    let left : left_over lines printed ≡ [] = rw e at h in rw (e, k, e) (later printed left (number + 1))

none_met : (printed : List (List ℕ)) → left_over [] printed ≡ [] → (number : ℕ) → are_met (events_from number (blessed [] printed) printed) ≡ true
none_met [] h number = refl
none_met (p ∷ printed) h number = absurd (cc h)

pub met_from : (script : List (List ℕ)) → AreMetFrom script
met_from [] = none_met
met_from (line ∷ lines) = λ printed. met_at line lines printed (kind_of line) (met_from lines)

-- the rest of a script stays
same_without_at : (line : List ℕ) (lines printed : List (List ℕ)) → Kind line
    → ((later : List (List ℕ)) → without_expectations (blessed lines later) ≡ without_expectations lines)
    → without_expectations (blessed (line ∷ lines) printed) ≡ without_expectations (line ∷ lines)
same_without_at line lines printed (has_event e) h =
    let no : is_expectation line ≡ false = event_is_no_expectation line e in
    let rest : without_expectations (map expectation (event_lines printed) ++ blessed lines (later_lines printed)) ≡ without_expectations lines =
    without-append (event_lines printed) (blessed lines (later_lines printed)) ∙ h (later_lines printed) in
    rw (e, no) (ap (λ (l : List (List ℕ)). line ∷ l) rest)
same_without_at line lines printed (expects e k) h = rw (e, k) (h printed)
same_without_at line lines printed (has_neither e k) h = rw (e, k, k) (ap (λ (l : List (List ℕ)). line ∷ l) (h printed))

pub same_without : (script printed : List (List ℕ)) → without_expectations (blessed script printed) ≡ without_expectations script
same_without [] printed = refl
same_without (line ∷ lines) printed = same_without_at line lines printed (kind_of line) (same_without lines)

-- ---- what is written of a line

-- the line of an event and its expectations are written
pub event_is_written : (script printed shown : List (Bor (List ℕ))) (i done n : ℕ) (a b c : Option (List ℕ)) (whole : List ℕ)
    → i < length script → is_event (text_at script i) ≡ true → n ≡ event_len (texts (drop done printed)) → shown ≡ take n (drop done printed)
    → Writes a b (blessed_text (texts (drop i script)) (texts (drop done printed))) whole
    → Appends b c (line_text (text_at script i) ++ flat_map line_text (map expectation (texts shown)))
    → Writes a c (blessed_text (texts (drop (i + 1) script)) (texts (drop (done + n) printed))) whole
event_is_written script printed shown i done n a b c whole lt is len front h k =
    let left : List (List ℕ) = texts (drop done printed) in
    let head : List ℕ = line_text (text_at script i) in
    let shown_is : texts shown ≡ event_lines left = ap texts front ∙ first_lines printed done n len in
    let text : blessed_text (texts (drop i script)) left
    ≡ (head ++ flat_map line_text (map expectation (texts shown))) ++ blessed_text (texts (drop (i + 1) script)) (texts (drop (done + n) printed)) =
    text_at_event script i _ left (lines_from script i lt) is
    ∙ (ap (λ (l : List (List ℕ)). (head ++ flat_map line_text (map expectation l)) ++ blessed_text (texts (drop (i + 1) script)) (later_lines left)) (sym shown_is)
    ∙ ap (λ (l : List (List ℕ)). (head ++ flat_map line_text (map expectation (texts shown))) ++ blessed_text (texts (drop (i + 1) script)) l)
    (lines_after printed done n len)) in
    writes_more a b c _ whole _ _ h text k

-- an expectation is left out
pub expectation_is_left_out : (script : List (Bor (List ℕ))) (printed : List (List ℕ)) (i : ℕ) (a b : Option (List ℕ)) (whole : List ℕ)
    → i < length script → is_event (text_at script i) ≡ false → is_expectation (text_at script i) ≡ true
    → Writes a b (blessed_text (texts (drop i script)) printed) whole → Writes a b (blessed_text (texts (drop (i + 1) script)) printed) whole
expectation_is_left_out script printed i a b whole lt is found h =
    subst (λ (t : List ℕ). Writes a b t whole) (text_at_expectation script i _ printed (lines_from script i lt) is found) h

-- any other line is written
pub other_is_written : (script : List (Bor (List ℕ))) (printed : List (List ℕ)) (i : ℕ) (a b c : Option (List ℕ)) (whole : List ℕ)
    → i < length script → is_event (text_at script i) ≡ false → is_expectation (text_at script i) ≡ false
    → Writes a b (blessed_text (texts (drop i script)) printed) whole → Appends b c (line_text (text_at script i))
    → Writes a c (blessed_text (texts (drop (i + 1) script)) printed) whole
other_is_written script printed i a b c whole lt is found h k =
    writes_more a b c _ whole _ _ h (text_at_other script i _ printed (lines_from script i lt) is found) k
