-- The words that are scanned character by character are those of the grammar.
use Rattle.std.proofs.Common.{◌≡◌, ℕ, Bool, true, false, ◌||◌, List, [], ◌∷◌, ◌++◌, Option, Some, None, refl, sym, ap, subst, ◌∙◌, arith, append_assoc, append-nil}
use Rattle.std.specs.Prelude.{◌≢◌, ◌==◌, if◌then◌else◌}
use Rattle.std.proofs.lemmas.Bool.Decides.{nat_tests}
use Rattle.update_text.specs.Words.{Bare, InQuotes, IsWordOver, Run, RunGoesTo, WordsGoTo, by_end, by_stop, escaped, is_blank, no_further, no_word, past_blank, past_string, past_word, stops, unescaped}
use Rattle.update_text.specs.internal.Words.{AreWordsUpTo, IsOver, by_semicolon, by_text_end, complete_words, ends_words, is_escape, is_quoted, open_word, role_of, word_if_any}

-- ---- the scan

-- words and the text after them
abbrev pub Scanned : Type 0
Scanned = Option (List (List ℕ) × List ℕ)

-- words in front of others
abbrev pub in_front : List (List ℕ) → Scanned → Scanned
in_front front None = None
in_front front (Some (others, rest)) = Some (front ++ others, rest)

-- The words from a character on, given whether it is escaped, whether a quote is open, and the characters of the open word.
abbrev pub scan : Bool → Bool → List ℕ → List ℕ → Scanned
scan is_escaped quoted word [] = if is_escaped || quoted then None else Some (word_if_any word, [])
scan is_escaped quoted word (c ∷ cs) =
    if ends_words is_escaped quoted c then Some (word_if_any word, c ∷ cs)
    else in_front (complete_words (role_of is_escaped quoted c) word c)
    (scan (is_escape is_escaped c) (is_quoted is_escaped quoted c) (open_word (role_of is_escaped quoted c) word c) cs)

pub front_of_none : (found : Scanned) → in_front [] found ≡ found
front_of_none None = refl
front_of_none (Some (others, rest)) = refl

pub front_of_front : (x y : List (List ℕ)) (found : Scanned) → in_front x (in_front y found) ≡ in_front (x ++ y) found
front_of_front x y None = refl
front_of_front x y (Some (others, rest)) = ap (λ (ws : List (List ℕ)). Some (ws, rest)) (sym (append_assoc x y others))

-- ---- tests

tested : {P : Type 0} (t : Bool) → (t ≡ true → P) → (t ≡ false → P) → P
tested true p q = p refl
tested false p q = q refl

equal : (a b : ℕ) → (a == b) ≡ true → a ≡ b
equal a b e = grind (arith, nat_tests)

other : (a b : ℕ) → (a == b) ≡ false → a ≢ b
other a b e q = grind (arith, nat_tests)

unequal : (a b : ℕ) → a ≢ b → (a == b) ≡ false
unequal a b n = tested (a == b) (λ e. absurd (n (equal a b e))) (λ e. e)

-- a blank is a space or a tab
blank_is : (c : ℕ) (P : ℕ → Type 0) → is_blank c ≡ true → P 32 → P 9 → P c
blank_is c P e space tab =
    tested (c == 32) (λ s. subst P (sym (equal c 32 s)) space)
    (λ n. subst P (sym (equal c 9 (sym (ap (λ (b : Bool). b || c == 9) n) ∙ e))) tab)

-- a character that stops a word is a blank, a quote or a semicolon
stop_is : (c : ℕ) (P : ℕ → Type 0) → stops Bare c ≡ true → P 32 → P 9 → P 34 → P 59 → P c
stop_is c P e space tab quote semicolon =
    tested (is_blank c) (λ b. blank_is c P b space tab) (λ n.
    tested (c == 34) (λ q. subst P (sym (equal c 34 q)) quote) (λ m.
    subst P (sym (equal c 59 (sym (ap (λ (b : Bool). b || c == 59) m) ∙ (sym (ap (λ (b : Bool). b || (c == 34 || c == 59)) n) ∙ e)))) semicolon))

-- ---- one character

abbrev pub in_quotes : Run → Bool
in_quotes Bare = false
in_quotes InQuotes = true

bare_step : (c : ℕ) (word cs : List ℕ) → (c == 59) ≡ false → (c == 34) ≡ false → is_blank c ≡ false → (c == 92) ≡ false
    → scan false false word (c ∷ cs) ≡ in_front [] (scan false false (word ++ c ∷ []) cs)
bare_step c word cs semicolon quote blank backslash = rw (semicolon, quote, blank, backslash) refl

quoted_step : (c : ℕ) (word cs : List ℕ) → (c == 34) ≡ false → (c == 92) ≡ false
    → scan false true word (c ∷ cs) ≡ in_front [] (scan false true (word ++ c ∷ []) cs)
quoted_step c word cs quote backslash = rw (quote, backslash) refl

neither : (a b : Bool) → (a || b) ≡ false → (a ≡ false) × (b ≡ false)
neither true b e = absurd (cc)
neither false b e = (refl, e)

plain_step : (r : Run) (c : ℕ) (word cs : List ℕ) → stops r c ≡ false → c ≢ 92
    → scan false (in_quotes r) word (c ∷ cs) ≡ scan false (in_quotes r) (word ++ c ∷ []) cs
plain_step Bare c word cs stop backslash =
    let first = neither (is_blank c) (c == 34 || c == 59) stop in
    let second = neither (c == 34) (c == 59) first.1 in
    bare_step c word cs second.1 second.0 first.0 (unequal c 92 backslash) ∙ front_of_none (scan false false (word ++ c ∷ []) cs)
plain_step InQuotes c word cs stop backslash =
    quoted_step c word cs stop (unequal c 92 backslash) ∙ front_of_none (scan false true (word ++ c ∷ []) cs)

backslash_step : (r : Run) (word cs : List ℕ) → scan false (in_quotes r) word (92 ∷ cs) ≡ scan true (in_quotes r) (word ++ 92 ∷ []) cs
backslash_step Bare word cs = front_of_none (scan true false (word ++ 92 ∷ []) cs)
backslash_step InQuotes word cs = front_of_none (scan true true (word ++ 92 ∷ []) cs)

escaped_step : (quoted : Bool) (word : List ℕ) (c : ℕ) (cs : List ℕ) → scan true quoted word (c ∷ cs) ≡ scan false quoted (word ++ c ∷ []) cs
escaped_step quoted word c cs = front_of_none (scan false quoted (word ++ c ∷ []) cs)

-- ---- what the grammar has is scanned

run_scans : {r : Run} {text run rest : List ℕ} → RunGoesTo r text run rest → (word : List ℕ)
    → scan false (in_quotes r) word text ≡ scan false (in_quotes r) (word ++ run) rest
run_scans {r} {rest = rest} no_further word = ap (λ (w : List ℕ). scan false (in_quotes r) w rest) (sym (append-nil word))
run_scans {r} {rest = rest} (unescaped {c = c} {text = text} {run = run} stop backslash more) word =
    plain_step r c word text stop backslash ∙ run_scans more (word ++ c ∷ [])
    ∙ ap (λ (w : List ℕ). scan false (in_quotes r) w rest) (append_assoc word (c ∷ []) run)
run_scans {r} {rest = rest} (escaped {c = c} {text = text} {run = run} more) word =
    backslash_step r word (c ∷ text) ∙ escaped_step (in_quotes r) (word ++ 92 ∷ []) c text
    ∙ run_scans more ((word ++ 92 ∷ []) ++ c ∷ [])
    ∙ ap (λ (w : List ℕ). scan false (in_quotes r) w rest) (append_assoc (word ++ 92 ∷ []) (c ∷ []) run ∙ append_assoc word (92 ∷ []) (c ∷ run))

over_scans : {next : List ℕ} → IsWordOver next → (c : ℕ) (run : List ℕ)
    → scan false false (c ∷ run) next ≡ in_front ((c ∷ run) ∷ []) (scan false false [] next)
over_scans by_end c run = refl
over_scans (by_stop {c = d} {rest = more} stop) c run =
    let front : (found : Scanned) → in_front ((c ∷ run) ∷ []) found ≡ in_front ((c ∷ run) ∷ []) (in_front [] found) =
    λ (found : Scanned). ap (in_front ((c ∷ run) ∷ [])) (sym (front_of_none found)) in
    stop_is d (λ (k : ℕ). scan false false (c ∷ run) (k ∷ more) ≡ in_front ((c ∷ run) ∷ []) (scan false false [] (k ∷ more))) stop
    (front (scan false false [] more)) (front (scan false false [] more)) (front (scan false true (34 ∷ []) more)) refl

nothing_scans : {rest : List ℕ} → IsOver rest → scan false false [] rest ≡ Some ([], rest)
nothing_scans by_text_end = refl
nothing_scans by_semicolon = refl

pub words_scan : {text rest : List ℕ} {words : List (List ℕ)} → WordsGoTo text words rest → IsOver rest → scan false false [] text ≡ Some (words, rest)
words_scan no_word over = nothing_scans over
words_scan {rest = rest} {words = words} (past_blank {c = c} {text = text} blank more) over =
    let left : in_front [] (scan false false [] text) ≡ Some (words, rest) = front_of_none (scan false false [] text) ∙ words_scan more over in
    blank_is c (λ (k : ℕ). scan false false [] (k ∷ text) ≡ Some (words, rest)) blank left left
words_scan (past_word {c = c} {run = run} goes end more) over =
    run_scans goes [] ∙ over_scans end c run ∙ ap (in_front ((c ∷ run) ∷ [])) (words_scan more over)
words_scan (past_string {text = text} {string = string} goes more) over =
    front_of_none (scan false true (34 ∷ []) text) ∙ run_scans goes (34 ∷ [])
    ∙ ap (in_front ((34 ∷ string ++ 34 ∷ []) ∷ [])) (words_scan more over)

-- ---- what is scanned is in the grammar

-- what is scanned are words, up to the end of the text or a semicolon
abbrev pub Holds : List ℕ → Scanned → Type 0
Holds text None = Unit {0}
Holds text (Some found) = AreWordsUpTo text found.0 found.1

-- characters in front of a run that belong to it
abbrev Extends : Run → List ℕ → Type 0
Extends r front = (text run rest : List ℕ) → RunGoesTo r text run rest → RunGoesTo r (front ++ text) (front ++ run) rest

extends_plain : (r : Run) (front : List ℕ) (c : ℕ) → stops r c ≡ false → c ≢ 92 → Extends r front → Extends r (front ++ c ∷ [])
extends_plain r front c stop backslash extends text run rest goes =
    let more : RunGoesTo r (front ++ c ∷ text) (front ++ c ∷ run) rest = extends (c ∷ text) (c ∷ run) rest (unescaped stop backslash goes) in
    rw (append_assoc front (c ∷ []) text, append_assoc front (c ∷ []) run) more

extends_escaped : (r : Run) (front : List ℕ) (c : ℕ) → Extends r front → Extends r (front ++ 92 ∷ c ∷ [])
extends_escaped r front c extends text run rest goes =
    let more : RunGoesTo r (front ++ 92 ∷ c ∷ text) (front ++ 92 ∷ c ∷ run) rest = extends (92 ∷ c ∷ text) (92 ∷ c ∷ run) rest (escaped goes) in
    rw (append_assoc front (92 ∷ c ∷ []) text, append_assoc front (92 ∷ c ∷ []) run) more

run_of : (r : Run) (run rest : List ℕ) → Extends r run → RunGoesTo r (run ++ rest) run rest
run_of r run rest extends =
    subst (λ (l : List ℕ). RunGoesTo r (run ++ rest) l rest) (append-nil run) (extends rest [] rest no_further)

-- a word is over, and what is scanned after it holds
ends_word : (word next : List ℕ) (found : Scanned) → Extends Bare word → IsWordOver next → Holds next found
    → Holds (word ++ next) (in_front (word_if_any word) found)
ends_word word next None extends over holds = tt
ends_word [] next (Some (words, rest)) extends over holds = holds
ends_word (c ∷ cs) next (Some (words, rest)) extends over holds = (past_word (run_of Bare (c ∷ cs) next extends) over holds.0, holds.1)

closes_string : (string next : List ℕ) (found : Scanned) → Extends InQuotes string → Holds next found
    → Holds (34 ∷ string ++ 34 ∷ next) (in_front ((34 ∷ string ++ 34 ∷ []) ∷ []) found)
closes_string string next None extends holds = tt
closes_string string next (Some (words, rest)) extends holds = (past_string (run_of InQuotes string (34 ∷ next) extends) holds.0, holds.1)

skips_blank : (c : ℕ) (text : List ℕ) (found : Scanned) → is_blank c ≡ true → Holds text found → Holds (c ∷ text) found
skips_blank c text None blank holds = tt
skips_blank c text (Some (words, rest)) blank holds = (past_blank blank holds.0, holds.1)

-- the word is the last
last_word : (word rest : List ℕ) → Extends Bare word → IsWordOver rest → IsOver rest → Holds (word ++ rest) (Some (word_if_any word, rest))
last_word word rest extends end over =
    let all : Holds (word ++ rest) (Some (word_if_any word ++ [], rest)) = ends_word word rest (Some ([], rest)) extends end (no_word, over) in
    subst (λ (ws : List (List ℕ)). Holds (word ++ rest) (Some (ws, rest))) (append-nil (word_if_any word)) all

bare_character : (c : ℕ) (P : ℕ → Type 0) → P 59 → P 34 → P 32 → P 9 → P 92 → (stops Bare c ≡ false → c ≢ 92 → P c) → P c
bare_character c P semicolon quote space tab backslash plain =
    tested (stops Bare c) (λ stop. stop_is c P stop space tab quote semicolon) (λ goes.
    tested (c == 92) (λ e. subst P (sym (equal c 92 e)) backslash) (λ n. plain goes (other c 92 n)))

quoted_character : (c : ℕ) (P : ℕ → Type 0) → P 34 → P 92 → (stops InQuotes c ≡ false → c ≢ 92 → P c) → P c
quoted_character c P quote backslash plain =
    tested (c == 34) (λ e. subst P (sym (equal c 34 e)) quote) (λ goes.
    tested (c == 92) (λ e. subst P (sym (equal c 92 e)) backslash) (λ n. plain goes (other c 92 n)))

-- the open word of a run: a string has its first quote, and a backslash may be the last character
abbrev opened : Run → List ℕ → List ℕ
opened Bare run = run
opened InQuotes run = 34 ∷ run

abbrev open_at : Bool → Run → List ℕ → List ℕ
open_at false r run = opened r run
open_at true r run = opened r run ++ 92 ∷ []

opened_more : (r : Run) (run : List ℕ) (c : ℕ) → (opened r run ++ 92 ∷ []) ++ c ∷ [] ≡ opened r (run ++ 92 ∷ c ∷ [])
opened_more Bare run c = append_assoc run (92 ∷ []) (c ∷ [])
opened_more InQuotes run c = ap (λ (l : List ℕ). 34 ∷ l) (append_assoc run (92 ∷ []) (c ∷ []))

opened_plain : (r : Run) (run : List ℕ) (c : ℕ) → opened r run ++ c ∷ [] ≡ opened r (run ++ c ∷ [])
opened_plain Bare run c = refl
opened_plain InQuotes run c = refl

-- one more character belongs to the open word
open_more : (front next text : List ℕ) (c : ℕ) (found : Scanned) → front ++ c ∷ [] ≡ next → Holds (next ++ text) found → Holds (front ++ c ∷ text) found
open_more front next text c found same holds =
    subst (λ (t : List ℕ). Holds t found) (append_assoc front (c ∷ []) text) (rw same holds)

scan_holds_from : (is_escaped : Bool) (r : Run) (text run : List ℕ) → Extends r run
    → Holds (open_at is_escaped r run ++ text) (scan is_escaped (in_quotes r) (open_at is_escaped r run) text)
scan_holds_from true r [] run extends = tt
scan_holds_from true r (c ∷ cs) run extends =
    let more : Holds (opened r (run ++ 92 ∷ c ∷ []) ++ cs) (scan false (in_quotes r) (opened r (run ++ 92 ∷ c ∷ [])) cs) =
    scan_holds_from false r cs (run ++ 92 ∷ c ∷ []) (extends_escaped r run c extends) in
    let same = opened_more r run c in
    let here : Holds ((opened r run ++ 92 ∷ []) ++ c ∷ cs) (scan false (in_quotes r) ((opened r run ++ 92 ∷ []) ++ c ∷ []) cs) =
    open_more (opened r run ++ 92 ∷ []) (opened r (run ++ 92 ∷ c ∷ [])) cs c _ same (rw same more) in
    subst (Holds ((opened r run ++ 92 ∷ []) ++ c ∷ cs)) (sym (escaped_step (in_quotes r) (opened r run ++ 92 ∷ []) c cs)) here
scan_holds_from false Bare [] run extends = last_word run [] extends by_end by_text_end
scan_holds_from false InQuotes [] run extends = tt
scan_holds_from false Bare (c ∷ cs) run extends =
    let blank : Holds cs (scan false false [] cs) = scan_holds_from false Bare cs [] (λ text run rest goes. goes) in
    let string : Holds (34 ∷ cs) (scan false true (34 ∷ []) cs) = scan_holds_from false InQuotes cs [] (λ text run rest goes. goes) in
    let backslash : Holds ((run ++ 92 ∷ []) ++ cs) (scan true false (run ++ 92 ∷ []) cs) = scan_holds_from true Bare cs run extends in
    bare_character c (λ (k : ℕ). Holds (run ++ k ∷ cs) (scan false false run (k ∷ cs)))
    (last_word run (59 ∷ cs) extends (by_stop refl) by_semicolon)
    (ends_word run (34 ∷ cs) (scan false true (34 ∷ []) cs) extends (by_stop refl) string)
    (ends_word run (32 ∷ cs) (scan false false [] cs) extends (by_stop refl) (skips_blank 32 cs (scan false false [] cs) refl blank))
    (ends_word run (9 ∷ cs) (scan false false [] cs) extends (by_stop refl) (skips_blank 9 cs (scan false false [] cs) refl blank))
    (subst (Holds (run ++ 92 ∷ cs)) (sym (backslash_step Bare run cs)) (open_more run (run ++ 92 ∷ []) cs 92 (scan true false (run ++ 92 ∷ []) cs) refl backslash))
    (λ stop other_than_92.
    let more : Holds ((run ++ c ∷ []) ++ cs) (scan false false (run ++ c ∷ []) cs) =
    scan_holds_from false Bare cs (run ++ c ∷ []) (extends_plain Bare run c stop other_than_92 extends) in
    subst (Holds (run ++ c ∷ cs)) (sym (plain_step Bare c run cs stop other_than_92))
    (open_more run (run ++ c ∷ []) cs c (scan false false (run ++ c ∷ []) cs) refl more))
scan_holds_from false InQuotes (c ∷ cs) run extends =
    let after : Holds cs (scan false false [] cs) = scan_holds_from false Bare cs [] (λ text run rest goes. goes) in
    let backslash : Holds ((34 ∷ run ++ 92 ∷ []) ++ cs) (scan true true (34 ∷ run ++ 92 ∷ []) cs) = scan_holds_from true InQuotes cs run extends in
    quoted_character c (λ (k : ℕ). Holds (34 ∷ run ++ k ∷ cs) (scan false true (34 ∷ run) (k ∷ cs)))
    (closes_string run cs (scan false false [] cs) extends after)
    (subst (Holds (34 ∷ run ++ 92 ∷ cs)) (sym (backslash_step InQuotes (34 ∷ run) cs))
    (open_more (34 ∷ run) (34 ∷ run ++ 92 ∷ []) cs 92 (scan true true (34 ∷ run ++ 92 ∷ []) cs) refl backslash))
    (λ stop other_than_92.
    let more : Holds ((34 ∷ run ++ c ∷ []) ++ cs) (scan false true (34 ∷ run ++ c ∷ []) cs) =
    scan_holds_from false InQuotes cs (run ++ c ∷ []) (extends_plain InQuotes run c stop other_than_92 extends) in
    subst (Holds (34 ∷ run ++ c ∷ cs)) (sym (plain_step InQuotes c (34 ∷ run) cs stop other_than_92))
    (open_more (34 ∷ run) (34 ∷ run ++ c ∷ []) cs c (scan false true (34 ∷ run ++ c ∷ []) cs) refl more))

pub scan_holds : (text : List ℕ) → Holds text (scan false false [] text)
scan_holds text = scan_holds_from false Bare text [] (λ text run rest goes. goes)
