-- What stands in front of a text by the grammar is what is counted there.
use Rattle.std.proofs.Common.{◌≡◌, ℕ, suc, ◌+◌, ◌<◌, ◌⊎◌, inl, inr, Bool, true, false, ◌&&◌, ◌||◌, List, [], ◌∷◌, ◌++◌, length, take, drop, Option, Some, None, refl, sym, ap, subst, ◌∙◌, arith}
use Rattle.std.specs.Prelude.{◌≢◌, ◌==◌, not, if◌then◌else◌}
use Rattle.std.specs.Str.{bytes_eq}
use Rattle.std.proofs.Math.Seq.{take-append_seam, drop-append_seam, drop-append-add}
use Rattle.std.proofs.lemmas.Bool.Decides.{nat_tests}
use Rattle.dns_text.specs.declared.quotes.Quotes.{Quotes}
use Rattle.dns_text.specs.declared.quotes.Quotes.TheVariants.{OneLine, ManyLines}
use Rattle.dns_text.specs.Front.{Run, Bare, InQuotes, OverLines, Front, line_end, line_from, begins_with_feed, is_blank, string_run, stops, is_on_line, ends_run, run_from, quoted, front}
use Rattle.dns_text.specs.Front as by_len
use Rattle.dns_text.specs.FrontGrammar.{EndsLine, feed, return_and_feed, IsLineOver, by_text_end, by_line_end, LineGoesTo, line_over, on_line, IsCut, RunGoesTo, no_further, unescaped, escaped, IsRunOver, by_cut, by_stop, FrontItem, TextEnd, LineEnd, Gap, Comment, Open, Close, Quoted, Word, Unclosed, Broken, IsInFront, text_end, gap, comment, opening, closing, quoted_string, word, unclosed, broken_string, broken_word, front_item}
use Rattle.dns_text.specs.FrontGrammar as grammar
use Rattle.dns_text.proofs.FrontLaws.{run_ends}

-- ---- tests

equal : (a b : ℕ) → (a == b) ≡ true → a ≡ b
equal a b e = grind (arith, nat_tests)

other : (a b : ℕ) → (a == b) ≡ false → a ≢ b
other a b e q = grind (arith, nat_tests)

pub tested : {P : Type 0} (t : Bool) → (t ≡ true → P) → (t ≡ false → P) → P
tested true p q = p refl
tested false p q = q refl

pub unequal : (a b : ℕ) → a ≢ b → (a == b) ≡ false
unequal a b n = tested (a == b) (λ e. absurd (n (equal a b e))) (λ e. e)

both : (a b : Bool) → (a && b) ≡ true → (a ≡ true) × (b ≡ true)
both true b e = (refl, e)
both false b e = absurd (cc)

neither : (a b : Bool) → (a || b) ≡ false → (a ≡ false) × (b ≡ false)
neither true b e = absurd (cc)
neither false b e = (refl, e)

-- ---- lines

feed_at : (c : ℕ) (cs : List ℕ) → c ≡ 10 → IsLineOver (c ∷ cs)
feed_at c cs e = subst (λ (k : ℕ). IsLineOver (k ∷ cs)) (sym e) (by_line_end feed)

return_at : (c : ℕ) (cs : List ℕ) → (c == 13) ≡ true → begins_with_feed cs ≡ true → IsLineOver (c ∷ cs)
return_at c [] e f = absurd (cc)
return_at c (d ∷ ds) e f =
    subst (λ (k : ℕ). IsLineOver (k ∷ d ∷ ds)) (sym (equal c 13 e)) (subst (λ (k : ℕ). IsLineOver (13 ∷ k ∷ ds)) (sym (equal d 10 f)) (by_line_end return_and_feed))

pub no_line : (c : ℕ) (cs : List ℕ) → (c == 10) ≡ false → (c == 13 && begins_with_feed cs) ≡ false → line_end (c ∷ cs) ≡ 0
no_line c cs e f = rw (e, f) refl

over_or_not : (c : ℕ) (cs : List ℕ) → IsLineOver (c ∷ cs) ⊎ (line_end (c ∷ cs) ≡ 0)
over_or_not c cs =
    tested (c == 10) (λ e. inl (feed_at c cs (equal c 10 e))) (λ e.
    tested (c == 13 && begins_with_feed cs) (λ f. let b = both (c == 13) (begins_with_feed cs) f in inl (return_at c cs b.0 b.1)) (λ f. inr (no_line c cs e f)))

ends_some : {text rest : List ℕ} → EndsLine text rest → 0 < line_end text
ends_some feed = omega arith
ends_some return_and_feed = omega arith

over_some : {text : List ℕ} → IsLineOver text → 0 < length text → 0 < line_end text
over_some by_text_end some = absurd (omega arith)
over_some (by_line_end e) some = ends_some e

-- a character that doesn't end its line
stays_on : (c : ℕ) (cs : List ℕ) → ¬ IsLineOver (c ∷ cs) → line_end (c ∷ cs) ≡ 0
stays_on c cs goes = at (over_or_not c cs)
  where
    at : IsLineOver (c ∷ cs) ⊎ (line_end (c ∷ cs) ≡ 0) → line_end (c ∷ cs) ≡ 0
    at (inl over) = absurd (goes over)
    at (inr e) = e

pub goes_on : (c : ℕ) (cs : List ℕ) → line_end (c ∷ cs) ≡ 0 → ¬ IsLineOver (c ∷ cs)
goes_on c cs e over = let some : 0 < line_end (c ∷ cs) = over_some over (omega arith) in omega arith

line_stays : {text : List ℕ} → IsLineOver text → (p : ℕ) → line_from p text ≡ p
line_stays by_text_end p = refl
line_stays (by_line_end feed) p = refl
line_stays (by_line_end return_and_feed) p = refl

else_picks : {A : Type 0} (n : ℕ) (a b : A) → n ≡ 0 → (if n == 0 then a else b) ≡ a
else_picks n a b e = rw e refl

-- so many characters of a line
line_read : {text rest : List ℕ} → LineGoesTo text rest → (k : ℕ) × (((p : ℕ) → line_from p text ≡ p + k) × (drop k text ≡ rest))
line_read (line_over over) = (0, (λ p. line_stays over p ∙ omega arith, refl))
line_read (on_line {c = c} {text = text} goes more) =
    let read = line_read more in
    (suc read.0, (λ p. else_picks (line_end (c ∷ text)) (line_from (p + 1) text) p (stays_on c text goes) ∙ read.1.0 (p + 1) ∙ omega arith, read.1.1))

-- ---- runs

-- whether a run can't have this character, which begins the end of a line
abbrev cuts : Run → ℕ → List ℕ → Bool
cuts r c cs = is_on_line r && not (line_end (c ∷ cs) == 0)

feeds_none : (c : ℕ) (cs : List ℕ) → line_end (c ∷ cs) ≡ 0 → not (line_end (c ∷ cs) == 0) ≡ false
feeds_none c cs e = rw e refl

none_feeds : (c : ℕ) (cs : List ℕ) → not (line_end (c ∷ cs) == 0) ≡ false → line_end (c ∷ cs) ≡ 0
none_feeds c cs e = grind (arith, nat_tests)

line_cut_or_not : (c : ℕ) (cs : List ℕ) → IsLineOver (c ∷ cs) ⊎ (not (line_end (c ∷ cs) == 0) ≡ false)
line_cut_or_not c cs = at (over_or_not c cs)
  where
    at : IsLineOver (c ∷ cs) ⊎ (line_end (c ∷ cs) ≡ 0) → IsLineOver (c ∷ cs) ⊎ (not (line_end (c ∷ cs) == 0) ≡ false)
    at (inl over) = inl over
    at (inr e) = inr (feeds_none c cs e)

cut_or_not : (r : Run) (c : ℕ) (cs : List ℕ) → IsCut r (c ∷ cs) ⊎ (cuts r c cs ≡ false)
cut_or_not Bare c cs = line_cut_or_not c cs
cut_or_not InQuotes c cs = line_cut_or_not c cs
cut_or_not OverLines c cs = inr refl

pub goes_in : (r : Run) (c : ℕ) (cs : List ℕ) → cuts r c cs ≡ false → ¬ IsCut r (c ∷ cs)
goes_in Bare c cs e = goes_on c cs (none_feeds c cs e)
goes_in InQuotes c cs e = goes_on c cs (none_feeds c cs e)
goes_in OverLines c cs e = λ is. absurd (cc)

stays_in : (r : Run) (c : ℕ) (cs : List ℕ) → ¬ IsCut r (c ∷ cs) → cuts r c cs ≡ false
stays_in r c cs goes = at (cut_or_not r c cs)
  where
    at : IsCut r (c ∷ cs) ⊎ (cuts r c cs ≡ false) → cuts r c cs ≡ false
    at (inl cut) = absurd (goes cut)
    at (inr e) = e

text_cut : (r : Run) → IsCut r []
text_cut Bare = by_text_end
text_cut InQuotes = by_text_end
text_cut OverLines = refl

-- a backslash ends no line
slash_stays : (r : Run) (cs : List ℕ) → cuts r 92 cs ≡ false
slash_stays Bare cs = refl
slash_stays InQuotes cs = refl
slash_stays OverLines cs = refl

pub quote_stops : (quotes : Quotes) → stops (string_run quotes) 34 ≡ true
quote_stops OneLine = refl
quote_stops ManyLines = refl

stop_is_quote : (quotes : Quotes) (c : ℕ) → stops (string_run quotes) c ≡ true → c ≡ 34
stop_is_quote OneLine c e = equal c 34 e
stop_is_quote ManyLines c e = equal c 34 e

run_is : {r : Run} {text run rest : List ℕ} → RunGoesTo r text run rest → text ≡ run ++ rest
run_is no_further = refl
run_is (unescaped {c = c} goes e n more) = ap (λ (l : List ℕ). c ∷ l) (run_is more)
run_is (escaped {c = c} goes more) = ap (λ (l : List ℕ). 92 ∷ c ∷ l) (run_is more)

unstopped : (cut is_escaped stop : Bool) → cut ≡ false → (not is_escaped && stop) ≡ false → (cut || (not is_escaped && stop)) ≡ false
unstopped cut is_escaped stop e f = rw (e, f) refl

step_on : (r : Run) (is_escaped next : Bool) (p c : ℕ) (cs : List ℕ) → cuts r c cs ≡ false → (not is_escaped && stops r c) ≡ false → (not is_escaped && c == 92) ≡ next → run_from r is_escaped p (c ∷ cs) ≡ run_from r next (p + 1) cs
step_on r is_escaped next p c cs e f is =
    picks (ends_run r is_escaped (c ∷ cs)) (if is_escaped then None else Some p) (run_from r (not is_escaped && c == 92) (p + 1) cs) (unstopped (cuts r c cs) is_escaped (stops r c) e f)
    ∙ ap (λ (k : Bool). run_from r k (p + 1) cs) is
  where
    picks : (t : Bool) (a b : Option ℕ) → t ≡ false → (if t then a else b) ≡ b
    picks t a b q = rw q refl

no_stop : (r : Run) → stops r 92 ≡ false
no_stop Bare = refl
no_stop InQuotes = refl
no_stop OverLines = refl

run_on : {r : Run} {text run rest : List ℕ} → RunGoesTo r text run rest → (p : ℕ) → run_from r false p text ≡ run_from r false (p + length run) rest
run_on {r} {rest = rest} no_further p = ap (λ (k : ℕ). run_from r false k rest) (omega arith)
run_on {r} {rest = rest} (unescaped {c = c} {text = text} {run = run} goes e n more) p =
    step_on r false false p c text (stays_in r c text goes) e (unequal c 92 n)
    ∙ run_on more (p + 1) ∙ ap (λ (k : ℕ). run_from r false k rest) (omega arith)
run_on {r} {rest = rest} (escaped {c = c} {text = text} {run = run} goes more) p =
    step_on r false true p 92 (c ∷ text) (slash_stays r (c ∷ text)) (no_stop r) refl
    ∙ step_on r true false (p + 1) c text (stays_in r c text goes) refl refl
    ∙ run_on more (p + 1 + 1) ∙ ap (λ (k : ℕ). run_from r false k rest) (omega arith)

cut_stops : (r : Run) (is_escaped : Bool) (rest : List ℕ) → IsCut r rest → ends_run r is_escaped rest ≡ true
cut_stops r is_escaped [] cut = refl
cut_stops Bare is_escaped _ (by_line_end feed) = refl
cut_stops Bare is_escaped _ (by_line_end return_and_feed) = refl
cut_stops InQuotes is_escaped _ (by_line_end feed) = refl
cut_stops InQuotes is_escaped _ (by_line_end return_and_feed) = refl
cut_stops OverLines is_escaped (c ∷ cs) cut = absurd (cc)

run_stops : {r : Run} {rest : List ℕ} → IsRunOver r rest → ends_run r false rest ≡ true
run_stops {r} {rest} (by_cut cut) = cut_stops r false rest cut
run_stops (by_stop {r = r} {c = c} {rest = rest} e) = at (cuts r c rest) (stops r c) e
  where
    at : (a b : Bool) → b ≡ true → (a || (not false && b)) ≡ true
    at true b e = refl
    at false b e = e

pub run_read : {r : Run} {text run rest : List ℕ} → RunGoesTo r text run rest → IsRunOver r rest → run_from r false 0 text ≡ Some (length run)
run_read {r} {run = run} {rest = rest} goes over = run_on goes 0 ∙ run_ends r false (0 + length run) rest (run_stops over) ∙ ap (λ (n : ℕ). Some n) (omega arith)

run_breaks : {r : Run} {text run rest : List ℕ} → RunGoesTo r text run (92 ∷ rest) → IsCut r rest → run_from r false 0 text ≡ None
run_breaks {r} {run = run} {rest = rest} goes over =
    run_on goes 0 ∙ step_on r false true (0 + length run) 92 rest (slash_stays r rest) (no_stop r) refl ∙ run_ends r true (0 + length run + 1) rest (cut_stops r true rest over)

-- ---- what the grammar has in front is what is is_counted

word_first : (quotes : Quotes) (c : ℕ) (cs : List ℕ) → line_end (c ∷ cs) ≡ 0 → stops Bare c ≡ false → front quotes (c ∷ cs) ≡ by_len.word (run_from Bare false 0 (c ∷ cs))
word_first quotes c cs e f =
    let a = neither (is_blank c || c == 59 || c == 34 || c == 40) (c == 41) f in
    let b = neither (is_blank c || c == 59 || c == 34) (c == 40) a.0 in
    let d = neither (is_blank c || c == 59) (c == 34) b.0 in
    let g = neither (is_blank c) (c == 59) d.0 in
    last (line_end (c ∷ cs)) (is_blank c) (c == 59) (c == 40) (c == 41) (c == 34) _ _ _ _ _ _ _ e g.0 g.1 b.1 a.1 d.1
  where
    last : (l : ℕ) (s t u v w : Bool) (f1 f2 f3 f4 f5 f6 f7 : Front) → l ≡ 0 → s ≡ false → t ≡ false → u ≡ false → v ≡ false → w ≡ false
        → (if not (l == 0) then f1 else if s then f2 else if t then f3 else if u then f4 else if v then f5 else if w then f6 else f7) ≡ f7
    last l s t u v w f1 f2 f3 f4 f5 f6 f7 e1 e2 e3 e4 e5 e6 = rw (e1, e2, e3, e4, e5, e6) refl

pub word_begun : (quotes : Quotes) {text run rest : List ℕ} → RunGoesTo Bare text run rest → 0 < length run → front quotes text ≡ by_len.word (run_from Bare false 0 text)
word_begun quotes no_further some = absurd (omega arith)
word_begun quotes (unescaped {c = c} {text = text} goes e n more) some = word_first quotes c text (stays_on c text goes) e
word_begun quotes (escaped {c = c} {text = text} goes more) some = word_first quotes 92 (c ∷ text) refl refl

word_broken : (quotes : Quotes) {text run rest : List ℕ} → RunGoesTo Bare text run (92 ∷ rest) → front quotes text ≡ by_len.word (run_from Bare false 0 text)
word_broken quotes {rest = rest} no_further = word_first quotes 92 rest refl refl
word_broken quotes (unescaped {c = c} {text = text} goes e n more) = word_first quotes c text (stays_on c text goes) e
word_broken quotes (escaped {c = c} {text = text} goes more) = word_first quotes 92 (c ∷ text) refl refl

word_stands : (run rest : List ℕ) → Word run rest ≡ front_item (by_len.Word (length run)) (run ++ rest)
word_stands run rest = sym (ap (λ (l : List ℕ). Word l (drop (length run) (run ++ rest))) (take-append_seam run rest) ∙ ap (λ (l : List ℕ). Word run l) (drop-append_seam run rest))

string_stands : (string rest : List ℕ) → Quoted string rest ≡ front_item (quoted (Some (length string)) (string ++ 34 ∷ rest)) (34 ∷ (string ++ 34 ∷ rest))
string_stands string rest =
    sym (ap (λ (l : List ℕ). front_item (if bytes_eq (take 1 l) (34 ∷ []) then by_len.Quoted (length string) else by_len.Unclosed) (34 ∷ (string ++ 34 ∷ rest))) (drop-append_seam string (34 ∷ rest))
    ∙ ap (λ (l : List ℕ). Quoted l (drop (length string + 2) (34 ∷ (string ++ 34 ∷ rest)))) (take-append_seam string (34 ∷ rest))
    ∙ ap (λ (k : ℕ). Quoted string (drop k (34 ∷ (string ++ 34 ∷ rest)))) (further (length string))
    ∙ ap (λ (l : List ℕ). Quoted string l) (drop-append-add string (34 ∷ rest) 1))
  where
    further : (n : ℕ) → n + 2 ≡ suc (n + 1)
    further n = omega arith

no_quote : {rest : List ℕ} → IsLineOver rest → bytes_eq (take 1 rest) (34 ∷ []) ≡ false
no_quote by_text_end = refl
no_quote (by_line_end feed) = refl
no_quote (by_line_end return_and_feed) = refl

cut_no_quote : (quotes : Quotes) (rest : List ℕ) → IsCut (string_run quotes) rest → bytes_eq (take 1 rest) (34 ∷ []) ≡ false
cut_no_quote OneLine rest over = no_quote over
cut_no_quote ManyLines rest e = rw e refl

string_open : (string rest : List ℕ) → bytes_eq (take 1 rest) (34 ∷ []) ≡ false → quoted (Some (length string)) (string ++ rest) ≡ by_len.Unclosed
string_open string rest none =
    ap (λ (l : List ℕ). if bytes_eq (take 1 l) (34 ∷ []) then by_len.Quoted (length string) else by_len.Unclosed) (drop-append_seam string rest)
    ∙ picks _ none
  where
    picks : (t : Bool) → t ≡ false → (if t then by_len.Quoted (length string) else by_len.Unclosed) ≡ by_len.Unclosed
    picks t e = rw e refl

gap_stands : (quotes : Quotes) (c : ℕ) (rest : List ℕ) → is_blank c ≡ true → Gap rest ≡ front_item (front quotes (c ∷ rest)) (c ∷ rest)
gap_stands quotes c rest e = tested (c == 32) (λ f. at 32 (equal c 32 f) refl) (λ f. at 9 (equal c 9 (rest_of (c == 32) (c == 9) f e)) refl)
  where
    at : (k : ℕ) → c ≡ k → Gap rest ≡ front_item (front quotes (k ∷ rest)) (k ∷ rest) → Gap rest ≡ front_item (front quotes (c ∷ rest)) (c ∷ rest)
    at k is q = subst (λ (n : ℕ). Gap rest ≡ front_item (front quotes (n ∷ rest)) (n ∷ rest)) (sym is) q

    rest_of : (a b : Bool) → a ≡ false → (a || b) ≡ true → b ≡ true
    rest_of true b f q = absurd (cc)
    rest_of false b f q = q

is_counted : {quotes : Quotes} {text : List ℕ} {a : FrontItem} → IsInFront quotes text a → a ≡ front_item (front quotes text) text
is_counted text_end = refl
is_counted (grammar.line_end feed) = refl
is_counted (grammar.line_end return_and_feed) = refl
is_counted {quotes} (gap {c = c} {rest = rest} e) = gap_stands quotes c rest e
is_counted (comment {text = text} {rest = rest} goes) =
    let read = line_read goes in
    let all : line_from 0 text + 1 ≡ suc read.0 = omega (arith, read.1.0 0) in
    sym (ap (λ (k : ℕ). Comment (drop k (59 ∷ text))) all ∙ ap (λ (l : List ℕ). Comment l) read.1.1)
is_counted opening = refl
is_counted closing = refl
is_counted {quotes} (quoted_string {text = text} {string = string} {rest = rest} goes) =
    let whole : text ≡ string ++ 34 ∷ rest = run_is goes in
    string_stands string rest
    ∙ ap (λ (l : List ℕ). front_item (quoted (Some (length string)) l) (34 ∷ l)) (sym whole)
    ∙ ap (λ (o : Option ℕ). front_item (quoted o text) (34 ∷ text)) (sym (run_read goes (by_stop (quote_stops quotes))))
is_counted {quotes} (word {c = c} {text = text} {run = run} {rest = rest} goes over) =
    let whole : text ≡ c ∷ run ++ rest = run_is goes in
    word_stands (c ∷ run) rest
    ∙ ap (λ (l : List ℕ). front_item (by_len.Word (suc (length run))) l) (sym whole)
    ∙ ap (λ (o : Option ℕ). front_item (by_len.word o) text) (sym (run_read goes over))
    ∙ ap (λ (f : Front). front_item f text) (sym (word_begun quotes goes (omega arith)))
is_counted {quotes} (unclosed {text = text} {string = string} {rest = rest} goes over) =
    let whole : text ≡ string ++ rest = run_is goes in
    let is : quoted (run_from (string_run quotes) false 0 text) text ≡ by_len.Unclosed =
    ap (λ (o : Option ℕ). quoted o text) (run_read goes (by_cut over)) ∙ ap (λ (l : List ℕ). quoted (Some (length string)) l) whole ∙ string_open string rest (cut_no_quote quotes rest over) in
    ap (λ (f : Front). front_item f (34 ∷ text)) (sym is)
is_counted (broken_string {text = text} goes over) = ap (λ (o : Option ℕ). front_item (quoted o text) (34 ∷ text)) (sym (run_breaks goes over))
is_counted {quotes} (broken_word {text = text} goes over) =
    ap (λ (o : Option ℕ). front_item (by_len.word o) text) (sym (run_breaks goes over)) ∙ ap (λ (f : Front). front_item f text) (sym (word_broken quotes goes))

pub one : (quotes : Quotes) (text : List ℕ) (a b : FrontItem) → IsInFront quotes text a → IsInFront quotes text b → a ≡ b
one quotes text a b s t = is_counted s ∙ sym (is_counted t)

-- ---- in front of each text something stands

line_found : (text : List ℕ) → (rest : List ℕ) × LineGoesTo text rest
line_found [] = ([], line_over by_text_end)
line_found (c ∷ cs) = at (over_or_not c cs) (line_found cs)
  where
    at : IsLineOver (c ∷ cs) ⊎ (line_end (c ∷ cs) ≡ 0) → (rest : List ℕ) × LineGoesTo cs rest → (rest : List ℕ) × LineGoesTo (c ∷ cs) rest
    at (inl over) more = (c ∷ cs, line_over over)
    at (inr e) more = (more.0, on_line (goes_on c cs e) more.1)

-- a run ends, or a backslash in it has nothing to keep
data Ran : Run → List ℕ → Type 0 where
  ended : {r : Run} {text run rest : List ℕ} → RunGoesTo r text run rest → IsRunOver r rest → Ran r text
  broken : {r : Run} {text run rest : List ℕ} → RunGoesTo r text run (92 ∷ rest) → IsCut r rest → Ran r text

past_one : {r : Run} {c : ℕ} {cs : List ℕ} → ¬ IsCut r (c ∷ cs) → stops r c ≡ false → c ≢ 92 → Ran r cs → Ran r (c ∷ cs)
past_one goes e n (ended more over) = ended (unescaped goes e n more) over
past_one goes e n (broken more over) = broken (unescaped goes e n more) over

past_two : {r : Run} {c : ℕ} {cs : List ℕ} → ¬ IsCut r (c ∷ cs) → Ran r cs → Ran r (92 ∷ c ∷ cs)
past_two goes (ended more over) = ended (escaped goes more) over
past_two goes (broken more over) = broken (escaped goes more) over

run_first : (r : Run) (c : ℕ) (cs : List ℕ) → Ran r cs → (c ≡ 92 → Ran r (c ∷ cs)) → Ran r (c ∷ cs)
run_first r c cs more slash = at (cut_or_not r c cs)
  where
    at : IsCut r (c ∷ cs) ⊎ (cuts r c cs ≡ false) → Ran r (c ∷ cs)
    at (inl cut) = ended no_further (by_cut cut)
    at (inr e) =
        tested (stops r c) (λ f. ended no_further (by_stop f)) (λ f.
        tested (c == 92) (λ q. slash (equal c 92 q)) (λ q. past_one (goes_in r c cs e) f (other c 92 q) more))

run_found : (r : Run) (text : List ℕ) → Ran r text
run_found r [] = ended no_further (by_cut (text_cut r))
run_found r (c ∷ []) = run_first r c [] (ended no_further (by_cut (text_cut r))) (λ e. subst (λ (k : ℕ). Ran r (k ∷ [])) (sym e) (broken no_further (text_cut r)))
run_found r (c ∷ d ∷ ds) = run_first r c (d ∷ ds) (run_found r (d ∷ ds)) (λ e. subst (λ (k : ℕ). Ran r (k ∷ d ∷ ds)) (sym e) (behind (cut_or_not r d ds) (run_found r ds)))
  where
    behind : IsCut r (d ∷ ds) ⊎ (cuts r d ds ≡ false) → Ran r ds → Ran r (92 ∷ d ∷ ds)
    behind (inl cut) more = broken no_further cut
    behind (inr e) more = past_two (goes_in r d ds e) more

abbrev Something : Quotes → List ℕ → Type 0
Something quotes text = (a : FrontItem) × IsInFront quotes text a

string_found : {quotes : Quotes} {text : List ℕ} → Ran (string_run quotes) text → Something quotes (34 ∷ text)
string_found (ended goes (by_cut cut)) = (Unclosed, unclosed goes cut)
string_found {quotes} {text} (ended {run = run} goes (by_stop {c = c} {rest = rest} e)) =
    (Quoted run rest, quoted_string (subst (λ (k : ℕ). RunGoesTo (string_run quotes) text run (k ∷ rest)) (stop_is_quote quotes c e) goes))
string_found (broken goes cut) = (Broken, broken_string goes cut)

word_found : {quotes : Quotes} {text : List ℕ} → Ran Bare text → ends_run Bare false text ≡ false → Something quotes text
word_found (ended no_further over) e = let stop = run_stops over in absurd (cc)
word_found (ended {rest = rest} (unescaped {c = c} {run = run} goes f n more) over) e = (Word (c ∷ run) rest, word (unescaped goes f n more) over)
word_found (ended {rest = rest} (escaped {c = c} {run = run} goes more) over) e = (Word (92 ∷ c ∷ run) rest, word (escaped goes more) over)
word_found (broken goes over) e = (Broken, broken_word goes over)

line_over_found : {quotes : Quotes} {text : List ℕ} → IsLineOver text → Something quotes text
line_over_found by_text_end = (TextEnd, text_end)
line_over_found (by_line_end {rest = rest} e) = (LineEnd rest, grammar.line_end e)

something : (quotes : Quotes) (text : List ℕ) → Something quotes text
something quotes [] = (TextEnd, text_end)
something quotes (c ∷ cs) = at (over_or_not c cs)
  where
    is : (k : ℕ) → (c == k) ≡ true → Something quotes (k ∷ cs) → Something quotes (c ∷ cs)
    is k e found = subst (λ (n : ℕ). Something quotes (n ∷ cs)) (sym (equal c k e)) found

    bare : (s t u v w : Bool) → s ≡ false → t ≡ false → u ≡ false → v ≡ false → w ≡ false → (s || t || u || v || w) ≡ false
    bare s t u v w e1 e2 e3 e4 e5 = rw (e1, e2, e3, e4, e5) refl

    at : IsLineOver (c ∷ cs) ⊎ (line_end (c ∷ cs) ≡ 0) → Something quotes (c ∷ cs)
    at (inl over) = line_over_found over
    at (inr e) =
        tested (is_blank c) (λ s. (Gap cs, gap s)) (λ s.
        tested (c == 59) (λ t. let line = line_found cs in is 59 t (Comment line.0, comment line.1)) (λ t.
        tested (c == 40) (λ v. is 40 v (Open cs, opening)) (λ v.
        tested (c == 41) (λ w. is 41 w (Close cs, closing)) (λ w.
        tested (c == 34) (λ u. is 34 u (string_found (run_found (string_run quotes) cs))) (λ u.
        word_found (run_found Bare (c ∷ cs)) (unstopped (cuts Bare c cs) false (stops Bare c) (feeds_none c cs e) (bare (is_blank c) (c == 59) (c == 34) (c == 40) (c == 41) s t u v w)))))))

pub stands : (quotes : Quotes) (text : List ℕ) → IsInFront quotes text (front_item (front quotes text) text)
stands quotes text = let found = something quotes text in subst (λ (a : FrontItem). IsInFront quotes text a) (is_counted found.1) found.1
