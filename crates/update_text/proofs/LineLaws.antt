-- Lines of words, with or without more words after a semicolon.
use Rattle.std.proofs.Common.{◌≡◌, ◌≤◌, ◌<◌, ◌+◌, ◌||◌, if◌then◌else◌, ℕ, Bool, true, false, zero, suc, List, [], ◌∷◌, ◌++◌, length, map, drop, get_or, Some, None, length-drop, refl, sym, ap, subst, ◌∙◌, arith, add-one, drop-cons}
use Rattle.update_text.specs.declared.words.FirstWords.{FirstWords}
use Rattle.update_text.specs.declared.words.Role.{Role}
use Rattle.update_text.specs.Words.{AreWords, IsLine, WordsGoTo, no_word, with_more, words_alone}
use Rattle.update_text.specs.internal.Words.{AreWordsUpTo, IsOver, IsSplit, by_semicolon, by_text_end, complete_words, ends_words, is_escape, is_quoted, open_word, role_of, word_if_any}
use Rattle.update_text.proofs.WordsGrammarLaws.{Holds, Scanned, front_of_front, in_front, scan, scan_holds, words_scan}

drop_all : {A : Type 0} (xs : List A) (i : ℕ) → length xs ≤ i → drop i xs ≡ []
drop_all [] zero few = refl
drop_all [] (suc i) few = refl
drop_all (x ∷ xs) zero few = absurd (omega arith)
drop_all (x ∷ xs) (suc i) few = let less : length xs ≤ i = omega arith in drop_all xs i less

-- ---- what a scan finds

pub words_to : (text : List ℕ) (words : List (List ℕ)) (end : ℕ) → scan false false [] text ≡ Some (words, drop end text)
    → AreWordsUpTo text words (drop end text)
words_to text words end is = subst (Holds text) is (scan_holds text)

no_words : (text : List ℕ) → scan false false [] text ≡ None → ¬ ((words : List (List ℕ)) × (rest : List ℕ) × AreWordsUpTo text words rest)
no_words text is found =
    let other : scan false false [] text ≡ Some (found.0, found.1) = words_scan found.2.0 found.2.1 in
    let both : None ≡ Some (found.0, found.1) = sym is ∙ other in
    cc both

picks_first : (t : Bool) (a b : Scanned) → t ≡ true → (if t then a else b) ≡ a
picks_first t a b e = rw e refl

picks_second : (t : Bool) (a b : Scanned) → t ≡ false → (if t then a else b) ≡ b
picks_second t a b e = rw e refl

at_place : (text : List ℕ) (i : ℕ) → i < length text → drop i text ≡ get_or text i 0 ∷ drop (i + 1) text
at_place text i lt = rw (add-one, drop-cons text i 0 lt) refl

-- the words end at a semicolon
pub scan_ends : (text : List ℕ) (i : ℕ) (is_escaped quoted : Bool) (word : List ℕ) (done : List (List ℕ)) → i < length text
    → ends_words is_escaped quoted (get_or text i 0) ≡ true → scan false false [] text ≡ in_front done (scan is_escaped quoted word (drop i text))
    → scan false false [] text ≡ Some (done ++ word_if_any word, drop i text)
scan_ends text i is_escaped quoted word done lt ends is =
    let c = get_or text i 0 in
    let there : scan is_escaped quoted word (c ∷ drop (i + 1) text) ≡ Some (word_if_any word, c ∷ drop (i + 1) text) =
    picks_first (ends_words is_escaped quoted c) _ _ ends in
    let here : scan is_escaped quoted word (drop i text) ≡ Some (word_if_any word, drop i text) = rw (at_place text i lt) there in
    is ∙ ap (in_front done) here

-- a character is taken
pub scan_goes_on : (text : List ℕ) (i : ℕ) (is_escaped quoted next_escaped next_quoted : Bool) (word next_word : List ℕ)
    (done next_done : List (List ℕ)) (role : Role) → i < length text → ends_words is_escaped quoted (get_or text i 0) ≡ false
    → role ≡ role_of is_escaped quoted (get_or text i 0) → next_done ≡ done ++ complete_words role word (get_or text i 0)
    → next_word ≡ open_word role word (get_or text i 0) → next_quoted ≡ is_quoted is_escaped quoted (get_or text i 0)
    → next_escaped ≡ is_escape is_escaped (get_or text i 0)
    → scan false false [] text ≡ in_front done (scan is_escaped quoted word (drop i text))
    → scan false false [] text ≡ in_front next_done (scan next_escaped next_quoted next_word (drop (i + 1) text))
scan_goes_on text i is_escaped quoted next_escaped next_quoted word next_word done next_done role lt goes role_is done_is word_is quoted_is escaped_is is =
    let c = get_or text i 0 in
    let cs = drop (i + 1) text in
    let r = role_of is_escaped quoted c in
    let rest : Scanned = scan (is_escape is_escaped c) (is_quoted is_escaped quoted c) (open_word r word c) cs in
    let there : scan is_escaped quoted word (c ∷ cs) ≡ in_front (complete_words r word c) rest =
    picks_second (ends_words is_escaped quoted c) _ _ goes in
    let here : scan is_escaped quoted word (drop i text) ≡ in_front (complete_words r word c) rest = rw (at_place text i lt) there in
    let all : scan false false [] text ≡ in_front (done ++ complete_words r word c) rest =
    is ∙ ap (in_front done) here ∙ front_of_front done (complete_words r word c) rest in
    rw (done_is, word_is, quoted_is, escaped_is, role_is) all

-- the text ends
pub scan_is_over : (text : List ℕ) (i : ℕ) (is_escaped quoted : Bool) (word : List ℕ) (done : List (List ℕ)) → length text ≤ i
    → is_escaped ≡ false → quoted ≡ false → scan false false [] text ≡ in_front done (scan is_escaped quoted word (drop i text))
    → scan false false [] text ≡ Some (done ++ word_if_any word, drop (length text) text)
scan_is_over text i is_escaped quoted word done few escaped_is quoted_is is =
    let over : scan false false [] text ≡ in_front done (scan false false word []) = rw (drop_all text i few, escaped_is, quoted_is) at is in
    over ∙ ap (λ (rest : List ℕ). Some (done ++ word_if_any word, rest)) (sym (drop_all text (length text) (omega arith)))

-- a quote is open, or a backslash is last
pub scan_fails : (text : List ℕ) (i : ℕ) (is_escaped quoted : Bool) (word : List ℕ) (done : List (List ℕ)) → length text ≤ i
    → (is_escaped || quoted) ≡ true → scan false false [] text ≡ in_front done (scan is_escaped quoted word (drop i text))
    → ¬ ((words : List (List ℕ)) × (rest : List ℕ) × AreWordsUpTo text words rest)
scan_fails text i is_escaped quoted word done few fails is =
    let over : scan false false [] text ≡ in_front done (scan is_escaped quoted word []) = rw (drop_all text i few) at is in
    let none : scan is_escaped quoted word [] ≡ None = picks_first (is_escaped || quoted) _ _ fails in
    no_words text (over ∙ ap (in_front done) none)

-- ---- what the words of a line are

-- one character more is dropped
drop_more : {A : Type 0} (n : ℕ) (xs : List A) → drop (suc n) xs ≡ drop 1 (drop n xs)
drop_more zero xs = refl
drop_more (suc n) [] = refl
drop_more (suc n) (x ∷ xs) = drop_more n xs

after : (n : ℕ) (text rest : List ℕ) → rest ≡ drop n text → drop (n + 1) text ≡ drop 1 rest
after n text rest is = rw add-one (drop_more n text ∙ ap (drop 1) (sym is))

abbrev words_of : Scanned → List (List ℕ)
words_of None = []
words_of (Some found) = found.0

no_words_in_nothing : (link : List (List ℕ)) → WordsGoTo [] link [] → [] ≡ link
no_words_in_nothing link goes =
    let both : Some ([], []) ≡ Some (link, []) = words_scan goes by_text_end in
    ap words_of both

-- words end at one place alone
abbrev rest_of : Scanned → List ℕ
rest_of None = []
rest_of (Some found) = found.1

same_rest : {text rest other : List ℕ} {words others : List (List ℕ)} → AreWordsUpTo text words rest → AreWordsUpTo text others other → other ≡ rest
same_rest {rest = rest} {other = other} {words = words} {others = others} one two =
    let both : Some (others, other) ≡ Some (words, rest) = sym (words_scan two.0 two.1) ∙ words_scan one.0 one.1 in
    ap rest_of both

semicolon_of : {c : ℕ} {rest : List ℕ} → IsOver (c ∷ rest) → c ≡ 59
semicolon_of by_semicolon = refl

line_is_over : (text : List ℕ) (words link : List (List ℕ)) (end : ℕ) (rest : List ℕ) → rest ≡ drop end text → IsOver rest
    → WordsGoTo text words rest → WordsGoTo (drop (end + 1) text) link [] → IsLine text words link
line_is_over text words link end [] is over goes script =
    let none : WordsGoTo [] link [] = rw (after end text [] is) at script in
    rw (← no_words_in_nothing link none) (words_alone goes)
line_is_over text words link end (c ∷ rest) is over goes script =
    let same : c ≡ 59 = semicolon_of over in
    let there : WordsGoTo rest link [] = rw (after end text (c ∷ rest) is) at script in
    with_more (rw same at goes) there

-- the words of a line, and of its link script
pub line_is : (text : List ℕ) (found : FirstWords) (link : List (List ℕ)) → IsSplit text (Some found)
    → WordsGoTo (drop (found.end + 1) text) link [] → IsLine text (map (λ word. word.items) found.words.items) link
line_is text found link split script =
    line_is_over text (map (λ word. word.items) found.words.items) link found.end (drop found.end text) refl split.1.1 split.1.0 script

abbrev pub HasNoLine : List ℕ → Type 0
HasNoLine text = ¬ ((words : List (List ℕ)) × (link : List (List ℕ)) × IsLine text words link)

pub no_line : (text : List ℕ) → IsSplit text None → HasNoLine text
no_line text split line = at line.0 line.1 line.2
  where
    at : (words link : List (List ℕ)) → IsLine text words link → ⊥
    at words link (words_alone goes) = split (words, [], (goes, by_text_end))
    at words link (with_more {after = script} goes more) = split (words, 59 ∷ script, (goes, by_semicolon))

-- what follows the semicolon is no link script
pub no_link : (text : List ℕ) (found : FirstWords) → IsSplit text (Some found)
    → ¬ ((link : List (List ℕ)) × WordsGoTo (drop (found.end + 1) text) link []) → HasNoLine text
no_link text found split none line = at line.0 line.1 line.2
  where
    at : (words link : List (List ℕ)) → IsLine text words link → ⊥
    at words link (words_alone goes) =
        let same : [] ≡ drop found.end text = same_rest split.1 (goes, by_text_end) in
        none ([], rw (after found.end text [] same) no_word)
    at words link (with_more {after = script} goes more) =
        let same : 59 ∷ script ≡ drop found.end text = same_rest split.1 (goes, by_semicolon) in
        none (link, rw (after found.end text (59 ∷ script) same) more)

-- another semicolon follows
pub no_words_alone : (text : List ℕ) (found : FirstWords) → IsSplit text (Some found) → found.end < length text
    → ¬ ((link : List (List ℕ)) × WordsGoTo text link [])
no_words_alone text found split before alone =
    let same : [] ≡ drop found.end text = same_rest split.1 (alone.1, by_text_end) in
    let none : 0 ≡ length (drop found.end text) = ap length same in
    absurd (omega (arith, length-drop found.end text))

-- a text does not begin with words
pub are_no_words : (text : List ℕ) → IsSplit text None → AreWords text None
are_no_words text none alone = none (alone.0, [], (alone.1, by_text_end))

-- the words of a line, by those after its semicolon
pub line_with : (text after : List ℕ) (found : FirstWords) (link : List (List ℕ)) → IsSplit text (Some found) → after ≡ drop (found.end + 1) text
    → AreWords after (Some link) → IsLine text (map (λ word. word.items) found.words.items) link
line_with text after found link split same are = line_is text found link split (rw same at are)

-- what follows the semicolon is not words alone
pub no_line_with : (text after : List ℕ) (found : FirstWords) → IsSplit text (Some found) → after ≡ drop (found.end + 1) text
    → AreWords after None → HasNoLine text
no_line_with text after found split same none = no_link text found split (rw same at none)
