-- Tags, labels and words, one after another.
use Rattle.std.proofs.Common.{◌≡◌, ℕ, suc, ◌+◌, ◌<◌, Bool, true, false, ◌&&◌, List, ◌∷◌, ◌++◌, length, drop, get_or, map, Option, Some, None, option_map, refl, sym, ap, ◌∙◌, append_assoc, arith}
use Rattle.std.proofs.Math.Seq.{drop-cons}
use denote.Ref.{Bor}
use Rattle.dns_wire.specs.Writing.{labels_form}
use Rattle.dns_text.specs.Lexer.{Lexeme, CharData}
use Rattle.dns_text.specs.Token.{lexeme}
use Rattle.dns_text.specs.declared.token.Token.{Token}
use Rattle.dns_formats.specs.Value.{is_tag_octet, are_tag_octets}
use Rattle.dns_formats.specs.Rest.{joined}
use Rattle.dns_text.specs.declared.token.Token.TheVariants as token

-- ---- lists

pub at_place : {A : Type 0} (xs : List A) (i : ℕ) (d : A) → i < length xs → drop i xs ≡ get_or xs i d ∷ drop (i + 1) xs
at_place xs i d within = let one : suc i ≡ i + 1 = omega arith in drop-cons xs i d within ∙ ap (λ n. get_or xs i d ∷ drop n xs) one

-- ---- tags

pub tag_further : (xs : List ℕ) (i : ℕ) → i < length xs → is_tag_octet (get_or xs i 0) ≡ true → are_tag_octets (drop i xs) ≡ are_tag_octets xs
    → are_tag_octets (drop (i + 1) xs) ≡ are_tag_octets xs
tag_further xs i within is e =
    sym (ap are_tag_octets (at_place xs i 0 within) ∙ ap (λ (b : Bool). b && are_tag_octets (drop (i + 1) xs)) is) ∙ e

pub tag_stops : (xs : List ℕ) (i : ℕ) → i < length xs → is_tag_octet (get_or xs i 0) ≡ false → are_tag_octets (drop i xs) ≡ are_tag_octets xs
    → are_tag_octets xs ≡ false
tag_stops xs i within is e =
    sym e ∙ ap are_tag_octets (at_place xs i 0 within) ∙ ap (λ (b : Bool). b && are_tag_octets (drop (i + 1) xs)) is

-- ---- labels

pub label_further : (whole done label : List ℕ) (labels left : List (List ℕ)) → left ≡ label ∷ labels → done ++ labels_form left ≡ whole
    → (done ++ length label ∷ label) ++ labels_form labels ≡ whole
label_further whole done label labels left is e =
    append_assoc done (length label ∷ label) (labels_form labels) ∙ ap (λ (l : List (List ℕ)). done ++ labels_form l) (sym is) ∙ e

-- ---- words

-- words before those that are left, if all are words
abbrev pub words_before : List ℕ → Option (List ℕ) → Option (List ℕ)
words_before done None = None
words_before done (Some words) = Some (done ++ words)

past_words : (done text : List ℕ) (more : Option (List ℕ)) → words_before done (option_map (λ words. text ++ words) more) ≡ words_before (done ++ text) more
past_words done text None = refl
past_words done text (Some words) = ap (λ (l : List ℕ). Some l) (sym (append_assoc done text words))

pub word_further : (whole : Option (List ℕ)) (done text : List ℕ) (tokens : List Token) (i : ℕ) (d : Token) → i < length tokens → lexeme (get_or tokens i d) ≡ CharData text
    → words_before done (joined (map lexeme (drop i tokens))) ≡ whole → words_before (done ++ text) (joined (map lexeme (drop (i + 1) tokens))) ≡ whole
word_further whole done text tokens i d within is e =
    sym (past_words done text (joined (map lexeme (drop (i + 1) tokens))))
    ∙ ap (λ (t : Lexeme). words_before done (joined (t ∷ map lexeme (drop (i + 1) tokens)))) (sym is)
    ∙ ap (λ (l : List Token). words_before done (joined (map lexeme l))) (sym (at_place tokens i d within)) ∙ e

-- a token that is no word is refused
no_word : (t : Token) (more : List Lexeme) → ((text : Bor (List ℕ)) → t ≡ token.CharData text → ⊥) → joined (lexeme t ∷ more) ≡ None
no_word token.Blank more not = refl
no_word (token.CharData text) more not = absurd (not text refl)
no_word (token.Quoted text) more not = refl
no_word token.At more not = refl
no_word token.Include more not = refl
no_word token.Origin more not = refl
no_word token.Ttl more not = refl
no_word token.EOL more not = refl

no_words : (done : List ℕ) (whole : Option (List ℕ)) → words_before done None ≡ whole → whole ≡ None
no_words done whole e = sym e

pub word_stops : (whole : Option (List ℕ)) (done : List ℕ) (tokens : List Token) (i : ℕ) (d : Token) → i < length tokens → ((text : Bor (List ℕ)) → get_or tokens i d ≡ token.CharData text → ⊥)
    → words_before done (joined (map lexeme (drop i tokens))) ≡ whole → whole ≡ None
word_stops whole done tokens i d within not e =
    sym e ∙ ap (λ (l : List Token). words_before done (joined (map lexeme l))) (at_place tokens i d within)
    ∙ ap (words_before done) (no_word (get_or tokens i d) (map lexeme (drop (i + 1) tokens)) not)
