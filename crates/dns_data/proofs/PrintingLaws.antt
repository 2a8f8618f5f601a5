-- What is written item by item.
use Rattle.std.proofs.Common.{◌≡◌, ℕ, zero, false, ◌+◌, ◌-◌, take, ◌/◌, ◌%◌, ◌<◌, suc, List, [], ◌∷◌, ◌++◌, length, drop, get_or, refl, sym, ap, ◌∙◌, append_assoc, arith, length-append}
use Rattle.std.specs.Prelude.{◌==◌, flat_map, decimal}
use Rattle.std.specs.Char.{digit_char}
use Rattle.std.proofs.Math.Seq.{drop-cons}
use Rattle.std.proofs.lemmas.List.{append-nil, take_all}
use Rattle.dns_text.specs.CharacterString.{quoted_text}
use Rattle.dns_data.specs.Field.{OptionValue, option_form}
use Rattle.dns_data.specs.Text.{strings_text}
use Rattle.dns_data.specs.internal.Text.{more_strings_text}
use Rattle.dns_data.specs.Text.{hex_text, generic_text}

pub further : {X : Type 0} (form : X → List ℕ) (text : List X → List ℕ) → ((x : X) (xs : List X) → text (x ∷ xs) ≡ form x ++ text xs) → (xs : List X) (i : ℕ) (x d : X) (done whole : List ℕ)
    → x ≡ get_or xs i d → i < length xs → done ++ text (drop i xs) ≡ whole → (done ++ form x) ++ text (drop (i + 1) xs) ≡ whole
further {X} form text step xs i x d done whole is within e =
    let next : i + 1 ≡ suc i = omega arith in
    append_assoc done (form x) (text (drop (i + 1) xs))
    ∙ ap (λ (n : ℕ). done ++ (form x ++ text (drop n xs))) next
    ∙ ap (λ (l : List ℕ). done ++ l) (sym (step x (drop (suc i) xs)))
    ∙ ap (λ (y : X). done ++ text (y ∷ drop (suc i) xs)) is
    ∙ ap (λ (l : List X). done ++ text l) (sym (drop-cons xs i d within)) ∙ e

-- ---- character strings

pub strings_further : (strings : List (List ℕ)) (i : ℕ) (string d done whole : List ℕ) → string ≡ get_or strings i d → i < length strings
    → done ++ more_strings_text (drop i strings) ≡ whole → (done ++ 32 ∷ quoted_text string) ++ more_strings_text (drop (i + 1) strings) ≡ whole
strings_further = further (λ s. 32 ∷ quoted_text s) more_strings_text (λ s more. refl)

pub strings_parts : (string : List ℕ) (strings : List (List ℕ)) → quoted_text string ++ more_strings_text strings ≡ strings_text (string ∷ strings)
strings_parts string [] = append-nil (quoted_text string)
strings_parts string (next ∷ strings) = ap (λ (l : List ℕ). quoted_text string ++ 32 ∷ l) (strings_parts next strings)

pub txt_text : (strings whole : List (List ℕ)) (string item : List ℕ) → strings ≡ whole → string ≡ item → item ≡ get_or strings 0 item → 0 < length strings
    → quoted_text string ++ more_strings_text (take (length strings - 1) (drop 1 strings)) ≡ strings_text whole
txt_text [] whole string item same is at some = absurd (omega arith)
txt_text (s ∷ ss) whole string item same is at some =
    ap (λ (l : List (List ℕ)). quoted_text string ++ more_strings_text l) (take_all (length (s ∷ ss) - 1) ss (omega arith))
    ∙ ap (λ (x : List ℕ). quoted_text x ++ more_strings_text ss) (is ∙ at) ∙ strings_parts s ss ∙ ap strings_text same

pub some_of : (n : ℕ) → false ≡ (n == 0) → 0 < n
some_of zero e = absurd (cc)
some_of (suc n) e = omega arith

-- ---- hexadecimal digits

pub bytes_further : (bytes : List ℕ) (i : ℕ) (done whole : List ℕ) → i < length bytes → done ++ hex_text (drop i bytes) ≡ whole
    → (done ++ digit_char (get_or bytes i 0 / 16) ∷ digit_char (get_or bytes i 0 % 16) ∷ []) ++ hex_text (drop (i + 1) bytes) ≡ whole
bytes_further bytes i done whole within e =
    further (λ b. digit_char (b / 16) ∷ digit_char (b % 16) ∷ []) hex_text (λ b more. refl) bytes i (get_or bytes i 0) 0 done whole refl within e

pub hex_append : (a b : List ℕ) → hex_text (a ++ b) ≡ hex_text a ++ hex_text b
hex_append [] b = refl
hex_append (c ∷ cs) b = ap (λ (l : List ℕ). digit_char (c / 16) ∷ digit_char (c % 16) ∷ l) (hex_append cs b)

pub options_further : (options : List OptionValue) (i : ℕ) (o d : OptionValue) (done whole : List ℕ) → o ≡ get_or options i d → i < length options
    → done ++ hex_text (flat_map option_form (drop i options)) ≡ whole → (done ++ hex_text (option_form o)) ++ hex_text (flat_map option_form (drop (i + 1) options)) ≡ whole
options_further = further (λ o. hex_text (option_form o)) (λ os. hex_text (flat_map option_form os)) (λ o more. hex_append (option_form o) (flat_map option_form more))

option_len : (o : OptionValue) → length (option_form o) ≡ 4 + length o.bytes
option_len o =
    let long : length (option_form o) ≡ suc (suc (suc (suc (length o.bytes)))) = refl in
    omega (arith, long)

pub len_further : (options : List OptionValue) (i len n whole : ℕ) (o d : OptionValue) → o ≡ get_or options i d → n ≡ length o.bytes → i < length options
    → len + length (flat_map option_form (drop i options)) ≡ whole → (len + (4 + n)) + length (flat_map option_form (drop (i + 1) options)) ≡ whole
len_further options i len n whole o d is same within e =
    let next : suc i ≡ i + 1 = omega arith in
    let here : drop i options ≡ o ∷ drop (i + 1) options = drop-cons options i d within ∙ ap (λ (k : ℕ). get_or options i d ∷ drop k options) next ∙ ap (λ (x : OptionValue). x ∷ drop (i + 1) options) (sym is) in
    let split : length (flat_map option_form (drop i options)) ≡ length (option_form o) + length (flat_map option_form (drop (i + 1) options)) =
    ap (λ (l : List OptionValue). length (flat_map option_form l)) here ∙ length-append (option_form o) (flat_map option_form (drop (i + 1) options)) in
    omega (arith, split, option_len o, e, same)

-- ---- generic text

pub generic_parts : (bytes : List ℕ) (len : ℕ) → 0 < length bytes → len ≡ length bytes → (92 ∷ 35 ∷ 32 ∷ (decimal len ++ 32 ∷ [])) ++ hex_text bytes ≡ generic_text bytes
generic_parts [] len some is = absurd (omega arith)
generic_parts (b ∷ bs) len some is =
    ap (λ (n : ℕ). (92 ∷ 35 ∷ 32 ∷ (decimal n ++ 32 ∷ [])) ++ hex_text (b ∷ bs)) is
    ∙ ap (λ (l : List ℕ). 92 ∷ 35 ∷ 32 ∷ l) (append_assoc (decimal (length (b ∷ bs))) (32 ∷ []) (hex_text (b ∷ bs)))

pub some_bytes : (options : List OptionValue) → 0 < length options → 0 < length (flat_map option_form options)
some_bytes [] some = absurd (omega arith)
some_bytes (o ∷ os) some = omega (arith, length-append (option_form o) (flat_map option_form os), option_len o)

pub opt_text : (options whole : List OptionValue) (len : ℕ) → options ≡ whole → len ≡ length (flat_map option_form options) → 0 < length options
    → (92 ∷ 35 ∷ 32 ∷ (decimal len ++ 32 ∷ [])) ++ hex_text (flat_map option_form options) ≡ generic_text (flat_map option_form whole)
opt_text options whole len same is some = generic_parts (flat_map option_form options) len (some_bytes options some) is ∙ ap (λ (os : List OptionValue). generic_text (flat_map option_form os)) same
