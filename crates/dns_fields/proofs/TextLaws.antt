-- What is written, parameter by parameter, item by item, and octet by octet.
use Rattle.std.proofs.Common.{◌≡◌, ℕ, zero, suc, ◌+◌, ◌-◌, ◌<◌, Bool, true, false, List, [], ◌∷◌, ◌++◌, length, drop, get_or, refl, sym, ap, ◌∙◌, append_assoc, arith}
use Rattle.std.proofs.lemmas.List.{append-nil}
use Rattle.dns_fields.specs.service.Wire.{key_at, len_at, front_value}
use Rattle.dns_fields.specs.service.Text.{octet_text, word_text, item_octet, item_text, group_text, more_groups, item_len, front_item, lead, items_text, parameter_text, parameter_texts, spaced_words}
use Rattle.dns_fields.specs.declared.service.list.Item.{Item}
use Rattle.dns_fields.specs.declared.service.list.Item.TheVariants.{Key, Protocol, Address4, Address6}
use Rattle.dns_fields.proofs.LoopLaws.{at_place, past_front}

-- ---- words

pub word_append : (a b : List ℕ) → word_text (a ++ b) ≡ word_text a ++ word_text b
word_append [] b = refl
word_append (c ∷ cs) b = ap (λ (l : List ℕ). octet_text c ++ l) (word_append cs b) ∙ sym (append_assoc (octet_text c) (word_text cs) (word_text b))

pub octet_further : (xs : List ℕ) (i : ℕ) (done whole : List ℕ) → i < length xs → done ++ word_text (drop i xs) ≡ whole → (done ++ octet_text (get_or xs i 0)) ++ word_text (drop (i + 1) xs) ≡ whole
octet_further xs i done whole within e =
    append_assoc done (octet_text (get_or xs i 0)) (word_text (drop (i + 1) xs)) ∙ ap (λ (l : List ℕ). done ++ word_text l) (sym (at_place xs i 0 within)) ∙ e

pub item_further : (xs : List ℕ) (i : ℕ) (done whole : List ℕ) → i < length xs → done ++ word_text (item_text (drop i xs)) ≡ whole
    → (done ++ word_text (item_octet (get_or xs i 0))) ++ word_text (item_text (drop (i + 1) xs)) ≡ whole
item_further xs i done whole within e =
    append_assoc done (word_text (item_octet (get_or xs i 0))) (word_text (item_text (drop (i + 1) xs)))
    ∙ ap (λ (l : List ℕ). done ++ l) (sym (word_append (item_octet (get_or xs i 0)) (item_text (drop (i + 1) xs))))
    ∙ ap (λ (l : List ℕ). done ++ word_text (item_text l)) (sym (at_place xs i 0 within)) ∙ e

-- ---- lists

pub items_skip : (kind : Item) (is_first : Bool) (n : ℕ) (xs : List ℕ) → items_text kind is_first n xs ≡ items_text kind is_first 0 (drop n xs)
items_skip kind is_first zero xs = refl
items_skip kind is_first (suc n) [] = refl
items_skip kind is_first (suc n) (x ∷ xs) = items_skip kind is_first n xs

pub len_some : (kind : Item) (xs : List ℕ) → item_len kind xs ≡ suc (item_len kind xs - 1)
len_some Key xs = omega arith
len_some Protocol xs = omega arith
len_some Address4 xs = omega arith
len_some Address6 xs = omega arith

lead_word : (is_first : Bool) → word_text (lead is_first) ≡ lead is_first
lead_word true = refl
lead_word false = refl

pub items_front : (kind : Item) (is_first : Bool) (xs : List ℕ) → 0 < length xs
    → items_text kind is_first 0 xs ≡ (lead is_first ++ front_item kind xs) ++ items_text kind false 0 (drop (item_len kind xs) xs)
items_front kind is_first [] some = absurd (omega arith)
items_front kind is_first (x ∷ xs) some =
    ap (λ (l : List ℕ). (lead is_first ++ front_item kind (x ∷ xs)) ++ l)
    (items_skip kind false (item_len kind (x ∷ xs) - 1) xs ∙ ap (λ (n : ℕ). items_text kind false 0 (drop n (x ∷ xs))) (sym (len_some kind (x ∷ xs))))

pub items_further : (kind : Item) (is_first : Bool) (xs done whole : List ℕ) (n : ℕ) → 0 < length xs → n ≡ item_len kind xs → done ++ word_text (items_text kind is_first 0 xs) ≡ whole
    → (done ++ (lead is_first ++ word_text (front_item kind xs))) ++ word_text (items_text kind false 0 (drop n xs)) ≡ whole
items_further kind is_first xs done whole n some is e =
    let rest : List ℕ = items_text kind false 0 (drop (item_len kind xs) xs) in
    let item : word_text (lead is_first ++ front_item kind xs) ≡ lead is_first ++ word_text (front_item kind xs) =
    word_append (lead is_first) (front_item kind xs) ∙ ap (λ (l : List ℕ). l ++ word_text (front_item kind xs)) (lead_word is_first) in
    ap (λ (k : ℕ). (done ++ (lead is_first ++ word_text (front_item kind xs))) ++ word_text (items_text kind false 0 (drop k xs))) is
    ∙ append_assoc done (lead is_first ++ word_text (front_item kind xs)) (word_text rest)
    ∙ ap (λ (l : List ℕ). done ++ (l ++ word_text rest)) (sym item)
    ∙ ap (λ (l : List ℕ). done ++ l) (sym (word_append (lead is_first ++ front_item kind xs) rest))
    ∙ ap (λ (l : List ℕ). done ++ word_text l) (sym (items_front kind is_first xs some)) ∙ e

pub groups_further : (n m : ℕ) (xs done whole : List ℕ) → n ≡ suc m → done ++ word_text (more_groups n xs) ≡ whole
    → (done ++ (58 ∷ word_text (group_text xs))) ++ word_text (more_groups m (drop 2 xs)) ≡ whole
groups_further n m xs done whole is e =
    append_assoc done (58 ∷ word_text (group_text xs)) (word_text (more_groups m (drop 2 xs)))
    ∙ ap (λ (l : List ℕ). done ++ l) (sym (word_append (58 ∷ group_text xs) (more_groups m (drop 2 xs))))
    ∙ ap (λ (k : ℕ). done ++ word_text (more_groups k xs)) (sym is) ∙ e

pub groups_end : (n : ℕ) (xs done whole : List ℕ) → n ≡ 0 → done ++ word_text (more_groups n xs) ≡ whole → done ≡ whole
groups_end n xs done whole is e = sym (append-nil done) ∙ ap (λ (k : ℕ). done ++ word_text (more_groups k xs)) (sym is) ∙ e

-- ---- parameters

texts_skip : (n : ℕ) (xs : List ℕ) → parameter_texts n xs ≡ parameter_texts 0 (drop n xs)
texts_skip zero xs = refl
texts_skip (suc n) [] = refl
texts_skip (suc n) (x ∷ xs) = texts_skip n xs

pub texts_front : (xs : List ℕ) → 0 < length xs → parameter_texts 0 xs ≡ parameter_text (key_at xs) (front_value xs) ∷ parameter_texts 0 (drop (4 + len_at xs) xs)
texts_front [] some = absurd (omega arith)
texts_front (x ∷ xs) some =
    ap (λ (ts : List (List ℕ)). parameter_text (key_at (x ∷ xs)) (front_value (x ∷ xs)) ∷ ts)
    (texts_skip (3 + len_at (x ∷ xs)) xs ∙ ap (λ (l : List ℕ). parameter_texts 0 l) (sym (past_front (len_at (x ∷ xs)) x xs)))

pub texts_further : (xs done whole : List ℕ) → 0 < length xs → done ++ spaced_words (parameter_texts 0 xs) ≡ whole
    → (done ++ (32 ∷ parameter_text (key_at xs) (front_value xs))) ++ spaced_words (parameter_texts 0 (drop (4 + len_at xs) xs)) ≡ whole
texts_further xs done whole some e =
    append_assoc done (32 ∷ parameter_text (key_at xs) (front_value xs)) (spaced_words (parameter_texts 0 (drop (4 + len_at xs) xs)))
    ∙ ap (λ (ts : List (List ℕ)). done ++ spaced_words ts) (sym (texts_front xs some)) ∙ e
