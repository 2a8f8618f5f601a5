-- Labels, questions and records that are skipped one after another, and the labels of a name.
use Rattle.std.proofs.Common.{◌≡◌, ℕ, zero, suc, ◌+◌, ◌-◌, ◌<◌, ◌≤◌, List, [], ◌∷◌, length, drop, get_or, Option, Some, None, refl, sym, ap, ◌∙◌, arith}
use Rattle.std.specs.Prelude.{option_and_then}
use Rattle.std.proofs.lemmas.Bool.Decides.{nat_tests}
use Rattle.dns_wire.specs.Name.{name_len}
use Rattle.dns_tsig.specs.Skip.{after_labels, after_question, after_questions, after_plain_record, after_records}

-- the bytes of a label are skipped at once
pub label_skipped : (k : ℕ) (bytes : List ℕ) → after_labels k bytes ≡ after_labels 0 (drop k bytes)
label_skipped zero bytes = refl
label_skipped (suc k) [] = refl
label_skipped (suc k) (byte ∷ bytes) = label_skipped k bytes

-- a label at the front is skipped
pub label_front : (rest after : List ℕ) (code : ℕ) → 1 ≤ length rest → code ≡ get_or rest 0 0 → 0 < code → code < 64
    → after ≡ drop (code + 1) rest → after_labels 0 after ≡ after_labels 0 rest
label_front [] after code len first some most e = absurd (omega (arith, len))
label_front (c ∷ cs) after code len first some most e =
    let next : code + 1 ≡ suc code = omega arith in
    let left : after ≡ drop code cs = e ∙ ap (λ (n : ℕ). drop n (c ∷ cs)) next in
    let is : c ≡ code = sym first in
    let here : after_labels 0 (c ∷ cs) ≡ after_labels code cs = by_code c is in
    ap (after_labels 0) left ∙ sym (here ∙ label_skipped code cs)
  where
    by_code : (c : ℕ) → c ≡ code → after_labels 0 (c ∷ cs) ≡ after_labels code cs
    by_code c is = grind (arith, nat_tests, is)

-- a further question of those that are left
pub question_skipped : (n m : ℕ) (rest more : List ℕ) (all : Option (List ℕ)) → n < m → Some more ≡ after_question rest
    → after_questions (m - n) rest ≡ all → after_questions (m - (n + 1)) more ≡ all
question_skipped n m rest more all h e before =
    let next : m - n ≡ suc (m - (n + 1)) = omega arith in
    ap (option_and_then (after_questions (m - (n + 1)))) e ∙ sym (ap (λ (k : ℕ). after_questions k rest) next) ∙ before

-- a question that cannot be skipped
pub question_refused : (n m : ℕ) (rest : List ℕ) (all : Option (List ℕ)) → n < m → None ≡ after_question rest
    → after_questions (m - n) rest ≡ all → None ≡ all
question_refused n m rest all h e before =
    let next : m - n ≡ suc (m - (n + 1)) = omega arith in
    ap (option_and_then (after_questions (m - (n + 1)))) e ∙ sym (ap (λ (k : ℕ). after_questions k rest) next) ∙ before

-- no question is left
pub questions_skipped : (n m : ℕ) (rest : List ℕ) (all : Option (List ℕ)) → m ≤ n → after_questions (m - n) rest ≡ all → Some rest ≡ all
questions_skipped n m rest all h before =
    let none : m - n ≡ 0 = omega arith in sym (ap (λ (k : ℕ). after_questions k rest) none) ∙ before

-- a further record of those that are left
pub record_skipped : (n m : ℕ) (rest more : List ℕ) (all : Option (List ℕ)) → n < m → Some more ≡ after_plain_record rest
    → after_records (m - n) rest ≡ all → after_records (m - (n + 1)) more ≡ all
record_skipped n m rest more all h e before =
    let next : m - n ≡ suc (m - (n + 1)) = omega arith in
    ap (option_and_then (after_records (m - (n + 1)))) e ∙ sym (ap (λ (k : ℕ). after_records k rest) next) ∙ before

-- a record that cannot be skipped
pub record_refused : (n m : ℕ) (rest : List ℕ) (all : Option (List ℕ)) → n < m → None ≡ after_plain_record rest
    → after_records (m - n) rest ≡ all → None ≡ all
record_refused n m rest all h e before =
    let next : m - n ≡ suc (m - (n + 1)) = omega arith in
    ap (option_and_then (after_records (m - (n + 1)))) e ∙ sym (ap (λ (k : ℕ). after_records k rest) next) ∙ before

-- no record is left
pub records_skipped : (n m : ℕ) (rest : List ℕ) (all : Option (List ℕ)) → m ≤ n → after_records (m - n) rest ≡ all → Some rest ≡ all
records_skipped n m rest all h before =
    let none : m - n ≡ 0 = omega arith in sym (ap (λ (k : ℕ). after_records k rest) none) ∙ before

-- ---- names

some_len : (labels : List (List ℕ)) → 0 < name_len labels
some_len [] = omega arith
some_len (label ∷ labels) = omega arith

-- there is room for a label of those that fit
pub label_room : (bytes label : List ℕ) (labels rest : List (List ℕ)) → labels ≡ label ∷ rest → length bytes + name_len labels ≤ 255
    → length bytes + length label + 1 ≤ 254
label_room bytes label labels rest e fits =
    omega (arith, ap name_len e, some_len rest)
