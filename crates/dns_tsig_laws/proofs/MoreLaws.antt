-- What can be skipped can be skipped where more bytes follow, too.
use Rattle.std.proofs.Common.{◌≡◌, ◌≤◌, ◌&&◌, ◌+◌, ◌*◌, Bool, true, false, cond, ℕ, zero, suc, List, [], ◌∷◌, ◌++◌, length, drop, get_or, Option, Some, None, refl, sym, ap, ◌∙◌, arith, length-append}
use Rattle.std.proofs.lemmas.Bool.{le-ltb, ltb-false}
use Rattle.std.proofs.lemmas.Bool.Decides.{nat_tests}
use Rattle.std.proofs.lemmas.List.{drop-append-le, get_or_append_left}
use Rattle.std.specs.Prelude.{nat_le, nat_lt, ◌==◌, option_and_then}
use Rattle.dns_tsig.specs.Numbers.{number_at}
use Rattle.dns_tsig.specs.Skip.{after_bytes, after_end, after_fields, after_labels, after_low, after_name, after_plain_fields, after_plain_record, after_question, after_questions, after_records, is_tsig}

-- what skips a part at the front of bytes leaves the rest, whatever follows
abbrev pub GoesOn : (List ℕ → Option (List ℕ)) → Type 0
GoesOn skip = (bytes more rest : List ℕ) → skip bytes ≡ Some rest → skip (bytes ++ more) ≡ Some (rest ++ more)

-- two parts, one after another
pub then_more : (first second : List ℕ → Option (List ℕ)) → GoesOn first → GoesOn second → GoesOn (λ bytes. option_and_then second (first bytes))
then_more first second f s bytes more rest e = by (first bytes) refl e
  where
    by : (left : Option (List ℕ)) → first bytes ≡ left → option_and_then second left ≡ Some rest → option_and_then second (first (bytes ++ more)) ≡ Some (rest ++ more)
    by None is e = absurd (cc)
    by (Some left) is e = ap (option_and_then second) (f bytes more left is) ∙ s left more rest e

-- ---- names

one_label : (is_label : Bool) (code : ℕ) (skipped longer bytes more rest : List ℕ) (x : ℕ) → (skipped ≡ x ∷ rest → longer ≡ x ∷ (rest ++ more))
    → cond is_label skipped (code ∷ bytes) ≡ x ∷ rest → cond is_label longer (code ∷ (bytes ++ more)) ≡ x ∷ (rest ++ more)
one_label true code skipped longer bytes more rest x f e = f e
one_label false code skipped longer bytes more rest x f e = cc

labels_more : (k : ℕ) (bytes more rest : List ℕ) (x : ℕ) → after_labels k bytes ≡ x ∷ rest → after_labels k (bytes ++ more) ≡ x ∷ (rest ++ more)
labels_more zero [] more rest x e = absurd (cc)
labels_more (suc k) [] more rest x e = absurd (cc)
labels_more zero (code ∷ bytes) more rest x e =
    one_label (nat_lt 0 code && nat_lt code 64) code (after_labels code bytes) (after_labels code (bytes ++ more)) bytes more rest x (λ d. labels_more code bytes more rest x d) e
labels_more (suc k) (byte ∷ bytes) more rest x e = labels_more k bytes more rest x e

low_more : GoesOn after_low
low_more [] more rest e = absurd (cc)
low_more (low ∷ bytes) more rest e = cc

end_more : GoesOn after_end
end_more [] more rest e = absurd (cc)
end_more (code ∷ bytes) more rest e = by (code == 0) (nat_lt code 192) e
  where
    by : (is_zero is_other : Bool) → cond is_zero (Some bytes) (cond is_other None (after_low bytes)) ≡ Some rest
        → cond is_zero (Some (bytes ++ more)) (cond is_other None (after_low (bytes ++ more))) ≡ Some (rest ++ more)
    by true is_other e = cc
    by false true e = absurd (cc)
    by false false e = low_more bytes more rest e

pub name_more : GoesOn after_name
name_more bytes more rest e = by (after_labels 0 bytes) refl e
  where
    by : (left : List ℕ) → after_labels 0 bytes ≡ left → after_end left ≡ Some rest → after_name (bytes ++ more) ≡ Some (rest ++ more)
    by [] is e = absurd (cc)
    by (x ∷ xs) is e = ap after_end (labels_more 0 bytes more xs x is) ∙ end_more (x ∷ xs) more rest e

-- ---- questions and records

bytes_more : (len : ℕ) → GoesOn (after_bytes len)
bytes_more len bytes more rest e = by (nat_lt (length bytes) len) refl e
  where
    by : (is_short : Bool) → nat_lt (length bytes) len ≡ is_short → cond is_short None (Some (drop len bytes)) ≡ Some rest → after_bytes len (bytes ++ more) ≡ Some (rest ++ more)
    by true is e = absurd (cc)
    by false is e =
        let within : len ≤ length bytes = ltb-false (length bytes) len is in
        let still : nat_lt (length (bytes ++ more)) len ≡ false = le-ltb (length (bytes ++ more)) len (omega (arith, length-append bytes more)) in
        let left : drop len bytes ≡ rest = cc in
        ap (λ (b : Bool). cond b None (Some (drop len (bytes ++ more)))) still ∙ ap (λ (l : List ℕ). Some l) (drop-append-le len bytes more within ∙ ap (λ (l : List ℕ). l ++ more) left)

question_more : GoesOn after_question
question_more = then_more after_name (after_bytes 4) name_more (bytes_more 4)

pub questions_more : (count : ℕ) → GoesOn (after_questions count)
questions_more zero bytes more rest e = cc
questions_more (suc count) bytes more rest e = then_more after_question (after_questions count) question_more (questions_more count) bytes more rest e

pub number_more : (bytes more : List ℕ) (place : ℕ) → place + 2 ≤ length bytes → number_at (bytes ++ more) place ≡ number_at bytes place
number_more bytes more place h =
    let high = get_or_append_left bytes more 0 place (omega arith) in
    let low = get_or_append_left bytes more 0 (place + 1) (omega arith) in
    ap (λ (x : ℕ). 256 * x + get_or (bytes ++ more) (place + 1) 0) high ∙ ap (λ (x : ℕ). 256 * get_or bytes place 0 + x) low

-- a record has ten bytes at least after its owner
fields_more : (fields more rest : List ℕ) → 10 ≤ length fields → after_bytes (number_at fields 8) (drop 10 fields) ≡ Some rest → after_fields (fields ++ more) ≡ Some (rest ++ more)
fields_more fields more rest h e =
    let still : nat_lt (length (fields ++ more)) 10 ≡ false = le-ltb (length (fields ++ more)) 10 (omega (arith, length-append fields more)) in
    ap (λ (b : Bool). cond b None (after_bytes (number_at (fields ++ more) 8) (drop 10 (fields ++ more)))) still
    ∙ ap (λ (n : ℕ). after_bytes n (drop 10 (fields ++ more))) (number_more fields more 8 h)
    ∙ ap (after_bytes (number_at fields 8)) (drop-append-le 10 fields more h)
    ∙ bytes_more (number_at fields 8) (drop 10 fields) more rest e

pub tsig_more : (fields more : List ℕ) → 2 ≤ length fields → is_tsig (fields ++ more) ≡ is_tsig fields
tsig_more fields more h =
    let short : nat_le 2 (length fields) ≡ true = grind (arith, nat_tests) in
    let longer : nat_le 2 (length (fields ++ more)) ≡ true = grind (arith, nat_tests, length-append fields more) in
    ap (λ (b : Bool). b && number_at (fields ++ more) 0 == 250) (longer ∙ sym short) ∙ ap (λ (n : ℕ). nat_le 2 (length fields) && n == 250) (number_more fields more 0 h)

plain_fields_more : GoesOn after_plain_fields
plain_fields_more fields more rest e = by (is_tsig fields) refl (nat_lt (length fields) 10) refl e
  where
    by : (signs : Bool) → is_tsig fields ≡ signs → (is_short : Bool) → nat_lt (length fields) 10 ≡ is_short → cond signs None (cond is_short None (after_bytes (number_at fields 8) (drop 10 fields))) ≡ Some rest
        → after_plain_fields (fields ++ more) ≡ Some (rest ++ more)
    by true is short s e = absurd (cc)
    by false is true s e = absurd (cc)
    by false is false s e =
        let within : 10 ≤ length fields = ltb-false (length fields) 10 s in
        ap (λ (b : Bool). cond b None (after_fields (fields ++ more))) (tsig_more fields more (omega arith) ∙ is) ∙ fields_more fields more rest within e

record_more : GoesOn after_plain_record
record_more = then_more after_name after_plain_fields name_more plain_fields_more

pub records_more : (count : ℕ) → GoesOn (after_records count)
records_more zero bytes more rest e = cc
records_more (suc count) bytes more rest e = then_more after_plain_record (after_records count) record_more (records_more count) bytes more rest e
