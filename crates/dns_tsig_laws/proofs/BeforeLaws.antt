-- What is skipped before the last bytes is skipped without these bytes, too.
use Rattle.std.proofs.Common.{◌≡◌, ◌<◌, ◌≤◌, ◌&&◌, Bool, true, false, cond, ℕ, zero, suc, List, [], ◌∷◌, ◌++◌, length, drop, Option, Some, None, refl, sym, ap, ◌∙◌, arith, length-append, length-drop}
use Rattle.std.proofs.lemmas.Bool.{le-ltb, ltb-false}
use Rattle.std.proofs.lemmas.List.{drop-append-le}
use Rattle.std.specs.Prelude.{nat_lt, ◌==◌, option_and_then}
use Rattle.dns_tsig.specs.Numbers.{number_at}
use Rattle.dns_tsig.specs.Skip.{after_bytes, after_end, after_fields, after_labels, after_low, after_name, after_plain_fields, after_plain_record, after_question, after_questions, after_records, is_tsig}
use Rattle.dns_tsig_laws.proofs.MoreLaws.{number_more, tsig_more}

-- what is left without the last bytes, and what is left with them
pub record Leaves (alone : Option (List ℕ)) (more rest : List ℕ) : Type 0 where
  pub left : List ℕ
  pub is : alone ≡ Some left
  pub rest_is : rest ≡ left ++ more

-- what skips a part before the last bytes skips it without them
abbrev pub EndsBefore : (List ℕ → Option (List ℕ)) → Type 0
EndsBefore skip = (bytes more rest : List ℕ) → skip (bytes ++ more) ≡ Some rest → length more ≤ length rest → Leaves (skip bytes) more rest

-- no more is left than there was
abbrev Shortens : (List ℕ → Option (List ℕ)) → Type 0
Shortens skip = (bytes rest : List ℕ) → skip bytes ≡ Some rest → length rest ≤ length bytes

-- two parts, one after another
then_before : (first second : List ℕ → Option (List ℕ)) → EndsBefore first → EndsBefore second → Shortens second → EndsBefore (λ bytes. option_and_then second (first bytes))
then_before first second f s shorter bytes more rest e h = by (first (bytes ++ more)) refl e
  where
    by : (middle : Option (List ℕ)) → first (bytes ++ more) ≡ middle → option_and_then second middle ≡ Some rest → Leaves (option_and_then second (first bytes)) more rest
    by None is e = absurd (cc)
    by (Some middle) is e =
        let a = f bytes more middle is (omega (arith, h, shorter middle rest e)) in
        let b = s a.left more rest (ap second (sym a.rest_is) ∙ e) h in
        record { left = b.left; is = ap (option_and_then second) a.is ∙ b.is; rest_is = b.rest_is }

then_shortens : (first second : List ℕ → Option (List ℕ)) → Shortens first → Shortens second → Shortens (λ bytes. option_and_then second (first bytes))
then_shortens first second f s bytes rest e = by (first bytes) refl e
  where
    by : (middle : Option (List ℕ)) → first bytes ≡ middle → option_and_then second middle ≡ Some rest → length rest ≤ length bytes
    by None is e = absurd (cc)
    by (Some middle) is e = omega (arith, f bytes middle is, s middle rest e)

-- ---- names

labels_short : (k : ℕ) (bytes : List ℕ) → length (after_labels k bytes) ≤ length bytes
labels_short zero [] = omega arith
labels_short (suc k) [] = omega arith
labels_short (suc k) (byte ∷ bytes) = omega (arith, labels_short k bytes)
labels_short zero (code ∷ bytes) = by (labels_short code bytes) (nat_lt 0 code && nat_lt code 64)
  where
    by : length (after_labels code bytes) ≤ length bytes → (is_label : Bool) → length (cond is_label (after_labels code bytes) (code ∷ bytes)) ≤ suc (length bytes)
    by h true = omega (arith, h)
    by h false = omega arith

labels_before : (k : ℕ) (bytes more : List ℕ) → length more < length (after_labels k (bytes ++ more)) → after_labels k (bytes ++ more) ≡ after_labels k bytes ++ more
labels_before zero [] more h = absurd (omega (arith, h, labels_short 0 more))
labels_before (suc k) [] more h = absurd (omega (arith, h, labels_short (suc k) more))
labels_before (suc k) (byte ∷ bytes) more h = labels_before k bytes more h
labels_before zero (code ∷ bytes) more h = by (λ g. labels_before code bytes more g) (nat_lt 0 code && nat_lt code 64) h
  where
    by : (length more < length (after_labels code (bytes ++ more)) → after_labels code (bytes ++ more) ≡ after_labels code bytes ++ more) → (is_label : Bool)
        → length more < length (cond is_label (after_labels code (bytes ++ more)) (code ∷ (bytes ++ more)))
        → cond is_label (after_labels code (bytes ++ more)) (code ∷ (bytes ++ more)) ≡ cond is_label (after_labels code bytes) (code ∷ bytes) ++ more
    by next true h = next h
    by next false h = refl

low_before : EndsBefore after_low
low_before [] [] rest e h = absurd (cc)
low_before [] (low ∷ more) rest e h = let r : more ≡ rest = cc in absurd (omega (arith, h, ap length r))
low_before (low ∷ bytes) more rest e h = let r : bytes ++ more ≡ rest = cc in record { left = bytes; is = refl; rest_is = sym r }

low_short : (bytes rest : List ℕ) → after_low bytes ≡ Some rest → length rest < length bytes
low_short [] rest e = absurd (cc)
low_short (low ∷ bytes) rest e = let r : bytes ≡ rest = cc in omega (arith, ap length r)

end_short : (bytes rest : List ℕ) → after_end bytes ≡ Some rest → length rest < length bytes
end_short [] rest e = absurd (cc)
end_short (code ∷ bytes) rest e = by (code == 0) (nat_lt code 192) e
  where
    by : (is_zero is_other : Bool) → cond is_zero (Some bytes) (cond is_other None (after_low bytes)) ≡ Some rest → length rest < suc (length bytes)
    by true is_other e = let r : bytes ≡ rest = cc in omega (arith, ap length r)
    by false true e = absurd (cc)
    by false false e = omega (arith, low_short bytes rest e)

end_before : EndsBefore after_end
end_before [] more rest e h = absurd (omega (arith, h, end_short more rest e))
end_before (code ∷ bytes) more rest e h = by (code == 0) (nat_lt code 192) e
  where
    by : (is_zero is_other : Bool) → cond is_zero (Some (bytes ++ more)) (cond is_other None (after_low (bytes ++ more))) ≡ Some rest → Leaves (cond is_zero (Some bytes) (cond is_other None (after_low bytes))) more rest
    by true is_other e = let r : bytes ++ more ≡ rest = cc in record { left = bytes; is = refl; rest_is = sym r }
    by false true e = absurd (cc)
    by false false e = low_before bytes more rest e h

name_before : EndsBefore after_name
name_before bytes more rest e h =
    let all : after_labels 0 (bytes ++ more) ≡ after_labels 0 bytes ++ more = labels_before 0 bytes more (omega (arith, h, end_short (after_labels 0 (bytes ++ more)) rest e)) in
    end_before (after_labels 0 bytes) more rest (ap after_end (sym all) ∙ e) h

-- ---- questions and records

bytes_short : (len : ℕ) → Shortens (after_bytes len)
bytes_short len bytes rest e = by (nat_lt (length bytes) len) e
  where
    by : (is_short : Bool) → cond is_short None (Some (drop len bytes)) ≡ Some rest → length rest ≤ length bytes
    by true e = absurd (cc)
    by false e = let r : drop len bytes ≡ rest = cc in omega (arith, ap length r, length-drop len bytes)

bytes_before : (len : ℕ) → EndsBefore (after_bytes len)
bytes_before len bytes more rest e h = by (nat_lt (length (bytes ++ more)) len) refl e
  where
    by : (is_short : Bool) → nat_lt (length (bytes ++ more)) len ≡ is_short → cond is_short None (Some (drop len (bytes ++ more))) ≡ Some rest → Leaves (after_bytes len bytes) more rest
    by true is e = absurd (cc)
    by false is e =
        let r : drop len (bytes ++ more) ≡ rest = cc in
        let all : len ≤ length (bytes ++ more) = ltb-false (length (bytes ++ more)) len is in
        let within : len ≤ length bytes = omega (arith, h, all, ap length r, length-drop len (bytes ++ more), length-append bytes more) in
        record {
          left = drop len bytes;
          is = ap (λ (b : Bool). cond b None (Some (drop len bytes))) (le-ltb (length bytes) len within);
          rest_is = sym r ∙ drop-append-le len bytes more within;
        }

fields_short : Shortens after_plain_fields
fields_short fields rest e = by (is_tsig fields) (nat_lt (length fields) 10) e
  where
    by : (signs is_short : Bool) → cond signs None (cond is_short None (after_bytes (number_at fields 8) (drop 10 fields))) ≡ Some rest → length rest ≤ length fields
    by true is_short e = absurd (cc)
    by false true e = absurd (cc)
    by false false e = omega (arith, bytes_short (number_at fields 8) (drop 10 fields) rest e, length-drop 10 fields)

fields_before : EndsBefore after_plain_fields
fields_before fields more rest e h = by (is_tsig (fields ++ more)) refl (nat_lt (length (fields ++ more)) 10) refl e
  where
    by : (signs : Bool) → is_tsig (fields ++ more) ≡ signs → (is_short : Bool) → nat_lt (length (fields ++ more)) 10 ≡ is_short
        → cond signs None (cond is_short None (after_bytes (number_at (fields ++ more) 8) (drop 10 (fields ++ more)))) ≡ Some rest → Leaves (after_plain_fields fields) more rest
    by true is is_short s e = absurd (cc)
    by false is true s e = absurd (cc)
    by false is false s e =
        let shorter = bytes_short (number_at (fields ++ more) 8) (drop 10 (fields ++ more)) rest e in
        let all : 10 ≤ length (fields ++ more) = ltb-false (length (fields ++ more)) 10 s in
        let ten : 10 ≤ length fields = omega (arith, h, all, shorter, length-drop 10 (fields ++ more), length-append fields more) in
        let none : is_tsig fields ≡ false = sym (tsig_more fields more (omega (arith, ten))) ∙ is in
        let number = number_more fields more 8 (omega (arith, ten)) in
        let alone : after_bytes (number_at fields 8) (drop 10 fields ++ more) ≡ Some rest =
        ap (λ (n : ℕ). after_bytes n (drop 10 fields ++ more)) (sym number) ∙ ap (after_bytes (number_at (fields ++ more) 8)) (sym (drop-append-le 10 fields more ten)) ∙ e in
        let b = bytes_before (number_at fields 8) (drop 10 fields) more rest alone h in
        record {
          left = b.left;
          is = ap (λ (x : Bool). cond x None (after_fields fields)) none ∙ ap (λ (x : Bool). cond x None (after_bytes (number_at fields 8) (drop 10 fields))) (le-ltb (length fields) 10 ten) ∙ b.is;
          rest_is = b.rest_is;
        }

name_short : Shortens after_name
name_short bytes rest e = omega (arith, end_short (after_labels 0 bytes) rest e, labels_short 0 bytes)

questions_short : (count : ℕ) → Shortens (after_questions count)
questions_short zero bytes rest e = let r : bytes ≡ rest = cc in omega (arith, ap length r)
questions_short (suc count) bytes rest e = then_shortens after_question (after_questions count) (then_shortens after_name (after_bytes 4) name_short (bytes_short 4)) (questions_short count) bytes rest e

questions_before : (count : ℕ) → EndsBefore (after_questions count)
questions_before zero bytes more rest e h = let r : bytes ++ more ≡ rest = cc in record { left = bytes; is = refl; rest_is = sym r }
questions_before (suc count) bytes more rest e h =
    then_before after_question (after_questions count) (then_before after_name (after_bytes 4) name_before (bytes_before 4) (bytes_short 4)) (questions_before count) (questions_short count) bytes more rest e h

records_short : (count : ℕ) → Shortens (after_records count)
records_short zero bytes rest e = let r : bytes ≡ rest = cc in omega (arith, ap length r)
records_short (suc count) bytes rest e = then_shortens after_plain_record (after_records count) (then_shortens after_name after_plain_fields name_short fields_short) (records_short count) bytes rest e

records_before : (count : ℕ) → EndsBefore (after_records count)
records_before zero bytes more rest e h = let r : bytes ++ more ≡ rest = cc in record { left = bytes; is = refl; rest_is = sym r }
records_before (suc count) bytes more rest e h =
    then_before after_plain_record (after_records count) (then_before after_name after_plain_fields name_before fields_before fields_short) (records_before count) (records_short count) bytes more rest e h

-- questions, and records after them
pub sections_before : (questions records : ℕ) → EndsBefore (λ bytes. option_and_then (after_records records) (after_questions questions bytes))
sections_before questions records = then_before (after_questions questions) (after_records records) (questions_before questions) (records_before records) (records_short records)
