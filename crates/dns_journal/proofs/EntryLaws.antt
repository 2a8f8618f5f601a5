-- Entries and frames at the front of bytes.
use Rattle.std.proofs.Common.{◌≡◌, ℕ, zero, suc, ◌+◌, ◌-◌, ◌^◌, ◌<◌, ◌≤◌, List, [], ◌∷◌, ◌++◌, length, take, drop, refl, sym, ap, subst, ◌∙◌, append_assoc, arith, length-append}
use Rattle.std.specs.Int.{w32, from_be_bytes}
use Rattle.std.proofs.lemmas.List.{take_at, drop_at, drop_all, take_all, take-append-drop, length-take, length-drop}
use Rattle.std.proofs.lemmas.Nat.{from_be_bytes-to_be_bytes_4}
use Rattle.dns_journal.specs.declared.format.link.Link.{Link}
use Rattle.dns_journal.specs.format.Format.{check, entry, entry_seal, frame, front, seal, word, BeginsWith}

-- ---- lists

pub drop_drop : (m n : ℕ) (l : List ℕ) → drop n (drop m l) ≡ drop (m + n) l
drop_drop zero n l = let e : n ≡ 0 + n = omega arith in ap (λ (k : ℕ). drop k l) e
drop_drop (suc m) n [] = drop_all n [] (omega arith) ∙ sym (drop_all (suc m + n) [] (omega arith))
drop_drop (suc m) n (x ∷ l) = let e : suc (m + n) ≡ suc m + n = omega arith in drop_drop m n l ∙ ap (λ (k : ℕ). drop k (x ∷ l)) e

pub take_take : (k m : ℕ) (l : List ℕ) → k ≤ m → take k (take m l) ≡ take k l
take_take zero m l within = refl
take_take (suc k) zero l within = absurd (omega arith)
take_take (suc k) (suc m) [] within = refl
take_take (suc k) (suc m) (x ∷ l) within = ap (λ (r : List ℕ). x ∷ r) (take_take k m l (omega arith))

pub take_swap : (k m : ℕ) (l : List ℕ) → take k (take m l) ≡ take m (take k l)
take_swap zero zero l = refl
take_swap zero (suc m) [] = refl
take_swap zero (suc m) (x ∷ l) = refl
take_swap (suc k) zero [] = refl
take_swap (suc k) zero (x ∷ l) = refl
take_swap (suc k) (suc m) [] = refl
take_swap (suc k) (suc m) (x ∷ l) = ap (λ (r : List ℕ). x ∷ r) (take_swap k m l)

take_nil : (n : ℕ) → take {A = ℕ} n [] ≡ []
take_nil zero = refl
take_nil (suc n) = refl

pub drop_take : (m n : ℕ) (l : List ℕ) → drop m (take n l) ≡ take (n - m) (drop m l)
drop_take zero n l = let e : n ≡ n - 0 = omega arith in ap (λ (k : ℕ). take k l) e
drop_take (suc m) zero l = let e : 0 - suc m ≡ 0 = omega arith in ap (λ (k : ℕ). take k (drop (suc m) l)) (sym e)
drop_take (suc m) (suc n) [] = sym (take_nil (suc n - suc m))
drop_take (suc m) (suc n) (x ∷ l) = let e : n - m ≡ suc n - suc m = omega arith in drop_take m n l ∙ ap (λ (k : ℕ). take k (drop m l)) e

-- ---- entries

pub length-word : (n : ℕ) → length (word n) ≡ 8
unfolding word
length-word n = refl

pub length-front : (a b len : ℕ) → length (front a b len) ≡ 20
unfolding front
length-front a b len = refl

pub length-frame : (key : List ℕ) (link : Link) (len : ℕ) → length (frame key link len) ≡ 28
length-frame key link len =
    let f = front link.seal (link.number + 1) len in
    omega (arith, length-append f (word (check key f)), length-front link.seal (link.number + 1) len, length-word (check key f))

pub length-entry : (key : List ℕ) (link : Link) (payload : List ℕ) → length (entry key link payload) ≡ 36 + length payload
length-entry key link payload =
    let s = word (entry_seal key link payload) in
    omega (arith, length-word (entry_seal key link payload), length-frame key link (length payload), length-append (frame key link (length payload)) (payload ++ s), length-append payload s)

-- the length of a payload that a front has
number_of : (a b len : ℕ) (more : List ℕ) → len < 2 ^ 23 → from_be_bytes w32 (take 4 (drop 16 (front a b len ++ more))) ≡ len
unfolding front
number_of a b len more small = from_be_bytes-to_be_bytes_4 len (omega (arith, small))

-- the same in bytes that begin with it
pub number_at : (key : List ℕ) (link : Link) (len : ℕ) (bytes : List ℕ) → len < 2 ^ 23 → take 28 bytes ≡ frame key link len → from_be_bytes w32 (take 4 (drop 16 bytes)) ≡ len
number_at key link len bytes small is =
    let split : bytes ≡ frame key link len ++ drop 28 bytes = sym (take-append-drop 28 bytes) ∙ ap (λ (l : List ℕ). l ++ drop 28 bytes) is in
    let f = front link.seal (link.number + 1) len in
    let c = word (check key f) in
    ap (λ (l : List ℕ). from_be_bytes w32 (take 4 (drop 16 l))) (split ∙ append_assoc f c (drop 28 bytes)) ∙ number_of link.seal (link.number + 1) len (c ++ drop 28 bytes) small

-- the parts of bytes that begin with an entry
pub record Parts (key : List ℕ) (link : Link) (payload bytes rest : List ℕ) : Type 0 where
  pub frame_is : take 28 bytes ≡ frame key link (length payload)
  pub within : 36 + length payload ≤ length bytes
  pub payload_is : take (length payload) (drop 28 bytes) ≡ payload
  pub seal_is : take 8 (drop (28 + length payload) bytes) ≡ word (entry_seal key link payload)
  pub rest_is : drop (36 + length payload) bytes ≡ rest

pub parts_of : (key : List ℕ) (link : Link) (payload bytes rest : List ℕ) → BeginsWith key link payload bytes rest → Parts key link payload bytes rest
parts_of key link payload bytes rest begins =
    let f = frame key link (length payload) in
    let f_len = length-frame key link (length payload) in
    let s = word (entry_seal key link payload) in
    let s_len = length-word (entry_seal key link payload) in
    let split : bytes ≡ f ++ (payload ++ (s ++ rest)) =
    begins.parts ∙ append_assoc f (payload ++ s) rest ∙ ap (λ (l : List ℕ). f ++ l) (append_assoc payload s rest) in
    let head : take 28 bytes ≡ f = ap (λ (l : List ℕ). take 28 l) split ∙ take_at f (payload ++ (s ++ rest)) 28 f_len in
    let after : drop 28 bytes ≡ payload ++ (s ++ rest) = ap (λ (l : List ℕ). drop 28 l) split ∙ drop_at f (payload ++ (s ++ rest)) 28 f_len in
    let behind : drop (28 + length payload) bytes ≡ s ++ rest =
    sym (drop_drop 28 (length payload) bytes) ∙ ap (λ (l : List ℕ). drop (length payload) l) after ∙ drop_at payload (s ++ rest) (length payload) refl in
    let past : drop (28 + length payload + 8) bytes ≡ rest =
    sym (drop_drop (28 + length payload) 8 bytes) ∙ ap (λ (l : List ℕ). drop 8 l) behind ∙ drop_at s rest 8 s_len in
    let sum : 28 + length payload + 8 ≡ 36 + length payload = omega arith in
    record {
      frame_is = head;
      within = omega (arith, ap length begins.parts, length-append (entry key link payload) rest, length-entry key link payload);
      payload_is = ap (λ (l : List ℕ). take (length payload) l) after ∙ take_at payload (s ++ rest) (length payload) refl;
      seal_is = ap (λ (l : List ℕ). take 8 l) behind ∙ take_at s rest 8 s_len;
      rest_is = ap (λ (k : ℕ). drop k bytes) (sym sum) ∙ past;
    }

pub begins_with : (key : List ℕ) (link : Link) (bytes : List ℕ) (n : ℕ) → n < 2 ^ 23 → 36 + n ≤ length bytes → take 28 bytes ≡ frame key link n
    → take 8 (drop (28 + n) bytes) ≡ word (entry_seal key link (take n (drop 28 bytes))) → BeginsWith key link (take n (drop 28 bytes)) bytes (drop (36 + n) bytes)
begins_with key link bytes n short within framed sealed =
    let payload = take n (drop 28 bytes) in
    let payload_len : length payload ≡ n = omega (arith, within, length-take n (drop 28 bytes), length-drop 28 bytes) in
    let s = word (entry_seal key link payload) in
    let f = frame key link (length payload) in
    let head : take 28 bytes ≡ f = framed ∙ ap (λ (k : ℕ). frame key link k) (sym payload_len) in
    let sum : 28 + n + 8 ≡ 36 + n = omega arith in
    let last : drop (28 + n) bytes ≡ s ++ drop (36 + n) bytes =
    sym (take-append-drop 8 (drop (28 + n) bytes))
    ∙ ap (λ (l : List ℕ). l ++ drop 8 (drop (28 + n) bytes)) sealed
    ∙ ap (λ (l : List ℕ). s ++ l) (drop_drop (28 + n) 8 bytes ∙ ap (λ (k : ℕ). drop k bytes) sum) in
    let middle : drop 28 bytes ≡ payload ++ (s ++ drop (36 + n) bytes) =
    sym (take-append-drop n (drop 28 bytes)) ∙ ap (λ (l : List ℕ). payload ++ l) (drop_drop 28 n bytes ∙ last) in
    let whole : bytes ≡ f ++ (payload ++ (s ++ drop (36 + n) bytes)) =
    sym (take-append-drop 28 bytes) ∙ ap (λ (l : List ℕ). l ++ drop 28 bytes) head ∙ ap (λ (l : List ℕ). f ++ l) middle in
    record {
      short = omega (arith, short, payload_len);
      parts = whole
          ∙ ap (λ (l : List ℕ). f ++ l) (sym (append_assoc payload s (drop (36 + n) bytes)))
          ∙ sym (append_assoc f (payload ++ s) (drop (36 + n) bytes));
    }

-- bytes begin with one entry
pub same_entry : (key : List ℕ) (link : Link) (p q bytes rest more : List ℕ) → BeginsWith key link p bytes rest → BeginsWith key link q bytes more → (p ≡ q) × (rest ≡ more)
same_entry key link p q bytes rest more one other =
    let a = parts_of key link p bytes rest one in
    let b = parts_of key link q bytes more other in
    let len : length p ≡ length q = sym (number_at key link (length p) bytes one.short a.frame_is) ∙ number_at key link (length q) bytes other.short b.frame_is in (
      sym a.payload_is ∙ ap (λ (n : ℕ). take n (drop 28 bytes)) len ∙ b.payload_is,
      sym a.rest_is ∙ ap (λ (n : ℕ). drop (36 + n) bytes) len ∙ b.rest_is,
    )

pub longer : (key : List ℕ) (link : Link) (payload rest after : List ℕ) → BeginsWith key link payload rest after → 36 + length payload + length after ≡ length rest
longer key link payload rest after begins = omega (arith, ap length begins.parts, length-append (entry key link payload) after, length-entry key link payload)

-- ---- what is read

-- bytes begin with a front and its check
pub framed : (key : List ℕ) (link : Link) (n k : ℕ) (bytes : List ℕ) → k ≡ 8 → take 20 bytes ≡ front link.seal (link.number + 1) n
    → take k (drop 20 bytes) ≡ word (check key (front link.seal (link.number + 1) n)) → take 28 bytes ≡ frame key link n
framed key link n k bytes eight first second =
    let checked : take 8 (drop 20 bytes) ≡ word (check key (front link.seal (link.number + 1) n)) = ap (λ (j : ℕ). take j (drop 20 bytes)) (sym eight) ∙ second in
    let twenty : take 20 (take 28 bytes) ≡ take 20 bytes = take_take 20 28 bytes (omega arith) in
    let eights : drop 20 (take 28 bytes) ≡ take 8 (drop 20 bytes) = drop_take 20 28 bytes in
    sym (take-append-drop 20 (take 28 bytes)) ∙ ap (λ (l : List ℕ). l ++ drop 20 (take 28 bytes)) (twenty ∙ first)
    ∙ ap (λ (l : List ℕ). front link.seal (link.number + 1) n ++ l) (eights ∙ checked)

pub front_of : (key : List ℕ) (link : Link) (n : ℕ) (bytes : List ℕ) → take 28 bytes ≡ frame key link n → take 20 bytes ≡ front link.seal (link.number + 1) n
front_of key link n bytes is =
    let f = front link.seal (link.number + 1) n in
    sym (take_take 20 28 bytes (omega arith)) ∙ ap (λ (l : List ℕ). take 20 l) is ∙ take_at f (word (check key f)) 20 (length-front link.seal (link.number + 1) n)

pub check_of : (key : List ℕ) (link : Link) (n k : ℕ) (bytes : List ℕ) → k ≡ 8 → take 28 bytes ≡ frame key link n
    → take k (drop 20 bytes) ≡ word (check key (front link.seal (link.number + 1) n))
check_of key link n k bytes eight is =
    let f = front link.seal (link.number + 1) n in
    ap (λ (j : ℕ). take j (drop 20 bytes)) eight ∙ sym (drop_take 20 28 bytes) ∙ ap (λ (l : List ℕ). drop 20 l) is
    ∙ drop_at f (word (check key f)) 20 (length-front link.seal (link.number + 1) n)

-- the seal of a payload in bytes
pub sealed_of : (key : List ℕ) (link : Link) (bytes fr : List ℕ) (n m sealed : ℕ) → m ≡ n → 36 + n ≤ length bytes → fr ≡ front link.seal (link.number + 1) n
    → sealed ≡ seal key fr (take m (drop 28 bytes)) → sealed ≡ entry_seal key link (take m (drop 28 bytes))
sealed_of key link bytes fr n m sealed same within fr_is is =
    let p = take m (drop 28 bytes) in
    let len : n ≡ length p = omega (arith, same, within, length-take m (drop 28 bytes), length-drop 28 bytes) in
    is ∙ ap (λ (f : List ℕ). seal key f p) (fr_is ∙ ap (λ (k : ℕ). front link.seal (link.number + 1) k) len)

pub found_entry : (key : List ℕ) (link : Link) (bytes : List ℕ) (n m k r sealed : ℕ) → m ≡ n → k ≡ 8 → r ≡ length bytes - (36 + n) → n < 2 ^ 23 → 36 + n ≤ length bytes
    → take 28 bytes ≡ frame key link n → take k (drop (28 + n) bytes) ≡ word sealed → sealed ≡ entry_seal key link (take m (drop 28 bytes))
    → BeginsWith key link (take m (drop 28 bytes)) bytes (take r (drop (36 + n) bytes))
found_entry key link bytes n m k r sealed same eight all short within framed_is stored is =
    let stored_is : take 8 (drop (28 + n) bytes) ≡ word (entry_seal key link (take n (drop 28 bytes))) =
    ap (λ (j : ℕ). take j (drop (28 + n) bytes)) (sym eight) ∙ stored ∙ ap word is ∙ ap (λ (j : ℕ). word (entry_seal key link (take j (drop 28 bytes)))) same in
    let whole : take r (drop (36 + n) bytes) ≡ drop (36 + n) bytes = take_all r (drop (36 + n) bytes) (omega (arith, all, length-drop (36 + n) bytes)) in
    subst (λ (l : List ℕ). BeginsWith key link (take m (drop 28 bytes)) bytes l) (sym whole)
    (subst (λ (j : ℕ). BeginsWith key link (take j (drop 28 bytes)) bytes (drop (36 + n) bytes)) (sym same) (begins_with key link bytes n short within framed_is stored_is))

-- the length of the payload of an entry at the front of bytes
pub len_of : (key : List ℕ) (link : Link) (bytes payload rest : List ℕ) (n : ℕ) → n ≡ from_be_bytes w32 (take 4 (drop 16 bytes)) → BeginsWith key link payload bytes rest → length payload ≡ n
len_of key link bytes payload rest n is begins = sym (number_at key link (length payload) bytes begins.short (parts_of key link payload bytes rest begins).frame_is) ∙ sym is

pub stored_of : (key : List ℕ) (link : Link) (bytes payload rest : List ℕ) (n m k sealed : ℕ) → m ≡ n → k ≡ 8 → length payload ≡ n → BeginsWith key link payload bytes rest
    → sealed ≡ entry_seal key link (take m (drop 28 bytes)) → take k (drop (28 + n) bytes) ≡ word sealed
stored_of key link bytes payload rest n m k sealed same eight len begins is =
    let p = parts_of key link payload bytes rest begins in
    let payload_is : take m (drop 28 bytes) ≡ payload = ap (λ (j : ℕ). take j (drop 28 bytes)) (same ∙ sym len) ∙ p.payload_is in
    ap (λ (j : ℕ). take j (drop (28 + n) bytes)) eight ∙ ap (λ (j : ℕ). take 8 (drop (28 + j) bytes)) (sym len) ∙ p.seal_is
    ∙ ap (λ (l : List ℕ). word (entry_seal key link l)) (sym payload_is) ∙ ap word (sym is)
