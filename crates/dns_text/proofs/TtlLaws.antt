-- A time that is counted character by character is the sum of its runs.
use Rattle.std.proofs.Common.{◌≡◌, ℕ, zero, suc, ◌+◌, ◌-◌, ◌*◌, ◌<◌, ◌≤◌, ◌++◌, Bool, true, false, List, [], ◌∷◌, length, take, drop, get_or, Option, Some, None, Result, Ok, Err, refl, sym, ap, ◌∙◌, arith, append_assoc}
use Rattle.std.specs.Prelude.{unwrap_or, if◌then◌else◌, ◌==◌, nat_le}
use Rattle.std.specs.Char.{to_ascii_lowercase}
use Rattle.std.proofs.Math.Nat.{suc-mul}
use Rattle.std.proofs.Math.Seq.{drop-cons, take-suc}
use Rattle.std.proofs.lemmas.List.{take-append-drop, take_all, append-nil, length-take}
use Rattle.std.proofs.lemmas.Bool.Decides.{nat_tests}
use Rattle.dns_text.specs.declared.ttl.TtlSum.{TtlSum}
use Rattle.dns_names.specs.declared.error.ParseError.{ParseError}
use Rattle.dns_names.specs.declared.error.ParseError.TheVariants.{Text}
use Rattle.dns_wire.specs.codes.Decimal.{is_digit, digits_from, at_most}
use Rattle.dns_text.specs.Ttl.{unit_seconds, Run, with_digit, runs, scale, product, sum_of, seconds, time, fault_from, ttl_of_text}
use Rattle.dns_text.specs.internal.Ttl.{add_character, total}

-- ---- what is counted is the sum of the runs

abbrev pub total_from : TtlSum → List ℕ → Option ℕ
total_from t [] = Some (total t)
total_from t (c ∷ cs) = elim (add_character t c) [ None ↦ None | Some next ↦ total_from next cs ]

abbrev pub start : TtlSum
start = record { sum = 0; run = None }

-- the seconds of runs, the first of which goes on with a number that has begun
abbrev carried : Option ℕ → List Run → Option ℕ
carried None rs = seconds rs
carried (Some k) [] = Some k
carried (Some k) (r ∷ rs) = sum_of (product (scale r.unit) (digits_from k r.digits)) (seconds rs)

digits_more : (n c : ℕ) (ds : List ℕ) → is_digit c ≡ true → digits_from n (c ∷ ds) ≡ digits_from (10 * n + (c - 48)) ds
digits_more n c ds e = ap (λ (b : Bool). if b then digits_from (10 * n + (c - 48)) ds else None) e

alone : (x : ℕ) → sum_of (product (Some 1) (Some x)) (Some 0) ≡ Some x
alone x = ap (λ (n : ℕ). Some n) (omega arith)

carried_digit : (run : Option ℕ) (c : ℕ) (rs : List Run) → is_digit c ≡ true → carried run (with_digit c rs) ≡ carried (Some (10 * unwrap_or run 0 + (c - 48))) rs
carried_digit None c [] e = ap (λ (o : Option ℕ). sum_of (product (Some 1) o) (Some 0)) (digits_more 0 c [] e) ∙ alone (10 * 0 + (c - 48))
carried_digit (Some k) c [] e = ap (λ (o : Option ℕ). sum_of (product (Some 1) o) (Some 0)) (digits_more k c [] e) ∙ alone (10 * k + (c - 48))
carried_digit None c (r ∷ rs) e = ap (λ (o : Option ℕ). sum_of (product (scale r.unit) o) (seconds rs)) (digits_more 0 c r.digits e)
carried_digit (Some k) c (r ∷ rs) e = ap (λ (o : Option ℕ). sum_of (product (scale r.unit) o) (seconds rs)) (digits_more k c r.digits e)

sum_nested : (a b : ℕ) (o : Option ℕ) → sum_of (Some (a + b)) o ≡ sum_of (Some a) (sum_of (Some b) o)
sum_nested a b None = refl
sum_nested a b (Some n) = ap (λ (m : ℕ). Some m) (omega arith)

-- a unit ends the run that has begun
unit_ends : (sum number : ℕ) (unit : Option ℕ) (rs : List Run) (rest : TtlSum → Option ℕ)
    → ((next : TtlSum) → rest next ≡ sum_of (Some next.sum) (carried next.run rs))
    → elim (elim unit as (λ _. Option TtlSum) [ None ↦ None | Some seconds ↦ Some (record { sum = sum + seconds * number; run = None }) ]) as (λ _. Option ℕ) [ None ↦ None | Some next ↦ rest next ]
    ≡ sum_of (Some sum) (sum_of (product unit (Some number)) (seconds rs))
unit_ends sum number None rs rest more = refl
unit_ends sum number (Some s) rs rest more = more (record { sum = sum + s * number; run = None }) ∙ sum_nested sum (s * number) (seconds rs)

one_more : (t : TtlSum) (c : ℕ) (rs : List Run) (rest : TtlSum → Option ℕ)
    → ((next : TtlSum) → rest next ≡ sum_of (Some next.sum) (carried next.run rs))
    → elim (add_character t c) as (λ _. Option ℕ) [ None ↦ None | Some next ↦ rest next ]
    ≡ sum_of (Some t.sum) (carried t.run (if is_digit c then with_digit c rs else record { digits = []; unit = Some c } ∷ rs))
one_more t c rs rest more = at (is_digit c) refl
  where
    at_run : (run : Option ℕ)
        → elim (elim run as (λ _. Option TtlSum) [ None ↦ None | Some number ↦ elim (unit_seconds c) as (λ _. Option TtlSum) [ None ↦ None | Some seconds ↦ Some (record { sum = t.sum + seconds * number; run = None }) ] ]) as (λ _. Option ℕ) [ None ↦ None | Some next ↦ rest next ]
        ≡ sum_of (Some t.sum) (carried run (record { digits = []; unit = Some c } ∷ rs))
    at_run None = none_of (unit_seconds c)
      where
        none_of : (unit : Option ℕ) → None ≡ sum_of (Some t.sum) (sum_of (product unit None) (seconds rs))
        none_of None = refl
        none_of (Some s) = refl
    at_run (Some number) = unit_ends t.sum number (unit_seconds c) rs rest more

    at : (digit : Bool) → is_digit c ≡ digit
        → elim (if digit then Some (record t { run = Some (10 * unwrap_or t.run 0 + (c - 48)) })
        else elim t.run as (λ _. Option TtlSum) [ None ↦ None | Some number ↦ elim (unit_seconds c) as (λ _. Option TtlSum) [ None ↦ None | Some seconds ↦ Some (record { sum = t.sum + seconds * number; run = None }) ] ]) as (λ _. Option ℕ) [ None ↦ None | Some next ↦ rest next ]
        ≡ sum_of (Some t.sum) (carried t.run (if digit then with_digit c rs else record { digits = []; unit = Some c } ∷ rs))
    at true e = more (record t { run = Some (10 * unwrap_or t.run 0 + (c - 48)) }) ∙ ap (sum_of (Some t.sum)) (sym (carried_digit t.run c rs e))
    at false e = at_run t.run

total_is : (t : TtlSum) (cs : List ℕ) → total_from t cs ≡ sum_of (Some t.sum) (carried t.run (runs cs))
total_is t [] = at t.run
  where
    at : (run : Option ℕ) → Some (t.sum + unwrap_or run 0) ≡ sum_of (Some t.sum) (carried run [])
    at None = refl
    at (Some k) = refl
total_is t (c ∷ cs) = one_more t c (runs cs) (λ next. total_from next cs) (λ next. total_is next cs)

none_before : (o : Option ℕ) → sum_of (Some 0) o ≡ o
none_before None = refl
none_before (Some n) = ap (λ (m : ℕ). Some m) (omega arith)

time_is : (read : List ℕ) (c : ℕ) (cs : List ℕ) → time (read ++ (c ∷ cs)) ≡ at_most 4294967295 (total_from start (read ++ (c ∷ cs)))
time_is [] c cs = ap (at_most 4294967295) (sym (total_is start (c ∷ cs) ∙ none_before (seconds (runs (c ∷ cs)))))
time_is (d ∷ ds) c cs = ap (at_most 4294967295) (sym (total_is start (d ∷ (ds ++ (c ∷ cs))) ∙ none_before (seconds (runs (d ∷ (ds ++ (c ∷ cs)))))))

-- ---- what is counted only grows

times_some : (s n : ℕ) → 0 < s → n ≤ s * n
times_some zero n some = absurd (omega arith)
times_some (suc s) n some = omega (arith, suc-mul s n)

one_of : (a b c d e : Bool) (s : ℕ) → (if a then Some 1 else if b then Some 60 else if c then Some 3600 else if d then Some 86400 else if e then Some 604800 else None) ≡ Some s → 0 < s
one_of true b c d e s q = let is : 1 ≡ s = cc in omega arith
one_of false true c d e s q = let is : 60 ≡ s = cc in omega arith
one_of false false true d e s q = let is : 3600 ≡ s = cc in omega arith
one_of false false false true e s q = let is : 86400 ≡ s = cc in omega arith
one_of false false false false true s q = let is : 604800 ≡ s = cc in omega arith
one_of false false false false false s q = absurd (cc)

some_unit : (c s : ℕ) → unit_seconds c ≡ Some s → 0 < s
some_unit c s = one_of (to_ascii_lowercase c == 115) (to_ascii_lowercase c == 109) (to_ascii_lowercase c == 104) (to_ascii_lowercase c == 100) (to_ascii_lowercase c == 119) s

with_unit : (sum number : ℕ) (unit : Option ℕ) (next : TtlSum) → ((s : ℕ) → unit ≡ Some s → 0 < s)
    → elim unit as (λ _. Option TtlSum) [ None ↦ None | Some seconds ↦ Some (record { sum = sum + seconds * number; run = None }) ] ≡ Some next → sum + number ≤ total next
with_unit sum number None next units e = absurd (cc)
with_unit sum number (Some seconds) next units e =
    let is : total (record { sum = sum + seconds * number; run = None }) ≡ total next = ap (λ (o : Option TtlSum). total (unwrap_or o next)) e in
    omega (arith, times_some seconds number (units seconds refl))

at_character : (digit : Bool) (t next : TtlSum) (c : ℕ)
    → (if digit then Some (record t { run = Some (10 * unwrap_or t.run 0 + (c - 48)) })
    else elim t.run as (λ _. Option TtlSum) [ None ↦ None | Some number ↦ elim (unit_seconds c) as (λ _. Option TtlSum) [ None ↦ None | Some seconds ↦ Some (record { sum = t.sum + seconds * number; run = None }) ] ]) ≡ Some next
    → total t ≤ total next
at_character true t next c e =
    let is : t.sum + (10 * unwrap_or t.run 0 + (c - 48)) ≡ total next = ap (λ (o : Option TtlSum). total (unwrap_or o next)) e in
    omega arith
at_character false t next c e = at_run t.run refl e
  where
    at_run : (run : Option ℕ) → t.run ≡ run
        → elim run as (λ _. Option TtlSum) [ None ↦ None | Some number ↦ elim (unit_seconds c) as (λ _. Option TtlSum) [ None ↦ None | Some seconds ↦ Some (record { sum = t.sum + seconds * number; run = None }) ] ] ≡ Some next
        → total t ≤ total next
    at_run None is q = absurd (cc)
    at_run (Some number) is q = let n : unwrap_or t.run 0 ≡ number = ap (λ (o : Option ℕ). unwrap_or o 0) is in omega (arith, with_unit t.sum number (unit_seconds c) next (some_unit c) q)

pub grows : (t : TtlSum) (cs : List ℕ) (n : ℕ) → total_from t cs ≡ Some n → total t ≤ n
grows t [] n e = let is : total t ≡ n = cc in omega arith
grows t (c ∷ cs) n e = by (add_character t c) refl e (λ next. grows next cs n)
  where
    by : (o : Option TtlSum) → add_character t c ≡ o → elim o as (λ _. Option ℕ) [ None ↦ None | Some next ↦ total_from next cs ] ≡ Some n
        → ((next : TtlSum) → total_from next cs ≡ Some n → total next ≤ n) → total t ≤ n
    by None is q more = absurd (cc)
    by (Some next) is q more = omega (arith, more next q, at_character (is_digit c) t next c is)

too_great : (o : Option ℕ) → ((n : ℕ) → o ≡ Some n → 4294967295 < n) → at_most 4294967295 o ≡ None
too_great None over = refl
too_great (Some n) over = let big : 4294967295 < n = over n refl in let no : nat_le n 4294967295 ≡ false = grind (arith, nat_tests) in rw no refl

past_greatest : (t : TtlSum) (cs : List ℕ) → 4294967295 < total t → at_most 4294967295 (total_from t cs) ≡ None
past_greatest t cs over = too_great (total_from t cs) (λ n e. omega (arith, grows t cs n e))

fits : (n : ℕ) → n ≤ 4294967295 → at_most 4294967295 (Some n) ≡ Some n
fits n within = let yes : nat_le n 4294967295 ≡ true = grind (arith, nat_tests) in rw yes refl

next_is : (t : TtlSum) (next : Option TtlSum) (c : ℕ) (cs : List ℕ) → add_character t c ≡ next → total_from t (c ∷ cs) ≡ elim next as (λ _. Option ℕ) [ None ↦ None | Some s ↦ total_from s cs ]
next_is t next c cs e = ap (λ (o : Option TtlSum). elim o as (λ _. Option ℕ) [ None ↦ None | Some s ↦ total_from s cs ]) e

-- what counts no time goes on to none
none_on : (t : TtlSum) (cs rest : List ℕ) → at_most 4294967295 (total_from t cs) ≡ None → at_most 4294967295 (total_from t (cs ++ rest)) ≡ None
none_on t [] rest none = past_greatest t rest (over (total t) none)
  where
    over : (n : ℕ) → at_most 4294967295 (Some n) ≡ None → 4294967295 < n
    over n e = at (nat_le n 4294967295) refl e
      where
        at : (r : Bool) → nat_le n 4294967295 ≡ r → (if r then Some n else None) ≡ None → 4294967295 < n
        at true is q = absurd (cc)
        at false is q = grind (arith, nat_tests)
none_on t (c ∷ cs) rest none = at (add_character t c) none (λ next. none_on next cs rest)
  where
    at : (o : Option TtlSum) → at_most 4294967295 (elim o as (λ _. Option ℕ) [ None ↦ None | Some next ↦ total_from next cs ]) ≡ None
        → ((next : TtlSum) → at_most 4294967295 (total_from next cs) ≡ None → at_most 4294967295 (total_from next (cs ++ rest)) ≡ None)
        → at_most 4294967295 (elim o as (λ _. Option ℕ) [ None ↦ None | Some next ↦ total_from next (cs ++ rest) ]) ≡ None
    at None q more = refl
    at (Some next) q more = more next q

pub begins_none : (read rest : List ℕ) → 0 < length read → time read ≡ None → time (read ++ rest) ≡ None
begins_none [] rest some none = absurd (omega arith)
begins_none (c ∷ cs) rest some none = time_is [] c (cs ++ rest) ∙ none_on start (c ∷ cs) rest (sym (time_is [] c cs) ∙ none)

-- ---- a text that is read up to a place

-- what was counted is completed by whatever follows, and no character before was a fault
pub record Underway (text : List ℕ) (t : TtlSum) (place : ℕ) : Type 0 where
  pub goes_on : (rest : List ℕ) → total_from start (take place text ++ rest) ≡ total_from t rest
  pub no_fault : fault_from [] text ≡ fault_from (take place text) (drop place text)

pub at_start : (text : List ℕ) → Underway text start 0
at_start text = record { goes_on = λ rest. refl; no_fault = refl }

taken_more : (text : List ℕ) (place : ℕ) → place < length text → take (place + 1) text ≡ take place text ++ (get_or text place 0 ∷ [])
taken_more text place within = let one : place + 1 ≡ suc place = omega arith in ap (λ (n : ℕ). take n text) one ∙ take-suc text place 0 within

left_is : (text : List ℕ) (place : ℕ) → place < length text → drop place text ≡ get_or text place 0 ∷ drop (place + 1) text
left_is text place within = let one : suc place ≡ place + 1 = omega arith in drop-cons text place 0 within ∙ ap (λ (n : ℕ). get_or text place 0 ∷ drop n text) one

time_next : (text : List ℕ) (t : TtlSum) (place c : ℕ) (cs : List ℕ) → Underway text t place → time (take place text ++ (c ∷ cs)) ≡ at_most 4294967295 (total_from t (c ∷ cs))
time_next text t place c cs u = time_is (take place text) c cs ∙ ap (at_most 4294967295) (u.goes_on (c ∷ cs))

fault_is : (read : List ℕ) (c : ℕ) (cs : List ℕ) (o : Option ℕ) → time (read ++ (c ∷ [])) ≡ o
    → fault_from read (c ∷ cs) ≡ elim o as (λ _. ℕ) [ None ↦ length read | Some n ↦ fault_from (read ++ (c ∷ [])) cs ]
fault_is read c cs o e = ap (λ (p : Option ℕ). elim p as (λ _. ℕ) [ None ↦ length read | Some n ↦ fault_from (read ++ (c ∷ [])) cs ]) e

-- the character that is looked at
pub looked_at : (t : TtlSum) (text bytes : List ℕ) (place : ℕ) (o : Option TtlSum) → bytes ≡ text → add_character t (get_or bytes place 0) ≡ o → add_character t (get_or text place 0) ≡ o
looked_at t text bytes place o same e = ap (λ (l : List ℕ). add_character t (get_or l place 0)) (sym same) ∙ e

-- past a character with which it is a time
pub one_further : (text : List ℕ) (t next : TtlSum) (place : ℕ) → Underway text t place → place < length text → add_character t (get_or text place 0) ≡ Some next → total next ≤ 4294967295
    → Underway text next (place + 1)
one_further text t next place u within e small =
    let more : take (place + 1) text ≡ take place text ++ (get_or text place 0 ∷ []) = taken_more text place within in
    let good : time (take place text ++ (get_or text place 0 ∷ [])) ≡ Some (total next) =
    time_next text t place (get_or text place 0) [] u ∙ ap (at_most 4294967295) (next_is t (Some next) (get_or text place 0) [] e) ∙ fits (total next) small in
    record {
      goes_on = λ rest. ap (λ (l : List ℕ). total_from start (l ++ rest)) more ∙ ap (total_from start) (append_assoc (take place text) (get_or text place 0 ∷ []) rest)
          ∙ u.goes_on (get_or text place 0 ∷ rest) ∙ next_is t (Some next) (get_or text place 0) rest e;
      no_fault = u.no_fault ∙ ap (fault_from (take place text)) (left_is text place within)
          ∙ fault_is (take place text) (get_or text place 0) (drop (place + 1) text) (Some (total next)) good
          ∙ ap (λ (l : List ℕ). fault_from l (drop (place + 1) text)) (sym more);
    }

answer_is : (text : List ℕ) (o : Option ℕ) (place : ℕ) → time text ≡ o → fault_from [] text ≡ place → ttl_of_text text ≡ elim o as (λ _. Result ℕ ParseError) [ None ↦ Err (Text place) | Some n ↦ Ok n ]
answer_is text o place e f =
    ap (λ (p : Option ℕ). elim p as (λ _. Result ℕ ParseError) [ None ↦ Err (Text (fault_from [] text)) | Some n ↦ Ok n ]) e
    ∙ ap (λ (k : ℕ). elim o as (λ _. Result ℕ ParseError) [ None ↦ Err (Text k) | Some n ↦ Ok n ]) f

-- where a character makes no time of what was read, none begins with it
refused_on : (text : List ℕ) (t : TtlSum) (place : ℕ) → Underway text t place → place < length text → ((cs : List ℕ) → at_most 4294967295 (total_from t (get_or text place 0 ∷ cs)) ≡ None) → ttl_of_text text ≡ Err (Text place)
refused_on text t place u within none =
    let whole : time text ≡ None =
    ap time (sym (take-append-drop place text) ∙ ap (λ (l : List ℕ). take place text ++ l) (left_is text place within)) ∙ time_next text t place (get_or text place 0) (drop (place + 1) text) u ∙ none (drop (place + 1) text) in
    let here : fault_from [] text ≡ length (take place text) =
    u.no_fault ∙ ap (fault_from (take place text)) (left_is text place within)
    ∙ fault_is (take place text) (get_or text place 0) (drop (place + 1) text) None (time_next text t place (get_or text place 0) [] u ∙ none []) in
    let long : length (take place text) ≡ place = grind (arith, length-take) in
    answer_is text None place whole (here ∙ long)

-- no digit, and no unit behind a digit
pub refused_for_character : (text : List ℕ) (t : TtlSum) (place : ℕ) → Underway text t place → place < length text → add_character t (get_or text place 0) ≡ None → ttl_of_text text ≡ Err (Text place)
refused_for_character text t place u within e = refused_on text t place u within (λ cs. ap (at_most 4294967295) (next_is t None (get_or text place 0) cs e))

-- past the greatest time
pub refused_for_size : (text : List ℕ) (t next : TtlSum) (place : ℕ) → Underway text t place → place < length text → add_character t (get_or text place 0) ≡ Some next → 4294967295 < total next → ttl_of_text text ≡ Err (Text place)
refused_for_size text t next place u within e over =
    refused_on text t place u within (λ cs. ap (at_most 4294967295) (next_is t (Some next) (get_or text place 0) cs e) ∙ past_greatest next cs over)

-- and a text that is read to its end is a time
pub read_whole : (text : List ℕ) (t : TtlSum) (place : ℕ) → Underway text t place → 0 < length text → place ≡ length text → total t ≤ 4294967295 → ttl_of_text text ≡ Ok (total t)
read_whole [] t place u some end small = absurd (omega arith)
read_whole (c ∷ cs) t place u some end small =
    let all : take place (c ∷ cs) ++ [] ≡ c ∷ cs = append-nil (take place (c ∷ cs)) ∙ take_all place (c ∷ cs) (omega arith) in
    let counts : total_from start (c ∷ cs) ≡ Some (total t) = ap (total_from start) (sym all) ∙ u.goes_on [] in
    answer_is (c ∷ cs) (Some (total t)) (fault_from [] (c ∷ cs)) (time_is [] c cs ∙ ap (at_most 4294967295) counts ∙ fits (total t) small) refl
