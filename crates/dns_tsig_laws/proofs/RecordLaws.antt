-- A TSIG record that was made of fields is read as these fields.
use Rattle.std.proofs.Common.{◌≡◌, ◌≤◌, ◌<◌, ◌||◌, ◌+◌, ◌-◌, ◌^◌, Bool, true, false, cond, not, ℕ, List, ◌++◌, length, take, drop, Some, None, refl, ap, ◌∙◌, arith, length-append}
use Rattle.std.proofs.Math.Nat.{div-eq_of_lt}
use Rattle.std.proofs.Math.Seq.{drop-append_seam, take-append_seam}
use Rattle.std.proofs.lemmas.Bool.{le-ltb}
use Rattle.std.proofs.lemmas.Bool.Decides.{nat_tests}
use Rattle.std.proofs.lemmas.Nat.{from_be_bytes-to_be_bytes_2, from_be_bytes-to_be_bytes_8}
use Rattle.std.specs.Int.{w16, w64, to_be_bytes}
use Rattle.std.specs.Str.{bytes_eq}
use Rattle.std.specs.Prelude.{nat_lt, ◌==◌, option_and_then}
use Rattle.dns_tsig.specs.declared.hmac.algorithm.Algorithm.{Algorithm}
use Rattle.dns_tsig.specs.declared.hmac.algorithm.Algorithm.TheVariants as algorithms
use Rattle.dns_tsig.specs.Covered.{timers}
use Rattle.dns_tsig.specs.Key.{algorithm_name}
use Rattle.dns_tsig.specs.Numbers.{number_at, time_at}
use Rattle.dns_tsig.specs.Record.{outcome_data, tsig_data}
use Rattle.dns_tsig.specs.Skip.{after_plain_name}
use Rattle.dns_tsig.specs.Tsig.{algorithm_of, data_of, fields_of, mac_of, other_of, tsig_head, tsig_of}
use Rattle.dns_tsig.specs.TsigFields.{TsigFields}

-- ---- numbers

-- a number of 16 bits in two bytes, before others
pub number_first : (n : ℕ) (rest : List ℕ) → n < 2 ^ 16 → number_at (to_be_bytes w16 n ++ rest) 0 ≡ n
number_first n rest h = omega (arith, from_be_bytes-to_be_bytes_2 n h)

-- the 48 bits of a time, before other bytes
time_first : (t : ℕ) (rest : List ℕ) → t < 2 ^ 48 → time_at (drop 2 (to_be_bytes w64 t) ++ rest) ≡ t
time_first t rest h = omega (arith, from_be_bytes-to_be_bytes_8 t (omega arith), div-eq_of_lt {n = t} {m = 256 ^ 7} (omega arith), div-eq_of_lt {n = t} {m = 256 ^ 6} (omega arith))

-- ---- the fields

-- the fields of a record
abbrev pub made : Algorithm → ℕ → ℕ → List ℕ → ℕ → ℕ → List ℕ → TsigFields
made algorithm time fudge mac id error other = record {
  algorithm = algorithm_name algorithm;
  time = time;
  fudge = fudge;
  mac = mac;
  original_id = id;
  error = error;
  other = other;
}

-- the bytes after the MAC
other_read : (name : List ℕ) (time fudge : ℕ) (mac : List ℕ) (id error : ℕ) (other : List ℕ) → id < 2 ^ 16 → error < 2 ^ 16 → length other < 2 ^ 16
    → other_of name time fudge mac (outcome_data id error other) ≡ Some (record { algorithm = name; time = time; fudge = fudge; mac = mac; original_id = id; error = error; other = other })
other_read name time fudge mac id error other i e o =
    let len : number_at (outcome_data id error other) 4 ≡ length other = omega (arith, from_be_bytes-to_be_bytes_2 (length other) o) in
    let id_is : number_at (outcome_data id error other) 0 ≡ id = omega (arith, from_be_bytes-to_be_bytes_2 id i) in
    let error_is : number_at (outcome_data id error other) 2 ≡ error = omega (arith, from_be_bytes-to_be_bytes_2 error e) in
    let whole : (number_at (outcome_data id error other) 4 == length other) ≡ true = grind (arith, nat_tests, len) in
    rw (whole, id_is, error_is)

-- the bytes after the length of the MAC
mac_read : (name : List ℕ) (time fudge : ℕ) (mac : List ℕ) (id error : ℕ) (other : List ℕ) → id < 2 ^ 16 → error < 2 ^ 16 → length other < 2 ^ 16
    → mac_of name time fudge (length mac) (mac ++ outcome_data id error other) ≡ Some (record { algorithm = name; time = time; fudge = fudge; mac = mac; original_id = id; error = error; other = other })
mac_read name time fudge mac id error other i e o =
    let tail : List ℕ = outcome_data id error other in
    let whole : nat_lt (length (mac ++ tail)) (length mac + 6) ≡ false = le-ltb (length (mac ++ tail)) (length mac + 6) (omega (arith, length-append mac tail)) in
    ap (λ (b : Bool). cond b None (other_of name time fudge (take (length mac) (mac ++ tail)) (drop (length mac) (mac ++ tail)))) whole
    ∙ ap (λ (l : List ℕ). other_of name time fudge l (drop (length mac) (mac ++ tail))) (take-append_seam mac tail)
    ∙ ap (other_of name time fudge mac) (drop-append_seam mac tail)
    ∙ other_read name time fudge mac id error other i e o

-- the sizes of fields
pub record AreFields (time fudge : ℕ) (mac : List ℕ) (id error : ℕ) (other : List ℕ) : Type 0 where
  pub time_fits : time < 2 ^ 48
  pub fudge_fits : fudge < 2 ^ 16
  pub mac_fits : length mac ≤ 64
  pub id_fits : id < 2 ^ 16
  pub error_fits : error < 2 ^ 16
  pub other_fits : length other ≤ 6

-- what is after the name of the algorithm
abbrev behind_name : ℕ → ℕ → List ℕ → ℕ → ℕ → List ℕ → List ℕ
behind_name time fudge mac id error other = timers time fudge ++ (to_be_bytes w16 (length mac) ++ (mac ++ outcome_data id error other))

name_short : (algorithm : Algorithm) → nat_lt 255 (length (algorithm_name algorithm)) ≡ false
name_short algorithms.Md5 = refl
name_short algorithms.Sha1 = refl
name_short algorithms.Sha224 = refl
name_short algorithms.Sha256 = refl
name_short algorithms.Sha384 = refl
name_short algorithms.Sha512 = refl

algorithm_read : (algorithm : Algorithm) (time fudge : ℕ) (mac : List ℕ) (id error : ℕ) (other : List ℕ) → AreFields time fudge mac id error other
    → algorithm_of (algorithm_name algorithm) (behind_name time fudge mac id error other) ≡ Some (made algorithm time fudge mac id error other)
algorithm_read algorithm time fudge mac id error other f =
    let rest : List ℕ = behind_name time fudge mac id error other in
    let long : nat_lt (length rest) 10 ≡ false = le-ltb (length rest) 10 (omega arith) in
    let time_is : time_at rest ≡ time = time_first time (to_be_bytes w16 fudge ++ (to_be_bytes w16 (length mac) ++ (mac ++ outcome_data id error other))) f.time_fits in
    let fudge_is : number_at rest 6 ≡ fudge = number_first fudge (to_be_bytes w16 (length mac) ++ (mac ++ outcome_data id error other)) f.fudge_fits in
    let len_is : number_at rest 8 ≡ length mac = number_first (length mac) (mac ++ outcome_data id error other) (omega (arith, f.mac_fits)) in
    ap (λ (b : Bool). cond (b || nat_lt 255 (length (algorithm_name algorithm))) None (mac_of (algorithm_name algorithm) (time_at rest) (number_at rest 6) (number_at rest 8) (drop 10 rest))) long
    ∙ ap (λ (b : Bool). cond b None (mac_of (algorithm_name algorithm) (time_at rest) (number_at rest 6) (number_at rest 8) (drop 10 rest))) (name_short algorithm)
    ∙ ap (λ (t : ℕ). mac_of (algorithm_name algorithm) t (number_at rest 6) (number_at rest 8) (drop 10 rest)) time_is
    ∙ ap (λ (n : ℕ). mac_of (algorithm_name algorithm) time n (number_at rest 8) (drop 10 rest)) fudge_is
    ∙ ap (λ (n : ℕ). mac_of (algorithm_name algorithm) time fudge n (mac ++ outcome_data id error other)) len_is
    ∙ mac_read (algorithm_name algorithm) time fudge mac id error other f.id_fits f.error_fits (omega (arith, f.other_fits))

name_passed : (algorithm : Algorithm) (rest : List ℕ) → after_plain_name (algorithm_name algorithm ++ rest) ≡ Some rest
name_passed algorithms.Md5 rest = refl
name_passed algorithms.Sha1 rest = refl
name_passed algorithms.Sha224 rest = refl
name_passed algorithms.Sha256 rest = refl
name_passed algorithms.Sha384 rest = refl
name_passed algorithms.Sha512 rest = refl

fields_read : (algorithm : Algorithm) (time fudge : ℕ) (mac : List ℕ) (id error : ℕ) (other : List ℕ) → AreFields time fudge mac id error other
    → fields_of (tsig_data (algorithm_name algorithm) time fudge mac id error other) ≡ Some (made algorithm time fudge mac id error other)
fields_read algorithm time fudge mac id error other f =
    let name : List ℕ = algorithm_name algorithm in
    let rest : List ℕ = behind_name time fudge mac id error other in
    let front : length (name ++ rest) - length rest ≡ length name = omega (arith, length-append name rest) in
    ap (option_and_then (λ rest'. algorithm_of (take (length (name ++ rest) - length rest') (name ++ rest)) rest')) (name_passed algorithm rest)
    ∙ ap (λ (n : ℕ). algorithm_of (take n (name ++ rest)) rest) front
    ∙ ap (λ (l : List ℕ). algorithm_of l rest) (take-append_seam name rest)
    ∙ algorithm_read algorithm time fudge mac id error other f

-- the data after its length
data_read : (content : List ℕ) → length content < 2 ^ 16 → data_of (tsig_head ++ (to_be_bytes w16 (length content) ++ content)) ≡ Some content
data_read content h =
    let fields : List ℕ = tsig_head ++ (to_be_bytes w16 (length content) ++ content) in
    let long : nat_lt (length fields) 10 ≡ false = le-ltb (length fields) 10 (omega arith) in
    let len : number_at fields 8 ≡ length content = number_first (length content) content h in
    let whole : (number_at fields 8 == length fields - 10) ≡ true = grind (arith, nat_tests, len) in
    ap (λ (b : Bool). cond (b || not (bytes_eq (take 8 fields) tsig_head)) None (cond (number_at fields 8 == length fields - 10) (Some content) None)) long
    ∙ ap (λ (b : Bool). cond b (Some content) None) whole

name_len : (algorithm : Algorithm) → length (algorithm_name algorithm) ≤ 26
name_len algorithms.Md5 = omega arith
name_len algorithms.Sha1 = omega arith
name_len algorithms.Sha224 = omega arith
name_len algorithms.Sha256 = omega arith
name_len algorithms.Sha384 = omega arith
name_len algorithms.Sha512 = omega arith

content_fits : (algorithm : Algorithm) (time fudge : ℕ) (mac : List ℕ) (id error : ℕ) (other : List ℕ) → AreFields time fudge mac id error other → length (tsig_data (algorithm_name algorithm) time fudge mac id error other) < 2 ^ 16
content_fits algorithm time fudge mac id error other f =
    omega (arith, length-append (algorithm_name algorithm) (behind_name time fudge mac id error other), length-append mac (outcome_data id error other), name_len algorithm, f.mac_fits, f.other_fits)

-- A record's bytes after its owner are read as its fields.
pub tsig_read : (algorithm : Algorithm) (time fudge : ℕ) (mac : List ℕ) (id error : ℕ) (other : List ℕ) → AreFields time fudge mac id error other
    → tsig_of (tsig_head ++ (to_be_bytes w16 (length (tsig_data (algorithm_name algorithm) time fudge mac id error other)) ++ tsig_data (algorithm_name algorithm) time fudge mac id error other)) ≡ Some (made algorithm time fudge mac id error other)
tsig_read algorithm time fudge mac id error other f =
    ap (option_and_then fields_of) (data_read (tsig_data (algorithm_name algorithm) time fudge mac id error other) (content_fits algorithm time fudge mac id error other f))
    ∙ fields_read algorithm time fudge mac id error other f
