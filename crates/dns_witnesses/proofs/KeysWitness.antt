-- A text with two keys, the second behind a comment and with its statements in the other order. It has no other list of keys and no
-- fault. A text whose second key has one statement alone has a fault in its second line, and no list of keys.
use Rattle.std.proofs.Common.{◌≡◌, ◌++◌, ℕ, List, [], ◌∷◌, length, arith, Some, Ok, Err, refl, ap}
use Rattle.std.specs.Prelude.{codes}
use Rattle.base64.specs.Decode.{groups_bytes, groups_error, scan_steps}
use Rattle.dns_wire.specs.codes.Decimal.{decimal_up_to}
use Rattle.dns_names.specs.Parse.{name_of_text}
use Rattle.dns_tsig.specs.declared.hmac.algorithm.Algorithm.TheVariants.{Md5, Sha256}
use Rattle.dns_keys.specs.File.{IsKeyFile, IsRefused, KeyValue, next_in}
use Rattle.dns_keys.specs.File.FaultFrom.{here, later}
use Rattle.dns_keys.specs.File.KeysFrom.{at_end, at_key}
use Rattle.dns_keys.specs.declared.error.KeyFault.TheVariants as faults
use Rattle.dns_keys.specs.declared.error.KeyFileError.{KeyFileError}
use Rattle.dns_keys.specs.declared.error.KeyFileError.TheVariants.{Line}
use Rattle.dns_keys.proofs.FileLaws.{no_fault, one_list}

-- ---- a key file

-- the first line, and what is after its statement
abbrev with_more : List ℕ → List ℕ
with_more more = codes "key \"a.\" { algorithm hmac-sha256; secret \"AQID\"; };" ++ more

abbrev second_line : List ℕ
second_line = codes " # the first\nkey b { secret BQY=; algorithm hmac-md5; };"

abbrev text : List ℕ
text = with_more second_line

abbrev first : KeyValue
first = record { name = 1 ∷ 97 ∷ 0 ∷ []; algorithm = Sha256; secret = 1 ∷ 2 ∷ 3 ∷ []; least_mac = 32 }

abbrev second : KeyValue
second = record { name = 1 ∷ 98 ∷ 0 ∷ []; algorithm = Md5; secret = 5 ∷ 6 ∷ []; least_mac = 16 }

first_next : next_in text text ≡ Ok (Some (record { key = first; rest = second_line }))
unfolding groups_bytes groups_error scan_steps name_of_text decimal_up_to
first_next = refl

second_next : next_in text second_line ≡ Ok (Some (record { key = second; rest = [] }))
unfolding groups_bytes groups_error scan_steps name_of_text decimal_up_to
second_next = refl

pub is_key_file : IsKeyFile text (first ∷ second ∷ [])
is_key_file = at_key first_next (at_key second_next (at_end refl))

-- each list of keys of the text is this one
pub only_keys : (keys : List KeyValue) → IsKeyFile text keys → keys ≡ first ∷ second ∷ []
only_keys keys is = one_list text text keys (first ∷ second ∷ []) is is_key_file

-- the first key alone is none
pub first_is_not_all : IsKeyFile text (first ∷ []) → ⊥
first_is_not_all is = let short : 1 ≡ 2 = ap (λ (l : List KeyValue). length l) (only_keys (first ∷ []) is) in absurd (omega (arith, short))

pub has_no_fault : (error : KeyFileError) → IsRefused text error → ⊥
has_no_fault error refused = no_fault text text (first ∷ second ∷ []) error is_key_file refused

-- ---- a text with a fault

-- the second key has no algorithm
abbrev bad_line : List ℕ
bad_line = codes " # the first\nkey b { secret BQY=; };"

abbrev bad_text : List ℕ
bad_text = with_more bad_line

bad_first : next_in bad_text bad_text ≡ Ok (Some (record { key = first; rest = bad_line }))
unfolding groups_bytes groups_error scan_steps name_of_text decimal_up_to
bad_first = refl

bad_second : next_in bad_text bad_line ≡ Err (Line 2 faults.Statement)
unfolding groups_bytes groups_error scan_steps name_of_text decimal_up_to
bad_second = refl

pub is_refused : IsRefused bad_text (Line 2 faults.Statement)
is_refused = later bad_first (here bad_second)

pub has_no_keys : (keys : List KeyValue) → IsKeyFile bad_text keys → ⊥
has_no_keys keys is = no_fault bad_text bad_text keys (Line 2 faults.Statement) is is_refused
