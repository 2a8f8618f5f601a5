-- The fields of a TSIG record, from its bytes (RFC 8945 section 4.2).
use Rattle.std.specs.Prelude.{ℕ, ◌+◌, ◌-◌, ◌==◌, ◌||◌, not, nat_lt, if◌then◌else◌, List, [], ◌∷◌, length, take, drop, Option, Some, None, option_and_then}
use Rattle.std.specs.Str.{bytes_eq}
use Rattle.dns_tsig.specs.Numbers.{number_at, time_at}
use Rattle.dns_tsig.specs.Skip.{after_plain_name}
use Rattle.dns_tsig.specs.TsigFields.{TsigFields}

-- the type TSIG, the class ANY, and a TTL of 0
abbrev pub tsig_head : List ℕ
tsig_head = 0 ∷ 250 ∷ 0 ∷ 255 ∷ 0 ∷ 0 ∷ 0 ∷ 0 ∷ []

-- The data of a TSIG record that ends a message, from the bytes after its owner. Its length comes before it.
abbrev pub data_of : List ℕ → Option (List ℕ)
data_of fields =
    if nat_lt (length fields) 10 || not (bytes_eq (take 8 fields) tsig_head) then None
    else if number_at fields 8 == length fields - 10 then Some (drop 10 fields) else None

-- the fields of a record whose last ones are the original id, the error, and the other data after its length
abbrev pub other_of : List ℕ → ℕ → ℕ → List ℕ → List ℕ → Option TsigFields
other_of algorithm time fudge mac tail =
    if number_at tail 4 == length (drop 6 tail) then Some (record {
      algorithm = algorithm;
      time = time;
      fudge = fudge;
      mac = mac;
      original_id = number_at tail 0;
      error = number_at tail 2;
      other = drop 6 tail;
    })
    else None

-- the fields of a record, from its MAC of this length on
abbrev pub mac_of : List ℕ → ℕ → ℕ → ℕ → List ℕ → Option TsigFields
mac_of algorithm time fudge len behind =
    if nat_lt (length behind) (len + 6) then None
    else other_of algorithm time fudge (take len behind) (drop len behind)

-- the fields of a record, from the time, the fudge and the length of the MAC on
abbrev pub algorithm_of : List ℕ → List ℕ → Option TsigFields
algorithm_of algorithm rest =
    if nat_lt (length rest) 10 || nat_lt 255 (length algorithm) then None
    else mac_of algorithm (time_at rest) (number_at rest 6) (number_at rest 8) (drop 10 rest)

-- the fields of a record from its data, which begins with the name of an algorithm, which is not compressed
abbrev pub fields_of : List ℕ → Option TsigFields
fields_of content = option_and_then (λ rest. algorithm_of (take (length content - length rest) content) rest) (after_plain_name content)

-- the fields of a record, from the bytes after its owner
abbrev pub tsig_of : List ℕ → Option TsigFields
tsig_of fields = option_and_then fields_of (data_of fields)
