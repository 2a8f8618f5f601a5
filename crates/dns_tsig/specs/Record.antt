-- TSIG records that are appended to messages (RFC 8945 sections 4.2 and 5.1).
use Rattle.std.specs.Prelude.{ℕ, ◌+◌, ◌/◌, ◌%◌, ◌++◌, List, length, slice_set}
use Rattle.std.specs.Int.{w16, to_be_bytes}
use Rattle.dns_tsig.specs.Covered.{outcome, timers}
use Rattle.dns_tsig.specs.Numbers.{number_at}
use Rattle.dns_tsig.specs.Tsig.{tsig_head}

-- the original id, the error, and the other data after its length
abbrev pub outcome_data : ℕ → ℕ → List ℕ → List ℕ
outcome_data id error other = to_be_bytes w16 id ++ outcome error other

-- the data of a record: the algorithm, the time and the fudge, the MAC after its length, and the outcome
abbrev pub tsig_data : List ℕ → ℕ → ℕ → List ℕ → ℕ → ℕ → List ℕ → List ℕ
tsig_data algorithm time fudge mac id error other =
    algorithm ++ (timers time fudge ++ (to_be_bytes w16 (length mac) ++ (mac ++ outcome_data id error other)))

-- a record: the owner, the type, the class and the TTL, and the data after its length
abbrev pub tsig_record : List ℕ → List ℕ → List ℕ
tsig_record name content = name ++ (tsig_head ++ (to_be_bytes w16 (length content) ++ content))

-- a message with a record at its end, which ARCOUNT counts
abbrev pub with_record : List ℕ → List ℕ → List ℕ
with_record message added =
    let count = number_at message 10 + 1 in slice_set (slice_set (message ++ added) 10 (count / 256)) 11 (count % 256)
