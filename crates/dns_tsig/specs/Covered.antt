-- What a message authentication code covers (RFC 8945 sections 4.3 and 5.3.1).
use Rattle.std.specs.Prelude.{ℕ, ◌-◌, ◌++◌, List, [], ◌∷◌, length, drop, slice_range}
use Rattle.std.specs.Int.{w16, w64, to_be_bytes}
use Rattle.dns_tsig.specs.declared.hmac.algorithm.Algorithm.{Algorithm}
use Rattle.dns_tsig.specs.declared.hmac.hmac.Hmac.{Hmac}
use Rattle.dns_tsig.specs.hmac.Hmac.{Keyed}
use Rattle.dns_tsig.specs.Key.{algorithm_name}
use Rattle.dns_tsig.specs.Numbers.{number_at}
use Rattle.dns_tsig.specs.declared.key.Key.{Key}
use Rattle.dns_tsig.specs.declared.covered.Coverage.{Coverage}
use Rattle.dns_tsig.specs.declared.covered.Coverage.TheVariants.{Variables, Timers}

-- a state has taken further bytes
abbrev pub Adds : Hmac → Hmac → List ℕ → Type 0
Adds old new bytes =
    (algorithm : Algorithm) (secret text : List ℕ) → Keyed old algorithm secret text → Keyed new algorithm secret (text ++ bytes)

-- The code of the request, or of the former reply on a stream, after its length. Nothing is before a request (section 4.3.1).
abbrev pub prior_bytes : List ℕ → List ℕ
prior_bytes [] = []
prior_bytes (byte ∷ bytes) = to_be_bytes w16 (length (byte ∷ bytes)) ++ byte ∷ bytes

-- A message whose TSIG record is at a place, as it was before the record was appended: with its original id, one less in
-- ARCOUNT, and without the record (section 4.3.2).
abbrev pub unsigned_message : List ℕ → ℕ → ℕ → List ℕ
unsigned_message message place id =
    to_be_bytes w16 id ++ (slice_range message 2 10
    ++ (to_be_bytes w16 (number_at message 10 - 1) ++ slice_range message 12 place))

-- the 48 bits of the time, and the fudge (section 5.3.1)
abbrev pub timers : ℕ → ℕ → List ℕ
timers time fudge = drop 2 (to_be_bytes w64 time) ++ to_be_bytes w16 fudge

-- the error, and the other data after its length
abbrev pub outcome : ℕ → List ℕ → List ℕ
outcome error other = to_be_bytes w16 error ++ (to_be_bytes w16 (length other) ++ other)

-- the class ANY and the TTL 0
abbrev pub class_and_ttl : List ℕ
class_and_ttl = 0 ∷ 255 ∷ 0 ∷ 0 ∷ 0 ∷ 0 ∷ []

-- the fields of a TSIG record, with names in canonical form (section 4.3.3)
abbrev pub variables : Key → ℕ → ℕ → ℕ → List ℕ → List ℕ
variables key time fudge error other =
    key.name.items ++ (class_and_ttl ++ (algorithm_name key.algorithm ++ (timers time fudge ++ outcome error other)))

-- what is covered of a TSIG record
abbrev pub covered : Coverage → Key → ℕ → ℕ → ℕ → List ℕ → List ℕ
covered Variables key time fudge error other = variables key time fudge error other
covered Timers key time fudge error other = timers time fudge
