-- Messages that can be signed, and keys that can sign them.
use Rattle.std.specs.Prelude.{◌≡◌, ◌≢◌, ◌+◌, ◌<◌, ◌≤◌, ℕ, List, [], length, drop, Some}
use Rattle.std.specs.List.{All}
use Rattle.dns_tsig.specs.hmac.Algorithm.{code_len}
use Rattle.dns_wire.specs.Name.{AreLabels}
use Rattle.dns_tsig.specs.Numbers.{number_at}
use Rattle.dns_tsig.specs.Skip.{after_questions, after_records}
use Rattle.dns_tsig.specs.WireName.{canonical_name}
use Rattle.dns_tsig.specs.declared.key.Key.{Key}

-- A message has a header, and the questions and records that this counts up to its end, of which none is a TSIG record (RFC 1035 section
-- 4.1). There is room for one more record.
pub record IsWholeUnsigned (message : List ℕ) : Type 0 where
  pub bytes : All (λ byte. byte < 256) message
  pub header : 12 ≤ length message
  pub records : List ℕ
  pub questions : after_questions (number_at message 4) (drop 12 message) ≡ Some records
  pub end : after_records (number_at message 6 + number_at message 8 + number_at message 10) records ≡ Some []
  pub room : number_at message 10 < 65535

-- A key has a name in canonical form, and allows codes that are not truncated.
pub record IsUsable (key : Key) : Type 0 where
  pub labels : List (List ℕ)
  pub are_labels : AreLabels labels
  pub name_is : key.name.items ≡ canonical_name labels
  pub allows : key.least_mac ≤ code_len key.algorithm

-- keys of which none has a name
abbrev pub HaveOtherNames : List Key → List ℕ → Type 0
HaveOtherNames keys name = All (λ key. key.name.items ≢ name) keys
