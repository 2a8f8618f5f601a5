-- What the functions for C return.
use Rattle.std.specs.Prelude.{◌≡◌, ℤ, pos, List, ℕ, Result, Ok, Err}
use Rattle.api.specs.buffer.Buffer.{Delivers}
use Rattle.api.specs.declared.buffer.refusal.Refusal.{Refusal}
use Rattle.api.specs.declared.buffer.refusal.Refusal.TheVariants as refusal
use Rattle.api.specs.declared.lookups.refusal.LookupRefusal.{LookupRefusal}
use Rattle.api.specs.declared.lookups.refusal.LookupRefusal.TheVariants as lookup

-- the number of a refusal
abbrev pub code_of : Refusal → ℤ
code_of refusal.NoReply = pos 1
code_of refusal.TooSmall = pos 2
code_of refusal.Memory = pos 3
code_of refusal.NullHandle = pos 4
code_of refusal.Transport = pos 5
code_of refusal.Limit = pos 6
code_of refusal.Encoding = pos 7
code_of refusal.Name = pos 8
code_of refusal.Zone = pos 9
code_of refusal.Message = pos 10
code_of refusal.TooLong = pos 11
code_of refusal.Update = pos 12
code_of refusal.Item = pos 13
code_of refusal.Data = pos 14

-- a call on a null handle returns its code
abbrev pub IsNullCode : ℤ → Type 0
IsNullCode code = code ≡ code_of refusal.NullHandle

-- What a call on a null handle that makes bytes returns and leaves: the code, and buffer and number as they were.
pub record RefusesNull (code : ℤ) (buffer buffer' : List ℕ) (len len' : ℕ) : Type 0 where
  pub code_is : IsNullCode code
  pub same_buffer : buffer' ≡ buffer
  pub same_len : len' ≡ len

-- the number of an outcome
abbrev pub result_code : Result (Unit {0}) Refusal → ℤ
result_code (Ok done) = pos 0
result_code (Err refused) = code_of refused

-- what a call finds: bytes, or the reason why there are none
abbrev pub Finds : (List ℕ → Type 0) → (Refusal → Type 0) → Result (List ℕ) Refusal → Type 0
Finds IsFound IsRefused (Ok bytes) = IsFound bytes
Finds IsFound IsRefused (Err refusal) = IsRefused refusal

-- What a call that makes bytes returns and leaves: they are found and delivered, and the code is that of the outcome.
pub record Gives (IsFound : List ℕ → Type 0) (IsRefused : Refusal → Type 0) (code : ℤ) (buffer buffer' : List ℕ) (len len' : ℕ) : Type 0 where
  pub found : Result (List ℕ) Refusal
  pub outcome : Result (Unit {0}) Refusal
  pub finds : Finds IsFound IsRefused found
  pub delivered : Delivers found buffer len outcome buffer' len'
  pub code_is : code ≡ result_code outcome

-- the number of the refusal of a call on a resolver
abbrev pub lookup_code : LookupRefusal → ℤ
lookup_code lookup.Memory = pos 3
lookup_code lookup.Name = pos 8
lookup_code lookup.Endpoint = pos 15
lookup_code lookup.NoLookup = pos 16
lookup_code lookup.Waiting = pos 17
lookup_code lookup.Ended = pos 18
lookup_code lookup.NoName = pos 19
lookup_code lookup.NoRecords = pos 20
lookup_code lookup.ServerError = pos 21
lookup_code lookup.NoReply = pos 22
lookup_code lookup.NoId = pos 23
lookup_code lookup.Unsupported = pos 24
lookup_code lookup.NoNumber = pos 25

-- the number of the outcome of a call on a resolver
abbrev pub done_code : Result (Unit {0}) LookupRefusal → ℤ
done_code (Ok done) = pos 0
done_code (Err refused) = lookup_code refused
