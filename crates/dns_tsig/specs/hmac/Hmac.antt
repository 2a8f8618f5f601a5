-- HMAC (RFC 2104 section 2).
use Rattle.std.specs.Prelude.{◌≡◌, ℕ, ◌-◌, ◌++◌, nat_le, if◌then◌else◌, List, length, map, bit_xor, replicate}
use Rattle.dns_tsig.specs.declared.hmac.algorithm.Algorithm.{Algorithm}
use Rattle.dns_tsig.specs.hmac.Algorithm.{hash, block_len}
use Rattle.dns_tsig.specs.hmac.Hasher.{Holds, algorithm_of}
use Rattle.dns_tsig.specs.declared.hmac.hmac.Hmac.{Hmac}

-- a key that is longer than a block is hashed
abbrev pub short_key : Algorithm → List ℕ → List ℕ
short_key algorithm key = if nat_le (length key) (block_len algorithm) then key else hash algorithm key

-- zeros follow the key up to the length of a block
abbrev pub key_block : Algorithm → List ℕ → List ℕ
key_block algorithm key =
    short_key algorithm key ++ replicate (block_len algorithm - length (short_key algorithm key)) 0

-- each byte XORed with a mask
abbrev pub masked : ℕ → List ℕ → List ℕ
masked mask bytes = map (λ byte. bit_xor byte mask) bytes

-- H(K XOR opad, H(K XOR ipad, text)), where ipad is 0x36 and opad is 0x5C in each byte
abbrev pub hmac : Algorithm → List ℕ → List ℕ → List ℕ
hmac algorithm key text =
    hash algorithm (masked 0x5C (key_block algorithm key)
    ++ hash algorithm (masked 0x36 (key_block algorithm key) ++ text))

-- a state with a key has taken a message
pub record Keyed (state : Hmac) (algorithm : Algorithm) (key message : List ℕ) : Type 0 where
  pub inner_of : algorithm_of state.inner ≡ algorithm
  pub outer_of : algorithm_of state.outer ≡ algorithm
  pub inner : Holds state.inner (masked 0x36 (key_block algorithm key) ++ message)
  pub outer : Holds state.outer (masked 0x5C (key_block algorithm key))
