-- What contracts see of a `BinDecoder`.
use Rattle.std.specs.Prelude.{◌≡◌, ℕ, ◌+◌, List, drop}

-- the whole buffer, and the index of the next byte
pub record Decoder : Type 0 where
  pub bytes : List ℕ
  pub index : ℕ

-- the bytes that are unread
abbrev pub rest : Decoder → List ℕ
rest d = drop d.index d.bytes

-- the decoder moved forward by n bytes
abbrev pub Advances : Decoder → Decoder → ℕ → Type 0
Advances old new n = new ≡ record old { index = old.index + n }
