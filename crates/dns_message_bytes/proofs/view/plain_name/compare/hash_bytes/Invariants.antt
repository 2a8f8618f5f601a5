use Rattle.std.proofs.Common.{◌≡◌, drop}
use Rattle.std.specs.List.{fold, flat_map}
use Rattle.std.specs.Str.{str_to_ascii_lowercase}
use Rattle.std.specs.Hash as fed
use Rattle.dns_message_bytes.proofs.view.plain_name.compare.hash_bytes.Given as goal

-- the rest of the bytes complete them
abbrev pub invariant-loop-byte : goal.invariant-loop-byte
invariant-loop-byte g l =
    fold g.H.Hasher.write l.fn.state (flat_map fed.u8 (str_to_ascii_lowercase l.bytes))
    ≡ fold g.H.Hasher.write l.state (flat_map fed.u8 (drop l.byte-index (str_to_ascii_lowercase l.bytes)))
