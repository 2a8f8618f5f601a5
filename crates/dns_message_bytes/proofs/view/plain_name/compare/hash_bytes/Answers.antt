use Rattle.std.proofs.Common.{◌∙◌, ◌+◌, ℕ, ap, sym, drop, arith}
use Rattle.std.specs.List.{fold, flat_map}
use Rattle.std.specs.Str.{str_to_ascii_lowercase}
use Rattle.std.specs.Hash as fed
use Rattle.dns_names.proofs.HashLaws.{byte_more}
use Rattle.dns_message_bytes.proofs.view.plain_name.compare.hash_bytes.Goals as goal

pub loop-byte-preserved : goal.loop-byte-preserved
loop-byte-preserved g c =
    c.loop-byte.invariant
    ∙ byte_more g.H.Hasher.write c.loop-byte.state c.args.bytes.now c.loop-byte.byte-index (omega arith)
    ∙ ap (λ (s : _). fold g.H.Hasher.write s (flat_map fed.u8 (drop (c.loop-byte.byte-index + 1) (str_to_ascii_lowercase c.args.bytes.now))))
    (ap (λ (n : ℕ). fold g.H.Hasher.write c.loop-byte.state (fed.u8 n)) (sym c.to_ascii_lowercase.ensures.value) ∙ sym c.write_u8.ensures)
