use Rattle.std.proofs.Common.{[], ◌∷◌, ◌++◌, ◌/◌, ◌%◌, get_or, rules}
use Rattle.std.specs.Char.{digit_char}
use Rattle.std.proofs.Output.{has_written_append}
use Rattle.dns_data.proofs.PrintingLaws.{bytes_further}
use Rattle.dns_data.proofs.generic.write_hex.Goals as goal

pub loop-byte-preserved : goal.loop-byte-preserved
loop-byte-preserved g c = λ plain.
    let so_far = c.loop-byte.invariant plain in
    let byte = get_or c.args.bytes.now c.loop-byte.byte-index 0 in (
      so_far.0 ++ digit_char (byte / 16) ∷ digit_char (byte % 16) ∷ [],
      has_written_append _ _ _ _ _ _ so_far.1 (search rules),
      bytes_further c.args.bytes.now c.loop-byte.byte-index so_far.0 _ c.loop-byte-test.true so_far.2,
    )
