use Rattle.std.proofs.Common.{[], ◌∷◌, ◌++◌, ◌/◌, ◌%◌, List, ℕ, get_or, subst, rules}
use Rattle.std.specs.Prelude.{slice_index}
use Rattle.std.specs.Fmt.{HasWritten}
use Rattle.std.proofs.Output.{has_written_append}
use Rattle.hex.specs.Hex.{lower_digits}
use Rattle.dns_formats.proofs.PrintLaws.{hex_further, hex_end}
use Rattle.dns_formats.proofs.print.write_hex.Goals as goal

pub loop-byte-preserved : goal.loop-byte-preserved
loop-byte-preserved g c = λ plain.
    let so_far = c.loop-byte.invariant plain in
    let byte = get_or c.args.bytes.now c.loop-byte.byte-index 0 in (
      so_far.0 ++ slice_index lower_digits (byte / 16) ∷ slice_index lower_digits (byte % 16) ∷ [],
      has_written_append _ _ _ _ _ _ so_far.1 (search rules),
      hex_further c.args.bytes.now c.loop-byte.byte-index so_far.0 _ c.loop-byte-test.true so_far.2,
    )

pub returns : goal.returns
returns g c = λ plain ok.
    let so_far = c.loop-byte.invariant plain in
    subst (λ (l : List ℕ). HasWritten g.W.Write.write_str_gives c.args.f.now l c.loop-byte.f)
    (hex_end c.args.bytes.now c.loop-byte.byte-index so_far.0 _ c.loop-byte-test.false so_far.2) so_far.1
