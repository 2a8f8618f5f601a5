use Rattle.std.proofs.Common.{List, ℕ, ◌<◌, ◌≤◌, [], ◌∷◌, ◌++◌, length, subst, arith, rules}
use Rattle.std.specs.Fmt.{HasWritten}
use Rattle.std.proofs.Output.{has_written_append}
use Rattle.dns_fields.specs.bitmaps.Base32.{digit, quintet, digits_in}
use Rattle.dns_fields.proofs.Base32Laws.{digit_written, digits_end}
use Rattle.dns_fields.proofs.bitmaps.base32.write_group.Goals as goal

pub loop-index-preserved : goal.loop-index-preserved
loop-index-preserved g c = λ plain.
    let so_far = c.loop-index.invariant plain in
    let bytes = c.args.bytes.now in
    let index = c.loop-index.index in
    let is = c.digits_in-count.ensures.value in
    let here : index < digits_in (length bytes) = omega (arith, is) in (
      so_far.0 ++ digit (quintet bytes index) ∷ [],
      has_written_append _ _ _ _ _ _ so_far.1 (search rules),
      digit_written bytes index (digits_in (length bytes)) so_far.0 _ here so_far.2,
    )

pub returns : goal.returns
returns g c = λ plain ok.
    let so_far = c.loop-index.invariant plain in
    let bytes = c.args.bytes.now in
    let index = c.loop-index.index in
    let is = c.digits_in-count.ensures.value in
    let past : digits_in (length bytes) ≤ index = omega (arith, is) in
    subst (λ (l : List ℕ). HasWritten g.W.Write.write_str_gives c.args.f.now l c.loop-index.f)
    (digits_end bytes index (digits_in (length bytes)) so_far.0 _ past so_far.2) so_far.1
