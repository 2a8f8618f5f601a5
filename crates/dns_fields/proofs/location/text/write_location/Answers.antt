use Rattle.std.proofs.Common.{List, ℕ, subst, rules}
use Rattle.std.specs.Fmt.{HasWritten}
use Rattle.std.proofs.Output.{has_written_append}
use Rattle.dns_fields.proofs.WriteLaws.{location_parts}
use Rattle.dns_fields.proofs.location.text.write_location.Goals as goal

pub returns : goal.returns
returns g c = λ plain ok.
    let first = c.write_angles.ensures plain (search rules) in
    subst (λ (l : List ℕ). HasWritten g.W.Write.write_str_gives c.args.f.now l c.write_lengths.new.f)
    (location_parts c.number_at.result c.number_at-2.result c.args.bytes.now c.number_at.ensures.value c.number_at-2.ensures.value)
    (has_written_append _ _ _ _ _ _ first (c.write_lengths.ensures first.plain ok))
