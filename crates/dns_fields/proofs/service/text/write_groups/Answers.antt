use Rattle.std.proofs.Common.{List, ℕ, subst, rules}
use Rattle.std.specs.Fmt.{HasWritten}
use Rattle.std.proofs.Output.{has_written_append}
use Rattle.dns_fields.specs.service.Text.{word_text, more_groups}
use Rattle.dns_fields.proofs.service.text.write_groups.Goals as goal

pub returns : goal.returns
returns g c = λ plain ok.
    let first = c.write_group.ensures plain (search rules) in
    has_written_append _ _ _ _ _ _ first
    (subst (λ (l : List ℕ). HasWritten g.W.Write.write_str_gives c.write_group.new.f (word_text (more_groups 7 l)) c.write_more.new.f) c.skip.ensures (c.write_more.ensures first.plain ok))
