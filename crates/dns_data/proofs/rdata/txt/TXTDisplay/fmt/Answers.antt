use Rattle.std.proofs.Common.{◌∙◌, length, rules}
use Rattle.std.proofs.Output.{has_written_append, has_written_of_eq}
use Rattle.dns_data.proofs.PrintingLaws.{some_of, txt_text}
use Rattle.dns_data.proofs.rdata.txt.TXTDisplay.fmt.Goals as goal

pub returns-clause-writes : goal.returns-clause-writes
returns-clause-writes g c = λ plain ok.
    let first = c.in_ok-write.ensures.writes plain (search rules) in
    let more = c.write_more_strings.ensures first.plain ok in
    has_written_of_eq _ _ _ _ _
    (txt_text c.as_slice-strings.result.now c.args.self.now c.as_slice.result.now c.index-strings-0.result (c.as_slice-strings.ensures.value ∙ c.self.view_is) c.as_slice.ensures.value c.index-strings-0.is (some_of (length c.as_slice-strings.result.now) c.if-is_empty.ensures))
    (has_written_append _ _ _ _ _ _ first more)
