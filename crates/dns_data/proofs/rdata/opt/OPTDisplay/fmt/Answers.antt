use Rattle.std.proofs.Common.{◌∙◌, length, rules}
use Rattle.dns_data.proofs.PrintingLaws.{some_of, opt_text}
use Rattle.std.proofs.Output.{has_written_append, has_written_of_eq}
use Rattle.dns_data.proofs.rdata.opt.OPTDisplay.fmt.Goals as goal

pub returns-clause-writes : goal.returns-clause-writes
returns-clause-writes g c = λ plain ok.
    let first = c.in_ok-write.ensures.writes plain (search rules) in
    let more = c.write_options.ensures first.plain ok in
    has_written_of_eq _ _ _ _ _
    (opt_text c.as_slice-options.result.now c.args.self.now c.encoded_len-len.result (c.as_slice-options.ensures.value ∙ c.self.view_is) c.encoded_len-len.ensures (some_of (length c.as_slice-options.result.now) c.if-is_empty.ensures))
    (has_written_append _ _ _ _ _ _ first more)
