use Rattle.std.proofs.Common.{◌∙◌, ap}
use Rattle.dns_data.specs.Field.{OptionValue, values_len}
use Rattle.std.specs.Prelude.{List}
use Rattle.dns_data.specs.rdata.OPT.{opt_kinds, opt_values}
use Rattle.dns_data.proofs.LengthLaws.{options_len}
use Rattle.dns_data.proofs.rdata.opt.OPT.encoded_len.Goals as goal

pub returns : goal.returns
returns c =
    c.encoded_len.ensures ∙ options_len c.options.result.now
    ∙ ap (λ (os : List OptionValue). values_len opt_kinds (opt_values os)) c.options.ensures
