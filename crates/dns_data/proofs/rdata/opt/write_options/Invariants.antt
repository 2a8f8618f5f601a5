use Rattle.std.proofs.Common.{◌≡◌, ℕ, List, ◌++◌, drop}
use Rattle.std.specs.Prelude.{flat_map}
use Rattle.std.specs.Fmt.{HasWritten, IsPlainFormatter}
use Rattle.dns_data.specs.Field.{option_form}
use Rattle.dns_data.specs.Text.{hex_text}
use Rattle.dns_data.proofs.rdata.opt.write_options.Given as goal

-- the options that are left complete the text
abbrev pub invariant-loop-option : goal.invariant-loop-option
invariant-loop-option g l = IsPlainFormatter l.initial.f
    → (done : List ℕ) × HasWritten g.W.Write.write_str_gives l.initial.f done l.f
    × (done ++ hex_text (flat_map option_form (drop l.option-index l.options)) ≡ hex_text (flat_map option_form l.options))
