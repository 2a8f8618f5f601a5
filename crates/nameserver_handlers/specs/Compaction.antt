-- When the zone file takes the place of a journal.
use Rattle.std.specs.Prelude.{Bool, true, false}
use Rattle.dns_durable.specs.declared.draft.Progress.{Progress}
use Rattle.dns_durable.specs.declared.draft.Progress.TheVariants as progress
use Rattle.dns_durable.specs.declared.error.CompactError.{CompactError}
use Rattle.dns_durable.specs.declared.error.CompactError.TheVariants as refusals

-- whether no text is being written
abbrev pub is_idle : Progress → Bool
is_idle progress.Idle = true
is_idle (progress.Writing draft) = false
is_idle (progress.GivenUp fault) = false

-- whether a refusal comes again: the zones have no text that is read as they are
abbrev pub is_lasting : CompactError → Bool
is_lasting refusals.Zones = true
is_lasting refusals.Text = true
is_lasting (refusals.Journal error) = false
is_lasting refusals.Memory = false
