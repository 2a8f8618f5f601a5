-- What lookups led to, and the exit status.
use Rattle.std.specs.Prelude as texts
use Rattle.std.specs.Prelude.{◌==◌, if◌then◌else◌, length, ℕ, List, Result, Ok, Err}
use Rattle.dns_messages.specs.declared.response_code.ResponseCode.{ResponseCode}
use Rattle.dns_messages.specs.declared.response_code.ResponseCode.TheVariants as codes
use Rattle.stub_lookup.specs.Lookup.{LookupContent}
use Rattle.stub_lookup.specs.declared.error.DnsError.TheVariants.{NoRecordsFound}
use Rattle.stub_lookup.specs.declared.error.NetError.{NetError}
use Rattle.stub_lookup.specs.declared.error.NetError.TheVariants.{Dns}
use Rattle.stub_net.specs.declared.signed.error.UpdateError.{UpdateError}
use Rattle.lookup_cli.specs.declared.answers.status.Status.{Status}
use Rattle.lookup_cli.specs.declared.answers.status.Status.TheVariants.{Found, Nothing, Failed}

-- what a lookup with so many answers led to
abbrev pub status_of_count : ℕ → Status
status_of_count count = if count == 0 then Nothing else Found

-- what a lookup led to
abbrev pub status_of : Result LookupContent NetError → Status
status_of (Ok lookup) = status_of_count (length lookup.message.answers)
status_of (Err (Dns (NoRecordsFound none))) = Nothing
status_of (Err error) = Failed

-- what an update led to
abbrev pub status_of_update : Result ResponseCode UpdateError → Status
status_of_update (Ok codes.NoError) = Found
status_of_update (Ok code) = Nothing
status_of_update (Err error) = Failed

-- the exit status of a program with one lookup
abbrev pub exit_code : Status → ℕ
exit_code Found = 0
exit_code Nothing = 1
exit_code Failed = 3

-- the word for what a lookup led to
abbrev pub status_word : Status → List ℕ
status_word Found = texts.codes "found"
status_word Nothing = texts.codes "nothing"
status_word Failed = texts.codes "failed"
