-- Borrowed parts of values: what the owner is after the borrow.
use Rattle.std.specs.Borrow.{Lends, MutBor, Fml}
use Rattle.std.specs.Prelude.{List}
use Rattle.dns_data.specs.Field.{OptionValue}
use Rattle.dns_data.specs.contracts.rdata.opt.OPT as opt
use Rattle.dns_messages.specs.declared.edns.Edns.{Edns}
use Rattle.dns_messages.specs.declared.edns.EdnsFlags.{EdnsFlags}
use Rattle.dns_messages.specs.declared.message.Message.{Message}
use Rattle.dns_messages.specs.declared.response.DnsResponse.{DnsResponse}
use Rattle.dns_messages.specs.contracts.edns.Edns as edns
use Rattle.dns_messages.specs.contracts.message.Message as messages
use Rattle.dns_messages.specs.contracts.response.DnsResponse as responses
use Rattle.dns_messages.specs.contracts.edns.EdnsFlags as edns_flags

-- an OPT record with other flags
abbrev pub with_flags : Edns → EdnsFlags → Edns
with_flags e flags = record e { flags = flags }

-- the flags are borrowed from an OPT record, which afterwards has what was written to them
abbrev pub LendsFlags : MutBor Edns → MutBor EdnsFlags → Fml
LendsFlags e flags = Lends edns.the_row edns_flags.the_row e flags (with_flags e.now)

-- an OPT record with other options
abbrev pub with_options : Edns → List OptionValue → Edns
with_options e options = record e { options = options }

-- the options are borrowed from an OPT record, which afterwards has what was written to them
abbrev pub LendsOptions : MutBor Edns → MutBor (List OptionValue) → Fml
LendsOptions e options = Lends edns.the_row opt.the_row e options (with_options e.now)

-- a response with another message, and the same bytes
abbrev pub with_message : DnsResponse → Message → DnsResponse
with_message r message = record r { message = message }

-- the message is borrowed from a response, which afterwards has what was written to it
abbrev pub LendsMessage : MutBor DnsResponse → MutBor Message → Fml
LendsMessage r message = Lends responses.the_row messages.the_row r message (with_message r.now)
