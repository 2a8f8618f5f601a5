-- The OPT record of a message (RFC 6891 section 6.1).
use Rattle.std.specs.Prelude.{◌==◌, ◌+◌, ◌*◌, ◌/◌, ◌%◌, ◌^◌, ◌<◌, ◌≤◌, Bool, true, false, List, [], ℕ}
use Rattle.dns_wire.specs.declared.codes.dns_class.DNSClass.TheVariants as classes
use Rattle.dns_wire.specs.codes.DNSClass.{class_number}
use Rattle.dns_wire.specs.Encodable.{Piece, Position}
use Rattle.dns_names.specs.Name.{DomainName}
use Rattle.dns_data.specs.Field.{OptionValue}
use Rattle.dns_data.specs.declared.rdata.RData.{RData}
use Rattle.dns_data.specs.declared.rdata.RData.TheVariants as of
use Rattle.dns_data.specs.rdata.{IsSoundData}
use Rattle.dns_records.specs.Record.{Record, record_pieces}
use Rattle.dns_messages.specs.Header.{bit, has_bit}
use Rattle.dns_messages.specs.declared.edns.EdnsFlags.{EdnsFlags}
use Rattle.dns_messages.specs.declared.edns.Edns.{Edns}

-- the 16 flags: DO (RFC 3225 section 3), and 15 that are reserved
abbrev pub flags_number : EdnsFlags → ℕ
flags_number f = 32768 * bit f.dnssec_ok + f.z % 32768

-- the flags that 16 bits decode to
abbrev pub flags_of : ℕ → EdnsFlags
flags_of number = record { dnssec_ok = has_bit 32768 number; z = number % 32768 }

-- the TTL of an OPT record: eight bits of the extended response code, the version, and the flags (RFC 6891 section 6.1.3)
abbrev pub edns_ttl : Edns → ℕ
edns_ttl e = 16777216 * e.rcode_high + (65536 * e.version + flags_number e.flags)

-- the name of the root, which owns every OPT record (RFC 6891 section 6.1.2)
abbrev pub root_name : DomainName
root_name = record { is_fqdn = true; labels = [] }

-- the OPT record: its class is the payload size
abbrev pub opt_record : Edns → Record
opt_record e = record {
  name = root_name;
  dns_class = classes.OPT e.max_payload;
  ttl = edns_ttl e;
  rdata = of.OPT e.options;
}

-- whether data is that of an OPT record
abbrev pub is_opt_data : RData → Bool
is_opt_data (of.OPT options) = true
is_opt_data other = false

-- the options of an OPT record; other data has none
abbrev pub options_of : RData → List OptionValue
options_of (of.OPT options) = options
options_of other = []

-- what an OPT record says
abbrev pub edns_of : Record → Edns
edns_of r = record {
  rcode_high = r.ttl / 16777216;
  version = (r.ttl / 65536) % 256;
  flags = flags_of (r.ttl % 65536);
  max_payload = class_number r.dns_class;
  options = options_of r.rdata;
}

-- the pieces of an OPT record that is written at a position
abbrev pub edns_pieces : Position → Edns → List Piece
edns_pieces s e = record_pieces s (opt_record e)

-- What can be written and read as itself: each number fits its bits, and the payload size is at least 512 (RFC 6891 section
-- 6.2.3).
pub record IsSoundEdns (e : Edns) : Type 0 where
  pub rcode_fits : e.rcode_high < 2 ^ 8
  pub version_fits : e.version < 2 ^ 8
  pub z_fits : e.flags.z < 2 ^ 15
  pub payload_least : 512 ≤ e.max_payload
  pub payload_fits : e.max_payload < 2 ^ 16
  pub options : IsSoundData (of.OPT e.options)

-- whether an option has a code (RFC 6891 section 6.1.2)
abbrev pub has_code : ℕ → OptionValue → Bool
has_code code option = option.code == code
