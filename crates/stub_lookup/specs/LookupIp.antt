-- The addresses that a lookup found (RFC 1035 section 3.4.1, RFC 3596 section 2.2).
use Rattle.std.specs.Prelude.{List, [], ◌∷◌, Option, Some, None}
use Rattle.std.specs.declared.net.ip_addr.IpAddr.{IpAddr}
use Rattle.dns_data.specs.rdata.{data_addr}
use Rattle.dns_records.specs.Record.{Record}

-- an address, if there is one, in front of others
abbrev pub before_addresses : Option IpAddr → List IpAddr → List IpAddr
before_addresses None addresses = addresses
before_addresses (Some address) addresses = address ∷ addresses

-- the addresses of A and AAAA records, in order
abbrev pub addresses_in : List Record → List IpAddr
addresses_in [] = []
addresses_in (r ∷ rs) = before_addresses (data_addr r.rdata) (addresses_in rs)
