-- What the values of arguments say, and why they say nothing.
use Rattle.std.specs.Prelude.{◌≡◌, ◌+◌, ◌*◌, ◌<◌, ◌⊎◌, ◌==◌, nat_lt, if◌then◌else◌, codes, true, Bool, ℕ, List, Option, Some, None, Ok, Err, is_some, option_and_then, option_map, length}
use Rattle.std.specs.List.{after_first, before_first, position}
use Rattle.std.specs.Net.Grammar.{IsIpText, IsSocketText}
use Rattle.std.specs.Net.Socket.{IsPlainSocket, socket_ip, socket_port}
use Rattle.std.specs.Str.{bytes_eq}
use Rattle.std.specs.declared.net.ip_addr.IpAddr.{IpAddr}
use Rattle.std.specs.declared.net.socket_addr.SocketAddr.{SocketAddr}
use Rattle.dns_names.specs.Name.{DomainName}
use Rattle.dns_names.specs.Parse.{name_of_text}
use Rattle.dns_names.specs.declared.error.ParseError.{ParseError}
use Rattle.dns_wire.specs.codes.Decimal.{at_most, decimal_up_to}
use Rattle.stub_config.specs.declared.strategy.LookupIpStrategy.{LookupIpStrategy}
use Rattle.stub_config.specs.declared.strategy.LookupIpStrategy.TheVariants.{Ipv4Only, Ipv6Only, Ipv6AndIpv4, Ipv4thenIpv6, Ipv6thenIpv4}
use Rattle.lookup_cli.specs.Dig.{dig_word}
use Rattle.lookup_cli.specs.declared.dig.DigWord.{DigWord}
use Rattle.lookup_cli.specs.declared.dig.DigWord.TheVariants.{NameServer, RecordType}
use Rattle.lookup_cli.specs.Ending.{IsOfInvalidValue}
use Rattle.lookup_cli.specs.declared.ending.Ending.{Ending}
use Rattle.lookup_cli.specs.declared.ending.Ending.TheVariants.{Memory}

-- ---- names

-- a text spells a name (RFC 1035 section 5.1), which is made fully qualified
abbrev pub SpellsName : List ℕ → DomainName → Type 0
SpellsName text name = (given : DomainName) × (name_of_text text ≡ Ok given) × (name ≡ record given { is_fqdn = true })

-- a text spells no name
abbrev pub IsNoName : List ℕ → Type 0
IsNoName text = (error : ParseError) × (name_of_text text ≡ Err error)

abbrev pub no_name : List ℕ
no_name = codes "it is not a domain name"

-- the value of an argument is refused because it is no name, or there is no memory for the name
abbrev pub IsNameRefusal : (argument text : List ℕ) → Ending → Type 0
IsNameRefusal argument text ending = (ending ≡ Memory) ⊎ (IsNoName text × IsOfInvalidValue argument text no_name ending)

-- ---- what is looked up

-- what to write in place of a word that is written as for `dig`
abbrev pub advice_on : DigWord → List ℕ
advice_on NameServer = codes "write a server as --server ADDRESS"
advice_on RecordType = codes "write a type as -t TYPE, and a host of this name with a dot at its end"

-- a text is a name or an IP address
abbrev pub IsNameOrIp : List ℕ → Type 0
IsNameOrIp text = ((name : DomainName) × (name_of_text text ≡ Ok name)) ⊎ ((ip : IpAddr) × IsIpText text ip)

-- a text, alone or beside others, can be looked up: `dig` does not take it for something else, and it is a name or an IP address
pub record IsLookedUp (is_alone : Bool) (text : List ℕ) : Type 0 where
  pub is_no_word : dig_word text is_alone ≡ None
  pub is_text : IsNameOrIp text

-- why it cannot
pub data IsNotLookedUp (is_alone : Bool) (text : List ℕ) : (reason : List ℕ) → Type 0 where
  is_word : (word : DigWord) → dig_word text is_alone ≡ Some word → IsNotLookedUp is_alone text (advice_on word)
  is_no_name : dig_word text is_alone ≡ None → IsNoName text → ((ip : IpAddr) → ¬ (IsIpText text ip)) → IsNotLookedUp is_alone text no_name

-- a text is refused because it is neither, or there is no memory for it
abbrev pub IsTextRefusal : List ℕ → Ending → Type 0
IsTextRefusal text ending =
    (ending ≡ Memory) ⊎ (IsNoName text × ((ip : IpAddr) → ¬ (IsIpText text ip)) × IsOfInvalidValue (codes "NAME") text no_name ending)

-- a name is refused for a reason, or there is no memory for it
abbrev pub IsNotLookedUpRefusal : Bool → List ℕ → Ending → Type 0
IsNotLookedUpRefusal is_alone text ending =
    (ending ≡ Memory) ⊎ ((reason : List ℕ) × IsNotLookedUp is_alone text reason × IsOfInvalidValue (codes "NAME") text reason ending)

-- ---- types

abbrev pub no_type : List ℕ
no_type = codes "it is not a type"

-- ---- servers

-- an address with a port, which is not 0, or an IP address, whose port is 53 (RFC 1035 section 4.2)
abbrev pub IsServer : List ℕ → SocketAddr → Type 0
IsServer text address =
    (IsSocketText text address × (0 < socket_port address)) ⊎ (IsIpText text (socket_ip address) × IsPlainSocket address 53)

-- neither: an address with a port has port 0
pub record IsNoServer (text : List ℕ) : Type 0 where
  pub no_socket : ((address : SocketAddr) → ¬ (IsSocketText text address))
      ⊎ ((address : SocketAddr) × IsSocketText text address × (socket_port address ≡ 0))
  pub no_ip : (ip : IpAddr) → ¬ (IsIpText text ip)

abbrev pub no_server : List ℕ
no_server = codes "it is not an address, such as 192.0.2.1, 192.0.2.1:53, 2001:db8::1 or [2001:db8::1]:53, or its port is 0"

-- ---- strategies

-- the types of addresses that a text names
abbrev pub strategy_of : List ℕ → Option LookupIpStrategy
strategy_of text =
    if bytes_eq text (codes "ipv4") then Some Ipv4Only
    else if bytes_eq text (codes "ipv6") then Some Ipv6Only
    else if bytes_eq text (codes "both") then Some Ipv6AndIpv4
    else if bytes_eq text (codes "ipv4-then-ipv6") then Some Ipv4thenIpv6
    else if bytes_eq text (codes "ipv6-then-ipv4") then Some Ipv6thenIpv4
    else None

abbrev pub no_strategy : List ℕ
no_strategy = codes "it is none of ipv4, ipv6, both, ipv4-then-ipv6 and ipv6-then-ipv4"

-- ---- times

abbrev pub is_dot : ℕ → Bool
is_dot c = c == 46

-- the decimals after the dot of a text, or `0` if it has no dot
abbrev pub decimals_of : List ℕ → List ℕ
decimals_of text = if is_some (position is_dot text) then after_first is_dot text else codes "0"

-- the thousandths that one, two or three decimals are
abbrev pub thousandths_of : List ℕ → Option ℕ
thousandths_of decimals =
    if length decimals == 1 then option_map (λ n. n * 100) (decimal_up_to 999 decimals)
    else if length decimals == 2 then option_map (λ n. n * 10) (decimal_up_to 999 decimals)
    else if length decimals == 3 then decimal_up_to 999 decimals
    else None

-- the milliseconds of a number of seconds with at most three decimals, at most an hour
abbrev pub milliseconds_of : List ℕ → Option ℕ
milliseconds_of text = option_and_then (λ seconds. option_and_then (λ thousandths.
    at_most 3600000 (Some (seconds * 1000 + thousandths))) (thousandths_of (decimals_of text)))
    (decimal_up_to 3600 (before_first is_dot text))

-- a number above 0
abbrev pub positive : Option ℕ → Option ℕ
positive None = None
positive (Some n) = if nat_lt 0 n then Some n else None

-- a time-out, in milliseconds
abbrev pub timeout_of : List ℕ → Option ℕ
timeout_of text = positive (milliseconds_of text)

abbrev pub no_timeout : List ℕ
no_timeout = codes "it is not a number of seconds from 0.001 to 3600, such as 2 or 0.5"
