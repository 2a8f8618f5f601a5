-- The addresses that the options of the program state.
use Rattle.std.specs.Prelude.{◌≡◌, ◌⊎◌, ◌++◌, if◌then◌else◌, [], ◌∷◌, List, ℕ, Bool, true, false, Ok, Err, Any, codes}
use Rattle.std.specs.List.{AllZip}
use Rattle.std.specs.Str.{bytes_eq}
use Rattle.std.specs.Net.Addr.{IsUnspecifiedV4, IsUnspecifiedV6, MatchIp, ipv4_octets}
use Rattle.std.specs.Net.Grammar.{IsSocketText}
use Rattle.std.specs.Net.Socket.{socket_ip, socket_port}
use Rattle.std.specs.declared.net.ip_addr.IpAddr.TheVariants.{V4}
use Rattle.std.specs.declared.net.ipv4_addr.Ipv4Addr.{Ipv4Addr}
use Rattle.std.specs.declared.net.socket_addr.SocketAddr.{SocketAddr}
use Rattle.dns_names.specs.declared.reverse.AddrPrefix.{AddrPrefix}
use Rattle.dns_server.specs.AddressList.{IsLoopbackList, ReadsPrefix}
use Rattle.dns_server.specs.declared.address_list.PrefixError.{PrefixError}
use Rattle.nameserver_cli.specs.declared.ending.Ending.{Ending}
use Rattle.nameserver_cli.specs.declared.ending.Ending.TheVariants.{Memory}
use Rattle.nameserver_cli.specs.Ending.{IsOfInvalidValue}

-- ---- addresses with a port

-- all addresses of the host at once: 0.0.0.0 or ::
abbrev pub IsUnspecified : SocketAddr → Type 0
IsUnspecified address = MatchIp (socket_ip address) IsUnspecifiedV4 IsUnspecifiedV6

-- the text states an address and a port, and not all addresses at once
abbrev pub IsAddress : List ℕ → SocketAddr → Type 0
IsAddress text address = IsSocketText text address × ¬ (IsUnspecified address)

-- why the address of an option may not be all addresses at once
abbrev pub unspecified_reason : (option : List ℕ) → List ℕ
unspecified_reason option = if bytes_eq option (codes "notify")
    then codes "nothing can be sent to it; name the address of the secondary"
    else codes "replies could leave from another address than the one that was asked; list each address"

-- the text states no address and port
abbrev pub IsNoAddress : (option text : List ℕ) → Ending → Type 0
IsNoAddress option text ending = ((address : SocketAddr) → ¬ (IsSocketText text address))
    × IsOfInvalidValue option text (codes "it is not an address and a port, such as 127.0.0.1:5300 or [::1]:5300") ending

-- it states all addresses at once
abbrev pub IsOfUnspecified : (option text : List ℕ) → Ending → Type 0
IsOfUnspecified option text ending = (address : SocketAddr) × IsSocketText text address × IsUnspecified address
    × IsOfInvalidValue option text (unspecified_reason option) ending

-- the value of an option is refused
abbrev pub IsAddressRefusal : (option text : List ℕ) → Ending → Type 0
IsAddressRefusal option text ending = IsNoAddress option text ending ⊎ IsOfUnspecified option text ending

-- one of the values of an option is refused; or there was no memory
abbrev pub IsAddressesRefusal : (option : List ℕ) → List (List ℕ) → Ending → Type 0
IsAddressesRefusal option texts ending = (ending ≡ Memory) ⊎ Any (λ text. IsAddressRefusal option text ending) texts

-- 127.0.0.1:5300, at which the server listens if no address is given
pub record IsDefaultAddress (address : SocketAddr) : Type 0 where
  pub host : Ipv4Addr
  pub ip : socket_ip address ≡ V4 host
  pub octets : ipv4_octets host ≡ 127 ∷ 0 ∷ 0 ∷ 1 ∷ []
  pub port : socket_port address ≡ 5300

-- the addresses at which the server listens
abbrev pub AreListened : List (List ℕ) → List SocketAddr → Type 0
AreListened [] (address ∷ []) = IsDefaultAddress address
AreListened texts addresses = AllZip IsAddress texts addresses

-- ---- prefixes

-- a text that is no prefix is refused
abbrev pub IsPrefixRefusal : (option text : List ℕ) → Ending → Type 0
IsPrefixRefusal option text ending = (fault : PrefixError) × ReadsPrefix text (Err fault)
    × IsOfInvalidValue option text (codes "it is not an address and a length, such as 192.0.2.0/24") ending

-- one of the values of an option is refused; or there was no memory
abbrev pub IsPrefixesRefusal : (option : List ℕ) → List (List ℕ) → Ending → Type 0
IsPrefixesRefusal option texts ending = (ending ≡ Memory) ⊎ Any (λ text. IsPrefixRefusal option text ending) texts

-- the prefixes that the texts state are appended
pub record AddsPrefixes (old : List AddrPrefix) (texts : List (List ℕ)) (new : List AddrPrefix) : Type 0 where
  pub added : List AddrPrefix
  pub appended : new ≡ old ++ added
  pub are_read : AllZip (λ text prefix. ReadsPrefix text (Ok prefix)) texts added

-- the addresses of the local host, and those of the texts
pub record IsLoopbackAnd (texts : List (List ℕ)) (prefixes : List AddrPrefix) : Type 0 where
  pub loopback : List AddrPrefix
  pub is_loopback : IsLoopbackList loopback
  pub adds : AddsPrefixes loopback texts prefixes

-- the addresses from which updates are taken: none without updates
abbrev pub AreUpdaters : (is_without_updates : Bool) → List (List ℕ) → List AddrPrefix → Type 0
AreUpdaters true texts prefixes = prefixes ≡ []
AreUpdaters false texts prefixes = IsLoopbackAnd texts prefixes
