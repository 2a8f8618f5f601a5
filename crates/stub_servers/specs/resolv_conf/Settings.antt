-- What the lines of resolv.conf(5) set, one after another.
use Rattle.std.specs.Prelude.{◌≡◌, ◌++◌, if◌then◌else◌, nat_lt, true, List, [], ◌∷◌, ℕ, length, Option, Some, None, Ok, Err}
use Rattle.std.specs.List.{filter_map}
use Rattle.std.specs.declared.net.ip_addr.IpAddr.{IpAddr}
use Rattle.dns_names.specs.Name.{DomainName}
use Rattle.dns_names.specs.Parse.{name_of_text}
use Rattle.dns_text.specs.Address.{IsTextOf}
use Rattle.stub_servers.specs.declared.resolv_conf.line.Keyword.{Keyword}
use Rattle.stub_servers.specs.declared.resolv_conf.line.Keyword.TheVariants.{NameServer, Domain, Search, Options}
use Rattle.stub_servers.specs.declared.resolv_conf.settings.Settings.{Settings}
use Rattle.stub_servers.specs.resolv_conf.Line.{keyword_of, values_of}
use Rattle.stub_servers.specs.resolv_conf.Options.{default_conf_options, options_after}

-- the settings of a file without lines
abbrev pub no_settings : Settings
no_settings = record { search = []; servers = []; options = default_conf_options }

-- the settings with a further name server, if there is an address, and fewer than three name servers
abbrev pub with_server : Settings → Option IpAddr → Settings
with_server settings None = settings
with_server settings (Some address) =
    if nat_lt (length settings.servers) 3 then record settings { servers = settings.servers ++ address ∷ [] } else settings

-- the name of a search list that a word spells, if it spells one, fully qualified
abbrev pub search_name : List ℕ → Option DomainName
search_name word = elim (name_of_text word) [ Ok name ↦ Some (record name { is_fqdn = true }) | Err error ↦ None ]

-- the settings with the names that words spell as search list
abbrev pub with_search : Settings → List (List ℕ) → Settings
with_search settings words = record settings { search = filter_map search_name words }

-- The settings after a keyword and its values: an address, the names of a search list, one such name, or options. Without a
-- value nothing changes.
abbrev pub Sets : Option Keyword → List (List ℕ) → Settings → Settings → Type 0
Sets (Some NameServer) (word ∷ words) old new = (address : Option IpAddr) × IsTextOf word address × (new ≡ with_server old address)
Sets (Some Search) (word ∷ words) old new = new ≡ with_search old (word ∷ words)
Sets (Some Domain) (word ∷ words) old new = new ≡ with_search old (word ∷ [])
Sets (Some Options) words old new = new ≡ record old { options = options_after old.options words }
Sets keyword words old new = new ≡ old

-- the settings after lines
abbrev pub SetsAll : List (List ℕ) → Settings → Settings → Type 0
SetsAll [] old new = new ≡ old
SetsAll (line ∷ lines) old new = (next : Settings) × Sets (keyword_of line) (values_of line) old next × SetsAll lines next new
