-- Hosts files: lines of an address and the names that it has.
use Rattle.std.specs.Prelude.{◌≡◌, ◌≢◌, ℕ, ◌==◌, nat_eq, Bool, true, false, List, [], ◌∷◌, ◌++◌, drop, map, Option, Some, None, Result, Ok, Err, if◌then◌else◌}
use Rattle.std.specs.List.{filter, filter_map, slice_split, before_first, starts_with}
use Rattle.std.specs.Str.{chars, encode_utf8_all, is_utf8}
use Rattle.std.specs.Char.{is_whitespace}
use Rattle.std.specs.declared.net.ip_addr.IpAddr.{IpAddr}
use Rattle.dns_names.specs.Name.{DomainName}
use Rattle.dns_names.specs.Parse.{name_of_text}
use Rattle.dns_names.specs.Compare.{lower}
use Rattle.dns_text.specs.Address.{IsTextOf}
use Rattle.stub_hosts.specs.declared.hosts.file.HostsFault.{HostsFault}
use Rattle.stub_hosts.specs.declared.hosts.file.HostsFault.TheVariants.{Utf8, Memory}

-- ---- from bytes to words

-- the byte-order mark: U+FEFF in UTF-8
abbrev pub mark : List ℕ
mark = 0xEF ∷ 0xBB ∷ 0xBF ∷ []

-- the bytes without a byte-order mark in front
abbrev pub without_mark : List ℕ → List ℕ
without_mark bytes = if starts_with nat_eq bytes mark then drop 3 bytes else bytes

-- the lines of a file, which line feeds separate; a carriage return in front of one is white space
abbrev pub lines_of : List ℕ → List (List ℕ)
lines_of bytes = slice_split (λ b. b == 10) (without_mark bytes)

-- a line without its comment, which begins with `#`
abbrev pub without_comment : List ℕ → List ℕ
without_comment line = before_first (λ b. b == 35) line

-- whether there is a character
abbrev pub is_word : List ℕ → Bool
is_word [] = false
is_word (c ∷ cs) = true

-- the words of a text: what is not empty between white space
unfoldable pub words : List ℕ → List (List ℕ)
words text = map encode_utf8_all (filter is_word (slice_split is_whitespace (chars text)))

-- ---- hosts

-- a name of an address
pub record Host : Type 0 where
  pub name : DomainName
  pub address : IpAddr

-- the name that a word spells, if it spells one: in lower case and fully qualified
abbrev pub host_name : List ℕ → Option DomainName
host_name word = elim (name_of_text word) [
  | Ok name ↦ Some (record { is_fqdn = true; labels = lower name.labels })
  | Err error ↦ None
]

-- the hosts of an address and the words after it; a word that spells no name is skipped
abbrev pub hosts_at : IpAddr → List (List ℕ) → List Host
hosts_at address names = map (λ name. record { name = name; address = address }) (filter_map host_name names)

-- the hosts of the words of a line: none unless the first spells an address
abbrev pub hosts_of : Option IpAddr → List (List ℕ) → List Host
hosts_of None names = []
hosts_of (Some address) names = hosts_at address names

-- the hosts of the words of a line: the first word spells an address, or there are none
abbrev pub AreHostsOfWords : List (List ℕ) → List Host → Type 0
AreHostsOfWords [] hosts = hosts ≡ []
AreHostsOfWords (word ∷ names) hosts = (address : Option IpAddr) × IsTextOf word address × (hosts ≡ hosts_of address names)

-- the words of a line are an address, and words after it
abbrev pub HaveNames : List (List ℕ) → Type 0
HaveNames [] = ⊥
HaveNames (word ∷ names) = (names ≢ []) × (address : IpAddr) × IsTextOf word (Some address)

-- the hosts of a line
abbrev pub AreHostsOfLine : List ℕ → List Host → Type 0
AreHostsOfLine line hosts = AreHostsOfWords (words (without_comment line)) hosts

-- What reading a line inserts, and its outcome: all hosts of the line, none if it is not UTF-8, and those before the one for
-- which there was no memory. Only a line with an address and a word after it takes memory.
abbrev pub ReadsLine : List ℕ → List Host → Result (Unit {0}) HostsFault → Type 0
ReadsLine line hosts (Ok done) = (is_utf8 line ≡ true) × AreHostsOfLine line hosts
ReadsLine line hosts (Err Utf8) = (is_utf8 line ≡ false) × (hosts ≡ [])
ReadsLine line hosts (Err Memory) =
    (is_utf8 line ≡ true) × (unread : List Host) × AreHostsOfLine line (hosts ++ unread)
    × HaveNames (words (without_comment line))

-- the same for lines, of which reading ends at the first fault
pub data ReadsLines : List (List ℕ) → List Host → Result (Unit {0}) HostsFault → Type 0 where
  at_end : ReadsLines [] [] (Ok tt)
  at_line : {line : List ℕ} {lines : List (List ℕ)} (hosts more : List Host) {outcome : Result (Unit {0}) HostsFault}
      → ReadsLine line hosts (Ok tt) → ReadsLines lines more outcome → ReadsLines (line ∷ lines) (hosts ++ more) outcome
  at_fault : {line : List ℕ} {lines : List (List ℕ)} {hosts : List Host} {fault : HostsFault}
      → ReadsLine line hosts (Err fault) → ReadsLines (line ∷ lines) hosts (Err fault)
