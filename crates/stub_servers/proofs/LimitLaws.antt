-- Settings are within the limits.
use Rattle.std.proofs.Common.{◌≡◌, ◌≤◌, ◌<◌, ℕ, Bool, true, false, cond, List, [], ◌∷◌, ◌++◌, Option, Some, None, length, length-append, map, refl, sym, subst, arith, drop}
use Rattle.std.specs.Prelude.{max, nat_lt, codes}
use Rattle.std.specs.Str.{bytes_eq}
use Rattle.std.specs.declared.net.ip_addr.IpAddr.{IpAddr}
use Rattle.std.proofs.lemmas.List.{length-map}
use Rattle.std.proofs.lemmas.Bool.Decides.{nat_tests}
use Rattle.stub_servers.specs.declared.resolv_conf.line.Keyword.{Keyword}
use Rattle.stub_servers.specs.declared.resolv_conf.line.Keyword.TheVariants.{NameServer, Domain, Search, Options}
use Rattle.stub_servers.specs.declared.resolv_conf.options.ConfOptions.{ConfOptions}
use Rattle.stub_servers.specs.declared.resolv_conf.settings.Settings.{Settings}
use Rattle.stub_config.specs.config.{server_of}
use Rattle.stub_servers.specs.declared.resolv_conf.conf.SystemConf.{SystemConf}
use Rattle.stub_servers.specs.resolv_conf.Conf.{conf_of, connections_of, servers_or_localhost, IsConfOf}
use Rattle.stub_servers.specs.resolv_conf.Limits.{IsWithinLimits}
use Rattle.stub_servers.specs.resolv_conf.Line.{keyword_of, lines_of, values_of}
use Rattle.stub_servers.specs.resolv_conf.Options.{begins_with, default_conf_options, number_up_to, option_after, options_after, with_flag}
use Rattle.stub_servers.specs.resolv_conf.Settings.{no_settings, with_server, Sets, SetsAll}

-- ---- options

-- the numbers of options are within their limits
pub record AreBounded (o : ConfOptions) : Type 0 where
  pub ndots : o.ndots ≤ 15
  pub a_second : 1 ≤ o.timeout
  pub timeout : o.timeout ≤ 30
  pub an_attempt : 1 ≤ o.attempts
  pub attempts : o.attempts ≤ 5

chosen-has : {A : Type 0} (P : A → Type 0) (b : Bool) (x y : A) → P x → P y → P (cond b x y)
chosen-has P true x y p q = p
chosen-has P false x y p q = q

default-bounded : AreBounded default_conf_options
default-bounded = record { ndots = omega arith; a_second = omega arith; timeout = omega arith; an_attempt = omega arith; attempts = omega arith }

-- a word without a number changes none
flags-bounded : (o : ConfOptions) (r e u : Bool) → AreBounded o → AreBounded (record o { rotate = r; edns0 = e; use_vc = u })
flags-bounded o r e u h = record { ndots = h.ndots; a_second = h.a_second; timeout = h.timeout; an_attempt = h.an_attempt; attempts = h.attempts }

flag-bounded : (o : ConfOptions) (word : List ℕ) → AreBounded o → AreBounded (with_flag o word)
flag-bounded o word h =
    chosen-has AreBounded (bytes_eq word (codes "rotate")) (record o { rotate = true }) _ (flags-bounded o true o.edns0 o.use_vc h)
    (chosen-has AreBounded (bytes_eq word (codes "edns0")) (record o { edns0 = true }) _ (flags-bounded o o.rotate true o.use_vc h)
    (chosen-has AreBounded (bytes_eq word (codes "use-vc")) (record o { use_vc = true }) o (flags-bounded o o.rotate o.edns0 true h) h))

option-bounded : (o : ConfOptions) (word : List ℕ) → AreBounded o → AreBounded (option_after o word)
option-bounded o word h =
    chosen-has AreBounded (begins_with (codes "ndots:") word) (record o { ndots = number_up_to 15 (drop 6 word) }) _
    (record { ndots = omega arith; a_second = h.a_second; timeout = h.timeout; an_attempt = h.an_attempt; attempts = h.attempts })
    (chosen-has AreBounded (begins_with (codes "timeout:") word) (record o { timeout = max 1 (number_up_to 30 (drop 8 word)) }) _
    (record { ndots = h.ndots; a_second = omega arith; timeout = omega arith; an_attempt = h.an_attempt; attempts = h.attempts })
    (chosen-has AreBounded (begins_with (codes "attempts:") word) (record o { attempts = max 1 (number_up_to 5 (drop 9 word)) }) _
    (record { ndots = h.ndots; a_second = h.a_second; timeout = h.timeout; an_attempt = omega arith; attempts = omega arith })
    (flag-bounded o word h)))

options-bounded : (words : List (List ℕ)) (o : ConfOptions) → AreBounded o → AreBounded (options_after o words)
options-bounded [] o h = h
options-bounded (word ∷ words) o h = options-bounded words (option_after o word) (option-bounded o word h)

-- ---- settings

-- there are at most three name servers, and the options are within their limits
pub record IsBounded (s : Settings) : Type 0 where
  pub servers : length s.servers ≤ 3
  pub options : AreBounded s.options

none-bounded : IsBounded no_settings
none-bounded = record { servers = omega arith; options = default-bounded }

server-bounded : (s : Settings) (address : Option IpAddr) → IsBounded s → IsBounded (with_server s address)
server-bounded s None h = h
server-bounded s (Some address) h = by_room (nat_lt (length s.servers) 3) refl
  where
    by_room : (b : Bool) → nat_lt (length s.servers) 3 ≡ b → IsBounded (cond b (record s { servers = s.servers ++ address ∷ [] }) s)
    by_room true e = record { servers = let few : length s.servers < 3 = grind (arith, nat_tests, e) in omega (arith, length-append s.servers (address ∷ [])); options = h.options }
    by_room false e = h

sets-bounded : (keyword : Option Keyword) (words : List (List ℕ)) (old new : Settings) → IsBounded old → Sets keyword words old new → IsBounded new
sets-bounded (Some NameServer) (word ∷ words) old new h p = subst IsBounded (sym p.2) (server-bounded old p.0 h)
sets-bounded (Some NameServer) [] old new h p = subst IsBounded (sym p) h
sets-bounded (Some Search) (word ∷ words) old new h p = subst IsBounded (sym p) (record { servers = h.servers; options = h.options })
sets-bounded (Some Search) [] old new h p = subst IsBounded (sym p) h
sets-bounded (Some Domain) (word ∷ words) old new h p = subst IsBounded (sym p) (record { servers = h.servers; options = h.options })
sets-bounded (Some Domain) [] old new h p = subst IsBounded (sym p) h
sets-bounded (Some Options) words old new h p = subst IsBounded (sym p) (record { servers = h.servers; options = options-bounded words old.options h.options })
sets-bounded None words old new h p = subst IsBounded (sym p) h

sets_all-bounded : (lines : List (List ℕ)) (old new : Settings) → IsBounded old → SetsAll lines old new → IsBounded new
sets_all-bounded [] old new h p = subst IsBounded (sym p) h
sets_all-bounded (line ∷ lines) old new h p = sets_all-bounded lines p.0 new (sets-bounded (keyword_of line) (values_of line) old p.0 h p.1) p.2

-- ---- a configuration

within : (s : Settings) → IsBounded s → IsWithinLimits (conf_of s)
within s h = record {
  a_server = some s.servers;
  servers = few s.servers h.servers;
  ndots = h.options.ndots;
  a_second = h.options.a_second;
  timeout = h.options.timeout;
  an_attempt = h.options.an_attempt;
  attempts = h.options.attempts;
}
  where
    some : (addresses : List IpAddr) → 1 ≤ length (map (server_of (connections_of s.options.use_vc)) (servers_or_localhost addresses))
    some [] = omega arith
    some (address ∷ addresses) = omega arith

    few : (addresses : List IpAddr) → length addresses ≤ 3 → length (map (server_of (connections_of s.options.use_vc)) (servers_or_localhost addresses)) ≤ 3
    few [] h = omega arith
    few (address ∷ addresses) h = omega (arith, length-map addresses (server_of (connections_of s.options.use_vc)))

pub within-limits : (text : List ℕ) (conf : SystemConf) → IsConfOf text conf → IsWithinLimits conf
within-limits text conf p = subst IsWithinLimits (sym p.2) (within p.0 (sets_all-bounded (lines_of text) no_settings p.0 none-bounded p.1))
