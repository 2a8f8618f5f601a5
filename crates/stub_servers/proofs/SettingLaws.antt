-- The lines of a text, one after another.
use Rattle.std.proofs.Common.{◌≡◌, ℕ, List, [], ◌∷◌, ◌++◌, Option, Some, None, refl, ap, sym, ◌∙◌, subst}
use Rattle.std.specs.declared.net.ip_addr.IpAddr.{IpAddr}
use Rattle.std.proofs.NetLemmas.Theorems.{IsIpText_unique}
use Rattle.dns_text.specs.Address.{IsTextOf}
use Rattle.stub_servers.specs.declared.resolv_conf.line.Keyword.{Keyword}
use Rattle.stub_servers.specs.declared.resolv_conf.line.Keyword.TheVariants.{NameServer, Domain, Search, Options}
use Rattle.stub_servers.specs.declared.resolv_conf.settings.Settings.{Settings}
use Rattle.stub_servers.specs.resolv_conf.Line.{keyword_of, values_of}
use Rattle.stub_servers.specs.resolv_conf.Settings.{with_server, Sets, SetsAll}

-- lines, and then one more
pub sets-next : (lines : List (List ℕ)) (line : List ℕ) (old now new : Settings) → SetsAll lines old now
    → Sets (keyword_of line) (values_of line) now new → SetsAll (lines ++ line ∷ []) old new
sets-next [] line old now new done next =
    (new, subst (λ (s : Settings). Sets (keyword_of line) (values_of line) s new) done next, refl)
sets-next (first ∷ lines) line old now new done next =
    (done.0, done.1, sets-next lines line done.0 now new done.2 next)

-- ---- settings are determined

-- a word spells one address, or none
address-unique : (word : List ℕ) (a b : Option IpAddr) → IsTextOf word a → IsTextOf word b → a ≡ b
address-unique word None None p q = refl
address-unique word None (Some b) p q = absurd (p b q)
address-unique word (Some a) None p q = absurd (q a p)
address-unique word (Some a) (Some b) p q = ap Some (IsIpText_unique word a b p q)

-- a line sets one thing
sets-unique : (keyword : Option Keyword) (words : List (List ℕ)) (old a b : Settings) → Sets keyword words old a → Sets keyword words old b → a ≡ b
sets-unique (Some NameServer) (word ∷ words) old a b p q = p.2 ∙ (ap (with_server old) (address-unique word p.0 q.0 p.1 q.1) ∙ sym q.2)
sets-unique (Some NameServer) [] old a b p q = p ∙ sym q
sets-unique (Some Search) (word ∷ words) old a b p q = p ∙ sym q
sets-unique (Some Search) [] old a b p q = p ∙ sym q
sets-unique (Some Domain) (word ∷ words) old a b p q = p ∙ sym q
sets-unique (Some Domain) [] old a b p q = p ∙ sym q
sets-unique (Some Options) words old a b p q = p ∙ sym q
sets-unique None words old a b p q = p ∙ sym q

-- so do lines
pub sets_all-unique : (lines : List (List ℕ)) (old a b : Settings) → SetsAll lines old a → SetsAll lines old b → a ≡ b
sets_all-unique [] old a b p q = p ∙ sym q
sets_all-unique (line ∷ lines) old a b p q =
    let same = sets-unique (keyword_of line) (values_of line) old p.0 q.0 p.1 q.1 in
    sets_all-unique lines q.0 a b (subst (λ (s : Settings). SetsAll lines s a) same p.2) q.2
