-- What reading the parts of a hosts file inserts.
use Rattle.std.proofs.Common.{◌≡◌, ◌≢◌, ℕ, Bool, true, false, List, [], ◌∷◌, ◌++◌, Option, Some, None, Result, Ok, Err, refl, ap, sym, ◌∙◌, subst, append_assoc, append-nil}
use Rattle.std.specs.Prelude.{map, OnErr}
use Rattle.std.specs.List.{filter_map, cons_option}
use Rattle.std.specs.Str.{IsUtf8, is_utf8}
use Rattle.std.specs.declared.alloc.AllocError.{AllocError}
use Rattle.std.specs.declared.net.ip_addr.IpAddr.{IpAddr}
use Rattle.std.proofs.lemmas.Str.{IsUtf8-from_is_utf8, is_utf8-from_IsUtf8}
use Rattle.dns_names.specs.Name.{DomainName}
use Rattle.dns_text.specs.Address.{IsTextOf}
use Rattle.stub_hosts.specs.Hosts.{HostsContent, with_host, with_hosts}
use Rattle.stub_hosts.specs.HostsFile.{Host, host_name, hosts_at, words, without_comment, AreHostsOfWords, AreHostsOfLine, HaveNames, ReadsLine}
use Rattle.stub_hosts.specs.internal.HostsFile.{InsertsHosts}
use Rattle.stub_hosts.specs.declared.hosts.file.HostsFault.TheVariants.{Utf8, Memory}
use Rattle.stub_hosts.proofs.WordsLaws.{OneWord}

pub with_hosts-append : (now : ℕ) (hosts : HostsContent) (xs ys : List Host) → with_hosts now hosts (xs ++ ys) ≡ with_hosts now (with_hosts now hosts xs) ys
with_hosts-append now hosts [] ys = refl
with_hosts-append now hosts (x ∷ xs) ys = with_hosts-append now (with_host now hosts x) xs ys

-- ---- the names of an address

abbrev host_at : IpAddr → DomainName → Host
host_at address name = record { name = name; address = address }

hosts_at-cons : (address : IpAddr) (w : List ℕ) (ws : List (List ℕ)) → hosts_at address (w ∷ ws) ≡ hosts_at address (w ∷ []) ++ hosts_at address ws
hosts_at-cons address w ws = by_name (host_name w)
  where
    by_name : (o : Option DomainName) → map (host_at address) (cons_option o (filter_map host_name ws))
        ≡ map (host_at address) (cons_option o []) ++ map (host_at address) (filter_map host_name ws)
    by_name (Some name) = refl
    by_name None = refl

-- the names so far are inserted, and the rest is left
pub record NamesBefore (address : IpAddr) (now : ℕ) (old new : HostsContent) (all rest : List ℕ) : Type 0 where
  pub done : List Host
  pub inserted : new ≡ with_hosts now old done
  pub split : hosts_at address (words all) ≡ done ++ hosts_at address (words rest)
  pub some : words rest ≢ [] → words all ≢ []
  pub utf8 : IsUtf8 rest

pub names_begin : (address : IpAddr) (now : ℕ) (old : HostsContent) (all rest : List ℕ) → IsUtf8 all → rest ≡ all → NamesBefore address now old old all rest
names_begin address now old all rest utf8 same = record {
  done = [];
  inserted = refl;
  split = ap (λ (text : List ℕ). hosts_at address (words text)) (sym same);
  some = λ left none. left (ap (λ (text : List ℕ). words text) same ∙ none);
  utf8 = subst IsUtf8 (sym same) utf8;
}

module _ {address : IpAddr} {now : ℕ} {old cur : HostsContent} {all rest : List ℕ} (before : NamesBefore address now old cur all rest) where
  -- where a word is left, there is one
  pub names_some : (w next : List ℕ) → OneWord rest w next → words all ≢ []
  names_some w next one = before.some (λ none. let is : w ∷ words next ≡ [] = sym one.words_are ∙ none in cc)

  pub names_next : (new : HostsContent) (w next : List ℕ) → OneWord rest w next → new ≡ with_hosts now cur (hosts_at address (w ∷ [])) → NamesBefore address now old new all next
  names_next new w next one is = record {
    done = before.done ++ hosts_at address (w ∷ []);
    inserted = is ∙ (ap (λ (h : HostsContent). with_hosts now h (hosts_at address (w ∷ []))) before.inserted
        ∙ sym (with_hosts-append now old before.done (hosts_at address (w ∷ []))));
    split = before.split ∙ (ap (λ ws. before.done ++ hosts_at address ws) one.words_are
        ∙ (ap (λ hs. before.done ++ hs) (hosts_at-cons address w (words next))
        ∙ sym (append_assoc before.done (hosts_at address (w ∷ [])) (hosts_at address (words next)))));
    some = λ left. names_some w next one;
    utf8 = one.utf8;
  }

  pub names_stop : (new : HostsContent) (error : AllocError) → new ≡ cur → InsertsHosts (λ hosts. hosts ≡ hosts_at address (words all)) now old new (Err error)
  names_stop new error same = record {
    hosts = before.done;
    unread = hosts_at address (words rest);
    are = sym before.split;
    inserted = same ∙ before.inserted;
    all = tt;
  }

  pub names_end : words rest ≡ [] → InsertsHosts (λ hosts. hosts ≡ hosts_at address (words all)) now old cur (Ok tt)
  names_end none = record {
    hosts = before.done;
    unread = [];
    are = sym (before.split ∙ ap (λ ws. before.done ++ hosts_at address ws) none);
    inserted = before.inserted;
    all = refl;
  }

-- ---- the words of a line

pub no_line : (text : List ℕ) (now : ℕ) (old : HostsContent) → words text ≡ [] → InsertsHosts (AreHostsOfWords (words text)) now old old (Ok tt)
no_line text now old none = record {
  hosts = [];
  unread = [];
  are = subst (λ ws. AreHostsOfWords ws []) (sym none) refl;
  inserted = refl;
  all = refl;
}

pub no_address : (text w rest : List ℕ) (now : ℕ) (old : HostsContent) → OneWord text w rest → IsTextOf w None → InsertsHosts (AreHostsOfWords (words text)) now old old (Ok tt)
no_address text w rest now old one is_none = record {
  hosts = [];
  unread = [];
  are = subst (λ ws. AreHostsOfWords ws []) (sym one.words_are) (None, is_none, refl);
  inserted = refl;
  all = refl;
}

pub an_address : (text w rest : List ℕ) (address : IpAddr) (now : ℕ) (old new : HostsContent) (result : Result (Unit {0}) AllocError)
    → OneWord text w rest → IsTextOf w (Some address)
    → InsertsHosts (λ hosts. hosts ≡ hosts_at address (words rest)) now old new result → InsertsHosts (AreHostsOfWords (words text)) now old new result
an_address text w rest address now old new result one is names = record {
  hosts = names.hosts;
  unread = names.unread;
  are = subst (λ ws. AreHostsOfWords ws (names.hosts ++ names.unread)) (sym one.words_are) (Some address, is, names.are);
  inserted = names.inserted;
  all = names.all;
}

pub some_names : (text w rest : List ℕ) (address : IpAddr) (result : Result (Unit {0}) AllocError) → OneWord text w rest → IsTextOf w (Some address)
    → OnErr result (words rest ≢ []) → OnErr result (HaveNames (words text))
some_names text w rest address (Ok done) one is some = tt
some_names text w rest address (Err error) one is some = subst HaveNames (sym one.words_are) (some, address, is)

-- ---- a line

pub line_ok : (line : List ℕ) (now : ℕ) (old new : HostsContent) → IsUtf8 line
    → InsertsHosts (AreHostsOfLine line) now old new (Ok tt) → (hosts : List Host) × ReadsLine line hosts (Ok tt) × (new ≡ with_hosts now old hosts)
line_ok line now old new utf8 i = (
  i.hosts,
  (is_utf8-from_IsUtf8 line utf8, subst (AreHostsOfLine line) (ap (λ hs. i.hosts ++ hs) i.all ∙ append-nil i.hosts) i.are),
  i.inserted,
)

pub line_memory : (line : List ℕ) (now : ℕ) (old new : HostsContent) (error : AllocError) → IsUtf8 line
    → InsertsHosts (AreHostsOfLine line) now old new (Err error) → HaveNames (words (without_comment line))
    → (hosts : List Host) × ReadsLine line hosts (Err Memory) × (new ≡ with_hosts now old hosts)
line_memory line now old new error utf8 i have = (i.hosts, (is_utf8-from_IsUtf8 line utf8, i.unread, i.are, have), i.inserted)

pub other_bytes : (line : List ℕ) (now : ℕ) (old : HostsContent) → ¬ (IsUtf8 line) → (hosts : List Host) × ReadsLine line hosts (Err Utf8) × (old ≡ with_hosts now old hosts)
other_bytes line now old not_utf8 = ([], (is_false (is_utf8 line) refl, refl), refl)
  where
    is_false : (b : Bool) → is_utf8 line ≡ b → b ≡ false
    is_false true e = absurd (not_utf8 (IsUtf8-from_is_utf8 line e))
    is_false false e = refl
