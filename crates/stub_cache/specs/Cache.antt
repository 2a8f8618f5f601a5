-- The cache of responses: a list of entries, the newest last (RFC 1034 section 5.3.3, RFC 2308 section 5).
use Rattle.std.specs.Prelude.{ℕ, Bool, true, ◌==◌, ◌&&◌, ◌+◌, ◌-◌, ◌++◌, not, nat_lt, nat_le, List, [], ◌∷◌, length, Option, Some, None, option_map, Result, Ok, Err, if◌then◌else◌}
use Rattle.std.specs.List.{filter, find, list_any}
use Rattle.dns_wire.specs.codes.RecordType.{type_number}
use Rattle.dns_wire.specs.codes.DNSClass.{class_number}
use Rattle.dns_names.specs.Compare.{same_name}
use Rattle.dns_messages.specs.declared.message.Message.{Message}
use Rattle.dns_messages.specs.declared.query.Query.{Query}
use Rattle.stub_lookup.specs.declared.error.DnsError.TheVariants as dns
use Rattle.stub_lookup.specs.declared.error.NetError.{NetError}
use Rattle.stub_lookup.specs.declared.error.NetError.TheVariants.{Dns}
use Rattle.stub_lookup.specs.declared.error.NoRecords.{NoRecords}
use Rattle.stub_cache.specs.Ttl.{TtlConfigContent, clamped, positive_lifetime, negative_lifetime, aged_message, aged_answer}
use Rattle.stub_cache.specs.declared.cache.entry.Entry.{Entry}

-- ---- entries

-- what is stored for a question: a response, or a negative answer
abbrev pub Kept : Type 0
Kept = Result Message NoRecords

-- the entries of a cache, the newest last, with its capacity and its bounds of TTLs
pub record CacheContent : Type 0 where
  pub entries : List Entry
  -- how many entries there may be
  pub capacity : ℕ
  pub config : TtlConfigContent

-- questions have the same entry if their names are equal, ignoring ASCII case, and the numbers of their types and classes
abbrev pub same_key : Query → Query → Bool
same_key p q =
    same_name p.name q.name
    && ((type_number p.query_type == type_number q.query_type) && (class_number p.query_class == class_number q.query_class))

-- whether an entry is for a question
abbrev pub is_about : Query → Entry → Bool
is_about q e = same_key e.question q

-- an entry for a question; the TTLs of a response are brought within their bounds
abbrev pub entry_of : TtlConfigContent → Query → Kept → ℕ → Entry
entry_of config q (Ok m) now = record {
  question = q;
  kept = Ok (clamped config m);
  moment = now;
  deadline = now + positive_lifetime config q.query_type (clamped config m);
}
entry_of config q (Err answer) now = record {
  question = q;
  kept = Err answer;
  moment = now;
  deadline = now + negative_lifetime config q.query_type answer;
}

-- ---- what is found

-- whether an entry is for a question and not past its deadline at a moment
abbrev pub is_current : Query → ℕ → Entry → Bool
is_current q now e = is_about q e && nat_le now e.deadline

-- a response or a negative answer with its TTLs reduced by some seconds
abbrev pub aged : ℕ → Kept → Kept
aged seconds (Ok m) = Ok (aged_message seconds m)
aged seconds (Err answer) = Err (aged_answer seconds answer)

-- what is stored for a question, with TTLs reduced by the seconds since it was stored
abbrev pub current : List Entry → Query → ℕ → Option Kept
current entries q now = option_map (λ e. aged (now - e.moment) e.kept) (find (is_current q now) entries)

-- ---- what is stored

-- whether no other entry has an earlier deadline
abbrev pub is_first_due : Entry → List Entry → Bool
is_first_due e [] = true
is_first_due e (other ∷ others) = nat_le e.deadline other.deadline && is_first_due e others

-- the entries without the one with the earliest deadline, the oldest of these
abbrev pub evicted : List Entry → List Entry
evicted [] = []
evicted (e ∷ es) = if is_first_due e es then es else e ∷ evicted es

-- the entries without those for a question
abbrev pub cleared_of : Query → List Entry → List Entry
cleared_of q entries = filter (λ e. not (is_about q e)) entries

-- the entries that stay when one is stored for a question: all others if there is one, or else as many as leave room for it
abbrev pub staying : ℕ → Query → List Entry → List Entry
staying capacity q entries =
    if list_any (is_about q) entries then cleared_of q entries
    else if nat_lt (length entries) capacity then entries
    else evicted entries

-- the entries with a new one, which a cache of capacity 0 does not store
abbrev pub inserted : ℕ → List Entry → Entry → List Entry
inserted capacity entries e = if capacity == 0 then entries else staying capacity e.question entries ++ e ∷ []

-- a cache that stores a response or a negative answer at a moment
abbrev pub storing : CacheContent → Query → Kept → ℕ → CacheContent
storing cache q kept now = record cache {
  entries = inserted cache.capacity cache.entries (entry_of cache.config q kept now);
}

-- of the replies to a question, responses and negative answers are stored, and no other error
abbrev pub kept_of_result : Result Message NetError → Option Kept
kept_of_result (Ok m) = Some (Ok m)
kept_of_result (Err (Dns (dns.NoRecordsFound answer))) = Some (Err answer)
kept_of_result (Err error) = None

-- a cache that stores a response or a negative answer, if there is one
abbrev pub storing_any : CacheContent → Query → Option Kept → ℕ → CacheContent
storing_any cache q None now = cache
storing_any cache q (Some kept) now = storing cache q kept now
