-- What a run promises where the rows of the zone do not change: its lookups return what walks over the zone come to. Neither the
-- cache, nor the size of datagrams, nor ids make a difference.
use Rattle.std.specs.Prelude.{◌≡◌, ◌≢◌, ◌++◌, true, string_bytes, All, List, [], ◌∷◌, ℕ, Option, Ok, Err}
use Rattle.std.specs.declared.net.ip_addr.IpAddr.{IpAddr}
use Rattle.dns_names.specs.Name.{DomainName}
use Rattle.dns_names.specs.Parse.{name_of_text}
use Rattle.dns_text.specs.Address.{IsTextOf}
use Rattle.dns_zone.specs.Rows.{ZoneContent}
use Rattle.stub_lookup.specs.declared.error.NetError.TheVariants as net
use Rattle.stub_core.specs.Origins.{names_of}
use Rattle.stub_core.specs.Resolver.{LooksUpHost, known_type}
use Rattle.stub_core.specs.declared.resolver.settings.Settings.{Settings}
use Rattle.stub_link.specs.History.{Occasion, Past, first_past, past_after_occasion}
use Rattle.stub_link.specs.LinkState.{Version}
use Rattle.stub_laws.specs.walk.Agreement.{Agree}
use Rattle.stub_laws.specs.walk.Answered.{IsWalkedLookup}
use Rattle.stub_laws.specs.walk.Walk.{AreShortAt, ByWalk, walks_everywhere}
use Rattle.stub_run.specs.Headline.{WorldContent, settings_of}
use Rattle.stub_run.specs.declared.event.Action.{Action}
use Rattle.stub_run.specs.declared.event.Action.TheVariants as actions
use Rattle.stub_run.specs.declared.event.Event.{Event}
use Rattle.stub_run.specs.declared.report.EventReply.{EventReply}
use Rattle.stub_run.specs.declared.report.EventReply.TheVariants as replies
use Rattle.stub_run.specs.declared.report.EventReport.{EventReport}

-- ---- zones that do not change

-- the past from which on the zone must not change: that before the last full clear, or the first one
abbrev pub past_since : Action → Past → Past → Past
past_since actions.ClearAll first past = past
past_since action first past = first

-- each version that was added since has the same rows
abbrev pub IsUnchanged : Past → List Version → Type 0
IsUnchanged first history =
    (added : List Version) → history ≡ first.history ++ added → All (λ version. version.rows ≡ first.zone.rows) added

-- ---- replies

-- A lookup of records, or of a host, is one in which questions are walked over the zone. A walk has neither a cache nor a link. No
-- reply to another kind of event is walked.
abbrev pub IsWalkedReply : ZoneContent → Settings → ℕ → Action → EventReply → Type 0
IsWalkedReply zone settings at (actions.Lookup name kind) (replies.Lookup found) =
    IsWalkedLookup zone settings at (Ok name) kind found
IsWalkedReply zone settings at (actions.LookupIp host) (replies.LookupIp found) =
    (address : Option IpAddr) × IsTextOf (string_bytes host) address
    × LooksUpHost settings at (ByWalk zone) address (name_of_text (string_bytes host)) tt found tt
IsWalkedReply zone settings at (actions.Clear name kind) (replies.Cleared done) = Unit {0}
IsWalkedReply zone settings at actions.ClearAll (replies.Cleared done) = Unit {0}
IsWalkedReply zone settings at (actions.Update update) (replies.Update reply) = Unit {0}
IsWalkedReply zone settings at action reply = ⊥

-- the names that the lookup of an event attempts
abbrev pub attempted_by : Settings → Action → List DomainName
attempted_by settings (actions.Lookup name kind) = names_of settings (Ok name)
attempted_by settings (actions.LookupIp host) = names_of settings (name_of_text (string_bytes host))
attempted_by settings action = []

-- If no delivery changed the rows since the last full clear, or the start, up to the end of the event, no chain of aliases through a
-- name that it attempts passes seven links, and the link met no fault in this event, its reply is walked.
abbrev pub IsWalkedEvent : Settings → Past → Past → Event → EventReport → Type 0
IsWalkedEvent settings first after e report =
    IsUnchanged first after.history → AreShortAt first.zone (attempted_by settings e.action) → report.faults ≡ 0
    → IsWalkedReply first.zone settings e.at e.action report.reply

-- event by event
abbrev pub AreWalkedEvents : Settings → Past → Past → List Event → List EventReport → List Occasion → Type 0
AreWalkedEvents settings first past [] [] [] = Unit {0}
AreWalkedEvents settings first past (e ∷ events) (report ∷ reports) (occasion ∷ occasions) =
    IsWalkedEvent settings (past_since e.action first past) (past_after_occasion past occasion) e report
    × AreWalkedEvents settings (past_since e.action first past) (past_after_occasion past occasion) events reports occasions
AreWalkedEvents settings first past events reports occasions = ⊥

-- ---- runs

-- Where the rows do not change and the link met no fault, the lookups of a run with these occasions return what walks over the
-- zone come to.
abbrev pub AreWalked : WorldContent → List Event → List EventReport → List Occasion → Type 0
AreWalked content events reports occasions =
    AreWalkedEvents (settings_of content) (first_past content.zone) (first_past content.zone) events reports occasions

-- ---- settings

-- settings with another size of the cache
abbrev pub with_cache_size : ℕ → Settings → Settings
with_cache_size size settings = record settings { options = record settings.options { cache_size = size } }

-- a world of the same zone whose cache and datagrams have other sizes, and that draws other ids
abbrev pub with_sizes : ℕ → ℕ → List ℕ → WorldContent → WorldContent
with_sizes size limit ids content =
    record content { limit = limit; ids = ids; options = record content.options { cache_size = size } }

-- ---- two runs of the same events

-- Two replies to a lookup of a plain type or of aliases, or of a host, agree, TTLs aside. No replies to other kinds of events do.
abbrev pub AgreeOn : Action → EventReply → EventReply → Type 0
AgreeOn (actions.Lookup name kind) (replies.Lookup one) (replies.Lookup other) =
    walks_everywhere (known_type kind) ≡ true → Agree one other
AgreeOn (actions.LookupIp host) (replies.LookupIp one) (replies.LookupIp other) = Agree one other
AgreeOn (actions.Clear name kind) (replies.Cleared one) (replies.Cleared other) = Unit {0}
AgreeOn actions.ClearAll (replies.Cleared one) (replies.Cleared other) = Unit {0}
AgreeOn (actions.Update update) (replies.Update one) (replies.Update other) = Unit {0}
AgreeOn action one other = ⊥

-- no memory was lacking for the datagram of an update
abbrev pub HasSentUpdate : EventReport → Type 0
HasSentUpdate report = report.reply ≢ replies.Update (Err net.Memory)

-- If the zone is unchanged, chains of aliases through the names that a lookup attempts are short, and the link met no fault in either
-- run, the replies agree; event by event.
abbrev pub AreAgreedEvents : Settings → Past → Past → List Event → List EventReport → List EventReport → List Occasion → Type 0
AreAgreedEvents settings first past [] [] [] [] = Unit {0}
AreAgreedEvents settings first past (e ∷ events) (one ∷ reports) (other ∷ others) (occasion ∷ occasions) =
    (IsUnchanged (past_since e.action first past) (past_after_occasion past occasion).history
    → AreShortAt (past_since e.action first past).zone (attempted_by settings e.action) → one.faults ≡ 0 → other.faults ≡ 0 → AgreeOn e.action one.reply other.reply)
    × AreAgreedEvents settings (past_since e.action first past) (past_after_occasion past occasion) events reports others occasions
AreAgreedEvents settings first past events reports others occasions = ⊥

-- two runs over a zone with these occasions agree
abbrev pub AreAgreed : WorldContent → List Event → List EventReport → List EventReport → List Occasion → Type 0
AreAgreed content events reports others occasions =
    AreAgreedEvents (settings_of content) (first_past content.zone) (first_past content.zone) events reports others occasions
