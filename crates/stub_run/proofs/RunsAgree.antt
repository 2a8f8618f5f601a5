-- Two runs over a zone agree where nothing is updated and the link meets no fault.
use Rattle.std.proofs.Common.{◌≡◌, ℕ, Option, Some, None, Ok, Err, List, [], ◌∷◌, inl, inr, refl, sym, ap, subst, ◌∙◌}
use Rattle.std.specs.Prelude.{◌≢◌, Result, string_bytes}
use Rattle.std.specs.List.{AllByRecursion}
use Rattle.std.specs.declared.net.ip_addr.IpAddr.{IpAddr}
use Rattle.std.proofs.NetLemmas.Theorems.{IsIpText_unique}
use Rattle.dns_names.specs.Name.{DomainName}
use Rattle.dns_names.specs.Parse.{name_of_text}
use Rattle.dns_names.specs.declared.error.ParseError.{ParseError}
use Rattle.dns_messages.specs.declared.message.Message.{Message}
use Rattle.dns_text.specs.Address.{IsTextOf}
use Rattle.dns_zone.specs.Rows.{ZoneContent}
use Rattle.stub_lookup.specs.declared.error.NetError.TheVariants as net
use Rattle.stub_core.specs.Origins.{names_of}
use Rattle.stub_core.specs.Resolver.{LooksUpHost}
use Rattle.stub_core.specs.declared.resolver.settings.Settings.{Settings}
use Rattle.stub_link.specs.History.{Occasion, Past, first_past, past_after_occasion}
use Rattle.stub_laws.specs.walk.Walk.{AreShortAt, ByWalk}
use Rattle.stub_laws.proofs.AgreementLaws.{looks-up-agree, looks-up-host-agree}
use Rattle.stub_run.specs.Event.{update_of}
use Rattle.stub_run.specs.Headline.{WorldContent, settings_of}
use Rattle.stub_run.specs.History.{AreOccasions, IsOccasion, IsUpdateOf}
use Rattle.stub_run.specs.Walked.{AgreeOn, AreAgreed, AreAgreedEvents, AreWalked, AreWalkedEvents, HasSentUpdate, IsWalkedReply, attempted_by, past_since, with_cache_size, with_sizes}
use Rattle.stub_run.specs.declared.event.Action.{Action}
use Rattle.stub_run.specs.declared.event.Action.TheVariants as actions
use Rattle.stub_run.specs.declared.event.Event.{Event}
use Rattle.stub_run.specs.declared.report.EventReply.{EventReply}
use Rattle.stub_run.specs.declared.report.EventReply.TheVariants as replies
use Rattle.stub_run.specs.declared.report.EventReport.{EventReport}

-- ---- replies

-- a text spells one address at most
pub one-address : (text : List ℕ) (a b : Option IpAddr) → IsTextOf text a → IsTextOf text b → a ≡ b
one-address text None None h k = refl
one-address text None (Some b) h k = absurd (h b k)
one-address text (Some a) None h k = absurd (k a h)
one-address text (Some a) (Some b) h k = ap (λ (x : IpAddr). Some x) (IsIpText_unique text a b h k)

agree-on : (zone : ZoneContent) (settings : Settings) (size at : ℕ) (action : Action) (one other : EventReply)
    → IsWalkedReply zone settings at action one → IsWalkedReply zone (with_cache_size size settings) at action other
    → AgreeOn action one other
agree-on zone settings size at (actions.Lookup name kind) (replies.Lookup one) (replies.Lookup two) h k = λ every.
    looks-up-agree zone at at settings tt tt one two tt tt (Ok name) kind (h.everywhere every) (k.everywhere every)
agree-on zone settings size at (actions.LookupIp host) (replies.LookupIp one) (replies.LookupIp two) h k =
    looks-up-host-agree zone at at settings tt tt one two tt tt h.0 (name_of_text (string_bytes host)) h.2
    (subst (λ (a : Option IpAddr). LooksUpHost settings at (ByWalk zone) a (name_of_text (string_bytes host)) tt two tt)
    (sym (one-address (string_bytes host) h.0 k.0 h.1 k.1)) k.2)
agree-on zone settings size at (actions.Clear name kind) (replies.Cleared one) (replies.Cleared two) h k = tt
agree-on zone settings size at actions.ClearAll (replies.Cleared one) (replies.Cleared two) h k = tt
agree-on zone settings size at (actions.Update update) (replies.Update one) (replies.Update two) h k = tt
agree-on zone settings size at (actions.Lookup name kind) (replies.Lookup one) other h k = absurd k
agree-on zone settings size at (actions.LookupIp host) (replies.LookupIp one) other h k = absurd k
agree-on zone settings size at (actions.Clear name kind) (replies.Cleared one) other h k = absurd k
agree-on zone settings size at actions.ClearAll (replies.Cleared one) other h k = absurd k
agree-on zone settings size at (actions.Update update) (replies.Update one) other h k = absurd k
agree-on zone settings size at action one other h k = absurd h

-- the size of the cache makes no difference to the names that are attempted
same-attempted : (settings : Settings) (size : ℕ) (action : Action) → attempted_by settings action ≡ attempted_by (with_cache_size size settings) action
same-attempted settings size (actions.Lookup name kind) = refl
same-attempted settings size (actions.LookupIp host) = by (name_of_text (string_bytes host))
  where
    by : (name : Result DomainName ParseError) → names_of settings name ≡ names_of (with_cache_size size settings) name
    by (Ok name) = refl
    by (Err error) = refl
same-attempted settings size (actions.Clear name kind) = refl
same-attempted settings size actions.ClearAll = refl
same-attempted settings size (actions.Update update) = refl

events-agree : (settings : Settings) (size : ℕ) (first past : Past) (events : List Event) (ones others : List EventReport)
    (occasions : List Occasion) → AreWalkedEvents settings first past events ones occasions
    → AreWalkedEvents (with_cache_size size settings) first past events others occasions
    → AreAgreedEvents settings first past events ones others occasions
events-agree settings size first past [] [] [] [] h k = tt
events-agree settings size first past [] [] [] (o ∷ occasions) h k = absurd h
events-agree settings size first past [] [] (other ∷ others) occasions h k = absurd k
events-agree settings size first past [] (one ∷ ones) others occasions h k = absurd h
events-agree settings size first past (e ∷ events) [] others occasions h k = absurd h
events-agree settings size first past (e ∷ events) (one ∷ ones) [] occasions h k = absurd k
events-agree settings size first past (e ∷ events) (one ∷ ones) (other ∷ others) [] h k = absurd h
events-agree settings size first past (e ∷ events) (one ∷ ones) (other ∷ others) (o ∷ occasions) h k = (
  λ unchanged short none no.
      agree-on (past_since e.action first past).zone settings size e.at e.action one.reply other.reply (h.0 unchanged short none)
      (k.0 unchanged (subst (AreShortAt (past_since e.action first past).zone) (same-attempted settings size e.action) short) no),
  events-agree settings size (past_since e.action first past) (past_after_occasion past o) events ones others occasions h.1 k.1,
)

-- ---- occasions

update-same : (m : Option Message) (r s : EventReply) (a b : Option (Option Message)) → IsUpdateOf m r a → IsUpdateOf m s b
    → r ≢ replies.Update (Err net.Memory) → s ≢ replies.Update (Err net.Memory) → a ≡ b
update-same None r s a b h k i j = h ∙ sym k
update-same (Some m) r s a b (inl h) (inl k) i j = h ∙ sym k
update-same (Some m) r s a b (inl h) (inr k) i j = absurd (j k.1)
update-same (Some m) r s a b (inr h) k i j = absurd (i h.1)

occasion-same : (e : Event) (r s : EventReport) (o p : Occasion) → IsOccasion e r.reply o → IsOccasion e s.reply p → HasSentUpdate r
    → HasSentUpdate s → o ≡ p
occasion-same e r s o p h k i j =
    let moments = h.moment ∙ sym k.moment in
    let scripts = h.script ∙ sym k.script in
    let updates = update-same (update_of e.action) r.reply s.reply o.update p.update h.update k.update i j in
    λ t. record { moment = moments t; script = scripts t; update = updates t }

occasions-same : (events : List Event) (ones others : List EventReport) (os ps : List Occasion) → AreOccasions events ones os
    → AreOccasions events others ps → AllByRecursion HasSentUpdate ones → AllByRecursion HasSentUpdate others → os ≡ ps
occasions-same [] [] [] [] [] h k i j = refl
occasions-same [] [] [] [] (p ∷ ps) h k i j = absurd k
occasions-same [] [] (other ∷ others) [] ps h k i j = absurd k
occasions-same [] [] others (o ∷ os) ps h k i j = absurd h
occasions-same [] (one ∷ ones) others os ps h k i j = absurd h
occasions-same (e ∷ events) [] others os ps h k i j = absurd h
occasions-same (e ∷ events) (one ∷ ones) others [] ps h k i j = absurd h
occasions-same (e ∷ events) (one ∷ ones) [] (o ∷ os) ps h k i j = absurd k
occasions-same (e ∷ events) (one ∷ ones) (other ∷ others) (o ∷ os) [] h k i j = absurd k
occasions-same (e ∷ events) (one ∷ ones) (other ∷ others) (o ∷ os) (p ∷ ps) h k i j =
    let first = occasion-same e one other o p h.0 k.0 i.0 j.0 in
    let rest = occasions-same events ones others os ps h.1 k.1 i.1 j.1 in
    λ t. first t ∷ rest t

-- ---- runs

pub runs-agree : (content : WorldContent) (size limit : ℕ) (ids : List ℕ) (events : List Event) (reports others : List EventReport)
    (occasions more : List Occasion) → AreOccasions events reports occasions → AreOccasions events others more
    → AreWalked content events reports occasions → AreWalked (with_sizes size limit ids content) events others more
    → AllByRecursion HasSentUpdate reports → AllByRecursion HasSentUpdate others → AreAgreed content events reports others occasions
runs-agree content size limit ids events reports others occasions more are others-are one two i j =
    events-agree (settings_of content) size (first_past content.zone) (first_past content.zone) events reports others occasions one
    (subst (λ (os : List Occasion). AreWalkedEvents (settings_of (with_sizes size limit ids content)) (first_past content.zone) (first_past content.zone) events others os)
    (sym (occasions-same events reports others occasions more are others-are i j)) two)
