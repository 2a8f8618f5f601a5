-- What `chain_bound` says of an address to which an alias leads: at 30 it may be returned for 20 seconds, the TTL of the alias, but not
-- for 21, although by `fresh` it may be returned for a minute.
use Rattle.std.proofs.Common.{◌≡◌, ◌≤◌, ◌⊎◌, ◌∙◌, arith, ℕ, true, min, get_or, List, [], ◌∷◌, Contains, None, Some, Ok, refl, sym, ap, subst, inl, inr}
use Rattle.std.proofs.lemmas.List.Elements.{All-cons, All-contains, All-head, All-nil}
use Rattle.dns_wire.specs.declared.codes.dns_class.DNSClass.TheVariants as classes
use Rattle.dns_wire.specs.declared.codes.record_type.RecordType.{RecordType}
use Rattle.dns_wire.specs.declared.codes.record_type.RecordType.TheVariants as types
use Rattle.dns_names.specs.Name.{DomainName}
use Rattle.dns_records.specs.Record.{Record}
use Rattle.dns_records.specs.Rows.{Rows, rows_at}
use Rattle.dns_records.specs.declared.row.Row.{Row}
use Rattle.dns_messages.specs.Response.{has_type}
use Rattle.stub_lookup.specs.Lookup.{lookup_of}
use Rattle.stub_hosts.specs.Hosts.{question, static_lookup}
use Rattle.stub_client.specs.Looks.{Reply}
use Rattle.stub_core.specs.Origins.{IsAnswer}
use Rattle.stub_core.specs.Origins.IsAnswer.{from_question, from_hosts, from_literal}
use Rattle.stub_link.specs.LinkState.{Version}
use Rattle.stub_link.specs.declared.link.script.Script.TheVariants as script
use Rattle.stub_laws.specs.answers.Steady.{always}
use Rattle.stub_laws.specs.history.Stands.{AreSame, HasChain, HasChainFor, HasShortChains, HasShortLinks, IsAliasChain}
use Rattle.stub_laws.specs.history.Stands.IsAliasChain.{no_alias, one_alias}
use Rattle.stub_laws.specs.history.Stands.IsReached.{here as reached_here, by_alias as reached_by_alias}
use Rattle.stub_laws.proofs.AnswersSteadyLaws.{always-stand, only-rows}
use Rattle.stub_laws.proofs.StandLaws.{contains-head, contains-none}
use Rattle.stub_run.specs.Headline.{AreFresh, HasChainBy, HasNoLeastTtl, HaveChainBounds, IsFreshBy, WorldContent, settings_of, ttls_of}
use Rattle.stub_run.specs.declared.event.Action.TheVariants as actions
use Rattle.stub_run.specs.declared.event.Event.{Event}
use Rattle.stub_run.specs.declared.report.EventReply.TheVariants as replies
use Rattle.stub_run.specs.declared.report.EventReport.{EventReport}
use Rattle.stub_witnesses.proofs.AliasWitness.{addresses, alias, alias_row, alias_ttl, aliases, short, zone}
use Rattle.stub_witnesses.proofs.LocalWitness.{first_byte, local_byte}
use Rattle.stub_witnesses.proofs.VersionsWitness.{address, host, occasion, row, world}

-- ---- an event, and what `chain_bound` says of its report

abbrev pub alias_world : WorldContent
alias_world = record world { zone = zone }

abbrev record_with : ℕ → Record
record_with ttl = record { name = host; dns_class = classes.IN; ttl = ttl; rdata = address 1 }

abbrev found : ℕ → Reply
found ttl = Ok (lookup_of (question alias types.A) (record_with ttl ∷ []) 0)

abbrev event : Event
event = record { at = 30; script = script.Honest; action = actions.Lookup alias types.A }

abbrev report_of : Reply → EventReport
report_of reply = record { reply = replies.Lookup reply; faults = 0; questions = 1 }

-- the address, returned for w. with a TTL
abbrev IsBounded : ℕ → Type 0
IsBounded ttl = HaveChainBounds alias_world (event ∷ []) (report_of (found ttl) ∷ []) (occasion 30 ∷ [])

abbrev IsFreshRun : ℕ → Type 0
IsFreshRun ttl = AreFresh alias_world (event ∷ []) (report_of (found ttl) ∷ []) (occasion 30 ∷ [])

abbrev versions : List Version
versions = always zone.rows

abbrev IsBoundedAnswer : Record → Type 0
IsBoundedAnswer r =
    has_type types.A r ≡ true
    → IsAnswer (HasChainBy (ttls_of alias_world) versions) (settings_of alias_world).hosts 30 (types.A ∷ []) (alias ∷ []) (alias ∷ []) [] r

abbrev IsFreshAnswer : Record → Type 0
IsFreshAnswer r =
    has_type types.A r ≡ true
    → IsAnswer (IsFreshBy (ttls_of alias_world) versions) (settings_of alias_world).hosts 30 (types.A ∷ []) (alias ∷ []) (alias ∷ []) [] r

-- the least TTL of positive answers is 0
pub low : HasNoLeastTtl alias_world
low kind = refl

chains_are_short : HasShortChains versions
chains_are_short = All-cons HasShortLinks (record { moment = 0; rows = zone.rows }) [] short (All-nil HasShortLinks)

-- ---- the premises of the claim hold of the answer, with the TTL of the alias

address_there : Contains (rows_at zone.rows host.labels types.A) (row 1)
address_there = subst (λ (rs : List Row). Contains rs (row 1)) (sym (addresses host refl)) (contains-head (row 1) [])

alias_there : Contains (rows_at zone.rows alias.labels types.CNAME) alias_row
alias_there = subst (λ (rs : List Row). Contains rs alias_row) (sym (aliases alias refl)) (contains-head alias_row [])

bounded : HasChain versions 86400 30 alias (record_with 20)
bounded = record {
  full = refl;
  moment = 30;
  rows = zone.rows;
  row = row 1;
  least = min 86400 20;
  stand = always-stand zone.rows 30;
  past = omega arith;
  chain = one_alias alias host 86400 alias_row (record { 0 = host }) (no_alias alias refl) alias_there refl refl;
  holds = address_there;
  same_data = refl;
  lasts = omega arith;
}

-- the address for 20 seconds
pub bounded_for_20 : IsBounded 20
bounded_for_20 = (
  λ plain. All-cons IsBoundedAnswer (record_with 20) []
      (λ typed. from_question alias types.A (record_with 20) (contains-head alias []) (contains-head types.A []) refl (λ few. inl bounded))
      (All-nil IsBoundedAnswer),
  tt,
)

-- by `fresh` for a minute
pub fresh_for_60 : IsFreshRun 60
fresh_for_60 = (
  λ plain. All-cons IsFreshAnswer (record_with 60) []
      (λ typed. from_question alias types.A (record_with 60) (contains-head alias []) (contains-head types.A []) refl (inl (
        record {
          full = refl;
          moment = 30;
          rows = zone.rows;
          row = row 1;
          stand = always-stand zone.rows 30;
          past = omega arith;
          holds = address_there;
          same_data = refl;
          lasts = omega arith;
        },
        reached_by_alias alias host 30 zone.rows alias_row (record { 0 = host }) (reached_here alias refl) (always-stand zone.rows 30) (omega arith)
            alias_there refl refl,
      )))
      (All-nil IsFreshAnswer),
  tt,
)

-- ---- what is not bounded

abbrev first_octet : List (List ℕ) → ℕ
first_octet labels = get_or (get_or labels 0 []) 0 0

-- an alias bounds the TTL of what it leads to
low_chain : {rows : Rows} {bound least : ℕ} {to : DomainName} → rows ≡ zone.rows → IsAliasChain rows bound alias least to
    → AreSame alias to ⊎ (least ≤ 20)
low_chain e (no_alias to same) = inl same
low_chain e (one_alias owner to least x target led there is same) =
    let short_ttl : x.ttl ≡ 20 = alias_ttl owner.labels x (subst (λ (rs : Rows). Contains (rows_at rs owner.labels types.CNAME) x) e there) in
    inr (omega (arith, short_ttl))

not_bounded : (bound : ℕ) → HasChain versions bound 30 alias (record_with 21) → ⊥
not_bounded bound h = by (low_chain (only-rows zone.rows h.moment h.rows h.stand) h.chain)
  where
    by : AreSame alias host ⊎ (h.least ≤ 20) → ⊥
    by (inl same) = let clash : ◌≡◌ {A = ℕ} 119 104 = ap first_octet same in absurd (omega (arith, clash))
    by (inr less) =
        let past = h.past in
        let lasts = h.lasts in
        absurd (omega (arith, less, past, lasts))

not_local : (q : DomainName) (bound : ℕ) → HasChainFor versions bound 30 q (record_with 21) → alias ≡ q → ⊥
not_local q bound (inl h) same = not_bounded bound (subst (λ (n : DomainName). HasChain versions bound 30 n (record_with 21)) (sym same) h)
not_local q bound (inr local) same =
    let first : first_byte local.whole.rdata ≡ 127 = local_byte local.question local.whole local.special in
    let clash : ◌≡◌ {A = ℕ} 10 127 = ap (λ (r : Record). first_byte r.rdata) local.same ∙ first in
    omega (arith, clash)

the_name : (name : DomainName) → Contains (alias ∷ []) name → alias ≡ name
the_name name there =
    All-contains (λ (n : DomainName). alias ≡ n) (alias ∷ []) name
    (All-cons (λ (n : DomainName). alias ≡ n) alias [] refl (All-nil (λ (n : DomainName). alias ≡ n))) there

the_kind : (kind : RecordType) → Contains (types.A ∷ []) kind → types.A ≡ kind
the_kind kind there =
    All-contains (λ (k : RecordType). types.A ≡ k) (types.A ∷ []) kind
    (All-cons (λ (k : RecordType). types.A ≡ k) types.A [] refl (All-nil (λ (k : RecordType). types.A ≡ k))) there

not_an_answer : IsAnswer (HasChainBy (ttls_of alias_world) versions) (settings_of alias_world).hosts 30 (types.A ∷ []) (alias ∷ []) (alias ∷ []) [] (record_with 21) → ⊥
not_an_answer (from_question name kind r named typed has claim) = not_local name _ (claim chains_are_short) (the_name name named)
not_an_answer (from_hosts name kind lookup r named typed is there) =
    let same : types.A ≡ kind = the_kind kind typed in
    let never : None ≡ Some lookup = ap (λ (k : RecordType). static_lookup (settings_of alias_world).hosts (question name k) 30) same ∙ is in absurd cc
not_an_answer (from_literal r there) = contains-none r there

-- not for 21 seconds
pub bounded_for_21_is_excluded : IsBounded 21 → ⊥
bounded_for_21_is_excluded run = not_an_answer (All-head IsBoundedAnswer (record_with 21) [] (run.0 refl) refl)
