-- Answers are alias chains of rows, and can be encoded and decoded again.
use Rattle.std.proofs.Common.{◌≡◌, ◌==◌, ◌<◌, ◌^◌, ◌&&◌, ◌||◌, not, zero, suc, ℕ, Bool, true, false, cond, List, [], ◌∷◌, map, refl, sym, subst, ap, arith, Option, Some, None}
use Rattle.std.specs.Prelude.{IfSome}
use Rattle.dns_wire.specs.codes.RecordType.{type_number}
use Rattle.dns_wire.specs.codes.DNSClass.{class_number}
use Rattle.dns_messages.specs.declared.query.Query.{Query}
use Rattle.dns_messages.specs.declared.response_code.ResponseCode.{ResponseCode}
use Rattle.dns_messages.specs.declared.response_code.ResponseCode.TheVariants.{NoError, NXDomain, NotImp, Refused}
use Rattle.dns_messages.specs.Header.{code_number, code_of}
use Rattle.dns_names.specs.Compare.{at_or_below}
use Rattle.dns_text.specs.Usage.{is_loopback, is_nonexistent}
use Rattle.dns_wire.specs.declared.codes.record_type.RecordType.{RecordType}
use Rattle.dns_wire.specs.declared.codes.record_type.RecordType.TheVariants as types
use Rattle.dns_wire.specs.declared.codes.dns_class.DNSClass.TheVariants.{IN}
use Rattle.dns_names.specs.Name.{DomainName}
use Rattle.dns_records.specs.declared.row.Row.{Row}
use Rattle.dns_records.specs.Record.{Record}
use Rattle.dns_records.specs.RecordHead.{class_for}
use Rattle.dns_data.specs.declared.rdata.RData.{RData}
use Rattle.dns_data.specs.declared.rdata.RData.TheVariants as of
use Rattle.dns_data.specs.rdata.{data_type, is_update_data, IsSoundData}
use Rattle.dns_messages.specs.Section.{is_opt_type}
use Rattle.dns_messages.specs.Sound.{IsSoundIn}
use Rattle.dns_zone.specs.declared.zone.answer.Answer.{Answer}
use Rattle.dns_zone.specs.Rows.{Rows, ZoneContent, rows_at, some_row_below, AreSoundRows, IsSoundRow}
use Rattle.dns_zone.specs.Answer.{record_of, after_records, answer, answer_at, answer_by, authority_row, bare, direct_answer, is_no_row_type, is_refused, max_aliases, negative, negative_ttl, next_owner, rest_at, AreSoundRecords, IsChain, IsSoundAnswer}
use Rattle.dns_zone.specs.Answer.IsChain.{found, stops, last, leads}

class_of_row : (t : RecordType) → is_opt_type t ≡ false → class_for t 1 ≡ IN
class_of_row types.OPT e = cc
class_of_row other e = refl

sound_record : (owner : DomainName) (row : Row) (ttl : ℕ) → owner.is_fqdn ≡ true → ttl < 2 ^ 32 → IsSoundRow row → IsSoundIn false (record_of owner (record row { ttl = ttl }))
sound_record owner row ttl f fits sound = record {
  sound = record {
    fqdn = f;
    class_fits = omega arith;
    class_named = class_of_row (data_type row.rdata) sound.rdata.not_opt;
    ttl_fits = fits;
    rdata = sound.rdata.sound;
  };
  not_opt = sound.rdata.not_opt;
  not_signature = ap (λ (b : Bool). b && not (is_update_data row.rdata)) sound.rdata.not_tsig;
  has_data = ap not sound.rdata.has_data;
}

pub sound_records : (owner : DomainName) (rows : List Row) → owner.is_fqdn ≡ true → AreSoundRows rows → AreSoundRecords (map (record_of owner) rows)
sound_records owner [] f all = tt
sound_records owner (row ∷ rows) f all = (sound_record owner row row.ttl f all.0.ttl_fits all.0, sound_records owner rows f all.1)

lowered_fits : (ttl : ℕ) (d : RData) → ttl < 2 ^ 32 → negative_ttl ttl d < 2 ^ 32
lowered_fits ttl (of.SOA soa) h = omega arith
lowered_fits ttl other h = h

sound_authority : (origin : DomainName) (rows : List Row) → origin.is_fqdn ≡ true → AreSoundRows rows → AreSoundRecords (map (λ row. record_of origin (authority_row row)) rows)
sound_authority origin [] f all = tt
sound_authority origin (row ∷ rows) f all = (sound_record origin row (negative_ttl row.ttl row.rdata) f (lowered_fits row.ttl row.rdata all.0.ttl_fits) all.0, sound_authority origin rows f all.1)

-- ---- answers

bare_sound : (code : ResponseCode) → code_number code < 16 → code_of (code_number code) ≡ code → IsSoundAnswer (bare code)
bare_sound code fits named = record { code_fits = fits; code_named = named; answers = tt; authorities = tt }

-- the rows of a zone at each key are sound
abbrev pub HasSoundRows : Rows → Type 0
HasSoundRows rows = (labels : List (List ℕ)) (t : RecordType) → AreSoundRows (rows_at rows labels t)

module _ (zone : ZoneContent) (origin_fqdn : zone.origin.is_fqdn ≡ true) (sound : HasSoundRows zone.rows) where
  sound_negative : (labels : List (List ℕ)) → IsSoundAnswer (negative zone labels)
  sound_negative labels = by_code (some_row_below zone.rows labels)
    where
      by_code : (b : Bool) → IsSoundAnswer (record { code = cond b NoError NXDomain; answers = []; authorities = (negative zone labels).authorities })
      by_code true = record { code_fits = omega arith; code_named = refl; answers = tt; authorities = sound_authority zone.origin _ origin_fqdn (sound zone.origin.labels types.SOA) }
      by_code false = record { code_fits = omega arith; code_named = refl; answers = tt; authorities = sound_authority zone.origin _ origin_fqdn (sound zone.origin.labels types.SOA) }

  sound_by : (owner : DomainName) (rows aliases : List Row) (on_alias : Row → Answer) → owner.is_fqdn ≡ true → AreSoundRows rows → AreSoundRows aliases
      → ((alias : Row) → IsSoundRow alias → IsSoundAnswer (on_alias alias)) → IsSoundAnswer (answer_by zone owner rows aliases on_alias)
  sound_by owner [] [] on_alias fqdn of_type are next = sound_negative owner.labels
  sound_by owner [] (alias ∷ more) on_alias fqdn of_type are next = next alias are.0
  sound_by owner (row ∷ rows) aliases on_alias fqdn of_type are next =
      record { code_fits = omega arith; code_named = refl; answers = sound_records owner (row ∷ rows) fqdn of_type; authorities = tt }

  sound_next : (origin : DomainName) (d : RData) (row : Row) → row.rdata ≡ d → IsSoundRow row → IfSome (next_owner origin d) (λ target. target.is_fqdn ≡ true)
  sound_next origin (of.CNAME alias) row e is = by_test (at_or_below origin.labels alias.0.labels && not (is_loopback alias.0 || is_nonexistent alias.0))
    where
      by_test : (b : Bool) → IfSome (cond b (Some alias.0) None) (λ target. target.is_fqdn ≡ true)
      by_test true = (subst (λ (x : RData). IsSoundData x) e is.rdata.sound).values.0
      by_test false = tt
  sound_next origin other row e is = tt

  sound_after : (r : Record) (a : Answer) → IsSoundIn false r → IsSoundAnswer a → IsSoundAnswer (after_records (r ∷ []) a)
  sound_after r a first is = record { code_fits = is.code_fits; code_named = is.code_named; answers = (first, is.answers); authorities = is.authorities }

  sound_rest : (answer_of : DomainName → Answer) (o : Option DomainName) → IfSome o (λ target. target.is_fqdn ≡ true)
      → ((target : DomainName) → target.is_fqdn ≡ true → IsSoundAnswer (answer_of target)) → IsSoundAnswer (rest_at answer_of o)
  sound_rest answer_of None is next = bare_sound NoError (omega arith) refl
  sound_rest answer_of (Some target) is next = next target is

  pub sound_at : (links : ℕ) (t : RecordType) (owner : DomainName) → owner.is_fqdn ≡ true → IsSoundAnswer (answer_at links zone t owner)
  unfolding answer_at
  sound_at zero t owner fqdn =
      sound_by owner (rows_at zone.rows owner.labels t) (rows_at zone.rows owner.labels types.CNAME) (λ alias. bare NoError) fqdn (sound owner.labels t) (sound owner.labels types.CNAME)
      (λ alias is. bare_sound NoError (omega arith) refl)
  sound_at (suc links) t owner fqdn =
      sound_by owner (rows_at zone.rows owner.labels t) (rows_at zone.rows owner.labels types.CNAME)
      (λ alias. after_records (record_of owner alias ∷ []) (rest_at (answer_at links zone t) (next_owner zone.origin alias.rdata))) fqdn (sound owner.labels t) (sound owner.labels types.CNAME)
      (λ alias is. sound_after (record_of owner alias) (rest_at (answer_at links zone t) (next_owner zone.origin alias.rdata)) (sound_record owner alias alias.ttl fqdn is.ttl_fits is)
      (sound_rest (answer_at links zone t) (next_owner zone.origin alias.rdata) (sound_next zone.origin alias.rdata alias refl is) (λ target is_fqdn. sound_at links t target is_fqdn)))

  pub sound_answer : (q : Query) → q.name.is_fqdn ≡ true → IsSoundAnswer (answer zone q)
  sound_answer q fqdn = by_cases (is_no_row_type (type_number q.query_type)) (not (class_number q.query_class == 1) || not (at_or_below zone.origin.labels q.name.labels))
    where
      by_cases : (a b : Bool) → IsSoundAnswer (cond a (bare NotImp) (cond b (bare Refused) (answer_at max_aliases zone q.query_type q.name)))
      by_cases true b = bare_sound NotImp (omega arith) refl
      by_cases false true = bare_sound Refused (omega arith) refl
      by_cases false false = sound_at max_aliases q.query_type q.name fqdn

-- ---- alias chains

module _ (zone : ZoneContent) (t : RecordType) where
  chain_by : (owner : DomainName) (rows aliases : List Row) (on_alias : Row → Answer) → rows ≡ rows_at zone.rows owner.labels t
      → ((alias : Row) (more : List Row) → aliases ≡ alias ∷ more → IsChain zone.rows t owner (on_alias alias).answers)
      → IsChain zone.rows t owner (answer_by zone owner rows aliases on_alias).answers
  chain_by owner [] [] on_alias of_type next = stops owner
  chain_by owner [] (alias ∷ more) on_alias of_type next = next alias more refl
  chain_by owner (row ∷ rows) aliases on_alias of_type next =
      subst (λ (all : List Row). IsChain zone.rows t owner (map (record_of owner) all)) (sym of_type) (found owner)

  chain_on : (links : ℕ) (owner : DomainName) (alias : Row) (more : List Row) (d : RData) → rows_at zone.rows owner.labels types.CNAME ≡ alias ∷ more → alias.rdata ≡ d
      → ((target : DomainName) → IsChain zone.rows t target (answer_at links zone t target).answers)
      → IsChain zone.rows t owner (record_of owner alias ∷ (rest_at (answer_at links zone t) (next_owner zone.origin d)).answers)
  chain_on links owner alias more (of.CNAME cname) there e next = by_test (at_or_below zone.origin.labels cname.0.labels && not (is_loopback cname.0 || is_nonexistent cname.0))
    where
      by_test : (b : Bool) → IsChain zone.rows t owner (record_of owner alias ∷ (rest_at (answer_at links zone t) (cond b (Some cname.0) None)).answers)
      by_test true = leads owner alias more cname _ there e (next cname.0)
      by_test false = last owner alias more there
  chain_on links owner alias more other there e next = last owner alias more there

  pub chain_at : (links : ℕ) (owner : DomainName) → IsChain zone.rows t owner (answer_at links zone t owner).answers
  unfolding answer_at
  chain_at zero owner = chain_by owner (rows_at zone.rows owner.labels t) (rows_at zone.rows owner.labels types.CNAME) (λ alias. bare NoError) refl (λ alias more there. stops owner)
  chain_at (suc links) owner =
      chain_by owner (rows_at zone.rows owner.labels t) (rows_at zone.rows owner.labels types.CNAME)
      (λ alias. after_records (record_of owner alias ∷ []) (rest_at (answer_at links zone t) (next_owner zone.origin alias.rdata))) refl
      (λ alias more there. chain_on links owner alias more alias.rdata there refl (λ target. chain_at links target))

pub answers_chain : (zone : ZoneContent) (q : Query) → IsChain zone.rows q.query_type q.name (answer zone q).answers
answers_chain zone q = by_cases (is_no_row_type (type_number q.query_type)) (not (class_number q.query_class == 1) || not (at_or_below zone.origin.labels q.name.labels))
  where
    by_cases : (a b : Bool) → IsChain zone.rows q.query_type q.name (cond a (bare NotImp) (cond b (bare Refused) (answer_at max_aliases zone q.query_type q.name))).answers
    by_cases true b = stops q.name
    by_cases false true = stops q.name
    by_cases false false = chain_at zone q.query_type max_aliases q.name

-- ---- without an alias

direct_by : (zone : ZoneContent) (owner : DomainName) (rows aliases : List Row) (on_alias : Row → Answer) → aliases ≡ [] → answer_by zone owner rows aliases on_alias ≡ direct_answer zone owner rows
direct_by zone owner [] [] on_alias none = refl
direct_by zone owner [] (alias ∷ more) on_alias none = absurd (cc)
direct_by zone owner (row ∷ rows) aliases on_alias none = refl

direct_at : (links : ℕ) (zone : ZoneContent) (t : RecordType) (owner : DomainName) → rows_at zone.rows owner.labels types.CNAME ≡ []
    → answer_at links zone t owner ≡ direct_answer zone owner (rows_at zone.rows owner.labels t)
unfolding answer_at
direct_at zero zone t owner none = direct_by zone owner (rows_at zone.rows owner.labels t) (rows_at zone.rows owner.labels types.CNAME) _ none
direct_at (suc links) zone t owner none = direct_by zone owner (rows_at zone.rows owner.labels t) (rows_at zone.rows owner.labels types.CNAME) _ none

pub answered_directly : (zone : ZoneContent) (q : Query) → is_refused zone q ≡ false → rows_at zone.rows q.name.labels types.CNAME ≡ []
    → answer zone q ≡ direct_answer zone q.name (rows_at zone.rows q.name.labels q.query_type)
answered_directly zone q accepted none = by_cases (is_no_row_type (type_number q.query_type)) (not (class_number q.query_class == 1) || not (at_or_below zone.origin.labels q.name.labels)) accepted
  where
    by_cases : (a b : Bool) → a || b ≡ false
        → cond a (bare NotImp) (cond b (bare Refused) (answer_at max_aliases zone q.query_type q.name)) ≡ direct_answer zone q.name (rows_at zone.rows q.name.labels q.query_type)
    by_cases true b e = absurd (cc)
    by_cases false true e = absurd (cc)
    by_cases false false e = direct_at max_aliases zone q.query_type q.name none
