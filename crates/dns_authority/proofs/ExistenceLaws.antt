-- The code of an answer, and whether names exist.
use Rattle.std.proofs.Common.{◌≡◌, ◌≤◌, ◌==◌, Bool, true, false, not, cond, ℕ, zero, suc, List, [], ◌∷◌, map, refl, ap, ◌∙◌, arith, Option, Some, None}
use Rattle.dns_wire.specs.codes.DNSClass.{class_number}
use Rattle.dns_wire.specs.declared.codes.record_type.RecordType.TheVariants as types
use Rattle.dns_names.specs.Name.{DomainName}
use Rattle.dns_messages.specs.declared.query.Query.{Query}
use Rattle.dns_messages.specs.declared.response_code.ResponseCode.{ResponseCode}
use Rattle.dns_messages.specs.declared.response_code.ResponseCode.TheVariants.{NoError, NXDomain, NotImp, Refused}
use Rattle.dns_records.specs.Record.{Record}
use Rattle.dns_records.specs.declared.row.Row.{Row}
use Rattle.dns_zone.specs.Rows.{ZoneContent, rows_at}
use Rattle.dns_zone.specs.Answer.{max_aliases, record_of}
use Rattle.dns_authority.specs.steps.Barrier.{barrier, is_cut}
use Rattle.dns_authority.specs.steps.Redirection.{dname_target}
use Rattle.dns_authority.specs.steps.Wildcard.{answering_name}
use Rattle.dns_authority.specs.declared.answer.AuthorityAnswer.{AuthorityAnswer}
use Rattle.dns_authority.specs.declared.asked.AnyAnswer.{AnyAnswer}
use Rattle.dns_authority.specs.declared.asked.Asked.{Asked}
use Rattle.dns_authority.specs.declared.step.Step.{Step}
use Rattle.dns_authority.specs.declared.step.Step.TheVariants.{End, Links}
use Rattle.dns_authority.specs.Asked.{asked_rows}
use Rattle.dns_authority.specs.Step.{negative, positive, redirect, redirected, referral, refusal, step, step_at, step_below, step_by, step_in, step_to, step_with, zone_for}
use Rattle.dns_authority.specs.Answer.{after_records, after_step, answer_at, authority_answer, is_unanswered, rest_at}
use Rattle.dns_authority.specs.Existence.{DoesNotExist, Leads, LeadsNowhere}
use Rattle.dns_authority.specs.Existence.Leads.{here, along}

-- the code of a step that ends the answer; a step over aliases has none
abbrev step_code : Step → ResponseCode
step_code (End a) = a.code
step_code (Links records next) = NoError

module _ (zones : List ZoneContent) (asked : Asked) (owner : DomainName) where
  -- ---- only a name that does not exist is answered so

  rows_exist : (zone : ZoneContent) (records : List Record) (aliases : List Row) → step_code (step_by zones zone owner records aliases) ≡ NXDomain → ⊥
  rows_exist zone [] [] e = absurd (cc)
  rows_exist zone [] (alias ∷ more) e = absurd (cc)
  rows_exist zone (r ∷ records) aliases e = absurd (cc)

  redirects : (at : DomainName) (dname : Row) (made : Option DomainName) → step_code (redirected zones asked.record_type owner at dname made) ≡ NXDomain → ⊥
  redirects at dname None e = absurd (cc)
  redirects at dname (Some name) e = absurd (cc)

  is_redirected : (at : DomainName) (dname : Row) (target : Option DomainName) → step_code (step_to zones asked.record_type owner at dname target) ≡ NXDomain → ⊥
  is_redirected at dname None e = absurd (cc)
  is_redirected at dname (Some target) e = redirects at dname (redirect owner at target) e

  is_below : (at : DomainName) (rows : List Row) → step_code (step_below zones asked.record_type owner at rows) ≡ NXDomain → ⊥
  is_below at [] e = absurd (cc)
  is_below at (dname ∷ more) e = is_redirected at dname (dname_target dname.rdata) e

  is_over : (zone : ZoneContent) (at : DomainName) (b : Bool)
      → step_code (cond b (End (referral zone at)) (step_below zones asked.record_type owner at (rows_at zone.rows at.labels types.DNAME))) ≡ NXDomain → ⊥
  is_over zone at true e = absurd (cc)
  is_over zone at false e = is_below at (rows_at zone.rows at.labels types.DNAME) e

  no_name_at : (zone : ZoneContent) (source : Option DomainName) → step_code (step_at zones zone asked owner source) ≡ NXDomain → source ≡ None
  no_name_at zone None e = refl
  no_name_at zone (Some source) e = absurd (rows_exist zone (map (record_of owner) (asked_rows asked zone.rows source.labels)) (rows_at zone.rows source.labels types.CNAME) e)

  no_name_with : (zone : ZoneContent) (at : Option DomainName) → step_code (step_with zones zone asked owner at) ≡ NXDomain → (at ≡ None) × (answering_name zone.rows owner ≡ None)
  no_name_with zone None e = (refl, no_name_at zone (answering_name zone.rows owner) e)
  no_name_with zone (Some at) e = absurd (is_over zone at (is_cut zone at) e)

  no_name_in : (found : Option ZoneContent) → zone_for zones asked.record_type owner ≡ found → step_code (step_in zones asked owner found) ≡ NXDomain → DoesNotExist zones asked owner
  no_name_in None is e = absurd (cc)
  no_name_in (Some zone) is e =
      let both = no_name_with zone (barrier zone asked.record_type owner) e in
      record { zone = zone; zone_is = is; no_barrier = both.0; no_name = both.1 }

  -- a step with this code is at a name that does not exist
  pub no_name : step_code (step zones asked owner) ≡ NXDomain → DoesNotExist zones asked owner
  no_name e = no_name_in (zone_for zones asked.record_type owner) refl e

  -- and the step at a name that does not exist has this code
  pub ends_there : (f : DoesNotExist zones asked owner) → step zones asked owner ≡ End (negative f.zone NXDomain)
  ends_there f =
      ap (step_in zones asked owner) f.zone_is ∙ ap (step_with zones f.zone asked owner) f.no_barrier ∙ ap (step_at zones f.zone asked owner) f.no_name

-- ---- along aliases

module _ (zones : List ZoneContent) (asked : Asked) where
  abbrev Nowhere : ℕ → DomainName → Type 0
  Nowhere links owner = LeadsNowhere links zones asked owner

  at_once : (links : ℕ) (owner : DomainName) → DoesNotExist zones asked owner → Nowhere links owner
  at_once links owner f = record { count = 0; end = owner; few = omega arith; leads = here owner; fails = f }

  one_more : (links : ℕ) (owner next : DomainName) (records : List Record) → step zones asked owner ≡ Links records (Some next) → Nowhere links next → Nowhere (suc links) owner
  one_more links owner next records is n = record {
    count = suc n.count;
    end = n.end;
    few = omega (arith, n.few);
    leads = along n.count owner next n.end records is n.leads;
    fails = n.fails;
  }

  next_fails : (links : ℕ) (owner : DomainName) (records : List Record) (next : Option DomainName) → step zones asked owner ≡ Links records next
      → ((name : DomainName) → (answer_at links zones asked name).code ≡ NXDomain → Nowhere links name)
      → (rest_at (answer_at links zones asked) next).code ≡ NXDomain → Nowhere (suc links) owner
  next_fails links owner records None is more e = absurd (cc)
  next_fails links owner records (Some name) is more e = one_more links owner name records is (more name e)

  last_fails : (owner : DomainName) (s : Step) → step zones asked owner ≡ s → (after_step s (λ records next. positive [])).code ≡ NXDomain → Nowhere 0 owner
  last_fails owner (End a) is e = at_once 0 owner (no_name zones asked owner (ap step_code is ∙ e))
  last_fails owner (Links records next) is e = absurd (cc)

  step_fails : (links : ℕ) (owner : DomainName) (s : Step) → step zones asked owner ≡ s
      → ((name : DomainName) → (answer_at links zones asked name).code ≡ NXDomain → Nowhere links name)
      → (after_step s (λ records next. after_records records (rest_at (answer_at links zones asked) next))).code ≡ NXDomain → Nowhere (suc links) owner
  step_fails links owner (End a) is more e = at_once (suc links) owner (no_name zones asked owner (ap step_code is ∙ e))
  step_fails links owner (Links records next) is more e = next_fails links owner records next is more e

  answer_fails : (links : ℕ) (owner : DomainName) → (answer_at links zones asked owner).code ≡ NXDomain → Nowhere links owner
  unfolding answer_at
  answer_fails zero owner e = last_fails owner (step zones asked owner) refl e
  answer_fails (suc links) owner e = step_fails links owner (step zones asked owner) refl (answer_fails links) e

  ended : (links : ℕ) (owner : DomainName) (a : AuthorityAnswer) → step zones asked owner ≡ End a → answer_at links zones asked owner ≡ a
  unfolding answer_at
  ended zero owner a is = ap (λ (s : Step). after_step s (λ records next. positive [])) is
  ended (suc links) owner a is = ap (λ (s : Step). after_step s (λ records next. after_records records (rest_at (answer_at links zones asked) next))) is

  goes_on : (links : ℕ) (owner next : DomainName) (records : List Record) → step zones asked owner ≡ Links records (Some next)
      → (answer_at (suc links) zones asked owner).code ≡ (answer_at links zones asked next).code
  unfolding answer_at
  goes_on links owner next records is =
      ap (λ (s : Step). (after_step s (λ records next. after_records records (rest_at (answer_at links zones asked) next))).code) is

  leads_to : (count links : ℕ) (owner end : DomainName) → count ≤ links → Leads zones asked count owner end → DoesNotExist zones asked end → (answer_at links zones asked owner).code ≡ NXDomain
  leads_to count links owner end few (here name) f = ap (λ (a : AuthorityAnswer). a.code) (ended links name (negative f.zone NXDomain) (ends_there zones asked name f))
  leads_to count zero owner end few (along less name next last records is more) f = absurd (omega (arith, few))
  leads_to count (suc links) owner end few (along less name next last records is more) f =
      goes_on links name next records is ∙ leads_to less links next last (omega (arith, few)) more f

-- ---- the answer

pub fails_nowhere : (any : AnyAnswer) (zones : List ZoneContent) (q : Query) → (authority_answer any zones q).code ≡ NXDomain
    → LeadsNowhere max_aliases zones (record { record_type = q.query_type; any = any }) q.name
fails_nowhere any zones q e = by (is_unanswered q.query_type) (not (class_number q.query_class == 1)) e
  where
    asked : Asked
    asked = record { record_type = q.query_type; any = any }

    by : (a b : Bool) → (cond a (refusal NotImp) (cond b (refusal Refused) (answer_at max_aliases zones asked q.name))).code ≡ NXDomain
        → LeadsNowhere max_aliases zones asked q.name
    by true b e = absurd (cc)
    by false true e = absurd (cc)
    by false false e = answer_fails zones asked max_aliases q.name e

pub nowhere_fails : (any : AnyAnswer) (zones : List ZoneContent) (q : Query) → is_unanswered q.query_type ≡ false → class_number q.query_class ≡ 1
    → LeadsNowhere max_aliases zones (record { record_type = q.query_type; any = any }) q.name → (authority_answer any zones q).code ≡ NXDomain
nowhere_fails any zones q answered in_class n =
    ap (λ (b : Bool). (cond b (refusal NotImp) (cond (not (class_number q.query_class == 1)) (refusal Refused) (answer_at max_aliases zones asked q.name))).code) answered
    ∙ ap (λ (k : ℕ). (cond (not (k == 1)) (refusal Refused) (answer_at max_aliases zones asked q.name)).code) in_class
    ∙ leads_to zones asked n.count max_aliases q.name n.end n.few n.leads n.fails
  where
    asked : Asked
    asked = record { record_type = q.query_type; any = any }
