-- What rules make of requests.
use Rattle.std.proofs.Common.{◌≡◌, ◌∙◌, ap, subst, get_or, inl, inr, sym, List, [], ◌∷◌, ℕ, Bool, true, false, Option, Some, None, refl}
use Rattle.std.specs.Prelude.{IfOk, OnErr, Result, Ok, Err}
use Rattle.std.specs.declared.alloc.AllocError.{AllocError}
use Rattle.dns_durable.specs.declared.incoming.Terms.{Terms}
use Rattle.dns_faults.specs.Decided.{Decides, deciding}
use Rattle.dns_faults.specs.declared.decided.Decided.{Decided}
use Rattle.dns_faults.specs.declared.delivery.Delivery.{Delivery}
use Rattle.dns_faults.specs.declared.rules.fault.Service.{Service}
use Rattle.dns_faults.specs.declared.rules.fault.Service.TheVariants as services
use Rattle.dns_faults.specs.declared.rules.fault.Transport.{Transport}
use Rattle.dns_faults.specs.declared.rules.table.CountedRule.{CountedRule}
use Rattle.dns_journal.specs.Event.{Event}
use Rattle.dns_messages.specs.declared.message.Message.{Message}
use Rattle.dns_messages.specs.declared.query.Query.{Query}
use Rattle.dns_nameserver.specs.Former.{Former}
use Rattle.dns_sockets.specs.Handler.{RequestContent}
use Rattle.dns_tsig.specs.declared.verify.Checked.{Checked}
use Rattle.nameserver_handlers.specs.ByRules.{AnswersAs, AnswersBy, AnswersOne, ByCurrent, ByFormerIf, ByService, HasOneQuestion, TransferredUnless, asks_former, stops}
use Rattle.nameserver_handlers.specs.Handling.{IsTerms, Keeping, LeavesTogether}

-- what holds holds where there is an error
pub on_error : {T E : Type 0} (r : Result T E) (P : Type 0) → P → OnErr r P
on_error (Ok done) P p = tt
on_error (Err error) P p = p

-- a rule decides for requests with one question alone
pub one_question : (table : List CountedRule) (transport : Transport) (m : Message) (rule : CountedRule) → deciding table transport m.queries ≡ Some rule → HasOneQuestion m
one_question table transport m rule is = by m.queries refl is
  where
    by : (queries : List Query) → m.queries ≡ queries → deciding table transport queries ≡ Some rule → HasOneQuestion m
    by [] are none = absurd (cc none)
    by (q ∷ []) are one = record { question = q; queries_are = are }
    by (q ∷ r ∷ more) are none = absurd (cc none)

-- the only item of a list
pub only_item : (queries : List Query) (q item : Query) → queries ≡ q ∷ [] → item ≡ get_or queries 0 item → queries ≡ item ∷ []
only_item queries q item are is = are ∙ ap (λ (x : Query). x ∷ []) (sym (is ∙ ap (λ (l : List Query). get_or l 0 item) are))

module _ {S : Type 0} (performs : S → Event → S → Type 0) (old new : Keeping S) (r : RequestContent) (terms : Terms) (are : IsTerms old.settings r terms) where
  current_leaves : (reply : Option (List ℕ)) → ByCurrent performs old r terms reply new → LeavesTogether performs old (r ∷ []) new
  current_leaves reply is = inr (Some (reply ∷ []), record { terms = terms ∷ []; are_terms = (are, refl); served = is })

  former_leaves : (asks : Bool) (f : Option Former) (m : Message) (checked : Checked) (reply : Option (List ℕ)) → ByFormerIf performs asks f old r terms m checked reply new
      → LeavesTogether performs old (r ∷ []) new
  former_leaves true (Some f) m checked reply is = inl is.unchanged
  former_leaves true None m checked reply is = current_leaves reply is
  former_leaves false f m checked reply is = current_leaves reply is

  -- the service of a rule leaves what the service of a request may leave
  pub service_leaves : (service : Service) (m : Message) (reply : Option (List ℕ)) → ByService performs service old r terms m reply new → LeavesTogether performs old (r ∷ []) new
  service_leaves services.Plain m reply is = current_leaves reply is
  service_leaves services.Stale m reply is = former_leaves (asks_former m.metadata.op_code is.checked.verdict) old.former m is.checked reply is.answered
  service_leaves services.Drop m reply is = inl is.1
  service_leaves (services.Code number) m reply is = inl is.unchanged

module _ {S : Type 0} (performs : S → Event → S → Type 0) (old new : Keeping S) (r : RequestContent) where
  -- a request that is for no transfer is answered by a rule, or without a fault
  pub as_decided : (decided : Option Decided) (found : Option (List ℕ)) (result : Result Delivery AllocError) → found ≡ None → TransferredUnless (stops decided) old r found
      → IfOk result (λ d. AnswersBy performs decided old r d new) → IfOk result (λ d. AnswersAs performs decided old r d new)
  as_decided decided found (Ok d) none transferred answers = (None, (subst (λ (f : Option (List ℕ)). TransferredUnless (stops decided) old r f) none transferred, answers))
  as_decided decided found (Err error) none transferred answers = tt

  -- by what a table decides for it
  pub one_decided : (decided : Option Decided) (result : Result Delivery AllocError) → Decides old.faults r.bytes r.transport decided
      → IfOk result (λ d. AnswersAs performs decided old r d new) → IfOk result (λ d. AnswersOne performs old r d new)
  one_decided decided (Ok d) decides answers = (decided, (decides, answers))
  one_decided decided (Err error) decides answers = tt
