-- Requests that are handled one after another.
use Rattle.std.proofs.Common.{◌≡◌, ◌∙◌, ◌+◌, ◌<◌, ◌≤◌, ℕ, List, [], ◌∷◌, ◌++◌, length, map, take, drop, get_or, append_assoc, refl, sym, ap, subst}
use Rattle.std.proofs.lemmas.List.{map-append, take-append-drop, take_all, take_more}
use Rattle.dns_faults.specs.declared.delivery.Delivery.{Delivery}
use Rattle.dns_journal.specs.Event.{Event}
use Rattle.dns_sockets.specs.Handler.{RequestContent, request_content}
use Rattle.dns_sockets.specs.declared.handler.Request.{Request}
use Rattle.nameserver_handlers.specs.ByRules.{AnswersEach, AnswersOne, LeavesEach}
use Rattle.nameserver_handlers.specs.ByRules.LeavesEach.{more_left, none_left, one_left}
use Rattle.nameserver_handlers.specs.Handling.{Keeping, LeavesTogether}

module _ {S : Type 0} (performs : S → Event → S → Type 0) where
  -- one more request is answered
  answers_more : (old mid new : Keeping S) (rs : List RequestContent) (r : RequestContent) (ds : List Delivery) (d : Delivery) → AnswersEach performs old rs ds mid → AnswersOne performs mid r d new
      → AnswersEach performs old (rs ++ r ∷ []) (ds ++ d ∷ []) new
  answers_more old mid new [] r ds d all one =
      subst (λ (before : List Delivery). AnswersEach performs old (r ∷ []) (before ++ d ∷ []) new) (sym all.0) (new, (subst (λ (k : Keeping S). AnswersOne performs k r d new) all.1 one, (refl, refl)))
  answers_more old mid new (q ∷ rs) r [] d all one = absurd all
  answers_more old mid new (q ∷ rs) r (e ∷ ds) d all one = (all.0, (all.1.0, answers_more all.0 mid new rs r ds d all.1.1 one))

  -- others are left behind some that are answered
  leaves_then : (old mid new : Keeping S) (rs more : List RequestContent) (ds : List Delivery) → AnswersEach performs old rs ds mid → LeavesEach performs mid more new → LeavesEach performs old (rs ++ more) new
  leaves_then old mid new [] more ds all rest = subst (λ (k : Keeping S). LeavesEach performs k more new) all.1 rest
  leaves_then old mid new (q ∷ rs) more [] all rest = absurd all
  leaves_then old mid new (q ∷ rs) more (e ∷ ds) all rest = more_left old q (rs ++ more) e all.0 new all.1.0 (leaves_then all.0 mid new rs more ds all.1.1 rest)

  -- the same for requests up to an index
  pub answered_more : (old mid new : Keeping S) (requests : List Request) (i : ℕ) (default : Request) (ds more : List Delivery) (d : Delivery) → i < length requests → more ≡ ds ++ d ∷ []
      → AnswersEach performs old (map request_content (take i requests)) ds mid → AnswersOne performs mid (request_content (get_or requests i default)) d new
      → AnswersEach performs old (map request_content (take (i + 1) requests)) more new
  answered_more old mid new requests i default ds more d below is all one =
      subst (λ (all : List Delivery). AnswersEach performs old (map request_content (take (i + 1) requests)) all new) (sym is)
      (subst (λ (rs : List RequestContent). AnswersEach performs old rs (ds ++ d ∷ []) new) (sym (ap (map request_content) (take_more requests i default below) ∙ map-append request_content (take i requests) (get_or requests i default ∷ [])))
      (answers_more old mid new (map request_content (take i requests)) (request_content (get_or requests i default)) ds d all one))

  module _ (requests : List Request) (i : ℕ) (default : Request) (below : i < length requests) where
    at_index : map request_content requests ≡ map request_content (take i requests) ++ request_content (get_or requests i default) ∷ map request_content (drop (i + 1) requests)
    at_index =
        ap (map request_content) (sym (take-append-drop (i + 1) requests)) ∙ map-append request_content (take (i + 1) requests) (drop (i + 1) requests)
        ∙ ap (λ (first : List RequestContent). first ++ map request_content (drop (i + 1) requests))
        (ap (map request_content) (take_more requests i default below) ∙ map-append request_content (take i requests) (get_or requests i default ∷ []))
        ∙ append_assoc (map request_content (take i requests)) (request_content (get_or requests i default) ∷ []) (map request_content (drop (i + 1) requests))

    -- memory is refused for one of them
    pub stopped_at : (old mid new : Keeping S) (ds : List Delivery) → AnswersEach performs old (map request_content (take i requests)) ds mid
        → LeavesTogether performs mid (request_content (get_or requests i default) ∷ []) new → LeavesEach performs old (map request_content requests) new
    stopped_at old mid new ds all one =
        subst (λ (rs : List RequestContent). LeavesEach performs old rs new) (sym at_index)
        (leaves_then old mid new (map request_content (take i requests)) (request_content (get_or requests i default) ∷ map request_content (drop (i + 1) requests)) ds all
        (one_left mid (request_content (get_or requests i default)) (map request_content (drop (i + 1) requests)) new one))

    -- memory is refused once it is answered
    pub stopped_behind : (old mid new : Keeping S) (ds : List Delivery) (d : Delivery) → AnswersEach performs old (map request_content (take i requests)) ds mid
        → AnswersOne performs mid (request_content (get_or requests i default)) d new → LeavesEach performs old (map request_content requests) new
    stopped_behind old mid new ds d all one =
        subst (λ (rs : List RequestContent). LeavesEach performs old rs new) (sym at_index)
        (leaves_then old mid new (map request_content (take i requests)) (request_content (get_or requests i default) ∷ map request_content (drop (i + 1) requests)) ds all
        (more_left mid (request_content (get_or requests i default)) (map request_content (drop (i + 1) requests)) d new new one (none_left new (map request_content (drop (i + 1) requests)))))

  -- all requests are answered
  pub answered_whole : (old new : Keeping S) (requests : List Request) (i : ℕ) (ds : List Delivery) → length requests ≤ i → AnswersEach performs old (map request_content (take i requests)) ds new
      → AnswersEach performs old (map request_content requests) ds new
  answered_whole old new requests i ds all answers = subst (λ (rs : List Request). AnswersEach performs old (map request_content rs) ds new) (take_all i requests all) answers
