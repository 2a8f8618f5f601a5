-- Requests that are added to a batch, and loops over them.
use Rattle.std.proofs.Common.{◌≡◌, ◌≤◌, ◌<◌, ◌-◌, ℕ, suc, Bool, true, false, List, [], ◌∷◌, ◌++◌, length, take, drop, get_or, map, Option, Result, Ok, Err, refl, sym, ap, subst, ◌∙◌, ◌⊎◌, ⊎_elim, arith, append_assoc, append-nil}
use Rattle.std.proofs.lemmas.List.{take_all}
use Rattle.std.specs.Prelude.{OnErr}
use Rattle.dns_message_bytes.specs.frames.Frame.{stream_of}
use Rattle.dns_zone.specs.Rows.{ZoneContent}
use Rattle.dns_authority.specs.declared.service.answering.Answering.{Answering}
use Rattle.dns_durable.specs.Durable.{TakesFront}
use Rattle.dns_durable.specs.Incoming.{AreAdmitted, AreJudged, IsAdmitted, IsJudgedIfAny, IsShortIfAny, change_of, changes_in}
use Rattle.dns_durable.specs.Incoming.AreAdmitted.{no_request, a_request}
use Rattle.dns_durable.specs.Reply.{AnswersAll, AnswersOne, zones_left}
use Rattle.dns_durable.specs.Reply.AnswersAll.{no_request as no_reply, a_request as a_reply}
use Rattle.dns_durable.specs.Rule.{entry_of, entry_with, step_of}
use Rattle.dns_durable.specs.declared.incoming.Arrived.{Arrived}
use Rattle.dns_durable.specs.declared.incoming.Arrived.TheVariants.{Request, Other}
use Rattle.dns_durable.specs.declared.incoming.Incoming.{Incoming}
use Rattle.dns_durable.specs.declared.policy.Policy.{Policy}
use Rattle.dns_durable.proofs.AnsweringLaws.{front_one_more, left_by_one, no_front}
use Rattle.dns_durable.proofs.RuleLaws.{entry_append}

-- ---- requests

pub short_if_any : (policy : Policy) (incoming : Incoming) (a : Arrived) → IsAdmitted policy incoming a → IsShortIfAny a
short_if_any policy incoming (Request a) is = is.1.short
short_if_any policy incoming (Other bytes) is = tt

-- requests that are decoded and verified are judged
judged_if_any : (policy : Policy) (incoming : Incoming) (a : Arrived) → IsAdmitted policy incoming a → IsJudgedIfAny policy a
judged_if_any policy incoming (Request a) is = is.1
judged_if_any policy incoming (Other bytes) is = tt

pub all_judged : (policy : Policy) (requests : List Incoming) (admitted : List Arrived) → AreAdmitted policy requests admitted → AreJudged policy admitted
all_judged policy requests admitted no_request = tt
all_judged policy requests admitted (a_request {incoming = incoming} {more = more} {a = a} {others = others} is rest) = (judged_if_any policy incoming a is, all_judged policy more others rest)

changes_append : (l : List Arrived) (a : Arrived) → changes_in (l ++ a ∷ []) ≡ changes_in l ++ change_of a
changes_append [] a = append-nil (change_of a)
changes_append (b ∷ l) a = ap (λ (rest : List (List ℕ)). change_of b ++ rest) (changes_append l a) ∙ sym (append_assoc (change_of b) (changes_in l) (change_of a))

-- the entry of a batch with one request more
pub entry_added : (answering : Answering) (old : List Arrived) (a : Arrived) (entry new : List ℕ) (items : List Arrived) → entry ≡ entry_of answering (changes_in old)
    → items ≡ old ++ a ∷ [] → new ≡ entry_with answering entry (change_of a) → new ≡ entry_of answering (changes_in items)
entry_added answering old a entry new items are items_are new_is =
    new_is ∙ ap (λ (l : List ℕ). entry_with answering l (change_of a)) are ∙ entry_append answering (changes_in old) (change_of a)
    ∙ sym (ap (λ (l : List (List ℕ)). entry_of answering l) (changes_append old a)) ∙ sym (ap (λ (l : List Arrived). entry_of answering (changes_in l)) items_are)

-- one request more of those that are left
pub admitted_go_on : (policy : Policy) (xs : List Incoming) (d : Incoming) (old items : List Arrived) (a : Arrived) (all : List Incoming) → 1 ≤ length xs
    → ((more : List Arrived) → AreAdmitted policy xs more → AreAdmitted policy all (old ++ more)) → IsAdmitted policy (get_or xs 0 d) a → items ≡ old ++ a ∷ []
    → (more : List Arrived) → AreAdmitted policy (take (length xs - 1) (drop 1 xs)) more → AreAdmitted policy all (items ++ more)
admitted_go_on policy [] d old items a all some completes is items_are more rest = absurd (omega (arith, some))
admitted_go_on policy (x ∷ xs) d old items a all some completes is items_are more rest =
    let same : take (suc (length xs) - 1) xs ≡ xs = take_all (suc (length xs) - 1) xs (omega arith) in
    subst (λ (l : List Arrived). AreAdmitted policy all l) (sym (append_assoc old (a ∷ []) more) ∙ sym (ap (λ (l : List Arrived). l ++ more) items_are))
    (completes (a ∷ more) (a_request is (subst (λ (l : List Incoming). AreAdmitted policy l more) same rest)))

-- no request is left
pub admitted_end : (policy : Policy) (xs : List Incoming) (items : List Arrived) (all : List Incoming) → length xs < 1
    → ((more : List Arrived) → AreAdmitted policy xs more → AreAdmitted policy all (items ++ more)) → AreAdmitted policy all items
admitted_end policy [] items all none completes = subst (λ (l : List Arrived). AreAdmitted policy all l) (append-nil items) (completes [] no_request)
admitted_end policy (x ∷ xs) items all none completes = absurd (omega (arith, none))

-- ---- replies

-- a request of those that are left is judged, and so are the others
pub first_judged : (policy : Policy) (xs : List Arrived) (d : Arrived) → 1 ≤ length xs → AreJudged policy xs → IsJudgedIfAny policy (get_or xs 0 d)
first_judged policy [] d some judged = absurd (omega (arith, some))
first_judged policy (x ∷ xs) d some judged = judged.0

pub others_judged : (policy : Policy) (xs : List Arrived) → 1 ≤ length xs → AreJudged policy xs → AreJudged policy (take (length xs - 1) (drop 1 xs))
others_judged policy [] some judged = absurd (omega (arith, some))
others_judged policy (x ∷ xs) some judged =
    let same : take (suc (length xs) - 1) xs ≡ xs = take_all (suc (length xs) - 1) xs (omega arith) in
    subst (λ (l : List Arrived). AreJudged policy l) (sym same) judged.1

-- no request was answered yet
pub replies_begin : {T : Type 0} (policy : Policy) (stored : Bool) (start : List ZoneContent) (all : List Arrived) (f : T → Option (List ℕ)) (items : List T) → items ≡ []
    → (more : List (Option (List ℕ))) (end : List ZoneContent) → AnswersAll policy stored start all more end → AnswersAll policy stored start all (map f items ++ more) end
replies_begin policy stored start all f [] none more end rest = rest
replies_begin policy stored start all f (x ∷ items) none more end rest = absurd cc

pub replies_go_on : (policy : Policy) (stored : Bool) (xs : List Arrived) (d : Arrived) (start now mid : List ZoneContent) (all : List Arrived)
    (old items : List (Option (List ℕ))) (reply : Option (List ℕ)) → 1 ≤ length xs
    → ((more : List (Option (List ℕ))) (end : List ZoneContent) → AnswersAll policy stored now xs more end → AnswersAll policy stored start all (old ++ more) end)
    → AnswersOne policy stored now mid (get_or xs 0 d) reply → items ≡ old ++ reply ∷ []
    → (more : List (Option (List ℕ))) (end : List ZoneContent) → AnswersAll policy stored mid (take (length xs - 1) (drop 1 xs)) more end
    → AnswersAll policy stored start all (items ++ more) end
replies_go_on policy stored [] d start now mid all old items reply some completes one items_are more end rest = absurd (omega (arith, some))
replies_go_on policy stored (x ∷ xs) d start now mid all old items reply some completes one items_are more end rest =
    let same : take (suc (length xs) - 1) xs ≡ xs = take_all (suc (length xs) - 1) xs (omega arith) in
    subst (λ (l : List (Option (List ℕ))). AnswersAll policy stored start all l end)
    (sym (append_assoc old (reply ∷ []) more) ∙ sym (ap (λ (l : List (Option (List ℕ))). l ++ more) items_are))
    (completes (reply ∷ more) end (a_reply one (subst (λ (l : List Arrived). AnswersAll policy stored mid l more end) same rest)))

pub replies_end : (policy : Policy) (stored : Bool) (xs : List Arrived) (start now : List ZoneContent) (all : List Arrived) (items : List (Option (List ℕ))) → length xs < 1
    → ((more : List (Option (List ℕ))) (end : List ZoneContent) → AnswersAll policy stored now xs more end → AnswersAll policy stored start all (items ++ more) end)
    → AnswersAll policy stored start all items now
replies_end policy stored [] start now all items none completes =
    subst (λ (l : List (Option (List ℕ))). AnswersAll policy stored start all l now) (append-nil items) (completes [] now no_reply)
replies_end policy stored (x ∷ xs) start now all items none completes = absurd (omega (arith, none))

-- a front of those that are left is one of all
pub front_go_on : (policy : Policy) (xs : List Arrived) (d : Arrived) (start now mid end : List ZoneContent) (all : List Arrived) → 1 ≤ length xs
    → ((last : List ZoneContent) → TakesFront (step_of policy.answering) now (stream_of (changes_in xs)) last → TakesFront (step_of policy.answering) start (stream_of (changes_in all)) last)
    → IsJudgedIfAny policy (get_or xs 0 d) → mid ≡ zones_left policy.answering true now (get_or xs 0 d)
    → TakesFront (step_of policy.answering) mid (stream_of (changes_in (take (length xs - 1) (drop 1 xs)))) end → TakesFront (step_of policy.answering) start (stream_of (changes_in all)) end
front_go_on policy [] d start now mid end all some completes judged left front = absurd (omega (arith, some))
front_go_on policy (x ∷ xs) d start now mid end all some completes judged left front =
    let same : take (suc (length xs) - 1) xs ≡ xs = take_all (suc (length xs) - 1) xs (omega arith) in
    completes end (front_one_more policy now mid end x (changes_in xs) judged left (subst (λ (l : List Arrived). TakesFront (step_of policy.answering) mid (stream_of (changes_in l)) end) same front))

-- the map of replies with one more
pub mapped_more : {T U : Type 0} (f : T → U) (l : List T) (x : T) (m : List T) → m ≡ l ++ x ∷ [] → map f m ≡ map f l ++ f x ∷ []
mapped_more f l x m is = ap (map f) is ∙ mapped_append f l x where
  mapped_append : {T U : Type 0} (f : T → U) (l : List T) (x : T) → map f (l ++ x ∷ []) ≡ map f l ++ f x ∷ []
  mapped_append f [] x = refl
  mapped_append f (y ∷ l) x = ap (λ (rest : _). f y ∷ rest) (mapped_append f l x)

-- ---- a loop that stops

-- what holds anyway, holds after an error
pub on_error : {T E : Type 0} (result : Result T E) (P : Type 0) → P → OnErr result P
on_error (Ok x) P holds = tt
on_error (Err e) P holds = holds

-- the zones after a request that failed, or that was the last one, are those after a front of the updates
pub front_stop : (policy : Policy) (xs : List Arrived) (d : Arrived) (stored : Bool) (start now mid : List ZoneContent) (all : List Arrived) → stored ≡ true → 1 ≤ length xs
    → (stored ≡ true → (last : List ZoneContent) → TakesFront (step_of policy.answering) now (stream_of (changes_in xs)) last → TakesFront (step_of policy.answering) start (stream_of (changes_in all)) last) → AreJudged policy xs
    → (mid ≡ now) ⊎ (mid ≡ zones_left policy.answering stored now (get_or xs 0 d)) → TakesFront (step_of policy.answering) start (stream_of (changes_in all)) mid
front_stop policy xs d false start now mid all is some completes judged left = absurd cc
front_stop policy xs d true start now mid all is some completes judged left = ⊎_elim
    (λ same. completes refl mid (subst (λ (z : List ZoneContent). TakesFront (step_of policy.answering) z (stream_of (changes_in xs)) mid) same (no_front (step_of policy.answering) mid (stream_of (changes_in xs)))))
    (λ after. front_go_on policy xs d start now mid mid all some (completes refl) (first_judged policy xs d some judged) after
    (no_front (step_of policy.answering) mid (stream_of (changes_in (take (length xs - 1) (drop 1 xs)))))) left

-- an answered request leaves what it may
pub answered_left : (policy : Policy) (stored : Bool) (b : Bool) (now mid : List ZoneContent) (a : Arrived) (reply : Option (List ℕ)) → stored ≡ b → AnswersOne policy stored now mid a reply
    → mid ≡ zones_left policy.answering b now a
answered_left policy stored b now mid a reply is one = left_by_one policy stored now mid a reply one ∙ ap (λ (x : Bool). zones_left policy.answering x now a) is

-- ---- one zone

pub only_one : {T : Type 0} (xs : List T) (x : T) → 1 ≤ length xs → length xs < 2 → x ≡ get_or xs 0 x → xs ≡ x ∷ []
only_one [] x some few is = absurd (omega (arith, some))
only_one (y ∷ []) x some few is = ap (λ (z : _). z ∷ []) (sym is)
only_one (y ∷ z ∷ l) x some few is = absurd (omega (arith, few))
