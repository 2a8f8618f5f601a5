-- Lookups with the same cache, settings, moment and outcomes agree; and a lookup that is answered at once.
use Rattle.std.proofs.Common.{cond, ◌≡◌, ℕ, zero, suc, ◌<◌, ◌&&◌, ◌||◌, ◌++◌, not, Bool, true, false, List, [], ◌∷◌, length, get_or, map, Option, Some, None, Ok, Err, refl, sym, ap, subst, ◌∙◌, inl, inr, arith}
use Rattle.std.specs.Prelude.{◌≢◌}
use Rattle.std.specs.List.{filter, list_any}
use Rattle.std.proofs.lemmas.Bool.{or_left, or_right}
use Rattle.dns_records.specs.Record.{Record}
use Rattle.dns_messages.specs.Message.{all_records}
use Rattle.dns_messages.specs.Response.{is_empty}
use Rattle.dns_messages.specs.declared.message.Message.{Message}
use Rattle.dns_messages.specs.declared.query.Query.{Query}
use Rattle.dns_messages.specs.declared.response.DnsResponse.{DnsResponse}
use Rattle.stub_cache.specs.Cache.{CacheContent, Kept, current}
use Rattle.stub_client.specs.Handle.{Ask, Outcome}
use Rattle.stub_client.specs.Looks.{IsAnsweredHere, Looks, Proceeds, Reply, Stores, given_reply, kept_of, negative, out_of_memory}
use Rattle.stub_client.specs.Outcomes.{AnswersAtOnce, AreFirst}
use Rattle.stub_client.specs.SpecialNames.{special_answer}
use Rattle.stub_client.specs.Step.{asks_for, chain_of, found, given_message, has_class, is_at_either, is_found, is_given, meaning, step_of, step_on}
use Rattle.stub_client.specs.declared.caching_client.step.LookupSettings.{LookupSettings}
use Rattle.stub_client.specs.declared.caching_client.step.Step.{Step}
use Rattle.stub_client.specs.declared.caching_client.step.Step.TheVariants.{Gives, Misses, Stops, Follows}
use Rattle.stub_client.specs.declared.special_names.SpecialAnswer.{SpecialAnswer}
use Rattle.stub_client.specs.declared.special_names.SpecialAnswer.TheVariants.{Ordinary, Loopback, Nothing}
use Rattle.stub_client.proofs.StepLaws.{is_empty-filter}

-- ---- agreement

answers-agree : (now : ℕ) (q : Query) (special : SpecialAnswer) (hit : Option Kept) (reply answer : Reply)
    → IsAnsweredHere now q special hit reply → IsAnsweredHere now q special hit answer → reply ≡ answer
answers-agree now q (Loopback r) hit reply answer h k = h ∙ sym k
answers-agree now q (Nothing code) hit reply answer h k = h ∙ sym k
answers-agree now q Ordinary (Some kept) reply answer h k = h ∙ sym k
answers-agree now q Ordinary None reply answer h k = absurd h

abbrev Agree : Reply → CacheContent → Reply → CacheContent → Type 0
Agree reply new answer next = (reply ≡ answer) × (new ≡ next)

stores-agree : (now : ℕ) (old : CacheContent) (q : Query) (o : Option Kept) (given reply answer : Reply) (new next : CacheContent)
    → Stores now old q o given reply new → Stores now old q o given answer next
    → reply ≢ out_of_memory → answer ≢ out_of_memory → Agree reply new answer next
stores-agree now old q None given reply answer new next h k enough ample = (h.0 ∙ sym k.0, h.1 ∙ sym k.1)
stores-agree now old q (Some kept) given reply answer new next (inl h) (inl k) enough ample = (h.0 ∙ sym k.0, h.1 ∙ sym k.1)
stores-agree now old q (Some kept) given reply answer new next (inl h) (inr k) enough ample = absurd (ample k.0)
stores-agree now old q (Some kept) given reply answer new next (inr h) k enough ample = absurd (enough h.0)

-- want of memory for a target is passed on
passed-on : (now : ℕ) (mid : CacheContent) (q : Query) (inner reply : Reply) (new : CacheContent)
    → Stores now mid q (kept_of q inner) inner reply new → inner ≡ out_of_memory → reply ≡ out_of_memory
passed-on now mid q inner reply new h is =
    let at : Stores now mid q None out_of_memory reply new =
    subst (λ (r : Reply). Stores now mid q (kept_of q r) r reply new) is h in
    at.0

abbrev Next : Type 1
Next = Query → List Record → Reply → CacheContent → Type 0

proceeds-agree : (first second : Next) (now : ℕ) (old : CacheContent) (q : Query) (step : Step) (asks others : List Ask)
    (reply answer : Reply) (new next : CacheContent)
    → ((target : Query) (kept : List Record) (inner other : Reply) (mid end : CacheContent) → first target kept inner mid
    → second target kept other end → inner ≢ out_of_memory → other ≢ out_of_memory
    → (asks ≡ others) × (inner ≡ other) × (mid ≡ end))
    → Proceeds first now old q step asks reply new → Proceeds second now old q step others answer next
    → reply ≢ out_of_memory → answer ≢ out_of_memory → (asks ≡ others) × (reply ≡ answer) × (new ≡ next)
proceeds-agree first second now old q (Gives m) asks others reply answer new next rest h k enough ample =
    let both = stores-agree now old q (Some (Ok m)) (given_reply old.config now q m) reply answer new next h.1 k.1 enough ample in
    (h.0 ∙ sym k.0, both.0, both.1)
proceeds-agree first second now old q (Misses answer') asks others reply answer new next rest h k enough ample =
    let both = stores-agree now old q (Some (Err answer')) (negative answer') reply answer new next h.1 k.1 enough ample in
    (h.0 ∙ sym k.0, both.0, both.1)
proceeds-agree first second now old q (Stops error) asks others reply answer new next rest h k enough ample =
    (h.0 ∙ sym k.0, h.1 ∙ sym k.1, h.2 ∙ sym k.2)
proceeds-agree first second now old q (Follows target kept) asks others reply answer new next rest h k enough ample =
    let inner = rest target kept h.0 k.0 h.1 k.1 h.2 k.2
    (λ is. enough (passed-on now h.1 q h.0 reply new h.3 is)) (λ is. ample (passed-on now k.1 q k.0 answer next k.3 is)) in
    let by_cache : Stores now h.1 q (kept_of q k.0) k.0 answer next =
    subst (λ (c : CacheContent). Stores now c q (kept_of q k.0) k.0 answer next) (sym inner.2) k.3 in
    let same : Stores now h.1 q (kept_of q h.0) h.0 answer next =
    subst (λ (r : Reply). Stores now h.1 q (kept_of q r) r answer next) (sym inner.1) by_cache in
    let both = stores-agree now h.1 q (kept_of q h.0) h.0 reply answer new next h.3 same enough ample in
    (inner.0, both.0, both.1)

same-ask : (ask other : Ask) → ask.question ≡ other.question → ask.outcome ≡ other.outcome → ask ≡ other
same-ask ask other questions results =
    let by_question : ask ≡ (record ask { question = other.question }) = ap (λ (p : Query). record ask { question = p }) questions in
    by_question ∙ ap (λ (o : Outcome). record other { outcome = o }) results

same-asks : (ask other : Ask) (asks others : List Ask) → ask ≡ other → asks ≡ others → ask ∷ asks ≡ other ∷ others
same-asks ask other asks others first rest = ap (λ (a : Ask). a ∷ asks) first ∙ ap (λ (xs : List Ask). other ∷ xs) rest

-- where one lookup asks nothing, the other does not either
never-asks : (now : ℕ) (q : Query) (special : SpecialAnswer) (hit : Option Kept) (reply : Reply) → IsAnsweredHere now q special hit reply
    → special ≡ Ordinary → hit ≡ None → ⊥
never-asks now q (Loopback r) hit reply h is none = cc
never-asks now q (Nothing code) hit reply h is none = cc
never-asks now q Ordinary (Some kept) reply h is none = cc
never-asks now q Ordinary None reply h is none = h

abbrev outcomes : List Ask → List Outcome
outcomes asks = map (λ ask. ask.outcome) asks

-- Lookups that draw on the same outcomes agree, unless memory runs out.
looks-agree : (settings : LookupSettings) (now depth : ℕ) (kept : List Record) (old : CacheContent) (q : Query) (asks others : List Ask)
    (reply answer : Reply) (new next : CacheContent) (later rest : List Outcome)
    → Looks settings now depth kept old q asks reply new → Looks settings now depth kept old q others answer next
    → outcomes asks ++ later ≡ outcomes others ++ rest → reply ≢ out_of_memory → answer ≢ out_of_memory
    → (asks ≡ others) × (reply ≡ answer) × (new ≡ next)
looks-agree settings now depth kept old q [] [] reply answer new next later rest h k same enough ample = (
  refl,
  elim h.1 [
    | inl memory ↦ absurd (enough memory)
    | inr here ↦ elim k.1 [
      | inl memory ↦ absurd (ample memory)
      | inr there ↦ answers-agree now q (special_answer q) (current old.entries q now) reply answer here there
    ]
  ],
  h.0 ∙ sym k.0,
)
looks-agree settings now depth kept old q [] (other ∷ others) reply answer new next later rest h k same enough ample = elim h.1 [
  | inl memory ↦ absurd (enough memory)
  | inr here ↦ absurd (never-asks now q (special_answer q) (current old.entries q now) reply here k.1 k.2)
]
looks-agree settings now depth kept old q (ask ∷ asks) [] reply answer new next later rest h k same enough ample = elim k.1 [
  | inl memory ↦ absurd (ample memory)
  | inr there ↦ absurd (never-asks now q (special_answer q) (current old.entries q now) answer there h.1 h.2)
]
looks-agree settings now depth kept old q (ask ∷ asks) (other ∷ others) reply answer new next later rest h k same enough ample =
    let heads : ask.outcome ≡ other.outcome = cc in
    let tails : outcomes asks ++ later ≡ outcomes others ++ rest = cc in
    elim h.3 [
      | inl memory ↦ absurd (enough memory.2)
      | inr goes ↦ elim k.3 [
        | inl memory ↦ absurd (ample memory.2)
        | inr runs ↦
            (let there = subst (λ (o : Outcome).
            Proceeds (λ target aliases inner mid. Looks settings now (suc depth) aliases old target others inner mid)
            now old q (step_of settings q kept depth o) others answer next) (sym heads) runs in
            let all = proceeds-agree
            (λ target aliases inner mid. Looks settings now (suc depth) aliases old target asks inner mid)
            (λ target aliases inner mid. Looks settings now (suc depth) aliases old target others inner mid)
            now old q (step_of settings q kept depth ask.outcome) asks others reply answer new next
            (λ target aliases inner outer mid end looks sees full plenty.
            looks-agree settings now (suc depth) aliases old target asks others inner outer mid end later rest looks sees tails full plenty)
            goes there enough ample in
            (same-asks ask other asks others (same-ask ask other (h.0 ∙ sym k.0) heads) all.0, all.1, all.2))
      ]
    ]

pub lookups-agree : (settings : LookupSettings) (now : ℕ) (old : CacheContent) (q : Query) (available : List Outcome)
    (asks others : List Ask) (reply answer : Reply) (new next : CacheContent)
    → Looks settings now 0 [] old q asks reply new → Looks settings now 0 [] old q others answer next
    → AreFirst available asks → AreFirst available others → reply ≢ out_of_memory → answer ≢ out_of_memory
    → (asks ≡ others) × (reply ≡ answer) × (new ≡ next)
lookups-agree settings now old q available asks others reply answer new next h k first second enough ample =
    looks-agree settings now 0 [] old q asks others reply answer new next first.later second.later h k
    (sym first.in_order ∙ second.in_order) enough ample

-- ---- one question

any-at : {A : Type 0} (p : A → Bool) (xs : List A) (k : ℕ) (x : A) → k < length xs → get_or xs k x ≡ x → p x ≡ true → list_any p xs ≡ true
any-at p [] k x less is passes = absurd (omega arith)
any-at p (y ∷ ys) zero x less is passes = or_left (p y) (list_any p ys) (ap p is ∙ passes)
any-at p (y ∷ ys) (suc k) x less is passes = or_right (p y) (list_any p ys) (any-at p ys k x (omega arith) is passes)

and-or-true : (a b : Bool) → a ≡ true → (a && (b || true)) ≡ true
and-or-true true true h = refl
and-or-true true false h = refl
and-or-true false b h = absurd (cc)

both : (a b c : Bool) → a ≡ true → b ≡ true → c ≡ true → (a && (b && c)) ≡ true
both true true true h k l = refl
both true true false h k l = absurd (cc)
both true false c h k l = absurd (cc)
both false b c h k l = absurd (cc)

given : (q : Query) (m : Message) → AnswersAtOnce q m → is_given q (chain_of q m) [] m ≡ true
given q m h =
    let test : Record → Bool = is_found q (chain_of q m).name in
    let finds : is_found q (chain_of q m).name h.answer ≡ true =
    both (has_class q h.answer) (asks_for q h.answer) (is_at_either (chain_of q m).name q h.answer) h.class h.type_ h.owner in
    let any : list_any (is_found q (chain_of q m).name) (all_records m) ≡ true =
    any-at (is_found q (chain_of q m).name) (all_records m) h.is_there.0 h.answer h.is_there.1 h.is_there.2 finds in
    and-or-true (not (is_empty (found q (chain_of q m) m))) (not (chain_of q m).is_alias)
    (is_empty-filter (is_found q (chain_of q m).name) (all_records m) ∙ any)

first-of : {A : Type 0} (b : Bool) (x y : A) → b ≡ true → cond b x y ≡ x
first-of true x y h = refl
first-of false x y h = absurd (cc)

gives-at-once : (settings : LookupSettings) (q : Query) (out : Outcome) (response : DnsResponse) → out ≡ Ok response
    → AnswersAtOnce q response.message
    → step_on settings q [] 0 out ≡ Gives (given_message settings q (chain_of q response.message) [] response.message)
gives-at-once settings q out response is h =
    ap (step_on settings q [] 0) is
    ∙ first-of (is_given q (chain_of q response.message) [] response.message)
    (Gives (given_message settings q (chain_of q response.message) [] response.message)) _ (given q response.message h)

-- A lookup that is answered at once asks no other question.
pub asks-no-other : (settings : LookupSettings) (now : ℕ) (old : CacheContent) (q : Query) (first : Ask) (others : List Ask)
    (reply : Reply) (new : CacheContent) (response : DnsResponse)
    → Looks settings now 0 [] old q (first ∷ others) reply new → meaning first.outcome ≡ Ok response
    → AnswersAtOnce q response.message → others ≡ []
asks-no-other settings now old q first others reply new response h is answers = elim h.3 [
  | inl memory ↦ memory.0
  | inr goes ↦
      (let there = subst (λ (s : Step).
      Proceeds (λ target aliases inner mid. Looks settings now 1 aliases old target others inner mid) now old q s others reply new)
      (gives-at-once settings q (meaning first.outcome) response is answers) goes in
      there.0)
]
