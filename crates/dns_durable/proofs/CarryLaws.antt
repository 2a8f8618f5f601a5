-- The entries of updates under one mark, one behind another, are the entry of all of them.
use Rattle.std.proofs.Common.{◌≡◌, ◌==◌, ◌∙◌, ℕ, true, List, [], ◌∷◌, ◌++◌, length, refl, sym, ap, subst, arith, append_assoc}
use Rattle.std.proofs.lemmas.Bool.Decides.{nat_tests}
use Rattle.dns_message_bytes.specs.frames.Frame.{frame, stream_of}
use Rattle.dns_messages.specs.declared.message.Message.{Message}
use Rattle.dns_zone.specs.Rows.{ZoneContent}
use Rattle.dns_zone.specs.declared.zone.serials.Serials.TheVariants.{Kept, Rising}
use Rattle.dns_authority.specs.declared.service.answering.Answering.{Answering}
use Rattle.dns_authority.specs.declared.service.answering.Answering.TheVariants.{Plain, Whole}
use Rattle.dns_durable.specs.Durable.{Takes, TakesEntry}
use Rattle.dns_durable.specs.Durable.Takes.{no_frame, a_frame}
use Rattle.dns_durable.specs.Draft.{HaveOneMark}
use Rattle.dns_durable.specs.Rule.{entry_of, mark_of, step_of}
use Rattle.dns_durable.specs.internal.Drafting.{IsJoined}
use Rattle.dns_durable.specs.internal.Drafting.IsJoined.{first as joins_first, further}
use Rattle.dns_durable.proofs.RuleLaws.{entry_none}

-- frames, and then others
takes_both : (step : List ZoneContent → Message → List ZoneContent) (zones mid after : List ZoneContent) (xs ys : List ℕ) → Takes step zones xs mid → Takes step mid ys after
    → Takes step zones (xs ++ ys) after
takes_both step zones mid after xs ys no_frame more = more
takes_both step zones mid after xs ys (a_frame {mid = next} {bytes = bytes} {rest = rest} short taken takes) more =
    subst (λ (l : List ℕ). Takes step zones l after) (sym (append_assoc (frame bytes) rest ys))
    (a_frame {mid = next} {bytes = bytes} {rest = rest ++ ys} short taken (takes_both step next mid after rest ys takes more))

marked_both : (answering : Answering) (zones mid after : List ZoneContent) (xs ys : List ℕ) → TakesEntry zones (mark_of answering ++ xs) mid → TakesEntry mid (mark_of answering ++ ys) after
    → TakesEntry zones (mark_of answering ++ xs ++ ys) after
marked_both Plain zones mid after xs ys one other = takes_both (step_of Plain) zones mid after xs ys one other
marked_both (Whole any Kept) zones mid after xs ys one other = takes_both _ zones mid after xs ys one other
marked_both (Whole any Rising) zones mid after xs ys one other = takes_both _ zones mid after xs ys one other

marked_more : (answering : Answering) (zones mid after : List ZoneContent) (messages : List (List ℕ)) (first second third : ℕ) (xs ys : List ℕ)
    → first ∷ second ∷ third ∷ ys ≡ entry_of answering messages → TakesEntry zones (first ∷ second ∷ third ∷ xs) mid → TakesEntry mid (first ∷ second ∷ third ∷ ys) after
    → TakesEntry zones (first ∷ second ∷ third ∷ xs ++ ys) after
marked_more answering zones mid after [] first second third xs ys is one other = absurd cc
marked_more answering zones mid after (message ∷ more) first second third xs ys is one other = by answering is
  where
    both : (mark : List ℕ) (n : ℕ) → mark ≡ 0 ∷ 1 ∷ n ∷ [] → ((xs ys : List ℕ) → TakesEntry zones (0 ∷ 1 ∷ n ∷ xs) mid → TakesEntry mid (0 ∷ 1 ∷ n ∷ ys) after → TakesEntry zones (0 ∷ 1 ∷ n ∷ xs ++ ys) after)
        → first ∷ second ∷ third ∷ ys ≡ mark ++ stream_of (message ∷ more) → TakesEntry zones (first ∷ second ∷ third ∷ xs ++ ys) after
    both mark n mark_is join e =
        let whole : first ∷ second ∷ third ∷ ys ≡ 0 ∷ 1 ∷ n ∷ stream_of (message ∷ more) = e ∙ ap (λ (l : List ℕ). l ++ stream_of (message ∷ more)) mark_is in
        let f : first ≡ 0 = cc in
        let s : second ≡ 1 = cc in
        let t : third ≡ n = cc in
        subst (λ (l : List ℕ). TakesEntry zones (l ++ (xs ++ ys)) after) (λ i. sym f i ∷ sym s i ∷ sym t i ∷ [])
        (join xs ys (subst (λ (l : List ℕ). TakesEntry zones (l ++ xs) mid) (λ i. f i ∷ s i ∷ t i ∷ []) one)
        (subst (λ (l : List ℕ). TakesEntry mid (l ++ ys) after) (λ i. f i ∷ s i ∷ t i ∷ []) other))

    by : (a : Answering) → first ∷ second ∷ third ∷ ys ≡ entry_of a (message ∷ more) → TakesEntry zones (first ∷ second ∷ third ∷ xs ++ ys) after
    by Plain e = both (mark_of Plain) 0 refl (λ xs ys f g. takes_both _ zones mid after xs ys f g) e
    by (Whole any Kept) e = both (mark_of (Whole any Kept)) 1 refl (λ xs ys f g. takes_both _ zones mid after xs ys f g) e
    by (Whole any Rising) e = both (mark_of (Whole any Rising)) 2 refl (λ xs ys f g. takes_both _ zones mid after xs ys f g) e

-- an entry under the same mark goes behind another one
pub carried_more : (answering : Answering) (zones mid after : List ZoneContent) (messages : List (List ℕ)) (carried entry more : List ℕ) → HaveOneMark carried entry more
    → entry ≡ entry_of answering messages → TakesEntry zones carried mid → TakesEntry mid entry after → TakesEntry zones (carried ++ more) after
carried_more answering zones mid after messages carried entry more have is one other =
    subst (λ (l : List ℕ). TakesEntry zones (l ++ more) after) (sym have.one_is)
    (marked_more answering zones mid after messages have.first have.second have.third have.rest more (sym have.other_is ∙ is)
    (subst (λ (l : List ℕ). TakesEntry zones l mid) have.one_is one) (subst (λ (l : List ℕ). TakesEntry mid l after) have.other_is other))

-- an entry behind none
pub carried_first : (zones mid after : List ZoneContent) (carried entry : List ℕ) → carried ≡ [] → TakesEntry zones carried mid → TakesEntry mid entry after → TakesEntry zones (carried ++ entry) after
carried_first zones mid after carried entry none one other =
    subst (λ (l : List ℕ). TakesEntry zones (l ++ entry) after) (sym none)
    (subst (λ (z : List ZoneContent). TakesEntry z entry after) (entry_none zones mid carried none one) other)

-- ---- joining

pub joined_first : (old entry more new : List ℕ) → old ≡ [] → more ≡ entry → new ≡ old ++ more → IsJoined old entry new
joined_first old entry more new none same is =
    subst (λ (l : List ℕ). IsJoined old entry l) (sym (is ∙ (λ i. none i ++ same i))) (joins_first none)

pub joined_with : (old entry more new : List ℕ) → HaveOneMark old entry more → new ≡ old ++ more → IsJoined old entry new
joined_with old entry more new have is = subst (λ (l : List ℕ). IsJoined old entry l) (sym is) (further more have)

zero_is : (n : ℕ) → (n == 0) ≡ true → n ≡ 0
zero_is n e = grind (arith, nat_tests)

pub none_of : (l : List ℕ) → (length l == 0) ≡ true → l ≡ []
none_of [] e = refl
none_of (x ∷ xs) e = absurd (omega (arith, zero_is (length (x ∷ xs)) e))
