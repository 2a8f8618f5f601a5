-- The items of a schedule whose moment has come, one after another.
use Rattle.std.proofs.Common.{◌≡◌, ◌∙◌, ℕ, suc, Bool, true, false, List, [], ◌∷◌, ◌++◌, length, Option, Some, None, refl, sym, ap, subst}
use Rattle.std.specs.Prelude.{nat_le, if◌then◌else◌}
use Rattle.std.proofs.lemmas.List.{append-nil, append_assoc}
use Rattle.dns_sockets.specs.schedule.Schedule.{Waiting, all_due, all_left, due, left_at}
use Rattle.dns_sockets.specs.Datagrams.{AreSent}
use Rattle.dns_sockets.specs.World.{WorldEvent, AreCopies}
use Rattle.dns_sockets.specs.declared.datagrams.WaitingReply.{WaitingReply}

-- no item is due
pub due_none : {T : Type 0} (now : ℕ) (items : List (Waiting T)) → due now items ≡ None → (all_due now items ≡ []) × (all_left now items ≡ items)
due_none now [] e = (refl, refl)
due_none {T} now (x ∷ xs) e = by (nat_le x.moment now) e
  where
    by : (b : Bool) → (if b then Some x.item else None) ≡ None → ((if b then x.item ∷ all_due now xs else []) ≡ []) × ((if b then all_left now xs else x ∷ xs) ≡ x ∷ xs)
    by true f = absurd (cc)
    by false f = (refl, refl)

abbrev item_or : {T : Type 0} → T → Option T → T
item_or default None = default
item_or default (Some x) = x

-- an item is due
pub due_some : {T : Type 0} (now : ℕ) (items : List (Waiting T)) (r : T) → due now items ≡ Some r
    → (all_due now items ≡ r ∷ all_due now (left_at now items)) × ((all_left now items ≡ all_left now (left_at now items)) × (length items ≡ suc (length (left_at now items))))
due_some now [] r e = absurd (cc)
due_some {T} now (x ∷ xs) r e = by (nat_le x.moment now) e
  where
    by : (b : Bool) → (if b then Some x.item else None) ≡ Some r
        → ((if b then x.item ∷ all_due now xs else []) ≡ r ∷ all_due now (if b then xs else x ∷ xs))
        × (((if b then all_left now xs else x ∷ xs) ≡ all_left now (if b then xs else x ∷ xs)) × (suc (length xs) ≡ suc (length (if b then xs else x ∷ xs))))
    by true f = (ap (λ (o : Option T). item_or r o ∷ all_due now xs) f, (refl, refl))
    by false f = absurd (cc)

-- what was sent, before the replies that are still due are sent, is what is sent of all
abbrev pub Sends : List WaitingReply → List WaitingReply → List WorldEvent → Type 0
Sends left all done = (rest : List WorldEvent) → AreSent left rest → AreSent all (done ++ rest)

-- one more reply is sent
pub sends_more : (r : WaitingReply) (now_left left all : List WaitingReply) (done es : List WorldEvent) → now_left ≡ r ∷ left → Sends now_left all done → AreCopies r.socket r.copies r.bytes.items r.peer es → Sends left all (done ++ es)
sends_more r now_left left all done es is sends copies rest more =
    subst (λ (l : List WorldEvent). AreSent all l) (sym (append_assoc done es rest))
    (sends (es ++ rest) (subst (λ (l : List WaitingReply). AreSent l (es ++ rest)) (sym is) (es, rest, (refl, (copies, more)))))

-- none is left
pub sends_all : (left all : List WaitingReply) (done : List WorldEvent) → left ≡ [] → Sends left all done → AreSent all done
sends_all left all done none sends = subst (λ (l : List WorldEvent). AreSent all l) (append-nil done) (sends [] (subst (λ (l : List WaitingReply). AreSent l []) (sym none) refl))
