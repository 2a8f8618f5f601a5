-- Messages that are signed one after another, as a loop signs them.
use Rattle.std.proofs.Common.{◌≡◌, ◌∙◌, ◌+◌, ◌≤◌, ◌<◌, ◌++◌, ℕ, List, [], ◌∷◌, map, refl, ap, sym, subst, inl, inr, arith, length, take, drop, set, get_or}
use Rattle.std.proofs.lemmas.List.{append-nil, append_assoc, drop-drop, drop-set-lt, drop_all, drop_more, map-append, take_all, take_more_set}
use Rattle.std.specs.Global.{Vec}
use Rattle.dns_tsig.specs.Sign.{IsSigned}
use Rattle.dns_tsig.specs.declared.covered.Coverage.{Coverage}
use Rattle.dns_tsig.specs.declared.covered.Coverage.TheVariants.{Variables}
use Rattle.dns_tsig.specs.declared.key.Key.{Key}
use Rattle.dns_transfers.specs.replies.Signing.{GetsFull, IsFull, SignsEach, SignsNext}
use Rattle.dns_transfers.specs.declared.replies.signing.StreamSigner.{StreamSigner}

abbrev pub items_of : List (Vec ℕ) → List (List ℕ)
items_of messages = map (λ (b : Vec ℕ). b.items) messages

-- The messages before an index are signed: whatever signs the others signs all, and one of the others without room is one of all.
pub record AreSigned (key : Key) (time : ℕ) (code : List ℕ) (old : List (Vec ℕ)) (i : ℕ) (signer : StreamSigner) (now : List (Vec ℕ)) : Type 0 where
  pub key_is : signer.key.now ≡ key
  pub time_is : signer.time ≡ time
  pub others : drop i now ≡ drop i old
  pub all : (outs : List (List ℕ)) → SignsEach key time signer.prior.items signer.coverage (items_of (drop i old)) outs
      → SignsEach key time code Variables (items_of old) (items_of (take i now) ++ outs)
  pub stops : GetsFull key time signer.prior.items signer.coverage (items_of (drop i old)) → GetsFull key time code Variables (items_of old)

pub none_signed : (key : Key) (time : ℕ) (code : List ℕ) (old : List (Vec ℕ)) (s : StreamSigner) → s.key.now ≡ key → s.time ≡ time → s.prior.items ≡ code → s.coverage ≡ Variables
    → AreSigned key time code old 0 s old
none_signed key time code old s k t p c = record {
  key_is = k;
  time_is = t;
  others = refl;
  all = λ outs h.
      subst (λ (coverage : Coverage). SignsEach key time code coverage (items_of old) outs) c
      (subst (λ (prior : List ℕ). SignsEach key time prior s.coverage (items_of old) outs) p h);
  stops = λ h.
      subst (λ (coverage : Coverage). GetsFull key time code coverage (items_of old)) c
      (subst (λ (prior : List ℕ). GetsFull key time prior s.coverage (items_of old)) p h);
}

-- the message at an index is the first of those that are left
first_left : (old now : List (Vec ℕ)) (i : ℕ) (d : Vec ℕ) → i < length old → length now ≡ length old → drop i now ≡ drop i old → drop i old ≡ get_or now i d ∷ drop (i + 1) old
first_left old now i d within same others =
    let first : get_or now i d ∷ drop (i + 1) now ≡ drop i old = sym (drop_more now i d (omega (arith, within, same))) ∙ others in
    let tail : drop (i + 1) now ≡ drop (i + 1) old = sym (drop-drop 1 i now) ∙ ap (drop 1) others ∙ drop-drop 1 i old in
    sym (ap (λ (l : List (Vec ℕ)). get_or now i d ∷ l) (sym tail) ∙ first)

-- a further message is signed
pub more_signed : (key : Key) (time : ℕ) (code : List ℕ) (old : List (Vec ℕ)) (i : ℕ) (s t : StreamSigner) (now : List (Vec ℕ)) (d out : Vec ℕ)
    → i < length old → length now ≡ length old → AreSigned key time code old i s now → SignsNext s (get_or now i d).items t out.items
    → AreSigned key time code old (i + 1) t (set now i out)
more_signed key time code old i s t now d out within same before signs = record {
  key_is = signs.key_stays ∙ before.key_is;
  time_is = signs.time_stays ∙ before.time_is;
  others = drop-set-lt (i + 1) now i out (omega arith) ∙ sym (drop-drop 1 i now) ∙ ap (drop 1) before.others ∙ drop-drop 1 i old;
  all = λ outs h. subst (λ (l : List (List ℕ)). SignsEach key time code Variables (items_of old) l) (joined outs) (before.all (out.items ∷ outs) (begins outs h));
  stops = λ h. before.stops (goes_on h);
}
  where
    begins_old : drop i old ≡ get_or now i d ∷ drop (i + 1) old
    begins_old = first_left old now i d within same before.others

    signed : IsSigned key s.prior.items (get_or now i d).items s.coverage time 300 0 [] t.prior.items out.items
    signed =
        subst (λ (k : Key). IsSigned k s.prior.items (get_or now i d).items s.coverage time 300 0 [] t.prior.items out.items) before.key_is
        (subst (λ (n : ℕ). IsSigned s.key.now s.prior.items (get_or now i d).items s.coverage n 300 0 [] t.prior.items out.items) before.time_is signs.signed)

    begins : (outs : List (List ℕ)) → SignsEach key time t.prior.items t.coverage (items_of (drop (i + 1) old)) outs → SignsEach key time s.prior.items s.coverage (items_of (drop i old)) (out.items ∷ outs)
    begins outs h =
        subst (λ (l : List (Vec ℕ)). SignsEach key time s.prior.items s.coverage (items_of l) (out.items ∷ outs)) (sym begins_old)
        (t.prior.items, (signed, (signs.fits, subst (λ (coverage : Coverage). SignsEach key time t.prior.items coverage (items_of (drop (i + 1) old)) outs) signs.timers h)))

    goes_on : GetsFull key time t.prior.items t.coverage (items_of (drop (i + 1) old)) → GetsFull key time s.prior.items s.coverage (items_of (drop i old))
    goes_on h =
        subst (λ (l : List (Vec ℕ)). GetsFull key time s.prior.items s.coverage (items_of l)) (sym begins_old)
        (inr (t.prior.items, (out.items, (signed, subst (λ (coverage : Coverage). GetsFull key time t.prior.items coverage (items_of (drop (i + 1) old))) signs.timers h))))

    joined : (outs : List (List ℕ)) → items_of (take i now) ++ (out.items ∷ outs) ≡ items_of (take (i + 1) (set now i out)) ++ outs
    joined outs =
        sym (ap (λ (l : List (List ℕ)). l ++ outs) (ap items_of (take_more_set now i out (omega (arith, within, same)))
        ∙ map-append (λ (b : Vec ℕ). b.items) (take i now) (out ∷ []))
        ∙ append_assoc (items_of (take i now)) (out.items ∷ []) outs)

-- the message at an index has no room for a signature
pub not_signed : (key : Key) (time : ℕ) (code : List ℕ) (old : List (Vec ℕ)) (i : ℕ) (s : StreamSigner) (now : List (Vec ℕ)) (d : Vec ℕ) → i < length old → length now ≡ length old
    → AreSigned key time code old i s now → IsFull s.key.now s.time s.prior.items s.coverage (get_or now i d).items → GetsFull key time code Variables (items_of old)
not_signed key time code old i s now d within same before full =
    before.stops
    (subst (λ (l : List (Vec ℕ)). GetsFull key time s.prior.items s.coverage (items_of l)) (sym (first_left old now i d within same before.others)) (inl is_full))
  where
    is_full : IsFull key time s.prior.items s.coverage (get_or now i d).items
    is_full =
        subst (λ (k : Key). IsFull k time s.prior.items s.coverage (get_or now i d).items) before.key_is
        (subst (λ (n : ℕ). IsFull s.key.now n s.prior.items s.coverage (get_or now i d).items) before.time_is full)

-- all messages are signed
pub all_signed : (key : Key) (time : ℕ) (code : List ℕ) (old : List (Vec ℕ)) (i : ℕ) (s : StreamSigner) (now : List (Vec ℕ)) → length old ≤ i → length now ≡ length old
    → AreSigned key time code old i s now → SignsEach key time code Variables (items_of old) (items_of now)
all_signed key time code old i s now over same signed =
    subst (λ (l : List (List ℕ)). SignsEach key time code Variables (items_of old) l) whole (signed.all [] nothing)
  where
    nothing : SignsEach key time s.prior.items s.coverage (items_of (drop i old)) []
    nothing = subst (λ (l : List (Vec ℕ)). SignsEach key time s.prior.items s.coverage (items_of l) []) (sym (drop_all i old over)) tt

    whole : items_of (take i now) ++ [] ≡ items_of now
    whole = append-nil (items_of (take i now)) ∙ ap items_of (take_all i now (omega (arith, over, same)))
