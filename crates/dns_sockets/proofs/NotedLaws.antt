-- What ended a wait, one thing after another.
use Rattle.std.proofs.Common.{◌≡◌, ◌∙◌, ◌+◌, ◌∷◌, ◌++◌, [], ℕ, List, false, true, None, ap, inl, inr, length, map, refl, subst, sym}
use Rattle.std.specs.List.{AllByRecursion}
use Rattle.std.proofs.lemmas.List.{length-append, map-append}
use Rattle.dns_sockets.specs.Events.{Led, Performs}
use Rattle.dns_sockets.specs.Service.{Known, Notes, is_over, noted_by, noted_by_all, woken}
use Rattle.dns_sockets.specs.World.{WorldEvent, Woken}
use Rattle.dns_sockets.specs.declared.world.Wake.{Wake}
use Rattle.dns_sockets.specs.declared.world.Wake.TheVariants as wakes
use Rattle.dns_sockets.proofs.TraceLaws.{all_more, led_both}

abbrev pub IsOfSocket : Wake → Type 0
IsOfSocket wake = is_over wake ≡ false

-- only the end of the service is its end
is_end : (wake : Wake) → is_over wake ≡ true → wake ≡ wakes.End
is_end (wakes.Datagrams index) is = absurd (cc)
is_end (wakes.Listener index) is = absurd (cc)
is_end (wakes.Stream index is_readable is_writable) is = absurd (cc)
is_end wakes.End is = refl

-- one more thing is noted after the others
noted_more : (noted : List Wake) (wake : Wake) (known : Known) → noted_by_all (noted ++ wake ∷ []) known ≡ noted_by wake (noted_by_all noted known)
noted_more [] wake known = refl
noted_more (first ∷ noted) wake known = noted_more noted wake (noted_by first known)

-- so many things were noted
pub record Noted {S : Type 0} (performs : S → WorldEvent → S → Type 0) (w w1 : S) (count : ℕ) (old new : Known) : Type 0 where
  pub noted : List Wake
  pub led : Led performs w (map woken noted) w1
  pub of_sockets : AllByRecursion IsOfSocket noted
  pub count_is : length noted ≡ count
  pub known : new ≡ noted_by_all noted old

module _ {S : Type 0} (performs : S → WorldEvent → S → Type 0) where
  pub none_noted : (w : S) (known : Known) → Noted performs w w 0 known known
  none_noted w known = record { noted = []; led = refl; of_sockets = tt; count_is = refl; known = refl }

  pub one_noted : (w w1 w2 : S) (count : ℕ) (old mid new : Known) (wake : Wake) → Noted performs w w1 count old mid → performs w1 (woken wake) w2 → IsOfSocket wake
      → new ≡ noted_by wake mid → Noted performs w w2 (count + 1) old new
  one_noted w w1 w2 count old mid new wake before step is known = record {
    noted = before.noted ++ wake ∷ [];
    led = subst (λ (es : List WorldEvent). Led performs w es w2) (sym (map-append woken before.noted (wake ∷ [])))
        (led_both performs w w1 w2 (map woken before.noted) (woken wake ∷ []) before.led (w2, (step, refl)));
    of_sockets = all_more IsOfSocket before.noted (wake ∷ []) before.of_sockets (is, tt);
    count_is = length-append before.noted (wake ∷ []) ∙ ap (λ (n : ℕ). n + 1) before.count_is;
    known = known ∙ ap (noted_by wake) before.known ∙ sym (noted_more before.noted wake old);
  }

  -- nothing is left
  pub noted_last : (w w1 w2 : S) (count : ℕ) (old new : Known) → Noted performs w w1 count old new → performs w1 (Woken None) w2
      → Performs performs w w2 (λ es. Notes false old es new)
  noted_last w w1 w2 count old new before step = record {
    events = map woken before.noted ++ Woken None ∷ [];
    led = led_both performs w w1 w2 (map woken before.noted) (Woken None ∷ []) before.led (w2, (step, refl));
    holds = record { noted = before.noted; of_sockets = before.of_sockets; asked = inl refl; known = before.known };
  }

  -- the service is to end
  pub noted_end : (w w1 w2 : S) (count : ℕ) (old mid new : Known) (wake : Wake) → Noted performs w w1 count old mid → performs w1 (woken wake) w2 → is_over wake ≡ true
      → new ≡ noted_by wake mid → Performs performs w w2 (λ es. Notes true old es new)
  noted_end w w1 w2 count old mid new wake before step is known = record {
    events = map woken before.noted ++ woken wakes.End ∷ [];
    led = led_both performs w w1 w2 (map woken before.noted) (woken wakes.End ∷ []) before.led (w2, (subst (λ (last : Wake). performs w1 (woken last) w2) (is_end wake is) step, refl));
    holds = record { noted = before.noted; of_sockets = before.of_sockets; asked = refl; known = known ∙ ap (λ (last : Wake). noted_by last mid) (is_end wake is) ∙ before.known };
  }

  -- as much was noted as may be
  pub noted_all : (w w1 : S) (count : ℕ) (old new : Known) → Noted performs w w1 count old new → count ≡ 18446744073709551615
      → Performs performs w w1 (λ es. Notes false old es new)
  noted_all w w1 count old new before all = record {
    events = map woken before.noted;
    led = before.led;
    holds = record { noted = before.noted; of_sockets = before.of_sockets; asked = inr (refl, before.count_is ∙ all); known = before.known };
  }
