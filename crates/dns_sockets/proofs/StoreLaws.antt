-- What the entries of a schedule say of its items.
use Rattle.std.proofs.Common.{◌≡◌, ◌<◌, ◌+◌, List, [], ◌∷◌, ℕ, Bool, true, false, cond, Some, refl, ap, arith, sym, ◌∙◌, subst}
use Rattle.std.specs.Prelude.{slice_get, nat_lt}
use Rattle.std.specs.BTreeMap.{insert_entry}
use Rattle.std.specs.Ordering.{nat_cmp, ordering_then, match_ordering}
use Rattle.std.specs.declared.cmp.Ordering.{Ordering}
use Rattle.dns_sockets.specs.schedule.Schedule.{Waiting, first_moment, inserted}
use Rattle.dns_sockets.specs.schedule.internal.Store.{waiting_of, waiting_entry, AreBelow}

-- the order of keys: by moment, and then by number
abbrev pub key_cmp : (ℕ × ℕ) → (ℕ × ℕ) → Ordering
key_cmp a b = ordering_then (nat_cmp a.0 b.0) (nat_cmp a.1 b.1)

-- the first entry has the first moment
pub moment-of_first : {T : Type 0} (es : List ((ℕ × ℕ) × T)) (k : ℕ × ℕ) (v : T) → slice_get es 0 ≡ Some (k, v)
    → Some k.0 ≡ first_moment (waiting_of es)
moment-of_first [] k v h = grind (arith, h)
moment-of_first (e ∷ es) k v h = grind (arith, h)

-- whether a key comes before, and where one number is greater than the other, never at the same place
pub cmp-below : {X : Type 0} (m n p q : ℕ) (a b c : X) → q < n
    → match_ordering (ordering_then (nat_cmp m p) (nat_cmp n q)) a b c ≡ cond (nat_lt m p) a c
cmp-below m n p q a b c h = grind (arith, h)

-- the items, with a new entry in front or behind the first
pub waiting-branch : {T : Type 0} (b : Bool) (w : Waiting T) (d e : (ℕ × ℕ) × T) (es fs : List ((ℕ × ℕ) × T)) (xs : List (Waiting T))
    → waiting_entry d ≡ w → waiting_of fs ≡ xs
    → waiting_of (cond b (d ∷ e ∷ es) (e ∷ fs)) ≡ cond b (w ∷ waiting_entry e ∷ waiting_of es) (waiting_entry e ∷ xs)
waiting-branch true w d e es fs xs h i = ap (λ x. x ∷ waiting_entry e ∷ waiting_of es) h
waiting-branch false w d e es fs xs h i = ap (λ x. waiting_entry e ∷ x) i

-- a new entry, whose number is above all others, has its place behind those of the same moment
pub waiting-insert : {T : Type 0} (es : List ((ℕ × ℕ) × T)) (m n : ℕ) (v : T) → AreBelow n es
    → waiting_of (insert_entry key_cmp es (m, n) v) ≡ inserted (record { moment = m; item = v }) (waiting_of es)
waiting-insert [] m n v h = refl
waiting-insert (e ∷ es) m n v h =
    ap waiting_of (cmp-below m n e.0.0 e.0.1 (((m, n), v) ∷ e ∷ es) ((e.0, v) ∷ es) (e ∷ insert_entry key_cmp es (m, n) v) h.0)
    ∙ waiting-branch (nat_lt m e.0.0) (record { moment = m; item = v }) ((m, n), v) e es (insert_entry key_cmp es (m, n) v)
    (inserted (record { moment = m; item = v }) (waiting_of es)) refl (waiting-insert es m n v h.1)

-- each number is below the next but one
pub below-more : {T : Type 0} (es : List ((ℕ × ℕ) × T)) (n : ℕ) → AreBelow n es → AreBelow (n + 1) es
below-more [] n h = h
below-more (e ∷ es) n h = (omega (arith, h.0), below-more es n h.1)

-- numbers are below the next, in either case
pub below-branch : {T : Type 0} (b : Bool) (n : ℕ) (d e : (ℕ × ℕ) × T) (es fs : List ((ℕ × ℕ) × T)) → d.0.1 ≡ n
    → AreBelow n (e ∷ es) → AreBelow (n + 1) fs → AreBelow (n + 1) (cond b (d ∷ e ∷ es) (e ∷ fs))
below-branch true n d e es fs i h g = (omega (arith, i), below-more (e ∷ es) n h)
below-branch false n d e es fs i h g = (omega (arith, h.0), g)

-- after an insertion, each number is below the next
pub below-insert : {T : Type 0} (es : List ((ℕ × ℕ) × T)) (m n : ℕ) (v : T) → AreBelow n es
    → AreBelow (n + 1) (insert_entry key_cmp es (m, n) v)
below-insert [] m n v h = (omega arith, tt)
below-insert (e ∷ es) m n v h =
    subst (AreBelow (n + 1)) (sym (cmp-below m n e.0.0 e.0.1 (((m, n), v) ∷ e ∷ es) ((e.0, v) ∷ es) (e ∷ insert_entry key_cmp es (m, n) v) h.0))
    (below-branch (nat_lt m e.0.0) n ((m, n), v) e es (insert_entry key_cmp es (m, n) v) refl h (below-insert es m n v h.1))
