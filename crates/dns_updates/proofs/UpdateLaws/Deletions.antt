-- Deletions of sets, of names and of rows: what is left at each key.
use Rattle.std.proofs.Common.{◌≡◌, ◌≢◌, ◌==◌, ℕ, Bool, true, false, cond, not, ◌&&◌, ◌||◌, List, refl, sym, ap, ◌∙◌, None}
use Rattle.std.specs.Ordering.{eq_by_cmp}
use Rattle.std.specs.FinMap as rows_map
use Rattle.dns_wire.specs.codes.RecordType.{type_number}
use Rattle.dns_wire.specs.declared.codes.record_type.RecordType.{RecordType}
use Rattle.dns_names.specs.Name.{DomainName}
use Rattle.dns_names.specs.Compare.{lower, same_labels}
use Rattle.dns_records.specs.RecordSet.{RecordSetValue}
use Rattle.dns_records.specs.Rows.{Key, Rows, HasNoEmptySet, key, key_cmp, set_key, with_set}
use Rattle.dns_updates.specs.Change.{is_kept_set, without_name, without_set}
use Rattle.dns_updates.specs.Builders.{is_apex_key, IsWithoutRows, IsWithoutSet, IsWithoutName}
use Rattle.dns_updates.proofs.UpdateLaws.Maps.{key_total, key_antisymmetric, same_key, tied_itself, set_at, get_other, set_at_with_set, filled_left}
use Rattle.dns_updates.proofs.UpdateLaws.Lists.{remaining}
use Rattle.dns_updates.proofs.UpdateLaws.Sets.{Alike, lower_twice}

true_false : true ≡ false → ⊥
true_false e = cc

apart : (q k : Key) → q ≢ k → eq_by_cmp key_cmp q k ≡ false
apart q k h = by (eq_by_cmp key_cmp q k) refl
  where
    by : (b : Bool) → eq_by_cmp key_cmp q k ≡ b → b ≡ false
    by true e = absurd (h (same_key q k e))
    by false e = refl

-- ---- rows

pub without_rows : (s : RecordSetValue) (rows : Rows) → HasNoEmptySet rows
    → IsWithoutRows s rows (with_set rows (set_key s) (remaining s.records (set_at rows (set_key s))))
without_rows s rows h = record {
  remaining = set_at_with_set rows (set_key s) (remaining s.records (set_at rows (set_key s)));
  others = λ k other. get_other rows (set_key s) (remaining s.records (set_at rows (set_key s))) k (apart k (set_key s) other);
  filled = filled_left rows (set_key s) (remaining s.records (set_at rows (set_key s))) h;
}

-- ---- sets and names

alike_same : Alike → (o a b : List (List ℕ)) → lower a ≡ lower b → same_labels o a ≡ same_labels o b
alike_same alike o a b e = by (same_labels o a) (same_labels o b) refl refl
  where
    by : (x y : Bool) → same_labels o a ≡ x → same_labels o b ≡ y → x ≡ y
    by true true p q = refl
    by false false p q = refl
    by true false p q = sym ((alike o b).1 ((alike o a).0 p ∙ e)) ∙ q
    by false true p q = sym p ∙ (alike o a).1 ((alike o b).0 q ∙ sym e)

module _ (alike : Alike) (origin : DomainName) (rows : Rows) (owner : DomainName) where
  kept_is_apex : (k : Key) → lower owner.labels ≡ lower k.0 → is_kept_set origin owner k.1 ≡ is_apex_key origin k
  kept_is_apex k e = ap (λ b. b && ((k.1 == 6) || (k.1 == 2))) (alike_same alike origin.labels owner.labels k.0 e)

  pub is_without_set : (t : RecordType) → IsWithoutSet origin owner t rows (without_set origin rows owner t)
  is_without_set t = by (is_kept_set origin owner (type_number t)) (sym (kept_is_apex (key owner.labels t) (sym (lower_twice owner.labels))))
    where
      by : (b : Bool) → is_apex_key origin (key owner.labels t) ≡ b → IsWithoutSet origin owner t rows (cond b rows (rows_map.remove rows (key owner.labels t)))
      by true e = record {
        apex = λ _. refl;
        deleted = λ f. absurd (true_false (sym e ∙ f));
        others = λ k _. refl;
      }
      by false e = record {
        apex = λ f. absurd (true_false (sym f ∙ e));
        deleted = λ _. rows_map.get-remove key_total rows (key owner.labels t) (key owner.labels t) ∙ ap (λ b. cond b None (rows_map.get rows (key owner.labels t))) (tied_itself (key owner.labels t));
        others = λ k other. rows_map.get-remove key_total rows (key owner.labels t) k ∙ ap (λ b. cond b None (rows_map.get rows k)) (apart k (key owner.labels t) other);
      }

  stays : Key → Bool
  stays k = not (same_labels owner.labels k.0) || is_kept_set origin owner k.1

  left_there : (q : Key) → rows_map.get (without_name origin rows owner) q ≡ cond (stays q) (rows_map.get rows q) None
  unfolding stays
  left_there q = rows_map.get-retain_keys rows _ q (λ x e. ap stays (sym (key_antisymmetric q x e)))

  pub is_without_name : IsWithoutName origin owner rows (without_name origin rows owner)
  unfolding stays
  is_without_name = record {
    apex = λ k a. left_there k ∙ ap (λ b. cond b (rows_map.get rows k) None) (apex_stays k a (same_labels owner.labels k.0) refl);
    deleted = λ k s a. left_there k ∙ ap (λ b. cond b (rows_map.get rows k) None) ((λ i. not (s i) || kept_is_apex k ((alike owner.labels k.0).0 s) i) ∙ a);
    others = λ k s. left_there k ∙ ap (λ b. cond (not b || is_kept_set origin owner k.1) (rows_map.get rows k) None) s;
  }
    where
      apex_stays : (k : Key) → is_apex_key origin k ≡ true → (b : Bool) → same_labels owner.labels k.0 ≡ b → (not (same_labels owner.labels k.0) || is_kept_set origin owner k.1) ≡ true
      apex_stays k a true s = (λ i. not (s i) || kept_is_apex k ((alike owner.labels k.0).0 s) i) ∙ a
      apex_stays k a false s = ap (λ b. not b || is_kept_set origin owner k.1) s
