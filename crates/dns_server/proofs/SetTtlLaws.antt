-- The TTLs of the last additions, and updates that are completed by them.
use Rattle.std.proofs.Common.{◌≡◌, ◌==◌, ◌<◌, ◌≤◌, ◌+◌, ◌∙◌, ℕ, Bool, true, false, cond, not, ◌&&◌, List, [], ◌∷◌, ◌++◌, map, take, drop, length, get_or, refl, sym, ap, subst, arith, Option, Some, None, unwrap_or}
use Rattle.std.proofs.lemmas.List.{append_assoc, map-append, take_more}
use Rattle.std.proofs.lemmas.List.Elements.{filter-append}
use Rattle.std.specs.Cmp.{Equal-is, eq_by_cmp_equiv}
use Rattle.std.specs.List.{filter, list_all}
use Rattle.dns_messages.specs.declared.message.Message.{Message}
use Rattle.dns_names.specs.Compare.{same_labels}
use Rattle.dns_records.specs.Record.{Record}
use Rattle.dns_records.specs.Rows.{Rows, row_of, rows_of, type_of_record}
use Rattle.dns_records.specs.declared.row.Row.{Row}
use Rattle.dns_updates.specs.Keys.{Place, place_cmp}
use Rattle.dns_updates.specs.Records.{is_type}
use Rattle.dns_updates.proofs.PlaceLaws.{place_exact, place_total, places_tie}
use Rattle.dns_updates.proofs.SetLaws.{keys_tie}
use Rattle.dns_updates.proofs.Walks.{drop_at}
use Rattle.dns_updates.proofs.UpdateLaws.Codes.{and_both, number_same}
use Rattle.dns_zone.specs.Answer.{record_of}
use Rattle.dns_server.specs.SetTtls.{adds_to, is_addition, last_ttl, restated, restated_rows, ttl_with, with_one_ttl, with_set_ttl}
use Rattle.dns_server.specs.internal.SetTtls.{is_place, kept_ttl, set_place, ttl_at, with_kept_ttl, AreLastTtls}
use Rattle.dns_server.specs.declared.server.set_ttls.SetTtls.{SetTtls}

-- ---- places

same_place : (p q : Place) → is_place p q ≡ true → p ≡ q
same_place p q e = place_exact p q ((Equal-is (place_cmp p q)).0 e)

same_set : Record → Record → Bool
same_set r u = same_labels r.name.labels u.name.labels && is_type (type_of_record r) (type_of_record u)

at_set : (r u : Record) → is_place (set_place u) (set_place r) ≡ same_set r u
unfolding same_set
at_set r u =
    (eq_by_cmp_equiv place_total).symm (set_place u) (set_place r)
    ∙ places_tie r.name.labels u.name.labels (type_of_record r) (type_of_record u)
    ∙ sym (keys_tie r.name.labels u.name.labels (type_of_record r) (type_of_record u))

-- ---- one more update, in front

module _ (more : List Record) (u : Record) where
  -- no addition
  pub not_added : (ttls : SetTtls) → is_addition u ≡ false → AreLastTtls more ttls → AreLastTtls (u ∷ more) ttls
  unfolding same_set
  not_added ttls e last r = last r ∙ by (last_ttl more r)
    where
      by : (o : Option ℕ) → o ≡ ttl_with o r u
      by (Some t) = refl
      by None = ap (λ b. cond (b && same_set r u) (Some u.ttl) None) (sym e)

  -- an addition after which there is another
  pub has_later : (ttls : SetTtls) (t : ℕ) → ttl_at ttls (set_place u) ≡ Some t → AreLastTtls more ttls → AreLastTtls (u ∷ more) ttls
  unfolding same_set
  has_later ttls t e last r = last r ∙ by (last_ttl more r) (last r) (adds_to r u) refl
    where
      by : (o : Option ℕ) → ttl_at ttls (set_place r) ≡ o → (b : Bool) → adds_to r u ≡ b → o ≡ ttl_with o r u
      by (Some x) f b g = refl
      by None f false g = ap (λ b. cond b (Some u.ttl) None) (sym g)
      by None f true g =
          let same : set_place u ≡ set_place r = same_place (set_place u) (set_place r) (at_set r u ∙ (and_both (is_addition u) (same_set r u) g).1) in
          let there : ttl_at ttls (set_place u) ≡ None = ap (ttl_at ttls) same ∙ f in
          absurd (cc)

  -- the last addition to its set
  pub inserted : (old new : SetTtls) → is_addition u ≡ true → ttl_at old (set_place u) ≡ None
      → ((p : Place) → ttl_at new p ≡ cond (is_place (set_place u) p) (Some u.ttl) (ttl_at old p))
      → AreLastTtls more old → AreLastTtls (u ∷ more) new
  unfolding same_set
  inserted old new e none put last r = put (set_place r) ∙ by (is_place (set_place u) (set_place r)) refl (last_ttl more r) (last r)
    where
      tells : adds_to r u ≡ is_place (set_place u) (set_place r)
      tells = ap (λ b. b && same_set r u) e ∙ sym (at_set r u)

      by : (b : Bool) → is_place (set_place u) (set_place r) ≡ b → (o : Option ℕ) → ttl_at old (set_place r) ≡ o
          → cond b (Some u.ttl) (ttl_at old (set_place r)) ≡ ttl_with o r u
      by true f None g = sym (ap (λ b. cond b (Some u.ttl) None) (tells ∙ f))
      by true f (Some t) g =
          let there : ttl_at old (set_place u) ≡ Some t = ap (ttl_at old) (same_place (set_place u) (set_place r) f) ∙ g in
          absurd (cc)
      by false f None g = g ∙ sym (ap (λ b. cond b (Some u.ttl) None) (tells ∙ f))
      by false f (Some t) g = g

-- from the end, one more update
pub stepped : (P : List Record → Type 0) (xs : List Record) (i j : ℕ) (x : Record) → j + 1 ≡ i → i ≤ length xs → x ≡ get_or xs j x → P (x ∷ drop i xs) → P (drop j xs)
stepped P xs i j x e h is p = subst P (sym (drop_at xs j x (omega arith) is ∙ ap (λ n. x ∷ drop n xs) e)) p

-- ---- the records of a set

restated_append : (r : Record) (xs ys : List Row) → restated_rows r (xs ++ ys) ≡ restated_rows r xs ++ restated_rows r ys
restated_append r xs ys =
    ap (map (λ (row : Row). record_of r.name (record row { ttl = r.ttl }))) (filter-append (λ (row : Row). not (row.ttl == r.ttl)) xs ys)
    ∙ map-append (λ (row : Row). record_of r.name (record row { ttl = r.ttl })) (filter (λ (row : Row). not (row.ttl == r.ttl)) xs) (filter (λ (row : Row). not (row.ttl == r.ttl)) ys)

pub restated_more : (r : Record) (stored : List Record) (i : ℕ) (x d : Record) (start before new : List Record) → i < length stored → x ≡ get_or stored i d
    → before ≡ start ++ restated_rows r (rows_of (take i stored)) → new ≡ before ++ restated_rows r (row_of x ∷ [])
    → new ≡ start ++ restated_rows r (rows_of (take (i + 1) stored))
restated_more r stored i x d start before new h e inv is =
    is ∙ ap (λ xs. xs ++ restated_rows r (row_of x ∷ [])) inv
    ∙ append_assoc start (restated_rows r (rows_of (take i stored))) (restated_rows r (row_of x ∷ []))
    ∙ ap (λ xs. start ++ xs) (sym (restated_append r (rows_of (take i stored)) (row_of x ∷ [])))
    ∙ ap (λ xs. start ++ restated_rows r xs) (sym (map-append row_of (take i stored) (x ∷ [])))
    ∙ ap (λ y. start ++ restated_rows r (rows_of (take i stored ++ y ∷ []))) e
    ∙ ap (λ xs. start ++ restated_rows r (rows_of xs)) (sym (take_more stored i d h))

-- ---- completed updates

kept_is_last : (updates : List Record) (ttls : SetTtls) → AreLastTtls updates ttls → (xs : List Record) → map (with_kept_ttl ttls) xs ≡ map (with_set_ttl updates) xs
kept_is_last updates ttls last [] = refl
kept_is_last updates ttls last (x ∷ xs) =
    λ i. record x { ttl = cond (is_addition x) (unwrap_or (last x i) x.ttl) x.ttl } ∷ kept_is_last updates ttls last xs i

all_kept : (ttls : SetTtls) (xs : List Record) → list_all (λ r. kept_ttl ttls r == r.ttl) xs ≡ true → map (with_kept_ttl ttls) xs ≡ xs
all_kept ttls [] e = refl
all_kept ttls (x ∷ xs) e =
    let both = and_both (kept_ttl ttls x == x.ttl) (list_all (λ r. kept_ttl ttls r == r.ttl) xs) e in
    λ i. record x { ttl = number_same (kept_ttl ttls x) x.ttl both.0 i } ∷ all_kept ttls xs both.1 i

empty_of : (xs : List Record) → length xs ≡ 0 → xs ≡ []
empty_of [] e = refl
empty_of (x ∷ xs) e = absurd (omega arith)

-- nothing is to be changed
pub unchanged : (rows : Rows) (m : Message) (ttls : SetTtls) (front : List Record) → front ≡ restated rows m.authorities → AreLastTtls m.authorities ttls → length front ≡ 0
    → list_all (λ r. kept_ttl ttls r == r.ttl) m.authorities ≡ true → m ≡ with_one_ttl rows m
unchanged rows m ttls front e last none all =
    let same : m.authorities ≡ restated rows m.authorities ++ map (with_set_ttl m.authorities) m.authorities =
    sym (all_kept ttls m.authorities all) ∙ kept_is_last m.authorities ttls last m.authorities
    ∙ ap (λ (xs : List Record). xs ++ map (with_set_ttl m.authorities) m.authorities) (sym (empty_of front none) ∙ e) in
    λ i. record m { authorities = same i }
