-- The text of a string, octet by octet.
use Rattle.std.proofs.Common.{◌≡◌, ◌<◌, ◌+◌, ◌++◌, ℕ, List, [], ◌∷◌, suc, length, drop, get_or, ap, sym, subst, refl, ◌∙◌, arith, append_assoc, Option, Some, None, option_map, Result, Ok, Err, OnOk}
use Rattle.std.proofs.Output.{has_written_append}
use Rattle.std.specs.Fmt.{DisplaysOnOk, HasWritten, IsPlainFormatter, WritesText}
use Rattle.std.specs.List.{FoldsTo, concat}
use Rattle.std.specs.declared.fmt.Error.{Error}
use Rattle.std.specs.declared.fmt.Formatter.{Formatter}
use Rattle.std.proofs.Math.Seq.{drop-cons}
use Rattle.dns_log.specs.Json.{json_octet, json_octets}
use Rattle.dns_log.specs.declared.json.Inside.{Inside}

-- the octet at an index continues what is written
pub octet_more : (xs : List ℕ) (i : ℕ) (done all : List ℕ) → i < length xs → done ++ json_octets (drop i xs) ≡ all
    → (done ++ json_octet (get_or xs i 0)) ++ json_octets (drop (i + 1) xs) ≡ all
octet_more xs i done all within e =
    let next : i + 1 ≡ suc i = omega arith in
    append_assoc done (json_octet (get_or xs i 0)) (json_octets (drop (i + 1) xs))
    ∙ ap (λ (n : ℕ). done ++ (json_octet (get_or xs i 0) ++ json_octets (drop n xs))) next
    ∙ ap (λ (l : List ℕ). done ++ json_octets l) (sym (drop-cons xs i 0 within)) ∙ e

-- octets are escaped one by one
octets_append : (xs ys : List ℕ) → json_octets (xs ++ ys) ≡ json_octets xs ++ json_octets ys
octets_append [] ys = refl
octets_append (x ∷ xs) ys = ap (λ (l : List ℕ). json_octet x ++ l) (octets_append xs ys) ∙ sym (append_assoc (json_octet x) (json_octets xs) (json_octets ys))

module _ {W : Type 0} (took : W → List ℕ → W → Type 0) where
  -- what a write to the inside of a string does
  abbrev pub Escapes : Inside W → List ℕ → Inside W → Type 0
  Escapes old text new =
      (new.f.ghost_name ≡ old.f.ghost_name) × (IsPlainFormatter old.f.now → HasWritten took old.f.now (json_octets text) new.f.now)

  -- and what some writes do
  escapes_all : (s : Inside W) (parts : List (List ℕ)) (t : Inside W) → FoldsTo Escapes s parts t → Escapes s (concat parts) t
  escapes_all s [] t p = (
    ap (λ (x : Inside W). x.f.ghost_name) (sym p),
    λ plain. subst (λ (x : Inside W). HasWritten took s.f.now [] x.f.now) p
        (record { wrote = record { parts = []; calls = refl; whole = refl }; plain = plain }),
  )
  escapes_all s (x ∷ parts) t p =
      let rest = escapes_all p.0 parts t p.2 in (
        rest.0 ∙ p.1.0,
        λ plain.
            let first = p.1.1 plain in
            subst (λ (l : List ℕ). HasWritten took s.f.now l t.f.now) (sym (octets_append x (concat parts)))
            (has_written_append took s.f.now (json_octets x) p.0.f.now (json_octets (concat parts)) t.f.now first (rest.1 first.plain)),
      )

  -- the text of a value is escaped, and the formatter comes back
  pub escaped : (s t : Inside W) (f g : Formatter W) (r : Result (Unit {0}) Error) (o : Option (List ℕ)) → s.f.now ≡ f
      → (t.f.ghost_name ≡ s.f.ghost_name → g ≡ t.f.now) → OnOk r (WritesText Escapes s o t) → DisplaysOnOk took f r (option_map json_octets o) g
  escaped s t f g r None is back wrote = tt
  escaped s t f g (Err e) (Some bs) is back wrote = λ plain ok. absurd (cc ok)
  escaped s t f g (Ok done) (Some bs) is back wrote = λ plain ok.
      let all : Escapes s bs t = subst (λ (l : List ℕ). Escapes s l t) wrote.whole (escapes_all s wrote.parts t wrote.calls) in
      let same : g ≡ t.f.now = back all.0 in
      rw (sym is, same) (all.1 (rw is plain))
