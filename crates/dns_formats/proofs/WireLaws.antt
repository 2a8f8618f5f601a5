-- Fields and labels at the front of bytes, one after another.
use Rattle.std.proofs.Common.{◌≡◌, ℕ, zero, suc, ◌+◌, ◌<◌, ◌≤◌, Bool, true, false, List, [], ◌∷◌, length, drop, get_or, Option, Some, None, option_map, refl, sym, ap, subst, ◌∙◌, arith}
use Rattle.std.specs.Prelude.{◌==◌, nat_le, nat_lt, if◌then◌else◌}
use Rattle.std.proofs.lemmas.Bool.Decides.{nat_tests}
use Rattle.std.proofs.lemmas.List.{drop-drop}
use Rattle.dns_formats.specs.Wire.{name_end, short_name, value_len, fits}
use Rattle.dns_formats.specs.declared.field.Field.{Field}
use Rattle.dns_formats.proofs.ValueLaws.{at_place}
use Rattle.dns_formats.proofs.ReadLaws.{none_left}
use Rattle.dns_formats.proofs.NameLaws.{name_skips}

-- ---- fields

one_value : (o : Option ℕ) (n : ℕ) (fields : List Field) (bytes : List ℕ) → o ≡ Some n → (elim o as (λ _. Bool) [ None ↦ false | Some k ↦ fits fields (drop k bytes) ]) ≡ fits fields (drop n bytes)
one_value o n fields bytes e = ap (λ (p : Option ℕ). elim p as (λ _. Bool) [ None ↦ false | Some k ↦ fits fields (drop k bytes) ]) e

no_value : (o : Option ℕ) (fields : List Field) (bytes : List ℕ) → o ≡ None → (elim o as (λ _. Bool) [ None ↦ false | Some k ↦ fits fields (drop k bytes) ]) ≡ false
no_value o fields bytes e = ap (λ (p : Option ℕ). elim p as (λ _. Bool) [ None ↦ false | Some k ↦ fits fields (drop k bytes) ]) e

pub fits_further : (fields : List Field) (i : ℕ) (d : Field) (left : List ℕ) (len : ℕ) (whole : Bool) → i < length fields → value_len (get_or fields i d) left ≡ Some len
    → fits (drop i fields) left ≡ whole → fits (drop (i + 1) fields) (drop len left) ≡ whole
fits_further fields i d left len whole here is e =
    sym (one_value (value_len (get_or fields i d) left) len (drop (i + 1) fields) left is) ∙ ap (λ (fs : List Field). fits fs left) (sym (at_place fields i d here)) ∙ e

pub fits_stop : (fields : List Field) (i : ℕ) (d : Field) (left : List ℕ) (whole : Bool) → i < length fields → value_len (get_or fields i d) left ≡ None
    → fits (drop i fields) left ≡ whole → whole ≡ false
fits_stop fields i d left whole here is e =
    sym e ∙ ap (λ (fs : List Field). fits fs left) (at_place fields i d here) ∙ no_value (value_len (get_or fields i d) left) (drop (i + 1) fields) left is

-- ---- labels

joined_sums : (a b : ℕ) (o : Option ℕ) → option_map (λ n. a + n) (option_map (λ n. b + n) o) ≡ option_map (λ n. a + b + n) o
joined_sums a b None = refl
joined_sums a b (Some n) = ap (λ (k : ℕ). Some k) (omega arith)

at_label : (c : ℕ) (cs : List ℕ) → 0 < c → c < 64 → name_end 0 (c ∷ cs) ≡ option_map (λ n. 1 + n) (name_end c cs)
at_label c cs some few = by (c == 0) refl
  where
    further : (b : Bool) → nat_lt c 64 ≡ b → (if b then option_map (λ n. 1 + n) (name_end c cs) else None) ≡ option_map (λ n. 1 + n) (name_end c cs)
    further true q = refl
    further false q = absurd (grind (arith, nat_tests))

    by : (b : Bool) → (c == 0) ≡ b → (if b then Some 1 else if nat_lt c 64 then option_map (λ n. 1 + n) (name_end c cs) else None) ≡ option_map (λ n. 1 + n) (name_end c cs)
    by true q = absurd (grind (arith, nat_tests))
    by false q = further (nat_lt c 64) refl

at_root : (c : ℕ) (cs : List ℕ) → c ≡ 0 → name_end 0 (c ∷ cs) ≡ Some 1
at_root c cs is = ap (λ (k : ℕ). name_end 0 (k ∷ cs)) is

at_other : (c : ℕ) (cs : List ℕ) → 63 < c → name_end 0 (c ∷ cs) ≡ None
at_other c cs large = by (c == 0) refl
  where
    further : (b : Bool) → nat_lt c 64 ≡ b → ◌≡◌ {A = Option ℕ} (if b then option_map (λ n. 1 + n) (name_end c cs) else None) None
    further true q = absurd (grind (arith, nat_tests))
    further false q = refl

    by : (b : Bool) → (c == 0) ≡ b → ◌≡◌ {A = Option ℕ} (if b then Some 1 else if nat_lt c 64 then option_map (λ n. 1 + n) (name_end c cs) else None) None
    by true q = absurd (grind (arith, nat_tests))
    by false q = further (nat_lt c 64) refl

module _ (bytes : List ℕ) (place : ℕ) (within : place < length bytes) (whole : Option ℕ) (so_far : option_map (λ n. place + n) (name_end 0 (drop place bytes)) ≡ whole) where
  here : name_end 0 (drop place bytes) ≡ name_end 0 (get_or bytes place 0 ∷ drop (place + 1) bytes)
  here = ap (name_end 0) (at_place bytes place 0 within)

  pub label_further : 0 < get_or bytes place 0 → get_or bytes place 0 < 64
      → option_map (λ n. place + (1 + get_or bytes place 0) + n) (name_end 0 (drop (place + (1 + get_or bytes place 0)) bytes)) ≡ whole
  label_further some few =
      let c : ℕ = get_or bytes place 0 in
      let next : place + 1 + c ≡ place + (1 + c) = omega arith in
      sym (joined_sums place (1 + c) (name_end 0 (drop (place + (1 + c)) bytes)))
      ∙ ap (option_map (λ n. place + n)) (sym (joined_sums 1 c (name_end 0 (drop (place + (1 + c)) bytes))))
      ∙ ap (λ (k : ℕ). option_map (λ n. place + n) (option_map (λ n. 1 + n) (option_map (λ n. c + n) (name_end 0 (drop k bytes))))) (sym next)
      ∙ ap (λ (l : List ℕ). option_map (λ n. place + n) (option_map (λ n. 1 + n) (option_map (λ n. c + n) (name_end 0 l)))) (sym (drop-drop c (place + 1) bytes))
      ∙ ap (λ (o : Option ℕ). option_map (λ n. place + n) (option_map (λ n. 1 + n) o)) (sym (name_skips c (drop (place + 1) bytes)))
      ∙ ap (option_map (λ n. place + n)) (sym (at_label c (drop (place + 1) bytes) some few) ∙ sym here) ∙ so_far

  pub label_by : (len : ℕ) → len ≡ get_or bytes place 0 → (len ≡ 0 → ⊥) → len ≤ 63 → option_map (λ n. place + (1 + len) + n) (name_end 0 (drop (place + (1 + len)) bytes)) ≡ whole
  label_by len is some few =
      subst (λ (k : ℕ). option_map (λ n. place + (1 + k) + n) (name_end 0 (drop (place + (1 + k)) bytes)) ≡ whole) (sym is) (label_further (omega arith) (omega arith))

  pub root_there : get_or bytes place 0 ≡ 0 → whole ≡ Some (place + 1)
  root_there is = sym so_far ∙ ap (option_map (λ n. place + n)) (here ∙ at_root (get_or bytes place 0) (drop (place + 1) bytes) is)

  pub other_there : 63 < get_or bytes place 0 → whole ≡ None
  other_there large = sym so_far ∙ ap (option_map (λ n. place + n)) (here ∙ at_other (get_or bytes place 0) (drop (place + 1) bytes) large)

short : (n : ℕ) → n ≤ 255 → short_name (Some n) ≡ Some n
short n le = by (nat_le n 255) refl
  where
    by : (b : Bool) → nat_le n 255 ≡ b → (if b then Some n else None) ≡ Some n
    by true q = refl
    by false q = absurd (grind (arith, nat_tests))

long : (n : ℕ) → 255 < n → short_name (Some n) ≡ None
long n lt = by (nat_le n 255) refl
  where
    by : (b : Bool) → nat_le n 255 ≡ b → ◌≡◌ {A = Option ℕ} (if b then Some n else None) None
    by true q = absurd (grind (arith, nat_tests))
    by false q = refl

pub short_root : (place : ℕ) (whole : Option ℕ) → place < 255 → whole ≡ Some (place + 1) → short_name whole ≡ Some (place + 1)
short_root place whole few e = ap short_name e ∙ short (place + 1) (omega arith)

-- a name has at least the root's zero byte
some_byte : (past : ℕ) (bytes : List ℕ) (n : ℕ) → name_end past bytes ≡ Some n → 0 < n
some_byte past [] n e = absurd (cc)
some_byte zero (c ∷ cs) n e = by (c == 0) (nat_lt c 64) e
  where
    more : (o : Option ℕ) → option_map (λ k. 1 + k) o ≡ Some n → 0 < n
    more None q = absurd (cc)
    more (Some k) q = let same : 1 + k ≡ n = is (1 + k) q in omega arith
      where
        is : (m : ℕ) → ◌≡◌ {A = Option ℕ} (Some m) (Some n) → m ≡ n
        is m r = cc

    by : (b t : Bool) → (if b then Some 1 else if t then option_map (λ k. 1 + k) (name_end c cs) else None) ≡ Some n → 0 < n
    by true t q = let same : 1 ≡ n = one q in omega arith
      where
        one : ◌≡◌ {A = Option ℕ} (Some 1) (Some n) → 1 ≡ n
        one r = cc
    by false true q = more (name_end c cs) q
    by false false q = absurd (cc)
some_byte (suc past) (c ∷ cs) n e = more (name_end past cs) e
  where
    more : (o : Option ℕ) → option_map (λ k. 1 + k) o ≡ Some n → 0 < n
    more None q = absurd (cc)
    more (Some k) q = let same : 1 + k ≡ n = is (1 + k) q in omega arith
      where
        is : (m : ℕ) → ◌≡◌ {A = Option ℕ} (Some m) (Some n) → m ≡ n
        is m r = cc

-- past the greatest length, or the bytes, there is no name
pub too_far : (bytes : List ℕ) (place : ℕ) (whole : Option ℕ) → option_map (λ n. place + n) (name_end 0 (drop place bytes)) ≡ whole → 255 ≤ place → short_name whole ≡ None
too_far bytes place whole so_far far = ap short_name (sym so_far) ∙ at (name_end 0 (drop place bytes)) refl
  where
    at : (o : Option ℕ) → name_end 0 (drop place bytes) ≡ o → short_name (option_map (λ n. place + n) o) ≡ None
    at None q = refl
    at (Some n) q = let some = some_byte 0 (drop place bytes) n q in long (place + n) (omega arith)

pub no_more : (bytes : List ℕ) (place : ℕ) (whole : Option ℕ) → option_map (λ n. place + n) (name_end 0 (drop place bytes)) ≡ whole → length bytes ≤ place → short_name whole ≡ None
no_more bytes place whole so_far past =
    ap short_name (sym so_far ∙ ap (λ (l : List ℕ). option_map (λ n. place + n) (name_end 0 l)) (none_left bytes place past))
