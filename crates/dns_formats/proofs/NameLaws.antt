-- The uncompressed name at the front of bytes, and its labels.
use Rattle.std.proofs.Common.{◌≡◌, ℕ, zero, suc, ◌+◌, ◌<◌, ◌≤◌, Bool, true, false, List, [], ◌∷◌, ◌++◌, length, take, drop, Option, Some, None, option_map, refl, sym, ap, ◌∙◌, append_assoc, arith, length-take}
use Rattle.std.specs.Prelude.{◌==◌, nat_lt, if◌then◌else◌}
use Rattle.std.specs.List.{AllByRecursion}
use Rattle.std.proofs.lemmas.Bool.Decides.{nat_tests}
use Rattle.dns_wire.specs.Name.{IsLabel, name_len}
use Rattle.dns_wire.specs.Writing.{labels_form, whole_form}
use Rattle.dns_names.specs.Print.{AreOctets}
use Rattle.dns_formats.specs.Wire.{name_end}
use Rattle.dns_formats.specs.Print.{labels_at}

-- ---- past a label

plus_zero : (o : Option ℕ) → o ≡ option_map (λ n. 0 + n) o
plus_zero None = refl
plus_zero (Some n) = ap (λ (k : ℕ). Some k) (omega arith)

plus_one : (past : ℕ) (o : Option ℕ) → option_map (λ n. 1 + n) (option_map (λ n. past + n) o) ≡ option_map (λ n. suc past + n) o
plus_one past None = refl
plus_one past (Some n) = ap (λ (k : ℕ). Some k) (omega arith)

pub name_skips : (past : ℕ) (bytes : List ℕ) → name_end past bytes ≡ option_map (λ n. past + n) (name_end 0 (drop past bytes))
name_skips zero bytes = plus_zero (name_end 0 bytes)
name_skips (suc past) [] = refl
name_skips (suc past) (c ∷ cs) = ap (option_map (λ n. 1 + n)) (name_skips past cs) ∙ plus_one past (name_end 0 (drop past cs))

pub labels_skip : (past : ℕ) (bytes : List ℕ) → labels_at past bytes ≡ labels_at 0 (drop past bytes)
labels_skip zero bytes = refl
labels_skip (suc past) [] = refl
labels_skip (suc past) (c ∷ cs) = labels_skip past cs

-- ---- the labels of a name are its bytes

-- the first `n` bytes are `past` bytes of a label, and labels with the root's zero byte
pub record IsNameTo (past : ℕ) (bytes : List ℕ) (labels : List (List ℕ)) (n : ℕ) : Type 0 where
  pub form : take past bytes ++ whole_form labels ≡ take n bytes
  pub each : AllByRecursion IsLabel labels
  pub len : past + name_len labels ≡ n
  pub more : past < n
  pub within : n ≤ length bytes
  pub octets : AreOctets bytes → AllByRecursion AreOctets labels

equal : (a b : ℕ) → (a == b) ≡ true → a ≡ b
equal a b e = grind (arith, nat_tests)

unequal : (a : ℕ) → (a == 0) ≡ false → 0 < a
unequal a e = grind (arith, nat_tests)

below : (a b : ℕ) → nat_lt a b ≡ true → a < b
below a b e = grind (arith, nat_tests)

one_is : (n : ℕ) → ◌≡◌ {A = Option ℕ} (Some 1) (Some n) → n ≡ 1
one_is n e = cc

front_octets : (n : ℕ) (bytes : List ℕ) → AreOctets bytes → AreOctets (take n bytes)
front_octets zero bytes are = tt
front_octets (suc n) [] are = tt
front_octets (suc n) (c ∷ cs) are = (are.0, front_octets n cs are.1)

at_root : (c : ℕ) (cs : List ℕ) (n : ℕ) → c ≡ 0 → n ≡ 1 → IsNameTo 0 (c ∷ cs) [] n
at_root c cs n is one = record {
  form = ap (λ (k : ℕ). k ∷ []) (sym is) ∙ ap (λ (k : ℕ). take k (c ∷ cs)) (sym one);
  each = tt;
  len = sym one;
  more = omega arith;
  within = omega arith;
  octets = λ are. tt;
}

at_label : (c : ℕ) (cs : List ℕ) (labels : List (List ℕ)) (m n : ℕ) → 0 < c → c < 64 → n ≡ 1 + m → IsNameTo c cs labels m → IsNameTo 0 (c ∷ cs) (take c cs ∷ labels) n
at_label c cs labels m n some few one is =
    let more = is.more in
    let within = is.within in
    let full : length (take c cs) ≡ c = length-take c cs ∙ omega arith in
    let next : n ≡ suc m = omega arith in
    record {
      form = ap (λ (k : ℕ). k ∷ (take c cs ++ labels_form labels) ++ 0 ∷ []) full
          ∙ ap (λ (l : List ℕ). c ∷ l) (append_assoc (take c cs) (labels_form labels) (0 ∷ []) ∙ is.form)
          ∙ ap (λ (k : ℕ). take k (c ∷ cs)) (sym next);
      each = (record { some = omega (arith, full); most = omega (arith, full) }, is.each);
      len = let rest = is.len in omega (arith, full, rest);
      more = omega arith;
      within = omega arith;
      octets = λ are. (front_octets c cs are.1, is.octets are.1);
    }

inside_label : (c past : ℕ) (cs : List ℕ) (labels : List (List ℕ)) (m n : ℕ) → n ≡ 1 + m → IsNameTo past cs labels m → IsNameTo (suc past) (c ∷ cs) labels n
inside_label c past cs labels m n one is =
    let next : n ≡ suc m = omega arith in
    let rest = is.len in
    let more = is.more in
    let within = is.within in
    record {
      form = ap (λ (l : List ℕ). c ∷ l) is.form ∙ ap (λ (k : ℕ). take k (c ∷ cs)) (sym next);
      each = is.each;
      len = omega (arith, rest);
      more = omega arith;
      within = omega arith;
      octets = λ are. is.octets are.1;
    }

-- a length of one more byte
shorter : (o : Option ℕ) (n : ℕ) → option_map (λ k. 1 + k) o ≡ Some n → (m : ℕ) × (o ≡ Some m) × (n ≡ 1 + m)
shorter None n e = absurd (cc)
shorter (Some m) n e = let same : 1 + m ≡ n = some_is (1 + m) n e in (m, refl, sym same)
  where
    some_is : (a b : ℕ) → ◌≡◌ {A = Option ℕ} (Some a) (Some b) → a ≡ b
    some_is a b q = cc

pub name_to : (past : ℕ) (bytes : List ℕ) (n : ℕ) → name_end past bytes ≡ Some n → IsNameTo past bytes (labels_at past bytes) n
name_to zero [] n e = absurd (cc)
name_to (suc past) [] n e = absurd (cc)
name_to zero (c ∷ cs) n e = by (c == 0) refl (name_to c cs) e
  where
    further : (b : Bool) → nat_lt c 64 ≡ b → (c == 0) ≡ false → ((m : ℕ) → name_end c cs ≡ Some m → IsNameTo c cs (labels_at c cs) m)
        → (if b then option_map (λ k. 1 + k) (name_end c cs) else None) ≡ Some n → IsNameTo 0 (c ∷ cs) (take c cs ∷ labels_at c cs) n
    further true few some next is = let m = shorter (name_end c cs) n is in at_label c cs (labels_at c cs) m.0 n (unequal c some) (below c 64 few) m.2 (next m.0 m.1)
    further false few some next is = absurd (cc)

    by : (b : Bool) → (c == 0) ≡ b → ((m : ℕ) → name_end c cs ≡ Some m → IsNameTo c cs (labels_at c cs) m)
        → (if b then Some 1 else if nat_lt c 64 then option_map (λ k. 1 + k) (name_end c cs) else None) ≡ Some n
        → IsNameTo 0 (c ∷ cs) (if b then [] else take c cs ∷ labels_at c cs) n
    by true root next is = at_root c cs n (equal c 0 root) (one_is n is)
    by false root next is = further (nat_lt c 64) refl root next is
name_to (suc past) (c ∷ cs) n e = let m = shorter (name_end past cs) n e in inside_label c past cs (labels_at past cs) m.0 n m.2 (name_to past cs m.0 m.1)
