-- Remembered suffixes: those that begin before a place, where bytes are remembered, and what holds of each of them.
use Rattle.std.proofs.Common.{◌≡◌, ℕ, Bool, true, false, cond, ltb, List, [], ◌∷◌, ◌++◌, ◌<◌, ◌≤◌, length, Some, refl, ap, subst, ◌∙◌, arith}
use Rattle.std.specs.Prelude.{filter, is_none, ◌&&◌}
use Rattle.std.specs.List.{AllByRecursion, items_where_true}
use Rattle.std.specs.Str.{bytes_eq}
use Rattle.std.specs.List.Retain.{IsFiltered, ReturnsInTurn}
use Rattle.std.proofs.lemmas.Bool.{le-ltb, ltb-true, ltb-false, false_from_ne_true}
use Rattle.std.proofs.lemmas.List.{append-nil}
use Rattle.std.proofs.lemmas.List.Elements.{filter-append}
use Rattle.std.proofs.lemmas.Slice.Eq.{bytes_eq-Decides}
use Rattle.dns_wire.specs.Encoder.{Suffix, suffixes_before, place_of, remember}

-- those before an earlier place are among those before a later one
pub suffixes_before-before : (place later : ℕ) (suffixes : List Suffix) → place ≤ later → suffixes_before place (suffixes_before later suffixes) ≡ suffixes_before place suffixes
suffixes_before-before place later [] le = refl
suffixes_before-before place later (s ∷ suffixes) le = at (ltb s.start later) (ltb s.start place) refl refl (suffixes_before-before place later suffixes le)
  where
    at : (b a : Bool) → ltb s.start later ≡ b → ltb s.start place ≡ a → suffixes_before place (suffixes_before later suffixes) ≡ suffixes_before place suffixes
        → suffixes_before place (cond b (s ∷ suffixes_before later suffixes) (suffixes_before later suffixes)) ≡ cond a (s ∷ suffixes_before place suffixes) (suffixes_before place suffixes)
    at true a p q more = ap (λ (c : Bool). cond c (s ∷ suffixes_before place (suffixes_before later suffixes)) (suffixes_before place (suffixes_before later suffixes))) q ∙ ap (λ (ss : List Suffix). cond a (s ∷ ss) ss) more
    at false true p q more = absurd (omega (arith, ltb-false _ _ p, ltb-true _ _ q))
    at false false p q more = more

-- what is remembered from a place on is none of them
pub suffixes_before-remember : (place here : ℕ) (suffixes : List Suffix) (bytes : List ℕ) → place ≤ here → suffixes_before place (remember suffixes here bytes) ≡ suffixes_before place suffixes
suffixes_before-remember place here suffixes bytes le = at (ltb here 16383 && (ltb (length suffixes) 64 && is_none (place_of suffixes bytes)))
  where
    at : (b : Bool) → suffixes_before place (cond b (suffixes ++ record { start = here; bytes = bytes } ∷ []) suffixes) ≡ suffixes_before place suffixes
    at true =
        let no : ltb here place ≡ false = le-ltb _ _ le in
        filter-append (λ s. ltb s.start place) suffixes (record { start = here; bytes = bytes } ∷ []) ∙ rw no (append-nil (suffixes_before place suffixes))
    at false = refl

-- all of them, where all begin before it
pub suffixes_before-all : (place : ℕ) (suffixes : List Suffix) → AllByRecursion (λ x. x.start < place) suffixes → suffixes_before place suffixes ≡ suffixes
suffixes_before-all place [] all = refl
suffixes_before-all place (s ∷ suffixes) all =
    let yes : ltb s.start place ≡ true = grind arith in
    rw yes (ap (λ (ss : List Suffix). s ∷ ss) (suffixes_before-all place suffixes all.1))

-- ---- what holds of each

pub all_weaker : {P Q : Suffix → Type 0} (weaker : (s : Suffix) → P s → Q s) (suffixes : List Suffix) → AllByRecursion P suffixes → AllByRecursion Q suffixes
all_weaker weaker [] all = tt
all_weaker weaker (s ∷ suffixes) all = (weaker s all.0, all_weaker weaker suffixes all.1)

pub all-push : (P : Suffix → Type 0) (suffixes : List Suffix) (s : Suffix) → AllByRecursion P suffixes → P s → AllByRecursion P (suffixes ++ s ∷ [])
all-push P [] s all p = (p, tt)
all-push P (x ∷ suffixes) s all p = (all.0, all-push P suffixes s all.1 p)

pub all-suffixes_before : (P : Suffix → Type 0) (place : ℕ) (suffixes : List Suffix) → AllByRecursion P suffixes → AllByRecursion P (suffixes_before place suffixes)
all-suffixes_before P place [] all = tt
all-suffixes_before P place (s ∷ suffixes) all = at (ltb s.start place) (all-suffixes_before P place suffixes all.1)
  where
    at : (b : Bool) → AllByRecursion P (suffixes_before place suffixes) → AllByRecursion P (cond b (s ∷ suffixes_before place suffixes) (suffixes_before place suffixes))
    at true more = (all.0, more)
    at false more = more

-- what holds of those before a place, and what holds from there on
pub all-rejoin : {P Q : Suffix → Type 0} (place end : ℕ) (suffixes : List Suffix) → AllByRecursion P (suffixes_before place suffixes) → AllByRecursion (λ s. s.start < end) suffixes
    → (front : (s : Suffix) → P s → Q s) (back : (s : Suffix) → place ≤ s.start → s.start < end → Q s) → AllByRecursion Q suffixes
all-rejoin place end [] all behind front back = tt
all-rejoin {P} {Q} place end (s ∷ suffixes) all behind front back = at (ltb s.start place) refl all (λ all. all-rejoin place end suffixes all behind.1 front back)
  where
    at : (b : Bool) → ltb s.start place ≡ b → AllByRecursion P (cond b (s ∷ suffixes_before place suffixes) (suffixes_before place suffixes)) → (AllByRecursion P (suffixes_before place suffixes) → AllByRecursion Q suffixes) → Q s × AllByRecursion Q suffixes
    at true e all more = (front s all.0, more all.1)
    at false e all more = (back s (ltb-false _ _ e) behind.0, more all)

pub suffixes_before-behind : (place : ℕ) (suffixes : List Suffix) → AllByRecursion (λ s. s.start < place) (suffixes_before place suffixes)
suffixes_before-behind place [] = tt
suffixes_before-behind place (s ∷ suffixes) = at (ltb s.start place) refl (suffixes_before-behind place suffixes)
  where
    at : (b : Bool) → ltb s.start place ≡ b → AllByRecursion (λ x. x.start < place) (suffixes_before place suffixes) → AllByRecursion (λ x. x.start < place) (cond b (s ∷ suffixes_before place suffixes) (suffixes_before place suffixes))
    at true e more = (ltb-true _ _ e, more)
    at false e more = more

-- ---- where bytes are remembered

-- what holds of each suffix holds of the one that is found
pub place_of-found : (P : Suffix → Type 0) (suffixes : List Suffix) (bytes : List ℕ) (target : ℕ) → AllByRecursion P suffixes → place_of suffixes bytes ≡ Some target → (s : Suffix) × (s.start ≡ target) × (s.bytes ≡ bytes) × P s
place_of-found P [] bytes target all e = absurd (cc)
place_of-found P (s ∷ suffixes) bytes target all e = at (bytes_eq s.bytes bytes) refl e (place_of-found P suffixes bytes target all.1)
  where
    at : (b : Bool) → bytes_eq s.bytes bytes ≡ b → cond b (Some s.start) (place_of suffixes bytes) ≡ Some target → (place_of suffixes bytes ≡ Some target → (s : Suffix) × (s.start ≡ target) × (s.bytes ≡ bytes) × P s) → (s : Suffix) × (s.start ≡ target) × (s.bytes ≡ bytes) × P s
    at true same e more = (s, cc, (bytes_eq-Decides s.bytes bytes).0 same, all.0)
    at false same e more = more e

place_of-push : (suffixes : List Suffix) (s : Suffix) (bytes : List ℕ) → length bytes < length s.bytes → place_of (suffixes ++ s ∷ []) bytes ≡ place_of suffixes bytes
place_of-push [] s bytes shorter =
    let no : bytes_eq s.bytes bytes ≡ false = false_from_ne_true (bytes_eq s.bytes bytes) (λ same. let e = (bytes_eq-Decides s.bytes bytes).0 same in omega (arith, ap length e)) in
    rw no refl
place_of-push (x ∷ suffixes) s bytes shorter = ap (cond (bytes_eq x.bytes bytes) (Some x.start)) (place_of-push suffixes s bytes shorter)

-- bytes shorter than this are remembered at the same places
abbrev pub AgreeBelow : ℕ → List Suffix → List Suffix → Type 0
AgreeBelow n old now = (bytes : List ℕ) → length bytes < n → place_of now bytes ≡ place_of old bytes

pub remember-agree : (n : ℕ) (old now : List Suffix) (place : ℕ) (bytes : List ℕ) → n ≤ length bytes → AgreeBelow n old now → AgreeBelow n old (remember now place bytes)
remember-agree n old now place bytes le agree = at (ltb place 16383 && (ltb (length now) 64 && is_none (place_of now bytes)))
  where
    at : (b : Bool) → AgreeBelow n old (cond b (now ++ record { start = place; bytes = bytes } ∷ []) now)
    at true = λ sought lt. place_of-push now (record { start = place; bytes = bytes }) sought (omega arith) ∙ agree sought lt
    at false = agree

-- bytes that are remembered are not remembered again
pub remember-found : (suffixes : List Suffix) (place : ℕ) (bytes : List ℕ) (target : ℕ) → place_of suffixes bytes ≡ Some target → remember suffixes place bytes ≡ suffixes
remember-found suffixes place bytes target found = rw found (at (ltb place 16383) (ltb (length suffixes) 64))
  where
    at : (near room : Bool) → cond (near && (room && is_none (Some target))) (suffixes ++ record { start = place; bytes = bytes } ∷ []) suffixes ≡ suffixes
    at true true = refl
    at true false = refl
    at false room = refl

-- ---- what `retain` leaves, where the closure stays as it is and answers by a test

one_more : {X : Type 0} (x : X) (xs picked : List X) (answers : List Bool) (b t : Bool) → b ≡ t → items_where_true answers xs ≡ picked → items_where_true (b ∷ answers) (x ∷ xs) ≡ cond t (x ∷ picked) picked
one_more x xs picked answers true t e more = ap (λ ys. x ∷ ys) more ∙ ap (λ c. cond c (x ∷ picked) picked) e
one_more x xs picked answers false t e more = more ∙ ap (λ c. cond c (x ∷ picked) picked) e

module _ {X F : Type 0} (R : F → X → Bool → F → Type 0) (test : X → Bool) (f : F) (says : (x : X) (b : Bool) (f' : F) → R f x b f' → (b ≡ test x) × (f' ≡ f)) where
  filtered_in_turn : (g h : F) (answers : List Bool) (xs : List X) → g ≡ f → length answers ≡ length xs → ReturnsInTurn R g answers xs h → items_where_true answers xs ≡ filter test xs
  filtered_in_turn g h [] [] is len turns = refl
  filtered_in_turn g h [] (x ∷ xs) is len turns = absurd (omega arith)
  filtered_in_turn g h (b ∷ answers) [] is len turns = absurd turns
  filtered_in_turn g h (b ∷ answers) (x ∷ xs) is len turns =
      let said = says x b turns.0 (subst (λ (g : F). R g x b turns.0) is turns.1) in
      one_more x xs (filter test xs) answers b (test x) said.0 (filtered_in_turn turns.0 h answers xs said.1 (omega arith) turns.2)

  pub filter_from_retain_by : (xs ys : List X) → IsFiltered R f xs ys → ys ≡ filter test xs
  filter_from_retain_by xs ys h = h.4 ∙ filtered_in_turn f h.1 h.0 xs refl h.2 h.3
