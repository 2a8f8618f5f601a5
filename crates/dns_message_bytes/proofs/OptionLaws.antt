-- Options, as they are read.
use Rattle.std.proofs.Common.{◌≡◌, ℕ, ◌+◌, ◌<◌, ◌≤◌, ◌^◌, List, [], ◌∷◌, ◌++◌, length, drop, flat_map, refl, sym, ap, subst, ◌∙◌, append_assoc, arith, length-append}
use Rattle.std.specs.Int.{w16, to_be_bytes}
use Rattle.std.specs.List.{AllByRecursion}
use Rattle.std.proofs.lemmas.List.{append-nil}
use Rattle.dns_wire.specs.Encodable.{Plain, Position, form, piece_next, PiecesAt}
use Rattle.dns_wire.specs.declared.name_encoding.NameEncoding.TheVariants.{Uncompressed}
use Rattle.dns_wire.specs.internal.NumberLaws.{same_number_2}
use Rattle.dns_data.specs.Field.{OptionValue, option_form, option_pieces}
use Rattle.dns_message_bytes.specs.view.Request.{IsSoundOption}
use Rattle.dns_message_bytes.proofs.ListLaws.{same_rest, same_front, plain_then}

-- ---- one option

option_split : (o : OptionValue) (more : List ℕ) → option_form o ++ more ≡ to_be_bytes w16 o.code ++ (to_be_bytes w16 (length o.bytes) ++ (o.bytes ++ more))
option_split o more =
    append_assoc (to_be_bytes w16 o.code) (to_be_bytes w16 (length o.bytes) ++ o.bytes) more
    ∙ ap (λ (xs : List ℕ). to_be_bytes w16 o.code ++ xs) (append_assoc (to_be_bytes w16 (length o.bytes)) o.bytes more)

-- what is read piece by piece
pub option_read : (code len : ℕ) (bytes a b c more : List ℕ) → length bytes ≡ len → a ≡ to_be_bytes w16 code ++ b → b ≡ to_be_bytes w16 len ++ c → c ≡ bytes ++ more → a ≡ option_form (record { code = code; bytes = bytes }) ++ more
option_read code len bytes a b c more is e f g =
    e ∙ ap (λ (xs : List ℕ). to_be_bytes w16 code ++ xs) (f ∙ ap (λ (n : ℕ). to_be_bytes w16 n ++ c) (sym is) ∙ ap (λ (xs : List ℕ). to_be_bytes w16 (length bytes) ++ xs) g)
    ∙ sym (option_split (record { code = code; bytes = bytes }) more)

pub no_code : (a : List ℕ) (o : OptionValue) (more : List ℕ) → length a < 2 → a ≡ option_form o ++ more → ⊥
no_code a o more short e = omega (arith, short, ap (λ (xs : List ℕ). length xs) (e ∙ option_split o more))

pub no_len : (code : ℕ) (a b : List ℕ) (o : OptionValue) (more : List ℕ) → a ≡ to_be_bytes w16 code ++ b → length b < 2 → a ≡ option_form o ++ more → ⊥
no_len code a b o more f short e =
    let left : b ≡ to_be_bytes w16 (length o.bytes) ++ (o.bytes ++ more) = same_rest (to_be_bytes w16 code) (to_be_bytes w16 o.code) b _ refl (sym f ∙ e ∙ option_split o more) in
    omega (arith, short, ap (λ (xs : List ℕ). length xs) left)

pub no_data : (code len : ℕ) (a b c : List ℕ) (o : OptionValue) (more : List ℕ) → len < 2 ^ 16 → length o.bytes < 2 ^ 16 → a ≡ to_be_bytes w16 code ++ b → b ≡ to_be_bytes w16 len ++ c → length c < len → a ≡ option_form o ++ more → ⊥
no_data code len a b c o more small fits f g short e =
    let left : b ≡ to_be_bytes w16 (length o.bytes) ++ (o.bytes ++ more) = same_rest (to_be_bytes w16 code) (to_be_bytes w16 o.code) b _ refl (sym f ∙ e ∙ option_split o more) in
    let lens : len ≡ length o.bytes = same_number_2 len (length o.bytes) small fits (same_front (to_be_bytes w16 len) (to_be_bytes w16 (length o.bytes)) c (o.bytes ++ more) refl (sym g ∙ left)) in
    let last : c ≡ o.bytes ++ more = same_rest (to_be_bytes w16 len) (to_be_bytes w16 (length o.bytes)) c (o.bytes ++ more) refl (sym g ∙ left) in
    omega (arith, short, lens, ap (λ (xs : List ℕ). length xs) last, length-append o.bytes more)

-- an option takes four bytes at least
pub option-some : (o : OptionValue) (more : List ℕ) → 4 ≤ length (option_form o ++ more)
option-some o more = omega (arith, ap (λ (xs : List ℕ). length xs) (option_split o more))

-- what follows an option is determined
pub option_rest : (o p : OptionValue) (x y : List ℕ) → length o.bytes < 2 ^ 16 → length p.bytes < 2 ^ 16 → option_form o ++ x ≡ option_form p ++ y → x ≡ y
option_rest o p x y fits fits' e =
    let left = same_rest (to_be_bytes w16 o.code) (to_be_bytes w16 p.code) (to_be_bytes w16 (length o.bytes) ++ (o.bytes ++ x)) (to_be_bytes w16 (length p.bytes) ++ (p.bytes ++ y)) refl (sym (option_split o x) ∙ e ∙ option_split p y) in
    let lens : length o.bytes ≡ length p.bytes = same_number_2 (length o.bytes) (length p.bytes) fits fits' (same_front (to_be_bytes w16 (length o.bytes)) (to_be_bytes w16 (length p.bytes)) (o.bytes ++ x) (p.bytes ++ y) refl left) in
    same_rest o.bytes p.bytes x y lens (same_rest (to_be_bytes w16 (length o.bytes)) (to_be_bytes w16 (length p.bytes)) (o.bytes ++ x) (p.bytes ++ y) refl left)

-- ---- options that are read one after another

forms-push : (options : List OptionValue) (o : OptionValue) (more : List ℕ) → flat_map option_form (options ++ o ∷ []) ++ more ≡ flat_map option_form options ++ (option_form o ++ more)
forms-push [] o more = ap (λ (xs : List ℕ). xs ++ more) (append-nil (option_form o))
forms-push (p ∷ options) o more =
    append_assoc (option_form p) (flat_map option_form (options ++ o ∷ [])) more ∙ ap (λ (xs : List ℕ). option_form p ++ xs) (forms-push options o more)
    ∙ sym (append_assoc (option_form p) (flat_map option_form options) (option_form o ++ more))

all-push : (options : List OptionValue) (o : OptionValue) → AllByRecursion IsSoundOption options → IsSoundOption o → AllByRecursion IsSoundOption (options ++ o ∷ [])
all-push [] o all is = (is, tt)
all-push (p ∷ options) o all is = (all.0, all-push options o all.1 is)

-- these options are read
pub record Front (bytes now : List ℕ) : Type 0 where
  pub options : List OptionValue
  pub sound : AllByRecursion IsSoundOption options
  pub read : bytes ≡ flat_map option_form options ++ now

-- of options that the bytes are, these are left
pub record Left (now : List ℕ) : Type 0 where
  pub options : List OptionValue
  pub sound : AllByRecursion IsSoundOption options
  pub there : now ≡ flat_map option_form options

-- if the bytes are options, options are left
abbrev pub Onward : List ℕ → List ℕ → Type 0
Onward bytes now = (options : List OptionValue) → AllByRecursion IsSoundOption options → bytes ≡ flat_map option_form options → Left now

-- the bytes begin with no option
abbrev pub NoOption : List ℕ → Type 0
NoOption now = (o : OptionValue) (more : List ℕ) → IsSoundOption o → now ≡ option_form o ++ more → ⊥

pub front-start : (bytes now : List ℕ) → now ≡ bytes → Front bytes now
front-start bytes now e = record { options = []; sound = tt; read = sym e }

pub onward-start : (bytes now : List ℕ) → now ≡ bytes → Onward bytes now
onward-start bytes now e = λ options all is. record { options = options; sound = all; there = e ∙ is }

pub front-next : (bytes now next : List ℕ) (o : OptionValue) → Front bytes now → IsSoundOption o → now ≡ option_form o ++ next → Front bytes next
front-next bytes now next o f is e = record {
  options = f.options ++ o ∷ [];
  sound = all-push f.options o f.sound is;
  read = f.read ∙ ap (λ (xs : List ℕ). flat_map option_form f.options ++ xs) e ∙ sym (forms-push f.options o next);
}

pub onward-next : (bytes now next : List ℕ) (o : OptionValue) → Onward bytes now → IsSoundOption o → now ≡ option_form o ++ next → Onward bytes next
onward-next bytes now next o onward is e options all same = by (onward options all same).options (onward options all same).sound (onward options all same).there
  where
    by : (left : List OptionValue) → AllByRecursion IsSoundOption left → now ≡ flat_map option_form left → Left next
    by [] sound there = absurd (omega (arith, option-some o next, ap (λ (xs : List ℕ). length xs) (sym e ∙ there)))
    by (p ∷ left) sound there = record { options = left; sound = sound.1; there = option_rest o p next (flat_map option_form left) is.1 sound.0.1 (sym e ∙ there) }

pub front-end : (bytes now : List ℕ) → Front bytes now → now ≡ [] → (options : List OptionValue) × (AllByRecursion IsSoundOption options × (bytes ≡ flat_map option_form options))
front-end bytes now f none = (f.options, (f.sound, f.read ∙ ap (λ (xs : List ℕ). flat_map option_form f.options ++ xs) none ∙ append-nil (flat_map option_form f.options)))

pub no_options : (bytes now : List ℕ) → Onward bytes now → (now ≡ [] → ⊥) → NoOption now → (options : List OptionValue) → AllByRecursion IsSoundOption options → bytes ≡ flat_map option_form options → ⊥
no_options bytes now onward some none options all same = by (onward options all same).options (onward options all same).sound (onward options all same).there
  where
    by : (left : List OptionValue) → AllByRecursion IsSoundOption left → now ≡ flat_map option_form left → ⊥
    by [] sound there = some there
    by (p ∷ left) sound there = none p (flat_map option_form left) sound.0 there

-- ---- options are their pieces

pub options_at : (buffer : List ℕ) (place : ℕ) (options : List OptionValue) (more : List ℕ) → place ≤ length buffer → drop place buffer ≡ flat_map option_form options ++ more
    → PiecesAt Uncompressed buffer place (flat_map option_pieces options ++ []) (place + length (flat_map option_form options))
options_at buffer place [] more within h = omega arith
options_at buffer place (o ∷ options) more within h =
    let F = flat_map option_form options in
    let end = place + length (option_form o ++ F) in
    let last = flat_map option_pieces options ++ [] in
    let parts : drop place buffer ≡ to_be_bytes w16 o.code ++ (to_be_bytes w16 (length o.bytes) ++ (o.bytes ++ (F ++ more))) = h ∙ append_assoc (option_form o) F more ∙ option_split o (F ++ more) in
    plain_then buffer place 2 (to_be_bytes w16 o.code) _ (Plain (to_be_bytes w16 (length o.bytes)) ∷ Plain o.bytes ∷ last) end refl within parts (λ h1 w1.
    plain_then buffer (place + 2) 2 (to_be_bytes w16 (length o.bytes)) _ (Plain o.bytes ∷ last) end refl w1 h1 (λ h2 w2.
    plain_then buffer (place + 2 + 2) (length o.bytes) o.bytes (F ++ more) last end refl w2 h2 (λ h3 w3.
    let ends : place + 2 + 2 + length o.bytes + length F ≡ end = omega (arith, length-append (option_form o) F, length-append (to_be_bytes w16 o.code) (to_be_bytes w16 (length o.bytes) ++ o.bytes), length-append (to_be_bytes w16 (length o.bytes)) o.bytes) in
    subst (λ (n : ℕ). PiecesAt Uncompressed buffer (place + 2 + 2 + length o.bytes) (flat_map option_pieces options ++ []) n) ends (options_at buffer (place + 2 + 2 + length o.bytes) options more w3 h3))))

pub options-len : (s : Position) (options : List OptionValue) → length (form s (flat_map option_pieces options ++ [])) ≡ length (flat_map option_form options)
options-len s [] = refl
options-len s (o ∷ options) =
    let a = to_be_bytes w16 o.code in
    let b = to_be_bytes w16 (length o.bytes) in
    let t = piece_next (piece_next (piece_next s (Plain a)) (Plain b)) (Plain o.bytes) in
    let R = form t (flat_map option_pieces options ++ []) in
    omega (arith, options-len t options, length-append a (b ++ (o.bytes ++ R)), length-append b (o.bytes ++ R), length-append o.bytes R, length-append (option_form o) (flat_map option_form options), length-append a (b ++ o.bytes), length-append b o.bytes)
