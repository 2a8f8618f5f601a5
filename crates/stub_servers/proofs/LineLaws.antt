-- The keyword and the words of a line.
use Rattle.std.proofs.Common.{◌≡◌, ℕ, Bool, true, false, cond, List, None, refl}
use Rattle.std.specs.List.{before_first}
use Rattle.std.specs.Str.{IsUtf8, is_utf8}
use Rattle.std.proofs.lemmas.Str.{IsUtf8-from_is_utf8, is_utf8-from_IsUtf8}
use Rattle.stub_servers.specs.resolv_conf.Line.{is_blank, keyword_in, keyword_of}

chosen : {A : Type 0} (b : Bool) (x y : A) → b ≡ true → cond b x y ≡ x
chosen true x y e = refl
chosen false x y e = absurd (cc)

other : {A : Type 0} (b : Bool) (x y : A) → b ≡ false → cond b x y ≡ y
other true x y e = absurd (cc)
other false x y e = refl

is_false : (b : Bool) → ¬ (b ≡ true) → b ≡ false
is_false true none = absurd (none refl)
is_false false none = refl

-- the keyword of a line of text is what comes before its first white space
pub keyword-of_text : (line : List ℕ) → IsUtf8 line → keyword_of line ≡ keyword_in (before_first is_blank line)
keyword-of_text line utf8 = chosen (is_utf8 line) (keyword_in (before_first is_blank line)) None (is_utf8-from_IsUtf8 line utf8)

-- other bytes have none
pub keyword-of_bytes : (line : List ℕ) → ¬ (IsUtf8 line) → keyword_of line ≡ None
keyword-of_bytes line bytes =
    other (is_utf8 line) (keyword_in (before_first is_blank line)) None (is_false (is_utf8 line) (λ e. bytes (IsUtf8-from_is_utf8 line e)))
