-- Character strings, token by token.
use Rattle.std.proofs.Common.{◌≡◌, ℕ, ◌+◌, ◌<◌, ◌≤◌, zero, suc, List, [], ◌∷◌, ◌++◌, length, drop, get_or, take, map, refl, sym, ap, subst, ◌∙◌, append_assoc, arith}
use Rattle.std.specs.Prelude.{◌≢◌, Option, Ok, Err}
use Rattle.std.proofs.Math.Seq.{drop-cons}
use Rattle.std.proofs.lemmas.List.{append-nil}
use Rattle.dns_names.specs.Name.{DomainName}
use Rattle.dns_text.specs.Lexer.{Lexeme}
use Rattle.dns_text.specs.declared.token.Token.{Token}
use Rattle.dns_text.specs.Token.{lexeme}
use Rattle.dns_data.specs.Field.{Strings}
use Rattle.dns_data.specs.Text.{string_of_token, AreTokensOf, no_string, one_string, AreNoTokensOf, bad_string, past_string, RefusesToken}
use Rattle.dns_data.specs.declared.error.RDataParseError.{RDataParseError}

-- what is left completes the strings, and a fault in it is the first one
pub record Underway (tokens : List Token) (done : List (List ℕ)) (left : List Token) : Type 0 where
  pub completes : (more : List (List ℕ)) → AreTokensOf more (map lexeme left) → AreTokensOf (done ++ more) (map lexeme tokens)
  pub refuses : (error : RDataParseError) → AreNoTokensOf (map lexeme left) error → AreNoTokensOf (map lexeme tokens) error

pub at_start : (tokens : List Token) → Underway tokens [] tokens
at_start tokens = record { completes = λ more are. are; refuses = λ error are. are }

one_more : (tokens : List Token) (done : List (List ℕ)) (token : Token) (left : List Token) (string : List ℕ) → string_of_token (lexeme token) ≡ Ok string
    → Underway tokens done (token ∷ left) → Underway tokens (done ++ string ∷ []) left
one_more tokens done token left string is u = record {
  completes = λ more are. subst (λ (l : List (List ℕ)). AreTokensOf l (map lexeme tokens)) (sym (append_assoc done (string ∷ []) more)) (u.completes (string ∷ more) (one_string is are));
  refuses = λ error are. u.refuses error (past_string is are);
}

at_token : (tokens : List Token) (i : ℕ) (d : Token) → i < length tokens → drop i tokens ≡ get_or tokens i d ∷ drop (i + 1) tokens
at_token tokens i d within = let one : suc i ≡ i + 1 = omega arith in drop-cons tokens i d within ∙ ap (λ (n : ℕ). get_or tokens i d ∷ drop n tokens) one

pub one_further : (tokens : List Token) (done : List (List ℕ)) (i : ℕ) (d : Token) (string : List ℕ) → i < length tokens → string_of_token (lexeme (get_or tokens i d)) ≡ Ok string
    → Underway tokens done (drop i tokens) → Underway tokens (done ++ string ∷ []) (drop (i + 1) tokens)
one_further tokens done i d string within is u =
    one_more tokens done (get_or tokens i d) (drop (i + 1) tokens) string is (subst (λ (l : List Token). Underway tokens done l) (at_token tokens i d within) u)

refuses_some : (o : Option DomainName) (tokens : List Lexeme) (error : RDataParseError) → AreNoTokensOf tokens error → RefusesToken o Strings tokens error
refuses_some o _ error (bad_string is) = bad_string is
refuses_some o _ error (past_string is fault) = past_string is fault

pub stopped : (o : Option DomainName) (tokens : List Token) (old : List Lexeme) (done : List (List ℕ)) (i : ℕ) (d : Token) (error : RDataParseError) → old ≡ map lexeme tokens → i < length tokens
    → string_of_token (lexeme (get_or tokens i d)) ≡ Err error → Underway tokens done (drop i tokens) → RefusesToken o Strings old error
stopped o tokens old done i d error view within is u =
    let here : AreNoTokensOf (map lexeme (drop i tokens)) error = subst (λ (l : List Token). AreNoTokensOf (map lexeme l) error) (sym (at_token tokens i d within)) (bad_string is) in
    subst (λ (l : List Lexeme). RefusesToken o Strings l error) (sym view) (refuses_some o (map lexeme tokens) error (u.refuses error here))

none_left : (tokens : List Token) (i : ℕ) → length tokens ≤ i → drop i tokens ≡ []
none_left [] zero past = refl
none_left [] (suc i) past = refl
none_left (t ∷ ts) zero past = absurd (omega arith)
none_left (t ∷ ts) (suc i) past = none_left ts i (omega arith)

pub none_taken : (tokens : List Token) (k : ℕ) → map lexeme (take k (drop (length tokens) tokens)) ≡ []
none_taken tokens k = ap (λ (l : List Token). map lexeme (take k l)) (none_left tokens (length tokens) (omega arith)) ∙ nothing k
  where
    nothing : (n : ℕ) → map lexeme (take n []) ≡ []
    nothing zero = refl
    nothing (suc n) = refl

pub taken : (tokens : List Token) (old new : List Lexeme) (done : List (List ℕ)) (i : ℕ) → old ≡ map lexeme tokens → 0 < length tokens → length tokens ≤ i → new ≡ []
    → Underway tokens done (drop i tokens) → (old ≢ []) × AreTokensOf done old × (new ≡ [])
taken tokens old new done i view some past end u =
    let all : AreTokensOf (done ++ []) (map lexeme tokens) = u.completes [] (subst (λ (l : List Token). AreTokensOf [] (map lexeme l)) (sym (none_left tokens i past)) no_string) in
    let are : AreTokensOf done (map lexeme tokens) = subst (λ (l : List (List ℕ)). AreTokensOf l (map lexeme tokens)) (append-nil done) all in
    (λ e. nonempty tokens some (sym view ∙ e), subst (λ (l : List Lexeme). AreTokensOf done l) (sym view) are, end)
  where
    nonempty : (ts : List Token) → 0 < length ts → map lexeme ts ≢ []
    nonempty [] k e = absurd (omega arith)
    nonempty (t ∷ ts) k e = absurd (cc)
