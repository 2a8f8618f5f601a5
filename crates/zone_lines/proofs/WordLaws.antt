-- The token at fault in an entry.
use Rattle.std.proofs.Common.{◌≡◌, ◌<◌, ◌≤◌, ◌+◌, ℕ, Bool, true, false, cond, ◌||◌, List, [], ◌∷◌, map, take, length, get_or, Option, refl, sym, ap, subst, ◌∙◌, arith}
use Rattle.std.specs.Prelude.{option_map}
use Rattle.std.specs.List.{list_any}
use Rattle.std.proofs.lemmas.List.{length-map, take-map, take_all}
use Rattle.std.proofs.lemmas.Option.{slice_get-map, slice_get-get_or}
use Rattle.dns_text.specs.Lexer.{Lexeme}
use Rattle.dns_text.specs.Token.{lexeme}
use Rattle.dns_text.specs.declared.token.Token.{Token}
use Rattle.dns_zone_file.specs.declared.error.EntryFault.{EntryFault}
use Rattle.dns_zone_file.specs.Context.{RefusesRecord}
use Rattle.zone_lines.specs.Word.{BeginsRecord, may_be_one, IsRefused, IsTokenText, HasFaultyToken, at_token, is_final}
use Rattle.zone_lines.specs.internal.Word.{Stands, standing_of, IsIndexAtFault}
use Rattle.dns_zone_file.specs.declared.context.Context.{Context}
use Rattle.zone_lines.specs.declared.word.Standing.{Standing}
use Rattle.zone_lines.specs.declared.word.Standing.TheVariants.{Begins, Refused}

-- ---- the word SOA

pub any_lexeme : (test : Lexeme → Bool) (tokens : List Token) → list_any test (map lexeme tokens) ≡ list_any (λ t. test (lexeme t)) tokens
any_lexeme test [] = refl
any_lexeme test (token ∷ tokens) = ap (λ (b : Bool). test (lexeme token) || b) (any_lexeme test tokens)

-- ---- tokens with a fault

by_final : (c : Context) (tokens : List Lexeme) (refusal : EntryFault) → RefusesRecord c tokens refusal → (b : Bool) → is_final refusal ≡ b
    → Stands c tokens (cond b Refused Begins)
by_final c tokens refusal h true e = record { fault = refusal; refused = h; final = e }
by_final c tokens refusal h false e = may_be_one h e

pub stands : (c : Context) (tokens : List Lexeme) (refusal : EntryFault) (s : Standing) → s ≡ standing_of refusal → RefusesRecord c tokens refusal
    → Stands c tokens s
stands c tokens refusal s e h = subst (λ (t : Standing). Stands c tokens t) (sym e) (by_final c tokens refusal h (is_final refusal) refl)

-- ---- between tokens that begin a record and more that are refused

pub record Between (c : Context) (tokens : List Token) (accepted refused : ℕ) : Type 0 where
  pub less : accepted < refused
  pub within : refused ≤ length tokens
  pub before : 0 < accepted → BeginsRecord c (map lexeme (take accepted tokens))
  pub refuses : IsRefused c (map lexeme (take refused tokens))

module _ (c : Context) (tokens : List Token) where
  pub at_start : (accepted refused : ℕ) → accepted ≡ 0 → refused ≡ length tokens → 0 < length tokens → IsRefused c (map lexeme tokens)
      → Between c tokens accepted refused
  at_start accepted refused zero all some is = record {
    less = omega (arith, zero, all);
    within = omega (arith, all);
    before = λ positive. absurd (omega (arith, zero, positive));
    refuses = subst (λ (l : List Token). IsRefused c (map lexeme l)) (sym (take_all refused tokens (omega (arith, all)))) is;
  }

  pub accepts_more : (accepted refused middle : ℕ) → Between c tokens accepted refused → middle < refused
      → BeginsRecord c (map lexeme (take middle tokens)) → Between c tokens middle refused
  accepts_more accepted refused middle b less begins = record { less = less; within = b.within; before = λ positive. begins; refuses = b.refuses }

  pub refuses_less : (accepted refused middle : ℕ) → Between c tokens accepted refused → accepted < middle → middle < refused
      → IsRefused c (map lexeme (take middle tokens)) → Between c tokens accepted middle
  refuses_less accepted refused middle b more less is =
      record { less = more; within = let within = b.within in omega arith; before = b.before; refuses = is }

  pub at_fault : (accepted refused : ℕ) → Between c tokens accepted refused → refused ≤ accepted + 1 → IsIndexAtFault c (map lexeme tokens) accepted
  at_fault accepted refused b close =
      let less = b.less in
      let next : refused ≡ accepted + 1 = omega arith in (
        record {
          before = λ positive. subst (BeginsRecord c) (sym (take-map lexeme accepted tokens)) (b.before positive);
          refused =
              subst (IsRefused c) (sym (take-map lexeme (accepted + 1) tokens))
              (subst (λ (n : ℕ). IsRefused c (map lexeme (take n tokens))) next b.refuses);
        },
        let within = b.within in omega (arith, length-map tokens lexeme),
      )

  pub text_at_fault : (index : ℕ) (token : Token) (found : Option (List ℕ)) → IsIndexAtFault c (map lexeme tokens) index
      → IsTokenText (lexeme (get_or tokens index token)) found → HasFaultyToken c (map lexeme tokens) found
  text_at_fault index token found is text =
      at_token is.0 (slice_get-map lexeme tokens index ∙ ap (option_map lexeme) (slice_get-get_or tokens index token (omega (arith, is.1, length-map tokens lexeme)))) text
