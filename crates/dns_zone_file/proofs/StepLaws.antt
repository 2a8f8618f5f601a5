-- Texts of zone files, entry by entry.
use Rattle.std.proofs.Common.{◌≡◌, ◌≢◌, ℕ, ◌+◌, ◌<◌, List, map, Some, None, Result, Ok, Err, refl, sym, ap, subst, ◌∙◌}
use Rattle.dns_text.specs.Lexer.{LexerState, NextToken}
use Rattle.dns_text.specs.Token.{lexeme}
use Rattle.dns_text.specs.declared.token.Token.{Token}
use Rattle.dns_zone_file.specs.declared.error.EntryError.{EntryError}
use Rattle.dns_zone_file.specs.declared.error.EntryError.TheVariants as entry_error
use Rattle.dns_zone_file.specs.declared.error.EntryFault.TheVariants.{TooManyIncludes}
use Rattle.dns_zone_file.specs.declared.error.ZoneFileError.{ZoneFileError}
use Rattle.dns_zone_file.specs.declared.error.ZoneFileError.TheVariants as error
use Rattle.dns_zone_file.specs.declared.context.Context.{Context}
use Rattle.dns_zone_file.specs.Context.{included}
use Rattle.dns_zone_file.specs.Entry.{LexesEntry, Inclusion}
use Rattle.dns_zone_file.specs.Parsing.{Includes, Parses, ended, bad_text, bad_entry, applied, too_deep, not_found, bad_included, past_included, start_in, Applies, RefusesEntry, text_of, max_includes}
use Rattle.dns_zone_file.specs.internal.Context.{saved_of, restored}
use Rattle.dns_zone_file.specs.internal.Entry.{IsTextFault}
use Rattle.dns_zone_file.specs.internal.Error.{IsFault, at_line}
use Rattle.dns_zone_file.specs.internal.Parsing.{IncludesAt, LeadsFrom, Ends, RefusesInclude}

-- ---- one entry

pub text_fault : (p : LexerState) (c : Context) (e : ZoneFileError) → IsTextFault p e → Ends p c (Err e)
text_fault p c (error.Lexer fault) refused = λ includes depth. bad_text refused
text_fault p c (error.Entry line fault) refused = absurd refused
text_fault p c (error.IncludeNotFound line) refused = absurd refused
text_fault p c error.Memory refused = absurd refused

pub entry_fault : (p next : LexerState) (c : Context) (items tokens : List Token) (line : ℕ) (e : EntryError)
    → tokens ≡ items → LexesEntry p (map lexeme items) next → line ≡ p.entry → IsFault (RefusesEntry c (map lexeme tokens)) e
    → at_line line e ≢ error.Memory → Ends p c (Err (at_line line e))
entry_fault p next c items tokens line (entry_error.Fault refusal) same lexed line_is refused some =
    let lexed_so = subst (λ (l : List Token). LexesEntry p (map lexeme l) next) (sym same) lexed in
    λ includes depth. subst (λ (n : ℕ). Parses includes depth c p (Err (error.Entry n refusal))) (sym line_is) (bad_entry lexed_so refused)
entry_fault p next c items tokens line entry_error.Memory same lexed line_is refused some = absurd (some refl)

pub end_reached : (p next : LexerState) (c then : Context) → NextToken p (Ok None) next → then ≡ c → Ends p c (Ok then)
end_reached p next c then end same =
    λ includes depth. subst (λ (x : Context). Parses includes depth c p (Ok x)) (sym same) (ended end)

pub entry_applied : (p next : LexerState) (c then : Context) (items tokens : List Token) → tokens ≡ items
    → LexesEntry p (map lexeme items) next → Applies c (map lexeme tokens) then → LeadsFrom p c next then
entry_applied p next c then items tokens same lexed applies =
    let lexed_so = subst (λ (l : List Token). LexesEntry p (map lexeme l) next) (sym same) lexed in
    λ includes depth outcome rest. applied lexed_so applies rest

-- ---- a text

-- what the rest of the text leads to, the whole text leads to
pub record Continues (includes : Includes) (depth : ℕ) (c : Context) (p : LexerState) (then : Context) (next : LexerState) : Type 0 where
  pub leads : (outcome : Result Context ZoneFileError) → Parses includes depth then next outcome → Parses includes depth c p outcome

pub at_start : {includes : Includes} {depth : ℕ} {c : Context} {p next : LexerState} → next ≡ p → Continues includes depth c p c next
at_start {includes} {depth} {c} {p} same =
    record { leads = λ outcome rest. subst (λ (q : LexerState). Parses includes depth c q outcome) same rest }

pub after_entry : {includes : Includes} {depth : ℕ} {c then further : Context} {p q next : LexerState}
    → Continues includes depth c p then q → LeadsFrom q then next further → Continues includes depth c p further next
after_entry {includes} {depth} so_far step = record { leads = λ outcome rest. so_far.leads outcome (step includes depth outcome rest) }

pub text_ends : {includes : Includes} {depth : ℕ} {c then : Context} {p q : LexerState} {outcome : Result Context ZoneFileError}
    → Continues includes depth c p then q → Ends q then outcome → Parses includes depth c p outcome
text_ends {includes} {depth} {outcome = outcome} so_far ends = so_far.leads outcome (ends includes depth)

refused_include : (includes : Includes) (depth line : ℕ) (c : Context) (p next : LexerState) (i : Inclusion) (e : ZoneFileError)
    → IncludesAt p c i next → line ≡ p.entry → RefusesInclude includes depth line i.name e → Parses includes depth c p (Err e)
refused_include includes depth line c p next i (error.Entry at refusal) w line_is refused =
    let same : error.Entry p.entry TooManyIncludes ≡ error.Entry at refusal = cc (refused.0, refused.1, line_is) in
    subst (λ (x : ZoneFileError). Parses includes depth c p (Err x)) same (too_deep w.lexed w.included refused.2)
refused_include includes depth line c p next i (error.IncludeNotFound at) w line_is refused =
    let same : error.IncludeNotFound p.entry ≡ error.IncludeNotFound at = cc (refused.0, line_is) in
    subst (λ (x : ZoneFileError). Parses includes depth c p (Err x)) same (not_found w.lexed w.included refused.1 refused.2)
refused_include includes depth line c p next i (error.Lexer fault) w line_is refused = absurd refused
refused_include includes depth line c p next i error.Memory w line_is refused = absurd refused

pub include_refused : {includes : Includes} {depth : ℕ} {c then : Context} {p q next : LexerState} {i : Inclusion} (line : ℕ) (e : ZoneFileError)
    → Continues includes depth c p then q → IncludesAt q then i next → line ≡ q.entry → RefusesInclude includes depth line i.name e
    → Parses includes depth c p (Err e)
include_refused {includes} {depth} {then = then} {q = q} {next = next} {i = i} line e so_far w line_is refused =
    so_far.leads (Err e) (refused_include includes depth line then q next i e w line_is refused)

-- The text `included` is included with a context `inner`.
pub record Enters (includes : Includes) (depth : ℕ) (then : Context) (i : Inclusion) (text : List ℕ) (inner : Context) : Type 0 where
  pub within : depth < max_includes
  pub text_is : text_of includes i.name ≡ Some text
  pub inner_is : inner ≡ included then i.origin

pub enters_text : {includes : Includes} {depth : ℕ} {c then inner : Context} {i : Inclusion} {text : List ℕ} → then ≡ c
    → depth < max_includes → text_of includes i.name ≡ Some text → inner ≡ included then i.origin → Enters includes depth c i text inner
enters_text {i = i} same within text_is inner_is = record {
  within = within;
  text_is = text_is;
  inner_is = inner_is ∙ ap (λ (x : Context). included x i.origin) same;
}

pub included_refused : {includes : Includes} {depth : ℕ} {c then inner : Context} {p q next : LexerState} {i : Inclusion} {text : List ℕ} (e : ZoneFileError)
    → Continues includes depth c p then q → IncludesAt q then i next → Enters includes depth then i text inner
    → Parses includes (depth + 1) inner (start_in inner.types text) (Err e) → Parses includes depth c p (Err e)
included_refused {includes} {depth} {text = text} e so_far w enters refused =
    so_far.leads (Err e) (bad_included w.lexed w.included enters.within enters.text_is
    (subst (λ (x : Context). Parses includes (depth + 1) x (start_in x.types text) (Err e)) enters.inner_is refused))

pub after_included : {includes : Includes} {depth : ℕ} {c then inner after further : Context} {p q next : LexerState} {i : Inclusion} {text : List ℕ}
    → Continues includes depth c p then q → IncludesAt q then i next → Enters includes depth then i text inner
    → Parses includes (depth + 1) inner (start_in inner.types text) (Ok after) → further ≡ restored (saved_of then) after
    → Continues includes depth c p further next
after_included {includes} {depth} {c} {then} {inner} {after} {further} {p} {q} {next} {i} {text} so_far w enters parses further_is = record {
  leads = λ outcome rest. so_far.leads outcome (past_included w.lexed w.included enters.within enters.text_is
      (subst (λ (x : Context). Parses includes (depth + 1) x (start_in x.types text) (Ok after)) enters.inner_is parses)
      (subst (λ (x : Context). Parses includes depth x next outcome) further_is rest));
}
