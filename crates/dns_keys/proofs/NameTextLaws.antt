-- No text of a name spells want of memory.
use Rattle.std.proofs.Common.{◌≡◌, ◌≢◌, ◌==◌, ℕ, Bool, true, false, List, [], ◌∷◌, ◌++◌, length, Result, Ok, Err, refl, bytes_eq}
use Rattle.std.specs.Prelude.{if◌then◌else◌, nat_lt}
use Rattle.dns_wire.specs.Name.{max_name_len, name_len}
use Rattle.dns_names.specs.Name.{DomainName}
use Rattle.dns_names.specs.Parse.{Dot, Plain, Escaped, Broken, PartialName, Symbol, SymbolAt, end_label, finish, is_plain_octet, name_of_symbols, name_of_text, push_octet, push_symbol, symbols_from}
use Rattle.dns_names.specs.declared.error.ParseError.{ParseError}
use Rattle.dns_names.specs.declared.error.ParseError.TheVariants.{Memory, Text}

-- an outcome that is not want of memory
abbrev pub IsNoMemory : {A : Type 0} → Result A ParseError → Type 0
IsNoMemory (Ok x) = Unit {0}
IsNoMemory (Err error) = error ≢ Memory

either : {A : Type 0} (b : Bool) (x y : Result A ParseError) → IsNoMemory x → IsNoMemory y → IsNoMemory (if b then x else y)
either true x y one other = one
either false x y one other = other

follow : {A B : Type 0} (r : Result A ParseError) (f : A → Result B ParseError) → IsNoMemory r → ((x : A) → IsNoMemory (f x))
    → IsNoMemory (elim r as (λ _. Result B ParseError) [ Ok x ↦ f x | Err error ↦ Err error ])
follow (Ok x) f here next = next x
follow (Err error) f here next = here

ended : (b : PartialName) → IsNoMemory (end_label b)
ended b = either (length b.label == 0) _ _ (λ e. absurd (cc)) (either (nat_lt max_name_len (name_len (b.labels ++ b.label ∷ []))) _ _ (λ e. absurd (cc)) tt)

octet : (b : PartialName) (c : ℕ) → IsNoMemory (push_octet b c)
octet b c = either (nat_lt (length b.label) 63) _ _ tt (λ e. absurd (cc))

pushed : (b : PartialName) (p : SymbolAt) → IsNoMemory (push_symbol b p)
pushed b p = by p.symbol
  where
    by : (s : Symbol) → IsNoMemory (elim s as (λ _. Result PartialName ParseError) [
      | Dot ↦ end_label b
      | Plain c ↦ if is_plain_octet (length b.label == 0) c then push_octet b c else Err (Text p.place)
      | Escaped c ↦ push_octet b c
      | Broken ↦ Err (Text p.place)
    ])
    by Dot = ended b
    by (Plain c) = either (is_plain_octet (length b.label == 0) c) _ _ (octet b c) (λ e. absurd (cc))
    by (Escaped c) = octet b c
    by Broken = λ e. absurd (cc)

finished : (b : PartialName) → IsNoMemory (finish b)
finished b = either (length b.label == 0) _ _ tt (follow (end_label b) (λ e. Ok (record { is_fqdn = false; labels = e.labels })) (ended b) (λ e. tt))

read : (b : PartialName) (ps : List SymbolAt) → IsNoMemory (name_of_symbols b ps)
read b [] = finished b
read b (p ∷ ps) = follow (push_symbol b p) (λ next. name_of_symbols next ps) (pushed b p) (λ next. read next ps)

pub text_is_no_memory : (text : List ℕ) → IsNoMemory (name_of_text text)
unfolding name_of_text
text_is_no_memory text = either (bytes_eq text (46 ∷ [])) (Ok (record { is_fqdn = true; labels = [] })) _ (tt {0}) (read (record { labels = []; label = [] }) (symbols_from 0 0 text))
