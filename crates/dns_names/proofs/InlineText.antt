-- Names that are parsed octet by octet, and stored inline.
use Rattle.std.proofs.Common.{◌≡◌, ℕ, ◌+◌, ◌*◌, ◌<◌, ◌≤◌, Bool, true, false, List, [], ◌∷◌, ◌++◌, length, Option, Some, None, Result, Ok, Err, refl, sym, ap, subst, ◌∙◌, arith, length-append}
use Rattle.std.specs.Prelude.{◌==◌, nat_lt, not, if◌then◌else◌}
use Rattle.std.proofs.lemmas.Bool.Decides.{nat_tests}
use Rattle.dns_wire.specs.Name.{name_len}
use Rattle.dns_names.specs.Name.{DomainName, IsInline, IsInlineOutcome}
use Rattle.dns_names.specs.Parse.{Symbol, Dot, Plain, Escaped, Broken, PartialName, IsInlinePartial, SymbolAt, push_octet, end_label, push_symbol, is_plain_octet, finish, name_of_symbols, name_of_text}
use Rattle.dns_names.specs.Build.{append_domain, complete, parse_name}
use Rattle.dns_names.specs.declared.error.ParseError.{ParseError}
use Rattle.dns_names.specs.declared.error.ParseError.TheVariants.{LabelBytesTooLong, EmptyLabel, DomainNameTooLong, Text}
use Rattle.dns_names.proofs.Underway.{name_len-push}
use Rattle.dns_names.proofs.InlineLaws.{inline_prefix}

-- ---- how a partly parsed name grows by a symbol

-- by an octet at most, and by nothing that is lost
pub record Grows (b next : PartialName) : Type 0 where
  pub octets : name_len next.labels + length next.label ≤ name_len b.labels + length b.label + 1
  pub pairs : 2 * length next.labels + length next.label ≤ 2 * length b.labels + length b.label + 1
  pub keeps : name_len b.labels + length b.label + length next.labels ≤ name_len next.labels + length next.label + length b.labels
  pub more : length b.labels ≤ length next.labels

grown_octet : (b next : PartialName) (c : ℕ) → push_octet b c ≡ Ok next → Grows b next
grown_octet b next c e = by (nat_lt (length b.label) 63) e
  where
    by : (t : Bool) → (if t then Ok (record b { label = b.label ++ c ∷ [] }) else Err LabelBytesTooLong) ≡ Ok next → Grows b next
    by true q =
        let is : record b { label = b.label ++ c ∷ [] } ≡ next = cc in
        let len = length-append b.label (c ∷ []) in
        let labels : b.labels ≡ next.labels = ap (λ (n : PartialName). n.labels) is in
        let label : b.label ++ c ∷ [] ≡ next.label = ap (λ (n : PartialName). n.label) is in
        record {
          octets = omega (arith, len, ap name_len labels, ap (λ (l : List ℕ). length l) label);
          pairs = omega (arith, len, ap (λ (l : List (List ℕ)). length l) labels, ap (λ (l : List ℕ). length l) label);
          keeps = omega (arith, len, ap name_len labels, ap (λ (l : List (List ℕ)). length l) labels, ap (λ (l : List ℕ). length l) label);
          more = omega (arith, ap (λ (l : List (List ℕ)). length l) labels);
        }
    by false q = absurd (cc)

-- a label that is ended has at least one octet
ended : (b next : PartialName) → end_label b ≡ Ok next → (0 < length b.label) × (next ≡ record { labels = b.labels ++ b.label ∷ []; label = [] })
ended b next e = by (length b.label == 0) (nat_lt 255 (name_len (b.labels ++ b.label ∷ []))) refl e
  where
    by : (s t : Bool) → (length b.label == 0) ≡ s
        → (if s then Err EmptyLabel else if t then Err DomainNameTooLong else Ok (record { labels = b.labels ++ b.label ∷ []; label = [] })) ≡ Ok next
        → (0 < length b.label) × (next ≡ record { labels = b.labels ++ b.label ∷ []; label = [] })
    by true t f q = absurd (cc)
    by false true f q = absurd (cc)
    by false false f q =
        let is : record { labels = b.labels ++ b.label ∷ []; label = [] } ≡ next = cc in
        (grind (arith, nat_tests), sym is)

grown_label : (b next : PartialName) → end_label b ≡ Ok next → Grows b next
grown_label b next e =
    let at = ended b next e in
    let some : 0 < length b.label = at.0 in
    let labels : next.labels ≡ b.labels ++ b.label ∷ [] = ap (λ (n : PartialName). n.labels) at.1 in
    let label : next.label ≡ [] = ap (λ (n : PartialName). n.label) at.1 in
    let none : length next.label ≡ 0 = ap (λ (l : List ℕ). length l) label in
    let len : length next.labels ≡ length b.labels + 1 = omega (arith, ap (λ (l : List (List ℕ)). length l) labels, length-append b.labels (b.label ∷ [])) in
    let all : name_len next.labels ≡ name_len b.labels + (length b.label + 1) = ap name_len labels ∙ name_len-push b.labels b.label in
    record { octets = omega arith; pairs = omega arith; keeps = omega arith; more = omega arith }

pub grown : (b next : PartialName) (place : ℕ) (s : Symbol) → push_symbol b (record { place = place; symbol = s }) ≡ Ok next → Grows b next
grown b next place Dot e = grown_label b next e
grown b next place (Plain c) e = by (is_plain_octet (length b.label == 0) c) e
  where
    by : (t : Bool) → (if t then push_octet b c else Err (Text place)) ≡ Ok next → Grows b next
    by true q = grown_octet b next c q
    by false q = absurd (cc)
grown b next place (Escaped c) e = grown_octet b next c e
grown b next place Broken e = absurd (cc)

-- ---- a name that is stored inline, and what was parsed of it

inline_before : (b next : PartialName) → Grows b next → IsInlinePartial next → IsInlinePartial b
inline_before b next g is = record { few = omega (arith, g.more, is.few); short = omega (arith, g.keeps, g.more, is.short) }

inline_end : (b : PartialName) (name : DomainName) → finish b ≡ Ok name → IsInline name.labels → IsInlinePartial b
inline_end b name e is = by (length b.label == 0) refl e
  where
    named : (r : Result PartialName ParseError) → end_label b ≡ r
        → elim r as (λ _. Result DomainName ParseError) [ Ok e ↦ Ok (record { is_fqdn = false; labels = e.labels }) | Err error ↦ Err error ] ≡ Ok name → IsInlinePartial b
    named (Ok next) f q =
        let labels : next.labels ≡ name.labels = cc in
        let at = ended b next f in
        let is_label : next.label ≡ [] = ap (λ (n : PartialName). n.label) at.1 in
        inline_before b next (grown_label b next f) (record {
          few = omega (arith, is.few, ap (λ (l : List (List ℕ)). length l) labels);
          short = omega (arith, is.short, ap (λ (l : List (List ℕ)). length l) labels, ap name_len labels, ap (λ (l : List ℕ). length l) is_label);
        })
    named (Err error) f q = absurd (cc)

    by : (t : Bool) → (length b.label == 0) ≡ t
        → (if t then Ok (record { is_fqdn = not (length b.labels == 0); labels = b.labels })
        else elim (end_label b) as (λ _. Result DomainName ParseError) [ Ok e ↦ Ok (record { is_fqdn = false; labels = e.labels }) | Err error ↦ Err error ]) ≡ Ok name
        → IsInlinePartial b
    by true f q =
        let labels : b.labels ≡ name.labels = cc in
        let none : length b.label ≡ 0 = grind (arith, nat_tests) in
        record {
          few = omega (arith, is.few, ap (λ (l : List (List ℕ)). length l) labels);
          short = omega (arith, is.short, none, ap (λ (l : List (List ℕ)). length l) labels, ap name_len labels);
        }
    by false f q = named (end_label b) refl q

-- the symbols that are left complete a name that is stored inline
inline_symbols : (b : PartialName) (ps : List SymbolAt) (name : DomainName) → name_of_symbols b ps ≡ Ok name → IsInline name.labels → IsInlinePartial b
inline_symbols b [] name e is = inline_end b name e is
inline_symbols b (p ∷ ps) name e is = by (push_symbol b p) refl e (λ next q. inline_symbols next ps name q is)
  where
    by : (r : Result PartialName ParseError) → push_symbol b p ≡ r
        → elim r as (λ _. Result DomainName ParseError) [ Ok next ↦ name_of_symbols next ps | Err error ↦ Err error ] ≡ Ok name
        → ((next : PartialName) → name_of_symbols next ps ≡ Ok name → IsInlinePartial next) → IsInlinePartial b
    by (Ok next) f q more = inline_before b next (grown b next p.place p.symbol f) (more next q)
    by (Err error) f q more = absurd (cc)

-- the next symbol is taken, and what it makes is stored inline
pub inline_step : (b : PartialName) (p : SymbolAt) (ps : List SymbolAt) (name : DomainName) → name_of_symbols b (p ∷ ps) ≡ Ok name → IsInline name.labels
    → (next : PartialName) × (push_symbol b p ≡ Ok next) × IsInlinePartial next
inline_step b p ps name e is = by (push_symbol b p) refl e
  where
    by : (r : Result PartialName ParseError) → push_symbol b p ≡ r
        → elim r as (λ _. Result DomainName ParseError) [ Ok next ↦ name_of_symbols next ps | Err error ↦ Err error ] ≡ Ok name
        → (next : PartialName) × (push_symbol b p ≡ Ok next) × IsInlinePartial next
    by (Ok next) f q = (next, f, inline_symbols next ps name q is)
    by (Err error) f q = absurd (cc)

-- ---- a text of at most 32 bytes

-- a partly parsed name has no more octets and labels than a text of so many bytes
pub record IsWithin (b : PartialName) (bytes : ℕ) : Type 0 where
  pub octets : name_len b.labels + length b.label ≤ bytes + 1
  pub pairs : 2 * length b.labels + length b.label ≤ bytes

pub within_step : (b next : PartialName) (place bytes len : ℕ) (s : Symbol) → push_symbol b (record { place = place; symbol = s }) ≡ Ok next
    → IsWithin b bytes → bytes < len → IsWithin next len
within_step b next place bytes len s e w more =
    let g = grown b next place s e in record { octets = omega (arith, g.octets, w.octets); pairs = omega (arith, g.pairs, w.pairs) }

pub within_inline : (b : PartialName) (bytes : ℕ) → IsWithin b bytes → bytes ≤ 32 → IsInlinePartial b
within_inline b bytes w short = record { few = omega (arith, w.pairs); short = omega (arith, w.octets) }

pub finish_inline : (b : PartialName) (bytes : ℕ) → IsWithin b bytes → bytes ≤ 32 → IsInlineOutcome (finish b)
finish_inline b bytes w short = by (length b.label == 0)
  where
    named : (r : Result PartialName ParseError) → end_label b ≡ r
        → IsInlineOutcome (elim r as (λ _. Result DomainName ParseError) [ Ok e ↦ Ok (record { is_fqdn = false; labels = e.labels }) | Err error ↦ Err error ])
    named (Ok next) f =
        let g = grown_label b next f in
        let labels : next.labels ≡ b.labels ++ b.label ∷ [] = ap (λ (n : PartialName). n.labels) (ended b next f).1 in
        let one : length next.labels ≡ length b.labels + 1 = omega (arith, ap (λ (l : List (List ℕ)). length l) labels, length-append b.labels (b.label ∷ [])) in
        record { few = omega (arith, g.pairs, w.pairs); short = omega (arith, g.octets, w.octets, one) }
    named (Err error) f = tt

    by : (t : Bool) → IsInlineOutcome (if t then Ok (record { is_fqdn = not (length b.labels == 0); labels = b.labels })
        else elim (end_label b) as (λ _. Result DomainName ParseError) [ Ok e ↦ Ok (record { is_fqdn = false; labels = e.labels }) | Err error ↦ Err error ])
    by true = record { few = omega (arith, w.pairs); short = omega (arith, w.octets) }
    by false = named (end_label b) refl

-- the next symbol is refused as it is specified, if what it makes is stored inline
pub refused_step : (b : PartialName) (p : SymbolAt) (ps : List SymbolAt) (failed : ParseError)
    → ((error : ParseError) → push_symbol b p ≡ Err error → failed ≡ error)
    → ((next : PartialName) → push_symbol b p ≡ Ok next → ⊥)
    → name_of_symbols b (p ∷ ps) ≡ Err failed
refused_step b p ps failed fault taken = by (push_symbol b p) refl
  where
    by : (r : Result PartialName ParseError) → push_symbol b p ≡ r
        → elim r as (λ _. Result DomainName ParseError) [ Ok next ↦ name_of_symbols next ps | Err error ↦ Err error ] ≡ Err failed
    by (Ok next) f = absurd (taken next f)
    by (Err error) f = ap (λ (x : ParseError). Err x) (sym (fault error f))

-- the last label is refused as it is specified, if what it makes is stored inline
pub refused_end : (b : PartialName) (failed : ParseError) → 0 < length b.label
    → ((error : ParseError) → end_label b ≡ Err error → failed ≡ error)
    → ((next : PartialName) → end_label b ≡ Ok next → IsInlinePartial next → ⊥)
    → IsInlineOutcome (finish b) → finish b ≡ Err failed
refused_end b failed some fault taken = by (length b.label == 0) (grind (arith, nat_tests))
  where
    named : (r : Result PartialName ParseError) → end_label b ≡ r
        → IsInlineOutcome (elim r as (λ _. Result DomainName ParseError) [ Ok e ↦ Ok (record { is_fqdn = false; labels = e.labels }) | Err error ↦ Err error ])
        → elim r as (λ _. Result DomainName ParseError) [ Ok e ↦ Ok (record { is_fqdn = false; labels = e.labels }) | Err error ↦ Err error ] ≡ Err failed
    named (Ok next) f is =
        let none : length next.label ≡ 0 = ap (λ (n : PartialName). length n.label) (ended b next f).1 in
        absurd (taken next f (record { few = omega (arith, is.few); short = omega (arith, is.short, none) }))
    named (Err error) f is = ap (λ (x : ParseError). Err x) (sym (fault error f))

    by : (t : Bool) → t ≡ false
        → IsInlineOutcome (if t then Ok (record { is_fqdn = not (length b.labels == 0); labels = b.labels })
        else elim (end_label b) as (λ _. Result DomainName ParseError) [ Ok e ↦ Ok (record { is_fqdn = false; labels = e.labels }) | Err error ↦ Err error ])
        → (if t then Ok (record { is_fqdn = not (length b.labels == 0); labels = b.labels })
        else elim (end_label b) as (λ _. Result DomainName ParseError) [ Ok e ↦ Ok (record { is_fqdn = false; labels = e.labels }) | Err error ↦ Err error ]) ≡ Err failed
    by true f is = absurd (cc)
    by false f is = named (end_label b) refl is

-- ---- a name with an origin

-- the name that an origin completes begins with the name that the text spells
completed_inline : (n : DomainName) (origin : Option DomainName) (name : DomainName) → complete n origin ≡ Ok name → IsInline name.labels → IsInline n.labels
completed_inline n None name e is = let same : n.labels ≡ name.labels = cc in subst IsInline (sym same) is
completed_inline n (Some o) name e is = by n.is_fqdn e
  where
    joined : (t : Bool) → (if t then Err DomainNameTooLong else Ok (record { is_fqdn = true; labels = n.labels ++ o.labels })) ≡ Ok name → IsInline n.labels
    joined true q = absurd (cc)
    joined false q = let labels : n.labels ++ o.labels ≡ name.labels = cc in inline_prefix name.labels n.labels o.labels (sym labels) is

    by : (t : Bool) → (if t then Ok n else append_domain n o) ≡ Ok name → IsInline n.labels
    by true q = let same : n.labels ≡ name.labels = cc in subst IsInline (sym same) is
    by false q = joined (nat_lt 255 (name_len (n.labels ++ o.labels))) q

pub parsed_inline : (text : List ℕ) (origin : Option DomainName) (name : DomainName) → parse_name text origin ≡ Ok name → IsInline name.labels
    → (n : DomainName) × (name_of_text text ≡ Ok n) × IsInline n.labels
parsed_inline text origin name e is = by (name_of_text text) refl e
  where
    by : (r : Result DomainName ParseError) → name_of_text text ≡ r
        → elim r as (λ _. Result DomainName ParseError) [ Ok n ↦ complete n origin | Err error ↦ Err error ] ≡ Ok name
        → (n : DomainName) × (name_of_text text ≡ Ok n) × IsInline n.labels
    by (Ok n) f q = (n, f, completed_inline n origin name q is)
    by (Err error) f q = absurd (cc)
