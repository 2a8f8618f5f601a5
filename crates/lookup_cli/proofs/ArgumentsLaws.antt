-- What clap finds, and what it leads to.
use Rattle.std.proofs.Common.{rules, ◌≡◌, ◌∙◌, ◌+◌, ◌<◌, ◌++◌, ap, refl, subst, inl, inr, ℕ, Bool, true, false, not, List, [], ◌∷◌, Bor, Option, Some, None, Result, IfErr, IsErrAnd, codes, length, map, take, append-nil, ◌==◌, option_map, unwrap_or}
use Rattle.std.specs.List.{AllZip, Contains, slice_index_or}
use Rattle.std.proofs.lemmas.List.{map-append, take_more}
use Rattle.std.proofs.lemmas.List.Elements.{filter-append}
use Rattle.std.proofs.lemmas.Slice.Zip.{all_zipped_more}
use Rattle.std.proofs.lemmas.Result.{err_from_is_err_and}
use Rattle.clap.specs.Words.{App, HasMatchesOf, Row, found_of, is_simple, matched_of, matches_of, raw_values}
use Rattle.clap.proofs.WalkLemmas.{raw_values-rows}
use Rattle.clap.specs.declared.parser.matches.ArgMatches.{ArgMatches}
use Rattle.clap.proofs.OnLiterals.{clap_on_literals}
use Rattle.lookup_cli.specs.Arguments.{IsInvalid, IsItemRefusal, IsRefusal, IsRefusalAmong, IsRefusalOf, IsServerRefusal, found, found_in, is_input, names_among, of_name, of_search, of_server, texts_of}
use Rattle.lookup_cli.specs.Command.{lookup_app}
use Rattle.lookup_cli.specs.Ending.{IsOfInvalidValue}
use Rattle.lookup_cli.specs.Values.{IsNameRefusal, IsNoName, IsNotLookedUp, no_name, no_server}
use Rattle.lookup_cli.specs.declared.ending.Ending.{Ending}
use Rattle.lookup_cli.specs.declared.ending.Ending.TheVariants.{Arguments, InvalidValue, NotUtf8, ZoneWithoutUpdate, CannotRead, HostsNotUtf8, InvalidKeys, NoKey, CannotReadInput, CannotPrint, NoClock, NoEntropy, Memory}

abbrev pub texts_now : List (Bor (List ℕ)) → List (List ℕ)
texts_now = map (λ text. text.now)

-- ---- clap

app_is_simple : is_simple lookup_app ≡ true
unfolding clap_on_literals
app_is_simple = refl

-- clap finds in the words what is defined
pub found_is : (app : App) (words : List (List ℕ)) (m : ArgMatches) → app ≡ lookup_app → HasMatchesOf app words m → found m ≡ found_in words
found_is app words m same has = (has (ap is_simple same ∙ app_is_simple)).0 ∙ ap (λ (a : App). matches_of a words) same

-- the values of an argument, or none
pub texts_are : (m : ArgMatches) (id : List ℕ) (values : Option (Bor (List (Bor (List ℕ))))) (none r : Bor (List (Bor (List ℕ))))
    → option_map (λ s. map (λ v. v.now) s.now) values ≡ option_map raw_values (matched_of (found_of m) id) → r ≡ unwrap_or values none → none.now ≡ []
    → texts_now r.now ≡ texts_of id (found m)
texts_are m id values none r e is empty =
    ap (λ (x : Bor (List (Bor (List ℕ)))). texts_now x.now) is ∙ texts_or values none empty ∙ ap (λ (o : Option (List (List ℕ))). unwrap_or o []) (e ∙ raw_values-rows (found_of m) id)
  where
    texts_or : (values : Option (Bor (List (Bor (List ℕ))))) (none : Bor (List (Bor (List ℕ)))) → none.now ≡ []
        → texts_now (unwrap_or values none).now ≡ unwrap_or (option_map (λ s. map (λ v. v.now) s.now) values) []
    texts_or None none empty = rw empty refl
    texts_or (Some values) none empty = refl

-- ---- refusals

-- a value that is none of the values of its argument
pub invalid : (rows : List Row) (argument value reason : List ℕ) (why : Ending) → IsInvalid rows argument value reason
    → IsOfInvalidValue argument value reason why → IsRefusal rows why
invalid rows argument value reason (InvalidValue line) is h = (argument, value, reason, h, is)
invalid rows argument value reason ZoneWithoutUpdate is h = absurd (search rules)
invalid rows argument value reason (Arguments error) is h = h
invalid rows argument value reason NotUtf8 is h = h
invalid rows argument value reason (CannotRead path error) is h = h
invalid rows argument value reason (HostsNotUtf8 path) is h = h
invalid rows argument value reason (InvalidKeys path error) is h = h
invalid rows argument value reason (NoKey path) is h = h
invalid rows argument value reason (CannotReadInput error) is h = h
invalid rows argument value reason CannotPrint is h = h
invalid rows argument value reason (NoClock error) is h = h
invalid rows argument value reason NoEntropy is h = h
invalid rows argument value reason Memory is h = h

-- there is no memory
pub no_memory : (rows : List Row) (why : Ending) → why ≡ Memory → IsRefusal rows why
no_memory rows why e = rw e refl

-- no name
pub no_name_refusal : (rows : List Row) (argument text : List ℕ) (why : Ending) → (IsNoName text → IsInvalid rows argument text no_name)
    → IsNameRefusal argument text why → IsRefusal rows why
no_name_refusal rows argument text why is h = elim h [
  | inl memory ↦ no_memory rows why memory
  | inr refused ↦ invalid rows argument text no_name why (is refused.0) refused.1
]

-- one of the servers
pub servers_refusal : (rows : List Row) (texts : List (List ℕ)) (why : Ending) → texts ≡ texts_of (codes "server") rows
    → IsRefusalAmong IsServerRefusal texts why → IsRefusal rows why
servers_refusal rows texts why e h = elim h [
  | inl memory ↦ no_memory rows why memory
  | inr refused ↦ invalid rows (codes "--server") refused.0 no_server why (of_server refused.0 (subst (λ ts. Contains ts refused.0) e refused.1) refused.2.0) refused.2.1
]

-- one of the names of the search list
pub search_refusal : (rows : List Row) (texts : List (List ℕ)) (why : Ending) → texts ≡ texts_of (codes "search") rows
    → IsRefusalAmong (IsNameRefusal (codes "--search")) texts why → IsRefusal rows why
search_refusal rows texts why e h = elim h [
  | inl memory ↦ no_memory rows why memory
  | inr refused ↦ no_name_refusal rows (codes "--search") refused.0 why (of_search refused.0 (subst (λ ts. Contains ts refused.0) e refused.1)) refused.2
]

-- one of the names that are looked up
pub items_refusal : (rows : List Row) (texts : List (List ℕ)) (is_alone : Bool) (why : Ending) → texts ≡ texts_of (codes "NAME") rows
    → is_alone ≡ (length texts == 1) → IsRefusalAmong (IsItemRefusal is_alone) texts why → IsRefusal rows why
items_refusal rows texts is_alone why e alone h = elim h [
  | inl memory ↦ no_memory rows why memory
  | inr refused ↦ elim refused.2.1 [
    | inl memory ↦ no_memory rows why memory
    | inr said ↦ invalid rows (codes "NAME") refused.0 said.0 why
        (of_name refused.0 said.0 (subst (λ ts. Contains ts refused.0) e refused.1) refused.2.0
        (subst (λ b. IsNotLookedUp b refused.0 said.0) (alone ∙ ap (λ (ts : List (List ℕ)). length ts == 1) e) said.1)) said.2
  ]
]

-- what clap found is refused, and so are the words
pub words_refusal : (rows : List Row) (why : Ending) → IsRefusal rows why → IsRefusalOf rows why
words_refusal rows (InvalidValue line) h = h
words_refusal rows ZoneWithoutUpdate h = h
words_refusal rows (Arguments error) h = absurd (search rules)
words_refusal rows NotUtf8 h = h
words_refusal rows (CannotRead path error) h = h
words_refusal rows (HostsNotUtf8 path) h = h
words_refusal rows (InvalidKeys path error) h = h
words_refusal rows (NoKey path) h = h
words_refusal rows (CannotReadInput error) h = h
words_refusal rows CannotPrint h = h
words_refusal rows (NoClock error) h = h
words_refusal rows NoEntropy h = h
words_refusal rows Memory h = h

-- ---- lists

-- one more text
texts_more : (texts : List (Bor (List ℕ))) (i : ℕ) (d : Bor (List ℕ)) → i < length texts
    → texts_now (take (i + 1) texts) ≡ texts_now (take i texts) ++ (slice_index_or texts i d).now ∷ []
texts_more texts i d lt = ap texts_now (take_more texts i d lt) ∙ map-append (λ t. t.now) (take i texts) (slice_index_or texts i d ∷ [])

-- one more value for one more text
pub values_more : {X : Type 0} (R : List ℕ → X → Type 0) (texts : List (Bor (List ℕ))) (values new : List X) (i : ℕ) (d : Bor (List ℕ)) (value : X)
    → i < length texts → AllZip R (texts_now (take i texts)) values → R (slice_index_or texts i d).now value → new ≡ values ++ value ∷ []
    → AllZip R (texts_now (take (i + 1) texts)) new
values_more R texts values new i d value lt all one e =
    rw (e, texts_more texts i d lt) (all_zipped_more R (texts_now (take i texts)) values (slice_index_or texts i d).now value all one)

-- the names with one more text
names_more : (texts : List (Bor (List ℕ))) (i : ℕ) (d : Bor (List ℕ)) → i < length texts
    → names_among (texts_now (take (i + 1) texts)) ≡ names_among (texts_now (take i texts)) ++ names_among ((slice_index_or texts i d).now ∷ [])
names_more texts i d lt =
    ap names_among (texts_more texts i d lt) ∙ filter-append (λ t. not (is_input t)) (texts_now (take i texts)) ((slice_index_or texts i d).now ∷ [])

-- a text alone is a name, or stands for those of standard input
one_name : (text : List ℕ) → is_input text ≡ false → names_among (text ∷ []) ≡ text ∷ []
one_name text e = rw e refl

no_name_there : (text : List ℕ) → is_input text ≡ true → names_among (text ∷ []) ≡ []
no_name_there text e = rw e refl

-- one more item for one more name
pub items_more : {X : Type 0} (R : List ℕ → X → Type 0) (texts : List (Bor (List ℕ))) (items new : List X) (i : ℕ) (d : Bor (List ℕ)) (item : X)
    → i < length texts → is_input (slice_index_or texts i d).now ≡ false → AllZip R (names_among (texts_now (take i texts))) items
    → R (slice_index_or texts i d).now item → new ≡ items ++ item ∷ [] → AllZip R (names_among (texts_now (take (i + 1) texts))) new
items_more R texts items new i d item lt other all one e =
    rw (e, names_more texts i d lt, one_name (slice_index_or texts i d).now other)
    (all_zipped_more R (names_among (texts_now (take i texts))) items (slice_index_or texts i d).now item all one)

-- none for a text that stands for those of standard input
pub items_same : {X : Type 0} (R : List ℕ → X → Type 0) (texts : List (Bor (List ℕ))) (items new : List X) (i : ℕ) (d : Bor (List ℕ))
    → i < length texts → is_input (slice_index_or texts i d).now ≡ true → AllZip R (names_among (texts_now (take i texts))) items → new ≡ items
    → AllZip R (names_among (texts_now (take (i + 1) texts))) new
items_same R texts items new i d lt is all e =
    rw (e, names_more texts i d lt, no_name_there (slice_index_or texts i d).now is, append-nil (names_among (texts_now (take i texts)))) all

-- ---- exits

-- an error is passed on as it is
pub passes : {T : Type 0} (P : Ending → Type 0) (r : Result T Ending) (why : Ending) → P why → IsErrAnd r (λ e. e ≡ why) → IfErr r P
passes P r why h is =
    let err = err_from_is_err_and r is in
    rw (err.1, err.2) h
