-- The options of a command that was made argument by argument, and what a parse finds for those that take a number or no value.
use Rattle.std.proofs.Common.{◌≡◌, ◌⊎◌, ◌∙◌, ◌++◌, ◌<◌, ◌≤◌, ◌&&◌, ◌||◌, ℕ, zero, suc, Bool, true, false, not, List, [], ◌∷◌, length, map, get_or, Option, Some, None, is_some, option_map, cond, refl, sym, subst, ap, inl, inr, arith, append_assoc, append-nil, bytes_eq, All, codes}
use Rattle.std.specs.Prelude.{⊤, find, fold, slice_get}
use Rattle.std.specs.List.{AllByRecursion, list_all}
use Rattle.std.specs.Borrow.{Bor}
use Rattle.std.proofs.lemmas.Slice.Eq.{bytes_eq-Decides}
use Rattle.clap.specs.Facts.{Entry, EntryPasses, HasId, PassesArg, ValuesPass, WantsDefault, args_of, groups_of, least_values, parser_of, parser_of_value}
use Rattle.clap.specs.Built.{AddsArg, AddsInTurn, FitsChain, HasDistinctIds, IsAuto, IsParsedFrom, IsPlain, IsPlainArg, SameRules}
use Rattle.clap.specs.Words.{App, app_of, rule_of, with_rule}
use Rattle.clap.specs.Matches.{found_of, matched_of, one_text}
use Rattle.clap.specs.Values.{Accepts, read_as, reading_of}
use Rattle.clap.specs.declared.builder.action.ArgAction.TheVariants.{Set, Count}
use Rattle.clap.specs.declared.builder.arg.Arg.{Arg}
use Rattle.clap.specs.declared.builder.command.Command.{Command}
use Rattle.clap.specs.declared.builder.command.Command.TheViews.{out-Command}
use Rattle.clap.specs.declared.builder.value_parser.Reading.{Reading}
use Rattle.clap.specs.declared.builder.value_parser.ValueParser.{ValueParser}
use Rattle.clap.specs.declared.parser.matches.ArgMatches.{ArgMatches}
use Rattle.clap.specs.declared.parser.matches.Found.{Found}
use Rattle.clap.specs.declared.parser.matches.MatchedArg.{MatchedArg}
use Rattle.clap.proofs.CallerLemmas.{added_plain, default_present, entry_by_id, same_rules_by_id}
use Rattle.clap.specs.declared.builder.value_parser.ValueParser.TheVariants as parsers
use Rattle.stub_play.specs.Words.{IsFlagText, TakesFlag, TakesNumber, TakesOne}

-- ---- arguments, place by place

-- the second list has what a parse reads of the first
abbrev Same : List Arg → List Arg → Type 0
Same [] [] = ⊤
Same (x ∷ xs) (y ∷ ys) = SameRules x y × Same xs ys
Same xs ys = ⊥

same_more : (xs ys : List Arg) (x y : Arg) → Same xs ys → SameRules x y → Same (xs ++ x ∷ []) (ys ++ y ∷ [])
same_more [] [] x y h rules = (rules, tt)
same_more [] (b ∷ ys) x y h rules = absurd h
same_more (a ∷ xs) [] x y h rules = absurd h
same_more (a ∷ xs) (b ∷ ys) x y h rules = (h.0, same_more xs ys x y h.1 rules)

same_len : (xs ys : List Arg) → Same xs ys → length ys ≡ length xs
same_len [] [] h = refl
same_len [] (b ∷ ys) h = absurd h
same_len (a ∷ xs) [] h = absurd h
same_len (a ∷ xs) (b ∷ ys) h = ap suc (same_len xs ys h.1)

same_at : (xs ys : List Arg) (k : ℕ) (d e : Arg) → Same xs ys → k < length xs → SameRules (get_or xs k d) (get_or ys k e)
same_at [] [] k d e h lt = absurd (omega arith)
same_at [] (b ∷ ys) k d e h lt = absurd h
same_at (a ∷ xs) [] k d e h lt = absurd h
same_at (a ∷ xs) (b ∷ ys) zero d e h lt = h.0
same_at (a ∷ xs) (b ∷ ys) (suc k) d e h lt = same_at xs ys k d e h.1 (omega arith)

-- ---- commands that were made argument by argument

-- a command whose arguments are those of the list
pub record IsMadeOf (given : List Arg) (command : Command) : Type 0 where
  pub same : Same given (args_of command)
  pub plain : IsPlain command
  pub globals : (out-Command command).has_globals ≡ false

one_more : (old new : Command) (given : List Arg) (a : Arg) → IsMadeOf given old → AddsArg old a new → FitsChain a → IsMadeOf (given ++ a ∷ []) new
one_more old new given a made added fits = record {
  same = rw added.args (same_more given (args_of old) a added.arg made.same added.rules);
  plain = added_plain old new a added made.plain fits.0;
  globals = added.globals ∙ (ap (λ b. b || a.global) made.globals ∙ ap (λ b. false || b) fits.1);
}

pub made_in_turn : (given more : List Arg) (old new : Command) → IsMadeOf given old → AddsInTurn AddsArg old more new
    → AllByRecursion FitsChain more → IsMadeOf (given ++ more) new
made_in_turn given [] old new made h fit = rw (append-nil given) (subst (IsMadeOf given) h made)
made_in_turn given (a ∷ more) old new made h fit =
    let all = made_in_turn (given ++ a ∷ []) more h.0 new (one_more old h.0 given a made h.1 fit.0) h.2 fit.1 in
    subst (λ (xs : List Arg). IsMadeOf xs new) (append_assoc given (a ∷ []) more) all

-- the rules of a command are those of its arguments
pub app_in_turn : (more : List Arg) (old new : Command) → AddsInTurn AddsArg old more new → AllByRecursion FitsChain more
    → app_of new ≡ fold with_rule (app_of old) (map rule_of more)
app_in_turn [] old new h fit = ap app_of (sym h)
app_in_turn (a ∷ more) old new h fit =
    app_in_turn more h.0 new h.2 fit.1 ∙ ap (λ (x : App). fold with_rule x (map rule_of more)) (h.1.shape fit.0.1)

pub all_fit : (xs : List Arg) → AllByRecursion FitsChain xs → All FitsChain xs
all_fit [] h k d lt = absurd (omega arith)
all_fit (x ∷ xs) h zero d lt = h.0
all_fit (x ∷ xs) h (suc k) d lt = all_fit xs h.1 k d (omega arith)

-- ---- distinct names

-- the text is none of the others
abbrev pub is_none_of : List ℕ → List (List ℕ) → Bool
is_none_of text = list_all (λ other. not (bytes_eq text other))

abbrev pub are_distinct : List (List ℕ) → Bool
are_distinct [] = true
are_distinct (text ∷ texts) = is_none_of text texts && are_distinct texts

abbrev pub ids_of : List Arg → List (List ℕ)
ids_of = map (λ a. a.id.now)

both : (a b : Bool) → a && b ≡ true → (a ≡ true) × (b ≡ true)
both true true h = (refl, refl)
both true false h = cc
both false b h = cc

other_at : (text : List ℕ) (xs : List Arg) (k : ℕ) (d : Arg) → is_none_of text (ids_of xs) ≡ true → k < length xs
    → bytes_eq text (get_or xs k d).id.now ≡ true → ⊥
other_at text [] k d none lt same = absurd (omega arith)
other_at text (x ∷ xs) zero d none lt same =
    let first = (both (not (bytes_eq text x.id.now)) _ none).0 in
    let bad : not true ≡ true = subst (λ (b : Bool). not b ≡ true) same first in
    cc
other_at text (x ∷ xs) (suc k) d none lt same = other_at text xs k d (both (not (bytes_eq text x.id.now)) _ none).1 (omega arith) same

swapped : (a b : List ℕ) → bytes_eq a b ≡ true → bytes_eq b a ≡ true
swapped a b h = (bytes_eq-Decides b a).1 (sym ((bytes_eq-Decides a b).0 h))

pub distinct_ids : (xs : List Arg) → are_distinct (ids_of xs) ≡ true → HasDistinctIds xs
distinct_ids [] h j k d e low high same = absurd (omega arith)
distinct_ids (x ∷ xs) h zero zero d e low high same = refl
distinct_ids (x ∷ xs) h zero (suc k) d e low high same =
    absurd (other_at x.id.now xs k d (both (is_none_of x.id.now (ids_of xs)) _ h).0 (omega arith) same)
distinct_ids (x ∷ xs) h (suc j) zero d e low high same =
    absurd (other_at x.id.now xs j e (both (is_none_of x.id.now (ids_of xs)) _ h).0 (omega arith) (swapped (get_or xs j e).id.now x.id.now same))
distinct_ids (x ∷ xs) h (suc j) (suc k) d e low high same =
    ap suc (distinct_ids xs (both (is_none_of x.id.now (ids_of xs)) _ h).1 j k d e (omega arith) (omega arith) same)

-- an option of this name
pub record IsOption (name : List ℕ) (a : Arg) : Type 0 where
  pub id : a.id.now ≡ name
  pub plain : IsPlainArg a × (a.global ≡ false)

other_text : (a b : List ℕ) → not (bytes_eq a b) ≡ true → a ≡ b → ⊥
other_text a b h same =
    let bad : not true ≡ true = subst (λ (t : Bool). not t ≡ true) ((bytes_eq-Decides a b).1 same) h in
    cc

-- its name is none of those that clap adds
pub option_fits : (name : List ℕ) (a : Arg) → IsOption name a → is_none_of name ([] ∷ codes "help" ∷ codes "version" ∷ []) ≡ true → FitsChain a
option_fits name a option none =
    let empty = both (not (bytes_eq name [])) _ none in
    let help = both (not (bytes_eq name (codes "help"))) _ empty.1 in
    let version = both (not (bytes_eq name (codes "version"))) _ help.1 in (
      option.plain.0,
      option.plain.1,
      λ e. other_text name [] empty.0 (sym option.id ∙ e),
      λ auto. elim auto [
        | inl e ↦ other_text name _ help.0 (sym option.id ∙ e)
        | inr e ↦ other_text name _ version.0 (sym option.id ∙ e)
      ],
    )

-- ---- what a parse finds for an option with a default

found_entry : (id : List ℕ) (xs : List Entry) (k : ℕ) → k < length xs → ((d : Entry) → bytes_eq (get_or xs k d).0.now id ≡ true)
    → is_some (find (λ e. bytes_eq e.0.now id) xs) ≡ true
found_entry id [] k lt at = absurd (omega arith)
found_entry id (x ∷ xs) zero lt at = rw (at x) refl
found_entry id (x ∷ xs) (suc k) lt at = go (bytes_eq x.0.now id) (found_entry id xs k (omega arith) at)
  where
    go : (t : Bool) → is_some (find (λ e. bytes_eq e.0.now id) xs) ≡ true → is_some (cond t (Some x) (find (λ e. bytes_eq e.0.now id) xs)) ≡ true
    go true later = refl
    go false later = later

-- the entry of an id that has one
pub record IsEntry (f : Found) (id : List ℕ) : Type 0 where
  pub entry : MatchedArg
  pub is : matched_of f id ≡ Some entry

entry_of : (f : Found) (id : List ℕ) → HasId f id → IsEntry f id
entry_of f id has = go (find (λ e. bytes_eq e.0.now id) f.entries.items) refl (found_entry id f.entries.items has.0 has.1 has.2)
  where
    go : (o : Option Entry) → find (λ e. bytes_eq e.0.now id) f.entries.items ≡ o → is_some (find (λ e. bytes_eq e.0.now id) f.entries.items) ≡ true → IsEntry f id
    go None is some =
        let bad : false ≡ true = rw is at some in
        cc
    go (Some e) is some = record { entry = e.1; is = ap (option_map (λ x. x.1)) is }

-- how a parse reads an option, by this parser
pub record ReadsBy (parser : ValueParser) (ignore_case : Bool) (a : Arg) : Type 0 where
  pub is_parser : parser_of a ≡ parser
  pub is_case : a.ignore_case ≡ ignore_case

-- an option that takes one value
pub record HasValue (a : Arg) : Type 0 where
  pub is_set : a.action ≡ Some Set
  pub delimiter : a.val_delim ≡ None
  pub count : 1 ≤ least_values a

-- an argument of a command with this id
abbrev pub IsArgNamed : Command → List ℕ → Arg → Type 0
IsArgNamed c id a = (k : ℕ) × (k < length (args_of c)) × (get_or (args_of c) k a ≡ a) × (bytes_eq a.id.now id ≡ true)

first_value_passes : (P : Bor (List ℕ) → Type 0) (how : Reading) (values : List (Bor (List ℕ))) → All P values → 0 < length values
    → (v : Bor (List ℕ)) × (option_map (λ s. read_as how s.now) (slice_get values 0) ≡ Some (read_as how v.now)) × P v
first_value_passes P how [] all some = absurd (omega arith)
first_value_passes P how (v ∷ values) all some = (v, refl, all 0 v (omega arith))

-- the parser takes the text, if there is one
abbrev pub AcceptsAny : ValueParser → Bool → Option (List ℕ) → Type 0
AcceptsAny parser ignore_case None = ⊤
AcceptsAny parser ignore_case (Some text) = (t : List ℕ) × (text ≡ read_as (reading_of parser) t) × Accepts ignore_case parser t

any_of_values : (parser : ValueParser) (ignore_case : Bool) (values : List (Bor (List ℕ)))
    → All (λ (v : Bor (List ℕ)). Accepts ignore_case parser v.now) values
    → AcceptsAny parser ignore_case (option_map (λ s. read_as (reading_of parser) s.now) (slice_get values 0))
any_of_values parser ignore_case [] all = tt
any_of_values parser ignore_case (v ∷ values) all = (v.now, refl, all 0 v (omega arith))

module _ (c : Command) (f : Found) (id : List ℕ) (parser : ValueParser) (ignore_case : Bool) (ungrouped : groups_of c ≡ [])
    (named : id ≡ [] → ⊥) (reads : (a : Arg) → IsArgNamed c id a → ReadsBy parser ignore_case a) where
  no_group : (e : Entry) → e.0.now ≡ id → EntryPasses c e → e.1.is_group ≡ true → ⊥
  no_group e key pass group = elim (pass.3 group) [
    | inl empty ↦ named (sym key ∙ empty)
    | inr some ↦
        let bad : 0 < 0 = rw ungrouped at some in
        omega arith
  ]

  has_value : ((a : Arg) → IsArgNamed c id a → HasValue a) → (e : Entry) → e.0.now ≡ id → EntryPasses c e → 0 < length e.1.vals.items
  has_value valued e key pass = elim pass.1 [
    | inl group ↦ absurd (no_group e key pass group.0)
    | inr (inl some) ↦ some
    | inr (inr (inl count)) ↦
        let any = count.1 in
        let r = valued any.1 (any.0, any.2, any.3, subst (λ (w : List ℕ). bytes_eq any.1.id.now w ≡ true) key any.4.0) in
        let bad : Set ≡ Count = rw r.is_set at any.4.1 in
        cc
    | inr (inr (inr any)) ↦
        let r = valued any.1 (any.0, any.2, any.3, subst (λ (w : List ℕ). bytes_eq any.1.id.now w ≡ true) key any.4.0) in
        elim any.4.1 [
          | inl none ↦
              let least = r.count in
              absurd (omega arith)
          | inr delimited ↦
              let bad : false ≡ true = rw r.delimiter at delimited in
              cc
        ]
  ]

  is_accepted : (e : Entry) (v : Bor (List ℕ)) → e.0.now ≡ id → PassesArg c e.0.now v.now → Accepts ignore_case parser v.now
  is_accepted e v key any =
      let r = reads any.1 (any.0, any.2, any.3, subst (λ (w : List ℕ). bytes_eq any.1.id.now w ≡ true) key any.4.0) in
      let by_parser : Accepts any.1.ignore_case parser v.now = subst (λ (p : ValueParser). Accepts any.1.ignore_case p v.now) r.is_parser any.4.1 in
      subst (λ (b : Bool). Accepts b parser v.now) r.is_case by_parser

  are_accepted : (e : Entry) → e.0.now ≡ id → EntryPasses c e → All (λ (v : Bor (List ℕ)). Accepts ignore_case parser v.now) e.1.vals.items
  are_accepted e key pass = elim pass.0 [
    | inl group ↦ absurd (no_group e key pass group)
    | inr values ↦ λ k d lt. is_accepted e (get_or e.1.vals.items k d) key (values k d lt)
  ]

  is_read : (e : Entry) → e.0.now ≡ id → EntryPasses c e → e.1.reading ≡ reading_of parser
  is_read e key pass = elim pass.4 [
    | inl group ↦ absurd (no_group e key pass group)
    | inr any ↦
        let r = reads any.1 (any.0, any.2, any.3, subst (λ (w : List ℕ). bytes_eq any.1.id.now w ≡ true) key any.4.0) in
        sym any.4.1 ∙ ap reading_of r.is_parser
  ]

  -- the entry of the option has a first text, which the parser takes
  pub text_in : ((a : Arg) → IsArgNamed c id a → HasValue a) → ValuesPass c f → HasId f id
      → (t : List ℕ) × (one_text f id ≡ Some (read_as (reading_of parser) t)) × Accepts ignore_case parser t
  text_in valued values has =
      let there = entry_of f id has in
      let (e, same, key, pass) = entry_by_id (EntryPasses c) f.entries.items id there.entry values there.is in
      let is_id : e.0.now ≡ id = (bytes_eq-Decides e.0.now id).0 key in
      let first = first_value_passes (λ (v : Bor (List ℕ)). Accepts ignore_case parser v.now) e.1.reading e.1.vals.items (are_accepted e is_id pass) (has_value valued e is_id pass) in
      let found : matched_of f id ≡ Some e.1 = there.is ∙ ap (λ (x : MatchedArg). Some x) (sym same) in
      let text : one_text f id ≡ Some (read_as e.1.reading first.0.now) = rw found first.1 in
      (first.0.now, text ∙ ap (λ (how : Reading). Some (read_as how first.0.now)) (is_read e is_id pass), first.2)

  any_of_entry : (entry : MatchedArg) → matched_of f id ≡ Some entry → ValuesPass c f → AcceptsAny parser ignore_case (one_text f id)
  any_of_entry entry is values =
      let (e, same, key, pass) = entry_by_id (EntryPasses c) f.entries.items id entry values is in
      let is_id : e.0.now ≡ id = (bytes_eq-Decides e.0.now id).0 key in
      let first : AcceptsAny parser ignore_case (option_map (λ s. read_as (reading_of parser) s.now) (slice_get e.1.vals.items 0)) =
      any_of_values parser ignore_case e.1.vals.items (are_accepted e is_id pass) in
      let found : matched_of f id ≡ Some e.1 = is ∙ ap (λ (x : MatchedArg). Some x) (sym same) in
      rw (found, is_read e is_id pass) first

  -- the entry of the option, if it has one, has a first text that the parser takes, if it has any
  pub any_text : ValuesPass c f → AcceptsAny parser ignore_case (one_text f id)
  any_text values = go (matched_of f id) refl
    where
      go : (o : Option MatchedArg) → matched_of f id ≡ o → AcceptsAny parser ignore_case (one_text f id)
      go None is = rw is tt
      go (Some entry) is = any_of_entry entry is values

-- the parser of flags takes two texts
flag_word : (text t : List ℕ) → text ≡ t → (bytes_eq t (codes "true") || bytes_eq t (codes "false")) ≡ true
    → (text ≡ codes "true") ⊎ (text ≡ codes "false")
flag_word text t same accepted = go (bytes_eq t (codes "true")) refl accepted
  where
    go : (b : Bool) → bytes_eq t (codes "true") ≡ b → (b || bytes_eq t (codes "false")) ≡ true → (text ≡ codes "true") ⊎ (text ≡ codes "false")
    go true is either = inl (same ∙ (bytes_eq-Decides t (codes "true")).0 is)
    go false is either = inr (same ∙ (bytes_eq-Decides t (codes "false")).0 either)

flag_is_text : (ignore_case : Bool) (text : Option (List ℕ)) → AcceptsAny parsers.Bool ignore_case text → IsFlagText text
flag_is_text ignore_case None any = tt
flag_is_text ignore_case (Some text) any = flag_word text any.0 any.1 any.2

-- ---- an option of a command

module _ (given : List Arg) (command : Command) (m : ArgMatches) (made : IsMadeOf given command) (fit : All FitsChain given)
    (distinct : HasDistinctIds given) (parsed : IsParsedFrom command m) (k : ℕ) (d : Arg) (lt : k < length given) where
  there : k < length (args_of command)
  there = let same = same_len given (args_of command) made.same in omega arith

  rules : SameRules (get_or given k d) (get_or (args_of command) k d)
  rules = same_at given (args_of command) k d d made.same lt

  same_id : (get_or (args_of command) k d).id.now ≡ (get_or given k d).id.now
  same_id = ap (λ x. x.now) rules.id

  alone : (j : ℕ) (e : Arg) → j < length (args_of command)
      → bytes_eq (get_or (args_of command) j e).id.now (get_or (args_of command) k d).id.now ≡ true → j ≡ k
  alone j e low same =
      let len = same_len given (args_of command) made.same in
      let within : j < length given = omega arith in
      let other : (get_or (args_of command) j e).id.now ≡ (get_or given j e).id.now = ap (λ x. x.now) (same_at given (args_of command) j e e made.same within).id in
      distinct j k d e within lt (rw (← other, ← same_id) same)

  own : IsAuto (get_or (args_of command) k d) → ⊥
  own auto = (fit k d lt).3 (elim auto [ inl h ↦ inl (sym same_id ∙ h) | inr h ↦ inr (sym same_id ∙ h) ])

  built_rules : (a : Arg) → IsArgNamed parsed.built (get_or (args_of command) k d).id.now a → SameRules (get_or (args_of command) k d) a
  built_rules a at = same_rules_by_id command m parsed k d there alone own at.0 a at.1 at.2 at.3

  reads : (parser : ValueParser) → (get_or given k d).value_parser ≡ Some parser → (a : Arg)
      → IsArgNamed parsed.built (get_or (args_of command) k d).id.now a → ReadsBy parser (get_or given k d).ignore_case a
  reads parser is a at =
      let s = built_rules a at in
      record {
        is_parser = ap parser_of_value (s.parser parser (rules.parser parser is));
        is_case = s.ignore_case ∙ rules.ignore_case;
      }

  valued : TakesOne (get_or given k d) → (a : Arg) → IsArgNamed parsed.built (get_or (args_of command) k d).id.now a → HasValue a
  valued one a at =
      let s = built_rules a at in
      let set : (get_or (args_of command) k d).action ≡ Some Set = rules.action Set one.action in
      record {
        is_set = s.action Set set;
        delimiter = s.val_delim ∙ (rules.val_delim ∙ one.delimiter);
        count = s.least set (rules.least one.action one.count);
      }

  has_name : (get_or (args_of command) k d).id.now ≡ [] → ⊥
  has_name empty = (fit k d lt).2 (sym same_id ∙ empty)

  pub number_text : (parser : ValueParser) → TakesNumber parser (get_or given k d)
      → (t : List ℕ) × (one_text (found_of m) (get_or given k d).id.now ≡ Some (read_as (reading_of parser) t))
      × Accepts (get_or given k d).ignore_case parser t
  number_text parser takes =
      let facts = parsed.parsed (parsed.from.globals ∙ made.globals) in
      let wants : WantsDefault (get_or (args_of command) k d) = (rules.ifs ∙ takes.one.conditions, rw (rules.defaults takes.preset) takes.preset) in
      let read = text_in parsed.built (found_of m) (get_or (args_of command) k d).id.now parser (get_or given k d).ignore_case
      (parsed.from.plain made.plain).1 has_name (reads parser takes.parser) (valued takes.one) facts.values
      (default_present command m parsed made.globals k d there wants) in
      (read.0, subst (λ (w : List ℕ). one_text (found_of m) w ≡ Some (read_as (reading_of parser) read.0)) same_id read.1, read.2)

  pub flag_text : TakesFlag (get_or given k d) → IsFlagText (one_text (found_of m) (get_or given k d).id.now)
  flag_text takes =
      let facts = parsed.parsed (parsed.from.globals ∙ made.globals) in
      let any = any_text parsed.built (found_of m) (get_or (args_of command) k d).id.now parsers.Bool (get_or given k d).ignore_case
      (parsed.from.plain made.plain).1 has_name (reads parsers.Bool takes.parser) facts.values in
      subst (λ (w : List ℕ). IsFlagText (one_text (found_of m) w)) same_id
      (flag_is_text (get_or given k d).ignore_case (one_text (found_of m) (get_or (args_of command) k d).id.now) any)
