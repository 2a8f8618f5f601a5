-- The program's command, as clap parses it.
use Rattle.std.proofs.Common.{◌≡◌, ◌⊎◌, ◌∙◌, ◌<◌, ℕ, Bool, List, [], ◌∷◌, Option, Some, None, Result, IfErr, IsErrAnd, true, false, codes, map, option_map, is_some, refl, sym, ap, subst, arith, inl, inr}
use Rattle.std.specs.List.{AllByRecursion, slice_index_or}
use Rattle.std.specs.Borrow.{Bor}
use Rattle.std.specs.Prelude.{fold}
use Rattle.std.proofs.lemmas.List.Elements.{All-nil}
use Rattle.std.proofs.lemmas.Result.{err_from_is_err_and}
use Rattle.clap.specs.Words.{AddsArg, App, HasMatchesOf, IsParsedFrom, IsPlainArg, Rule, app_of, args_of, first_of, first_value, found_of, groups_of, is_simple, kind_of, matches_of, fault_of, is_simple_and_free, HasKind, new_app, one_of, one_text, rule_of, takes, with_rule, without_minus}
use Rattle.clap.specs.Built.{AddsInTurn, FitsChain, TakesValue}
use Rattle.clap.specs.declared.error.Error.{Error}
use Rattle.clap.specs.declared.error.kind.ErrorKind.TheVariants.{OutOfMemory}
use Rattle.clap.specs.declared.builder.arg.Arg.{Arg}
use Rattle.clap.specs.declared.builder.command.Command.{Command}
use Rattle.clap.specs.declared.builder.command.Command.TheViews.{out-Command}
use Rattle.clap.specs.declared.parser.matches.ArgMatches.{ArgMatches}
use Rattle.clap.proofs.CallerLemmas.{required_in_chain}
use Rattle.clap.proofs.WalkLemmas.{first_value-rows, one_text-rows}
use Rattle.clap.proofs.OnLiterals.{clap_on_literals}
use Rattle.stub_play.specs.declared.words.WordsFault.{WordsFault}
use Rattle.stub_play.specs.declared.words.WordsFault.TheVariants.{Clap, Bad, Memory}
use Rattle.stub_play.specs.Words.{BecomesFault, HasAll, HasNumber, IsFlagText, IsNoOrigin, IsOriginFault, IsWordsFault, TakesFlag, TakesNumber, between, cache_rule, flag, flag_of, is_set, limit_rule, max_ttl_rule, number_of, number_of_text, optional, required, stub_app, stub_rules, value_of}
use Rattle.stub_play.proofs.OptionLaws.{IsMadeOf, IsOption, all_fit, app_in_turn, are_distinct, distinct_ids, flag_text, ids_of, made_in_turn, number_text, option_fits}

-- ---- values

app_is_simple : is_simple stub_app ≡ true
unfolding clap_on_literals
app_is_simple = refl

-- clap's matches have the value that the words give an option
pub value_in : (app : App) (words : List (List ℕ)) (m : ArgMatches) (id : List ℕ) → app ≡ stub_app → HasMatchesOf app words m
    → value_of id words ≡ first_value (found_of m) id
value_in app words m id same has =
    let rows = (has (ap is_simple same ∙ app_is_simple)).0 in
    ap (λ (a : App). first_of id (matches_of a words)) (sym same) ∙ ap (first_of id) (sym rows) ∙ sym (first_value-rows (found_of m) id)

pub value_is : (app : App) (words : List (List ℕ)) (m : ArgMatches) (id : List ℕ) (value : Option (List ℕ)) → app ≡ stub_app
    → HasMatchesOf app words m → first_value (found_of m) id ≡ value → value_of id words ≡ value
value_is app words m id value same has is = value_in app words m id same has ∙ is

-- and the number
pub number_is : (app : App) (words : List (List ℕ)) (m : ArgMatches) (id : List ℕ) (n : ℕ) → app ≡ stub_app → HasMatchesOf app words m
    → option_map number_of_text (one_text (found_of m) id) ≡ Some n → number_of id words ≡ Some n
number_is app words m id n same has is =
    let rows = (has (ap is_simple same ∙ app_is_simple)).0 in
    let text = ap (λ (a : App). one_of id (matches_of a words)) (sym same) ∙ ap (one_of id) (sym rows) ∙ sym (one_text-rows (found_of m) id) in
    ap (option_map number_of_text) text ∙ is

-- and the flag
pub flag_is : (app : App) (words : List (List ℕ)) (m : ArgMatches) (id : List ℕ) (b : Bool) → app ≡ stub_app → HasMatchesOf app words m
    → is_set (one_text (found_of m) id) ≡ b → flag_of id words ≡ b
flag_is app words m id b same has is =
    let rows = (has (ap is_simple same ∙ app_is_simple)).0 in
    let text = ap (λ (a : App). one_of id (matches_of a words)) (sym same) ∙ ap (one_of id) (sym rows) ∙ sym (one_text-rows (found_of m) id) in
    ap is_set text ∙ is

-- what clap reads of a text of a flag
pub flag_read : (text : Option (List ℕ)) (b : Bool) → IsFlagText text → (text ≡ None → b ≡ false) → (text ≡ Some (codes "true") → b ≡ true)
    → (text ≡ Some (codes "false") → b ≡ false) → is_set text ≡ b
flag_read None b is none set unset = sym (none refl)
flag_read (Some text) b is none set unset = elim is [
  | inl is_true ↦ rw is_true (sym (set (ap (λ (t : List ℕ). Some t) is_true)))
  | inr is_false ↦ rw is_false (sym (unset (ap (λ (t : List ℕ). Some t) is_false)))
]

-- ---- faults

-- where clap takes the words, only memory may be wanting
pub only_memory : {T : Type 0} (app : App) (words : List (List ℕ)) (r : Result T WordsFault) (e : Error) → app ≡ stub_app
    → (takes app words ≡ true → kind_of e ≡ OutOfMemory) → IsErrAnd r (BecomesFault e)
    → IfErr r (λ fault. takes stub_app words ≡ true → (fault ≡ Bad) ⊎ (fault ≡ Memory))
only_memory app words r e same passes h =
    let found = err_from_is_err_and r h in
    rw found.1 (λ taken. elim found.2 [
      | inl memory ↦ inr memory.1
      | inr other ↦ absurd (other.0 (passes (ap (λ (a : App). takes a words) same ∙ taken)))
    ])

app_is_free : is_simple_and_free stub_app ≡ true
unfolding clap_on_literals
app_is_free = refl

fault_is_so : (words : List (List ℕ)) (e : Error) (fault : WordsFault) → HasKind (fault_of stub_app words) e → BecomesFault e fault → IsWordsFault words fault
fault_is_so words e fault has becomes = elim becomes [
  | inl memory ↦ rw memory.1 tt
  | inr other ↦ rw other.1 (elim has [ inl wanting ↦ absurd (other.0 wanting) | inr among ↦ among ])
]

-- any other error says what is wrong with the words
pub fault_is : {T : Type 0} (app : App) (words : List (List ℕ)) (r : Result T WordsFault) (e : Error) → app ≡ stub_app
    → (is_simple_and_free app ≡ true → HasKind (fault_of app words) e) → IsErrAnd r (BecomesFault e) → IfErr r (IsWordsFault words)
fault_is app words r e same kinds h =
    let found = err_from_is_err_and r h in
    let has : HasKind (fault_of stub_app words) e = rw same at (kinds (rw same app_is_free)) in
    rw found.1 (fault_is_so words e found.0 has found.2)

-- where clap parsed the words, it found no fault in them
pub no_fault : (app : App) (words : List (List ℕ)) → app ≡ stub_app → (is_simple_and_free app ≡ true → fault_of app words ≡ []) → fault_of stub_app words ≡ []
no_fault app words same none = rw same at (none (rw same app_is_free))

-- the fault of an origin, in words in which clap found none
origin_fault : (app : App) (words : List (List ℕ)) (m : ArgMatches) (fault : WordsFault) → app ≡ stub_app → HasMatchesOf app words m
    → (is_simple_and_free app ≡ true → fault_of app words ≡ []) → IsOriginFault (first_value (found_of m) (codes "origin")) fault
    → IsWordsFault words fault
origin_fault app words m (Clap error) same has none h = absurd h
origin_fault app words m Bad same has none h = (no_fault app words same none, inl (subst IsNoOrigin (sym (value_in app words m (codes "origin") same has)) h))
origin_fault app words m Memory same has none h = tt

-- it is passed on as it is
pub origin_fault_passes : {T : Type 0} (app : App) (words : List (List ℕ)) (m : ArgMatches) (r : Result T WordsFault) (fault : WordsFault) → app ≡ stub_app
    → HasMatchesOf app words m → (is_simple_and_free app ≡ true → fault_of app words ≡ []) → IsOriginFault (first_value (found_of m) (codes "origin")) fault
    → IsErrAnd r (λ f. f ≡ fault) → IfErr r (IsWordsFault words)
origin_fault_passes app words m r fault same has none is h =
    let found = err_from_is_err_and r h in
    rw (found.1, found.2) (origin_fault app words m fault same has none is)

-- datagrams are wanted of more bytes than one has
too_much_is_bad : (app : App) (words : List (List ℕ)) (m : ArgMatches) (limit : ℕ) (udp : Bool) → app ≡ stub_app → HasMatchesOf app words m
    → (is_simple_and_free app ≡ true → fault_of app words ≡ []) → is_set (one_text (found_of m) (codes "udp")) ≡ udp
    → option_map number_of_text (one_text (found_of m) (codes "limit")) ≡ Some limit → udp ≡ true → 65507 < limit → IsWordsFault words Bad
too_much_is_bad app words m limit udp same has none set number is_udp over = (
  no_fault app words same none,
  inr (flag_is app words m (codes "udp") udp same has set ∙ is_udp, limit, number_is app words m (codes "limit") limit same has number, over),
)

-- it is passed on as it is
pub too_much_passes : {T : Type 0} (app : App) (words : List (List ℕ)) (m : ArgMatches) (limit : ℕ) (udp : Bool) (r : Result T WordsFault)
    (fault : WordsFault) → app ≡ stub_app → HasMatchesOf app words m → (is_simple_and_free app ≡ true → fault_of app words ≡ [])
    → is_set (one_text (found_of m) (codes "udp")) ≡ udp → option_map number_of_text (one_text (found_of m) (codes "limit")) ≡ Some limit
    → (fault ≡ Bad) × (udp ≡ true) × (65507 < limit) → IsErrAnd r (λ f. f ≡ fault) → IfErr r (IsWordsFault words)
too_much_passes app words m limit udp r fault same has none set number is h =
    let found = err_from_is_err_and r h in
    rw (found.1, found.2, is.0) (too_much_is_bad app words m limit udp same has none set number is.1 is.2)

pub bad_passes : {T : Type 0} (P : Type 0) (r : Result T WordsFault) (fault : WordsFault) → fault ≡ Bad → IsErrAnd r (λ f. f ≡ fault)
    → IfErr r (λ f. P → (f ≡ Bad) ⊎ (f ≡ Memory))
bad_passes P r fault is h =
    let found = err_from_is_err_and r h in
    rw found.1 (λ p. inl (found.2 ∙ is))

-- ---- the command

-- a command without arguments
pub record IsBare (c : Command) : Type 0 where
  pub app : app_of c ≡ new_app (codes "stub")
  pub args : args_of c ≡ []
  pub groups : groups_of c ≡ []
  pub globals : (out-Command c).has_globals ≡ false
  pub negates : (out-Command c).subcommand_negates_reqs ≡ false

-- a new command with a text about it
pub bare_with_about : (new start : Command) (about : Option (Bor (List ℕ))) → out-Command start ≡ record (out-Command new) { about = about }
    → app_of new ≡ new_app (codes "stub") → args_of new ≡ [] → groups_of new ≡ [] → (out-Command new).has_globals ≡ false
    → (out-Command new).subcommand_negates_reqs ≡ false → IsBare start
bare_with_about new start about same app args groups globals negates = record {
  app = rw same app;
  args = ap (λ x. x.args.items) same ∙ args;
  groups = ap (λ x. x.groups.items) same ∙ groups;
  globals = rw same globals;
  negates = rw same negates;
}

-- an option of this name, with this rule
pub record IsGiven (name : List ℕ) (rule : Rule) (a : Arg) : Type 0 where
  pub option : IsOption name a
  pub is_rule : rule_of a ≡ rule

-- the command with the nine options
pub record IsStub (start cmd : Command) (zone script origin hosts limit cache max_ttl udp all_types : Arg) : Type 0 where
  pub bare : IsBare start
  pub is_zone : IsGiven (codes "zone") (required (codes "zone")) zone
  pub is_script : IsGiven (codes "script") (required (codes "script")) script
  pub is_origin : IsGiven (codes "origin") (optional (codes "origin")) origin
  pub is_hosts : IsGiven (codes "hosts") (optional (codes "hosts")) hosts
  pub is_limit : IsGiven (codes "limit") limit_rule limit
  pub is_cache : IsGiven (codes "cache") cache_rule cache
  pub is_max_ttl : IsGiven (codes "max-ttl") max_ttl_rule max_ttl
  pub is_udp : IsGiven (codes "udp") (flag (codes "udp")) udp
  pub is_all_types : IsGiven (codes "all-types") (flag (codes "all-types")) all_types
  pub zone_value : TakesValue zone
  pub script_value : TakesValue script
  pub limit_number : TakesNumber (between 512 65535) limit
  pub cache_number : TakesNumber (between 0 4294967295) cache
  pub max_ttl_number : TakesNumber (between 0 4294967295) max_ttl
  pub udp_flag : TakesFlag udp
  pub all_types_flag : TakesFlag all_types
  pub chain : AddsInTurn AddsArg start (zone ∷ script ∷ origin ∷ hosts ∷ limit ∷ cache ∷ max_ttl ∷ udp ∷ all_types ∷ []) cmd

module _ (start cmd : Command) (zone script origin hosts limit cache max_ttl udp all_types : Arg)
    (h : IsStub start cmd zone script origin hosts limit cache max_ttl udp all_types) where
  each_fits : AllByRecursion FitsChain (zone ∷ script ∷ origin ∷ hosts ∷ limit ∷ cache ∷ max_ttl ∷ udp ∷ all_types ∷ [])
  each_fits = (
    option_fits (codes "zone") zone h.is_zone.option refl,
    (
      option_fits (codes "script") script h.is_script.option refl,
      (
        option_fits (codes "origin") origin h.is_origin.option refl,
        (
          option_fits (codes "hosts") hosts h.is_hosts.option refl,
          (
            option_fits (codes "limit") limit h.is_limit.option refl,
            (
              option_fits (codes "cache") cache h.is_cache.option refl,
              (
                option_fits (codes "max-ttl") max_ttl h.is_max_ttl.option refl,
                (
                  option_fits (codes "udp") udp h.is_udp.option refl,
                  (option_fits (codes "all-types") all_types h.is_all_types.option refl, tt),
                ),
              ),
            ),
          ),
        ),
      ),
    ),
  )

  pub app_is : app_of cmd ≡ stub_app
  app_is =
      let rules : map rule_of (zone ∷ script ∷ origin ∷ hosts ∷ limit ∷ cache ∷ max_ttl ∷ udp ∷ all_types ∷ []) ≡ stub_rules =
      rw (h.is_zone.is_rule, h.is_script.is_rule, h.is_origin.is_rule, h.is_hosts.is_rule, h.is_limit.is_rule, h.is_cache.is_rule, h.is_max_ttl.is_rule, h.is_udp.is_rule, h.is_all_types.is_rule) refl in
      app_in_turn (zone ∷ script ∷ origin ∷ hosts ∷ limit ∷ cache ∷ max_ttl ∷ udp ∷ all_types ∷ []) start cmd h.chain each_fits
      ∙ ap (λ (x : App). fold with_rule x (map rule_of (zone ∷ script ∷ origin ∷ hosts ∷ limit ∷ cache ∷ max_ttl ∷ udp ∷ all_types ∷ []))) h.bare.app
      ∙ ap (fold with_rule (new_app (codes "stub"))) rules

  apart : are_distinct (ids_of (zone ∷ script ∷ origin ∷ hosts ∷ limit ∷ cache ∷ max_ttl ∷ udp ∷ all_types ∷ [])) ≡ true
  apart =
      rw (h.is_zone.option.id, h.is_script.option.id, h.is_origin.option.id, h.is_hosts.option.id, h.is_limit.option.id, h.is_cache.option.id, h.is_max_ttl.option.id, h.is_udp.option.id, h.is_all_types.option.id) refl

  made : IsMadeOf (zone ∷ script ∷ origin ∷ hosts ∷ limit ∷ cache ∷ max_ttl ∷ udp ∷ all_types ∷ []) cmd
  made = made_in_turn [] (zone ∷ script ∷ origin ∷ hosts ∷ limit ∷ cache ∷ max_ttl ∷ udp ∷ all_types ∷ []) start cmd
      (record { same = rw h.bare.args tt; plain = (rw h.bare.args (All-nil IsPlainArg), h.bare.groups); globals = h.bare.globals }) h.chain each_fits

  module _ (m : ArgMatches) (parsed : IsParsedFrom cmd m) where
    number_at : (k : ℕ) (a : Arg) (name : List ℕ) (least most : ℕ)
        → (k < 9) → slice_index_or (zone ∷ script ∷ origin ∷ hosts ∷ limit ∷ cache ∷ max_ttl ∷ udp ∷ all_types ∷ []) k a ≡ a → a.id.now ≡ name
        → TakesNumber (between least most) a → HasNumber name least most m
    number_at k a name least most lt at is takes =
        let xs : List Arg = zone ∷ script ∷ origin ∷ hosts ∷ limit ∷ cache ∷ max_ttl ∷ udp ∷ all_types ∷ [] in
        let read = number_text xs cmd m made (all_fit xs each_fits) (distinct_ids xs apart) parsed k a lt (between least most) (rw at takes) in
        let named : (slice_index_or xs k a).id.now ≡ name = ap (λ (x : Arg). x.id.now) at ∙ is in
        record {
          text = read.0;
          is_text = subst (λ (w : List ℕ). one_text (found_of m) w ≡ Some (without_minus read.0)) named read.1;
          is_number = read.2;
        }

    file_at : (k : ℕ) (a : Arg) (name : List ℕ) → k < 9 → slice_index_or (zone ∷ script ∷ origin ∷ hosts ∷ limit ∷ cache ∷ max_ttl ∷ udp ∷ all_types ∷ []) k a ≡ a
        → a.id.now ≡ name → TakesValue a → is_some (first_value (found_of m) name) ≡ true
    file_at k a name lt at is takes =
        let xs : List Arg = zone ∷ script ∷ origin ∷ hosts ∷ limit ∷ cache ∷ max_ttl ∷ udp ∷ all_types ∷ [] in
        let named : (slice_index_or xs k a).id.now ≡ name = ap (λ (x : Arg). x.id.now) at ∙ is in
        subst (λ (w : List ℕ). is_some (first_value (found_of m) w) ≡ true) named
        (required_in_chain start cmd xs k a m h.chain h.bare.args h.bare.groups h.bare.globals h.bare.negates (all_fit xs each_fits) (distinct_ids xs apart) lt (rw at takes) parsed)

    flag_at : (k : ℕ) (a : Arg) (name : List ℕ) → k < 9 → slice_index_or (zone ∷ script ∷ origin ∷ hosts ∷ limit ∷ cache ∷ max_ttl ∷ udp ∷ all_types ∷ []) k a ≡ a
        → a.id.now ≡ name → TakesFlag a → IsFlagText (one_text (found_of m) name)
    flag_at k a name lt at is takes =
        let xs : List Arg = zone ∷ script ∷ origin ∷ hosts ∷ limit ∷ cache ∷ max_ttl ∷ udp ∷ all_types ∷ [] in
        let named : (slice_index_or xs k a).id.now ≡ name = ap (λ (x : Arg). x.id.now) at ∙ is in
        subst (λ (w : List ℕ). IsFlagText (one_text (found_of m) w)) named
        (flag_text xs cmd m made (all_fit xs each_fits) (distinct_ids xs apart) parsed k a lt (rw at takes))

    pub has_all : HasAll m
    has_all = record {
      zone = file_at 0 zone (codes "zone") (omega arith) refl h.is_zone.option.id h.zone_value;
      script = file_at 1 script (codes "script") (omega arith) refl h.is_script.option.id h.script_value;
      limit = number_at 4 limit (codes "limit") 512 65535 (omega arith) refl h.is_limit.option.id h.limit_number;
      cache = number_at 5 cache (codes "cache") 0 4294967295 (omega arith) refl h.is_cache.option.id h.cache_number;
      max_ttl = number_at 6 max_ttl (codes "max-ttl") 0 4294967295 (omega arith) refl h.is_max_ttl.option.id h.max_ttl_number;
      udp = flag_at 7 udp (codes "udp") (omega arith) refl h.is_udp.option.id h.udp_flag;
      all_types = flag_at 8 all_types (codes "all-types") (omega arith) refl h.is_all_types.option.id h.all_types_flag;
    }
