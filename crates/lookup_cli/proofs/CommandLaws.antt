-- Arguments with rules on others, and commands with further arguments.
use Rattle.std.proofs.Common.{arith, length, length-append, ◌<◌, ◌≡◌, ◌∙◌, ◌&&◌, ◌++◌, ap, refl, Bool, true, false, not, ℕ, List, [], ◌∷◌, Bor, IfOk, Option, Some, Result, Ok, subst}
use Rattle.std.proofs.lemmas.Grind.{common_steps}
use Rattle.std.proofs.lemmas.Result.{IfOk-weaker}
use Rattle.std.specs.declared.alloc.AllocError.{AllocError}
use Rattle.clap.specs.Adds.{AddsConflicts, AddsRequiredUnless, AddsRequirements}
use Rattle.clap.specs.Walk.{is_empty, is_free_arg}
use Rattle.clap.specs.Words.{AddsArg, App, Rule, app_of, rule_of, with_rule}
use Rattle.clap.specs.declared.builder.arg.Arg.{Arg}
use Rattle.clap.specs.declared.builder.arg.ArgPredicate.{ArgPredicate}
use Rattle.clap.specs.declared.builder.command.Command.{Command}
use Rattle.clap.specs.declared.builder.value_parser.ValueParser.{ValueParser}
use Rattle.lookup_cli.specs.Command.{IsArg, Makes, bound, number, option, with_short}

-- a list that something was added to is not empty
added_to : {X : Type 0} (xs ys : List X) (x : X) → ys ≡ xs ++ x ∷ [] → is_empty ys ≡ false
added_to xs ys x e =
    let long : 0 < length ys = rw (e, length-append xs (x ∷ [])) (omega arith) in
    grind (arith, common_steps)

and_false : (a : Bool) → (a && false) ≡ false
and_false true = refl
and_false false = refl

-- an argument like another one, but for a rule on others
bound_arg : (rule : Rule) (a b same : Arg) → IsArg rule a → b ≡ same → rule_of same ≡ record (rule_of a) { is_free = is_free_arg same }
    → same.global ≡ a.global → is_free_arg same ≡ false → IsArg (bound rule) b
bound_arg rule a b same h e like local free = record {
  rule_is = ap rule_of e ∙ like ∙ ap (λ (f : Bool). record (rule_of a) { is_free = f }) free ∙ ap bound h.rule_is;
  is_local = ap (λ (x : Arg). x.global) e ∙ local ∙ h.is_local;
}

-- an argument that excludes another one
pub excludes : (rule : Rule) (a b : Arg) (id : Bor (List ℕ)) → IsArg rule a → AddsConflicts a b (id ∷ []) → IsArg (bound rule) b
excludes rule a b id h adds =
    bound_arg rule a b (record a { conflicts = b.conflicts }) h adds.0 refl refl
    (rw (added_to a.conflicts.items b.conflicts.items id adds.1) (and_false (not a.exclusive)))

-- an argument that requires another one
pub requires : (rule : Rule) (a b : Arg) (need : ArgPredicate × Bor (List ℕ)) → IsArg rule a → AddsRequirements a b (need ∷ []) → IsArg (bound rule) b
requires rule a b need h adds =
    bound_arg rule a b (record a { needs = b.needs }) h adds.0 refl refl
    (rw (added_to a.needs.items b.needs.items need adds.1, and_false (is_empty a.conflicts.items)) (and_false (not a.exclusive)))

-- an argument that is required unless another one is there
pub required_unless : (rule : Rule) (a b : Arg) (id : Bor (List ℕ)) → IsArg rule a → AddsRequiredUnless a b (id ∷ []) → IsArg (bound rule) b
required_unless rule a b id h adds =
    bound_arg rule a b (record a { r_unless = b.r_unless }) h adds.0 refl refl
    (rw (
      added_to a.r_unless.items b.r_unless.items id adds.1,
      and_false (is_empty a.r_ifs_all.items),
      and_false (is_empty a.r_ifs.items),
      and_false (is_empty a.needs.items),
      and_false (is_empty a.conflicts.items),
    ) (and_false (not a.exclusive)))

-- an option with a short name
pub shortened : (rule : Rule) (a b : Arg) (letter : ℕ) → IsArg rule a → b ≡ record a { short = Some letter } → IsArg (with_short letter rule) b
shortened rule a b letter h e = record {
  rule_is = ap rule_of e ∙ ap (with_short letter) h.rule_is;
  is_local = ap (λ (x : Arg). x.global) e ∙ h.is_local;
}

-- an option that takes a number
pub numbered : (name : List ℕ) (a b : Arg) (parser : ValueParser) → IsArg (option name) a → b ≡ record a { value_parser = b.value_parser }
    → b.value_parser ≡ Some parser → IsArg (number name parser) b
numbered name a b parser h e is = record {
  rule_is = ap rule_of e ∙ ap (λ (p : Option ValueParser). record (rule_of a) { parser = p }) is ∙ ap (λ (r : Rule). record r { parser = Some parser }) h.rule_is;
  is_local = ap (λ (x : Arg). x.global) e ∙ h.is_local;
}

-- a command with one more argument
pub with_arg : {rule : Rule} {old new : Command} {a : Arg} {app : App} → AddsArg old a new → IsArg rule a → app_of old ≡ app
    → app_of new ≡ with_rule app rule
with_arg {rule} {old} {new} {a} {app} adds h is =
    adds.shape h.is_local ∙ ap (λ (r : Rule). with_rule (app_of old) r) h.rule_is ∙ ap (λ (x : App). with_rule x rule) is

-- a command with one more argument, if there was memory for both
pub makes_with_arg : (command made : Result Command AllocError) (arg : Result Arg AllocError) (old : Command) (added : Arg) (app : App) (rule : Rule)
    → command ≡ Ok old → arg ≡ Ok added → IfOk made (AddsArg old added) → Makes app command → IfOk arg (IsArg rule)
    → Makes (with_rule app rule) made
makes_with_arg command made arg old added app rule is_old is_added adds is_app is_rule =
    let before : app_of old ≡ app = subst (λ (r : Result Command AllocError). IfOk r (λ c. app_of c ≡ app)) is_old is_app.app_is in
    let given : IsArg rule added = subst (λ (r : Result Arg AllocError). IfOk r (IsArg rule)) is_added is_rule in
    record { app_is = IfOk-weaker made _ _ (λ new h. with_arg h given before) adds }
