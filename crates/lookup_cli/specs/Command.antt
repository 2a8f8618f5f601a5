-- The program's command, as clap parses its arguments. The texts of its help are not a part of this.
use Rattle.std.specs.Prelude.{◌≡◌, ℕ, List, [], ◌∷◌, Some, IfOk, Result, codes, false, fold, pos, true}
use Rattle.clap.specs.Lexer.{usize_max}
use Rattle.clap.specs.Simple.{on_top}
use Rattle.std.specs.declared.alloc.AllocError.{AllocError}
use Rattle.clap.specs.Words.{App, Rule, app_of, new_app, new_rule, rule_of, with_rule}
use Rattle.clap.specs.declared.builder.arg.Arg.{Arg}
use Rattle.clap.specs.declared.builder.command.Command.{Command}
use Rattle.clap.specs.declared.builder.action.ArgAction.TheVariants.{Append, Set, SetTrue}
use Rattle.clap.specs.declared.builder.value_parser.ValueParser.{ValueParser}
use Rattle.clap.specs.declared.builder.value_parser.ValueParser.TheVariants.{Signed}
use Rattle.clap.specs.declared.builder.value_parser.ValueParser.TheVariants as parsers

-- an option that takes one value
abbrev pub option : List ℕ → Rule
option name = record (new_rule name) { long = Some name; action = Some Set; value_names = 1 }

-- an option that may be given several times
abbrev pub list : List ℕ → Rule
list name = record (option name) { action = Some Append }

-- an option without a value
abbrev pub flag : List ℕ → Rule
flag name = record (new_rule name) { long = Some name; action = Some SetTrue; parser = Some parsers.Bool }

-- an option that also has a short name
abbrev pub with_short : ℕ → Rule → Rule
with_short letter rule = record rule { short = Some letter }

-- the numbers from one to another
abbrev pub between : ℕ → ℕ → ValueParser
between least most = Signed (pos least) (pos most)

-- an option that takes a number
abbrev pub number : List ℕ → ValueParser → Rule
number name parser = record (option name) { parser = Some parser }

-- an argument that requires or excludes another one
abbrev pub bound : Rule → Rule
bound rule = record rule { is_free = false }

-- an argument as clap parses it, of this command alone and of none below it
pub record IsArg (rule : Rule) (arg : Arg) : Type 0 where
  pub rule_is : rule_of arg ≡ rule
  pub is_local : arg.global ≡ false

-- a command as clap parses it, unless memory for it was refused
pub record Makes (app : App) (made : Result Command AllocError) : Type 0 where
  pub app_is : IfOk made (λ command. app_of command ≡ app)

-- the names, of which there may be several
abbrev pub names_rule : Rule
names_rule = bound (record (new_rule (codes "NAME")) {
  action = Some Append;
  range = Some (record { start_inclusive = 1; end_inclusive = usize_max });
  value_names = 1;
})

-- the options of what is looked up
abbrev pub item_rules : List Rule
item_rules = names_rule ∷ bound (with_short 116 (option (codes "type"))) ∷ bound (with_short 120 (flag (codes "reverse"))) ∷ []

-- the options of servers and of what completes names
abbrev pub source_rules : List Rule
source_rules =
    list (codes "server") ∷ option (codes "resolv-conf") ∷ option (codes "hosts") ∷ bound (list (codes "search"))
    ∷ bound (number (codes "ndots") (between 0 15)) ∷ []

-- the options of how servers are asked
abbrev pub time_rules : List Rule
time_rules = bound (option (codes "strategy")) ∷ option (codes "timeout") ∷ number (codes "attempts") (between 1 1000) ∷ []

-- the options of updates
abbrev pub update_rules : List Rule
update_rules = bound (option (codes "update")) ∷ bound (option (codes "zone")) ∷ []

-- the options of the key that signs an update
abbrev pub key_rules : List Rule
key_rules = bound (option (codes "key")) ∷ bound (option (codes "key-name")) ∷ []

-- the options without a value
abbrev pub flag_rules : List Rule
flag_rules =
    flag (codes "tcp") ∷ flag (codes "rotate") ∷ bound (flag (codes "no-edns")) ∷ bound (flag (codes "no-cache"))
    ∷ flag (codes "json") ∷ flag (codes "trace") ∷ []

-- a command with further arguments
abbrev pub with_rules : App → List Rule → App
with_rules app rules = fold with_rule app rules

-- the program without arguments; it has a version
abbrev pub bare_app : App
bare_app = on_top (λ s. record s { has_version = true }) (new_app (codes "lookup"))

-- the program
abbrev pub lookup_app : App
lookup_app =
    with_rules (with_rules (with_rules (with_rules (with_rules (with_rules bare_app item_rules) source_rules) time_rules) update_rules) key_rules) flag_rules
