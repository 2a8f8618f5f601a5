use Rattle.std.proofs.Common.{refl, ap}
use Rattle.std.proofs.lemmas.Result.{IfOk-weaker}
use Rattle.clap.specs.declared.builder.command.Command.{Command}
use Rattle.clap.specs.Words.{AddsArg}
use Rattle.stub_play.proofs.WordsLaws.{IsStub, app_is, bare_with_about, has_all}
use Rattle.stub_play.proofs.words.stub_command.Goals as goal

-- the command that the last option makes
abbrev IsLast : goal.After-arg-9 → Command → Type 0
IsLast c cmd = AddsArg c.in_ok-arg-8.field-0 c.flag-2.result cmd

is_stub : (c : goal.After-arg-9) (cmd : Command) → IsLast c cmd
    → IsStub c.about.result cmd c.required_file.result c.required_file-2.result c.value_option.result c.value_option-2.result c.limit_option.result c.cache_option.result
    c.max_ttl_option.result c.flag.result c.flag-2.result
is_stub c cmd added =
    let bare = bare_with_about c.new.result c.about.result _ c.about.ensures c.new.ensures.app c.new.ensures.empty.0 c.new.ensures.empty.1 c.new.ensures.local c.new.ensures.negates in
    record {
      bare = bare;
      is_zone = record { option = record { id = ap (λ x. x.now) c.required_file.ensures.id; plain = c.required_file.ensures.plain }; is_rule = c.required_file.ensures.rule };
      is_script = record { option = record { id = ap (λ x. x.now) c.required_file-2.ensures.id; plain = c.required_file-2.ensures.plain }; is_rule = c.required_file-2.ensures.rule };
      is_origin = record { option = record { id = ap (λ x. x.now) c.value_option.ensures.id; plain = c.value_option.ensures.plain }; is_rule = c.value_option.ensures.rule };
      is_hosts = record { option = record { id = ap (λ x. x.now) c.value_option-2.ensures.id; plain = c.value_option-2.ensures.plain }; is_rule = c.value_option-2.ensures.rule };
      is_limit = record { option = record { id = c.limit_option.ensures.id; plain = c.limit_option.ensures.plain }; is_rule = c.limit_option.ensures.rule };
      is_cache = record { option = record { id = c.cache_option.ensures.id; plain = c.cache_option.ensures.plain }; is_rule = c.cache_option.ensures.rule };
      is_max_ttl = record { option = record { id = c.max_ttl_option.ensures.id; plain = c.max_ttl_option.ensures.plain }; is_rule = c.max_ttl_option.ensures.rule };
      is_udp = record { option = record { id = ap (λ x. x.now) c.flag.ensures.id; plain = c.flag.ensures.plain }; is_rule = c.flag.ensures.rule };
      is_all_types = record { option = record { id = ap (λ x. x.now) c.flag-2.ensures.id; plain = c.flag-2.ensures.plain }; is_rule = c.flag-2.ensures.rule };
      zone_value = c.required_file.ensures.takes;
      script_value = c.required_file-2.ensures.takes;
      limit_number = c.limit_option.ensures.number;
      cache_number = c.cache_option.ensures.number;
      max_ttl_number = c.max_ttl_option.ensures.number;
      udp_flag = c.flag.ensures.parser;
      all_types_flag = c.flag-2.ensures.parser;
      chain = (
        c.in_ok-arg.field-0,
        c.in_ok-arg.ensures,
        (
          c.in_ok-arg-2.field-0,
          c.in_ok-arg-2.ensures,
          (
            c.in_ok-arg-3.field-0,
            c.in_ok-arg-3.ensures,
            (
              c.in_ok-arg-4.field-0,
              c.in_ok-arg-4.ensures,
              (
                c.in_ok-arg-5.field-0,
                c.in_ok-arg-5.ensures,
                (
                  c.in_ok-arg-6.field-0,
                  c.in_ok-arg-6.ensures,
                  (
                    c.in_ok-arg-7.field-0,
                    c.in_ok-arg-7.ensures,
                    (
                      c.in_ok-arg-8.field-0,
                      c.in_ok-arg-8.ensures,
                      (cmd, added, refl),
                    ),
                  ),
                ),
              ),
            ),
          ),
        ),
      );
    }

pub returns-clause-app : goal.returns-clause-app
returns-clause-app c =
    IfOk-weaker c.arg-9.result _ _ (λ cmd added. app_is c.about.result cmd _ _ _ _ _ _ _ _ _ (is_stub c cmd added)) c.arg-9.ensures

pub returns-clause-all : goal.returns-clause-all
returns-clause-all c =
    IfOk-weaker c.arg-9.result _ _ (λ cmd added m parsed. has_all c.about.result cmd _ _ _ _ _ _ _ _ _ (is_stub c cmd added) m parsed) c.arg-9.ensures
