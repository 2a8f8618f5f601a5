use Rattle.std.proofs.Common.{◌≡◌, ◌∙◌, ap, sym, codes, map, option_map, string_bytes, Some, true}
use Rattle.clap.specs.Words.{app_of, takes}
use Rattle.stub_play.proofs.WordsLaws.{bad_passes, fault_is, flag_is, no_fault, number_is, only_memory, origin_fault_passes, too_much_passes, value_in, value_is}
use Rattle.stub_play.specs.Words.{origin_of, stub_app, types_of}
use Rattle.stub_play.proofs.words.read_words.Goals as goal

pub returns-in_err-matches-clause-taken : goal.returns-in_err-matches-clause-taken
returns-in_err-matches-clause-taken c =
    only_memory (app_of c.in_ok-command.command) (map (λ word. word.now) c.args.words.now) c.from_residual-in_err-matches.result c.in_err-matches.field-0.0
    c.in_ok-command.ensures.app c.in_err-matches.ensures.passes c.from_residual-in_err-matches.ensures.1

pub returns-in_err-matches-clause-fault : goal.returns-in_err-matches-clause-fault
returns-in_err-matches-clause-fault c =
    fault_is (app_of c.in_ok-command.command) (map (λ word. word.now) c.args.words.now) c.from_residual-in_err-matches.result c.in_err-matches.field-0.0
    c.in_ok-command.ensures.app c.in_err-matches.ensures.kinds c.from_residual-in_err-matches.ensures.1

pub number_in-cache-requires : goal.number_in-cache-requires
number_in-cache-requires c = (c.in_ok-command.ensures.all c.in_ok-matches.matches c.in_ok-matches.ensures.parsed).cache

pub number_in-max_ttl-requires : goal.number_in-max_ttl-requires
number_in-max_ttl-requires c = (c.in_ok-command.ensures.all c.in_ok-matches.matches c.in_ok-matches.ensures.parsed).max_ttl

pub flag_in-udp-requires : goal.flag_in-udp-requires
flag_in-udp-requires c = (c.in_ok-command.ensures.all c.in_ok-matches.matches c.in_ok-matches.ensures.parsed).udp

pub flag_in-all_types-requires : goal.flag_in-all_types-requires
flag_in-all_types-requires c = (c.in_ok-command.ensures.all c.in_ok-matches.matches c.in_ok-matches.ensures.parsed).all_types

pub returns-in_err-check_limit-clause-fault : goal.returns-in_err-check_limit-clause-fault
returns-in_err-check_limit-clause-fault c =
    too_much_passes (app_of c.in_ok-command.command) (map (λ word. word.now) c.args.words.now) c.in_ok-matches.matches c.limit_in-limit.result c.flag_in-udp.result
    c.from_residual-in_err-check_limit.result c.in_err-check_limit.field-0.0 c.in_ok-command.ensures.app c.in_ok-matches.ensures.matches c.in_ok-matches.ensures.kinds
    c.flag_in-udp.ensures c.limit_in-limit.ensures.number c.in_err-check_limit.ensures.fault c.from_residual-in_err-check_limit.ensures.1

pub returns-in_err-check_limit-clause-taken : goal.returns-in_err-check_limit-clause-taken
returns-in_err-check_limit-clause-taken c =
    bad_passes (takes stub_app (map (λ word. word.now) c.args.words.now) ≡ true) c.from_residual-in_err-check_limit.result c.in_err-check_limit.field-0.0
    c.in_err-check_limit.ensures.fault.0 c.from_residual-in_err-check_limit.ensures.1

pub returns-clause-zone : goal.returns-clause-zone
returns-clause-zone c =
    value_is (app_of c.in_ok-command.command) (map (λ word. word.now) c.args.words.now) c.in_ok-matches.matches (codes "zone") (Some (string_bytes c.in_ok-value_in.field-0))
    c.in_ok-command.ensures.app c.in_ok-matches.ensures.matches c.in_ok-value_in.ensures

pub returns-clause-script : goal.returns-clause-script
returns-clause-script c =
    value_is (app_of c.in_ok-command.command) (map (λ word. word.now) c.args.words.now) c.in_ok-matches.matches (codes "script") (Some (string_bytes c.in_ok-value_in-2.field-0))
    c.in_ok-command.ensures.app c.in_ok-matches.ensures.matches c.in_ok-value_in-2.ensures

pub returns-clause-hosts : goal.returns-clause-hosts
returns-clause-hosts c =
    value_is (app_of c.in_ok-command.command) (map (λ word. word.now) c.args.words.now) c.in_ok-matches.matches (codes "hosts") (option_map string_bytes c.in_ok-hosts_in.field-0)
    c.in_ok-command.ensures.app c.in_ok-matches.ensures.matches c.in_ok-hosts_in.ensures

pub returns-clause-limit : goal.returns-clause-limit
returns-clause-limit c =
    number_is (app_of c.in_ok-command.command) (map (λ word. word.now) c.args.words.now) c.in_ok-matches.matches (codes "limit") c.limit_in-limit.result
    c.in_ok-command.ensures.app c.in_ok-matches.ensures.matches c.limit_in-limit.ensures.number

pub returns-clause-cache : goal.returns-clause-cache
returns-clause-cache c =
    number_is (app_of c.in_ok-command.command) (map (λ word. word.now) c.args.words.now) c.in_ok-matches.matches (codes "cache") c.number_in-cache.result
    c.in_ok-command.ensures.app c.in_ok-matches.ensures.matches c.number_in-cache.ensures

pub returns-clause-max_ttl : goal.returns-clause-max_ttl
returns-clause-max_ttl c =
    number_is (app_of c.in_ok-command.command) (map (λ word. word.now) c.args.words.now) c.in_ok-matches.matches (codes "max-ttl") c.number_in-max_ttl.result
    c.in_ok-command.ensures.app c.in_ok-matches.ensures.matches c.number_in-max_ttl.ensures

pub returns-clause-udp : goal.returns-clause-udp
returns-clause-udp c =
    flag_is (app_of c.in_ok-command.command) (map (λ word. word.now) c.args.words.now) c.in_ok-matches.matches (codes "udp") c.flag_in-udp.result
    c.in_ok-command.ensures.app c.in_ok-matches.ensures.matches c.flag_in-udp.ensures

pub returns-clause-types : goal.returns-clause-types
returns-clause-types c =
    ap types_of (flag_is (app_of c.in_ok-command.command) (map (λ word. word.now) c.args.words.now) c.in_ok-matches.matches (codes "all-types") c.flag_in-all_types.result
    c.in_ok-command.ensures.app c.in_ok-matches.ensures.matches c.flag_in-all_types.ensures) ∙ sym c.types_of-types.ensures

pub returns-clause-only : goal.returns-clause-only
returns-clause-only c =
    no_fault (app_of c.in_ok-command.command) (map (λ word. word.now) c.args.words.now) c.in_ok-command.ensures.app c.in_ok-matches.ensures.kinds

pub returns-clause-origin : goal.returns-clause-origin
returns-clause-origin c =
    ap origin_of (value_in (app_of c.in_ok-command.command) (map (λ word. word.now) c.args.words.now) c.in_ok-matches.matches (codes "origin")
    c.in_ok-command.ensures.app c.in_ok-matches.ensures.matches) ∙ c.in_ok-origin_in.ensures.ok

pub returns-in_err-origin_in-clause-fault : goal.returns-in_err-origin_in-clause-fault
returns-in_err-origin_in-clause-fault c =
    origin_fault_passes (app_of c.in_ok-command.command) (map (λ word. word.now) c.args.words.now) c.in_ok-matches.matches c.from_residual-in_err-origin_in.result c.in_err-origin_in.field-0.0
    c.in_ok-command.ensures.app c.in_ok-matches.ensures.matches c.in_ok-matches.ensures.kinds c.in_err-origin_in.ensures.fault c.from_residual-in_err-origin_in.ensures.1
