use Rattle.std.proofs.Common.{◌≡◌, map, Err}
use Rattle.std.proofs.lemmas.Result.{IfErr-weaker, on_ok_weaker, err_from_is_err_and}
use Rattle.dns_text.specs.Token.{lexeme}
use Rattle.dns_zone_file.specs.Context.{RefusesRecord}
use Rattle.dns_zone_file.specs.Entry.{entry_of, record_entry}
use Rattle.dns_zone_file.specs.Generate.{Generates}
use Rattle.dns_zone_file.specs.Parsing.{RefusesEntry}
use Rattle.dns_zone_file.specs.declared.error.EntryFault.{EntryFault}
use Rattle.dns_zone_file.specs.internal.Error.{IsFault}
use Rattle.dns_zone_file.specs.internal.Generate.{generation_view}
use Rattle.dns_zone_file.proofs.GenerateLaws.{directive_fault, generated_fault, generated, plain_fault, plain}
use Rattle.dns_zone_file.proofs.context.Context.add_records.Goals as goal

pub returns-in_err-generation-in-Some-clause-refused : goal.returns-in_err-generation-in-Some-clause-refused
returns-in_err-generation-in-Some-clause-refused c =
    let p = err_from_is_err_and c.from_residual.result c.from_residual.ensures.1 in
    rw (p.1, p.2) (directive_fault c.args.self.now (map lexeme c.args.tokens.now) (map lexeme c.in-Some.arguments.now) c.in-Some.ensures
    c.in_err-generation-in-Some.field-0.0 c.in_err-generation-in-Some.ensures.refused)

pub returns-in_ok-generation-in-Some-clause-ok : goal.returns-in_ok-generation-in-Some-clause-ok
returns-in_ok-generation-in-Some-clause-ok c =
    on_ok_weaker c.add_generated.result
    (generated c.args.self.now (map lexeme c.args.tokens.now) (map lexeme c.in-Some.arguments.now) c.in-Some.ensures
    (generation_view c.in_ok-generation-in-Some.generation) c.add_generated.new.self c.in_ok-generation-in-Some.ensures.ok)
    c.add_generated.ensures.ok

pub returns-in_ok-generation-in-Some-clause-refused : goal.returns-in_ok-generation-in-Some-clause-refused
returns-in_ok-generation-in-Some-clause-refused c =
    let before = c.args.self.now in
    let tokens = map lexeme c.args.tokens.now in
    let g = generation_view c.in_ok-generation-in-Some.generation in
    IfErr-weaker c.add_generated.result (IsFault (λ (refusal : EntryFault). Generates g before (Err refusal)))
    (IsFault (λ (refusal : EntryFault). entry_of tokens ≡ record_entry → RefusesEntry before tokens refusal))
    (λ e. generated_fault before tokens (map lexeme c.in-Some.arguments.now) c.in-Some.ensures g e c.in_ok-generation-in-Some.ensures.ok)
    c.add_generated.ensures.refused

pub returns-in-None-clause-ok : goal.returns-in-None-clause-ok
returns-in-None-clause-ok c =
    on_ok_weaker c.add_record.result (plain c.args.self.now (map lexeme c.args.tokens.now) c.in-None.ensures c.add_record.new.self) c.add_record.ensures.ok

pub returns-in-None-clause-refused : goal.returns-in-None-clause-refused
returns-in-None-clause-refused c =
    let before = c.args.self.now in
    let tokens = map lexeme c.args.tokens.now in
    IfErr-weaker c.add_record.result (IsFault (RefusesRecord before tokens))
    (IsFault (λ (refusal : EntryFault). entry_of tokens ≡ record_entry → RefusesEntry before tokens refusal))
    (plain_fault before tokens c.in-None.ensures) c.add_record.ensures.refused
