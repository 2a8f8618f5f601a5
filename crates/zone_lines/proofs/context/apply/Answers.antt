use Rattle.std.proofs.Common.{◌≡◌, map, refl, sym}
use Rattle.std.proofs.lemmas.Result.{IfErr-weaker, IfOk-weaker, err_from_is_err_and}
use Rattle.dns_text.specs.Token.{lexeme}
use Rattle.dns_zone_file.specs.Entry.{entry_of, record_entry}
use Rattle.zone_lines.specs.Reading.{RefusesAlone, for_nothing, for_origin, for_ttl}
use Rattle.zone_lines.specs.declared.context.Effect.{Effect}
use Rattle.zone_lines.specs.internal.Context.{EffectIs}
use Rattle.zone_lines.proofs.ContextLaws.{Keeps, KeepsIfRecord, origin_fault, ttl_fault, include_fault, entry_record_fault}
use Rattle.zone_lines.proofs.context.apply.Goals as goal

pub returns-in_err-origin-in-Origin-clause-refused : goal.returns-in_err-origin-in-Origin-clause-refused
returns-in_err-origin-in-Origin-clause-refused c =
    let p = err_from_is_err_and c.from_residual.result c.from_residual.ensures.1 in
    rw (p.1, p.2)
    (origin_fault c.args.context.now _ (map lexeme c.args.tokens.now) (map lexeme c.in-Origin.arguments.now) c.in_err-origin-in-Origin.field-0.0
    c.in-Origin.ensures refl c.in_err-origin-in-Origin.ensures.refused)

pub returns-in_err-ttl-in-Ttl-clause-refused : goal.returns-in_err-ttl-in-Ttl-clause-refused
returns-in_err-ttl-in-Ttl-clause-refused c =
    let p = err_from_is_err_and c.from_residual-in_err-ttl-in-Ttl.result c.from_residual-in_err-ttl-in-Ttl.ensures.1 in
    rw (p.1, p.2) (
      ttl_fault c.args.context.now (map lexeme c.args.tokens.now) (map lexeme c.in-Ttl.arguments.now) c.in_err-ttl-in-Ttl.field-0.0 c.in-Ttl.ensures
          (sym c.in_err-ttl-in-Ttl.ensures),
      refl,
    )

pub returns-in_err-inclusion-in-Include-clause-refused : goal.returns-in_err-inclusion-in-Include-clause-refused
returns-in_err-inclusion-in-Include-clause-refused c =
    let p = err_from_is_err_and c.from_residual-in_err-inclusion-in-Include.result c.from_residual-in_err-inclusion-in-Include.ensures.1 in
    rw (p.1, p.2)
    (include_fault c.args.context.now _ (map lexeme c.args.tokens.now) (map lexeme c.in-Include.arguments.now) c.in_err-inclusion-in-Include.field-0.0
    c.in-Include.ensures refl c.in_err-inclusion-in-Include.ensures.refused)

pub returns-in-Nothing-clause-ok : goal.returns-in-Nothing-clause-ok
returns-in-Nothing-clause-ok c = for_nothing (sym c.in-Nothing.ensures)

pub returns-in_ok-origin-in-Origin-clause-ok : goal.returns-in_ok-origin-in-Origin-clause-ok
returns-in_ok-origin-in-Origin-clause-ok c = for_origin (sym c.in-Origin.ensures) c.in_ok-origin-in-Origin.ensures.ok

pub returns-in_ok-ttl-in-Ttl-clause-ok : goal.returns-in_ok-ttl-in-Ttl-clause-ok
returns-in_ok-ttl-in-Ttl-clause-ok c = for_ttl (sym c.in-Ttl.ensures) (sym c.in_ok-ttl-in-Ttl.ensures)

pub returns-in_ok-inclusion-in-Include-clause-ok : goal.returns-in_ok-inclusion-in-Include-clause-ok
returns-in_ok-inclusion-in-Include-clause-ok c = (
  record {
    arguments = map lexeme c.in-Include.arguments.now;
    entry = sym c.in-Include.ensures;
    read = c.in_ok-inclusion-in-Include.ensures.ok;
  },
  refl,
)

pub returns-in-Record-clause-ok : goal.returns-in-Record-clause-ok
returns-in-Record-clause-ok c =
    let before = c.args.context.now in
    let tokens = map lexeme c.args.tokens.now in
    IfOk-weaker c.add_records.result (λ (effect : Effect). entry_of tokens ≡ record_entry → EffectIs before c.args.at tokens effect c.add_records.new.context)
    (λ (effect : Effect). EffectIs before c.args.at tokens effect c.add_records.new.context)
    (λ effect holds. holds (sym c.in-Record.ensures)) c.add_records.ensures.ok

pub returns-in-Record-clause-refused : goal.returns-in-Record-clause-refused
returns-in-Record-clause-refused c =
    let before = c.args.context.now in
    let tokens = map lexeme c.args.tokens.now in
    IfErr-weaker c.add_records.result (KeepsIfRecord before tokens c.add_records.new.context) (Keeps (RefusesAlone before tokens) before c.add_records.new.context)
    (λ e. entry_record_fault before c.add_records.new.context tokens e c.in-Record.ensures) c.add_records.ensures.refused
