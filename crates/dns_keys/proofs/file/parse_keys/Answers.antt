use Rattle.std.proofs.Common.{Ok, ap, ◌∙◌}
use Rattle.std.specs.Prelude.{option_map}
use Rattle.std.proofs.lemmas.Result.{err_from_is_err_and}
use Rattle.dns_keys.specs.File.{next_value}
use Rattle.dns_keys.specs.File.FaultFrom.{here, later}
use Rattle.dns_keys.proofs.FileLaws.{completes-end, completes-more}
use Rattle.dns_keys.proofs.file.parse_keys.Goals as goal

pub returns-in_err-next-clause-refused : goal.returns-in_err-next-clause-refused
returns-in_err-next-clause-refused c =
    let p = err_from_is_err_and c.from_residual.result c.from_residual.ensures.1 in
    rw (p.1, p.2) (λ not_memory. c.loop-keys.invariant.refuses c.in_err-next.field-0.0 (here (c.in_err-next.ensures.refused not_memory)))

pub loop-keys-preserved : goal.loop-keys-preserved
loop-keys-preserved c =
    let found = c.in_ok-next.ensures.ok ∙ ap (λ o. Ok (option_map next_value o)) c.in-Some.is in
    record {
      completes = completes-more c.args.text.now c.loop-keys.rest.now c.in-Some.next c.loop-keys.keys.items c.push.new.self.items found c.in_ok-push.ensures.items c.loop-keys.invariant.completes;
      refuses = λ error fault. c.loop-keys.invariant.refuses error (later {next = next_value c.in-Some.next} found fault);
    }

pub returns-clause-ok : goal.returns-clause-ok
returns-clause-ok c =
    let ended = c.in_ok-next.ensures.ok ∙ ap (λ o. Ok (option_map next_value o)) c.in_default.is in
    completes-end c.args.text.now c.loop-keys.rest.now c.loop-keys.keys.items ended c.loop-keys.invariant.completes
