use Rattle.std.proofs.Common.{Ok, Err, string_bytes, ◌≢◌}
use Rattle.std.proofs.lemmas.Result.{err_from_is_err_and}
use Rattle.stub_play.specs.Plays.{IsScript, ScriptIs, numbered}
use Rattle.stub_script.specs.ScriptText.{IsScriptOf, contents_of}
use Rattle.stub_script.specs.declared.script_text.ScriptFault.TheVariants.{Memory}
use Rattle.stub_play.proofs.PlayLaws.{hosts_faults, listed_faults, script_faults, script_read}
use Rattle.stub_play.proofs.plays.load.Goals as goal

pub returns-in_err-script-clause-fault : goal.returns-in_err-script-clause-fault
returns-in_err-script-clause-fault c =
    let left = err_from_is_err_and c.from_residual-in_err-script.result c.from_residual-in_err-script.ensures.1 in
    let fault = c.in_err-script.field-0.0 in
    let zone = c.in_ok-zone.zone in
    let refused : fault ≢ Memory → IsScriptOf c.args.input.now.types zone.origin (string_bytes c.args.input.now.script) (Err fault) =
    λ other. script_read c.args.input.now zone c.as_str.result.now (Err fault) c.origin.ensures.origin c.as_str.ensures.value
    (c.in_err-script.ensures.refused other) in
    rw (left.1, left.2) (script_faults c.args.input.now zone fault c.in_ok-zone.ensures.ok refused)

pub returns-in_err-hosts-clause-fault : goal.returns-in_err-hosts-clause-fault
returns-in_err-hosts-clause-fault c =
    let left = err_from_is_err_and c.from_residual-in_err-hosts.result c.from_residual-in_err-hosts.ensures.1 in
    let zone = c.in_ok-zone.zone in
    let script = numbered c.in_ok-script.script in
    let read : ScriptIs c.args.input.now zone script =
    script_read c.args.input.now zone c.as_str.result.now (Ok (contents_of script)) c.origin.ensures.origin c.as_str.ensures.value
    c.in_ok-script.ensures.ok in
    let files : IsScript c.args.input.now =
    (zone, script, c.in_ok-zone.ensures.ok, read, c.in_ok-refuse_link_words.ensures.usable) in
    rw (left.1, left.2) (hosts_faults c.args.input.now c.as_slice.result.now c.in_err-hosts.field-0.0 files
    c.as_slice.ensures.value c.in_err-hosts.ensures.fault)

pub returns-in_err-refuse_link_words-clause-fault : goal.returns-in_err-refuse_link_words-clause-fault
returns-in_err-refuse_link_words-clause-fault c =
    let left = err_from_is_err_and c.from_residual-in_err-refuse_link_words.result c.from_residual-in_err-refuse_link_words.ensures.1 in
    let zone = c.in_ok-zone.zone in
    let script = numbered c.in_ok-script.script in
    let read : ScriptIs c.args.input.now zone script =
    script_read c.args.input.now zone c.as_str.result.now (Ok (contents_of script)) c.origin.ensures.origin c.as_str.ensures.value
    c.in_ok-script.ensures.ok in
    rw (left.1, left.2) (listed_faults c.args.input.now zone script c.in_err-refuse_link_words.field-0.0 c.in_ok-zone.ensures.ok read
    c.in_err-refuse_link_words.ensures.fault)
