use Rattle.std.proofs.Common.{◌≡◌, ◌∙◌, true, false, sym, ap}
use Rattle.nameserver_cli.specs.replay.Request.{is_truncated}
use Rattle.nameserver_cli.proofs.RequestLaws.{cut_encoded, whole_encoded}
use Rattle.nameserver_cli.proofs.replay.request.encoded.Goals as goal

pub returns-in-Ok-clause-refused : goal.returns-in-Ok-clause-refused
returns-in-Ok-clause-refused c =
    let set : is_truncated c.in-Ok.bytes.items ≡ true =
    ap is_truncated (sym c.as_slice.ensures.value) ∙ (sym c.is_truncated.ensures ∙ c.if-is_truncated.true) in
    cut_encoded c.args.message.now c.in-Ok.bytes.items c.in-Ok.ensures.encodes set

pub returns-in-Ok-2-clause-whole : goal.returns-in-Ok-2-clause-whole
returns-in-Ok-2-clause-whole c =
    let clear : is_truncated c.in-Ok.bytes.items ≡ false =
    ap is_truncated (sym c.as_slice.ensures.value) ∙ (sym c.is_truncated.ensures ∙ c.if-is_truncated.false) in
    whole_encoded c.args.message.now c.in-Ok.bytes.items c.in-Ok.ensures.encodes clear

pub returns-in-Ok-2-clause-within : goal.returns-in-Ok-2-clause-within
returns-in-Ok-2-clause-within c = c.in-Ok.ensures.encodes.within
