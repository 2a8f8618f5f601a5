use Rattle.std.proofs.Common.{◌∙◌, sym, ◌<◌, arith}
use Rattle.dns_zone_file.proofs.PathLaws.{folder-back, folder-ends}
use Rattle.dns_zone_file.proofs.includes.path.folder_len.Goals as goal

pub loop-len-preserved : goal.loop-len-preserved
loop-len-preserved c =
    let some : 0 < c.loop-len.len = search arith in
    (omega arith, folder-back c.args.path.now c.loop-len.len some c.loop-len.invariant.0 c.if-path-len-ne47.true ∙ c.loop-len.invariant.1)

pub returns-else-path-len-ne47-clause-folder : goal.returns-else-path-len-ne47-clause-folder
returns-else-path-len-ne47-clause-folder c =
    let some : 0 < c.loop-len.len = search arith in
    sym (folder-ends c.args.path.now c.loop-len.len some c.loop-len.invariant.0 c.if-path-len-ne47.false) ∙ c.loop-len.invariant.1
