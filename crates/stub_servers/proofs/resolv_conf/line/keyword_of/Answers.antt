use Rattle.std.proofs.Common.{ap, sym, ◌∙◌}
use Rattle.stub_servers.specs.resolv_conf.Line.{keyword_in}
use Rattle.stub_servers.proofs.LineLaws.{keyword-of_text, keyword-of_bytes}
use Rattle.stub_servers.proofs.resolv_conf.line.keyword_of.Goals as goal

pub returns-in-Ok : goal.returns-in-Ok
returns-in-Ok c =
    c.parse_keyword.ensures ∙ (ap keyword_in c.before_blank.ensures ∙ sym (keyword-of_text c.args.line.now c.in-Ok.ensures.cases.1))

pub returns-in-Err : goal.returns-in-Err
returns-in-Err c = sym (keyword-of_bytes c.args.line.now c.in-Err.ensures.cases.0)
