use Rattle.std.proofs.Common.{rules, ◌∙◌, sym}
use Rattle.stub_link.proofs.Requests.{only-item}
use Rattle.stub_link.proofs.wire_handle.request.question_of.Goals as goal
use Rattle.stub_link.proofs.wire_handle.request.question_of.Goals.{then-eq, else-eq}

pub returns-then-fits_uncompressed-clause-some : goal.returns-then-fits_uncompressed-clause-some
returns-then-fits_uncompressed-clause-some c = record {
  whole = record { sound = search rules; fits = search rules };
  kind = elim c.if-eq.branch [ then-eq w ↦ search rules | else-eq w ↦ cc ];
  op_code = elim c.if-eq.branch [ then-eq w ↦ search rules | else-eq w ↦ cc ];
  only = sym c.as_slice.ensures ∙ only-item c.as_slice.result.now c.query-item.result c.in-len1.len_at_least c.in-len1.len_below c.query-item.is;
}
