use Rattle.std.proofs.Common.{◌∙◌, ap, string_bytes}
use Rattle.lookup_cli.proofs.arguments.item_of.Goals as goal

pub returns-clause-item : goal.returns-clause-item
returns-clause-item c = record {
  is_name = c.in_ok-check_name.ensures.passes;
  plain = c.new.result;
  is_plain = record {
    name_is = ap string_bytes c.new.ensures.name ∙ c.in_ok-name.ensures.ok;
    type_text_is = c.new.ensures.type_text;
    question_is = c.new.ensures.question;
  };
  is_reversed = c.in_ok-reversed_if.ensures;
}
