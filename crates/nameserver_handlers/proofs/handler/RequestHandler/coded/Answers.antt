use Rattle.std.proofs.Common.{◌∙◌, ap, get_or, refl}
use Rattle.nameserver_handlers.proofs.RuleLaws.{only_item}
use Rattle.nameserver_handlers.proofs.handler.RequestHandler.coded.Goals as goal

pub returns : goal.returns
returns g c = record {
  one = record { question = c.query-item.result; queries_are = only_item c.args.message.now.queries c.requires.question c.query-item.result c.requires.queries_are (c.query-item.is ∙ ap (λ queries. get_or queries 0 c.query-item.result) c.as_slice.ensures) };
  plain = c.in_ok-plain.plain.items;
  bytes = c.in_ok-signed.field-0.items;
  encodes = c.in_ok-plain.ensures;
  signed = c.in_ok-signed.ensures;
  reply_is = refl;
  unchanged = refl;
}
