use Rattle.std.proofs.Common.{inr, sym, ap, ◌∙◌}
use Rattle.std.proofs.lemmas.List.{take_rest}
use Rattle.dns_tsig.specs.Tsig.{tsig_of}
use Rattle.dns_tsig.proofs.found.read_signature.Goals as goal

pub returns-in-None : goal.returns-in-None
returns-in-None c =
    inr (record {
      place = c.args.place;
      layout = c.requires.layout;
      fault = inr (record {
        name = c.in-Some.field-0.name.items;
        end = c.in-Some.field-0.end;
        owner = rw c.in-Some.is at c.in_ok-name.ensures.owner;
        refused = sym (c.in-None.ensures ∙ ap tsig_of (take_rest c.args.message.now c.in-Some.field-0.end));
      });
    })
