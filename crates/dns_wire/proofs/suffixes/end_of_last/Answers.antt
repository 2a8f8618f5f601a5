use Rattle.std.proofs.Common.{sym, arith}
use Rattle.std.proofs.lemmas.Option.{slice_get_within}
use Rattle.dns_wire.proofs.StoredLaws.{stored-at, stored-last}
use Rattle.dns_wire.proofs.suffixes.end_of_last.Goals as goal

pub returns-in-Some-clause-stored : goal.returns-in-Some-clause-stored
returns-in-Some-clause-stored c =
    let found = sym c.in-Some.ensures.value in
    stored-last 0 c.args.len c.args.entries.now _ c.in-Some.entry.now c.requires (omega (arith, slice_get_within c.args.entries.now _ c.in-Some.entry.now found)) found

pub returns-in-Some-clause-within : goal.returns-in-Some-clause-within
returns-in-Some-clause-within c = (stored-at 0 c.args.len c.args.entries.now _ c.in-Some.entry.now c.requires (sym c.in-Some.ensures.value)).1
