use Rattle.std.proofs.Common.{◌∙◌, ap, sym, subst}
use Rattle.dns_zone.specs.Rows.{AreSoundRows, rows_of}
use Rattle.dns_zone.proofs.RowLaws.{rows_found_at, no_rows_at, sound_rows_at}
use Rattle.dns_zone.proofs.rows.records_at.Goals as goal

pub returns-in-Some-clause-rows : goal.returns-in-Some-clause-rows
returns-in-Some-clause-rows c = ap rows_of c.as_slice.ensures ∙ sym (rows_found_at c.args.sets.now c.args.name.now.labels c.args.record_type c.in-Some.set.now c.in-Some.ensures)

pub returns-in-Some-clause-sound : goal.returns-in-Some-clause-sound
returns-in-Some-clause-sound c = λ sound.
    subst AreSoundRows (rows_found_at c.args.sets.now c.args.name.now.labels c.args.record_type c.in-Some.set.now c.in-Some.ensures ∙ ap rows_of (sym c.as_slice.ensures))
    (sound_rows_at c.args.sets.now sound c.args.name.now.labels c.args.record_type)

pub returns-in-None-clause-rows : goal.returns-in-None-clause-rows
returns-in-None-clause-rows c = sym (no_rows_at c.args.sets.now c.args.name.now.labels c.args.record_type c.in-None.ensures)
