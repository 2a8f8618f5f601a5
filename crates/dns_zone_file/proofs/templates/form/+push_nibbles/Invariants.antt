use Rattle.dns_zone_file.proofs.templates.form.+push_nibbles.Given as goal

abbrev pub decreases-push_nibbles : goal.decreases-push_nibbles
decreases-push_nibbles l = l.len
