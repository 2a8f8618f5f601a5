use Rattle.dns_zone_file.proofs.templates.form.+digits_within.Given as goal

abbrev pub decreases-digits_within : goal.decreases-digits_within
decreases-digits_within l = l.more
