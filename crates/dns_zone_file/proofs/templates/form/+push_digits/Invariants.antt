use Rattle.dns_zone_file.proofs.templates.form.+push_digits.Given as goal

abbrev pub decreases-push_digits : goal.decreases-push_digits
decreases-push_digits l = l.count
