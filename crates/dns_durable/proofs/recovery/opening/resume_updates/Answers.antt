use Rattle.dns_durable.proofs.recovery.opening.resume_updates.Goals as goal

pub returns-in-Ok-resume-clause-performs : goal.returns-in-Ok-resume-clause-performs
returns-in-Ok-resume-clause-performs g c = record {
  events = c.in-Ok-resume.ensures.resumes.events;
  led = c.in-Ok-resume.ensures.resumes.led;
  holds = λ text bytes head payloads of.
      (c.in-Ok-resume.ensures.resumes.holds text bytes head payloads of.journal of.len, c.in-Ok-resume.ensures.position bytes head payloads of.journal of.len of.head_is of.link_is);
}

pub returns-clause-performs : goal.returns-clause-performs
returns-clause-performs g c = record {
  events = c.in-Err-resume.ensures.resumes.events;
  led = c.in-Err-resume.ensures.resumes.led;
  holds = λ text bytes head payloads of. c.in-Err-resume.ensures.resumes.holds text bytes head payloads of.journal of.len;
}
