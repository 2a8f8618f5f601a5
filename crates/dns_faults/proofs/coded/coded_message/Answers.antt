use Rattle.std.proofs.Common.{◌≤◌, ◌++◌, ◌∷◌, [], ℕ, ap, subst, ◌∙◌}
use Rattle.dns_messages.specs.declared.message.Message.{Message}
use Rattle.dns_messages.specs.declared.query.Query.{Query}
use Rattle.dns_faults.proofs.CodedLaws.{front-short}
use Rattle.dns_faults.proofs.coded.coded_message.Goals as goal

pub returns-clause-short : goal.returns-clause-short
returns-clause-short c =
    front-short c.push.new.self c.args.query.now
    (c.in_ok-push.ensures.ok ∙ ap (λ (m : Message). m.queries ++ c.in_ok-clone.field-0 ∷ []) c.query-reply.ensures ∙ ap (λ (q : Query). q ∷ []) c.in_ok-clone.ensures.ok)
    (subst (λ (n : ℕ). n ≤ 255) c.encoded_len.ensures.value c.if-prove.false)
