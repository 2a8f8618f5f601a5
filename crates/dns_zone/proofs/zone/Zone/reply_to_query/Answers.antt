use Rattle.std.proofs.Common.{◌≡◌, ◌≤◌, ◌∷◌, ◌∙◌, [], List, ℕ, sym, subst}
use Rattle.dns_messages.specs.declared.message.Message.{Message}
use Rattle.dns_messages.specs.declared.query.Query.{Query}
use Rattle.dns_messages.specs.Cut.{front_reach}
use Rattle.dns_messages.specs.Sound.{IsSound}
use Rattle.dns_zone.specs.Answer.{IsSoundAnswer}
use Rattle.dns_zone.specs.Serving.{borrowed_reply, query_reply}
use Rattle.dns_zone.proofs.ServingLaws.{only_item, is_query_reply, is_reply, query_sound, question_fits}
use Rattle.dns_zone.proofs.zone.Zone.reply_to_query.Goals as goal
use Rattle.dns_zone.proofs.zone.Zone.reply_to_query.Goals.{After-new}

one_query : (c : After-new) → c.as_slice-queries.result.now ≡ c.query-item.result ∷ []
one_query c = only_item c.as_slice-queries.result.now c.query-item.result c.in-len1.len_at_least c.in-len1.len_below c.query-item.is

queries_are : (c : After-new) → ◌≡◌ {A = List Query} c.args.request.now.queries (c.query-item.result ∷ [])
queries_are c = sym c.as_slice-queries.ensures ∙ one_query c

reply_is : (c : After-new) → ◌≡◌ {A = Message} (borrowed_reply c.new.result) (query_reply c.args.self.now c.args.request.now c.query-item.result)
reply_is c = c.new.ensures ∙ is_query_reply c.args.self.now c.args.request.now c.query-item.result c.as_slice-queries.result.now c.answer_ref.result (one_query c) c.answer_ref.ensures.answer

pub returns-clause-reply : goal.returns-clause-reply
returns-clause-reply c = reply_is c ∙ is_reply c.args.self.now c.args.request.now c.query-item.result c.requires (queries_are c)

pub returns-clause-sound : goal.returns-clause-sound
returns-clause-sound c = λ request. subst IsSound (sym (reply_is c)) (query_sound c.args.self.now c.args.request.now c.query-item.result c.requires (queries_are c) (λ fqdn. subst IsSoundAnswer c.answer_ref.ensures.answer (c.answer_ref.ensures.sound fqdn)) request)

pub returns-clause-short : goal.returns-clause-short
returns-clause-short c =
    subst (λ (x : Message). front_reach x ≤ 512) (sym (reply_is c)) (question_fits c.args.self.now c.args.request.now c.query-item.result (subst (λ (n : ℕ). n ≤ 255) c.encoded_len.ensures.value c.if-prove.false))
