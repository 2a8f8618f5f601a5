use Rattle.std.proofs.Common.{◌≡◌, ◌<◌, sym, ap, ◌∙◌, refl, [], arith, Some, Err}
use Rattle.stub_lookup.specs.Error.{no_records}
use Rattle.stub_lookup.specs.declared.error.DnsError.TheVariants.{NoRecordsFound}
use Rattle.stub_lookup.specs.declared.error.NetError.{NetError}
use Rattle.stub_lookup.specs.declared.error.NetError.TheVariants.{Dns}
use Rattle.stub_lookup.specs.declared.error.NoRecords.{NoRecords}
use Rattle.stub_client.specs.Step.{max_depth}
use Rattle.stub_client.specs.declared.caching_client.step.Step.TheVariants.{Gives, Misses, Stops, Follows}
use Rattle.stub_client.specs.Looks.{lookup_settings}
use Rattle.stub_client.specs.internal.Looks.{reply_of}
use Rattle.stub_client.proofs.LookUpLaws.{deeper, locally, takes, usable, without-memory}
use Rattle.stub_client.proofs.caching_client.CachingClient.+look_up.Goals as goal

pub returns-in-Ok-Complete : goal.returns-in-Ok-Complete
returns-in-Ok-Complete g t c =
    locally g.C.DnsHandle.gives c.args.options c.args.now c.args.depth c.args.kept c.args.self.now c.args.query c.in-Ok-Complete.reply
    (sym c.in-Ok-Complete.ensures.reply ∙ ap (reply_of c.args.query) c.in-Ok-Complete.field-0-is)

pub returns-in-Ok-Nothing : goal.returns-in-Ok-Nothing
returns-in-Ok-Nothing g t c =
    let error : c.from.result ≡ Dns (NoRecordsFound (no_records c.args.query c.in-Ok-Nothing.code)) =
    c.from.ensures ∙ ap (λ (answer : NoRecords). Dns (NoRecordsFound answer)) c.new.ensures in
    locally g.C.DnsHandle.gives c.args.options c.args.now c.args.depth c.args.kept c.args.self.now c.args.query (Err c.from.result)
    (sym c.in-Ok-Nothing.ensures.reply ∙ ap (reply_of c.args.query) c.in-Ok-Nothing.field-0-is ∙ ap (λ (e : NetError). Some (Err e)) (sym error))

pub returns-in-Err : goal.returns-in-Err
returns-in-Err g t c =
    without-memory g.C.DnsHandle.gives c.args.options c.args.now c.args.depth c.args.kept c.args.self.now c.args.query
    (λ code is. let wrong = c.in-Err.ensures.decided code is in absurd (cc wrong))

pub store_message-requires-clause-question : goal.store_message-requires-clause-question
store_message-requires-clause-question g t c =
    usable g.C.DnsHandle.gives c.args.options c.args.now c.args.depth c.args.kept c.args.self.now c.args.query
    (Gives c.in-Gives.message) c.next_step.new.self c.in-Gives.ensures.handle

pub look_up-reply-requires : goal.look_up-reply-requires
look_up-reply-requires g t c κs within =
    let less : c.args.depth < max_depth =
    usable g.C.DnsHandle.gives c.args.options c.args.now c.args.depth c.args.kept c.args.self.now c.args.query
    (Follows c.in-Follows.target c.in-Follows.aliases) c.next_step.new.self c.in-Follows.ensures.handle in
    (omega arith, (within, (c.requires.moment, omega arith)))

pub returns-in-Gives : goal.returns-in-Gives
returns-in-Gives g t c =
    takes g.C.DnsHandle.gives c.args.options c.args.now c.args.depth c.args.kept c.args.self.now c.args.query
    (sym c.in-Ok-Asks.ensures.reply ∙ ap (reply_of c.args.query) c.in-Ok-Asks.field-0-is) (Gives c.in-Gives.message) c.next_step.new.self
    c.in-Gives.ensures.handle c.in-Gives.ensures.rest [] c.store_message.result _ refl (refl, c.store_message.ensures) refl

pub returns-in-Misses : goal.returns-in-Misses
returns-in-Misses g t c =
    takes g.C.DnsHandle.gives c.args.options c.args.now c.args.depth c.args.kept c.args.self.now c.args.query
    (sym c.in-Ok-Asks.ensures.reply ∙ ap (reply_of c.args.query) c.in-Ok-Asks.field-0-is) (Misses c.in-Misses.answer) c.next_step.new.self
    c.in-Misses.ensures.handle c.in-Misses.ensures.rest [] c.store_answer.result _ refl (refl, c.store_answer.ensures) refl

pub returns-in-Stops : goal.returns-in-Stops
returns-in-Stops g t c =
    takes g.C.DnsHandle.gives c.args.options c.args.now c.args.depth c.args.kept c.args.self.now c.args.query
    (sym c.in-Ok-Asks.ensures.reply ∙ ap (reply_of c.args.query) c.in-Ok-Asks.field-0-is) (Stops c.in-Stops.error) c.next_step.new.self
    c.in-Stops.ensures.handle c.in-Stops.ensures.rest [] (Err c.in-Stops.error) c.next_step.new.self refl (refl, refl, refl) refl

pub returns-in-Follows : goal.returns-in-Follows
returns-in-Follows g t c =
    takes g.C.DnsHandle.gives c.args.options c.args.now c.args.depth c.args.kept c.args.self.now c.args.query
    (sym c.in-Ok-Asks.ensures.reply ∙ ap (reply_of c.args.query) c.in-Ok-Asks.field-0-is) (Follows c.in-Follows.target c.in-Follows.aliases)
    c.next_step.new.self c.in-Follows.ensures.handle c.in-Follows.ensures.rest c.look_up-reply.ensures.asks
    c.store_reply.result _ c.look_up-reply.ensures.led (
      c.look_up-reply.result,
      c.look_up-reply.new.self.cache,
      deeper (lookup_settings c.next_step.new.self c.args.options) c.args.now c.args.depth c.in-Follows.aliases c.next_step.new.self.cache
          c.in-Follows.target c.look_up-reply.ensures.asks c.look_up-reply.result c.look_up-reply.new.self.cache
          c.look_up-reply.ensures.looks,
      c.store_reply.ensures,
    )
    c.look_up-reply.ensures.settings
