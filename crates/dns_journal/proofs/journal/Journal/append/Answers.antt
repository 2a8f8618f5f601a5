use Rattle.std.proofs.Common.{◌≡◌, [], refl}
use Rattle.dns_journal.specs.format.Format.{entry}
use Rattle.dns_journal.proofs.CrashLaws.{ready_appends, torn_appends, lost_appends, nothing_appends}
use Rattle.dns_journal.proofs.journal.Journal.append.Goals as goal

pub returns-in-Err-clause-performs : goal.returns-in-Err-clause-performs
returns-in-Err-clause-performs g c = record {
  events = [];
  led = refl;
  holds = λ text bytes digest payloads at. nothing_appends text bytes digest c.args.payload.now payloads c.args.self.now.position at;
}

pub returns-in-Ready-clause-performs : goal.returns-in-Ready-clause-performs
returns-in-Ready-clause-performs g c =
    let read = c.an_appended_entry_is_read.ensures in
    let cut_off = c.a_torn_write_is_cut_off.ensures in
    let old = c.args.self.now.position in
    let stored_is : c.as_slice.result.now ≡ entry old.key old.link c.args.payload.now = cc (c.as_slice.ensures.value, c.in-Ok.ensures.bytes) in
    record {
      events = c.in-Ready.ensures.events;
      led = c.in-Ready.ensures.led;
      holds = λ text bytes digest payloads at. ready_appends read cut_off text bytes digest c.args.payload.now payloads c.in-Ok.ensures.short old at
          c.as_slice.result.now stored_is c.in-Ready.ensures.events c.in-Ok.next.position c.in-Ok.ensures.end c.in-Ok.ensures.digest c.in-Ok.ensures.key c.in-Ok.ensures.link c.in-Ok.ensures.state c.in-Ready.ensures.holds;
    }

pub returns-in-Torn-clause-performs : goal.returns-in-Torn-clause-performs
returns-in-Torn-clause-performs g c =
    let read = c.an_appended_entry_is_read.ensures in
    let cut_off = c.a_torn_write_is_cut_off.ensures in
    let old = c.args.self.now.position in
    let stored_is : c.as_slice.result.now ≡ entry old.key old.link c.args.payload.now = cc (c.as_slice.ensures.value, c.in-Ok.ensures.bytes) in
    record {
      events = c.in-Torn.ensures.events;
      led = c.in-Torn.ensures.led;
      holds = λ text bytes digest payloads at. torn_appends read cut_off text bytes digest c.args.payload.now payloads c.in-Ok.ensures.short old at
          c.as_slice.result.now stored_is c.in-Torn.ensures.events _ refl c.in-Torn.ensures.holds;
    }

pub returns-clause-performs : goal.returns-clause-performs
returns-clause-performs g c =
    let read = c.an_appended_entry_is_read.ensures in
    let cut_off = c.a_torn_write_is_cut_off.ensures in
    let old = c.args.self.now.position in
    let stored_is : c.as_slice.result.now ≡ entry old.key old.link c.args.payload.now = cc (c.as_slice.ensures.value, c.in-Ok.ensures.bytes) in
    record {
      events = c.in-Lost.ensures.events;
      led = c.in-Lost.ensures.led;
      holds = λ text bytes digest payloads at. lost_appends read cut_off text bytes digest c.args.payload.now payloads c.in-Ok.ensures.short old at
          c.as_slice.result.now stored_is c.in-Lost.ensures.events _ refl c.in-Lost.ensures.holds;
    }
