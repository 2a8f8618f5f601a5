use Rattle.std.specs.Prelude.{map}
use Rattle.stub_servers.specs.resolv_conf.Settings.{SetsAll}
use Rattle.stub_servers.proofs.resolv_conf.settings.Settings.set_all.Given as goal

-- the lines so far are set
abbrev pub invariant-loop-line : goal.invariant-loop-line
invariant-loop-line l = SetsAll (map (λ line. line.now) l.yielded) l.fn.self l.self
