use Rattle.std.proofs.Common.{◌≡◌, drop, map}
use Rattle.stub_servers.specs.resolv_conf.Options.{options_after}
use Rattle.stub_servers.proofs.resolv_conf.options.ConfOptions.set_all.Given as goal

-- the words that are left complete the options
abbrev pub invariant-loop-word : goal.invariant-loop-word
invariant-loop-word l =
    options_after l.self (map (λ word. word.now) (drop l.word-index l.words)) ≡ options_after l.fn.self (map (λ word. word.now) l.fn.words)
