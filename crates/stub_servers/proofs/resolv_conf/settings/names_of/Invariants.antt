use Rattle.std.proofs.Common.{◌≡◌, ◌++◌, drop, map}
use Rattle.std.specs.List.{filter_map}
use Rattle.stub_servers.specs.resolv_conf.Settings.{search_name}
use Rattle.stub_servers.proofs.resolv_conf.settings.names_of.Given as goal

-- the names of the words that are left complete those so far
abbrev pub invariant-loop-word : goal.invariant-loop-word
invariant-loop-word l =
    l.names.items ++ filter_map search_name (map (λ word. word.now) (drop l.word-index l.words))
    ≡ filter_map search_name (map (λ word. word.now) l.words)
