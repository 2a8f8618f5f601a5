use Rattle.std.proofs.Common.{◌≡◌, ◌++◌, drop, map}
use Rattle.std.specs.Prelude.{option_map}
use Rattle.stub_script.specs.LinkWords.{link_events}
use Rattle.stub_script.proofs.link_words.read_link_events.Given as goal

-- what was read stands in front of the events of the words that are left
abbrev pub invariant-loop-word : goal.invariant-loop-word
invariant-loop-word l =
    link_events (map (λ word. word.items) l.link_words)
    ≡ option_map (λ events. l.events.items ++ events) (link_events (map (λ word. word.items) (drop l.word-index l.link_words)))
