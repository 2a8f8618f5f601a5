use Rattle.std.proofs.Common.{◌≡◌, ◌++◌, drop, map}
use Rattle.dns_text.specs.Token.{lexeme}
use Rattle.dns_zone_file.specs.Generate.{template_of}
use Rattle.dns_zone_file.proofs.generate.template_of.Given as goal

-- the arguments that are left complete the template
abbrev pub invariant-loop-argument : goal.invariant-loop-argument
invariant-loop-argument l =
    l.text.items ++ template_of (map lexeme (drop l.argument-index l.arguments)) ≡ template_of (map lexeme l.arguments)
