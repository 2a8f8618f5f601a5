use Rattle.std.proofs.Common.{◌≡◌, List, [], ℕ, map, refl, ap, arith}
use Rattle.std.proofs.lemmas.Grind.{common_steps}
use Rattle.std.proofs.lemmas.Bool.Decides.{nat_tests}
use Rattle.std.specs.Global.{Vec}
use Rattle.stub_link.proofs.Receiving.{first-removed}
use Rattle.stub_script.specs.GivenLink.{from_link, oldest}
use Rattle.stub_script.proofs.given_link.GivenLinkLink.next_datagram.Goals as goal

pub returns-then-is_empty-clause-receives : goal.returns-then-is_empty-clause-receives
returns-then-is_empty-clause-receives g c =
    let none : c.args.self.now.waiting.items ≡ [] = grind (arith, nat_tests, common_steps, c.if-is_empty.ensures) in
    from_link (ap (map (λ (bytes : Vec ℕ). bytes.items)) none) c.next_datagram.ensures.receives refl

pub returns-else-is_empty-clause-receives : goal.returns-else-is_empty-clause-receives
returns-else-is_empty-clause-receives g c =
    oldest (ap (map (λ (bytes : Vec ℕ). bytes.items)) (first-removed c.args.self.now.waiting.items c.remove.new.self.items c.remove.result
    (grind (arith, nat_tests, c.if-is_empty.ensures)) c.remove.ensures.value c.remove.ensures.items)) refl
