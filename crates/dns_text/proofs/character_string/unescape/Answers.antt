use Rattle.std.proofs.Common.{◌≡◌, ◌+◌, ◌++◌, [], ◌∷◌, ℕ, List, drop, ap, ◌∙◌, arith, length-drop}
use Rattle.dns_text.specs.CharacterString.{unescaped}
use Rattle.dns_text.proofs.FrontLaws.{slice_is}
use Rattle.dns_text.proofs.CharacterStringLaws.{octets_before, octet_further}
use Rattle.dns_text.proofs.character_string.unescape.Goals as goal

pub loop-place-preserved : goal.loop-place-preserved
loop-place-preserved c =
    let completes : octets_before (c.loop-place.octets.items ++ c.in-Some.octet ∷ []) (unescaped (drop (c.loop-place.place + c.in-Some.len) c.args.text.now)) ≡ unescaped c.args.text.now =
    octet_further c.args.text.now _ c.loop-place.octets.items c.loop-place.place c.in-Some.octet c.in-Some.len (unescaped c.args.text.now)
    (slice_is c.args.text.now c.loop-place.place) (omega (arith, length-drop c.loop-place.place c.args.text.now)) c.in-Some.ensures.octet c.in-Some.ensures.len c.loop-place.invariant.completes in
    record {
      completes = ap (λ (l : List ℕ). octets_before l (unescaped (drop (c.loop-place.place + c.in-Some.len) c.args.text.now))) c.in_ok-push.ensures.items ∙ completes;
      within = omega (arith, c.in-Some.ensures.within, length-drop c.loop-place.place c.args.text.now);
    }
