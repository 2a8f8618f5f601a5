use Rattle.std.proofs.Common.{◌≡◌, ◌-◌, ◌<◌, Option, Some, take, drop, length, ap, ◌∙◌, arith, length-drop}
use Rattle.std.proofs.lemmas.List.{take_all}
use Rattle.dns_zone_file.proofs.TemplateLaws.{piece_further}
use Rattle.dns_zone_file.proofs.templates.template.expand.Goals as goal

pub loop-place-preserved : goal.loop-place-preserved
loop-place-preserved c =
    let slice_is : take (length c.args.template.now - c.loop-place.place) (drop c.loop-place.place c.args.template.now) ≡ drop c.loop-place.place c.args.template.now =
    take_all (length c.args.template.now - c.loop-place.place) (drop c.loop-place.place c.args.template.now) (omega (arith, length-drop c.loop-place.place c.args.template.now)) in
    record {
      completes = piece_further c.args.number c.args.template.now _ c.loop-place.text.items c.loop-place.place _ slice_is c.loop-place.invariant.completes
          c.push_piece.new.text.items c.in-Some.piece c.in-Some.len (omega (arith, length-drop c.loop-place.place c.args.template.now))
          c.in-Some.ensures.piece c.in-Some.ensures.len c.in_ok-push_piece.ensures.ok;
      within = omega (arith, c.in-Some.ensures.within, length-drop c.loop-place.place c.args.template.now);
    }
