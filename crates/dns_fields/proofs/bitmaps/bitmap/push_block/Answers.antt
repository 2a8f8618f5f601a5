use Rattle.std.proofs.Common.{◌*◌, ◌++◌, ◌∷◌, [], ◌∙◌, ℕ, List, ap, rules}
use Rattle.dns_fields.specs.bitmaps.Bitmap.{octets_from}
use Rattle.dns_fields.proofs.BitmapsLoopLaws.{block_is}
use Rattle.dns_fields.proofs.bitmaps.bitmap.push_block.Goals as goal

pub returns : goal.returns
returns c =
    block_is c.args.types.now c.args.window c.octets_needed-needed.result c.args.out.now.items _ c.octets_needed-needed.ensures.value (search rules)
    (c.in_ok-push_octets.ensures c.args.types.now (256 * c.args.window) c.types_in.ensures
    ∙ ap (λ (l : List ℕ). l ++ octets_from c.args.types.now (256 * c.args.window) c.octets_needed-needed.result)
    (c.in_ok-push-2.ensures.items ∙ ap (λ (l : List ℕ). l ++ c.octets_needed-needed.result ∷ []) c.in_ok-push.ensures.items))
