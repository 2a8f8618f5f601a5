use Rattle.std.proofs.Common.{◌++◌, encode_utf8, rules}
use Rattle.std.proofs.Output.{has_written_append}
use Rattle.std.specs.Str.Iter.{chars_rest}
use Rattle.lookup_cli.specs.answers.GivenText.{given_octets}
use Rattle.lookup_cli.proofs.GivenTextLaws.{character_more}
use Rattle.lookup_cli.proofs.answers.given_text.write_characters.Goals as goal

pub loop-c-preserved : goal.loop-c-preserved
loop-c-preserved g c = λ plain.
    let so_far = c.loop-c.invariant plain in (
      so_far.0 ++ given_octets (encode_utf8 c.in-Some.c),
      has_written_append _ _ _ _ _ _ so_far.1 (search rules),
      character_more so_far.0 _ (encode_utf8 c.in-Some.c) (chars_rest c.next.new.self) (chars_rest c.loop-c.c-iterator) c.in-Some.ensures.steps.0 so_far.2,
    )
