use Rattle.std.proofs.Common.{◌<◌, length, arith}
use Rattle.update_text.proofs.UpdateLaws.{no_text_with_ttl}
use Rattle.update_text.proofs.update.record_words.RecordWords.with_ttl.Goals as goal

pub returns-in_default : goal.returns-in_default
returns-in_default c =
    let few : length c.args.arguments.now < 2 = omega arith in
    no_text_with_ttl c.args.types c.args.arguments.now few
