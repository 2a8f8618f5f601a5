use Rattle.clap.specs.Words.{found_of, one_text}
use Rattle.stub_play.proofs.WordsLaws.{flag_read}
use Rattle.stub_play.proofs.words.flag_in.Goals as goal

pub returns : goal.returns
returns c =
    flag_read (one_text (found_of c.args.matches.now) c.args.name.now) c.get_flag.result c.requires c.get_flag.ensures.none c.get_flag.ensures.value c.get_flag.ensures.other
