use Rattle.ipnet_lists.proofs.CommentLaws.{word_cut}
use Rattle.ipnet_lists.proofs.word.from_word.Goals as goal

pub returns : goal.returns
returns c = word_cut c.args.bytes.now c.gap_len.result c.gap_len.ensures.gap
