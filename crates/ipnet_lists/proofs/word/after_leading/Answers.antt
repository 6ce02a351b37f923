use Rattle.ipnet_lists.proofs.CommentLaws.{second_cut}
use Rattle.ipnet_lists.proofs.word.after_leading.Goals as goal

pub returns : goal.returns
returns c =
    second_cut c.args.bytes.now c.word_len.result c.gap_len.result c.word_len.ensures.word c.gap_len.ensures.gap
