use Rattle.std.proofs.Common.{ap, sym, take}
use Rattle.std.specs.Char.{is_ascii_alphabetic}
use Rattle.std.proofs.lemmas.List.Sums.{position_or_len_is}
use Rattle.netset_words.proofs.path.before_letter.Goals as goal

pub returns : goal.returns
returns c =
    ap (λ n. take n c.args.text.now)
    (sym (position_or_len_is is_ascii_alphabetic c.args.text.now c.letter_place.result 0 c.letter_place.ensures.within
    c.letter_place.ensures.before c.letter_place.ensures.letter))
