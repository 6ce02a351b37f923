use Rattle.netset_words.proofs.WordLaws.{no_front}
use Rattle.netset_words.proofs.place.has_front.Goals as goal

pub returns-then-is_short : goal.returns-then-is_short
returns-then-is_short c =
    (λ t. absurd cc, λ is. absurd (no_front c.args.bytes.now c.args.front.now c.if-is_short.true is))
