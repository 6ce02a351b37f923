use Rattle.std.proofs.Common.{arith, subst}
use Rattle.netset_words.specs.Places.{IsWhole}
use Rattle.netset_words.proofs.PlaceBytes.{untrimmed}
use Rattle.netset_words.proofs.place.read_trimmed.Goals as goal

pub returns-then-not-is_shorter : goal.returns-then-not-is_shorter
returns-then-not-is_shorter c = λ place is.
    let same = untrimmed c.args.text.now c.args.body.now c.requires.body (omega arith) in
    c.requires.none place (subst (λ z. IsWhole c.args.grammar z place) same is)
