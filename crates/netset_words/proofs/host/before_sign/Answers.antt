use Rattle.netset_words.proofs.PlaceLaws.{sign_at, sign_nowhere}
use Rattle.netset_words.proofs.host.before_sign.Goals as goal

pub returns-in-Some : goal.returns-in-Some
returns-in-Some c = sign_at c.args.text.now c.in-Some.end c.in-Some.ensures.0 c.in-Some.ensures.1

pub returns-in-None : goal.returns-in-None
returns-in-None c = sign_nowhere c.args.text.now c.in-None.ensures
