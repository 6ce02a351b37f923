use Rattle.std.proofs.Common.{refl}
use Rattle.netset_origins.proofs.FieldLaws.{asn_after, asn_plain}
use Rattle.netset_origins.proofs.field.asn_of.Goals as goal

pub returns-in-Some : goal.returns-in-Some
returns-in-Some c = λ n.
    asn_after c.args.text.now c.in-Some.digits.now c.number_of.result n c.in-Some.ensures.some (c.number_of.ensures n)

pub returns-in-None : goal.returns-in-None
returns-in-None c = λ n.
    asn_plain c.args.text.now c.number_of-in-None.result n (c.in-None.ensures.none refl) (c.number_of-in-None.ensures n)
