use Rattle.std.proofs.Common.{◌↔◌}
use Rattle.std.proofs.lemmas.Result.{IfOk-weaker}
use Rattle.ipnet_base.specs.Address.{Address, IPv6}
use Rattle.ipnet.specs.NetworkOf.{ipv6_network}
use Rattle.ipnet_sets.specs.Members.{IsMember}
use Rattle.netset_forms.specs.Forms.{IsOfFamily}
use Rattle.netset_forms.proofs.PartLaws.{of_family}
use Rattle.netset_forms.proofs.parts.ipv6_of.Goals as goal

pub returns : goal.returns
returns c =
    IfOk-weaker c.within.result _
    (λ s. (x : Address) → IsMember s x ↔ IsOfFamily (IsMember c.args.set.now) IPv6 x)
    (λ s h x.
    let family = of_family (IsMember c.args.set.now) IPv6 (ipv6_network c.default.result) c.default.ensures
    (λ y m. m.fits) x in (
      λ m. family.0 ((h x).0 m),
      λ k. (h x).1 (family.1 k),
    )) c.within.ensures.members
