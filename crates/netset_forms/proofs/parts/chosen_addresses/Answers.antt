-- A choice of both families, or of none, is the whole set.
use Rattle.std.proofs.Common.{◌↔◌, subst, sym}
use Rattle.ipnet_sets.specs.Members.{IsMember}
use Rattle.netset_forms.specs.Forms.{IsOfFamilies}
use Rattle.netset_forms.proofs.parts.chosen_addresses.Goals as goal

pub returns-in-Named : goal.returns-in-Named
returns-in-Named c = λ x.
    subst (λ f. IsMember c.args.set x ↔ IsOfFamilies f (IsMember c.args.set) x) (sym c.in-Named.is) (λ m. m, λ m. m)

pub returns-in-Both : goal.returns-in-Both
returns-in-Both c = λ x.
    subst (λ f. IsMember c.args.set x ↔ IsOfFamilies f (IsMember c.args.set) x) (sym c.in-Both.is) (λ m. m, λ m. m)
