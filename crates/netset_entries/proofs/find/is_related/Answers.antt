use Rattle.std.proofs.Common.{◌↔◌, IsTrue, subst, sym}
use Rattle.ipnet_lists.specs.EntryOf.{entry_range}
use Rattle.netset_entries.specs.Finds.{IsRelated}
use Rattle.netset_entries.proofs.find.is_related.Goals as goal

pub returns-in-Contains : goal.returns-in-Contains
returns-in-Contains c =
    subst (λ relation. IsTrue c.is_inside.result
    ↔ IsRelated relation (entry_range c.args.wanted) (entry_range c.args.entry)) (sym c.in-Contains.is)
    c.is_inside.ensures

pub returns-in-Inside : goal.returns-in-Inside
returns-in-Inside c =
    subst (λ relation. IsTrue c.is_inside-in-Inside.result
    ↔ IsRelated relation (entry_range c.args.wanted) (entry_range c.args.entry)) (sym c.in-Inside.is)
    c.is_inside-in-Inside.ensures

pub returns-in-Exact : goal.returns-in-Exact
returns-in-Exact c =
    subst (λ relation. IsTrue c.have_same_addresses.result
    ↔ IsRelated relation (entry_range c.args.wanted) (entry_range c.args.entry)) (sym c.in-Exact.is)
    c.have_same_addresses.ensures
