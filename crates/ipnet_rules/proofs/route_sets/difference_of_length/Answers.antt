-- The network at the first address that is in one of the two sets only.
use Rattle.std.proofs.Common.{◌≤◌, ◌⊎◌, IfSome, sym, subst, inl, inr}
use Rattle.ipnet_base.specs.Address.{IsAddress, ip_address, width}
use Rattle.ipnet_sets.specs.Members.{IsMember, IsFirstOf}
use Rattle.ipnet_rules.specs.PrefixLists.{IsFirstOfLength}
use Rattle.ipnet_rules.proofs.DifferenceLaws.{first_of_length}
use Rattle.ipnet_rules.proofs.route_sets.difference_of_length.Goals as goal

pub returns-in-Some-clause-first : goal.returns-in-Some-clause-first
returns-in-Some-clause-first c =
    let rules = c.args.rules.now in
    let others = c.args.others.now in
    let len = c.args.prefix_len in
    let x = ip_address c.in-Some.ip in
    let ours = c.in_ok-ours.ensures in
    let theirs = c.in_ok-theirs.ensures in
    let first = subst (λ o. IfSome o (λ ip. IsFirstOf
    (λ y. (IsMember c.in_ok-ours.ours y × ¬ (IsMember c.in_ok-theirs.theirs y))
    ⊎ (IsMember c.in_ok-theirs.theirs y × ¬ (IsMember c.in_ok-ours.ours y))) (ip_address ip))) c.in-Some.is
    c.in_ok-ip.ensures.some in
    let fits : IsAddress x × (len ≤ width x.family) = elim first.member [
      | inl one ↦ (one.0.fits, ours.fits x one.0)
      | inr two ↦ (two.0.fits, theirs.fits x two.0)
    ] in
    subst (IsFirstOfLength rules others len) (sym c.new_assert.ensures)
    (first_of_length rules others len c.in_ok-ours.ours c.in_ok-theirs.theirs ours.members theirs.members x fits.0
    fits.1 first)
