use Rattle.std.proofs.Common.{◌≤◌, subst, sym}
use Rattle.std.proofs.lemmas.Bool.{le-leb, leb-true}
use Rattle.netset_entries.specs.NoteSteps.{family_if, largest_of}
use Rattle.netset_entries.proofs.noted.NotedBlocks.is_past.Goals as goal

pub returns-then-network : goal.returns-then-network
returns-then-network c =
    let b = c.args.self.now in
    let len = c.args.network.len in (
      λ e. subst (λ z. (largest_of (family_if z) b).end ≤ len) (sym c.if-network.true) (leb-true b.ipv6.end len e),
      λ h. le-leb b.ipv6.end len (subst (λ z. (largest_of (family_if z) b).end ≤ len) c.if-network.true h),
    )

pub returns : goal.returns
returns c =
    let b = c.args.self.now in
    let len = c.args.network.len in (
      λ e. subst (λ z. (largest_of (family_if z) b).end ≤ len) (sym c.if-network.false) (leb-true b.ipv4.end len e),
      λ h. le-leb b.ipv4.end len (subst (λ z. (largest_of (family_if z) b).end ≤ len) c.if-network.false h),
    )
