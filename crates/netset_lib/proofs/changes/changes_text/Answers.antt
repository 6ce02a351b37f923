-- The maximal blocks of a set are ascending.
use Rattle.std.proofs.Common.{map, sym, subst}
use Rattle.ipnet_base.specs.Blocks.{IsAscending}
use Rattle.ipnet.specs.NetworkOf.{ip_network}
use Rattle.netset_lib.proofs.changes.changes_text.Goals as goal

pub push_changes-requires-clause-before : goal.push_changes-requires-clause-before
push_changes-requires-clause-before c =
    subst (λ z. IsAscending (map ip_network z)) (sym c.as_slice.ensures.value) c.in_ok-before.ensures.blocks.ascending

pub push_changes-requires-clause-after : goal.push_changes-requires-clause-after
push_changes-requires-clause-after c =
    subst (λ z. IsAscending (map ip_network z)) (sym c.as_slice-2.ensures.value) c.in_ok-after.ensures.blocks.ascending
