-- Each answer before the index is the validity of the route with its index.
use Rattle.ipnet_origins.specs.OriginsOf.{payloads_of}
use Rattle.ipnet_c.specs.OriginReplies.{columns, IsRowValidity}
use Rattle.ipnet_c.proofs.ColumnLaws.{AreRightTo}
use Rattle.ipnet_c.proofs.origins.ipnet_origins_validity.Given as goal

abbrev pub invariant-loop-index : goal.invariant-loop-index
invariant-loop-index l =
    AreRightTo (IsRowValidity (payloads_of l.table) (columns l.families l.octets l.lengths l.asns)) l.index
    l.fn.answers l.answers
