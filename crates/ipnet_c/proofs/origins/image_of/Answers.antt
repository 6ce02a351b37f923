-- The table has the payloads of the rows, in its order.
use Rattle.ipnet_origins.specs.OriginsOf.{payloads_of}
use Rattle.ipnet_c.proofs.origins.image_of.Goals as goal

pub returns : goal.returns
returns c = record {
  given = c.in_ok-payloads.payloads.items;
  rows = c.in_ok-payloads.ensures;
  vrps = payloads_of c.in_ok-table.table;
  same = c.in_ok-table.ensures;
  order = c.in_ok-table.table.order;
  ranked = c.in_ok-table.table.ranked;
  image_of = c.in_ok-image.ensures;
}
