-- There is a line end.
use Rattle.ipnet_c.proofs.rows.line_len.Goals as goal

pub unreachable-requires : goal.unreachable-requires
unreachable-requires c = c.requires c.in_default.ensures
