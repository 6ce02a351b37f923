-- The bit of the length is set, and the others stay.
use Rattle.ipnet_routes.proofs.KnownLengthLaws.{with_keeps, with_has}
use Rattle.ipnet_routes.proofs.route_map.lengths.with_length.Goals as goal

pub returns-clause-keeps : goal.returns-clause-keeps
returns-clause-keeps c l has = with_keeps c.args.mask c.args.len l has

pub returns-clause-has : goal.returns-clause-has
returns-clause-has c = with_has c.args.mask c.args.len
