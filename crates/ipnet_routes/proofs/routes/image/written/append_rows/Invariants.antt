-- The rows so far are appended.
use Rattle.std.proofs.Common.{ℕ}
use Rattle.ipnet_routes.specs.Routes.{ip_routes, ip_networks}
use Rattle.ipnet_routes.specs.TableImages.{AreFirstIpv4}
use Rattle.ipnet_routes.proofs.TableRowLaws.{AreAddedUpTo}
use Rattle.ipnet_routes.proofs.routes.image.written.append_rows.Given as goal

abbrev pub invariant-loop-index : goal.invariant-loop-index
invariant-loop-index l = (ipv4 : ℕ) → AreFirstIpv4 (ip_networks l.routes) ipv4
    → AreAddedUpTo (ip_routes l.routes) l.links ipv4 l.fn.bytes.items l.bytes.items l.index
