-- Each turn reads one payload more, or finds the first bad row.
use Rattle.std.proofs.Common.{refl}
use Rattle.ipnet_c.specs.OriginReplies.{columns}
use Rattle.ipnet_c.proofs.OriginReplies.{good_more}
use Rattle.ipnet_c.proofs.origins.first_bad_row.Goals as goal

pub loop-index-preserved : goal.loop-index-preserved
loop-index-preserved c =
    let rows = c.args.rows.now in
    good_more (columns rows.families.now rows.octets.now rows.lengths.now rows.asns.now) c.args.max_lens.now
    c.loop-index.index c.in-Some._payload c.in-Some.ensures.some c.loop-index.invariant

pub returns-in_default-clause-some : goal.returns-in_default-clause-some
returns-in_default-clause-some c = record {
  within = c.loop-index-test.true;
  bad = λ vrp is. c.in_default.ensures.none refl vrp is;
  before = c.loop-index.invariant;
}
