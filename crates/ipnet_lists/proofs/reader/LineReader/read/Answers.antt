use Rattle.ipnet_lists.proofs.ListReading.{up_to_start, up_to_more}
use Rattle.ipnet_lists.proofs.reader.LineReader.read.Goals as goal

pub lines-init : goal.lines-init
lines-init g c =
    up_to_start c.args.self.now c.args.bytes.now (g.C.Collector.is_made c.args.collector.now c.args.made.now)

pub lines-preserved : goal.lines-preserved
lines-preserved g c =
    let first = c.in_ok-after.ensures in
    up_to_more c.args.self.now c.lines.self c.read_first.new.self c.args.bytes.now c.lines.rest.now
    first.line c.in_ok-after.after.now
    (g.C.Collector.is_made c.args.collector.now c.args.made.now)
    (g.C.Collector.is_made c.args.collector.now c.lines.made)
    (g.C.Collector.is_made c.args.collector.now c.read_first.new.made) c.lines.invariant first.first first.read
