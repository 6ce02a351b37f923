use Rattle.std.proofs.Common.{length, arith, ap, ◌∙◌}
use Rattle.std.proofs.Math.ListN.{drop_of_length-le}
use Rattle.ipnet_text.specs.Window.{held}
use Rattle.netset_words.proofs.ExtractLaws.{bytes_taken, all_taken}
use Rattle.netset_words.proofs.extraction.Extraction.take_bytes.Goals as goal

pub returns : goal.returns
returns c =
    let old = c.args.self.now in
    let front = c.in_ok-read_front.ensures in
    let shown = c.held-held.result.now in
    let count = c.lines_len-count.result in
    let kept = c.read_front.new.carry.items in
    record {
      front = front.taken;
      is = bytes_taken old.carry.items (held old.window) shown front.taken kept c.extend_from_slice.new.self.items count
          c.held-held.ensures.value front.is c.in_ok-extend_from_slice.ensures.items;
      empty = c.take.ensures
          ∙ drop_of_length-le (held old.window) (omega (arith, ap length c.held-held.ensures.value));
      closed = front.closed;
      all = λ e. all_taken shown kept c.extend_from_slice.new.self.items count (c.lines_len-count.ensures.all e)
          (front.all e) c.in_ok-extend_from_slice.ensures.items;
      lines = front.lines;
    }
