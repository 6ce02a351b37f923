use Rattle.std.proofs.Common.{sym, ◌∙◌, length}
use Rattle.std.proofs.lemmas.Bool.{eqb-true}
use Rattle.netset_words.proofs.LogBytes.{none_read, more_read, all_read}
use Rattle.netset_words.proofs.line_filter.LineFilter.read.Goals as goal

pub pieces-init : goal.pieces-init
pieces-init c = none_read c.args.self.now c.args.bytes.now

pub pieces-preserved : goal.pieces-preserved
pieces-preserved c =
    more_read c.args.self.now c.pieces.self c.read_piece.new.self c.args.bytes.now c.pieces.rest.now
    c.in_ok-after.after.now c.pieces.invariant c.in_ok-after.ensures.log

pub returns : goal.returns
returns c =
    all_read c.args.self.now c.pieces.self c.args.bytes.now c.pieces.rest.now
    (eqb-true (length c.pieces.rest.now) 0 (sym c.is_empty.ensures ∙ c.pieces-test.false)) c.pieces.invariant
