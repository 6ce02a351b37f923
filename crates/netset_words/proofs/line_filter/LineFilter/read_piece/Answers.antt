use Rattle.std.proofs.Common.{refl, length}
use Rattle.memchr.specs.Find.{NoneBefore, Nowhere, Passes, is_byte}
use Rattle.netset_words.proofs.Cases.{match_none}
use Rattle.netset_words.proofs.LogBytes.{piece_goes, piece_ends}
use Rattle.netset_words.proofs.line_filter.LineFilter.read_piece.Goals as goal

pub returns-in_default-clause-log : goal.returns-in_default-clause-log
returns-in_default-clause-log c =
    let bytes = c.args.bytes.now in
    let none = match_none c.memchr.result (Nowhere (Passes (is_byte 10) bytes) 0 (length bytes))
    (λ i. NoneBefore (Passes (is_byte 10) bytes) 0 (length bytes) i × Passes (is_byte 10) bytes i) c.memchr.ensures
    c.in_default.not-Some in
    piece_goes c.args.self.now c.go_on.new.self bytes _ none c.in_ok-go_on.ensures refl

pub returns-clause-log : goal.returns-clause-log
returns-clause-log c =
    piece_ends c.args.self.now c.read_end.new.self c.args.bytes.now c.in-Some.end c.in-Some.ensures.0
    c.in-Some.ensures.1 c.in_ok-read_end.ensures
