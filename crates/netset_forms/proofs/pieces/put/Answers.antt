-- The piece is written, and then the text: it has no room in a piece.
use Rattle.std.proofs.Common.{◌≡◌, subst, ℕ, List, [], arith}
use Rattle.std.specs.Io.{StartsWith}
use Rattle.std.specs.Io.KnownBytes.{Appends}
use Rattle.std.proofs.lemmas.List.{nil_from_length}
use Rattle.ipnet_text.proofs.ListsLaws.{OnOk_then}
use Rattle.netset_forms.proofs.PieceLaws.{piece_written, both_written, front_of_both, if_err}
use Rattle.netset_forms.proofs.pieces.put.Goals as goal

pub returns-clause-ok : goal.returns-clause-ok
returns-clause-ok g c =
    let held = g.W.Write.contents in
    let start = held c.args.out.now in
    let middle = held c.make_room.new.out in
    let end = held c.write_whole.new.out in
    let piece = c.args.piece.now.bytes in
    let left = c.make_room.new.piece.bytes in
    let empty : left ≡ [] = nil_from_length left
    (omega (arith, c.in_ok-make_room.ensures.room, c.min.ensures, c.if-text-le-PIECE.false)) in
    OnOk_then c.write_whole.result c.write_whole.ensures.whole (λ written.
    both_written start middle end piece c.args.text.now left
    (piece_written start middle piece left c.in_ok-make_room.ensures.ok empty)
    (subst (Appends middle end) c.as_bytes.ensures.value written) empty)

pub returns-clause-cut : goal.returns-clause-cut
returns-clause-cut g c =
    let held = g.W.Write.contents in
    let start = held c.args.out.now in
    let middle = held c.make_room.new.out in
    let end = held c.write_whole.new.out in
    let piece = c.args.piece.now.bytes in
    let left = c.make_room.new.piece.bytes in
    let empty : left ≡ [] = nil_from_length left
    (omega (arith, c.in_ok-make_room.ensures.room, c.min.ensures, c.if-text-le-PIECE.false)) in
    if_err c.write_whole.result
    (front_of_both start middle end piece c.args.text.now
    (piece_written start middle piece left c.in_ok-make_room.ensures.ok empty)
    (subst (λ z. (front : List ℕ) × StartsWith z front × Appends middle end front) c.as_bytes.ensures.value
    c.write_whole.ensures.front))
