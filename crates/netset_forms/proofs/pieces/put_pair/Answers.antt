-- The first address, the text between, and the last address.
use Rattle.std.proofs.Common.{◌++◌}
use Rattle.std.proofs.lemmas.Result.{on_err_weaker}
use Rattle.ipnet_base.specs.Address.{ip_address}
use Rattle.ipnet.specs.CanonicalTexts.{address_text}
use Rattle.ipnet_text.proofs.ListsLaws.{OnOk_then}
use Rattle.ipnet_text.proofs.WritingLaws.{put_then, cut_first, cut_then, if_err}
use Rattle.netset_forms.proofs.pieces.put_pair.Goals as goal

pub returns-in_err-put_address-clause-cut : goal.returns-in_err-put_address-clause-cut
returns-in_err-put_address-clause-cut g c =
    let held = g.W.Write.contents in
    let a = ip_address c.args.first in
    let b = ip_address c.args.last in
    let first = address_text a.family a.number in
    let last = address_text b.family b.number in
    let start = held c.args.out.now in
    let here = held c.put_address.new.out in
    let piece = c.args.piece.now.bytes in
    if_err c.from_residual.result
    (cut_first start here piece (first ++ c.args.between.now) last
    (cut_first start here piece first c.args.between.now c.in_err-put_address.ensures.cut))

pub returns-in_err-put-clause-cut : goal.returns-in_err-put-clause-cut
returns-in_err-put-clause-cut g c =
    let held = g.W.Write.contents in
    let a = ip_address c.args.first in
    let b = ip_address c.args.last in
    let first = address_text a.family a.number in
    let last = address_text b.family b.number in
    let start = held c.args.out.now in
    let middle = held c.put_address.new.out in
    let here = held c.put.new.out in
    let piece = c.args.piece.now.bytes in
    if_err c.from_residual-in_err-put.result
    (cut_first start here piece (first ++ c.args.between.now) last
    (cut_then start middle here piece c.put_address.new.piece.bytes first c.args.between.now
    c.in_ok-put_address.ensures.ok c.in_err-put.ensures.cut))

pub returns-clause-ok : goal.returns-clause-ok
returns-clause-ok g c =
    let held = g.W.Write.contents in
    let a = ip_address c.args.first in
    let b = ip_address c.args.last in
    let first = address_text a.family a.number in
    let last = address_text b.family b.number in
    let start = held c.args.out.now in
    let middle = held c.put_address.new.out in
    let here = held c.put.new.out in
    let end = held c.put_address-2.new.out in
    let piece = c.args.piece.now.bytes in
    OnOk_then c.put_address-2.result c.put_address-2.ensures.ok
    (put_then start here end piece c.put.new.piece.bytes c.put_address-2.new.piece.bytes
    (first ++ c.args.between.now) last
    (put_then start middle here piece c.put_address.new.piece.bytes c.put.new.piece.bytes first c.args.between.now
    c.in_ok-put_address.ensures.ok c.in_ok-put.ensures.ok))

pub returns-clause-cut : goal.returns-clause-cut
returns-clause-cut g c =
    let held = g.W.Write.contents in
    let a = ip_address c.args.first in
    let b = ip_address c.args.last in
    let first = address_text a.family a.number in
    let last = address_text b.family b.number in
    let start = held c.args.out.now in
    let middle = held c.put_address.new.out in
    let here = held c.put.new.out in
    let end = held c.put_address-2.new.out in
    let piece = c.args.piece.now.bytes in
    on_err_weaker c.put_address-2.result
    (cut_then start here end piece c.put.new.piece.bytes (first ++ c.args.between.now) last
    (put_then start middle here piece c.put_address.new.piece.bytes c.put.new.piece.bytes first c.args.between.now
    c.in_ok-put_address.ensures.ok c.in_ok-put.ensures.ok))
    c.put_address-2.ensures.cut
