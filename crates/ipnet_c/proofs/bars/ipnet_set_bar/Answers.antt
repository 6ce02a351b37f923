-- Each way out gives a reply.
use Rattle.std.proofs.Common.{IfOk, IfSome, string_bytes, sym, subst}
use Rattle.ipnet_sets.specs.Images.{IsImageOf}
use Rattle.ipnet_sets.specs.declared.set.IpSet.{IpSet}
use Rattle.ipnet_c.specs.Pictures.{AreBarOptions, IsBarOf}
use Rattle.ipnet_c.proofs.PictureReplies.{frame_refused, set_drawn}
use Rattle.ipnet_c.proofs.bars.ipnet_set_bar.Goals as goal

pub returns-in-Err : goal.returns-in-Err
returns-in-Err c =
    frame_refused (AreBarOptions c.args.options) (λ s t. IsBarOf c.args.options s) c.args.set.now c.args.set.now
    c.args.network.now c.args.buffer.now c.args.count.now c.in-Err.status
    (c.in-Some.form, c.in-Some.ensures.some) c.in-Err.ensures.fault

pub returns : goal.returns
returns c =
    let bytes = c.in-Ok-from_bytes.set.image.bytes.now in
    let frame = c.in-Ok.frame in
    let made = c.write_picture in
    set_drawn (AreBarOptions c.args.options) (IsBarOf c.args.options) c.args.set.now bytes c.args.network.now
    c.args.buffer.now made.new.buffer c.args.count.now made.new.count made.result frame c.draw_bar.result
    (c.in-Some.form, c.in-Some.ensures.some) c.in-Ok.ensures.frame
    c.in-Ok-from_bytes.set.image_of_a_set c.in-Ok-from_bytes.ensures
    (subst (λ o. IfOk c.draw_bar.result (λ found. IfSome found (λ text. (first : IpSet)
    × IsImageOf bytes first × IsBarOf o first frame (string_bytes text))))
    (sym c.in-Some.ensures.some) c.draw_bar.ensures.bar)
    c.draw_bar.ensures.none made.ensures.known made.ensures.ok made.ensures.too_short
    made.ensures.no_address made.ensures.kept
