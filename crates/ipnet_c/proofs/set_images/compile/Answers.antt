-- The image is of the set of the networks that the lines write.
use Rattle.std.proofs.Common.{sym, subst}
use Rattle.ipnet_sets.specs.Images.{IsImageOf}
use Rattle.ipnet_c.proofs.SetImageReplies.{compiled, not_compiled}
use Rattle.ipnet_c.proofs.set_images.compile.Goals as goal

pub returns-in-Err : goal.returns-in-Err
returns-in-Err c =
    not_compiled c.args.grammar c.args.text.now c.args.buffer.now c.args.count.now c.set_of_text.new.line
    c.in-Err.status c.in-Err.ensures.bad

pub returns : goal.returns
returns c =
    let (utf8, addresses, kept) = c.in-Ok.ensures.set in
    let made = c.write_to_buffer in
    let set = c.in-Ok.set in
    compiled c.args.grammar c.args.text.now c.as_slice.result.now c.args.buffer.now made.new.buffer c.args.count.now
    made.new.count made.result utf8
    (record {
      set = set;
      image_of = subst (λ z. IsImageOf z set) (sym c.as_slice.ensures.value) c.in-Ok-to_bytes.ensures;
      holds = addresses;
    })
    made.ensures.known made.ensures.ok made.ensures.too_short
