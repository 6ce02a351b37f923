-- A list with a refused line gives its number, and each other list its image.
use Rattle.std.proofs.Common.{◌≡◌, ◌<◌, length, get_or, sym, subst}
use Rattle.ipnet_sets.specs.Images.{IsImageOf}
use Rattle.ipnet_text.proofs.LineCuts.{some_bytes, no_bytes}
use Rattle.ipnet_lists.specs.RefusedLines.{RefusedLine}
use Rattle.ipnet_c.specs.ListReplies.{IsListReply}
use Rattle.ipnet_c.proofs.RefusedLists.{list_refused, list_compiled}
use Rattle.ipnet_c.proofs.set_lists.compile_list.Goals as goal

pub returns-then-not-is_empty : goal.returns-then-not-is_empty
returns-then-not-is_empty c =
    let list = c.in-Ok.list in
    let shown = c.as_slice-refused.ensures.value in
    let line = c.index-refused-0.result in
    subst (λ (z : RefusedLine). IsListReply c.args.grammar c.args.text.now c.args.buffer.now c.args.buffer.now
    c.args.count.now z.number 1)
    c.index-refused-0.is
    (list_refused c.args.grammar c.args.text.now c.args.buffer.now c.args.count.now list.set list.refused line
    c.in-Ok.ensures
    (subst (λ z. 0 < length z) shown (some_bytes (length c.as_slice-refused.result.now) c.if-not-is_empty.ensures))
    (subst (λ z. line ≡ get_or z 0 line) shown c.index-refused-0.is))

pub returns : goal.returns
returns c =
    let list = c.in-Ok.list in
    let made = c.write_to_buffer in
    let shown = c.as_slice-refused.ensures.value in
    list_compiled c.args.grammar c.args.text.now c.as_slice.result.now c.args.buffer.now made.new.buffer
    c.args.count.now made.new.count made.result list.set list.refused c.in-Ok.ensures
    (subst (λ z. length z ≡ 0) shown (no_bytes (length c.as_slice-refused.result.now) c.if-not-is_empty.ensures))
    (subst (λ z. IsImageOf z list.set) (sym c.as_slice.ensures.value) c.in-Ok-to_bytes.ensures)
    made.ensures.known made.ensures.ok made.ensures.too_short
