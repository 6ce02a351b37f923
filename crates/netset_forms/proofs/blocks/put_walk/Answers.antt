-- Each turn puts the item of the first network that is left.
use Rattle.std.proofs.Common.{◌≡◌, ◌++◌, ap, sym, subst, ◌∙◌, false}
use Rattle.ipnet.specs.NetworkOf.{ip_network}
use Rattle.ipnet.specs.SubnetsLeft.{ip_subnets_left}
use Rattle.ipnet_text.specs.Pieces.{IsInPieces}
use Rattle.netset_forms.specs.FormSteps.{layout_of, item_text, items_of, front_in, none_after, lead_of, IsCut}
use Rattle.netset_forms.specs.FormSteps.{IsPutUpTo, number_after}
use Rattle.netset_forms.specs.Forms.{next_number}
use Rattle.netset_forms.proofs.PieceLaws.{up_to_start, up_to_more, up_to_cut, up_to_end, put_then, cut_first, cut_then}
use Rattle.netset_forms.proofs.PieceLaws.{if_err}
use Rattle.netset_forms.proofs.ItemLaws.{no_items, front_step, none_step, number_step}
use Rattle.netset_forms.proofs.blocks.put_walk.Goals as goal

pub loop-network-init : goal.loop-network-init
loop-network-init g c =
    let layout = layout_of c.args.part.now.frame in
    let item = c.args.part.now.item in
    let all = ip_subnets_left c.args.walk in
    let same = ap (λ z. ip_subnets_left z) c.into_iter-network-iterator.ensures.into_iter_gives in record {
      up_to = subst (λ z. IsPutUpTo (g.W.Write.contents c.args.out.now) (g.W.Write.contents c.args.out.now)
          c.args.piece.now.bytes c.args.piece.now.bytes
          (front_in layout c.args.place.none (items_of item c.args.place.number z))
          (front_in layout c.args.place.none (items_of item c.args.place.number all))) (sym same)
          (up_to_start (g.W.Write.contents c.args.out.now) c.args.piece.now.bytes
          (front_in layout c.args.place.none (items_of item c.args.place.number all)));
      now_is = ap (λ z. none_after c.args.place.none (items_of item c.args.place.number z)) same;
      number_is = ap (number_after c.args.place.number) same;
    }

pub loop-network-preserved : goal.loop-network-preserved
loop-network-preserved g c =
    let held = g.W.Write.contents in
    let layout = layout_of c.args.part.now.frame in
    let item = c.args.part.now.item in
    let now = c.loop-network.now.none in
    let number = c.loop-network.now.number in
    let n = ip_network c.in-Some.network in
    let left = ip_subnets_left c.loop-network.network-iterator in
    let later = ip_subnets_left c.next.new.self in
    let start = held c.args.out.now in
    let here = held c.loop-network.out in
    let middle = held c.put.new.out in
    let end = held c.put_item.new.out in
    let whole = front_in layout c.args.place.none (items_of item c.args.place.number (ip_subnets_left c.args.walk)) in
    let lead : IsInPieces here middle c.put.new.piece.bytes (c.loop-network.piece.bytes ++ lead_of layout now) =
    subst (λ z. IsInPieces here middle c.put.new.piece.bytes (c.loop-network.piece.bytes ++ z)) c.lead.ensures
    c.in_ok-put.ensures.ok in
    let is : next_number number ≡ c.following.result = sym c.following.ensures in record {
      up_to = subst (λ z. IsPutUpTo start end c.args.piece.now.bytes c.put_item.new.piece.bytes
          (front_in layout false (items_of item z later)) whole) is
          (up_to_more start here end c.args.piece.now.bytes c.loop-network.piece.bytes c.put_item.new.piece.bytes
          (front_in layout now (items_of item number left)) (lead_of layout now ++ item_text item number n)
          (front_in layout false (items_of item (next_number number) later)) whole
          c.loop-network.invariant.up_to (front_step layout item number now left later n c.in-Some.ensures.steps)
          (put_then here middle end c.loop-network.piece.bytes c.put.new.piece.bytes c.put_item.new.piece.bytes
          (lead_of layout now) (item_text item number n) lead c.in_ok-put_item.ensures.ok));
      now_is = subst (λ z. none_after false (items_of item z later)
          ≡ none_after c.args.place.none (items_of item c.args.place.number (ip_subnets_left c.args.walk))) is
          (none_step layout item number now left later n c.in-Some.ensures.steps ∙ c.loop-network.invariant.now_is);
      number_is = subst (λ z. number_after z later
          ≡ number_after c.args.place.number (ip_subnets_left c.args.walk)) is
          (number_step layout item number now left later n c.in-Some.ensures.steps
          ∙ c.loop-network.invariant.number_is);
    }

pub returns-in_err-put-clause-cut : goal.returns-in_err-put-clause-cut
returns-in_err-put-clause-cut g c =
    let held = g.W.Write.contents in
    let layout = layout_of c.args.part.now.frame in
    let item = c.args.part.now.item in
    let now = c.loop-network.now.none in
    let number = c.loop-network.now.number in
    let n = ip_network c.in-Some.network in
    let left = ip_subnets_left c.loop-network.network-iterator in
    let later = ip_subnets_left c.next.new.self in
    let here = held c.loop-network.out in
    let end = held c.put.new.out in
    if_err c.from_residual.result
    (up_to_cut (held c.args.out.now) here end c.args.piece.now.bytes c.loop-network.piece.bytes
    (front_in layout now (items_of item number left)) (lead_of layout now ++ item_text item number n)
    (front_in layout false (items_of item (next_number number) later))
    (front_in layout c.args.place.none (items_of item c.args.place.number (ip_subnets_left c.args.walk)))
    c.loop-network.invariant.up_to (front_step layout item number now left later n c.in-Some.ensures.steps)
    (cut_first here end c.loop-network.piece.bytes (lead_of layout now) (item_text item number n)
    (subst (IsCut here end c.loop-network.piece.bytes) c.lead.ensures c.in_err-put.ensures.cut)))

pub returns-in_err-put_item-clause-cut : goal.returns-in_err-put_item-clause-cut
returns-in_err-put_item-clause-cut g c =
    let held = g.W.Write.contents in
    let layout = layout_of c.args.part.now.frame in
    let item = c.args.part.now.item in
    let now = c.loop-network.now.none in
    let number = c.loop-network.now.number in
    let n = ip_network c.in-Some.network in
    let left = ip_subnets_left c.loop-network.network-iterator in
    let later = ip_subnets_left c.next.new.self in
    let here = held c.loop-network.out in
    let middle = held c.put.new.out in
    let end = held c.put_item.new.out in
    let lead : IsInPieces here middle c.put.new.piece.bytes (c.loop-network.piece.bytes ++ lead_of layout now) =
    subst (λ z. IsInPieces here middle c.put.new.piece.bytes (c.loop-network.piece.bytes ++ z)) c.lead.ensures
    c.in_ok-put.ensures.ok in
    if_err c.from_residual-in_err-put_item.result
    (up_to_cut (held c.args.out.now) here end c.args.piece.now.bytes c.loop-network.piece.bytes
    (front_in layout now (items_of item number left)) (lead_of layout now ++ item_text item number n)
    (front_in layout false (items_of item (next_number number) later))
    (front_in layout c.args.place.none (items_of item c.args.place.number (ip_subnets_left c.args.walk)))
    c.loop-network.invariant.up_to (front_step layout item number now left later n c.in-Some.ensures.steps)
    (cut_then here middle end c.loop-network.piece.bytes c.put.new.piece.bytes (lead_of layout now)
    (item_text item number n) lead c.in_err-put_item.ensures.cut))

pub returns-clause-none : goal.returns-clause-none
returns-clause-none g c =
    let item = c.args.part.now.item in
    let now = c.loop-network.now in
    sym (ap (none_after now.none) (no_items item now.number))
    ∙ sym (ap (λ z. none_after now.none (items_of item now.number z)) c.in-None.ensures.steps.0)
    ∙ c.loop-network.invariant.now_is

pub returns-clause-number : goal.returns-clause-number
returns-clause-number g c =
    sym (ap (number_after c.loop-network.now.number) c.in-None.ensures.steps.0) ∙ c.loop-network.invariant.number_is

pub returns-clause-ok : goal.returns-clause-ok
returns-clause-ok g c =
    let held = g.W.Write.contents in
    let layout = layout_of c.args.part.now.frame in
    let item = c.args.part.now.item in
    let now = c.loop-network.now in
    up_to_end (held c.args.out.now) (held c.loop-network.out) c.args.piece.now.bytes c.loop-network.piece.bytes
    (front_in layout now.none (items_of item now.number (ip_subnets_left c.loop-network.network-iterator)))
    (front_in layout c.args.place.none (items_of item c.args.place.number (ip_subnets_left c.args.walk)))
    (ap (λ z. front_in layout now.none (items_of item now.number z)) c.in-None.ensures.steps.0
    ∙ ap (front_in layout now.none) (no_items item now.number))
    c.loop-network.invariant.up_to
