use Rattle.std.proofs.Common.{◌≡◌, ◌++◌, [], false, nat_eq, sym, ap, ◌∙◌, subst}
use Rattle.std.specs.List.{starts_with}
use Rattle.std.specs.Io.KnownBytes.{Consumes}
use Rattle.ipnet_text.specs.Window.{held}
use Rattle.ipnet_lists.specs.Lists.{byte_order_mark}
use Rattle.ipnet_lists.proofs.MarkLaws.{mark_cut, past_mark, past_none, long_or_over}
use Rattle.ipnet_lists.proofs.mark.begin_input.Goals as goal

pub returns-then-starts_with : goal.returns-then-starts_with
returns-then-starts_with g c =
    let rest = g.R.Read.remaining in
    let bytes = held c.loop.window in
    let cut : bytes ≡ byte_order_mark ++ held c.take.new.self =
    mark_cut bytes (sym c.if-starts_with.true ∙ c.starts_with.ensures.value
    ∙ ap (λ z. starts_with nat_eq z byte_order_mark) c.held-held.ensures.value)
    ∙ ap (λ z. byte_order_mark ++ z) (sym c.take.ensures) in
    record {
      mark = byte_order_mark;
      read = subst (Consumes (rest c.args.input.now) (rest c.loop.input)) cut c.loop.invariant.read;
      past = λ later over. past_mark (held c.take.new.self ++ later);
      end = c.loop.invariant.end;
    }

pub returns-else-starts_with : goal.returns-else-starts_with
returns-else-starts_with g c =
    let bytes = held c.loop.window in
    let none : false ≡ starts_with nat_eq bytes byte_order_mark =
    sym c.if-starts_with.false ∙ c.starts_with.ensures.value
    ∙ ap (λ z. starts_with nat_eq z byte_order_mark) c.held-held.ensures.value in
    record {
      mark = [];
      read = c.loop.invariant.read;
      past = λ later over. past_none bytes later c.loop.more none
          (long_or_over bytes c.held-held.result.now c.loop.more c.held-held.ensures.value c.then-held-ge3.either) over;
      end = c.loop.invariant.end;
    }
