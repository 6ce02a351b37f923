use Rattle.std.proofs.Common.{◌++◌, sym, ap, ◌∙◌, append_assoc}
use Rattle.ipnet_text.specs.Window.{held}
use Rattle.ipnet_lists.proofs.reading.Reading.go_on.Goals as goal

pub returns : goal.returns
returns g c =
    let (given, is, read) = c.in_ok-more.ensures.read in
    let next = c.make_room.new.self in
    record {
      given = given;
      is = ap (λ z. next.carry.items ++ z) is ∙ sym (append_assoc next.carry.items (held next.window) given)
          ∙ ap (λ z. z ++ given) c.in_ok-make_room.ensures.pending;
      same_lines = c.make_room.ensures.same_lines;
      read = read;
      end = c.in_ok-more.ensures.end;
    }
