-- The groups so far, followed by the groups of the rest, are the groups of the text. Each turn adds a group, up to the
-- room.
use Rattle.std.proofs.Common.{◌≡◌, ◌-◌, ◌≤◌, length}
use Rattle.ipnet.specs.ReaderSteps.{read_groups, after}
use Rattle.ipnet.specs.ReaderState.{rest_of, IsForward}
use Rattle.ipnet.proofs.parser.reader.Reader.groups.Given as goal

abbrev pub invariant-next_group : goal.invariant-next_group
invariant-next_group l = record {
  fits : length l.groups.items ≤ l.room;
  forward : IsForward l.fn.self l.self;
  same : read_groups l.fn.self.grammar l.room l.fn.first.digits.now (rest_of l.fn.self)
      ≡ after l.groups.items
      (read_groups l.fn.self.grammar (l.room - length l.groups.items) l.run.digits.now (rest_of l.self));
}

abbrev pub decreases-next_group : goal.decreases-next_group
decreases-next_group l = l.room - length l.groups.items
