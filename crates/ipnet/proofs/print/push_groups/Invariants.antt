-- Written are the groups so far, each in five bytes at most, and the first in four.
use Rattle.std.proofs.Common.{◌≡◌, ◌+◌, ◌*◌, ◌≤◌, ◌∷◌, ◌++◌, get_or, take}
use Rattle.std.specs.Net.Text.{groups_text}
use Rattle.arrayvec.specs.ArrayString.{array_string_len}
use Rattle.ipnet.proofs.print.push_groups.Given as goal

abbrev pub invariant-loop-group : goal.invariant-loop-group
invariant-loop-group l = record {
  bytes : l.out.bytes ≡ l.fn.out.bytes ++ groups_text (get_or l.groups 0 0 ∷ take l.group-index l.rest);
  short : array_string_len l.out ≤ array_string_len l.fn.out + (4 + 5 * l.group-index);
}
