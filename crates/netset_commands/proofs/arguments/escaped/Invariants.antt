-- each word so far has its escaped form
use Rattle.std.proofs.Common.{◌≡◌, map, string_bytes, take}
use Rattle.ipnet_lists.specs.Reports.{escaped}
use Rattle.netset_commands.proofs.arguments.escaped.Given as goal

abbrev pub invariant-loop-word : goal.invariant-loop-word
invariant-loop-word l =
    map string_bytes l.shown.items ≡ map (λ word. escaped (string_bytes word)) (take l.word-index l.words)
