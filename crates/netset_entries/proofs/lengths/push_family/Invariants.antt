-- The lines of the prefix lengths before this one.
use Rattle.std.proofs.Common.{◌≡◌, ◌++◌, List, ℕ, map, string_bytes}
use Rattle.ipnet.specs.NetworkOf.{ip_network}
use Rattle.netset_entries.specs.Lengths.{count_with, length_line}
use Rattle.netset_entries.specs.Spans.{family_of}
use Rattle.netset_entries.specs.TextParts.{AreTextParts}
use Rattle.netset_entries.proofs.lengths.push_family.Given as goal

abbrev pub invariant-loop-len : goal.invariant-loop-len
invariant-loop-len l = (lines : List ℕ) × AreTextParts (λ len line. line
    ≡ length_line (family_of l.family) len (count_with (family_of l.family) len (map ip_network l.networks))) 0 l.len
    lines × (string_bytes l.text ≡ string_bytes l.fn.text ++ lines)
