-- After `i` bytes the text has the pieces of these bytes.
use Rattle.std.proofs.Common.{◌≡◌, ◌++◌, map, flat_map, take, string_bytes}
use Rattle.svg_text.specs.Escapes.{piece_text, octet}
use Rattle.svg_text.proofs.escape.push_octets.Given as goal

abbrev pub invariant-loop-byte : goal.invariant-loop-byte
invariant-loop-byte l =
    string_bytes l.text ≡ string_bytes l.fn.text ++ flat_map piece_text (map octet (take l.byte-index l.bytes))
