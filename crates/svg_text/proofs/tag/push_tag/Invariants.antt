-- After `i` attributes the text has the name and these attributes.
use Rattle.std.proofs.Common.{◌≡◌, ◌++◌, map, take, string_bytes}
use Rattle.svg_text.specs.Documents.{mark_of, tag_text}
use Rattle.svg_text.proofs.tag.push_tag.Given as goal

abbrev pub invariant-loop-attribute : goal.invariant-loop-attribute
invariant-loop-attribute l =
    string_bytes l.text
    ≡ string_bytes l.fn.text ++ tag_text l.fn.name (map mark_of (take l.attribute-index l.attributes))
