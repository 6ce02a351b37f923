-- The lines that are handed over, as contracts see them.
use Rattle.ipnet_lists.specs.declared.content_line.ContentLine.{ContentLine}
use Rattle.ipnet_lists.specs.ContentLines as lines

-- The line that a value represents.
abbrev pub line_of : ContentLine → lines.ContentLine
line_of l = record { number = l.number; text = l.text.now }
