-- The window on the bytes that are read, as contracts see it.
-- Only private contracts use these.
use Rattle.std.specs.Prelude.{ℕ, List, slice_range}
use Rattle.ipnet_text.specs.declared.window.Window.{Window}

-- The bytes in the window.
abbrev pub held : Window → List ℕ
held w = slice_range w.bytes.items w.start w.end
