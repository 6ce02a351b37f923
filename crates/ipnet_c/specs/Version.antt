-- The version of the library.
use Rattle.std.specs.Prelude.{ℕ, ◌+◌, ◌*◌}

-- Calls that were removed or changed raise it.
abbrev pub major : ℕ
major = 1

-- New calls raise it.
abbrev pub minor : ℕ
minor = 1

-- Repairs raise it.
abbrev pub patch : ℕ
patch = 0

-- The version as one number. Example: version 1.2.3 is 1002003.
abbrev pub version_number : ℕ
version_number = major * 1000000 + minor * 1000 + patch
