-- A `Result` that is `Ok` for one value at most, as parsers and decoders return it.
use Rattle.std.specs.Prelude.{◌≡◌, ◌↔◌, Result, Ok}

-- The result is `Ok` of a value if and only if the value has the property; if no value has it, the result is an error.
-- Example: `ipv4_mask_to_prefix` is `Ok` exactly at the length whose netmask it is given: `Ok(25)` for 255.255.255.128,
-- and an error for 255.0.255.0, which is the netmask of no length.
abbrev pub IsOkExactlyAt : {N E : Type 0} → Result N E → (N → Type 0) → Type 0
IsOkExactlyAt {N} result P = (n : N) → (result ≡ Ok n) ↔ P n
