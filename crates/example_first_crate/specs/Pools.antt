-- The free addresses of a pool.
use Rattle.ipnet.specs.Address.{Address}
use Rattle.ipnet_sets.specs.Members.{IsMember}
use Rattle.example_first_crate.specs.declared.pool.Pool.{Pool}

-- The address is free.
-- Example: 10.0.0.5 is free in the pool of 10.0.0.0/29, and taken once 10.0.0.4/30 was allocated.
abbrev pub IsFree : Pool → Address → Type 0
IsFree pool = IsMember pool.free
