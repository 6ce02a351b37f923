-- All cells so far are free.
use Rattle.std.proofs.Common.{◌≡◌, All, length}
use Rattle.ipnet_rules.proofs.cells.Painting.new.Given as goal

abbrev pub invariant-loop : goal.invariant-loop
invariant-loop l = (length l.owners.items ≡ l.counter) × (length l.skips.items ≡ l.counter)
    × All (λ owner. owner ≡ l.free) l.owners.items
