-- The flags of the cells so far.
use Rattle.std.proofs.Common.{◌≡◌, ◌<◌, ◌↔◌, ℕ, true, false, length, get_or}
use Rattle.ipnet_rules.proofs.compiled.permitted_cells.Given as goal

abbrev pub invariant-loop-owner : goal.invariant-loop-owner
invariant-loop-owner l = (length l.permitted.items ≡ l.owner-index) × ((cell : ℕ) → cell < l.owner-index
    → (get_or l.permitted.items cell false ≡ true) ↔ (get_or l.owner-items cell 0 ≡ 1))
