-- The report of an answer that was not written.
use Rattle.std.specs.Prelude.{◌≡◌, ℕ, List, codes, Option}
use Rattle.netset_entries.specs.declared.lines.WriteFailure.{WriteFailure}
use Rattle.netset_entries.specs.declared.lines.WriteFailure.TheVariants.{Refused, Memory, Unwritable}
use Rattle.netset_lib.specs.Reports.{words_line, unwritable}

-- The report was written, as `Is` has it: as a whole, or a front of it. Nothing is said of the report of refused lines.
abbrev pub IsWriteReported : ((List ℕ → Type 0) → Option (List ℕ) → Option (List ℕ) → Type 0) → WriteFailure
    → Option (List ℕ) → Option (List ℕ) → Type 0
IsWriteReported Is (Refused first second) held held_after = Unit {0}
IsWriteReported Is Memory held held_after = Is (λ t. t ≡ words_line (codes "out of memory")) held held_after
IsWriteReported Is Unwritable held held_after = Is (λ t. t ≡ words_line unwritable) held held_after
