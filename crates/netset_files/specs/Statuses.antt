-- The exit statuses of the program.
use Rattle.std.specs.Prelude.{◌≡◌, ◌≤◌, ◌⊎◌, ◌&&◌, nat_le, if◌then◌else◌, ℕ, Bool}

-- An exit status of a run that skipped no bad line: 0, 1, 2, or 141 if the reader of standard output has closed it.
abbrev pub IsUsualStatus : ℕ → Type 0
IsUsualStatus status = (status ≤ 2) ⊎ (status ≡ 141)

-- An exit status of the program: one of these, or 3 if bad lines were skipped.
abbrev pub IsExitStatus : ℕ → Type 0
IsExitStatus status = IsUsualStatus status ⊎ (status ≡ 3)

-- The exit status of a run whose command ended with this status: 3 if bad lines were skipped and nothing failed.
-- Example: if bad lines were skipped, 3 instead of 0 and of 1, and 2 as without them.
abbrev pub status_after : (skipped : Bool) → ℕ → ℕ
status_after skipped status = if skipped && nat_le status 1 then 3 else status
