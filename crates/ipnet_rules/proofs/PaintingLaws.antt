-- Painting the cells of a span: the free cells get an owner, and are skipped later.
use Rattle.std.proofs.Common.{◌≡◌, ◌≢◌, ℕ, ◌+◌, ◌<◌, ◌≤◌, ◌⊎◌, List, [], ◌∷◌, ◌++◌, length}
use Rattle.std.proofs.Common.{slice_index, get_or, take, arith, sym, subst, ◌∙◌, inl, inr}
use Rattle.ipnet_rules.specs.declared.cells.Painting.{Painting}
use Rattle.ipnet_rules.specs.declared.cells.Span.{Span}
use Rattle.ipnet_rules.specs.declared.cells.Piece.{Piece}
use Rattle.ipnet_rules.specs.Cells.{IsInPiece, IsInSpan, IsSpanOf, IsCutIn, owner_of, ArePainted}
use Rattle.ipnet_rules.proofs.VerdictLaws.{any_push}
use Rattle.ipnet_rules.proofs.CellLaws.{take_next}

-- the cells of the span before this one
abbrev pub IsInFront : Span → ℕ → ℕ → Type 0
IsInFront s stop cell = IsInSpan s cell × (cell < stop)

-- The cells of the span before `stop` are painted. A cell skips to a later one. A cell between the two is free only if
-- it is in the span and still to be painted.
pub record IsPainting (s : Span) (place : ℕ) (old now : Painting) (stop : ℕ) : Type 0 where
  pub started : s.start ≤ stop
  pub count : length now.skips.items ≡ length now.owners.items
  pub painted : ArePainted (IsInFront s stop) place old now
  pub later : (cell : ℕ) → cell < length now.owners.items → owner_of now cell ≢ now.free
      → (cell < slice_index now.skips.items cell) × (slice_index now.skips.items cell ≤ length now.owners.items)
      × ((d : ℕ) → cell ≤ d → d < slice_index now.skips.items cell
      → (owner_of now d ≢ now.free) ⊎ ((stop ≤ d) × (d < s.end) × (cell < stop)))

-- one piece more
painted_more : (cuts : List ℕ) (place : ℕ) (pieces : List Piece) (p : Piece) (s : Span) (old now new : Painting)
    → length old.owners.items ≡ length cuts → place ≢ old.free → IsSpanOf cuts p s
    → ArePainted (IsCutIn cuts pieces) place old now → ArePainted (IsInSpan s) place now new
    → ArePainted (IsCutIn cuts (pieces ++ p ∷ [])) place old new
painted_more cuts place pieces p s old now new count other is first second = record {
  cells = second.cells ∙ first.cells;
  of_free = second.of_free ∙ first.of_free;
  each = λ cell within.
      let both = any_push (IsInPiece (slice_index cuts cell)) pieces p in
      let inside = is.cells cell (omega (arith, within, count)) in
      elim (first.each cell within) [
        | inl a ↦ elim (second.each cell (omega (arith, within, first.cells))) [
          | inl b ↦ absurd (other (sym a.2 ∙ (b.1 ∙ first.of_free)))
          | inr b ↦ inl (both.1 (inl a.0), a.1, b.1 ∙ a.2)
        ]
        | inr a ↦ elim (second.each cell (omega (arith, within, first.cells))) [
          | inl b ↦ inl (both.1 (inr (inside.0 b.0)), sym a.1 ∙ (b.1 ∙ first.of_free), b.2)
          | inr b ↦ inr (
            λ any e. elim (both.0 any) [
              | inl front ↦ a.0 front e
              | inr last ↦ b.0 (inside.1 last) (a.1 ∙ (e ∙ sym first.of_free))
            ],
            b.1 ∙ a.1,
          )
        ]
      ];
}

-- one more of the pieces
pub painted_next : (cuts : List ℕ) (place : ℕ) (pieces : List Piece) (i : ℕ) (d : Piece) (s : Span)
    (old now new : Painting) → i < length pieces → length old.owners.items ≡ length cuts → place ≢ old.free
    → IsSpanOf cuts (get_or pieces i d) s → ArePainted (IsCutIn cuts (take i pieces)) place old now
    → ArePainted (IsInSpan s) place now new → ArePainted (IsCutIn cuts (take (i + 1) pieces)) place old new
painted_next cuts place pieces i d s old now new within count other is first second =
    subst (λ z. ArePainted (IsCutIn cuts z) place old new) (sym (take_next pieces i d within))
    (painted_more cuts place (take i pieces) (get_or pieces i d) s old now new count other is first second)
