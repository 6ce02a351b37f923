-- The cells of a comparison, by set operations on the cells of what differs and of what does not.
use Rattle.std.proofs.Common.{◌↔◌, ℕ, inl, inr}
use Rattle.ipnet_base.specs.Address.{Address}
use Rattle.ipnet_base.specs.Network.{InBlock}
use Rattle.ipnet_base.proofs.DecidedLaws.{IsDecided}
use Rattle.ipnet.specs.NetworkParts.{network_at}
use Rattle.ipnet_bars.specs.declared.change.Change.TheVariants.{Removed, Mixed}
use Rattle.ipnet_bars.specs.Changes.{IsOnlyIn, IsChange}
use Rattle.ipnet_bars.specs.Parts.{HasSome, HasAll}
use Rattle.ipnet_maps.specs.Cells.{IsInCell, IsKeptPart, IsKeptWhole}
use Rattle.ipnet_maps.proofs.CellLaws.{some_same}

-- `DA` is what only the first set has, and `Gone` the cells with some of it; `DB` and `New` are of the second set.
module _ (A B DA DB Gone New : Address → Type 0) (len : ℕ) (of_a : (x : Address) → DA x ↔ (A x × ¬ (B x)))
    (of_b : (x : Address) → DB x ↔ (B x × ¬ (A x))) (gone : (x : Address) → Gone x ↔ IsInCell len (HasSome DA) x)
    (new : (x : Address) → New x ↔ IsInCell len (HasSome DB) x) where
  pub removed_cells : (x : Address) → (Gone x × ¬ (New x)) ↔ IsInCell len (λ n. IsChange A B n Removed) x
  removed_cells x = (
    λ h.
        let c = (gone x).0 h.0 in
        record {
          fits = c.fits;
          cell = (
            some_same DA (IsOnlyIn A B) (network_at x len) (λ y. (of_a y).0) c.cell,
            λ y near only. h.1 ((new x).1 (record {
              fits = c.fits;
              cell = (y, record { in_block = near; in_set = (of_b y).1 only });
            })),
          );
        },
    λ c. (
      (gone x).1 (record {
        fits = c.fits;
        cell = some_same (IsOnlyIn A B) DA (network_at x len) (λ y. (of_a y).1) c.cell.0;
      }),
      λ n.
          let k = ((new x).0 n).cell in
          c.cell.1 k.0 k.1.in_block ((of_b k.0).0 k.1.in_set),
    ),
  )

  pub mixed_cells : (x : Address) → (Gone x × New x) ↔ IsInCell len (λ n. IsChange A B n Mixed) x
  mixed_cells x = (
    λ h.
        let c = (gone x).0 h.0 in
        let d = (new x).0 h.1 in
        record {
          fits = c.fits;
          cell = (
            some_same DA (IsOnlyIn A B) (network_at x len) (λ y. (of_a y).0) c.cell,
            some_same DB (IsOnlyIn B A) (network_at x len) (λ y. (of_b y).0) d.cell,
          );
        },
    λ c. (
      (gone x).1 (record {
        fits = c.fits;
        cell = some_same (IsOnlyIn A B) DA (network_at x len) (λ y. (of_a y).1) c.cell.0;
      }),
      (new x).1 (record {
        fits = c.fits;
        cell = some_same (IsOnlyIn B A) DB (network_at x len) (λ y. (of_b y).1) c.cell.1;
      }),
    ),
  )

  module _ (Both Some Whole : Address → Type 0) (dec_a : IsDecided A) (dec_b : IsDecided B)
      (of_both : (x : Address) → Both x ↔ (A x × B x))
      (some : (x : Address) → Some x ↔ IsInCell len (HasSome Both) x)
      (whole : (x : Address) → Whole x ↔ IsInCell len (HasAll Both) x) where
    pub whole_cells : (x : Address) → Whole x ↔ IsInCell len (IsKeptWhole A B) x
    whole_cells x = (
      λ w.
          let c = (whole x).0 w in
          record {
            fits = c.fits;
            cell = (
              λ y near. ((of_both y).0 (c.cell y near)).0,
              λ y near. ((of_both y).0 (c.cell y near)).1,
            );
          },
      λ c. (whole x).1 (record {
        fits = c.fits;
        cell = λ y near. (of_both y).1 (c.cell.0 y near, c.cell.1 y near);
      }),
    )

    -- in a cell with no change, an address of one set is in the other
    in_second : (x y : Address) → IsInCell len (HasSome Both) x → ¬ (Gone x) → InBlock (network_at x len) y → A y → B y
    in_second x y c same near a = elim (dec_b y) [
      | inl b ↦ b
      | inr out ↦ absurd (same ((gone x).1 (record {
        fits = c.fits;
        cell = (y, record { in_block = near; in_set = (of_a y).1 (a, out) });
      })))
    ]

    in_first : (x y : Address) → IsInCell len (HasSome Both) x → ¬ (New x) → InBlock (network_at x len) y → B y → A y
    in_first x y c same near b = elim (dec_a y) [
      | inl a ↦ a
      | inr out ↦ absurd (same ((new x).1 (record {
        fits = c.fits;
        cell = (y, record { in_block = near; in_set = (of_b y).1 (b, out) });
      })))
    ]

    pub part_cells : (x : Address) → (((Some x × ¬ (Gone x)) × ¬ (New x)) × ¬ (Whole x))
        ↔ IsInCell len (IsKeptPart A B) x
    part_cells x = (
      λ h.
          let c = (some x).0 h.0.0.0 in
          record {
            fits = c.fits;
            cell = (
              (
                some_same Both A (network_at x len) (λ y b. ((of_both y).0 b).0) c.cell,
                λ y near. (in_second x y c h.0.0.1 near, in_first x y c h.0.1 near),
              ),
              λ all. h.1 ((whole x).1 (record {
                fits = c.fits;
                cell = λ y near. (of_both y).1 (all y near, in_second x y c h.0.0.1 near (all y near));
              })),
            );
          },
      λ c.
          let same = c.cell.0.1 in (
            (
              (
                (some x).1 (record {
                  fits = c.fits;
                  cell = (
                    c.cell.0.0.0,
                    record {
                      in_block = c.cell.0.0.1.in_block;
                      in_set = (of_both c.cell.0.0.0).1 (
                        c.cell.0.0.1.in_set,
                        (same c.cell.0.0.0 c.cell.0.0.1.in_block).0 c.cell.0.0.1.in_set,
                      );
                    },
                  );
                }),
                λ g.
                    let k = ((gone x).0 g).cell in
                    let only = (of_a k.0).0 k.1.in_set in
                    only.1 ((same k.0 k.1.in_block).0 only.0),
              ),
              λ n.
                  let k = ((new x).0 n).cell in
                  let only = (of_b k.0).0 k.1.in_set in
                  only.1 ((same k.0 k.1.in_block).1 only.0),
            ),
            λ w.
                let all = (whole x).0 w in
                c.cell.1 (λ y near. ((of_both y).0 (all.cell y near)).0),
          ),
    )

-- what is left after three sets were taken away, one after the other
pub left_of_three : {S G F N U W K : Type 0} → (F ↔ (S × ¬ G)) → (U ↔ (F × ¬ N)) → (K ↔ (U × ¬ W))
    → K ↔ (((S × ¬ G) × ¬ N) × ¬ W)
left_of_three f u k = (
  λ a.
      let b = k.0 a in
      let d = u.0 b.0 in
      ((f.0 d.0, d.1), b.1),
  λ a. k.1 (u.1 (f.1 a.0.0, a.0.1), a.1),
)
