-- The first block for a request gives the best fit.
use Rattle.std.proofs.Common.{List, Contains, refl, arith, inl, inr}
use Rattle.ipnet_base.specs.Network.{Network, IsNetwork}
use Rattle.ipnet_base.specs.Blocks.{IsCoveredBy}
use Rattle.ipnet_base.proofs.DecidedLaws.{IsDecided-cover}
use Rattle.ipnet_pools.specs.Fits.{HasRoom, IsLargeEnough, IsBestFit}
use Rattle.ipnet_pools.specs.FitSteps.{HasRequested, IsFirstFor, shortened_to}
use Rattle.ipnet_pools.proofs.FitLaws.{large_enough_above, fit_at_start}
use Rattle.ipnet_pools.proofs.OwnLaws.{AreOwn}

module _ (blocks : List Network) (own_blocks : AreOwn blocks) (request : Network) where
  pub first_is_fit : (b : Network) → IsNetwork request → IsFirstFor blocks request b
      → IsBestFit (IsCoveredBy blocks) request.family request.prefix_len (shortened_to request.prefix_len b)
  first_is_fit b u best =
      let large : IsLargeEnough (IsCoveredBy blocks) request.family request.prefix_len b = record {
        maximal = (own_blocks b).0 best.member;
        of_family = best.requested.of_family;
        enough = best.requested.enough;
      } in
      record {
        fit = fit_at_start (IsCoveredBy blocks) request.family request.prefix_len b u.prefix_fits large;
        block = b;
        large_enough = large;
        smallest = λ k h.
            elim (best.smallest k ((own_blocks k).1 h.maximal)
            (record { of_family = h.of_family; enough = h.enough })) [
              | inl shorter ↦ omega (arith, shorter)
              | inr equal ↦ omega (arith, equal.0)
            ];
        lowest = λ k h same.
            elim (best.smallest k ((own_blocks k).1 h.maximal)
            (record { of_family = h.of_family; enough = h.enough })) [
              | inl shorter ↦ absurd (omega (arith, shorter, same))
              | inr (equal, or) ↦ or
            ];
        at_start = refl;
      }

  -- if no block is large enough, there is no room
  pub none_is_no_room : ((n : Network) → Contains blocks n → ¬ (HasRequested request n))
      → ¬ (HasRoom (IsCoveredBy blocks) request.family request.prefix_len)
  none_is_no_room none (n, fit) =
      let (b, large, within) = large_enough_above (IsCoveredBy blocks) (IsDecided-cover blocks) request.family
      request.prefix_len n fit in
      none b ((own_blocks b).1 large.maximal)
      (record { of_family = large.of_family; enough = large.enough })
