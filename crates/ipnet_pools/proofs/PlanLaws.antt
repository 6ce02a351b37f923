-- Plans, one network after the other.
use Rattle.std.proofs.Common.{◌≡◌, ℕ, ◌+◌, List, [], ◌∷◌, ◌++◌, length, map, drop, Contains, All}
use Rattle.std.proofs.Common.{refl, sym, ap, ap₂, suc, zero, Result, Ok, Err, IfOk, IsOk, ◌∙◌, subst, arith, inl, inr}
use Rattle.std.proofs.lemmas.List.{drop_all, map-append, append-nil}
use Rattle.std.proofs.lemmas.List.Elements.{All-append}
use Rattle.std.proofs.Math.Seq.{append_snoc}
use Rattle.ipnet_base.specs.Address.{Family, Address}
use Rattle.ipnet_base.specs.Network.{Network, InBlock, AreDisjoint}
use Rattle.ipnet_base.specs.Blocks.{IsInside}
use Rattle.ipnet_base.proofs.ListLaws.{pairs_append, contains_cases, contains_nil, any_from_contains}
use Rattle.ipnet_base.proofs.CoverLaws.{cover_nil, cover_push}
use Rattle.ipnet_base.proofs.MaximalLaws.{IsInside-of_block}
use Rattle.ipnet_pools.specs.Fits.{HasRoom, Without, WithoutAll, IsBestFit}
use Rattle.ipnet_pools.specs.Placements.{Request, request_of, CanPlace}
use Rattle.ipnet_pools.specs.Plans.{requests_of, IsPlan, KeepsRoom}
use Rattle.ipnet_pools.specs.PlanSteps.{IsPlannedSoFar}
use Rattle.ipnet_pools.proofs.PlacementLaws.{room_of_first, CanPlace-more, place_disjoint}

-- a list of one
all_one : {X : Type 0} (P : X → Type 0) (x : X) → P x → All P (x ∷ [])
all_one P x p zero d l = p
all_one P x p (suc i) d l = absurd (omega (arith, l))

contains_one : {X : Type 0} (x y : X) → Contains (x ∷ []) y → x ≡ y
contains_one x y c = elim (contains_cases x [] y c) [ inl e ↦ e | inr none ↦ absurd (contains_nil y none) ]

pub planned_start : (S Left : Address → Type 0) (f : Family) (lengths : List ℕ) → ((x : Address) → Left x → S x)
    → ((x : Address) → S x → Left x) → IsPlannedSoFar S Left f lengths 0 []
planned_start S Left f lengths left back = record {
  requested = refl;
  inside = λ i d l. absurd (omega (arith, l));
  disjoint = λ i j d l m. absurd (omega (arith, m));
  left = left;
  apart = λ x h covered. cover_nil x covered;
  keeps = λ more. CanPlace-more (requests_of f lengths ++ more) S Left back;
}

module _ (S Old New : Address → Type 0) (f : Family) (lengths : List ℕ) (done p : ℕ) (networks : List Network)
    (here : drop done lengths ≡ p ∷ drop (done + 1) lengths)
    (so_far : IsPlannedSoFar S Old f lengths done networks) where
  pub planned_more : (n : Network) → IsBestFit Old f p n → ((x : Address) → New x → Without Old n x)
      → ((requests : List Request) → CanPlace Old ((f, p) ∷ requests) → CanPlace New requests)
      → IsPlannedSoFar S New f lengths (done + 1) (networks ++ n ∷ [])
  planned_more n best rest keeps = record {
    requested =
        ap (λ z. z ++ requests_of f (drop (done + 1) lengths)) (map-append request_of networks (n ∷ []))
        ∙ append_snoc (map request_of networks) (request_of n) (requests_of f (drop (done + 1) lengths))
        ∙ ap (λ z. map request_of networks ++ z ∷ requests_of f (drop (done + 1) lengths)) same_request
        ∙ ap (λ z. map request_of networks ++ requests_of f z) (sym here)
        ∙ so_far.requested;
    inside = All-append (IsInside S 0) networks (n ∷ []) so_far.inside
        (all_one (IsInside S 0) n (IsInside-of_block Old S 0 n best.fit.inside
        (λ x a. so_far.left x (best.fit.inside.within x a))));
    disjoint = pairs_append AreDisjoint networks (n ∷ []) so_far.disjoint (λ i j d l m. absurd (omega (arith, l, m)))
        (λ a b ca cb x ax bx. so_far.apart x
        (best.fit.inside.within x (subst (λ z. InBlock z x) (sym (contains_one n b cb)) bx))
        (any_from_contains (λ z. InBlock z x) networks a ca ax));
    left = λ x h. so_far.left x (rest x h).0;
    apart = λ x h c. elim ((cover_push networks n x).0 c) [
      | inl before ↦ so_far.apart x (rest x h).0 before
      | inr now ↦ (rest x h).1 now
    ];
    keeps = λ more place. keeps (requests_of f (drop (done + 1) lengths) ++ more)
        (subst (λ z. CanPlace Old (requests_of f z ++ more)) here (so_far.keeps more place));
  }
    where
      same_request : request_of n ≡ (f, p)
      same_request = ap₂ (λ a b. (a, b)) best.fit.of_family best.fit.of_length

  pub planned_none : ¬ (HasRoom Old f p) → ¬ (CanPlace S (requests_of f lengths))
  planned_none none place =
      none (room_of_first Old (f, p) (requests_of f (drop (done + 1) lengths) ++ [])
      (subst (λ z. CanPlace Old (requests_of f z ++ [])) here (so_far.keeps []
      (subst (CanPlace S) (sym (append-nil (requests_of f lengths))) place))))

pub planned_end : (S Left : Address → Type 0) (f : Family) (lengths : List ℕ) (networks : List Network)
    → IsPlannedSoFar S Left f lengths (length lengths) networks → IsPlan S f lengths networks
planned_end S Left f lengths networks h = record {
  requested = sym (append-nil (map request_of networks))
      ∙ ap (λ z. map request_of networks ++ requests_of f z) (sym (drop_all (length lengths) lengths (omega arith)))
      ∙ h.requested;
  inside = h.inside;
  disjoint = h.disjoint;
}

pub planned_keeps : (S Left : Address → Type 0) (f : Family) (lengths : List ℕ) (networks : List Network)
    → IsPlannedSoFar S Left f lengths (length lengths) networks → KeepsRoom S f lengths networks
planned_keeps S Left f lengths networks h = λ more place.
    CanPlace-more more Left (WithoutAll S networks) (λ x l. (h.left x l, h.apart x l))
    (subst (λ z. CanPlace Left (requests_of f z ++ more)) (drop_all (length lengths) lengths (omega arith))
    (h.keeps more place))

-- a plan shows that its requests can be placed
pub plan_places : (S : Address → Type 0) (f : Family) (lengths : List ℕ) (networks : List Network)
    → IsPlan S f lengths networks → CanPlace S (requests_of f lengths)
plan_places S f lengths networks plan =
    subst (CanPlace S) plan.requested (place_disjoint S networks plan.inside plan.disjoint)

pub answer_places : {T E : Type 0} (S : Address → Type 0) (f g : Family) (lengths : List ℕ)
    (networks : T → List Network)
    (r : Result T E) → f ≡ g → IfOk r (λ t. IsPlan S f lengths (networks t)) → IsOk r
    → CanPlace S (requests_of g lengths)
answer_places S f g lengths networks (Ok t) same plan ok =
    subst (λ z. CanPlace S (requests_of z lengths)) same (plan_places S f lengths (networks t) plan)
answer_places S f g lengths networks (Err e) same plan ok = absurd (cc)
