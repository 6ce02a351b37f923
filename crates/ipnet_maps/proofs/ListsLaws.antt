-- The sets that a map shows: their classes, and how many bits of them a map can show.
use Rattle.std.proofs.Common.{◌≡◌, ℕ, ◌+◌, ◌-◌, ◌<◌, ◌⊎◌, ◌↔◌, inl, inr, ap, ◌∙◌, subst, sym, arith}
use Rattle.std.proofs.Common.{List, [], ◌∷◌, Any}
use Rattle.std.specs.List.{AllZip}
use Rattle.std.proofs.lemmas.Slice.Zip.{AllZip-long}
use Rattle.std.proofs.lemmas.Bool.{cases_eq}
use Rattle.ipnet_base.specs.Address.{Address}
use Rattle.ipnet_base.specs.Network.{Network, InBlock, IsSubnetOf}
use Rattle.ipnet_base.specs.Blocks.{IsInEither}
use Rattle.ipnet_sets.specs.declared.set.IpSet.{IpSet}
use Rattle.ipnet_sets.specs.Members.{IsMember}
use Rattle.ipnet_sets.proofs.SetEqualLaws.{member_or_not}
use Rattle.ipnet_sets.proofs.SetRangeLaws.{any_cases}
use Rattle.ipnet_sets.specs.Parts.{IsInPart}
use Rattle.ipnet_bars.proofs.PartLaws.{part_of_part}
use Rattle.ipnet_maps.specs.declared.class.Class.TheVariants.{Overlap, Several}
use Rattle.ipnet_maps.specs.declared.drawing.Drawing.{Drawing}
use Rattle.ipnet_maps.specs.declared.drawing.Lists.{Lists}
use Rattle.ipnet_maps.specs.declared.drawing.Lists.TheVariants as lists
use Rattle.ipnet_maps.specs.Classes.{HasLevelClass, level_classes, HasChangeClass, change_classes}
use Rattle.ipnet_maps.specs.Classes.{HasSharedClass, single_classes, shared_classes}
use Rattle.ipnet_maps.specs.Drawings.{IsDepthOf, IsRectangleCount, IsDrawingOf}
use Rattle.ipnet_maps.specs.Lists.{IsPartOf, IsListed, HasClass, classes_of, IsTooDeepAfter, IsTooDeep, IsDrawnAt}
use Rattle.ipnet_maps.specs.Lists.{AreDivided}
use Rattle.ipnet_maps.specs.Runs.{HasManyRuns}
use Rattle.ipnet_maps.proofs.ChangeClassLaws.{classes_of_change, change_class_of_part}
use Rattle.ipnet_maps.proofs.ClassLaws.{classes_of_levels, level_class_of_part, level_class_decided}
use Rattle.ipnet_maps.proofs.DrawingLaws.{AreClasses}
use Rattle.ipnet_maps.proofs.DrawnPartLaws.{drawing_of_part}
use Rattle.ipnet_maps.proofs.MemberLaws.{zip_weaker}
use Rattle.ipnet_maps.proofs.RunLaws.{many_runs}
use Rattle.ipnet_maps.proofs.SharedClassLaws.{HaveSameIn, any_moved, shared_class_moved, shared_class_turned}
use Rattle.ipnet_maps.proofs.SharedClassLaws.{classes_of_sets}

pub classes_of_lists : (lists : Lists) → AreClasses (IsListed lists) (HasClass lists) (classes_of lists)
classes_of_lists (lists.One set) = classes_of_levels (IsMember set.now) (member_or_not set.now)
classes_of_lists (lists.Change before after) =
    classes_of_change (IsMember before.now) (IsMember after.now) (member_or_not before.now) (member_or_not after.now)
classes_of_lists (lists.Several sets) = classes_of_sets sets.now

-- ---- fewer bits

-- more parts than a map may have rectangles have more rectangles
pub divided_too_deep : (lists : Lists) (frame : Network) (depth prefix_len len : ℕ) → prefix_len ≡ frame.prefix_len
    → len ≡ prefix_len + depth → 16 < depth → ((x : Address) → IsListed lists x → InBlock frame x)
    → AreDivided lists len → IsTooDeep lists frame depth
divided_too_deep (lists.One set) frame depth prefix_len len p e more inside many = (
  more,
  many_runs (IsMember set.now) (HasLevelClass (IsMember set.now)) level_classes frame depth
      (classes_of_levels (IsMember set.now) (member_or_not set.now)) inside (λ x m. m.fits)
      (level_class_decided (IsMember set.now) (member_or_not set.now))
      (subst (HasManyRuns (IsMember set.now)) (e ∙ ap (λ z. z + depth) p) many),
)
divided_too_deep (lists.Change before after) frame depth prefix_len len p e more inside many = absurd many
divided_too_deep (lists.Several sets) frame depth prefix_len len p e more inside many = absurd many

pub depth_less : (frame : Network) (depth : ℕ) → IsDepthOf frame depth → 16 < depth → IsDepthOf frame (depth - 2)
depth_less frame depth h more = record {
  short = omega (arith, h.short);
  fits = omega (arith, h.fits);
  parity = omega (arith, h.parity, more);
}

pub deeper_less : (lists : Lists) (frame : Network) (depth : ℕ) → IsDepthOf frame depth
    → IsTooDeepAfter lists frame depth → IsTooDeep lists frame depth → IsTooDeepAfter lists frame (depth - 2)
deeper_less lists frame depth h after here deeper count more is c = elim (cases_eq deeper depth) [
  | inl e ↦ here.1 count (subst (λ z. IsRectangleCount (HasClass lists) (classes_of lists) frame z count) e c)
  | inr ne ↦ after deeper count (omega (arith, more, ne, here.0, is.parity, h.parity)) is c
]

pub drawing_done : (lists : Lists) (frame : Network) (depth : ℕ) (d : Drawing) → IsDepthOf frame depth
    → IsTooDeepAfter lists frame depth → IsDrawnAt lists frame depth d
    → IsDrawingOf (IsListed lists) (HasClass lists) (classes_of lists) frame d
drawing_done lists frame depth d h after drawn = record {
  layers = drawn.1;
  depth = subst (IsDepthOf frame) (sym drawn.0) h;
  greatest = subst (IsTooDeepAfter lists frame) (sym drawn.0) after;
}

-- ---- what is in the frame

-- in a block of the frame, a set has what its part has
part_member : (set part : IpSet) (frame n : Network)
    → ((x : Address) → IsMember part x ↔ IsInPart (IsMember set) frame x) → IsSubnetOf n frame → (x : Address)
    → InBlock n x → IsMember part x ↔ IsMember set x
part_member set part frame n is within x near = (
  λ p. ((is x).0 p).in_set,
  λ s. (is x).1 (record { in_block = within x near; in_set = s }),
)

turned : {P Q : Type 0} → (P ↔ Q) → Q ↔ P
turned h = (h.1, h.0)

pub set_drawing : (set part : IpSet) (frame : Network)
    → ((x : Address) → IsMember part x ↔ IsInPart (IsMember set) frame x) → (d : Drawing)
    → IsDrawingOf (IsMember part) (HasLevelClass (IsMember part)) level_classes frame d
    → IsDrawingOf (IsMember set) (HasLevelClass (IsMember set)) level_classes frame d
set_drawing set part frame is d h =
    drawing_of_part frame (IsMember part) (IsMember set) (HasLevelClass (IsMember part)) (HasLevelClass (IsMember set))
    (λ x inside. part_member set part frame frame is (λ y b. b) x inside)
    (λ q n within.
    let same = part_of_part (IsMember set) (IsMember part) frame n is within in (
      level_class_of_part (IsMember part) (IsMember set) q n same,
      level_class_of_part (IsMember set) (IsMember part) q n (λ x. turned (same x)),
    )) level_classes d h

either_same : {A B C D : Type 0} → (A ↔ C) → (B ↔ D) → (A ⊎ B) ↔ (C ⊎ D)
either_same f g = (
  λ e. elim e [ inl a ↦ inl (f.0 a) | inr b ↦ inr (g.0 b) ],
  λ e. elim e [ inl c ↦ inl (f.1 c) | inr d ↦ inr (g.1 d) ],
)

pub change_drawing : (before after first second : IpSet) (frame : Network)
    → ((x : Address) → IsMember first x ↔ IsInPart (IsMember before) frame x)
    → ((x : Address) → IsMember second x ↔ IsInPart (IsMember after) frame x) → (d : Drawing)
    → IsDrawingOf (IsInEither (IsMember first) (IsMember second)) (HasChangeClass (IsMember first) (IsMember second))
    change_classes frame d
    → IsDrawingOf (IsInEither (IsMember before) (IsMember after)) (HasChangeClass (IsMember before) (IsMember after))
    change_classes frame d
change_drawing before after first second frame is_first is_second d h =
    drawing_of_part frame (IsInEither (IsMember first) (IsMember second))
    (IsInEither (IsMember before) (IsMember after)) (HasChangeClass (IsMember first) (IsMember second))
    (HasChangeClass (IsMember before) (IsMember after))
    (λ x inside. either_same (part_member before first frame frame is_first (λ y b. b) x inside)
    (part_member after second frame frame is_second (λ y b. b) x inside))
    (λ q n within.
    let a = part_member before first frame n is_first within in
    let b = part_member after second frame n is_second within in (
      change_class_of_part (IsMember first) (IsMember second) (IsMember before) (IsMember after) q n a b,
      change_class_of_part (IsMember before) (IsMember after) (IsMember first) (IsMember second) q n
          (λ x near. turned (a x near)) (λ x near. turned (b x near)),
    )) change_classes d h

pub parts_inside : (frame : Network) (sets parts : List IpSet) → AllZip (IsPartOf frame) sets parts → (x : Address)
    → Any (λ set. IsMember set x) parts → InBlock frame x
parts_inside frame [] [] z x a = absurd (omega (arith, a.2))
parts_inside frame [] (p ∷ parts) z x a = absurd z
parts_inside frame (s ∷ sets) [] z x a = absurd z
parts_inside frame (s ∷ sets) (p ∷ parts) z x a = elim (any_cases (λ set. IsMember set x) p parts a) [
  | inl here ↦ ((z.0 x).0 here).in_block
  | inr later ↦ parts_inside frame sets parts z.1 x later
]

-- the parts of the sets have the same addresses of a block of the frame
parts_same : (frame n : Network) → IsSubnetOf n frame → (sets parts : List IpSet) → AllZip (IsPartOf frame) sets parts
    → AllZip (HaveSameIn n) sets parts
parts_same frame n within =
    zip_weaker (IsPartOf frame) (HaveSameIn n)
    (λ set part is x near. turned (part_member set part frame n is within x near))

pub sets_drawing : (sets parts : List IpSet) (frame : Network) → AllZip (IsPartOf frame) sets parts → (d : Drawing)
    → IsDrawingOf (λ x. Any (λ set. IsMember set x) parts) (HasSharedClass parts) (shared_classes parts) frame d
    → IsDrawingOf (λ x. Any (λ set. IsMember set x) sets) (HasSharedClass sets) (shared_classes sets) frame d
sets_drawing sets parts frame are d h =
    let same : shared_classes parts ≡ shared_classes sets
    = ap (λ z. Overlap ∷ Several ∷ single_classes 0 z) (AllZip-long (IsPartOf frame) sets parts are) in
    drawing_of_part frame (λ x. Any (λ set. IsMember set x) parts) (λ x. Any (λ set. IsMember set x) sets)
    (HasSharedClass parts) (HasSharedClass sets)
    (λ x inside. turned (any_moved sets parts frame (parts_same frame frame (λ y b. b) sets parts are) x inside))
    (λ q n within.
    let zip = parts_same frame n within sets parts are in (
      shared_class_turned sets parts n zip q,
      shared_class_moved sets parts n n (λ x b. b) (λ x b. b) zip q,
    )) (shared_classes sets) d
    (subst (λ z. IsDrawingOf (λ x. Any (λ set. IsMember set x) parts) (HasSharedClass parts) z frame d) same h)
