-- The layers of a map: their rectangles lie apart, they are few, and they show what they are to show.
use Rattle.std.proofs.Common.{◌≡◌, ◌≢◌, ℕ, ◌+◌, ◌-◌, ◌/◌, ◌^◌, ◌<◌, ◌≤◌, ◌⊎◌, ◌↔◌, inl, inr}
use Rattle.std.proofs.Common.{List, [], ◌∷◌, ◌++◌, length, All, AllPairs, Any, Contains}
use Rattle.std.proofs.Common.{refl, sym, ap, ◌∙◌, subst, arith}
use Rattle.std.specs.List.{AllZip}
use Rattle.std.proofs.Math.Nat.{pow-le-pow_right}
use Rattle.std.proofs.lemmas.Bool.{cases_lt}
use Rattle.std.proofs.lemmas.List.{length-append}
use Rattle.std.proofs.lemmas.List.Elements.{All-nil, All-cons, Contains-append_cases}
use Rattle.std.proofs.lemmas.Nat.{pow_pos}
use Rattle.std.proofs.lemmas.Slice.Zip.{AllZip-long}
use Rattle.ipnet_base.specs.Address.{IPv4, Address, IsAddress, address_at, width}
use Rattle.ipnet_base.specs.Network.{Network, IsNetwork, InBlock, IsSubnetOf, AreDisjoint}
use Rattle.ipnet_base.specs.Blocks.{IsMaximal, AreMaximalBlocks}
use Rattle.ipnet_base.specs.Ranges.{AddressRange, addresses_of}
use Rattle.ipnet_base.proofs.BlockLaws.{own, own_in}
use Rattle.ipnet_base.proofs.ListLaws.{contains_nil, contains_here, contains_there, pairs_head, pairs_tail}
use Rattle.ipnet_base.proofs.ListLaws.{pairs_append}
use Rattle.ipnet_base.proofs.ListLaws.{contains_cases, pairs_from_members, partners_no_more}
use Rattle.ipnet_base.proofs.RangeLaws.{length-addresses_of, contains_from_between}
use Rattle.ipnet_base.proofs.UniqueLaws.{AreMaximalBlocks-same_set, maximal_blocks_apart}
use Rattle.ipnet.specs.NetworkParts.{network_at}
use Rattle.ipnet_sets.specs.Members.{IsMember}
use Rattle.ipnet_sets.proofs.SetRangeLaws.{any_cases, any_here, any_there}
use Rattle.ipnet_bars.specs.Parts.{HasSome}
use Rattle.ipnet_maps.specs.declared.layout.Rectangle.{Rectangle}
use Rattle.ipnet_maps.specs.declared.class.Class.{Class}
use Rattle.ipnet_maps.specs.declared.layers.Layer.{Layer}
use Rattle.ipnet_maps.specs.declared.layers.ClassCells.{ClassCells}
use Rattle.ipnet_maps.specs.Drawings.{IsShown, IsLayerOf, all_rectangles, total_of, IsRectangleCount, AreLayersOf}
use Rattle.ipnet_maps.specs.Layers.{IsClassCells, AreCellsIn, IsLayerOfCells}
use Rattle.ipnet_maps.specs.Places.{cell_in, IsRectangleIn, IsDrawnIn}
use Rattle.ipnet_maps.specs.Shared.{IsInTwo}
use Rattle.ipnet_maps.proofs.CellLaws.{cell_has, one_cell, cell_turned, cell_address}
use Rattle.ipnet_maps.proofs.LevelWalkLaws.{cell_within}
use Rattle.ipnet_maps.proofs.PlaceLaws.{same_block, cell_fits, network_is_rectangle, block_is_large, drawn_each}

-- ---- lists of lists

-- all members of all lists
abbrev flat : {X : Type 0} → List (List X) → List X
flat [] = []
flat (xs ∷ rest) = xs ++ flat rest

length_flat : {X : Type 0} (xss : List (List X)) → length (flat xss) ≡ total_of xss
length_flat [] = refl
length_flat (xs ∷ rest) = length-append xs (flat rest) ∙ ap (λ z. length xs + z) (length_flat rest)

pub zip_append : {X Y : Type 0} (R : X → Y → Type 0) (xs us : List X) (ys vs : List Y) → AllZip R xs ys → AllZip R us vs
    → AllZip R (xs ++ us) (ys ++ vs)
zip_append R [] us [] vs h k = k
zip_append R [] us (y ∷ ys) vs h k = absurd h
zip_append R (x ∷ xs) us [] vs h k = absurd h
zip_append R (x ∷ xs) us (y ∷ ys) vs h k = (h.0, zip_append R xs us ys vs h.1 k)

any_append : {X : Type 0} (P : X → Type 0) (xs ys : List X) → Any P (xs ++ ys) ↔ (Any P xs ⊎ Any P ys)
any_append P [] ys = (λ a. inr a, λ e. elim e [ inl a ↦ absurd (omega (arith, a.2)) | inr a ↦ a ])
any_append P (x ∷ xs) ys = (
  λ a. elim (any_cases P x (xs ++ ys) a) [
    | inl first ↦ inl (any_here P x xs first)
    | inr later ↦ elim ((any_append P xs ys).0 later) [
      | inl b ↦ inl (any_there P x xs b)
      | inr c ↦ inr c
    ]
  ],
  λ e. elim e [
    | inl b ↦ elim (any_cases P x xs b) [
      | inl first ↦ any_here P x (xs ++ ys) first
      | inr later ↦ any_there P x (xs ++ ys) ((any_append P xs ys).1 (inl later))
    ]
    | inr c ↦ any_there P x (xs ++ ys) ((any_append P xs ys).1 (inr c))
  ],
)

-- ---- what is known of the classes of a map

-- Two names of one cell: a network of the same length with the same addresses.
pub record IsSameCell (n k : Network) : Type 0 where
  pub family : n.family ≡ k.family
  pub length : n.prefix_len ≡ k.prefix_len
  pub to : IsSubnetOf n k
  pub from : IsSubnetOf k n

pub record AreClasses (InList : Address → Type 0) (HasClass : Class → Network → Type 0) (classes : List Class)
    : Type 0 where
  -- no class is listed twice, and no cell has two
  pub distinct : AllPairs (λ q r. q ≢ r) classes
  pub one : (q r : Class) (n : Network) → HasClass q n → HasClass r n → q ≡ r
  -- a cell has a class if and only if it has an address that is in a list
  pub some : (q : Class) (n : Network) → HasClass q n → HasSome InList n
  pub total : (n : Network) → HasSome InList n → (q : Class) × Contains classes q × HasClass q n
  -- the class does not depend on how the cell is named
  pub same : (q : Class) (n k : Network) → IsSameCell n k → HasClass q n → HasClass q k

same_cell : (len : ℕ) (x y : Address) → InBlock (network_at x len) y → IsSameCell (network_at x len) (network_at y len)
same_cell len x y near = record {
  family = sym near.same_family;
  length = refl;
  to = λ z a. one_cell len y x z (cell_turned len x y near) a;
  from = λ z a. one_cell len x y z near a;
}

module _ (InList : Address → Type 0) (HasClass : Class → Network → Type 0) (frame : Network) (depth : ℕ)
    (frame_valid : IsNetwork frame) (fits : frame.prefix_len + depth ≤ width frame.family)
    (same : (q : Class) (n k : Network) → IsSameCell n k → HasClass q n → HasClass q k)
    (one : (q r : Class) (n : Network) → HasClass q n → HasClass r n → q ≡ r) where
  abbrev len : ℕ
  len = frame.prefix_len + depth

  abbrev Shown : Class → Address → Type 0
  Shown q = IsShown (HasClass q) frame depth

  -- a cell with an address of the frame lies in the frame
  cell_in_frame : (x : Address) → InBlock frame x → IsSubnetOf (network_at x len) frame
  cell_in_frame x inside = cell_within frame len x x (omega arith) (cell_has len x) inside

  shown_whole : (q : Class) (x y : Address) → Shown q x → InBlock (network_at x len) y → Shown q y
  shown_whole q x y s near = record {
    in_frame = cell_in_frame x s.in_frame y near;
    in_cell = record {
      fits = cell_address len x y s.in_cell.fits near;
      cell = same q (network_at x len) (network_at y len) (same_cell len x y near) s.in_cell.cell;
    };
  }

  -- The network is valid, lies in the frame and is a cell or larger.
  abbrev IsOfMap : Network → Type 0
  IsOfMap n = IsNetwork n × IsSubnetOf n frame × (n.prefix_len ≤ len)

  maximal_of_map : (q : Class) (n : Network) → IsMaximal (Shown q) 0 n → IsOfMap n
  maximal_of_map q n max = (
    max.inside.network,
    λ x a. (max.inside.within x a).in_frame,
    block_is_large (Shown q) len n (shown_whole q) max,
  )

  abbrev AreBlocks : List Class → List (List Network) → Type 0
  AreBlocks = AllZip (λ q list. AreMaximalBlocks (Shown q) 0 list)

  flat_member : (classes : List Class) (networks : List (List Network)) → AreBlocks classes networks → (n : Network)
      → Contains (flat networks) n → (q : Class) × Contains classes q × IsMaximal (Shown q) 0 n
  flat_member [] [] h n c = absurd (contains_nil n c)
  flat_member [] (list ∷ rest) h n c = absurd h
  flat_member (q ∷ classes) [] h n c = absurd h
  flat_member (q ∷ classes) (list ∷ rest) h n c = elim (Contains-append_cases list (flat rest) n c) [
    | inl d ↦ (q, contains_here q classes, (h.0.members n).0 d)
    | inr d ↦ let r = flat_member classes rest h.1 n d in (r.0, contains_there q classes r.0 r.1, r.2)
  ]

  flat_of_map : (classes : List Class) (networks : List (List Network)) → AreBlocks classes networks → (n : Network)
      → Contains (flat networks) n → IsOfMap n
  flat_of_map classes networks h n c =
      let r = flat_member classes networks h n c in maximal_of_map r.0 n r.2

  flat_apart : (classes : List Class) (networks : List (List Network)) → AllPairs (λ q r. q ≢ r) classes
      → AreBlocks classes networks → AllPairs AreDisjoint (flat networks)
  flat_apart [] [] distinct h = λ i j d l m. absurd (omega (arith, m))
  flat_apart [] (list ∷ rest) distinct h = absurd h
  flat_apart (q ∷ classes) [] distinct h = absurd h
  flat_apart (q ∷ classes) (list ∷ rest) distinct h =
      pairs_append AreDisjoint list (flat rest) (maximal_blocks_apart (Shown q) 0 list h.0)
      (flat_apart classes rest (pairs_tail (λ a b. a ≢ b) q classes distinct) h.1)
      (λ n m c d x in_n in_m.
      let r = flat_member classes rest h.1 m d in
      let s = ((h.0.members n).0 c).inside.within x in_n in
      let t = r.2.inside.within x in_m in
      pairs_head (λ a b. a ≢ b) q classes distinct r.0 r.1
      (one q r.0 (network_at x len) s.in_cell.cell t.in_cell.cell))

  -- ---- at most one network for each cell

  same_number : (x y : Address) → IsAddress x → InBlock frame x → InBlock frame y
      → cell_in frame depth x ≡ cell_in frame depth y → InBlock (network_at x len) y
  same_number x y fits_x in_x in_y e =
      let w : width x.family ≡ width frame.family = ap width in_x.same_family in
      let valid : IsNetwork (network_at x len)
      = record { address_fits = fits_x; prefix_fits = omega (arith, w, fits) } in
      let none : frame.prefix_len + depth - len ≡ 0 = omega arith in
      let whole : cell_in frame depth y / 2 ^ 0 ≡ cell_in frame depth y = omega arith in
      (same_block frame (network_at x len) depth valid frame_valid fits (cell_in_frame x in_x) (omega arith) y in_y).1
      (ap (λ z. cell_in frame depth y / 2 ^ z) none ∙ whole ∙ sym e)

  few_networks : (ns : List Network) → ((n : Network) → Contains ns n → IsOfMap n) → AllPairs AreDisjoint ns
      → length ns ≤ 2 ^ depth
  few_networks ns each apart =
      let some : 0 < 2 ^ depth = pow_pos depth in
      let numbers : AddressRange = record { family = IPv4; start = 0; end = 2 ^ depth - 1 } in
      let is_number = λ (n : Network) (y : Address). y.number ≡ cell_in frame depth (own n) in
      let all = partners_no_more is_number ns (addresses_of numbers) (λ n c.
      let of_map = each n c in
      let small = cell_fits frame n depth of_map.0 frame_valid fits of_map.1 of_map.2 (own n) in (
        address_at IPv4 (cell_in frame depth (own n)),
        contains_from_between numbers (address_at IPv4 (cell_in frame depth (own n)))
            (record { of_family = refl; from_start = omega arith; to_end = omega (arith, small) }),
        refl,
      )) (pairs_from_members AreDisjoint (λ n m. (y : Address) → is_number n y → is_number m y → ⊥) ns
      (λ n m c d far y e g.
      let of_n = each n c in
      let of_m = each m d in
      let near = same_number (own n) (own m) of_n.0.address_fits (of_n.1 (own n) (own_in n)) (of_m.1 (own m) (own_in m))
      (sym e ∙ g) in
      far (own m) (cell_within n len (own n) (own n) of_n.2 (cell_has len (own n)) (own_in n) (own m) near)
      (own_in m)) apart) in
      omega (arith, all, length-addresses_of numbers, some)

  -- ---- the rectangles of the networks

  rectangles_apart : (x : Address) → InBlock frame x → (ns : List Network) (rs : List Rectangle)
      → ((n : Network) → Contains ns n → IsOfMap n) → AllPairs AreDisjoint ns → AllZip (IsRectangleIn frame depth) ns rs
      → ¬ (IsInTwo (IsDrawnIn frame depth x) rs)
  rectangles_apart x inside [] [] each apart z two = two
  rectangles_apart x inside [] (r ∷ rs) each apart z two = absurd z
  rectangles_apart x inside (n ∷ ns) [] each apart z two = absurd z
  rectangles_apart x inside (n ∷ ns) (r ∷ rs) each apart z two =
      let after = λ (m : Network) (c : Contains ns m). each m (contains_there n ns m c) in
      elim two [
        | inl first ↦
            let of_map = each n (contains_here n ns) in
            let here = (network_is_rectangle frame n depth of_map.0 frame_valid fits of_map.1 of_map.2 r z.0 x inside).1
            first.0 in
            let there = (drawn_each frame depth frame_valid fits x inside ns rs after z.1).1 first.1 in
            pairs_head AreDisjoint n ns apart there.1 (there.0, there.2, there.3) x here there.4
        | inr later ↦ rectangles_apart x inside ns rs after (pairs_tail AreDisjoint n ns apart) z.1 later
      ]

  record AreListed (classes : List Class) (layers : List Layer) : Type 0 where
    networks : List (List Network)
    blocks : AreBlocks classes networks
    each : AllZip (IsRectangleIn frame depth) (flat networks) (all_rectangles layers)

  listed : (classes : List Class) (layers : List Layer) → AllZip (IsLayerOf HasClass frame depth) classes layers
      → AreListed classes layers
  listed [] [] h = record { networks = []; blocks = tt; each = tt }
  listed [] (layer ∷ layers) h = absurd h
  listed (q ∷ classes) [] h = absurd h
  listed (q ∷ classes) (layer ∷ layers) h =
      let rest = listed classes layers h.1 in
      record {
        networks = h.0.1.networks ∷ rest.networks;
        blocks = (h.0.1.blocks, rest.blocks);
        each = zip_append (IsRectangleIn frame depth) h.0.1.networks (flat rest.networks) layer.rectangles.items
            (all_rectangles layers) h.0.1.each rest.each;
      }

  pub layers_apart : (classes : List Class) (layers : List Layer) → AllPairs (λ q r. q ≢ r) classes
      → AllZip (IsLayerOf HasClass frame depth) classes layers → (x : Address) → InBlock frame x
      → ¬ (IsInTwo (IsDrawnIn frame depth x) (all_rectangles layers))
  layers_apart classes layers distinct h x inside =
      let all = listed classes layers h in
      rectangles_apart x inside (flat all.networks) (all_rectangles layers)
      (flat_of_map classes all.networks all.blocks) (flat_apart classes all.networks distinct all.blocks) all.each

  pub layers_few : (classes : List Class) (layers : List Layer) → AllPairs (λ q r. q ≢ r) classes
      → AllZip (IsLayerOf HasClass frame depth) classes layers
      → ((networks : List (List Network)) → AreBlocks classes networks → (depth ≤ 16) ⊎ (total_of networks ≤ 65536))
      → length (all_rectangles layers) ≤ 65536
  layers_few classes layers distinct h small =
      let all = listed classes layers h in
      let long = AllZip-long (IsRectangleIn frame depth) (flat all.networks) (all_rectangles layers) all.each in
      elim (small all.networks all.blocks) [
        | inl le ↦
            let few = few_networks (flat all.networks) (flat_of_map classes all.networks all.blocks)
            (flat_apart classes all.networks distinct all.blocks) in
            let most : 2 ^ depth ≤ 2 ^ 16 = pow-le-pow_right {n = 2} (omega arith) le in
            omega (arith, long, few, most)
        | inr few ↦ omega (arith, long, length_flat all.networks, few)
      ]

  -- ---- the cells of each class

  module _ (within : (x : Address) → InList x → InBlock frame x)
      (some : (q : Class) (n : Network) → HasClass q n → HasSome InList n) where
    -- a cell with a class has an address of the frame
    class_in_frame : (q : Class) (x : Address) → HasClass q (network_at x len) → InBlock frame x
    class_in_frame q x k =
        let y = some q (network_at x len) k in
        cell_in_frame y.0 (within y.0 y.1.in_set) x (cell_turned len x y.0 y.1.in_block)

    shown_cells : (q : Class) (c : ClassCells) → IsClassCells HasClass len q c → (x : Address)
        → IsMember c.cells x ↔ Shown q x
    shown_cells q c h x = (
      λ m. let i = (h.1 x).0 m in record { in_frame = class_in_frame q x i.cell; in_cell = i },
      λ s. (h.1 x).1 s.in_cell,
    )

    pub cells_in : (classes : List Class) (cells : List ClassCells) → AllZip (IsClassCells HasClass len) classes cells
        → All (AreCellsIn frame depth) cells
    cells_in [] [] h = All-nil (AreCellsIn frame depth)
    cells_in [] (c ∷ cells) h = absurd h
    cells_in (q ∷ classes) [] h = absurd h
    cells_in (q ∷ classes) (c ∷ cells) h =
        let shown = shown_cells q c h.0 in
        All-cons (AreCellsIn frame depth) c cells (record {
          inside = λ x m. ((shown x).0 m).in_frame;
          whole = λ x y m near. (shown y).1 (shown_whole q x y ((shown x).0 m) near);
        }) (cells_in classes cells h.1)

    pub cells_blocks : (classes : List Class) (cells : List ClassCells) (networks : List (List Network))
        → AllZip (IsClassCells HasClass len) classes cells → AreBlocks classes networks
        → AllZip (λ c list. AreMaximalBlocks (IsMember c.cells) 0 list) cells networks
    cells_blocks [] [] [] h b = tt
    cells_blocks [] [] (list ∷ rest) h b = absurd b
    cells_blocks [] (c ∷ cells) networks h b = absurd h
    cells_blocks (q ∷ classes) [] networks h b = absurd h
    cells_blocks (q ∷ classes) (c ∷ cells) [] h b = absurd b
    cells_blocks (q ∷ classes) (c ∷ cells) (list ∷ rest) h b =
        let shown = shown_cells q c h.0 in (
          AreMaximalBlocks-same_set (Shown q) (IsMember c.cells) 0 list (λ x. ((shown x).1, (shown x).0)) b.0,
          cells_blocks classes cells rest h.1 b.1,
        )

    pub layers_of_classes : (classes : List Class) (cells : List ClassCells) (layers : List Layer)
        → AllZip (IsClassCells HasClass len) classes cells → AllZip (IsLayerOfCells frame depth) cells layers
        → AllZip (IsLayerOf HasClass frame depth) classes layers
    layers_of_classes [] [] [] h k = tt
    layers_of_classes [] [] (layer ∷ layers) h k = absurd k
    layers_of_classes [] (c ∷ cells) layers h k = absurd h
    layers_of_classes (q ∷ classes) [] layers h k = absurd h
    layers_of_classes (q ∷ classes) (c ∷ cells) [] h k = absurd k
    layers_of_classes (q ∷ classes) (c ∷ cells) (layer ∷ layers) h k = (
      (
        k.0.of_class ∙ h.0.0,
        record {
          networks = k.0.rectangles.networks;
          blocks = AreMaximalBlocks-same_set (IsMember c.cells) (Shown q) 0 k.0.rectangles.networks
              (shown_cells q c h.0) k.0.rectangles.blocks;
          each = k.0.rectangles.each;
        },
      ),
      layers_of_classes classes cells layers h.1 k.1,
    )

    -- a layer shows the cell of an address if and only if the cell has its class
    shows_class : (q : Class) (c : ClassCells) (layer : Layer) → IsClassCells HasClass len q c
        → IsLayerOfCells frame depth c layer → (x : Address) → InBlock frame x
        → Any (IsDrawnIn frame depth x) layer.rectangles.items ↔ HasClass q (network_at x len)
    shows_class q c layer h k x inside = (
      λ a. ((h.1 x).0 ((k.shown x inside).1 a)).cell,
      λ p. (k.shown x inside).0 ((h.1 x).1 (record { fits = frame_address x inside; cell = p })),
    )
      where
        frame_address : (z : Address) → InBlock frame z → IsAddress z
        frame_address z a = cell_address frame.prefix_len (own frame) z frame_valid.address_fits
            (record { same_family = a.same_family; same_prefix = a.same_prefix })

    pub layers_show : (classes : List Class) (cells : List ClassCells) (layers : List Layer)
        → AllZip (IsClassCells HasClass len) classes cells → AllZip (IsLayerOfCells frame depth) cells layers
        → (x : Address) → InBlock frame x → All (λ layer. Any (IsDrawnIn frame depth x) layer.rectangles.items
        ↔ HasClass layer.class (network_at x len)) layers
    layers_show [] [] [] h k x inside = All-nil (λ layer. Any (IsDrawnIn frame depth x) layer.rectangles.items
        ↔ HasClass layer.class (network_at x len))
    layers_show [] [] (layer ∷ layers) h k x inside = absurd k
    layers_show [] (c ∷ cells) layers h k x inside = absurd h
    layers_show (q ∷ classes) [] layers h k x inside = absurd h
    layers_show (q ∷ classes) (c ∷ cells) [] h k x inside = absurd k
    layers_show (q ∷ classes) (c ∷ cells) (layer ∷ layers) h k x inside =
        All-cons (λ layer. Any (IsDrawnIn frame depth x) layer.rectangles.items
        ↔ HasClass layer.class (network_at x len)) layer layers
        (subst (λ z. Any (IsDrawnIn frame depth x) layer.rectangles.items ↔ HasClass z (network_at x len))
        (sym (k.0.of_class ∙ h.0.0)) (shows_class q c layer h.0 k.0 x inside))
        (layers_show classes cells layers h.1 k.1 x inside)

    pub layers_cover : (classes : List Class) (cells : List ClassCells) (layers : List Layer)
        → AllZip (IsClassCells HasClass len) classes cells → AllZip (IsLayerOfCells frame depth) cells layers
        → (x : Address) → InBlock frame x → Any (IsDrawnIn frame depth x) (all_rectangles layers)
        ↔ ((q : Class) × Contains classes q × HasClass q (network_at x len))
    layers_cover [] [] [] h k x inside =
        (λ a. absurd (omega (arith, a.2)), λ q. absurd (contains_nil q.0 q.1))
    layers_cover [] [] (layer ∷ layers) h k x inside = absurd k
    layers_cover [] (c ∷ cells) layers h k x inside = absurd h
    layers_cover (q ∷ classes) [] layers h k x inside = absurd h
    layers_cover (q ∷ classes) (c ∷ cells) [] h k x inside = absurd k
    layers_cover (q ∷ classes) (c ∷ cells) (layer ∷ layers) h k x inside =
        let here = shows_class q c layer h.0 k.0 x inside in
        let rest = layers_cover classes cells layers h.1 k.1 x inside in
        let both = any_append (IsDrawnIn frame depth x) layer.rectangles.items (all_rectangles layers) in (
          λ a. elim (both.0 a) [
            | inl first ↦ (q, contains_here q classes, here.0 first)
            | inr later ↦ let r = rest.0 later in (r.0, contains_there q classes r.0 r.1, r.2)
          ],
          λ r. both.1 (elim (contains_cases q classes r.0 r.1) [
            | inl e ↦ inl (here.1 (subst (λ z. HasClass z (network_at x len)) (sym e) r.2))
            | inr d ↦ inr (rest.1 (r.0, d, r.2))
          ]),
        )

-- ---- the layers of a map

module _ (InList : Address → Type 0) (HasClass : Class → Network → Type 0) (classes : List Class) (frame : Network)
    (depth : ℕ) (frame_valid : IsNetwork frame) (fits : frame.prefix_len + depth ≤ width frame.family)
    (h : AreClasses InList HasClass classes) (within : (x : Address) → InList x → InBlock frame x) where
  pub whole_cells_in : (cells : List ClassCells)
      → AllZip (IsClassCells HasClass (frame.prefix_len + depth)) classes cells → All (AreCellsIn frame depth) cells
  whole_cells_in cells of_cells =
      cells_in InList HasClass frame depth frame_valid fits h.same h.one within h.some classes cells of_cells

  pub layers_shown : (cells : List ClassCells) (layers : List Layer)
      → AllZip (IsClassCells HasClass (frame.prefix_len + depth)) classes cells
      → AllZip (IsLayerOfCells frame depth) cells layers
      → ((networks : List (List Network)) → AllZip (λ c list. AreMaximalBlocks (IsMember c.cells) 0 list) cells networks
      → (depth ≤ 16) ⊎ (total_of networks ≤ 65536)) → AreLayersOf InList HasClass classes frame depth layers
  layers_shown cells layers of_cells of_layers small =
      let both = layers_of_classes InList HasClass frame depth frame_valid fits h.same h.one within h.some classes cells
      layers of_cells of_layers in
      record {
        layers_of = both;
        cells = layers_show InList HasClass frame depth frame_valid fits h.same h.one within h.some classes cells layers
            of_cells of_layers;
        covered = λ x inside.
            let cell = network_at x (frame.prefix_len + depth) in
            let cover = layers_cover InList HasClass frame depth frame_valid fits h.same h.one within h.some classes
            cells layers of_cells of_layers x inside in (
              λ a. let q = cover.0 a in h.some q.0 cell q.2,
              λ some. cover.1 (h.total cell some),
            );
        apart = layers_apart InList HasClass frame depth frame_valid fits h.same h.one classes layers h.distinct both;
        few = layers_few InList HasClass frame depth frame_valid fits h.same h.one classes layers h.distinct both
            (λ networks blocks. small networks (cells_blocks InList HasClass frame depth frame_valid fits h.same h.one
            within h.some classes cells networks of_cells blocks));
      }

  pub too_many : (cells : List ClassCells)
      → AllZip (IsClassCells HasClass (frame.prefix_len + depth)) classes cells
      → ((networks : List (List Network)) → AllZip (λ c list. AreMaximalBlocks (IsMember c.cells) 0 list) cells networks
      → ¬ (total_of networks ≤ 65536)) → (count : ℕ) → IsRectangleCount HasClass classes frame depth count
      → 65536 < count
  too_many cells of_cells many count c =
      let blocks = cells_blocks InList HasClass frame depth frame_valid fits h.same h.one within h.some classes cells
      c.networks of_cells c.blocks in
      elim (cases_lt 65536 count) [
        | inl lt ↦ lt
        | inr le ↦ absurd (many c.networks blocks (omega (arith, le, c.total)))
      ]
