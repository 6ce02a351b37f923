-- A drawing of what is in the frame is a drawing of all.
use Rattle.std.proofs.Common.{ℕ, ◌+◌, ◌↔◌, List, [], ◌∷◌, All, Any, arith}
use Rattle.std.specs.List.{AllZip}
use Rattle.std.proofs.lemmas.List.Elements.{All-nil, All-cons, All-head, All-tail}
use Rattle.ipnet_base.specs.Address.{Address}
use Rattle.ipnet_base.specs.Network.{Network, InBlock, IsSubnetOf}
use Rattle.ipnet_base.specs.Blocks.{AreMaximalBlocks}
use Rattle.ipnet_base.proofs.UniqueLaws.{AreMaximalBlocks-same_set}
use Rattle.ipnet.specs.NetworkParts.{network_at}
use Rattle.ipnet_bars.specs.Parts.{HasSome}
use Rattle.ipnet_maps.specs.declared.class.Class.{Class}
use Rattle.ipnet_maps.specs.declared.drawing.Drawing.{Drawing}
use Rattle.ipnet_maps.specs.declared.layers.Layer.{Layer}
use Rattle.ipnet_maps.specs.Drawings.{IsShown, IsLayerOf, IsDrawingOf}
use Rattle.ipnet_maps.specs.Places.{IsDrawnIn}
use Rattle.ipnet_maps.proofs.CellLaws.{cell_has}
use Rattle.ipnet_maps.proofs.LevelWalkLaws.{cell_within}

module _ (frame : Network) (InPart InList : Address → Type 0) (HasPart HasClass : Class → Network → Type 0)
    (listed : (x : Address) → InBlock frame x → InPart x ↔ InList x)
    (class : (q : Class) (n : Network) → IsSubnetOf n frame → HasPart q n ↔ HasClass q n) where
  cell_inside : (depth : ℕ) (x : Address) → InBlock frame x → IsSubnetOf (network_at x (frame.prefix_len + depth)) frame
  cell_inside depth x inside =
      cell_within frame (frame.prefix_len + depth) x x (omega arith) (cell_has (frame.prefix_len + depth) x) inside

  shown_same : (q : Class) (depth : ℕ) (x : Address)
      → IsShown (HasPart q) frame depth x ↔ IsShown (HasClass q) frame depth x
  shown_same q depth x = (
    λ s. record {
      in_frame = s.in_frame;
      in_cell = record {
        fits = s.in_cell.fits;
        cell = (class q (network_at x (frame.prefix_len + depth)) (cell_inside depth x s.in_frame)).0 s.in_cell.cell;
      };
    },
    λ s. record {
      in_frame = s.in_frame;
      in_cell = record {
        fits = s.in_cell.fits;
        cell = (class q (network_at x (frame.prefix_len + depth)) (cell_inside depth x s.in_frame)).1 s.in_cell.cell;
      };
    },
  )

  layers_same : (depth : ℕ) (classes : List Class) (layers : List Layer)
      → AllZip (IsLayerOf HasPart frame depth) classes layers → AllZip (IsLayerOf HasClass frame depth) classes layers
  layers_same depth [] [] h = tt
  layers_same depth [] (layer ∷ layers) h = absurd h
  layers_same depth (q ∷ classes) [] h = absurd h
  layers_same depth (q ∷ classes) (layer ∷ layers) h = (
    (
      h.0.0,
      record {
        networks = h.0.1.networks;
        blocks = AreMaximalBlocks-same_set (IsShown (HasPart q) frame depth) (IsShown (HasClass q) frame depth) 0
            h.0.1.networks (shown_same q depth) h.0.1.blocks;
        each = h.0.1.each;
      },
    ),
    layers_same depth classes layers h.1,
  )

  cells_same : (depth : ℕ) (x : Address) → InBlock frame x → (layers : List Layer)
      → All (λ layer. Any (IsDrawnIn frame depth x) layer.rectangles.items
      ↔ HasPart layer.class (network_at x (frame.prefix_len + depth))) layers
      → All (λ layer. Any (IsDrawnIn frame depth x) layer.rectangles.items
      ↔ HasClass layer.class (network_at x (frame.prefix_len + depth))) layers
  cells_same depth x inside [] h = All-nil (λ layer. Any (IsDrawnIn frame depth x) layer.rectangles.items
      ↔ HasClass layer.class (network_at x (frame.prefix_len + depth)))
  cells_same depth x inside (layer ∷ layers) h =
      let cell = network_at x (frame.prefix_len + depth) in
      let P : Layer → Type 0
      = λ l. Any (IsDrawnIn frame depth x) l.rectangles.items ↔ HasPart l.class cell in
      let first = All-head P layer layers h in
      let same = class layer.class cell (cell_inside depth x inside) in
      All-cons (λ l. Any (IsDrawnIn frame depth x) l.rectangles.items ↔ HasClass l.class cell) layer layers
      (λ a. same.0 (first.0 a), λ p. first.1 (same.1 p)) (cells_same depth x inside layers (All-tail P layer layers h))

  some_same_list : (n : Network) → IsSubnetOf n frame → HasSome InPart n ↔ HasSome InList n
  some_same_list n within = (
    λ s. (
      s.0,
      record { in_block = s.1.in_block; in_set = (listed s.0 (within s.0 s.1.in_block)).0 s.1.in_set },
    ),
    λ s. (
      s.0,
      record { in_block = s.1.in_block; in_set = (listed s.0 (within s.0 s.1.in_block)).1 s.1.in_set },
    ),
  )

  blocks_same : (depth : ℕ) (classes : List Class) (networks : List (List Network))
      → AllZip (λ q list. AreMaximalBlocks (IsShown (HasClass q) frame depth) 0 list) classes networks
      → AllZip (λ q list. AreMaximalBlocks (IsShown (HasPart q) frame depth) 0 list) classes networks
  blocks_same depth [] [] h = tt
  blocks_same depth [] (list ∷ rest) h = absurd h
  blocks_same depth (q ∷ classes) [] h = absurd h
  blocks_same depth (q ∷ classes) (list ∷ rest) h = (
    AreMaximalBlocks-same_set (IsShown (HasClass q) frame depth) (IsShown (HasPart q) frame depth) 0 list
        (λ x. ((shown_same q depth x).1, (shown_same q depth x).0)) h.0,
    blocks_same depth classes rest h.1,
  )

  pub drawing_of_part : (classes : List Class) (d : Drawing) → IsDrawingOf InPart HasPart classes frame d
      → IsDrawingOf InList HasClass classes frame d
  drawing_of_part classes d h = record {
    layers = record {
      layers_of = layers_same d.depth classes d.layers.items h.layers.layers_of;
      cells = λ x inside. cells_same d.depth x inside d.layers.items (h.layers.cells x inside);
      covered = λ x inside.
          let cell = network_at x (frame.prefix_len + d.depth) in
          let before = h.layers.covered x inside in
          let same = some_same_list cell (cell_inside d.depth x inside) in
          (λ a. same.0 (before.0 a), λ s. before.1 (same.1 s));
      apart = h.layers.apart;
      few = h.layers.few;
    };
    depth = h.depth;
    greatest = λ deeper count more is_depth c. h.greatest deeper count more is_depth (record {
      networks = c.networks;
      blocks = blocks_same deeper classes c.networks c.blocks;
      total = c.total;
    });
  }
