-- Outlines of free blocks: which networks are outlined, and what each outline has.
use Rattle.std.specs.Prelude.{◌≡◌, ℕ, zero, suc, ◌+◌, List, [], ◌++◌, filter, nat_eq, take, codes, decimal, None}
use Rattle.std.specs.Prelude.{Bool, true, false, string_bytes}
use Rattle.std.specs.List.{AllZip}
use Rattle.ipnet_base.specs.Address.{Address}
use Rattle.ipnet_base.specs.Blocks.{AreMaximalBlocks}
use Rattle.ipnet_base.specs.Network.{Network}
use Rattle.ipnet.specs.CanonicalTexts.{canonical_text}
use Rattle.ipnet_bars.specs.Summaries.{IsFree}
use Rattle.ipnet_maps.specs.Places.{IsRectangleIn}
use Rattle.svg_maps.specs.declared.outline.Outline.{Outline}
use Rattle.svg_maps.specs.declared.outline.OutlineClass.{OutlineClass}
use Rattle.svg_maps.specs.declared.outline.OutlineClass.TheVariants.{Free, LargestFree}

-- The networks of this prefix length, in order. Example: 10.0.0.12/30 of 10.0.0.10/31 and 10.0.0.12/30, for 30.
abbrev pub with_len : List Network → ℕ → List Network
with_len networks len = filter (λ n. nat_eq n.prefix_len len) networks

-- The networks of this many prefix lengths, from `len` on: the largest first, and networks of one size in order.
-- Example: 10.0.0.12/30, 10.0.0.10/31 for 10.0.0.10/31 and 10.0.0.12/30, and the 5 lengths from 28 on.
abbrev pub largest_first : List Network → ℕ → ℕ → List Network
largest_first networks len zero = []
largest_first networks len (suc n) = with_len networks len ++ largest_first networks (len + 1) n

-- The class of the outline of a free block, which may be drawn as the largest.
abbrev pub free_class : Bool → OutlineClass
free_class false = Free
free_class true = LargestFree

-- The text in a free block: its prefix length, or the whole network if it is drawn as the largest.
-- Example: `/24`, and `10.20.14.0/23`.
abbrev pub free_label : Bool → Network → List ℕ
free_label false n = codes "/" ++ decimal n.prefix_len
free_label true n = canonical_text n

-- The text above the label of a free block.
abbrev pub free_comment : Bool → List ℕ
free_comment false = []
free_comment true = codes "largest free block"

-- The outline is of this free block, which may be drawn as the largest: its class, its area, the text in it, and the
-- text above that. Example: `10.20.14.0/23`, and above it `largest free block`.
pub record IsFreeOutline (is_largest : Bool) (frame : Network) (depth : ℕ) (n : Network) (o : Outline) : Type 0 where
  pub class : o.class ≡ free_class is_largest
  pub area : IsRectangleIn frame depth n o.rectangle
  pub untitled : o.title ≡ None
  pub label : string_bytes o.label ≡ free_label is_largest n
  pub comment : string_bytes o.comment ≡ free_comment is_largest

-- The outlines are around the free blocks of the frame that are not smaller than a cell: around all of them if there
-- are at most 1,500, and otherwise around the 1,500 largest. A free block is a maximal block of the addresses of the
-- frame that the set lacks. The last outline is once more around the first of the largest.
-- Example: 10.0.0.12/30 and 10.0.0.10/31 in 10.0.0.0/28, for 10.0.0.0 to 10.0.0.9 and cells of one address; the last is
-- again of 10.0.0.12/30.
pub record AreFreeOutlines (InSet : Address → Type 0) (frame : Network) (depth : ℕ) (outlines : List Outline) : Type 0
  where
    pub blocks : List Network
    pub are_blocks : AreMaximalBlocks (IsFree InSet frame) 0 blocks
    pub each_outline : List Outline
    pub each : AllZip (IsFreeOutline false frame depth)
        (take 1500 (largest_first blocks frame.prefix_len (depth + 1))) each_outline
    pub largest_outline : List Outline
    pub largest : AllZip (IsFreeOutline true frame depth)
        (take 1 (largest_first blocks frame.prefix_len (depth + 1))) largest_outline
    pub all : outlines ≡ each_outline ++ largest_outline

-- The outlines of a map that shows the free blocks, or of one that does not.
abbrev pub AreOutlinesOf : Bool → (Address → Type 0) → Network → ℕ → List Outline → Type 0
AreOutlinesOf false InSet frame depth outlines = outlines ≡ []
AreOutlinesOf true InSet frame depth outlines = AreFreeOutlines InSet frame depth outlines
