use Rattle.std.proofs.Common.{◌≡◌, ◌+◌, length, refl, sym, subst, arith, string_bytes}
use Rattle.ipnet_sets.specs.Members.{IsMember}
use Rattle.netset_entries.specs.ListPairs.{ArePairsOf}
use Rattle.netset_entries.specs.TextParts.{AreTextParts}
use Rattle.netset_entries.proofs.PartLaws.{no_parts, parts_more}
use Rattle.netset_entries.proofs.pairs.pairs_text.Goals as goal

pub loop-index-init : goal.loop-index-init
loop-index-init c =
    let Is = ArePairsOf IsMember c.args.names.now c.args.sets.now in
    subst (AreTextParts Is 0 0) (sym c.new-text.ensures.bytes) (no_parts Is 0)

pub loop-index-preserved : goal.loop-index-preserved
loop-index-preserved c =
    let Is = ArePairsOf IsMember c.args.names.now c.args.sets.now in
    let (lines, are, text) = c.in_ok-push_pairs_of.ensures in
    let index = c.loop-index.index in
    subst (AreTextParts Is 0 (index + 1)) (sym text)
    (parts_more Is 0 index index (index + 1) (string_bytes c.loop-index.text) lines c.loop-index.invariant (omega arith)
    refl are)

pub returns : goal.returns
returns c =
    let Is = ArePairsOf IsMember c.args.names.now c.args.sets.now in
    let size : c.loop-index.index ≡ length c.args.sets.now
    = omega (arith, c.loop-index-test.false, c.loop-index.auto.index-end) in
    subst (λ n. AreTextParts Is 0 n (string_bytes c.loop-index.text)) size c.loop-index.invariant
