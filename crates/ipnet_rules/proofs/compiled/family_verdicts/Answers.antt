-- The lists of flags, one length after another.
use Rattle.std.proofs.Common.{◌≡◌, ◌+◌, [], ◌∷◌, ◌++◌, length, sym, subst, arith, rules}
use Rattle.std.proofs.lemmas.List.{length-append}
use Rattle.ipnet_rules.specs.Cells.{family_of, AreCuts}
use Rattle.ipnet_rules.specs.CompiledLists.{ArePlaced, ArePermittedCells, AreFlagsOfLength, AreFlagsByLength}
use Rattle.ipnet_rules.proofs.CompiledLaws.{cuts_of_networks, flags_push, flags_of_length}
use Rattle.ipnet_rules.proofs.compiled.family_verdicts.Goals as goal

pub loop-prefix_len-preserved : goal.loop-prefix_len-preserved
loop-prefix_len-preserved c =
    let f = family_of c.args.family in
    let list = c.args.rules.now in
    let cuts = c.in_ok-cuts.cuts.items in
    let placed = c.in_ok-placed.placed.items in
    let i = c.loop-prefix_len.prefix_len in
    let lists = c.loop-prefix_len.permitted.items in
    let v = c.in_ok-cells.cells in
    let inv = c.loop-prefix_len.invariant in
    let count : c.len.result ≡ length cuts = search rules in
    let own = subst (λ n. ArePermittedCells i placed n v.items) count
    (subst (λ ps. ArePermittedCells i ps c.len.result v.items) c.as_slice-in-loop-prefix_len.ensures.value
    c.in_ok-cells.ensures) in
    let places = subst (λ ks. ArePlaced f ks list placed) c.as_slice-2.ensures.value c.in_ok-placed.ensures in
    let flags = subst (λ n. AreFlagsOfLength f list cuts n v.items) (sym inv.0)
    (flags_of_length f cuts list placed i v.items places own) in
    let size : length (lists ++ v ∷ []) ≡ i + 1 = omega (arith, length-append lists (v ∷ []), inv.0) in
    subst (λ xs. (length xs ≡ i + 1) × AreFlagsByLength f list cuts xs) (sym c.in_ok-push.ensures.items)
    (size, flags_push f list cuts lists v inv.1 flags)

pub returns : goal.returns
returns c =
    let f = family_of c.args.family in
    let cuts = c.in_ok-cuts.cuts.items in
    let list = c.in_ok-list.list.items in
    let are = subst (λ rs. AreCuts f rs cuts) c.as_slice.ensures.value c.in_ok-cuts.ensures in
    let inv = c.loop-prefix_len.invariant in record {
      ascending = are.ascending;
      cut = cuts_of_networks f c.args.rules.now list cuts are c.in_ok-list.ensures;
      lengths = omega (arith, inv.0, c.loop-prefix_len-test.false, c.length_count-prefix_len-end.ensures);
      flags = inv.1;
    }
