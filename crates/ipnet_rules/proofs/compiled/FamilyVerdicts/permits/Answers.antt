-- The flag of the cell in which the number lies.
use Rattle.std.proofs.Common.{◌≡◌, ◌+◌, ℕ, get_or, length, slice_index, vec_len, refl, sym, subst, rules, arith}
use Rattle.std.specs.List.Sorted.{IsStrictlyIncreasing}
use Rattle.ipnet_rules.specs.Cells.{IsInCell}
use Rattle.ipnet_rules.proofs.CompiledLaws.{permits_at, permits_nothing, less_by_fact}
use Rattle.ipnet_rules.proofs.compiled.FamilyVerdicts.permits.Goals as goal

pub cell_of-requires : goal.cell_of-requires
cell_of-requires c =
    let cuts = c.args.self.now.cuts.items in
    let ascending : IsStrictlyIncreasing cuts =
    λ k more. less_by_fact (slice_index cuts k) (slice_index cuts (k + 1)) c.requires.2 (λ h. h.ascending k more) in
    subst IsStrictlyIncreasing (sym c.as_slice.ensures.value) ascending

pub index-requires : goal.index-requires
index-requires c =
    let permitted = c.args.self.now.permitted in
    let size : vec_len permitted ≡ length permitted.items = search rules in
    less_by_fact c.args.prefix_len (vec_len permitted) c.requires.2 (λ h. omega (arith, h.lengths, c.requires.3, size))

pub index-requires-in-Some : goal.index-requires-in-Some
index-requires-in-Some c =
    let v = c.args.self.now in
    let len = c.args.prefix_len in
    let cell = c.in-Some.cell in
    let flags = c.index.result.now in
    let inside = subst (λ cuts. IsInCell cuts cell c.args.number) c.as_slice.ensures.value c.in-Some.ensures.some in
    let flags_are : get_or v.permitted.items len flags ≡ flags = search rules in
    let size : vec_len flags ≡ length flags.items = search rules in
    less_by_fact cell (vec_len flags) c.requires.2 (λ h.
    let own = h.flags len flags (omega (arith, h.lengths, c.requires.3)) flags_are in
    omega (arith, own.cells, inside.within, size))

pub returns-in-Some : goal.returns-in-Some
returns-in-Some c = λ f list h fits le.
    let v = c.args.self.now in
    let len = c.args.prefix_len in
    let cell = c.in-Some.cell in
    let flags = c.index.result.now in
    let inside = subst (λ cuts. IsInCell cuts cell c.args.number) c.as_slice.ensures.value c.in-Some.ensures.some in
    let flags_are : get_or v.permitted.items len flags ≡ flags = search rules in
    let b = c.index-in-Some.result.now in
    let flag_is : get_or flags.items cell b ≡ b = search rules in
    permits_at f list v c.args.number len h fits le cell flags b inside flags_are flag_is

pub returns-in-None : goal.returns-in-None
returns-in-None c = λ f list h fits le.
    let v = c.args.self.now in
    let none = subst (λ cuts. (cell : ℕ) → IsInCell cuts cell c.args.number → ⊥) c.as_slice.ensures.value
    (c.in-None.ensures.none refl) in (
      λ e. absurd (cc),
      λ p. absurd (permits_nothing f list v c.args.number c.args.prefix_len h fits le none p),
    )
