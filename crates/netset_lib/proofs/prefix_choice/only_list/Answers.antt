-- The entries have one name, or each has a name, or one has none.
use Rattle.std.proofs.Common.{map, refl, sym, subst, inr}
use Rattle.netset_lib.specs.PrefixEntries.{HaveNames, HaveOneName}
use Rattle.netset_lib.specs.PrefixEntryOf.{entry_of}
use Rattle.netset_lib.proofs.prefix_choice.only_list.Goals as goal

pub returns-then-have_one_name : goal.returns-then-have_one_name
returns-then-have_one_name c = (
  refl,
  subst (λ z. HaveOneName (map entry_of z)) c.as_slice.ensures.value
      (c.have_one_name.ensures.0 c.if-have_one_name.true),
)

pub returns-then-have_names : goal.returns-then-have_names
returns-then-have_names c = (
  refl,
  subst (λ z. HaveNames (map entry_of z)) c.as_slice-2.ensures.value (c.have_names.ensures.0 c.if-have_names.true),
  λ one.
      let yes = c.have_one_name.ensures.1
      (subst (λ z. HaveOneName (map entry_of z)) (sym c.as_slice.ensures.value) one) in
      let is_not = c.if-have_one_name.false in
      absurd cc,
)

pub returns : goal.returns
returns c = (
  λ all.
      let yes = c.have_names.ensures.1
      (subst (λ z. HaveNames (map entry_of z)) (sym c.as_slice-2.ensures.value) all) in
      let is_not = c.if-have_names.false in
      absurd cc,
  inr (λ one.
      let yes = c.have_one_name.ensures.1
      (subst (λ z. HaveOneName (map entry_of z)) (sym c.as_slice.ensures.value) one) in
      let is_not = c.if-have_one_name.false in
      absurd cc),
)
