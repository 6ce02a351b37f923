-- The entries with the name, or all of them.
use Rattle.std.proofs.Common.{◌≡◌, [], filter, length, map, sym, ap, ◌∙◌, subst, arith, inl, Some, None}
use Rattle.std.proofs.lemmas.Bool.{eqb-true, eqb-false}
use Rattle.std.proofs.lemmas.List.{length-map, nil_from_length}
use Rattle.netset_lib.specs.PrefixEntries.{AreChosen, HaveNames, is_named}
use Rattle.netset_lib.specs.PrefixEntryOf.{IsChoice, entry_of, lent_text}
use Rattle.netset_lib.proofs.PrefixChoiceLaws.{filter_seen}
use Rattle.netset_lib.proofs.prefix_choice.chosen_entries.Goals as goal

pub returns-in_default : goal.returns-in_default
returns-in_default c =
    subst (λ z. IsChoice (lent_text z) (map entry_of c.args.entries.items) c.only_list.result) (sym c.in_default.is)
    c.only_list.ensures

pub returns-then-not-have_names : goal.returns-then-not-have_names
returns-then-not-have_names c = (
  λ all.
      let yes = c.have_names.ensures.1
      (subst (λ z. HaveNames (map entry_of z)) (sym c.as_slice.ensures.value) all) in
      let is_not = c.if-not-have_names.true in
      absurd cc,
  inl (λ e. let some : Some c.in-Some.name.now ≡ None = sym (ap lent_text c.in-Some.is) ∙ e in absurd cc),
)

pub returns-then-is_empty : goal.returns-then-is_empty
returns-then-is_empty c =
    let items = c.args.entries.items in
    let name = c.in-Some.name.now in
    let named = c.in_ok-named.named in
    let chosen : named.items ≡ filter (λ e. is_named name (entry_of e)) items =
    c.in_ok-named.ensures ∙ ap (filter (λ e. is_named name (entry_of e))) c.as_slice-2.ensures.value in
    let none : named.items ≡ [] = nil_from_length named.items
    (omega (arith, eqb-true named.len 0 (sym c.is_empty.ensures ∙ c.if-is_empty.true), named.ok.0)) in (
      name,
      ap lent_text c.in-Some.is,
      subst (λ z. HaveNames (map entry_of z)) c.as_slice.ensures.value
          (c.have_names.ensures.0 c.if-not-have_names.false),
      sym (filter_seen (is_named name) entry_of items) ∙ ap (map entry_of) (sym chosen) ∙ ap (map entry_of) none,
    )

pub returns : goal.returns
returns c =
    let items = c.args.entries.items in
    let name = c.in-Some.name.now in
    let named = c.in_ok-named.named in
    let chosen : named.items ≡ filter (λ e. is_named name (entry_of e)) items =
    c.in_ok-named.ensures ∙ ap (filter (λ e. is_named name (entry_of e))) c.as_slice-2.ensures.value in
    subst (λ z. AreChosen (lent_text z) (map entry_of items) (map entry_of named.items)) (sym c.in-Some.is) (
      subst (λ z. HaveNames (map entry_of z)) c.as_slice.ensures.value
          (c.have_names.ensures.0 c.if-not-have_names.false),
      ap (map entry_of) chosen ∙ filter_seen (is_named name) entry_of items,
      λ e. eqb-false named.len 0 (sym c.is_empty.ensures ∙ c.if-is_empty.false)
          (omega (arith, named.ok.0, length-map named.items entry_of, ap length e)),
    )
