-- An entry that is not chosen, one that is repeated, and one that is added.
use Rattle.std.proofs.Common.{◌+◌, ◌++◌, ◌∷◌, [], true, IsTrue, length, refl, sym, ap, ◌∙◌, subst}
use Rattle.std.specs.BTreeSet.{contains}
use Rattle.std.proofs.lemmas.Result.{on_ok_weaker}
use Rattle.ipnet_lists.specs.FoundEntry.{entry_of}
use Rattle.netset_entries.specs.SelectSteps.{AddsRange, key_cmp, key_of}
use Rattle.netset_entries.proofs.SelectLaws.{passed_by, repeated, added}
use Rattle.netset_entries.proofs.selected.SelectRequestCollectorSelected.push.Goals as goal

pub returns-then-not-has : goal.returns-then-not-has
returns-then-not-has c = λ before h.
    passed_by c.args.self.now before (entry_of c.args.text.now c.args.entry) c.args.made.now
    (λ is. let wrong = c.if-not-has.ensures.1 is in absurd cc) h

pub returns-then-branch : goal.returns-then-branch
returns-then-branch c = λ before h.
    let request = c.args.self.now in
    let old = c.args.made.now in
    let e = entry_of c.args.text.now c.args.entry in
    let range = c.place_of-place.ensures.range in
    let was = c.in_ok-is_repeated.ensures.repeated.0 c.if-branch.true in
    repeated request before e old
    (record { text = old.text; places = old.places; seen = c.is_repeated.new.seen; found = true })
    (c.if-not-has.ensures.0 refl) was.0
    (subst (λ r. IsTrue (contains key_cmp old.seen (key_of r))) range was.1) refl refl
    (subst (AddsRange old.seen c.is_repeated.new.seen) range (c.in_ok-is_repeated.ensures.added was.0)) refl h

pub returns : goal.returns
returns c =
    let request = c.args.self.now in
    let old = c.args.made.now in
    let e = entry_of c.args.text.now c.args.entry in
    let range = c.place_of-place.ensures.range in
    on_ok_weaker c.push_place.result
    (λ places before h. added request before e old
    (record {
      text = c.extend_from_slice-2.new.self;
      places = c.push_place.new.places;
      seen = c.is_repeated.new.seen;
      found = true;
    })
    c.place_of-place.result (c.if-not-has.ensures.0 refl)
    (λ both.
    let has = subst (λ r. IsTrue (contains key_cmp old.seen (key_of r))) (sym range) both.1 in
    let yes = c.in_ok-is_repeated.ensures.repeated.1 (both.0, has) in
    let no_one = c.if-branch.false in absurd cc)
    (c.in_ok-extend_from_slice-2.ensures.items ∙ ap (λ z. z ++ 10 ∷ []) c.in_ok-extend_from_slice.ensures.items)
    (λ unique. subst (AddsRange old.seen c.is_repeated.new.seen) range (c.in_ok-is_repeated.ensures.added unique))
    (c.place_of-place.ensures.start ∙ ap length c.as_slice.ensures.value)
    (c.place_of-place.ensures.end ∙ ap (λ z. length z + length c.args.text.now) c.as_slice.ensures.value) range places
    refl h)
    c.push_place.ensures
