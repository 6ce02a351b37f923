use Rattle.std.proofs.Common.{refl, ap}
use Rattle.std.specs.List.{list_any}
use Rattle.std.specs.BTreeMap.{is_at}
use Rattle.netset_entries.specs.SelectSteps.{key_cmp, key_of}
use Rattle.netset_entries.proofs.SelectLaws.{none_selected}
use Rattle.netset_entries.proofs.selected.Selected.new.Goals as goal

pub returns : goal.returns
returns c = λ request.
    none_selected request _ c.new.ensures.items c.new-2.ensures.items
    (λ range. ap (list_any (is_at (key_cmp (key_of range)))) c.new-3.ensures.empty) refl
