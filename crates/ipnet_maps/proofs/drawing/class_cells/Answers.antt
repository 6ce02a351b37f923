use Rattle.std.proofs.Common.{IfOk, sym, subst}
use Rattle.std.specs.List.{AllZip}
use Rattle.ipnet_maps.specs.Layers.{IsClassCells}
use Rattle.ipnet_maps.specs.Lists.{HasClass, classes_of}
use Rattle.ipnet_maps.proofs.drawing.class_cells.Goals as goal

pub returns-in-One : goal.returns-in-One
returns-in-One c =
    subst (λ z. IfOk c.level_class_cells.result
    (λ list. AllZip (IsClassCells (HasClass z) c.args.cell_len) (classes_of z) list.items)) (sym c.in-One.is)
    c.level_class_cells.ensures

pub returns-in-Change : goal.returns-in-Change
returns-in-Change c =
    subst (λ z. IfOk c.change_class_cells.result
    (λ list. AllZip (IsClassCells (HasClass z) c.args.cell_len) (classes_of z) list.items)) (sym c.in-Change.is)
    c.change_class_cells.ensures

pub returns-in-Several : goal.returns-in-Several
returns-in-Several c =
    subst (λ z. IfOk c.shared_class_cells.result
    (λ list. AllZip (IsClassCells (HasClass z) c.args.cell_len) (classes_of z) list.items)) (sym c.in-Several.is)
    c.shared_class_cells.ensures
