use Rattle.std.proofs.Common.{◌≡◌, ◌∷◌, ◌++◌, codes, true, false, sym, subst, ap, ◌∙◌, append_assoc}
use Rattle.std.proofs.lemmas.List.{append_cancel_left}
use Rattle.netset_lib.specs.Outputs.{AreFileDigits}
use Rattle.netset_lib.proofs.OutputNames.{name_cut, after_name}
use Rattle.netset_lib.proofs.output.is_unfinished_name.Goals as goal

pub returns-in-None-after-2 : goal.returns-in-None-after-2
returns-in-None-after-2 c = (
  λ t. let clash : false ≡ true = t in absurd cc,
  λ (digits, is, right).
      let entry = c.args.entry.now in
      let name = c.args.name.now in
      let rest = c.in-Some-after.rest.now in
      let cut = name_cut entry name c.as_bytes-entry.result.now c.as_bytes.result.now c.in-Some.rest.now rest
      c.as_bytes-entry.ensures.value c.as_bytes.ensures.value c.in-Some.ensures c.in-Some-after.ensures in
      absurd (c.in-None-after-2.ensures digits (after_name entry name rest (codes ".netset-" ++ digits) cut
      (is ∙ ap (λ z. 46 ∷ z) (append_assoc name (codes ".netset-") digits)))),
)

pub returns-in-Some-after-2 : goal.returns-in-Some-after-2
returns-in-Some-after-2 c =
    let entry = c.args.entry.now in
    let name = c.args.name.now in
    let rest = c.in-Some-after.rest.now in
    let found = c.in-Some-after-2.digits.now in
    let cut = name_cut entry name c.as_bytes-entry.result.now c.as_bytes.result.now c.in-Some.rest.now rest
    c.as_bytes-entry.ensures.value c.as_bytes.ensures.value c.in-Some.ensures c.in-Some-after.ensures in
    let mark : rest ≡ codes ".netset-" ++ found = c.in-Some-after-2.ensures in (
      λ all. (
        found,
        cut ∙ ap (λ z. 46 ∷ z) (ap (λ z. name ++ z) mark ∙ sym (append_assoc name (codes ".netset-") found)),
        c.are_file_digits.ensures.0 all,
      ),
      λ (digits, is, right).
          let same = append_cancel_left (codes ".netset-") found digits
          (sym mark ∙ after_name entry name rest (codes ".netset-" ++ digits) cut
          (is ∙ ap (λ z. 46 ∷ z) (append_assoc name (codes ".netset-") digits))) in
          c.are_file_digits.ensures.1 (subst AreFileDigits (sym same) right),
    )
