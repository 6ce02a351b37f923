-- An offset that is not of four bytes is of eight.
use Rattle.std.proofs.Common.{◌≡◌, ◌*◌, inl, inr, arith, subst, sym}
use Rattle.ipnet_sets.specs.Images.{number_from}
use Rattle.ipnet_c.proofs.rows.read_offset.Goals as goal

pub returns : goal.returns
returns c =
    let wide : c.args.width ≡ 8 = elim c.requires.width [
      | inl e ↦ absurd (omega (arith, e, c.if-width-eq4.false))
      | inr e ↦ e
    ] in
    subst (λ w. c.read_u64.result ≡ number_from w c.args.offsets.now (c.args.index * c.args.width)) (sym wide)
    c.read_u64.ensures
