use Rattle.std.proofs.Common.{refl, arith}
use Rattle.netset_words.proofs.LogEntryLaws.{extends_within, ok_extends}
use Rattle.netset_words.proofs.LogFilterLaws.{kept_grows}
use Rattle.netset_words.proofs.line_filter.LineFilter.keep.Goals as goal

pub room_after-requires : goal.room_after-requires
room_after-requires c = omega (arith, c.as_slice.ensures.len, c.args.self.now.short)

pub invariant_of-self : goal.invariant_of-self
invariant_of-self c = record {
  short = extends_within _ _ c.args.self.now.front.items c.args.piece.now 1048576 c.extend_from_slice.ensures.items
      (omega (arith, c.if-piece-room_after.true, c.room_after.ensures, c.as_slice.ensures.len));
}

pub pass_front-requires-clause-long : goal.pass_front-requires-clause-long
pass_front-requires-clause-long c =
    omega (arith, c.if-piece-room_after.false, c.room_after.ensures, c.as_slice.ensures.len)

pub pass_front-requires-clause-kept : goal.pass_front-requires-clause-kept
pass_front-requires-clause-kept c = c.requires

pub returns-then-piece-room_after : goal.returns-then-piece-room_after
returns-then-piece-room_after c =
    ok_extends c.extend_from_slice.result _ _ _ _ c.extend_from_slice.ensures.items
    (λ items how set written known lines cur h.
    kept_grows how set written known lines cur c.args.piece.now c.args.self.now _ h
    (record { request = refl; set = refl; line = refl }) refl refl c.requires refl items
    (omega (arith, c.if-piece-room_after.true, c.room_after.ensures, c.as_slice.ensures.len)))

pub returns-else-piece-room_after : goal.returns-else-piece-room_after
returns-else-piece-room_after c = c.pass_front.ensures
