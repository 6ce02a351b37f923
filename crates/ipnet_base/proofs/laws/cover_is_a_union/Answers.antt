use Rattle.ipnet_base.proofs.CoverLaws.{cover_nil, cover_cons, cover_push, cover_append}
use Rattle.ipnet_base.proofs.laws.cover_is_a_union.Goals as goal

pub returns : goal.returns
returns c = record {
  empty = cover_nil;
  in_front = cover_cons;
  at_end = cover_push;
  joined = cover_append;
}
