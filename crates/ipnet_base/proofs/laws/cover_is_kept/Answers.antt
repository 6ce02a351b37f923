use Rattle.ipnet_base.proofs.CoverLaws.{cover_permutation, cover_truncation, cover_without_nested, cover_of_joined}
use Rattle.ipnet_base.proofs.laws.cover_is_kept.Goals as goal

pub returns : goal.returns
returns c = record {
  truncated = cover_truncation;
  sorted = cover_permutation;
  nested = cover_without_nested;
  joined = cover_of_joined;
}
