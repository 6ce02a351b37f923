-- The table agrees with the definition at each byte (`TableLaws`).
use Rattle.std.proofs.Common.{◌≡◌, Bool, true, false, get_or, refl, arith}
use Rattle.ipnet_base.proofs.TableLaws.{agree_below, agree_at}
use Rattle.netset_words.specs.Words.{cuts}
use Rattle.netset_words.specs.declared.word.TheConstants.{CUTS}
use Rattle.netset_words.proofs.word.is_cut.Goals as goal

same : Bool → Bool → Bool
same true true = true
same true false = false
same false true = false
same false false = true

same_is : (a b : Bool) → same a b ≡ true → a ≡ b
unfolding same
same_is true true h = refl
same_is true false h = absurd cc
same_is false true h = absurd cc
same_is false false h = refl

pub returns : goal.returns
unfolding agree_below same
returns c = agree_at same same_is (λ k. get_or CUTS k false) cuts 256 refl c.args.byte (omega arith)
