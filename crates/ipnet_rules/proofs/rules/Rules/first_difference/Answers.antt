-- An address is in one of the two sets only if and only if the verdicts on it differ.
use Rattle.std.proofs.Common.{◌⊎◌, ◌↔◌, inl, inr}
use Rattle.std.proofs.lemmas.Option.{IfSome_then}
use Rattle.std.proofs.lemmas.Result.{IfOk-weaker}
use Rattle.ipnet_base.specs.Address.{Address, ip_address}
use Rattle.ipnet_sets.specs.Members.{IsMember}
use Rattle.ipnet_rules.specs.Rules.{HaveOtherVerdicts}
use Rattle.ipnet_rules.proofs.FirstLaws.{first_of_same}
use Rattle.ipnet_rules.proofs.rules.Rules.first_difference.Goals as goal

pub returns-clause-some : goal.returns-clause-some
returns-clause-some c =
    let ours = c.in_ok-ours.ours in
    let theirs = c.in_ok-theirs.theirs in
    let a = c.in_ok-ours.ensures in
    let b = c.in_ok-theirs.ensures in
    let same : (x : Address) → ((IsMember ours x × ¬ (IsMember theirs x)) ⊎ (IsMember theirs x × ¬ (IsMember ours x)))
    ↔ HaveOtherVerdicts c.args.self.now c.args.other.now x = λ x. (
      λ m. elim m [
        | inl one ↦ record {
          address = one.0.fits;
          differ = inl ((a x one.0.fits).0 one.0, λ p. one.1 ((b x one.0.fits).1 p));
        }
        | inr two ↦ record {
          address = two.0.fits;
          differ = inr ((b x two.0.fits).0 two.0, λ p. two.1 ((a x two.0.fits).1 p));
        }
      ],
      λ h. elim h.differ [
        | inl one ↦ inl ((a x h.address).1 one.0, λ m. one.1 ((b x h.address).0 m))
        | inr two ↦ inr ((b x h.address).1 two.0, λ m. two.1 ((a x h.address).0 m))
      ],
    ) in
    IfOk-weaker c.first_apart.result _ _ (λ found h.
    IfSome_then found h (λ ip f. first_of_same _ _ same (ip_address ip) f)) c.first_apart.ensures.some
