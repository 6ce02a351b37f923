-- Every prefix length was asked.
use Rattle.std.proofs.Common.{◌≤◌, IfSome, refl, sym, subst, arith, inl, inr}
use Rattle.std.proofs.lemmas.Bool.{cases_lt}
use Rattle.ipnet_base.specs.Address.{Family, IPv4, IPv6, width}
use Rattle.ipnet_base.proofs.BlockLaws.{own}
use Rattle.ipnet.specs.NetworkOf.{ip_network}
use Rattle.ipnet_rules.specs.PrefixLists.{IsFirstOfLength}
use Rattle.ipnet_rules.proofs.prefix_list.PrefixList.first_difference.Goals as goal

width_most : (f : Family) → width f ≤ 128
width_most IPv4 = omega arith
width_most IPv6 = omega arith

pub returns-clause-none : goal.returns-clause-none
returns-clause-none c = (
  λ none n valid. c.loop-prefix_len.invariant n.prefix_len
      (omega (arith, valid.prefix_fits, width_most n.family, c.loop-prefix_len-test.false)) (own n)
      valid.address_fits valid.prefix_fits,
  λ same. refl,
)

-- the lists permit the same networks of each shorter length
pub returns-in-Some-clause-first : goal.returns-in-Some-clause-first
returns-in-Some-clause-first c =
    let rules = c.args.self.now.list.items in
    let others = c.args.other.now.list.items in
    let n = ip_network c.in-Some.network in
    let len = c.loop-prefix_len.prefix_len in
    let found = subst (λ o. IfSome o (λ k.
    IsFirstOfLength c.as_slice-ours.result.now c.as_slice-theirs.result.now len (ip_network k))) c.in-Some.is
    c.in_ok-network.ensures.first in
    let of_other = subst (λ ys. IsFirstOfLength c.as_slice-ours.result.now ys len n) c.as_slice-theirs.ensures.value
    found in
    let of_length = subst (λ xs. IsFirstOfLength xs others len n) c.as_slice-ours.ensures.value of_other in record {
      shortest = λ k one. elim (cases_lt k.prefix_len n.prefix_len) [
        | inr not ↦ omega (arith, not)
        | inl less ↦
            let same = c.loop-prefix_len.invariant k.prefix_len (omega (arith, less, of_length.of_length)) (own k)
            one.network.address_fits one.network.prefix_fits in
            elim one.differ [
              | inl ours ↦ absurd (ours.1 (same.0 ours.0))
              | inr theirs ↦ absurd (theirs.1 (same.1 theirs.0))
            ]
      ];
      first = subst (λ len. IsFirstOfLength rules others len n) (sym of_length.of_length) of_length;
    }
