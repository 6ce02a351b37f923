-- The number of IPv6 addresses is cut into digits; all of them are one more than three digits can have.
use Rattle.std.proofs.Common.{◌≡◌, ◌+◌, ◌*◌, ◌/◌, ◌%◌, refl, inl, inr, subst, arith}
use Rattle.ipnet.specs.Address.{IPv6}
use Rattle.ipnet_sets.specs.Members.{IsMemberOf, IsCountOf}
use Rattle.ipnet_c.proofs.StatusLaws.{differ}
use Rattle.ipnet_c.proofs.set_questions.count_addresses.Goals as goal

pub returns-in-Some : goal.returns-in-Some
returns-in-Some c =
    let set = c.in_ok-set.set in
    let n = c.in-Some.ipv6 in
    let digits : n ≡ n % 18446744073709551616 + 18446744073709551616 * (n / 18446744073709551616) = omega arith in (
      set,
      c.in_ok-set.ensures,
      record {
        four = refl;
        ipv4 = c.ipv4_count-ipv4.ensures;
        some = λ e. subst (IsCountOf (IsMemberOf IPv6 set)) digits c.in-Some.ensures.some;
        all = (λ e. absurd (differ 0 1 refl e), λ every. let clash = c.in-Some.ensures.none.1 every in absurd cc);
        digit = inl refl;
      },
    )

pub returns : goal.returns
returns c = (
  c.in_ok-set.set,
  c.in_ok-set.ensures,
  record {
    four = refl;
    ipv4 = c.ipv4_count-ipv4.ensures;
    some = λ e. absurd (differ 1 0 refl e);
    all = (λ e. c.in-None.ensures.none.0 refl, λ every. refl);
    digit = inr (refl, refl, refl);
  },
)
