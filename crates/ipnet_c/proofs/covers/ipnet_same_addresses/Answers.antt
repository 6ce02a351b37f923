-- Texts that are not read are not compared; two sets are equal if they have the same addresses.
use Rattle.std.proofs.Common.{◌↔◌, IsTrue, sym, subst}
use Rattle.ipnet_sets.specs.Members.{HaveSameAddresses}
use Rattle.ipnet_sets.proofs.SetEqualLaws.{equal_by_addresses}
use Rattle.ipnet_c.specs.Replies.{IsSameAddressesReply}
use Rattle.ipnet_c.proofs.ListReplies.{compared, not_read}
use Rattle.ipnet_c.proofs.covers.ipnet_same_addresses.Goals as goal

pub returns-in-Err : goal.returns-in-Err
returns-in-Err c =
    not_read c.args.text.now c.args.other.now c.args.same.now c.args.line.now c.sets_of_texts.new.line c.in-Err.status
    c.in-Err.ensures.bad

pub returns : goal.returns
returns c =
    let (utf8, utf8_other, h, k, kept) = c.in-Ok.ensures.sets in
    let (set, others) = c.in-Ok.sets in
    let equal : IsTrue c.eq.result ↔ HaveSameAddresses set others =
    subst (λ r. IsTrue r ↔ HaveSameAddresses set others) (sym c.eq.ensures) (equal_by_addresses set others) in
    subst (λ line. IsSameAddressesReply c.args.text.now c.args.other.now c.args.same.now c.from.result c.args.line.now
    line 0) (sym kept)
    (compared c.args.text.now c.args.other.now c.args.same.now c.from.result c.args.line.now h.networks k.networks
    c.eq.result utf8 utf8_other h.written k.written (
      λ t x.
          let is = equal.0 t x in (
            λ a. (k.addresses x).0 (is.0 ((h.addresses x).1 a)),
            λ b. (h.addresses x).0 (is.1 ((k.addresses x).1 b)),
          ),
      λ cover. equal.1 (λ x. (
        λ m. (k.addresses x).1 ((cover x).0 ((h.addresses x).0 m)),
        λ m. (h.addresses x).1 ((cover x).1 ((k.addresses x).0 m)),
      )),
    )
    c.from.ensures)
