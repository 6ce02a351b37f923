-- One block, or the blocks in one half, or in both.
use Rattle.std.proofs.Common.{◌<◌, ◌++◌, All, map, length, IfOk, IfSome, IfNone, sym, subst, arith}
use Rattle.ipnet_base.proofs.ResultLaws.{true_gives}
use Rattle.std.proofs.lemmas.List.{length-map}
use Rattle.ipnet_base.specs.Network.{IsSubnetOf, IsTruncated}
use Rattle.ipnet.specs.NetLaws.{ip_valid}
use Rattle.ipnet.specs.NetworkOf.{ip_network}
use Rattle.ipnet_shortest.specs.Parts.{IsPartOf, HasNoCover}
use Rattle.ipnet_shortest.specs.Plans.{IsOrderly}
use Rattle.ipnet_shortest.proofs.HalvingLaws.{around_within, half_bits, block_within, block_longer, all_in_half, cut}
use Rattle.ipnet_shortest.proofs.HalvingLaws.{are_joined, none_if, some_blocks, order_within, are_ordered}
use Rattle.ipnet_shortest.proofs.HalvingLaws.{cut_both, all_front, all_back, block_at}
use Rattle.ipnet_shortest.proofs.PartOfLaws.{can_be_joined, none_of_front, none_of_back}
use Rattle.ipnet_shortest.proofs.part.Terms.+part.Goals as goal

pub returns-then-blocks-eq1-clause-within : goal.returns-then-blocks-eq1-clause-within
returns-then-blocks-eq1-clause-within t c =
    let a = c.index-blocks-0.result in
    around_within c.single.result (ip_network a) (ip_network c.args.around.now)
    (block_within c.args.around.now c.args.blocks.now c.requires.blocks 0 a c.index-blocks-0.is
    (omega (arith, c.if-blocks-eq1.true))) c.single.ensures.within

pub half_with-first_half-requires-clause-within : goal.half_with-first_half-requires-clause-within
half_with-first_half-requires-clause-within t c =
    block_within c.args.around.now c.args.blocks.now c.requires.blocks 0 c.index-blocks-0-2.result
    c.index-blocks-0-2.is (some_blocks c.args.blocks.now c.requires.blocks.some)

pub half_with-first_half-requires-clause-longer : goal.half_with-first_half-requires-clause-longer
half_with-first_half-requires-clause-longer t c =
    let lt = some_blocks c.args.blocks.now c.requires.blocks.some in
    block_longer c.args.around.now c.args.blocks.now c.requires.blocks 0 c.index-blocks-0-2.result
    c.index-blocks-0-2.is lt (omega (arith, lt, c.if-blocks-eq1.false))

pub part-requires : goal.part-requires
part-requires t c =
    let around = c.args.around.now in
    let half = c.half_with-first_half.result in
    let a = c.index-blocks-0-2.result in (
      omega (
        arith,
        half_bits (ip_network around) (ip_network a) (ip_network half) (ip_valid half) c.half_with-first_half.ensures,
      ),
      (
        c.requires.limit,
        all_in_half around c.args.blocks.now c.requires.blocks half a c.leading_in-count.result
            c.half_with-first_half.ensures c.leading_in-count.ensures c.if-count-blocks.true,
      ),
    )

pub half_with-second_half-requires-clause-within : goal.half_with-second_half-requires-clause-within
half_with-second_half-requires-clause-within t c =
    let blocks = c.args.blocks.now in
    let less : c.leading_in-count.result < length blocks =
    omega (arith, c.leading_in-count.ensures.within, length-map blocks ip_network, c.if-count-blocks.false) in
    block_within c.args.around.now blocks c.requires.blocks c.leading_in-count.result c.index-blocks-count.result
    c.index-blocks-count.is less

pub half_with-second_half-requires-clause-longer : goal.half_with-second_half-requires-clause-longer
half_with-second_half-requires-clause-longer t c =
    let blocks = c.args.blocks.now in
    let lt = some_blocks blocks c.requires.blocks.some in
    let less : c.leading_in-count.result < length blocks =
    omega (arith, c.leading_in-count.ensures.within, length-map blocks ip_network, c.if-count-blocks.false) in
    block_longer c.args.around.now blocks c.requires.blocks c.leading_in-count.result c.index-blocks-count.result
    c.index-blocks-count.is less (omega (arith, lt, c.if-blocks-eq1.false))

pub part-requires-2 : goal.part-requires-2
part-requires-2 t c =
    let around = c.args.around.now in
    let blocks = c.args.blocks.now in
    let half = c.half_with-first_half.result in
    let other = c.half_with-second_half.result in
    let a = c.index-blocks-0-2.result in
    let k = c.index-blocks-count.result in
    let count = c.leading_in-count.result in
    let front = c.split_at.result.0.now in
    let back = c.split_at.result.1.now in
    let lt = some_blocks blocks c.requires.blocks.some in
    let two : 1 < length blocks = omega (arith, lt, c.if-blocks-eq1.false) in
    let less : count < length blocks =
    omega (arith, c.leading_in-count.ensures.within, length-map blocks ip_network, c.if-count-blocks.false) in
    let halves = cut around blocks c.requires.blocks half other a k count two c.index-blocks-0-2.is
    c.half_with-first_half.ensures c.leading_in-count.ensures less c.index-blocks-count.is
    c.half_with-second_half.ensures front back c.split_at.ensures.front c.split_at.ensures.back in (
      omega (
        arith,
        half_bits (ip_network around) (ip_network a) (ip_network half) (ip_valid half) c.half_with-first_half.ensures,
      ),
      (c.requires.limit, halves.in_first),
    )

pub returns-in_default-clause-none : goal.returns-in_default-clause-none
returns-in_default-clause-none t c =
    let around = c.args.around.now in
    let blocks = c.args.blocks.now in
    let half = c.half_with-first_half.result in
    let other = c.half_with-second_half.result in
    let a = c.index-blocks-0-2.result in
    let k = c.index-blocks-count.result in
    let count = c.leading_in-count.result in
    let front = c.split_at.result.0.now in
    let back = c.split_at.result.1.now in
    let lt = some_blocks blocks c.requires.blocks.some in
    let two : 1 < length blocks = omega (arith, lt, c.if-blocks-eq1.false) in
    let less : count < length blocks =
    omega (arith, c.leading_in-count.ensures.within, length-map blocks ip_network, c.if-count-blocks.false) in
    let halves = cut around blocks c.requires.blocks half other a k count two c.index-blocks-0-2.is
    c.half_with-first_half.ensures c.leading_in-count.ensures less c.index-blocks-count.is
    c.half_with-second_half.ensures front back c.split_at.ensures.front c.split_at.ensures.back in
    let fronts = map ip_network front in
    let backs = map ip_network back in
    subst (λ z. HasNoCover z c.args.self.now) halves.both
    (none_of_front fronts backs c.args.self.now (none_if c.in_ok-first.field-0 (HasNoCover fronts c.args.self.now)
    c.in_default.not-Some c.in_ok-first.ensures.none))

pub part-requires-3 : goal.part-requires-3
part-requires-3 t c =
    let around = c.args.around.now in
    let blocks = c.args.blocks.now in
    let half = c.half_with-first_half.result in
    let other = c.half_with-second_half.result in
    let a = c.index-blocks-0-2.result in
    let k = c.index-blocks-count.result in
    let count = c.leading_in-count.result in
    let front = c.split_at.result.0.now in
    let back = c.split_at.result.1.now in
    let lt = some_blocks blocks c.requires.blocks.some in
    let two : 1 < length blocks = omega (arith, lt, c.if-blocks-eq1.false) in
    let less : count < length blocks =
    omega (arith, c.leading_in-count.ensures.within, length-map blocks ip_network, c.if-count-blocks.false) in
    let halves = cut around blocks c.requires.blocks half other a k count two c.index-blocks-0-2.is
    c.half_with-first_half.ensures c.leading_in-count.ensures less c.index-blocks-count.is
    c.half_with-second_half.ensures front back c.split_at.ensures.front c.split_at.ensures.back in (
      omega (
        arith,
        half_bits (ip_network around) (ip_network k) (ip_network other) (ip_valid other)
            c.half_with-second_half.ensures,
      ),
      (c.requires.limit, halves.in_second),
    )

pub returns-in_default-2-clause-none : goal.returns-in_default-2-clause-none
returns-in_default-2-clause-none t c =
    let around = c.args.around.now in
    let blocks = c.args.blocks.now in
    let half = c.half_with-first_half.result in
    let other = c.half_with-second_half.result in
    let a = c.index-blocks-0-2.result in
    let k = c.index-blocks-count.result in
    let count = c.leading_in-count.result in
    let front = c.split_at.result.0.now in
    let back = c.split_at.result.1.now in
    let lt = some_blocks blocks c.requires.blocks.some in
    let two : 1 < length blocks = omega (arith, lt, c.if-blocks-eq1.false) in
    let less : count < length blocks =
    omega (arith, c.leading_in-count.ensures.within, length-map blocks ip_network, c.if-count-blocks.false) in
    let halves = cut around blocks c.requires.blocks half other a k count two c.index-blocks-0-2.is
    c.half_with-first_half.ensures c.leading_in-count.ensures less c.index-blocks-count.is
    c.half_with-second_half.ensures front back c.split_at.ensures.front c.split_at.ensures.back in
    let fronts = map ip_network front in
    let backs = map ip_network back in
    subst (λ z. HasNoCover z c.args.self.now) halves.both
    (none_of_back fronts backs c.args.self.now (none_if c.in_ok-second.field-0 (HasNoCover backs c.args.self.now)
    c.in_default-2.not-Some c.in_ok-second.ensures.none))

pub joined_or_whole-requires-clause-joined : goal.joined_or_whole-requires-clause-joined
joined_or_whole-requires-clause-joined t c =
    let around = c.args.around.now in
    let blocks = c.args.blocks.now in
    let half = c.half_with-first_half.result in
    let other = c.half_with-second_half.result in
    let a = c.index-blocks-0-2.result in
    let k = c.index-blocks-count.result in
    let count = c.leading_in-count.result in
    let front = c.split_at.result.0.now in
    let back = c.split_at.result.1.now in
    let lt = some_blocks blocks c.requires.blocks.some in
    let two : 1 < length blocks = omega (arith, lt, c.if-blocks-eq1.false) in
    let less : count < length blocks =
    omega (arith, c.leading_in-count.ensures.within, length-map blocks ip_network, c.if-count-blocks.false) in
    let halves = cut around blocks c.requires.blocks half other a k count two c.index-blocks-0-2.is
    c.half_with-first_half.ensures c.leading_in-count.ensures less c.index-blocks-count.is
    c.half_with-second_half.ensures front back c.split_at.ensures.front c.split_at.ensures.back in
    let fronts = map ip_network front in
    let backs = map ip_network back in
    let terms = c.args.self.now in
    let first = c.in-Some.first in
    let second = c.in-Some-2.second in
    let joined = are_joined around blocks c.requires.blocks half other a k count two c.index-blocks-0-2.is
    c.half_with-first_half.ensures c.leading_in-count.ensures less c.index-blocks-count.is
    c.half_with-second_half.ensures terms first second fronts backs
    (subst (λ z. IfSome z (IsPartOf fronts terms)) c.in-Some.is c.in_ok-first.ensures.some)
    (subst (λ z. IfSome z (IsPartOf backs terms)) c.in-Some-2.is c.in_ok-second.ensures.some)
    (subst (λ z. IfSome z (λ p. IsSubnetOf (ip_network p.around) (ip_network half))) c.in-Some.is
    c.in_ok-first.ensures.within)
    (subst (λ z. IfSome z (λ p. IsSubnetOf (ip_network p.around) (ip_network other))) c.in-Some-2.is
    c.in_ok-second.ensures.within) in
    can_be_joined fronts backs terms first second (ip_network around) joined

pub joined_or_whole-requires-clause-whole : goal.joined_or_whole-requires-clause-whole
joined_or_whole-requires-clause-whole t c = true_gives c.covers.result c.covers.ensures c.if-covers.true

pub returns-then-covers-clause-some : goal.returns-then-covers-clause-some
returns-then-covers-clause-some t c =
    let around = c.args.around.now in
    let blocks = c.args.blocks.now in
    let half = c.half_with-first_half.result in
    let other = c.half_with-second_half.result in
    let a = c.index-blocks-0-2.result in
    let k = c.index-blocks-count.result in
    let count = c.leading_in-count.result in
    let front = c.split_at.result.0.now in
    let back = c.split_at.result.1.now in
    let lt = some_blocks blocks c.requires.blocks.some in
    let two : 1 < length blocks = omega (arith, lt, c.if-blocks-eq1.false) in
    let less : count < length blocks =
    omega (arith, c.leading_in-count.ensures.within, length-map blocks ip_network, c.if-count-blocks.false) in
    let halves = cut around blocks c.requires.blocks half other a k count two c.index-blocks-0-2.is
    c.half_with-first_half.ensures c.leading_in-count.ensures less c.index-blocks-count.is
    c.half_with-second_half.ensures front back c.split_at.ensures.front c.split_at.ensures.back in
    let fronts = map ip_network front in
    let backs = map ip_network back in
    let terms = c.args.self.now in
    let first = c.in-Some.first in
    let second = c.in-Some-2.second in
    let joined = are_joined around blocks c.requires.blocks half other a k count two c.index-blocks-0-2.is
    c.half_with-first_half.ensures c.leading_in-count.ensures less c.index-blocks-count.is
    c.half_with-second_half.ensures terms first second fronts backs
    (subst (λ z. IfSome z (IsPartOf fronts terms)) c.in-Some.is c.in_ok-first.ensures.some)
    (subst (λ z. IfSome z (IsPartOf backs terms)) c.in-Some-2.is c.in_ok-second.ensures.some)
    (subst (λ z. IfSome z (λ p. IsSubnetOf (ip_network p.around) (ip_network half))) c.in-Some.is
    c.in_ok-first.ensures.within)
    (subst (λ z. IfSome z (λ p. IsSubnetOf (ip_network p.around) (ip_network other))) c.in-Some-2.is
    c.in_ok-second.ensures.within) in
    subst (λ z. IsPartOf z terms c.in_ok-part.part) halves.both (c.in_ok-part.ensures.some fronts backs joined)

pub joined-requires-clause-joined : goal.joined-requires-clause-joined
joined-requires-clause-joined t c =
    let around = c.args.around.now in
    let blocks = c.args.blocks.now in
    let half = c.half_with-first_half.result in
    let other = c.half_with-second_half.result in
    let a = c.index-blocks-0-2.result in
    let k = c.index-blocks-count.result in
    let count = c.leading_in-count.result in
    let front = c.split_at.result.0.now in
    let back = c.split_at.result.1.now in
    let lt = some_blocks blocks c.requires.blocks.some in
    let two : 1 < length blocks = omega (arith, lt, c.if-blocks-eq1.false) in
    let less : count < length blocks =
    omega (arith, c.leading_in-count.ensures.within, length-map blocks ip_network, c.if-count-blocks.false) in
    let halves = cut around blocks c.requires.blocks half other a k count two c.index-blocks-0-2.is
    c.half_with-first_half.ensures c.leading_in-count.ensures less c.index-blocks-count.is
    c.half_with-second_half.ensures front back c.split_at.ensures.front c.split_at.ensures.back in
    let fronts = map ip_network front in
    let backs = map ip_network back in
    let terms = c.args.self.now in
    let first = c.in-Some.first in
    let second = c.in-Some-2.second in
    let joined = are_joined around blocks c.requires.blocks half other a k count two c.index-blocks-0-2.is
    c.half_with-first_half.ensures c.leading_in-count.ensures less c.index-blocks-count.is
    c.half_with-second_half.ensures terms first second fronts backs
    (subst (λ z. IfSome z (IsPartOf fronts terms)) c.in-Some.is c.in_ok-first.ensures.some)
    (subst (λ z. IfSome z (IsPartOf backs terms)) c.in-Some-2.is c.in_ok-second.ensures.some)
    (subst (λ z. IfSome z (λ p. IsSubnetOf (ip_network p.around) (ip_network half))) c.in-Some.is
    c.in_ok-first.ensures.within)
    (subst (λ z. IfSome z (λ p. IsSubnetOf (ip_network p.around) (ip_network other))) c.in-Some-2.is
    c.in_ok-second.ensures.within) in
    can_be_joined fronts backs terms first second (ip_network around) joined

pub returns-clause-some : goal.returns-clause-some
returns-clause-some t c =
    let around = c.args.around.now in
    let blocks = c.args.blocks.now in
    let half = c.half_with-first_half.result in
    let other = c.half_with-second_half.result in
    let a = c.index-blocks-0-2.result in
    let k = c.index-blocks-count.result in
    let count = c.leading_in-count.result in
    let front = c.split_at.result.0.now in
    let back = c.split_at.result.1.now in
    let lt = some_blocks blocks c.requires.blocks.some in
    let two : 1 < length blocks = omega (arith, lt, c.if-blocks-eq1.false) in
    let less : count < length blocks =
    omega (arith, c.leading_in-count.ensures.within, length-map blocks ip_network, c.if-count-blocks.false) in
    let halves = cut around blocks c.requires.blocks half other a k count two c.index-blocks-0-2.is
    c.half_with-first_half.ensures c.leading_in-count.ensures less c.index-blocks-count.is
    c.half_with-second_half.ensures front back c.split_at.ensures.front c.split_at.ensures.back in
    let fronts = map ip_network front in
    let backs = map ip_network back in
    let terms = c.args.self.now in
    let first = c.in-Some.first in
    let second = c.in-Some-2.second in
    let joined = are_joined around blocks c.requires.blocks half other a k count two c.index-blocks-0-2.is
    c.half_with-first_half.ensures c.leading_in-count.ensures less c.index-blocks-count.is
    c.half_with-second_half.ensures terms first second fronts backs
    (subst (λ z. IfSome z (IsPartOf fronts terms)) c.in-Some.is c.in_ok-first.ensures.some)
    (subst (λ z. IfSome z (IsPartOf backs terms)) c.in-Some-2.is c.in_ok-second.ensures.some)
    (subst (λ z. IfSome z (λ p. IsSubnetOf (ip_network p.around) (ip_network half))) c.in-Some.is
    c.in_ok-first.ensures.within)
    (subst (λ z. IfSome z (λ p. IsSubnetOf (ip_network p.around) (ip_network other))) c.in-Some-2.is
    c.in_ok-second.ensures.within) in
    subst (λ z. IfOk c.joined.result (λ o. IfSome o (IsPartOf z terms))) halves.both
    (c.joined.ensures.some fronts backs joined)

pub returns-clause-none : goal.returns-clause-none
returns-clause-none t c =
    let around = c.args.around.now in
    let blocks = c.args.blocks.now in
    let half = c.half_with-first_half.result in
    let other = c.half_with-second_half.result in
    let a = c.index-blocks-0-2.result in
    let k = c.index-blocks-count.result in
    let count = c.leading_in-count.result in
    let front = c.split_at.result.0.now in
    let back = c.split_at.result.1.now in
    let lt = some_blocks blocks c.requires.blocks.some in
    let two : 1 < length blocks = omega (arith, lt, c.if-blocks-eq1.false) in
    let less : count < length blocks =
    omega (arith, c.leading_in-count.ensures.within, length-map blocks ip_network, c.if-count-blocks.false) in
    let halves = cut around blocks c.requires.blocks half other a k count two c.index-blocks-0-2.is
    c.half_with-first_half.ensures c.leading_in-count.ensures less c.index-blocks-count.is
    c.half_with-second_half.ensures front back c.split_at.ensures.front c.split_at.ensures.back in
    let fronts = map ip_network front in
    let backs = map ip_network back in
    let terms = c.args.self.now in
    let first = c.in-Some.first in
    let second = c.in-Some-2.second in
    let joined = are_joined around blocks c.requires.blocks half other a k count two c.index-blocks-0-2.is
    c.half_with-first_half.ensures c.leading_in-count.ensures less c.index-blocks-count.is
    c.half_with-second_half.ensures terms first second fronts backs
    (subst (λ z. IfSome z (IsPartOf fronts terms)) c.in-Some.is c.in_ok-first.ensures.some)
    (subst (λ z. IfSome z (IsPartOf backs terms)) c.in-Some-2.is c.in_ok-second.ensures.some)
    (subst (λ z. IfSome z (λ p. IsSubnetOf (ip_network p.around) (ip_network half))) c.in-Some.is
    c.in_ok-first.ensures.within)
    (subst (λ z. IfSome z (λ p. IsSubnetOf (ip_network p.around) (ip_network other))) c.in-Some-2.is
    c.in_ok-second.ensures.within) in
    subst (λ z. IfOk c.joined.result (λ o. IfNone o (HasNoCover z terms))) halves.both
    (c.joined.ensures.none fronts backs joined)

pub returns-then-blocks-eq1-clause-order : goal.returns-then-blocks-eq1-clause-order
returns-then-blocks-eq1-clause-order t c = λ trunc.
    let a = c.index-blocks-0.result in
    order_within c.single.result (ip_network a) (ip_network c.args.around.now)
    (block_within c.args.around.now c.args.blocks.now c.requires.blocks 0 a c.index-blocks-0.is
    (omega (arith, c.if-blocks-eq1.true)))
    (c.single.ensures.order (block_at IsTruncated c.args.blocks.now trunc 0 a c.index-blocks-0.is
    (omega (arith, c.if-blocks-eq1.true))))

pub returns-then-count-blocks-clause-within : goal.returns-then-count-blocks-clause-within
returns-then-count-blocks-clause-within t c =
    around_within c.part.result (ip_network c.half_with-first_half.result) (ip_network c.args.around.now)
    c.half_with-first_half.ensures.within c.part.ensures.within

pub returns-then-count-blocks-clause-order : goal.returns-then-count-blocks-clause-order
returns-then-count-blocks-clause-order t c = λ trunc.
    order_within c.part.result (ip_network c.half_with-first_half.result) (ip_network c.args.around.now)
    c.half_with-first_half.ensures.within (c.part.ensures.order trunc)

pub returns-then-covers-clause-order : goal.returns-then-covers-clause-order
returns-then-covers-clause-order t c = λ trunc.
    let around = c.args.around.now in
    let blocks = c.args.blocks.now in
    let half = c.half_with-first_half.result in
    let other = c.half_with-second_half.result in
    let a = c.index-blocks-0-2.result in
    let k = c.index-blocks-count.result in
    let count = c.leading_in-count.result in
    let front = map ip_network c.split_at.result.0.now in
    let back = map ip_network c.split_at.result.1.now in
    let lt = some_blocks blocks c.requires.blocks.some in
    let two : 1 < length blocks = omega (arith, lt, c.if-blocks-eq1.false) in
    let less : count < length blocks =
    omega (arith, c.leading_in-count.ensures.within, length-map blocks ip_network, c.if-count-blocks.false) in
    let halves = are_ordered around blocks c.requires.blocks half other a k count two c.index-blocks-0-2.is
    c.half_with-first_half.ensures c.leading_in-count.ensures less c.index-blocks-count.is
    c.half_with-second_half.ensures in
    let whole : All IsTruncated (front ++ back) = subst (All IsTruncated) (sym (cut_both blocks count
    c.split_at.result.0.now c.split_at.result.1.now c.split_at.ensures.front c.split_at.ensures.back)) trunc in
    let p = subst (λ z. IfSome z (λ p. IsOrderly p.plan (ip_network half))) c.in-Some.is
    (c.in_ok-first.ensures.order (all_front IsTruncated front back whole)) in
    let q = subst (λ z. IfSome z (λ p. IsOrderly p.plan (ip_network other))) c.in-Some-2.is
    (c.in_ok-second.ensures.order (all_back IsTruncated front back whole)) in
    c.in_ok-part.ensures.order (ip_network half) (ip_network other) c.requires.blocks.truncated halves p q

pub returns-clause-order : goal.returns-clause-order
returns-clause-order t c = λ trunc.
    let around = c.args.around.now in
    let blocks = c.args.blocks.now in
    let half = c.half_with-first_half.result in
    let other = c.half_with-second_half.result in
    let a = c.index-blocks-0-2.result in
    let k = c.index-blocks-count.result in
    let count = c.leading_in-count.result in
    let front = map ip_network c.split_at.result.0.now in
    let back = map ip_network c.split_at.result.1.now in
    let lt = some_blocks blocks c.requires.blocks.some in
    let two : 1 < length blocks = omega (arith, lt, c.if-blocks-eq1.false) in
    let less : count < length blocks =
    omega (arith, c.leading_in-count.ensures.within, length-map blocks ip_network, c.if-count-blocks.false) in
    let halves = are_ordered around blocks c.requires.blocks half other a k count two c.index-blocks-0-2.is
    c.half_with-first_half.ensures c.leading_in-count.ensures less c.index-blocks-count.is
    c.half_with-second_half.ensures in
    let whole : All IsTruncated (front ++ back) = subst (All IsTruncated) (sym (cut_both blocks count
    c.split_at.result.0.now c.split_at.result.1.now c.split_at.ensures.front c.split_at.ensures.back)) trunc in
    let p = subst (λ z. IfSome z (λ p. IsOrderly p.plan (ip_network half))) c.in-Some.is
    (c.in_ok-first.ensures.order (all_front IsTruncated front back whole)) in
    let q = subst (λ z. IfSome z (λ p. IsOrderly p.plan (ip_network other))) c.in-Some-2.is
    (c.in_ok-second.ensures.order (all_back IsTruncated front back whole)) in
    c.joined.ensures.order (ip_network half) (ip_network other) halves p q
