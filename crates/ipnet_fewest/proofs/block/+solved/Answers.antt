-- No routes; a route of the network itself; routes in a smaller network; or routes in both halves.
use Rattle.std.proofs.Common.{◌≡◌, length, vec_len, rules, refl, sym, ap, subst, arith, ◌∙◌}
use Rattle.std.proofs.lemmas.Result.{IfOk-weaker}
use Rattle.std.proofs.lemmas.Bool.{eqb-true}
use Rattle.std.proofs.lemmas.List.{length-append, length-map}
use Rattle.ipnet_base.specs.Address.{width}
use Rattle.ipnet_base.specs.Network.{IsTruncated, IsSubnetOf}
use Rattle.ipnet_base.proofs.BlockLaws.{own, own_in}
use Rattle.ipnet_base.proofs.ListLaws.{all_from_members}
use Rattle.ipnet.specs.NetLaws.{ip_valid}
use Rattle.ipnet.specs.NetworkOf.{ip_network}
use Rattle.ipnet_routes.specs.Routes.{ip_routes, ip_networks}
use Rattle.ipnet_routes.proofs.RouteLaws.{network_of_route, table_of}
use Rattle.ipnet_fewest.specs.ItemsOf.{items_of}
use Rattle.ipnet_fewest.specs.Plans.{choices_of}
use Rattle.ipnet_fewest.specs.SolvedBlocks.{AreBestValues, IsBlock}
use Rattle.ipnet_fewest.proofs.OptionLaws.{none_if}
use Rattle.ipnet_fewest.proofs.BestLaws.{none_block, one_block, one_longer, only_within}
use Rattle.ipnet_fewest.proofs.BestLaws.{block_of, no_items, others_table, others_values}
use Rattle.ipnet_fewest.proofs.BestLaws.{block_under, longer_than, has_first, first_table, second_table}
use Rattle.ipnet_fewest.proofs.BestLaws.{first_values, second_values, both_routes, half_blocks}
use Rattle.ipnet_fewest.proofs.block.+solved.Goals as goal

pub returns-in_default : goal.returns-in_default
returns-in_default t c =
    let routes = c.args.routes.now in
    let b = c.block_of_value.ensures in
    none_block c.args.choices.now.items routes c.args.value (ip_network c.args.around.now) c.block_of_value.result
    (no_items routes (none_if c.split_first.result (length routes ≡ 0) _ c.in_default.not-Some
    c.split_first.ensures.cases)) b.network b.values b.size

pub solved-requires : goal.solved-requires
solved-requires t c =
    let routes = c.args.routes.now in
    let around = c.args.around.now in
    let r = c.in-Some.first.now in
    let rest = c.in-Some.rest.now in
    let e = c.in-Some.ensures.cases.0 in
    let h = c.requires.table in
    let values = c.requires.values in (
      omega (arith, c.in-Some.ensures.cases.1),
      (others_table around routes r rest e h values, others_values around routes r rest e h values),
    )

pub returns-then-prefix_len : goal.returns-then-prefix_len
returns-then-prefix_len t c =
    let routes = c.args.routes.now in
    let around = c.args.around.now in
    let r = c.in-Some.first.now in
    let rest = c.in-Some.rest.now in
    let e = c.in-Some.ensures.cases.0 in
    let h = c.requires.table in
    let values = c.requires.values in
    let same : (ip_network r.0).prefix_len ≡ (ip_network around).prefix_len =
    omega (arith, c.prefix_len.ensures, c.prefix_len-2.ensures, c.if-prefix_len.true) in
    IfOk-weaker c.solved.result _ _
    (λ block b. block_under around routes r rest e h values same c.args.choices.now.items c.solved.new.choices.items
    c.args.value block b) c.solved.ensures

pub widened-requires-clause-longer : goal.widened-requires-clause-longer
widened-requires-clause-longer t c =
    let routes = c.args.routes.now in
    let around = c.args.around.now in
    let r = c.in-Some.first.now in
    let rest = c.in-Some.rest.now in
    let e = c.in-Some.ensures.cases.0 in
    let h = c.requires.table in
    let values = c.requires.values in
    let block = c.block_of_value-inner.result in
    let b = c.block_of_value-inner.ensures in
    let none = no_items rest (eqb-true (length rest) 0 (sym c.is_empty.ensures ∙ c.if-is_empty.true)) in
    let out : (ip_network r.0).prefix_len ≡ (ip_network around).prefix_len → ⊥ =
    λ same. omega (arith, same, c.prefix_len.ensures, c.prefix_len-2.ensures, c.if-prefix_len.false) in
    one_longer around routes r rest e h values none block b.network out

pub returns-then-is_empty : goal.returns-then-is_empty
returns-then-is_empty t c =
    let routes = c.args.routes.now in
    let around = c.args.around.now in
    let r = c.in-Some.first.now in
    let rest = c.in-Some.rest.now in
    let e = c.in-Some.ensures.cases.0 in
    let h = c.requires.table in
    let values = c.requires.values in
    let block = c.block_of_value-inner.result in
    let b = c.block_of_value-inner.ensures in
    let none = no_items rest (eqb-true (length rest) 0 (sym c.is_empty.ensures ∙ c.if-is_empty.true)) in
    c.widened.ensures c.args.choices.now.items (ip_routes routes)
    (one_block around routes r rest e h values none block b.network c.args.choices.now.items c.args.value b.values
    b.size)
    (only_within around routes r rest e h values none block b.network)

pub solved-requires-then-prefix_len-2 : goal.solved-requires-then-prefix_len-2
solved-requires-then-prefix_len-2 t c =
    let routes = c.args.routes.now in
    let around = c.args.around.now in
    let r = c.in-Some.first.now in
    let rest = c.in-Some.rest.now in
    let e = c.in-Some.ensures.cases.0 in
    let h = c.requires.table in
    let values = c.requires.values in
    let near = c.near_network-near.result in
    let a = c.near_network-near.ensures in
    let same = ap width (a.within (own (ip_network near)) (own_in (ip_network near))).same_family in (
      omega (
        arith,
        c.prefix_len-3.ensures,
        c.prefix_len-4.ensures,
        c.if-prefix_len-2.true,
        same,
        (ip_valid around).prefix_fits,
        (ip_valid near).prefix_fits,
      ),
      (
        record {
          around_truncated = a.truncated;
          truncated = h.truncated;
          ascending = h.ascending;
          within = a.holds;
        },
        values,
      ),
    )

pub returns-then-prefix_len-2 : goal.returns-then-prefix_len-2
returns-then-prefix_len-2 t c =
    let routes = c.args.routes.now in
    let around = c.args.around.now in
    let r = c.in-Some.first.now in
    let rest = c.in-Some.rest.now in
    let e = c.in-Some.ensures.cases.0 in
    let h = c.requires.table in
    let values = c.requires.values in
    let near = c.near_network-near.result in
    let a = c.near_network-near.ensures in
    let now = c.args.choices.now.items in
    let new = c.solved-then-prefix_len-2.new.choices.items in
    let inner = c.in_ok-inner.inner in
    let b = c.in_ok-inner.ensures in
    c.widened-then-prefix_len-2.ensures now (ip_routes routes)
    (subst (λ z. IsBlock now new (ip_routes routes) c.args.value z inner) (sym b.network) b)
    (λ x d. subst (IsSubnetOf x.0) (sym b.network) (a.holds x.0 (network_of_route routes x d)))

pub halves-first_half-requires-clause-shorter : goal.halves-first_half-requires-clause-shorter
halves-first_half-requires-clause-shorter t c =
    let routes = c.args.routes.now in
    let around = c.args.around.now in
    let r = c.in-Some.first.now in
    let rest = c.in-Some.rest.now in
    let e = c.in-Some.ensures.cases.0 in
    let h = c.requires.table in
    let values = c.requires.values in
    let out : (ip_network r.0).prefix_len ≡ (ip_network around).prefix_len → ⊥ =
    λ same. omega (arith, same, c.prefix_len.ensures, c.prefix_len-2.ensures, c.if-prefix_len.false) in
    let longer = longer_than around routes r rest e h values out in
    let n = ip_network r.0 in
    let has = has_first around routes r rest e h values in
    omega (
      arith,
      longer n has,
      (ip_valid r.0).prefix_fits,
      ap width (h.within n has (own n) (own_in n)).same_family,
    )

pub count_before-requires : goal.count_before-requires
count_before-requires t c =
    let networks = ip_networks c.args.routes.now in
    table_of networks (all_from_members IsTruncated networks c.requires.table.truncated) c.requires.table.ascending

pub solved-requires-2 : goal.solved-requires-2
solved-requires-2 t c =
    let routes = c.args.routes.now in
    let around = c.args.around.now in
    let r = c.in-Some.first.now in
    let rest = c.in-Some.rest.now in
    let e = c.in-Some.ensures.cases.0 in
    let h = c.requires.table in
    let values = c.requires.values in
    let out : (ip_network r.0).prefix_len ≡ (ip_network around).prefix_len → ⊥ =
    λ same. omega (arith, same, c.prefix_len.ensures, c.prefix_len-2.ensures, c.if-prefix_len.false) in
    let longer = longer_than around routes r rest e h values out in
    let l = c.halves-first_half.result.0 in
    let u = c.halves-first_half.result.1 in
    let halves = c.halves-first_half.ensures.halves in
    let order = c.halves-first_half.ensures.order in
    let count = c.count_before.result in
    let place = c.count_before.ensures in
    let front = c.split_at.result.0.now in
    let back = c.split_at.result.1.now in
    let of_front = c.split_at.ensures.front in
    let of_back = c.split_at.ensures.back in
    let same = ap width (halves.first_within (own (ip_network l)) (own_in (ip_network l))).same_family in (
      omega (
        arith,
        halves.first_len,
        same,
        halves.first_network.prefix_fits,
        place.within,
        length-map routes (λ x. ip_network x.0),
        c.split_at.ensures.front_len,
      ),
      (
        first_table around l u routes count h values longer halves order place front back of_front of_back,
        first_values around l u routes count h values longer halves order place front back of_front of_back,
      ),
    )

pub solved-requires-3 : goal.solved-requires-3
solved-requires-3 t c =
    let routes = c.args.routes.now in
    let around = c.args.around.now in
    let r = c.in-Some.first.now in
    let rest = c.in-Some.rest.now in
    let e = c.in-Some.ensures.cases.0 in
    let h = c.requires.table in
    let values = c.requires.values in
    let out : (ip_network r.0).prefix_len ≡ (ip_network around).prefix_len → ⊥ =
    λ same. omega (arith, same, c.prefix_len.ensures, c.prefix_len-2.ensures, c.if-prefix_len.false) in
    let longer = longer_than around routes r rest e h values out in
    let l = c.halves-first_half.result.0 in
    let u = c.halves-first_half.result.1 in
    let halves = c.halves-first_half.ensures.halves in
    let order = c.halves-first_half.ensures.order in
    let count = c.count_before.result in
    let place = c.count_before.ensures in
    let front = c.split_at.result.0.now in
    let back = c.split_at.result.1.now in
    let of_front = c.split_at.ensures.front in
    let of_back = c.split_at.ensures.back in
    let same = ap width (halves.second_within (own (ip_network u)) (own_in (ip_network u))).same_family in (
      omega (
        arith,
        halves.second_len,
        same,
        halves.second_network.prefix_fits,
        c.split_at.ensures.back_len,
      ),
      (
        second_table around l u routes count h values longer halves order place front back of_front of_back,
        second_values around l u routes count h values longer halves order place front back of_front of_back,
      ),
    )

pub overflow_sub-result : goal.overflow_sub-result
overflow_sub-result t c =
    let routes = c.args.routes.now in
    let around = c.args.around.now in
    let r = c.in-Some.first.now in
    let rest = c.in-Some.rest.now in
    let e = c.in-Some.ensures.cases.0 in
    let h = c.requires.table in
    let values = c.requires.values in
    let out : (ip_network r.0).prefix_len ≡ (ip_network around).prefix_len → ⊥ =
    λ same. omega (arith, same, c.prefix_len.ensures, c.prefix_len-2.ensures, c.if-prefix_len.false) in
    let longer = longer_than around routes r rest e h values out in
    let l = c.halves-first_half.result.0 in
    let u = c.halves-first_half.result.1 in
    let halves = c.halves-first_half.ensures.halves in
    let order = c.halves-first_half.ensures.order in
    let count = c.count_before.result in
    let place = c.count_before.ensures in
    let front = c.split_at.result.0.now in
    let back = c.split_at.result.1.now in
    let of_front = c.split_at.ensures.front in
    let of_back = c.split_at.ensures.back in
    let now = c.args.choices.now.items in
    let value = c.args.value in
    let blocks = half_blocks around l u routes count h values longer halves order place front back of_front of_back
    now c.solved-2.new.choices.items c.solved-3.new.choices.items value c.in_ok-first.first c.in_ok-second.second
    c.in_ok-first.ensures c.in_ok-second.ensures in
    let best = c.in_ok-values.ensures now (ip_routes front) (ip_routes back) value (ip_network around) blocks in
    let size : vec_len c.args.choices.now ≡ length now = search rules in
    let new_size : vec_len c.joined.new.choices ≡ length c.joined.new.choices.items = search rules in
    omega (
      arith,
      c.len.ensures,
      c.len-start.ensures,
      size,
      new_size,
      ap length best.added,
      length-append now (choices_of best.plan),
    )

pub returns : goal.returns
returns t c =
    let routes = c.args.routes.now in
    let around = c.args.around.now in
    let r = c.in-Some.first.now in
    let rest = c.in-Some.rest.now in
    let e = c.in-Some.ensures.cases.0 in
    let h = c.requires.table in
    let values = c.requires.values in
    let out : (ip_network r.0).prefix_len ≡ (ip_network around).prefix_len → ⊥ =
    λ same. omega (arith, same, c.prefix_len.ensures, c.prefix_len-2.ensures, c.if-prefix_len.false) in
    let longer = longer_than around routes r rest e h values out in
    let l = c.halves-first_half.result.0 in
    let u = c.halves-first_half.result.1 in
    let halves = c.halves-first_half.ensures.halves in
    let order = c.halves-first_half.ensures.order in
    let count = c.count_before.result in
    let place = c.count_before.ensures in
    let front = c.split_at.result.0.now in
    let back = c.split_at.result.1.now in
    let of_front = c.split_at.ensures.front in
    let of_back = c.split_at.ensures.back in
    let now = c.args.choices.now.items in
    let value = c.args.value in
    let blocks = half_blocks around l u routes count h values longer halves order place front back of_front of_back
    now c.solved-2.new.choices.items c.solved-3.new.choices.items value c.in_ok-first.first c.in_ok-second.second
    c.in_ok-first.ensures c.in_ok-second.ensures in
    let best = c.in_ok-values.ensures now (ip_routes front) (ip_routes back) value (ip_network around) blocks in
    let size : vec_len c.args.choices.now ≡ length now = search rules in
    let new_size : vec_len c.joined.new.choices ≡ length c.joined.new.choices.items = search rules in
    block_of now c.joined.new.choices.items around (ip_routes routes) value _ refl
    (subst
    (λ z. AreBestValues now c.joined.new.choices.items z value (ip_network around) (items_of c.in_ok-values.values))
    (both_routes around l u routes count h values longer halves order place front back of_front of_back) best)
    (omega (
      arith,
      c.len.ensures,
      c.len-start.ensures,
      size,
      new_size,
      ap length best.added,
      length-append now (choices_of best.plan),
    ))
