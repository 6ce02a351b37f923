use Rattle.std.proofs.Common.{◌≡◌, ◌^◌, ℕ, Option, Some, None, subst, arith}
use Rattle.ipnet_base.specs.Address.{Address}
use Rattle.ipnet_base.specs.Network.{Network}
use Rattle.ipnet.specs.NetworkOf.{ip_network}
use Rattle.ipnet_sets.specs.Members.{IsMember, IsCountOf}
use Rattle.ipnet_bars.specs.declared.share.Level.TheVariants.{Whole}
use Rattle.ipnet_sets.specs.Parts.{IsInPart}
use Rattle.ipnet_bars.specs.Parts.{counted}
use Rattle.ipnet_bars.specs.Shares.{IsShare}
use Rattle.ipnet_bars.proofs.PartLaws.{part_fits, whole_size, nothing_shown, whole_shown}
use Rattle.ipnet_bars.proofs.part.level_in.Goals as goal

count_at : (InSet : Address → Type 0) (n : Network) (field count : Option ℕ) → field ≡ count
    → IsCountOf (IsInPart InSet n) (counted field) → IsCountOf (IsInPart InSet n) (counted count)
count_at InSet n field count e h = subst (λ z. IsCountOf (IsInPart InSet n) (counted z)) e h

pub level_of-requires : goal.level_of-requires
level_of-requires c =
    let n = ip_network c.args.network.now in
    let fits = part_fits (IsMember c.args.set.now) n c.in-Some.count
    (count_at (IsMember c.args.set.now) n c.in_ok-count.field-0 (Some c.in-Some.count) c.in-Some.is
    c.in_ok-count.ensures.count) in
    omega (arith, fits, c.last_place.ensures)

pub returns-in-Some-clause-nothing : goal.returns-in-Some-clause-nothing
returns-in-Some-clause-nothing c =
    let n = ip_network c.args.network.now in
    nothing_shown (IsMember c.args.set.now) n c.in-Some.count c.level_of.result
    (count_at (IsMember c.args.set.now) n c.in_ok-count.field-0 (Some c.in-Some.count) c.in-Some.is
    c.in_ok-count.ensures.count)
    (subst (IsShare c.level_of.result c.in-Some.count) c.last_place.ensures c.level_of.ensures)

pub returns-in-Some-clause-whole : goal.returns-in-Some-clause-whole
returns-in-Some-clause-whole c =
    let n = ip_network c.args.network.now in
    whole_shown c.args.set.now n c.in-Some.count c.level_of.result
    (count_at (IsMember c.args.set.now) n c.in_ok-count.field-0 (Some c.in-Some.count) c.in-Some.is
    c.in_ok-count.ensures.count)
    (subst (IsShare c.level_of.result c.in-Some.count) c.last_place.ensures c.level_of.ensures)

pub returns-in-None-clause-level : goal.returns-in-None-clause-level
returns-in-None-clause-level c =
    let n = ip_network c.args.network.now in
    let all = count_at (IsMember c.args.set.now) n c.in_ok-count.field-0 None c.in-None.is
    c.in_ok-count.ensures.count in
    record { count = 2 ^ 128; is_count = all; share = whole_size (IsMember c.args.set.now) n all }

pub returns-in-None-clause-nothing : goal.returns-in-None-clause-nothing
returns-in-None-clause-nothing c =
    let n = ip_network c.args.network.now in
    let all = count_at (IsMember c.args.set.now) n c.in_ok-count.field-0 None c.in-None.is
    c.in_ok-count.ensures.count in
    nothing_shown (IsMember c.args.set.now) n (2 ^ 128) Whole all (whole_size (IsMember c.args.set.now) n all)

pub returns-in-None-clause-whole : goal.returns-in-None-clause-whole
returns-in-None-clause-whole c =
    let n = ip_network c.args.network.now in
    let all = count_at (IsMember c.args.set.now) n c.in_ok-count.field-0 None c.in-None.is
    c.in_ok-count.ensures.count in
    whole_shown c.args.set.now n (2 ^ 128) Whole all (whole_size (IsMember c.args.set.now) n all)
