-- The lines of a list of routes.
use Rattle.std.proofs.Common.{ℕ, List, Option, Some, None}
use Rattle.netset_origins.specs.Fields.{IsAsn}
use Rattle.netset_origins.specs.RouteLines.{IsAsSet, IsOrigin}

-- no origin is a text that is neither an AS number nor a set of AS numbers
pub no_origin : (text : List ℕ) → ((asn : ℕ) → ¬ (IsAsn text asn)) → ¬ (IsAsSet text) → (origin : Option ℕ)
    → ¬ (IsOrigin text origin)
no_origin text no_asn no_set (Some asn) h = no_asn asn h
no_origin text no_asn no_set None h = no_set h
