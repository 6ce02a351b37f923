-- The causes of refused texts: each is in the list of all, so a text without a cause is explained by none.
use Rattle.std.proofs.Common.{◌≡◌, ℕ, List, [], ◌∷◌, Option, None, All, Contains, refl, subst, inl, inr, arith}
use Rattle.std.proofs.lemmas.List.Elements.{All-nil, All-cons}
use Rattle.ipnet.specs.declared.parser.Grammar.{Grammar}
use Rattle.ipnet_lists.specs.declared.cause.Cause.{Cause}
use Rattle.ipnet_lists.specs.declared.cause.Cause.TheVariants as Causes
use Rattle.ipnet_lists.specs.Causes.{Explains, IsReportedCause, IsFirstOf, causes}
use Rattle.ipnet_lists.specs.Entries.{IsNoEntry}

listed : (cause : Cause) → Contains causes cause
listed Causes.NulByte = (0, omega arith, refl)
listed Causes.NotUtf8 = (1, omega arith, refl)
listed Causes.CarriageReturn = (2, omega arith, refl)
listed Causes.LegacyAlone = (3, omega arith, refl)
listed Causes.LengthAbove32 = (4, omega arith, refl)
listed Causes.LengthAbove128 = (5, omega arith, refl)
listed Causes.EndsBeforeStart = (6, omega arith, refl)
listed Causes.TwoFamilies = (7, omega arith, refl)
listed Causes.RangeOfNetworks = (8, omega arith, refl)
listed Causes.OtherDash = (9, omega arith, refl)
listed Causes.NoLastAddress = (10, omega arith, refl)
listed Causes.WildcardMask = (11, omega arith, refl)
listed Causes.MaskAfterBlank = (12, omega arith, refl)
listed Causes.TwoEntries = (13, omega arith, refl)
listed Causes.CommaFollows = (14, omega arith, refl)
listed Causes.SemicolonFollows = (15, omega arith, refl)
listed Causes.TextFollows = (16, omega arith, refl)
listed Causes.InBrackets = (17, omega arith, refl)
listed Causes.InQuotes = (18, omega arith, refl)
listed Causes.Excluded = (19, omega arith, refl)
listed Causes.DashFirst = (20, omega arith, refl)
listed Causes.HasZone = (21, omega arith, refl)
listed Causes.HasPort = (22, omega arith, refl)
listed Causes.NotFourNumbers = (23, omega arith, refl)
listed Causes.HasStar = (24, omega arith, refl)
listed Causes.AllAddresses = (25, omega arith, refl)
listed Causes.HostName = (26, omega arith, refl)

none_explains : (list : List Cause) (text : List ℕ) → IsFirstOf list text None → All (λ c. ¬ (Explains text c)) list
none_explains [] text h = All-nil (λ c. ¬ (Explains text c))
none_explains (c ∷ list) text (inl (is, reported)) = absurd cc
none_explains (c ∷ list) text (inr (not, h)) =
    All-cons (λ z. ¬ (Explains text z)) c list not (none_explains list text h)

-- a text that is no entry and has no cause is explained by none
pub reported_none : (grammar : Grammar) (text : List ℕ) (reported : Option Cause)
    → IsReportedCause grammar text reported → reported ≡ None → IsNoEntry grammar text → (cause : Cause)
    → ¬ (Explains text cause)
reported_none grammar text reported (inl ((range, is), h)) none unread cause = absurd (unread range is)
reported_none grammar text reported (inr (unread, h)) none other cause =
    let (k, within, same) = listed cause in
    subst (λ z. ¬ (Explains text z)) same
    (none_explains causes text (subst (IsFirstOf causes text) none h) k cause within)
