-- How code holds two listings, and what it is to have taken in a record. Definitions only.
use Rattle.std.specs.Prelude.{◌≡◌, List, ℕ, ◌≤◌, max, take}
use Rattle.compare_lines.specs.declared.EntryResult.{EntryResult}
use Rattle.compare_lines.specs.declared.Comparison.{Comparison}
use Rattle.compare_lines.specs.declared.Comparison.TheVariants.{Before, Parted}
use Rattle.compare_lines.specs.declared.Listing.{Listing as ListingState}
use Rattle.compare_lines.specs.declared.Listing.TheVariants as L
use Rattle.compare_lines.specs.declared.CompareRecord.{CompareRecord}
use Rattle.compare_lines.specs.declared.TakeResult.{TakeResult}
use Rattle.compare_lines.specs.Listings.{Listing, none, on, places, heard, entered, Both, before, parted, verdict_of, after_of}

-- the knots are the first numbers of what is lent
abbrev pub listing_of : ListingState → List ℕ → Listing
listing_of L.Nothing knots = none
listing_of (L.On t n) knots = on t (take n knots)

abbrev pub knots_of : ListingState → ℕ
knots_of L.Nothing = 0
knots_of (L.On t n) = n

abbrev pub both_of : Comparison → List ℕ → List ℕ → Both
both_of (Before l) old new = before (listing_of l old)
both_of (Parted k l) old new = parted (listing_of k old) (listing_of l new)

-- the knots of the longer listing
abbrev pub count_of : Comparison → ℕ
count_of (Before l) = knots_of l
count_of (Parted k l) = max (knots_of k) (knots_of l)

-- a record came upon the listing l
pub record Enters (l : Listing) (s : CompareRecord) (e : EntryResult) (knots : List ℕ) : Type 0 where
  pub held : listing_of e.listing knots ≡ entered l s
  pub told : e.verdict ≡ heard l s
  pub few : knots_of e.listing ≤ places

-- a record came upon both
pub record Takes (b : Both) (s : CompareRecord) (t : TakeResult) (old new : List ℕ) : Type 0 where
  pub held : both_of t.held old new ≡ after_of b s
  pub told : t.verdict ≡ verdict_of b s
  pub few : count_of t.held ≤ places
