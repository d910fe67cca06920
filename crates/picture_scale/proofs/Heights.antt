-- Heights and extents: the steps of the functions that find them. Assumes nothing.
use mathlib.Core.Path.{◌≡◌, refl}
use mathlib.Core.List.{List}
use Prim.Native.Nat.{ℕ, ◌+◌, ◌-◌, ◌%◌, ◌≤◌, ◌<◌, min}
use native.Mathlib.Numerals.{add-one}
use borrow.Author.Tests.{le-leb, lt-leb}
use lib.ListN.{length, get_or}
use lib.Ieee.{Float, nan, binary64, to_bits}
use Rattle.basis.specs.declared.Basis.{Basis}
use Rattle.text_rounded.specs.Rounded.{units_of}
use Rattle.picture_scale.specs.declared.Extent.{Extent}
use Rattle.picture_scale.specs.Scale.{thousandths, height_of, curve_height, widened, with_knot, curve_extent, knots_extent}

module _ (x : Float) (n a v u : ℕ) (e : n ≡ to_bits binary64 x) (f : a ≡ min (n % 9223372036854775808) 4787326403894837248) (g : v ≡ units_of 3 a)
    (k : u ≡ min 1099511627776000 v) where
  pub height_below : 9223372036854775808 ≤ n → 2000000000000000 - u ≡ height_of x
  unfolding height_of thousandths
  height_below h = rw (← e, le-leb 9223372036854775808 n h, ← f, ← g, ← k) refl

  pub height_above : n < 9223372036854775808 → 2000000000000000 + u ≡ height_of x
  unfolding height_of thousandths
  height_above h = rw (← e, lt-leb 9223372036854775808 n h, ← f, ← g, ← k) refl

module _ (b : Basis) (ks : List Float) where
  pub curve_begins : (p : ℕ) {h : ℕ} → h ≡ curve_height b ks p 0 → record { lo = h; hi = h } ≡ curve_extent b ks p 0
  unfolding curve_extent
  curve_begins p e = rw e refl

  pub curve_goes_on : (p i : ℕ) {e r : Extent} {h : ℕ} → e ≡ curve_extent b ks p i → h ≡ curve_height b ks p (i + 1) → r ≡ widened e h
      → r ≡ curve_extent b ks p (i + 1)
  unfolding curve_extent
  curve_goes_on p i {e} {r} {h} u v w = rw (w, u, v, add-one i) refl

  pub knots_go_on : (e₀ : Extent) (j : ℕ) {e r : Extent} → e ≡ knots_extent b ks e₀ j → r ≡ with_knot b (length ks) j (get_or ks j nan) e
      → r ≡ knots_extent b ks e₀ (j + 1)
  unfolding knots_extent
  knots_go_on e₀ j {e} {r} u w = rw (w, u, add-one j) refl

  pub no_knots : (e₀ : Extent) → e₀ ≡ knots_extent b ks e₀ 0
  unfolding knots_extent
  no_knots e₀ = refl
