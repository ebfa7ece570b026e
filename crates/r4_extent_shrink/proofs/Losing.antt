-- A body that loses blocks, none of which gets bytes.
use Rattle.std.proofs.Common.{◌≡◌, ℕ, ◌+◌, ◌*◌, ◌^◌, ◌<◌, ◌≤◌, Bool, true, false, [], ◌∷◌, refl, ap, ◌∙◌, arith}
use Rattle.std.specs.Prelude.{◌&&◌, ◌||◌, if◌then◌else◌, nat_lt, not}
use Rattle.std.proofs.lemmas.Grind.{common_steps}
use Rattle.r4_base.specs.declared.key.Key.{Key}
use Rattle.r4_content.specs.Edited.{Edits, Intervals, put_keys}
use Rattle.r4_extent_growth.specs.r4_extent_build.Growing.{end_after, end_before}
use Rattle.r4_extent_growth.specs.r4_extent_demands.Pieces.{gets_among}
use Rattle.r4_extent_growth.specs.r4_extent_demands.Sizes.{IsFirstKey, IsSizedBody}
use Rattle.r4_extent_growth.specs.r4_extent_loss.Losing.{IsLosing}
use Rattle.r4_extent_growth.specs.r4_measure.r4_reach.Needs.{is_met, meets}
use Rattle.r4_extent_growth.specs.r4_measure.r4_reach.Touched.{Body, first_byte, going, is_spread, turns_out}

pub left_off : (x y : Bool) → (x || y) ≡ false → x ≡ false
left_off true y h = absurd cc
left_off false y h = refl

right_off : (x y : Bool) → (x || y) ≡ false → y ≡ false
right_off true y h = absurd cc
right_off false y h = h

both_off : (x y : Bool) → x ≡ false → y ≡ false → (x || y) ≡ false
both_off true y h g = absurd cc
both_off false y h g = g

and_none : (x : Bool) → (x && false) ≡ false
and_none true = refl
and_none false = refl

-- what meets no interval, meets none within it
narrower : (lo hi from to : ℕ) (r : ℕ × ℕ) → from ≤ lo → hi ≤ to → meets from to r ≡ false → meets lo hi r ≡ false
narrower lo hi from to r low high h = grind (arith, common_steps, low, high, h)

within : (lo hi from to : ℕ) (rs : Intervals) → from ≤ lo → hi ≤ to → is_met rs from to ≡ false → is_met rs lo hi ≡ false
within lo hi from to [] low high h = refl
within lo hi from to (r ∷ rs) low high h =
    both_off (meets lo hi r) (is_met rs lo hi)
    (narrower lo hi from to r low high (left_off (meets from to r) (is_met rs from to) h))
    (within lo hi from to rs low high (right_off (meets from to r) (is_met rs from to) h))

pub going_is : (b : Body) → b.in_extents ≡ true → going b ≡ (end_after b, end_before b)
going_is b h = ap (λ (t : Bool). if t then (end_after b, end_before b) else (0, 0)) h

pub losing : (b : Body) (first : Key) (e : Edits) → IsSizedBody b → b.in_extents ≡ true → IsFirstKey b first → end_after b < end_before b
    → gets_among b e (first_byte b) (2 ^ 52) ≡ false → IsLosing b first e
losing b first e sized stood key shorter none = record {
  sized = sized;
  in_extents = stood;
  key = key;
  shorter = shorter;
  quiet = λ k low high.
      let met = left_off (is_met (put_keys e.puts) (first_byte b) (first_byte b + 4096 * 2 ^ 52)) _ none in
      let no_tails : turns_out b ≡ false = ap (λ (t : Bool). is_spread b && not t) stood ∙ and_none (is_spread b) in
      both_off (is_met (put_keys e.puts) k (k + 4096)) (turns_out b && nat_lt k (first_byte b + b.was))
      (within k (k + 4096) (first_byte b) (first_byte b + 4096 * 2 ^ 52) (put_keys e.puts) low (omega (arith, high)) met)
      (ap (λ (t : Bool). t && nat_lt k (first_byte b + b.was)) no_tails);
}
