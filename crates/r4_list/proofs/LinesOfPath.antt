-- A path has one listing.
use Rattle.std.proofs.Common.{◌≡◌, ℕ, zero, suc, ◌+◌, ◌-◌, ◌<◌, Bool, true, false, cond, List, [], ◌∷◌, ◌++◌, Contains, Option, Some, None, refl, sym, ap, ◌∙◌, arith}
use Rattle.std.specs.FinMap.{entries}
use Rattle.std.proofs.lemmas.List.Elements.{All-contains, All-contains_itself, All-filter, filter_passes}
use Rattle.r4_base.specs.Image.{Image}
use Rattle.r4_base.specs.Value.{Value, Stat, Entry, Byte, Content}
use Rattle.r4_base.specs.Volume.{HasContent, HasEntry, IsReached, is_directory, is_entry_in}
use Rattle.r4_base.specs.declared.items.Attr.{Attr}
use Rattle.r4_base.specs.declared.items.Target.{Target}
use Rattle.r4_content.specs.Walk.{Walked, At, NoName, NoDirectory, NoEntry, attr_at, names_in, walk}
use Rattle.r4_list.specs.Listing.{IsListing, entries_of, file_text, line_of, lines_at, lines_below, lines_of, shown_path, text_at}
use Rattle.r4_list.specs.Walking.{IsDirectoryAt, IsEnough}
use Rattle.r4_list.proofs.WalkEntries.{entry_at, here, later}
use Rattle.r4_list.proofs.LinesLeft.{entry_of}
use Rattle.r4_list.proofs.DepthBound.{IsDeepest, some_deepest, some_enough}
use Rattle.r4_list.proofs.WalkPaths.{walk_reached}

-- ---- the lines of an object are the same from some number of steps on

below_same : (one two : Target → List ℕ → List ℕ) (path : List ℕ) (us : List (ℕ × Value)) → ((k : ℕ) (s : List ℕ) (o : Target) (p : List ℕ) → Contains us (k, Entry s o) → one o p ≡ two o p)
    → lines_below one path us ≡ lines_below two path us
unfolding lines_below
below_same one two path [] same = refl
below_same one two path ((k, Stat a) ∷ us) same = below_same one two path us (λ j s o p c. same j s o p (later (k, Stat a) (j, Entry s o) us c))
below_same one two path ((k, Entry s o) ∷ us) same =
    let rest = below_same one two path us (λ j t q p c. same j t q p (later (k, Entry s o) (j, Entry t q) us c)) in
    let first = same k s o (path ++ 47 ∷ s) (here (k, Entry s o) us) in
    λ i. first i ++ rest i
below_same one two path ((k, Byte x) ∷ us) same = below_same one two path us (λ j s o p c. same j s o p (later (k, Byte x) (j, Entry s o) us c))

entry_below : (m : Content) (o : Target) (k : ℕ) (s : List ℕ) (p : Target) → Contains (entries_of m o.oid.0) (k, Entry s p) → HasEntry m o p
unfolding entries_of
entry_below m o k s p c =
    let in_all = All-contains (Contains (entries m)) (entries_of m o.oid.0) (k, Entry s p) (All-filter (is_entry_in o.oid.0) (Contains (entries m)) (entries m) (All-contains_itself (entries m))) c in
    let passes = All-contains (λ (u : ℕ × Value). is_entry_in o.oid.0 u ≡ true) (entries_of m o.oid.0) (k, Entry s p) (filter_passes (is_entry_in o.oid.0) (entries m)) c in
    (k, s, entry_at m k (Entry s p) in_all, (entry_of o.oid.0 k (Entry s p) passes).in_dir)

lines_alike : (m : Content) (x y : ℕ) (o : Target) (path : List ℕ)
    → (IsDirectoryAt m o → lines_below (lines_of m x) path (entries_of m o.oid.0) ≡ lines_below (lines_of m y) path (entries_of m o.oid.0)) → lines_of m (suc x) o path ≡ lines_of m (suc y) o path
unfolding lines_of
lines_alike m x y o path same = split (attr_at m o) refl
  where
    by_kind : (a : Attr) → attr_at m o ≡ Some a → (b : Bool) → is_directory a ≡ b
        → line_of a path ++ cond b (lines_below (lines_of m x) path (entries_of m o.oid.0)) [] ≡ line_of a path ++ cond b (lines_below (lines_of m y) path (entries_of m o.oid.0)) []
    by_kind a is true dir = ap (λ (xs : List ℕ). line_of a path ++ xs) (same (a, is, dir))
    by_kind a is false file = refl

    split : (v : Option Attr) → attr_at m o ≡ v → lines_at m (lines_of m x) o path v ≡ lines_at m (lines_of m y) o path v
    split None is = refl
    split (Some a) is = by_kind a is (is_directory a) refl

module _ (n : ℕ) (image : Image) (m : Content) (c : HasContent n image m) (deep : ℕ) (bound : IsDeepest n image m c deep) where
  same_lines : (x y s : ℕ) (o : Target) (path : List ℕ) → IsReached m s o → deep < x + s → deep < y + s → lines_of m (suc x) o path ≡ lines_of m (suc y) o path
  same_lines zero y s o path r lx ly = lines_alike m zero y o path (λ d. let le = bound s o d r in absurd (omega arith))
  same_lines (suc x) zero s o path r lx ly = lines_alike m (suc x) zero o path (λ d. let le = bound s o d r in absurd (omega arith))
  same_lines (suc x) (suc y) s o path r lx ly =
      lines_alike m (suc x) (suc y) o path
      (λ d. below_same (lines_of m (suc x)) (lines_of m (suc y)) path (entries_of m o.oid.0)
      (λ k t p q there. same_lines x y (suc s) p q (o, r, entry_below m o k t p there) (omega arith) (omega arith)))

  -- ---- the text of a path

  same_text : (names : List (List ℕ)) (path : List ℕ) (w : Walked) (x y : ℕ) → walk m names ≡ w → deep < x → deep < y → text_at m (suc x) path w ≡ text_at m (suc y) path w
  same_text names path (At o a) x y at lx ly =
      let (s, r, is) = walk_reached n image m c names o a at in
      ap (λ (ls : List ℕ). ls ++ file_text m o a) (same_lines x y s o path r (omega arith) (omega arith))
  same_text names path NoName x y at lx ly = refl
  same_text names path NoDirectory x y at lx ly = refl
  same_text names path NoEntry x y at lx ly = refl

  listed : (path : List ℕ) → IsListing m path (text_at m (suc (suc deep)) (shown_path path) (walk m (names_in path)))
  listed path = record {
    deep = suc (suc deep);
    is = λ steps le.
        let e : suc (steps - 1) ≡ steps = omega arith in
        same_text (names_in path) (shown_path path) (walk m (names_in path)) (suc deep) (steps - 1) refl (omega arith) (omega arith)
        ∙ ap (λ (k : ℕ). text_at m k (shown_path path) (walk m (names_in path))) e;
  }

module _ (n : ℕ) (image : Image) (m : Content) (c : HasContent n image m) where
  -- a path has a listing
  pub some_listing : (path : List ℕ) → (text : List ℕ) × IsListing m path text
  some_listing path =
      let (deep, bound) = some_deepest n image m c in
      (text_at m (suc (suc deep)) (shown_path path) (walk m (names_in path)), listed n image m c deep bound path)

  -- that of an object is its lines, with steps that are enough, and its bytes
  pub object_listing : (path text : List ℕ) (o : Target) (a : Attr) → walk m (names_in path) ≡ At o a
      → ((steps : ℕ) → IsEnough m steps → text ≡ lines_of m (suc steps) o (shown_path path) ++ file_text m o a) → IsListing m path text
  object_listing path text o a at is =
      let (deep, enough) = some_enough n image m c in
      record {
        deep = suc deep;
        is = λ steps le.
            let e : suc (steps - 1) ≡ steps = omega arith in
            is (steps - 1) (enough (steps - 1) (omega arith))
            ∙ ap (λ (k : ℕ). lines_of m k o (shown_path path) ++ file_text m o a) e
            ∙ sym (ap (text_at m steps (shown_path path)) at);
      }

-- and one alone
pub one_listing : (m : Content) (path one two : List ℕ) → IsListing m path one → IsListing m path two → one ≡ two
one_listing m path one two f g =
    let steps : ℕ = f.deep + g.deep in
    f.is steps (omega arith) ∙ sym (g.is steps (omega arith))

-- that of a path which leads nowhere is a word
pub word_listing : (m : Content) (path word : List ℕ) (w : Walked) → ((steps : ℕ) → text_at m steps (shown_path path) w ≡ word) → walk m (names_in path) ≡ w → IsListing m path word
word_listing m path word w is at = record { deep = 0; is = λ steps le. sym (ap (text_at m steps (shown_path path)) at ∙ is steps) }
