-- Keys outside of the body that edits change: there they change and set what they do without bytes.
use Rattle.std.proofs.Common.{◌≡◌, inl, inr, ℕ, ◌+◌, ◌<◌, ◌≤◌, ◌^◌, Bool, true, false, [], ◌∷◌, Option, Some, None, refl, sym, ap, ◌∙◌, arith}
use Rattle.std.specs.Prelude.{Contains, ◌||◌}
use Rattle.std.proofs.lemmas.Bool.{le-leb, lt-ltb, or_left, or_right}
use Rattle.r4_base.specs.Tree.{Store}
use Rattle.r4_base.specs.Value.{Content, Value}
use Rattle.r4_content.specs.Edited.{Edits, Intervals, changed, is_between, is_in, put_keys}
use Rattle.r4_content.proofs.EditLaws.{in_changed}
use Rattle.r4_content.proofs.Ranks.{between_is}
use Rattle.r4_applied.specs.r4_build.Building.{set_by}
use Rattle.r4_applied.specs.r4_build.r4_leaf_edits.Suiting.{SuitLeaves}
use Rattle.r4_applied.proofs.r4_build.r4_patch.Members.{cases, none}
use Rattle.r4_applied.specs.r4_reach.Reach.{is_body}
use Rattle.r4_applied.specs.r4_reach.Touched.{Body, first_byte}
use Rattle.r4_applied.proofs.r4_sets.Carried.{not_both_ways}
use Rattle.r4_allowed.specs.r4_extent_change.r4_extent_blocks.Setting.{byte_set}
use Rattle.r4_allowed.specs.r4_extent_change.Beside.{without_bytes}
use Rattle.r4_extent_moves.specs.Moving.{ChangesBody, in_body}
use Rattle.r4_extent_moves.proofs.BesideBytes.{same_keys, same_set}
use Rattle.r4_extent_moves.proofs.BodyKeys.{in_on}
use Rattle.r4_extent_moves.proofs.SuitedBytes.{lies_in}

-- a key in one of some intervals
in_one : (rs : Intervals) (r : ℕ × ℕ) (k : ℕ) → Contains rs r → is_between r.0 r.1 k ≡ true → is_in rs k ≡ true
in_one [] r k m on = absurd (none r m)
in_one (q ∷ rs) r k m on = elim (cases q r rs m) [
  | inl same ↦ or_left (is_between q.0 q.1 k) (is_in rs k) (ap (λ (x : ℕ × ℕ). is_between x.0 x.1 k) (sym same) ∙ on)
  | inr more ↦ or_right (is_between q.0 q.1 k) (is_in rs k) (in_one rs r k more on)
]

module _ (b : Body) (e : Edits) (u : Store Value) (raw n : Content) (h : ChangesBody b e u raw n) (end : ℕ)
    (suits : SuitLeaves end e) where
  pub unset_outside : (k : ℕ) → in_body b k ≡ false → byte_set e k ≡ None
  unset_outside k off = by (byte_set e k) refl
    where
      by : (o : Option ℕ) → byte_set e k ≡ o → byte_set e k ≡ None
      by None is = is
      by (Some x) is = absurd (not_both_ways (lies_in b e u raw n h end suits k x is).0 off)

  module _ (cuts : (r : ℕ × ℕ) → Contains e.cuts r → is_body r.0 ≡ true → r.1 ≤ first_byte b + 2 ^ 64) where
    cut_changes : (r : ℕ × ℕ) → Contains e.cuts r → r.0 < r.1 → is_in (changed e) r.0 ≡ true
    cut_changes r m some =
        let on : is_between r.0 r.1 r.0 ≡ true = rw (le-leb r.0 r.0 (omega arith), lt-ltb r.0 r.1 some) refl in
        in_changed e r.0
        ∙ or_right (is_in (put_keys e.puts) r.0) (is_in e.zeros r.0 || is_in e.cuts r.0)
        (or_right (is_in e.zeros r.0) (is_in e.cuts r.0) (in_one e.cuts r r.0 m on))

    apart_cuts : (k : ℕ) → in_body b k ≡ false → (r : ℕ × ℕ) → Contains e.cuts r → is_body r.0 ≡ true → is_between r.0 r.1 k ≡ false
    apart_cuts k off r m at_body = by (is_between r.0 r.1 k) refl
      where
        by : (t : Bool) → is_between r.0 r.1 k ≡ t → is_between r.0 r.1 k ≡ false
        by false is = is
        by true is =
            let (low, high) = between_is r.0 r.1 k is in
            let (from, _) = between_is (first_byte b) (first_byte b + 2 ^ 64) r.0 (h.one r.0 (cut_changes r m (omega (arith, low, high))) at_body) in
            let to = cuts r m at_body in
            absurd (not_both_ways (in_on b k (omega (arith, from, low)) (omega (arith, to, high))) off)

    pub same_changes : (k : ℕ) → in_body b k ≡ false → is_in (changed (without_bytes e)) k ≡ is_in (changed e) k
    same_changes k off = same_keys e k (unset_outside k off) (apart_cuts k off)

    pub same_values : (k : ℕ) → in_body b k ≡ false → set_by (without_bytes e) k ≡ set_by e k
    same_values k off = same_set e k (unset_outside k off) (apart_cuts k off)
