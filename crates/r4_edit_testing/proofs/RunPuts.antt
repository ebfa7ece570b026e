-- An extent, or an item of a leaf, may be put behind the four blocks below a root, among the root's extents.
use Rattle.std.proofs.Common.{◌≡◌, inl, inr, ℕ, ◌+◌, ◌-◌, ◌^◌, ◌<◌, ◌≤◌, List, [], ◌∷◌, length, refl, sym, ap, subst, ◌∙◌, true, arith}
use Rattle.std.specs.Prelude.{Contains}
use Rattle.std.proofs.Math.Dec.{lit<}
use Rattle.r4_base.specs.Cell.{item_end}
use Rattle.r4_base.specs.Extents.{units_of as units_of_body}
use Rattle.r4_base.specs.Key.{IsKey, rank, top}
use Rattle.r4_base.specs.Node.{Item}
use Rattle.r4_base.specs.Tree.{Name, Root, Store}
use Rattle.r4_base.specs.Value.{Value}
use Rattle.r4_base.specs.declared.key.Key.{Key}
use Rattle.r4_base.proofs.Keys.{is_key}
use Rattle.r4_branch.specs.Pieces.{bytes_behind, twig_bytes, units_of}
use Rattle.r4_cell.specs.Patch.{by_name}
use Rattle.r4_cell.specs.Seen.{CellSeen}
use Rattle.r4_cell.specs.declared.change.Fresh.{Fresh}
use Rattle.r4_graft.specs.Splices.{place}
use Rattle.r4_leaf.proofs.SoundItems.{item_has_end}
use Rattle.r4_leaf.proofs.Standing.{given_sound}
use Rattle.r4_edit.specs.Editing.{given_item}
use Rattle.r4_edit.specs.Extents.{AreAmongExtents, IsPutIn, leaf_pointer}
use Rattle.r4_path.specs.TwigPieces.{twig_pieces}
use Rattle.r4_path.specs.Growing.{IsPathIn}
use Rattle.r4_edit_testing.specs.Trials.{IsNewExtent, IsRunTwig, StandsAlone, byte_key, low_root, new_units, run_pieces}
use Rattle.r4_patch.proofs.Members.{none}
use Rattle.r4_edit_testing.proofs.RunTwig.{byte_at, byte_top, first_of, least_byte, name_is, path_of}
use Rattle.r4_edit_testing.proofs.ShortOver.{ends, few_bytes, given, new_blocks, put_few}

no_holes : units_of (run_pieces true) ≡ []
unfolding units_of
no_holes = refl

pointer_bytes : (key : Key) (id : ℕ) → twig_bytes (leaf_pointer key id) ≤ 200
unfolding bytes_behind
pointer_bytes key id = omega arith

byte_is_key : (n : ℕ) → n < 2 ^ 32 → IsKey (byte_key n)
byte_is_key n few = is_key (byte_key n) refl (lit< tt) (lit< tt) (lit< tt) (omega (arith, few))

module _ (twig : CellSeen) (is : IsRunTwig true twig) where
  among : (from to : ℕ) → rank (byte_key 16384) ≤ from → from < to → to ≤ top → AreAmongExtents twig from to
  among from to behind some within =
      let k = byte_at 16384 in
      let lo = is.lo in
      let hi = is.hi in
      record {
        low = omega (arith, lo, k, least_byte, behind);
        some = some;
        high = omega (arith, hi, within);
        clear = record {
          named = λ n at. elim (name_is true twig is n at) [
            | inl same ↦ let high = (first_of true twig is n same).high in inl (omega (arith, high, k, behind))
            | inr block ↦ let (j, less, same) = block in let e = ap (λ (m : Name). m.hi) same in
                inl (omega (arith, e, k, behind, less))
          ];
          own = λ u v at. absurd (none (u, v)
              (subst (λ us. Contains us (u, v)) (sym is.pieces.units ∙ no_holes) at));
        };
      }

  few : twig_bytes (twig_pieces twig) ≤ 4068
  few = subst (λ ps. twig_bytes ps ≤ 4068) is.pieces.is is.pieces.fits

  path : (f : Fresh) → 28 ≤ f.next → IsPathIn (by_name (twig ∷ [])) (low_root twig) (twig ∷ []) f
  path f next = path_of true twig is [] (λ c at. absurd (none c at)) (λ c at. absurd (none c at)) (λ c at. absurd (none c at)) f next

  pub spread_here : (it : Item) → it.plugin ≡ 5 → IsNewExtent it → rank (byte_key 16384) ≤ rank it.key
      → rank it.key + 8192 ≤ top → (f : Fresh) → f.next ≡ 2 ^ 63 + 1000 → f.end ≡ 2 ^ 63 + 2000
      → (t : Store Value) × ((r : Root) × IsPutIn t r (twig ∷ []) it f)
  spread_here it five new behind within f next end =
      let last = ends it five new in
      let wide : Fresh = record { next = 2 ^ 63 + 1000; end = 2 ^ 64 - 1 } in (
        by_name (twig ∷ []),
        (
          low_root twig,
          inr (inr (inl (record {
            room = record {
              path = path f (omega (arith, next));
              level = is.level;
              enough = inr (refl, let l = is.level in omega (arith, l));
              numbers = let b = put_few it five new (place (rank it.key) (twig_pieces twig)) (twig_pieces twig) few in
                  omega (arith, b, next, end);
            };
            keys = among (rank it.key) (item_end it) behind (omega (arith, last)) (omega (arith, last, within));
            given = given it five new;
            blocks = new_blocks it five new (by_name (twig ∷ [])) wide f (path wide (omega arith)).free refl (omega arith) end;
          }))),
        ),
      )

  pub spread_at : (offset : ℕ) → (16384 ≤ offset) × (offset < 2 ^ 32) → (key : Key) → key ≡ byte_key offset → (body : List ℕ)
      → (length body ≡ 32) × (units_of_body body ≡ new_units) → (f : Fresh) → f.next ≡ 2 ^ 63 + 1000 → f.end ≡ 2 ^ 63 + 2000
      → (t : Store Value) × ((r : Root) × IsPutIn t r (twig ∷ []) (given_item key 5 body) f)
  spread_at offset (low, few) key at body (long, blocks) f next end =
      let first = byte_at 16384 in
      let k = byte_at offset in
      subst (λ (x : Key). (t : Store Value) × ((r : Root) × IsPutIn t r (twig ∷ []) (given_item x 5 body) f)) (sym at)
      (spread_here (given_item (byte_key offset) 5 body) refl
      (record { long = long; blocks = blocks; key = byte_is_key offset few; fits = omega (arith, few) })
      (omega (arith, first, k, low)) (omega (arith, k, few, byte_top)) f next end)

  pub apart_here : (it : Item) → IsKey it.key → rank (byte_key 16384) ≤ rank it.key → StandsAlone it top → (f : Fresh)
      → f.next ≡ 2 ^ 63 + 1000 → f.end ≡ 2 ^ 64 - 1 → (t : Store Value) × ((r : Root) × IsPutIn t r (twig ∷ []) it f)
  apart_here it whole behind alone f next end = (
    by_name (twig ∷ []),
    (
      low_root twig,
      inr (inr (inr (record {
        path = path f (omega (arith, next));
        level = is.level;
        room = λ id. record {
          enough = inr (refl, let l = is.level in omega (arith, l));
          numbers =
              let at = place (rank it.key) (twig_pieces twig) in
              let b = few_bytes at at (twig_pieces twig) (leaf_pointer it.key id) few (pointer_bytes it.key id) in
              omega (arith, b, next, end);
        };
        keys = among (rank it.key) (item_end it) behind (item_has_end it (given_sound it alone.given whole)) alone.end;
        whole_key = whole;
        given = alone.given;
      }))),
    ),
  )
