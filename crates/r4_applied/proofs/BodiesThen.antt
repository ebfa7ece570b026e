-- Where edits are made in leaves alone, in which kind of cells bodies stand, and of which files bytes past the size are.
use Rattle.std.proofs.Common.{◌≡◌, ◌↔◌, ◌⊎◌, inl, inr, ℕ, ◌*◌, ◌<◌, ◌≤◌, ◌^◌, ◌==◌}
use Rattle.std.proofs.Common.{Bool, true, false, [], Option, Some, None, refl, sym, ap, subst, ◌∙◌, arith}
use Rattle.std.specs.FinMap.{find}
use Rattle.std.specs.Ordering.{nat_cmp}
use Rattle.std.proofs.Math.Decide.{dec_le}
use Rattle.std.proofs.Math.Nat.{lt_of_not-le}
use Rattle.std.proofs.lemmas.Bool.{cases_Bool, eqb-true}
use Rattle.std.proofs.lemmas.Option.{none-some, same_Some}
use Rattle.r4_base.specs.Key.{key_of_rank, minor_of, offset_of}
use Rattle.r4_base.specs.Tree.{InNode, IsTree, Node, Root, Store}
use Rattle.r4_base.specs.Value.{Byte, Content, Entry, Stat, Value, at_key}
use Rattle.r4_base.specs.Volume.{HasExtents, HasFiles, HasStat, HasTails, HasUnits, InExtent, InTail, IsObject}
use Rattle.r4_base.specs.Volume.{IsVisible, KeyFits, blocks_for, byte_rank, is_directory, object_of, stat_rank}
use Rattle.r4_base.specs.declared.items.Attr.{Attr}
use Rattle.r4_base.specs.declared.items.Target.{Target}
use Rattle.r4_base.proofs.Trees.{one_cell}
use Rattle.r4_base.proofs.Visible.{byte_back}
use Rattle.r4_sets_told.specs.r4_cell.Patch.{Patch, place}
use Rattle.r4_content.specs.Edited.{Edits, changed, edited, is_in}
use Rattle.r4_content.specs.Lawful.{HasBodies, HasByte}
use Rattle.r4_content.specs.Listed.{list_edited}
use Rattle.r4_content.specs.Meaning.{greatest_size}
use Rattle.r4_content.specs.Units.{IsOfFile}
use Rattle.r4_content.proofs.EditLaws.{edited_off, edited_on}
use Rattle.r4_content.proofs.Keeping.{byte_key}
use Rattle.r4_sets_told.specs.r4_patch.Effect.{HasEffect, Placed, UnitIn, in_leaf}
use Rattle.r4_sets_told.specs.r4_patch.Part.{IsPart, MeetsPart}
use Rattle.r4_sets_told.proofs.r4_patch.Effects.{changed_after, others_after}
use Rattle.r4_sets_told.proofs.r4_patch.Holding.{one_holder, unit_held}
use Rattle.r4_sets_told.proofs.r4_patch.PartCells.{tree_is_part}
use Rattle.r4_sets_told.specs.r4_sets.Change.{TailsThere}
use Rattle.r4_sets_told.specs.r4_sets.Units.{SameUnit}
use Rattle.r4_sets_told.proofs.r4_sets.Bodies.{IsFile, file_or_not, in_kind, no_body}
use Rattle.r4_sets_told.proofs.r4_sets.BodyKinds.{extents_after, tails_after, tails_anew}
use Rattle.r4_sets_told.proofs.r4_sets.Carried.{byte_owner}
use Rattle.r4_sets_told.proofs.r4_sets.Cells.{back_iff}
use Rattle.r4_build.specs.Building.{set_by}
use Rattle.r4_build.proofs.Contents.{edits_made}
use Rattle.r4_applied.proofs.SeenThere.{past_size, stat_seen, stat_stands}

-- a leaf has the key
abbrev pub LiesInLeafOf : Store Value → ℕ → Type 0
LiesInLeafOf u k = (i : ℕ) × (c : Node Value) × (u i ≡ Some c) × (c.level ≡ 1) × InNode c k

-- what stands at the key of a byte is a byte, where keys fit
pub byte_at : (m : Content) → ((k : ℕ) (v : Value) → at_key m k ≡ Some v → KeyFits m (key_of_rank k) v) → (o : Target)
    → IsObject o → (x : ℕ) → x < 2 ^ 64 → (v : Value) → at_key m (byte_rank o x) ≡ Some v → HasByte m o x
byte_at m fits o is x lt v at = by v at (fits (byte_rank o x) v at)
  where
    four : minor_of (key_of_rank (byte_rank o x)) ≡ 4
    four = ap minor_of (byte_back o x is lt) ∙ omega arith

    by : (v : Value) → at_key m (byte_rank o x) ≡ Some v → KeyFits m (key_of_rank (byte_rank o x)) v → HasByte m o x
    by (Byte y) at f = (y, at)
    by (Stat a) at f = let one = f.0 in let other = four in absurd (omega (arith, one, other))
    by (Entry s t) at f = let other = four in absurd (omega (arith, f, other))

leaf_flag : (o : Option Value) (v : Value) (b : Bool) → in_leaf o ≡ Some (v, b) → true ≡ b
leaf_flag None v b e = absurd (none-some (v, b) e)
leaf_flag (Some w) v b e = ap (λ (x : Placed Value). x.1) (same_Some (w, true) (v, b) e)

-- The second tree has at each key that the edits change what they set there, in leaves, and else what the first one has,
-- of which no extent has such a key.
pub record HasEdits (e : Edits) (u v : Store Value) : Type 0 where
  pub set : (k : ℕ) (w : Placed Value) → is_in (changed e) k ≡ true → UnitIn v k w ↔ (set_by e k ≡ Some w)
  pub others : (k : ℕ) (w : Placed Value) → is_in (changed e) k ≡ false → UnitIn v k w ↔ UnitIn u k w
  pub apart : (k : ℕ) → is_in (changed e) k ≡ true → InExtent u k → ⊥

-- So it is where a patch sets just what the edits set, at keys of leaves.
module _ (p : Patch Value) (u : Store Value) (root : Root) (e : Edits) (it : IsTree u root) (meets : MeetsPart p u root)
    (effect : HasEffect p (is_in (changed e)) (set_by e))
    (lie : (k : ℕ) → is_in (changed e) k ≡ true → LiesInLeafOf u k) where
  part : IsPart u root
  part = tree_is_part u root it

  -- a changed key lies in no extent
  not_extent : (k : ℕ) → is_in (changed e) k ≡ true → InExtent u k → ⊥
  not_extent k on (j, d, v, td, level, has) =
      let (i, c, tc, one, at) = lie k on in
      let is = one_holder u root part k j i d c td tc (unit_held d k v (part.nodes j d td) has)
      (inl (omega (arith, one), at)) in
      let same = one_cell u i d c (subst (λ x. u x ≡ Some d) is td) tc in
      level (ap (λ (x : Node Value). x.level) same ∙ one)

  pub has_edits : HasEdits e u (place p u)
  has_edits = record {
    set = λ k w on. changed_after p u root part meets (is_in (changed e)) (set_by e) effect k w on;
    others = λ k w off. others_after p u root part meets (is_in (changed e)) (set_by e) effect k w off;
    apart = not_extent;
  }

  pub units_made : (raw : Content) → HasUnits u raw → HasUnits (place p u) (edited e raw)
  units_made raw units = edits_made p u root e raw part meets effect units

module _ (e : Edits) (u v : Store Value) (raw n : Content) (units : HasUnits u raw)
    (units_then : HasUnits v (edited e raw)) (files : HasFiles u raw) (visible : IsVisible raw n)
    (made : HasEdits e u v) (before : HasBodies greatest_size n) (after : HasBodies greatest_size (edited e n)) where
  -- ---- keys that change, and the others

  made_in : (k : ℕ) (w : Value) (b : Bool) → is_in (changed e) k ≡ true → UnitIn v k (w, b) → true ≡ b
  made_in k w b on at = leaf_flag (find nat_cmp k (list_edited e [])) w b ((made.set k (w, b) on).0 at)

  no_extent_then : (k : ℕ) → is_in (changed e) k ≡ true → InExtent v k → ⊥
  no_extent_then k on (i, c, w, vc, level, has) =
      level (eqb-true c.level 1 (sym (made_in k w (c.level == 1) on (i, c, vc, has, refl))))

  there_then : (k : ℕ) (w : Value) → is_in (changed e) k ≡ true → at_key (edited e n) k ≡ Some w → InTail v k
  there_then k w on at =
      let (i, c, vc, has) = (units_then k w).0 (edited_on e raw n k on ∙ at) in
      (i, c, w, vc, eqb-true c.level 1 (sym (made_in k w (c.level == 1) on (i, c, vc, has, refl))), has)

  tail_then : (k : ℕ) → is_in (changed e) k ≡ true → InTail v k → (w : Value) × (at_key (edited e n) k ≡ Some w)
  tail_then k on (i, c, w, vc, one, has) =
      (w, sym (edited_on e raw n k on) ∙ (units_then k w).1 (i, c, vc, has))

  stays : (k : ℕ) → is_in (changed e) k ≡ false → SameUnit u v k
  stays k off w = back_iff (made.others k w off)

  -- stat data afterwards are seen
  stat_then : (o : Target) (b : Attr) → HasStat (edited e raw) o b → HasStat (edited e n) o b
  stat_then o b (is, at) = elim (cases_Bool (is_in (changed e) (stat_rank o))) [
    | inl on ↦ (is, sym (edited_on e raw n (stat_rank o) on) ∙ at)
    | inr off ↦ (
      is,
      edited_off e n (stat_rank o) off
          ∙ (stat_seen raw n visible o b (is, sym (edited_off e raw (stat_rank o) off) ∙ at)).1,
    )
  ]

  -- ---- one file

  module _ (o : Target) (b : Attr) (stat : HasStat (edited e n) o b) (file : is_directory b ≡ false) where
    has_then : (x : ℕ) → x < 2 ^ 64 → HasByte (edited e n) o x ↔ (x < b.size)
    has_then x lt = after.offsets o b stat file x lt

    tails_there : TailsThere v (changed e) o b.size
    tails_there x lt on = (
      (
        λ tail.
            (let (w, at) = tail_then (byte_rank o x) on tail in
            (has_then x lt).0 (byte_at (edited e n) after.keys o stat.0 x lt w at)),
        λ below.
            (let (y, at) = (has_then x lt).1 below in
            there_then (byte_rank o x) (Byte y) on at),
      ),
      no_extent_then (byte_rank o x) on,
    )

    was_there : (x : ℕ) → is_in (changed e) (byte_rank o x) ≡ false → HasByte (edited e n) o x → HasByte n o x
    was_there x off (y, at) = (y, sym (edited_off e n (byte_rank o x) off) ∙ at)

    is_there : (x : ℕ) → is_in (changed e) (byte_rank o x) ≡ false → HasByte n o x → HasByte (edited e n) o x
    is_there x off (y, at) = (y, edited_off e n (byte_rank o x) off ∙ at)

    -- a new file
    anew : ((a : Attr) → IsFile n o a → ⊥) → HasTails v o b.size
    anew new =
        tails_anew u v (changed e) o stays b.size tails_there (λ x lt off. (
          λ tail. no_body u raw o units files stat.0 not_raw x lt (inl tail),
          λ extent. no_body u raw o units files stat.0 not_raw x lt (inr extent),
          behind x lt off,
        ))
      where
        not_raw : (a : Attr) → IsFile raw o a → ⊥
        not_raw a (there, kind) = new a (stat_seen raw n visible o a there, kind)

        behind : (x : ℕ) → x < 2 ^ 64 → is_in (changed e) (byte_rank o x) ≡ false → b.size ≤ x
        behind x lt off = elim (dec_le b.size x) [
          | yes le ↦ le
          | no below ↦
              let (y, at) = was_there x off ((has_then x lt).1 (lt_of_not-le below)) in
              let (_, (a, there, kind)) = before.keys (byte_rank o x) (Byte y) at in
              absurd (new a (subst (λ (q : Target). HasStat n q a) (byte_owner o x stat.0 lt) there, kind))
        ]

    -- one that was there
    module _ (a : Attr) (was : HasStat n o a) (kind : is_directory a ≡ false) where
      same_side : (x : ℕ) → x < 2 ^ 64 → is_in (changed e) (byte_rank o x) ≡ false → (x < a.size) ↔ (x < b.size)
      same_side x lt off = (
        λ below. (has_then x lt).0 (is_there x off ((before.offsets o a was kind x lt).1 below)),
        λ below. (before.offsets o a was kind x lt).0 (was_there x off ((has_then x lt).1 below)),
      )

      in_tails : HasTails u o a.size → HasTails v o b.size
      in_tails tails = tails_after u v (changed e) o stays a.size b.size tails tails_there same_side

      -- none of its bytes changes, so its size stays
      in_extents : HasExtents u o a.size
          → ((x : ℕ) → x < 2 ^ 64 → is_in (changed e) (byte_rank o x) ≡ true → ⊥) → HasExtents v o b.size
      in_extents extents still =
          extents_after u v (changed e) o stays a.size b.size extents
          (λ x lt on. absurd (still x lt on))
          (λ x lt off. (
            subst (λ (m : ℕ). x < 4096 * blocks_for m) size,
            subst (λ (m : ℕ). x < 4096 * blocks_for m) (sym size),
          ))
        where
          small : (a.size ≤ greatest_size) × (b.size ≤ greatest_size)
          small = (before.small o a was kind, after.small o b stat file)

          off_at : (x : ℕ) → x < 2 ^ 64 → is_in (changed e) (byte_rank o x) ≡ false
          off_at x lt = elim (cases_Bool (is_in (changed e) (byte_rank o x))) [
            | inl on ↦ absurd (still x lt on)
            | inr off ↦ off
          ]

          size : a.size ≡ b.size
          size = elim (dec_le a.size b.size) [
            | yes up ↦ elim (dec_le b.size a.size) [
              | yes down ↦ omega (arith, up, down)
              | no less ↦
                  let low = lt_of_not-le less in
                  let le = small in
                  let lt : a.size < 2 ^ 64 = omega (arith, le) in
                  let below = (same_side a.size lt (off_at a.size lt)).1 low in
                  absurd (omega (arith, below))
            ]
            | no more ↦
                let low = lt_of_not-le more in
                let le = small in
                let lt : b.size < 2 ^ 64 = omega (arith, le) in
                let below = (same_side b.size lt (off_at b.size lt)).0 low in
                absurd (omega (arith, below))
          ]

  -- no byte of a body that is not empty and stands in extents is changed
  abbrev pub SparesSpread : Type 0
  SparesSpread = (o : Target) (a : Attr) → HasStat n o a → is_directory a ≡ false → 0 < a.size → HasExtents u o a.size
      → (y : ℕ) → y < 2 ^ 64 → is_in (changed e) (byte_rank o y) ≡ true → ⊥

  pub kinds : SparesSpread → (o : Target) (b : Attr) → HasStat (edited e raw) o b → is_directory b ≡ false
      → HasTails v o b.size ⊎ HasExtents v o b.size
  kinds spared o b stat file = elim (file_or_not n o stat.0) [
    | inr new ↦ inl (anew o b (stat_then o b stat) file new)
    | inl h ↦
        let (a, (there, kind)) = h in
        by_kind a there kind (files.bodies o a (stat_stands raw n visible o a there) kind).1
  ]
    where
      by_kind : (a : Attr) → HasStat n o a → is_directory a ≡ false → HasTails u o a.size ⊎ HasExtents u o a.size
          → HasTails v o b.size ⊎ HasExtents v o b.size
      by_kind a there kind (inl tails) = inl (in_tails o b (stat_then o b stat) file a there kind tails)
      by_kind a there kind (inr extents) = elim (dec_le 1 a.size) [
        | yes some ↦
            inr (in_extents o b (stat_then o b stat) file a there kind extents (spared o a there kind some extents))
        | no empty ↦
            inl (in_tails o b (stat_then o b stat) file a there kind (of_none a extents (lt_of_not-le empty)))
      ]
        where
          of_none : (a : Attr) → HasExtents u o a.size → a.size < 1 → HasTails u o a.size
          of_none a extents none = record {
            offsets = λ x lt. (
              λ tail. absurd (extents.no_tails x lt tail),
              λ below. absurd (omega
                  (arith, below, none)),
            );
            no_extents = λ x lt extent.
                (let below = (extents.offsets x lt).0 extent in absurd (omega (arith, below, none)));
          }

  -- ---- a byte past its file's size

  -- it is of a file that stays
  pub of_file : (k y : ℕ) → is_in (changed e) k ≡ false → at_key raw k ≡ Some (Byte y) → at_key n k ≡ None
      → IsOfFile (edited e n) k
  of_file k y off at none =
      let (four, (a, stat, file)) = files.keys k (Byte y) at in
      let o = object_of (key_of_rank k) in
      let past : a.size ≤ offset_of (key_of_rank k) = past_size raw n visible k y a stat at none in
      let (b, now, kind) = remains o a (stat_seen raw n visible o a stat) file (some_bytes a stat file past) in
      (four, (b, now, kind))
    where
      remains : (o : Target) (a : Attr) → HasStat n o a → is_directory a ≡ false
          → (0 < a.size) × HasExtents u o a.size
          → (b : Attr) × HasStat (edited e n) o b × (is_directory b ≡ false)
      remains o a stat file (some, extents) = elim (cases_Bool (is_in (changed e) (byte_rank o 0))) [
        | inl on ↦
            let first : 0 < 4096 * blocks_for a.size = omega (arith, some) in
            absurd (made.apart (byte_rank o 0) on ((extents.offsets 0 (omega arith)).1 first))
        | inr still ↦
            let (x, there) = (before.offsets o a stat file 0 (omega arith)).1 some in
            let (_, (b, now, kind)) = after.keys (byte_rank o 0) (Byte x) (edited_off e n (byte_rank o 0) still ∙ there) in
            (b, subst (λ (q : Target). HasStat (edited e n) q b) (byte_owner o 0 stat.0 (omega arith)) now, kind)
      ]

      -- it lies in an extent, so the file has a byte, and its body is in extents
      some_bytes : (a : Attr) → HasStat raw (object_of (key_of_rank k)) a → is_directory a ≡ false
          → a.size ≤ offset_of (key_of_rank k) → (0 < a.size) × HasExtents u (object_of (key_of_rank k)) a.size
      some_bytes a stat file past =
          let (is, small) = byte_key k (files.keys k (Byte y) at).0 in
          elim (files.bodies (object_of (key_of_rank k)) a stat file).1 [
            | inl tails ↦ elim (in_kind u raw k (Byte y) units at) [
              | inl tail ↦
                  let low = (tails.offsets (offset_of (key_of_rank k)) small).0 (subst (InTail u) is tail) in
                  absurd (omega (arith, low, past))
              | inr extent ↦
                  absurd (tails.no_extents (offset_of (key_of_rank k)) small (subst (InExtent u) is extent))
            ]
            | inr extents ↦ elim (in_kind u raw k (Byte y) units at) [
              | inl tail ↦
                  absurd (extents.no_tails (offset_of (key_of_rank k)) small (subst (InTail u) is tail))
              | inr extent ↦
                  let low = (extents.offsets (offset_of (key_of_rank k)) small).0 (subst (InExtent u) is extent) in
                  (omega (arith, low), extents)
            ]
          ]
