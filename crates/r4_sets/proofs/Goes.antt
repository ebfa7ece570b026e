-- What a command's change does in memory it does in the tree of each set that has the command's atom.
use Rattle.std.specs.Prelude.{◌≡◌, ◌⊎◌, ◌↔◌, ℕ, suc, ◌<◌, ◌≤◌, Bool, true, false, cond, Some}
use Rattle.std.proofs.Common.{inl, inr, sym, ap, ◌∙◌}
use Rattle.std.proofs.Math.Decide.{dec_le}
use Rattle.r4_base.specs.Key.{least, top}
use Rattle.r4_base.specs.Value.{Value, Stat, Content, at_key}
use Rattle.r4_base.specs.Tree.{Store, Root, IsTree}
use Rattle.r4_base.specs.Volume.{HasStat, HasUnits, byte_rank, is_directory, stat_rank}
use Rattle.r4_base.specs.declared.items.Attr.{Attr}
use Rattle.r4_base.specs.declared.items.Target.{Target}
use Rattle.r4_patch.specs.r4_cell.Patch.{Patch, place, root_after, Meets}
use Rattle.r4_patch.proofs.Placed.{placed_tree}
use Rattle.r4_content.specs.Edited.{Intervals, is_in}
use Rattle.r4_content.specs.Locality.{Agree, IsLocal, Meaning, Touches}
use Rattle.r4_content.proofs.EditLaws.{same_content}
use Rattle.r4_content.specs.declared.command.Command.{Command}
use Rattle.r4_content.specs.declared.reply.Reply.{Reply}
use Rattle.r4_sets.specs.Change.{BodyShown, BodyStays, Does}
use Rattle.r4_sets.specs.Session.{IsTreeOf}
use Rattle.r4_sets.specs.Units.{SameUnit}
use Rattle.r4_sets.proofs.Cells.{IsShared, back_iff, unit_back, none_units, same_unit, shared_after, shared_units}
use Rattle.r4_sets.proofs.Cells.{stays_too, then_iff}
use Rattle.r4_sets.proofs.Bodies.{body_of_units, same_body, same_option}
use Rattle.r4_sets.proofs.Carried.{RawShown, agree, files, not_true, true_or_false, visible}
use Rattle.r4_sets.proofs.Mixed.{at_mixed, mixed}

-- a tree has one content of raw units
pub one_raw : (t : Store Value) (r s : Content) → HasUnits t r → HasUnits t s → r ≡ s
one_raw t r s hr hs = same_content r s
    (λ k. same_option (at_key r k) (at_key s k) (λ v. then_iff (hr k v) (back_iff (hs k v))))

-- a tree with the same units has the same content
pub same_tree_of : (t u : Store Value) (root_t root_u : Root) (m : Content) → IsTree u root_u
    → ((k : ℕ) → SameUnit t u k) → IsTreeOf t root_t m → IsTreeOf u root_u m
same_tree_of t u root_t root_u m tree same h = record {
  tree = tree;
  raw = h.raw;
  units = λ k v. then_iff (h.units k v) (same_unit t u k v (same k));
  files = record {
    keys = h.files.keys;
    bodies = λ o a stat file. let (small, body) =
        h.files.bodies o a stat file in
        (small, same_body u t o a.size (λ x lt. body_of_units u t o x (unit_back t u _ (same _))) body);
    bytes = h.files.bytes;
  };
  visible = h.visible;
}

module _ (w : Meaning Command Reply) (local : IsLocal w) (t u : Store Value) (root_t root_u : Root) (m n : Content)
    (x : Command) (d : Patch Value) (touched changed : Intervals)
    (is_t : IsTreeOf t root_t m) (is_u : IsTreeOf u root_u n) (does : Does w x u root_u n d touched changed)
    (mt : Meets d t root_t)
    (reach : (k : ℕ) → is_in touched k ≡ true → least ≤ k → k < top → IsShared t u k) where
  tree_t2 : IsTree (place d t) (root_after d root_t)
  tree_t2 = placed_tree d t root_t does.patch is_t.tree mt

  tree_u2 : IsTree (place d u) (root_after d root_u)
  tree_u2 = placed_tree d u root_u does.patch is_u.tree does.meets

  shared : (k : ℕ) → is_in touched k ≡ true → SameUnit t u k × SameUnit (place d t) (place d u) k
  shared k h = elim (dec_le least k) [
    | no before ↦ nowhere (λ at. before at.0)
    | yes from ↦ elim (dec_le (suc k) top) [
      | no past ↦ nowhere (λ at. past at.1)
      | yes to ↦
          let one = reach k h from to in (
            shared_units t u root_t root_u is_t.tree is_u.tree k one,
            shared_units (place d t) (place d u) (root_after d root_t) (root_after d root_u) tree_t2 tree_u2 k
                (shared_after t u root_t root_u is_t.tree is_u.tree d does.patch mt does.meets k one),
          )
    ]
  ]
    where
      nowhere : ((least ≤ k) × (k < top) → ⊥) → SameUnit t u k × SameUnit (place d t) (place d u) k
      nowhere out = (
        none_units t u root_t root_u is_t.tree is_u.tree k out,
        none_units (place d t) (place d u)
            (root_after d root_t) (root_after d root_u) tree_t2 tree_u2 k out,
      )

  kept : (k : ℕ) → is_in changed k ≡ false → SameUnit t (place d t) k × SameUnit u (place d u) k
  kept k h = (
    stays_too t u root_t root_u is_t.tree is_u.tree d does.patch mt does.meets k (does.stays k h),
    does.stays
        k h,
  )

  -- the raw units after
  raw2 : Content
  raw2 = mixed changed does.after is_t.raw

  at_raw2 : (k : ℕ) (b : Bool) → is_in changed k ≡ b → at_key raw2 k ≡ cond b (at_key does.after k) (at_key is_t.raw k)
  unfolding raw2
  at_raw2 k b e = at_mixed changed does.after is_t.raw k ∙ ap (λ c. cond c (at_key does.after k) (at_key is_t.raw k)) e

  units2 : HasUnits (place d t) raw2
  units2 k v = elim (true_or_false (is_in changed k)) [
    | inl on ↦ then_iff (same k v (at_raw2 k true on))
        (then_iff (does.units k v) (back_iff (same_unit (place d t) (place d u) k v (shared k (does.within k on)).1)))
    | inr off ↦ then_iff (same_old k v (at_raw2 k false off))
        (then_iff (is_t.units k v) (same_unit t (place d t) k v (kept k off).0))
  ]
    where
      same : (k : ℕ) (v : Value) → at_key raw2 k ≡ at_key does.after k → (at_key raw2 k ≡ Some v)
          ↔ (at_key does.after k ≡ Some v)
      same k v e = (λ y. sym e ∙ y, λ y. e ∙ y)

      same_old : (k : ℕ) (v : Value) → at_key raw2 k ≡ at_key is_t.raw k → (at_key raw2 k ≡ Some v)
          ↔ (at_key is_t.raw k ≡ Some v)
      same_old k v e = (λ y. sym e ∙ y, λ y. e ∙ y)

  -- bodies, by their units
  bodies : (o : Target) (a : Attr) → HasStat is_u.raw o a → is_directory a ≡ false → is_in touched (stat_rank o) ≡ true
      → BodyStays changed does.after o a ⊎ RawShown touched is_u.raw o a
  bodies o a stat file on = elim (does.bodies o a (stat.0, (is_u.visible (stat_rank o) (Stat a)).1 (stat.1, λ p. p))
      file on) [
        | inl stays ↦ inl (still stays)
        | inr shown ↦ inr (by_units shown)
      ]
    where
      still : BodyStays changed (w.after x n) o a → BodyStays changed does.after o a
      still (b, there, rest, size, off) =
          (b, (there.0, ((does.visible (stat_rank o) (Stat b)).0 there.1).0), rest, size, off)

      by_units : BodyShown touched u o a → RawShown touched is_u.raw o a
      by_units (inl none) = inl none
      by_units (inr (offset, v, lt, among, unit)) =
          inr (offset, v, lt, among, (is_u.units (byte_rank o offset) v).1 unit)

  agrees : (k : ℕ) → is_in touched k ≡ true → at_key m k ≡ at_key n k
  agrees k h = agree t u (place d t) (place d u) is_t.raw is_u.raw raw2 does.after touched changed is_t.units
      is_u.units units2 does.units is_t.files is_u.files does.files shared kept does.within does.stats bodies m n
      is_t.visible is_u.visible k h

  reads_alike : Agree w x n m
  reads_alike k h = sym (agrees k (does.reads k h))

  pub finds_alike : (k : ℕ) → Touches w x n k → at_key m k ≡ at_key n k
  finds_alike k (inl h) = agrees k (does.reads k h)
  finds_alike k (inr h) = agrees k (does.within k (does.changes k h))

  pub reply_alike : w.reply x m ≡ w.reply x n
  reply_alike = sym (local.same_reply x n m reads_alike)

  outside : (k : ℕ) → is_in changed k ≡ false → is_in (w.changes x n) k ≡ false
  outside k off = not_true (is_in (w.changes x n) k) (λ e. let g : true ≡ false = sym (does.changes k e) ∙ off in cc)

  outside_m : (k : ℕ) → is_in (w.changes x n) k ≡ false → is_in (w.changes x m) k ≡ false
  outside_m k off = ap (λ r. is_in r k) (sym (local.same_changes x n m reads_alike)) ∙ off

  same_after : (k : ℕ) → is_in changed k ≡ true → at_key (w.after x m) k ≡ at_key (w.after x n) k
  same_after k on = elim (true_or_false (is_in (w.changes x n) k)) [
    | inl h ↦ sym (local.same_values x n m k reads_alike h)
    | inr off ↦ local.others x m k (outside_m k off) ∙ agrees k (does.within k on) ∙ sym (local.others x n k off)
  ]

  off_m : (k : ℕ) → is_in changed k ≡ false → at_key (w.after x m) k ≡ at_key m k
  off_m k off = local.others x m k (outside_m k (outside k off))

  off_n : (k : ℕ) → is_in changed k ≡ false → at_key (w.after x n) k ≡ at_key n k
  off_n k off = local.others x n k (outside k off)

  pub goes : IsTreeOf (place d t) (root_after d root_t) (w.after x m)
  goes = record {
    tree = tree_t2;
    raw = raw2;
    units = units2;
    files = files t u (place d t) (place d u) is_t.raw is_u.raw raw2 does.after touched changed is_t.units is_u.units
        units2 does.units is_t.files is_u.files does.files shared kept does.within does.stats bodies m n
        (w.after x m) (w.after x n) is_t.visible is_u.visible does.visible same_after off_m off_n;
    visible = visible t u (place d t) (place d u) is_t.raw is_u.raw raw2 does.after touched changed is_t.units
        is_u.units units2 does.units is_t.files is_u.files does.files shared kept does.within does.stats bodies m
        n (w.after x m) (w.after x n) is_t.visible is_u.visible does.visible same_after off_m off_n;
  }
