-- What is said of the units of a tree holds in each tree that has the same ones.
use Rattle.std.proofs.Common.{◌≡◌, inl, inr, ℕ, Bool, true, false, Option, refl, sym, ◌∙◌}
use Rattle.std.specs.Prelude.{◌↔◌, ◌==◌}
use Rattle.std.proofs.lemmas.Bool.{eq-eqb, eqb-true, ne_eqb}
use Rattle.std.proofs.lemmas.List.Elements.{Contains-append_right}
use Rattle.r4_base.specs.Tree.{Root, Store, UnitAt}
use Rattle.r4_base.specs.Value.{Content, Value, at_key}
use Rattle.r4_base.specs.Volume.{HasExtents, HasFiles, HasTails, HasUnits, InExtent, InTail, byte_rank}
use Rattle.r4_base.specs.declared.items.Target.{Target}
use Rattle.r4_content.specs.Edited.{Edits}
use Rattle.r4_turned_moves.specs.r4_extent_moves.Moving.{ChangesBody, MovesBody}
use Rattle.r4_turned_moves.specs.r4_extent_moves.r4_applied.r4_build.Built.{IsPlaceFor}
use Rattle.r4_turned_moves.specs.r4_extent_moves.r4_applied.r4_build.declared.task.Task.{Task}
use Rattle.r4_turned_moves.specs.r4_extent_moves.r4_applied.r4_patch.Effect.{Placed, UnitIn}
use Rattle.r4_turned_moves.specs.r4_extent_moves.r4_applied.r4_reach.Touched.{Body}
use Rattle.r4_task_moves.specs.Alike.{StandLike}

-- a tree has the units of another one
abbrev pub AreAlike : (u v : Store Value) → Type 0
AreAlike u v = (k : ℕ) (w : Placed Value) → UnitIn v k w ↔ UnitIn u k w

pub turned_round : (u v : Store Value) → AreAlike u v → AreAlike v u
turned_round u v alike k w = ((alike k w).1, (alike k w).0)

-- ---- kinds of cells

tail_in : (t : Store Value) (k : ℕ) → InTail t k → (x : Value) × UnitIn t k (x, true)
tail_in t k (i, c, x, is, level, has) = (x, (i, c, is, has, eq-eqb c.level 1 level))

in_tail : (t : Store Value) (k : ℕ) (x : Value) → UnitIn t k (x, true) → InTail t k
in_tail t k x (i, c, is, has, level) = (i, c, x, is, eqb-true c.level 1 level, has)

extent_in : (t : Store Value) (k : ℕ) → InExtent t k → (x : Value) × UnitIn t k (x, false)
extent_in t k (i, c, x, is, level, has) = (x, (i, c, is, has, ne_eqb c.level 1 level))

in_extent : (t : Store Value) (k : ℕ) (x : Value) → UnitIn t k (x, false) → InExtent t k
in_extent t k x (i, c, is, has, level) =
    (i, c, x, is, (λ same. let f : true ≡ false = sym (eq-eqb c.level 1 same) ∙ level in cc), has)

unit_at : (t : Store Value) (k : ℕ) (x : Value) → UnitAt t k x → (l : Bool) × UnitIn t k (x, l)
unit_at t k x (i, c, is, has) = (c.level == 1, (i, c, is, has, refl))

at_unit : (t : Store Value) (k : ℕ) (x : Value) (l : Bool) → UnitIn t k (x, l) → UnitAt t k x
at_unit t k x l (i, c, is, has, level) = (i, c, is, has)

module _ (u v : Store Value) (alike : AreAlike u v) where
  tail_too : (k : ℕ) → InTail u k → InTail v k
  tail_too k has = let (x, at) = tail_in u k has in in_tail v k x ((alike k (x, true)).1 at)

  extent_too : (k : ℕ) → InExtent u k → InExtent v k
  extent_too k has = let (x, at) = extent_in u k has in in_extent v k x ((alike k (x, false)).1 at)

  unit_too : (k : ℕ) (x : Value) → UnitAt u k x → UnitAt v k x
  unit_too k x has = let (l, at) = unit_at u k x has in at_unit v k x l ((alike k (x, l)).1 at)

module _ (u v : Store Value) (alike : AreAlike u v) where
  back : AreAlike v u
  back = turned_round u v alike

  units_alike : (m : Content) → HasUnits u m → HasUnits v m
  units_alike m has k x =
      ((λ is. unit_too u v alike k x ((has k x).0 is)), (λ at. (has k x).1 (unit_too v u back k x at)))

  pub tails_alike : (o : Target) (size : ℕ) → HasTails u o size → HasTails v o size
  tails_alike o size has = record {
    offsets = λ f low. (
      (λ at. (has.offsets f low).0 (tail_too v u back (byte_rank o f) at)),
      (λ less. tail_too u v alike (byte_rank o f) ((has.offsets f low).1 less)),
    );
    no_extents = λ f low at. has.no_extents f low (extent_too v u back (byte_rank o f) at);
  }

  pub extents_alike : (o : Target) (size : ℕ) → HasExtents u o size → HasExtents v o size
  extents_alike o size has = record {
    offsets = λ f low. (
      (λ at. (has.offsets f low).0 (extent_too v u back (byte_rank o f) at)),
      (λ less. extent_too u v alike (byte_rank o f) ((has.offsets f low).1 less)),
    );
    no_tails = λ f low at. has.no_tails f low (tail_too v u back (byte_rank o f) at);
  }

  files_alike : (m : Content) → HasFiles u m → HasFiles v m
  files_alike m has = record {
    keys = has.keys;
    bodies = λ o a stat file. let (low, body) = has.bodies o a stat file in (
      low,
      elim body [
        | inl tails ↦ inl (tails_alike o a.size tails)
        | inr extents ↦ inr (extents_alike o a.size extents)
      ],
    );
    bytes = has.bytes;
  }

  -- edits that change a body in the one change it in the other
  pub changes_alike : (b : Body) (e : Edits) (raw n : Content) → ChangesBody b e u raw n → ChangesBody b e v raw n
  changes_alike b e raw n c = record {
    units = units_alike raw c.units;
    files = files_alike raw c.files;
    visible = c.visible;
    before = c.before;
    after = c.after;
    object = c.object;
    one = c.one;
    now = c.now;
    there = c.there;
  }

  -- and what moves its units in the one moves them in the other
  pub moves_alike : (b : Body) (e : Edits) (raw : Content) (at : ℕ → Bool) (to : ℕ → Option (Placed Value))
      → MovesBody b e u raw at to → MovesBody b e v raw at to
  moves_alike b e raw at to m = record {
    others = m.others;
    own = m.own;
    moved = m.moved;
    stays = λ k w own off. (
      (λ has. (m.stays k w own off).0 ((alike k w).0 has)),
      (λ is. (alike k w).1 ((m.stays k w own off).1 is)),
    );
  }

-- the cells that a task writes stand themselves, wherever it may be done
pub own_stand : (task : Task) (u : Store Value) (root : Root) (raw n : Content) → IsPlaceFor task u root raw n
    → StandLike u task.writes
own_stand task u root raw n place = record {
  store = u;
  root = root;
  tree = place.tree;
  units = λ k w. ((λ has. has), (λ has. has));
  stand = λ c has. place.there.stand c (Contains-append_right task.reads task.writes c has);
}
