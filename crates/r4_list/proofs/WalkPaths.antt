-- Where a path leads is an object that is reached from the root.
use Rattle.std.proofs.Common.{◌≡◌, ℕ, zero, suc, ◌^◌, Bool, true, false, cond, nat_lt, bytes_eq, List, [], ◌∷◌, Option, Some, None, refl, ap, subst}
use Rattle.std.specs.List.{list_all}
use Rattle.std.specs.Option.{is_none}
use Rattle.r4_base.specs.Image.{Image}
use Rattle.r4_base.specs.Key.{rank}
use Rattle.r4_base.specs.Name.{key_of_name, name_fault}
use Rattle.r4_base.specs.Value.{Value, Stat, Entry, Byte, Content, at_key}
use Rattle.r4_base.specs.Volume.{HasContent, HasEntry, HasStat, IsReached, is_directory, root_object}
use Rattle.r4_base.specs.declared.items.Attr.{Attr}
use Rattle.r4_base.specs.declared.items.Target.{Target}
use Rattle.r4_content.specs.Walk.{Walked, At, NoName, NoDirectory, NoEntry, attr_at, target_at, target_in, walk, walk_from, walk_on, walk_root}
use Rattle.r4_list.proofs.WalkObjects.{attr_of_stat, raw_at}

-- ---- what a name names

target_entry : (name : List ℕ) (v : Option Value) (p : Target) → target_in name v ≡ Some p → (s : List ℕ) × (v ≡ Some (Entry s p))
target_entry name None p e = absurd cc
target_entry name (Some (Stat a)) p e = absurd cc
target_entry name (Some (Entry s o)) p e = (s, split (bytes_eq s name) e)
  where
    split : (b : Bool) → cond b (Some o) None ≡ Some p → Some (Entry s o) ≡ Some (Entry s p)
    split true is = let same : o ≡ p = cc in ap (λ (t : Target). Some (Entry s t)) same
    split false is = absurd cc
target_entry name (Some (Byte x)) p e = absurd cc

pub target_stands : (m : Content) (dir : ℕ) (name : List ℕ) (p : Target) → target_at m dir name ≡ Some p → (s : List ℕ) × (at_key m (rank (key_of_name dir name)) ≡ Some (Entry s p))
target_stands m dir name p e = split (nat_lt dir (2 ^ 60)) e
  where
    split : (b : Bool) → cond b (target_in name (at_key m (rank (key_of_name dir name)))) None ≡ Some p → (s : List ℕ) × (at_key m (rank (key_of_name dir name)) ≡ Some (Entry s p))
    split true is = target_entry name (at_key m (rank (key_of_name dir name))) p is
    split false is = absurd cc

-- ---- a content

module _ (n : ℕ) (image : Image) (m : Content) (c : HasContent n image m) where
  abbrev IsOne : Target → Type 0
  IsOne o = (a : Attr) × HasStat c.raw o a

  entry_seen : (p o : Target) → HasEntry c.raw p o → HasEntry m p o
  entry_seen p o (k, s, at, dir) = (k, s, (c.visible k (Entry s o)).1 (at, λ none. none), dir)

  reached_seen : (steps : ℕ) (o : Target) → IsReached c.raw steps o → IsReached m steps o
  reached_seen zero o r = r
  reached_seen (suc steps) o (p, r, e) = (p, reached_seen steps p r, entry_seen p o e)

  object_reached : (o : Target) → IsOne o → (steps : ℕ) × IsReached m steps o
  object_reached o (a, h) = let (steps, r) = c.objects.reached o a h in (steps, reached_seen steps o r)

  target_one : (dir : ℕ) (name : List ℕ) (p : Target) → target_at m dir name ≡ Some p → IsOne p
  target_one dir name p e =
      let (s, at) = target_stands m dir name p e in
      c.objects.target (rank (key_of_name dir name)) s p (raw_at n image m c (rank (key_of_name dir name)) (Entry s p) at)

  -- what a name names is an object that is reached
  pub step_reached : (dir : ℕ) (name : List ℕ) (p : Target) → target_at m dir name ≡ Some p → (a : Attr) × (steps : ℕ) × (attr_at m p ≡ Some a) × IsReached m steps p
  step_reached dir name p e =
      let (a, h) = target_one dir name p e in
      let (steps, r) = object_reached p (a, h) in
      (a, steps, attr_of_stat n image m c p a h, r)

  -- what is said of the end of a walk
  abbrev IsEnd : Walked → Type 0
  IsEnd (At o a) = IsOne o × (attr_at m o ≡ Some a)
  IsEnd NoName = Unit {0}
  IsEnd NoDirectory = Unit {0}
  IsEnd NoEntry = Unit {0}

  from_end : (names : List (List ℕ)) (o : Target) (v : Option Attr) → IsOne o → attr_at m o ≡ v → IsEnd (walk_from m names o v)
  unfolding walk_from
  from_end [] o None one is = tt
  from_end [] o (Some a) one is = (one, is)
  from_end (s ∷ names) o None one is = tt
  from_end (s ∷ names) o (Some a) one is = entered (λ p there. from_end names p (attr_at m p) there refl) (is_directory a)
    where
      found : ((p : Target) → IsOne p → IsEnd (walk_from m names p (attr_at m p))) → (t : Option Target) → ((p : Target) → t ≡ Some p → IsOne p) → IsEnd (walk_on (λ p. walk_from m names p (attr_at m p)) t)
      found rest None there = tt
      found rest (Some p) there = rest p (there p refl)

      entered : ((p : Target) → IsOne p → IsEnd (walk_from m names p (attr_at m p))) → (b : Bool) → IsEnd (cond b (walk_on (λ p. walk_from m names p (attr_at m p)) (target_at m o.oid.0 s)) NoDirectory)
      entered rest true = found rest (target_at m o.oid.0 s) (λ p e. target_one o.oid.0 s p e)
      entered rest false = tt

  root_end : (names : List (List ℕ)) (v : Option Attr) → attr_at m root_object ≡ v → IsEnd (walk_root m names v)
  root_end names None is = tt
  root_end names (Some a) is = let (b, h, dir) = c.objects.root in from_end names root_object (Some a) (b, h) is

  walk_end : (names : List (List ℕ)) → IsEnd (walk m names)
  walk_end names = split (list_all (λ s. is_none (name_fault s)) names)
    where
      split : (b : Bool) → IsEnd (cond b (walk_root m names (attr_at m root_object)) NoName)
      split true = root_end names (attr_at m root_object) refl
      split false = tt

  -- where a path leads is an object that is reached
  pub walk_reached : (names : List (List ℕ)) (o : Target) (a : Attr) → walk m names ≡ At o a → (steps : ℕ) × IsReached m steps o × (attr_at m o ≡ Some a)
  walk_reached names o a e =
      let (one, is) = subst IsEnd e (walk_end names) in
      let (steps, r) = object_reached o one in
      (steps, r, is)
