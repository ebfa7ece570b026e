-- A change that begins with a lowest step, and goes up its path.
use Rattle.std.proofs.Common.{◌≡◌, ◌⊎◌, inl, inr, ℕ, zero, suc, ◌+◌, ◌^◌, ◌<◌, ◌≤◌, List, [], ◌∷◌, length, take, drop, sym, ap}
use Rattle.std.proofs.Common.{subst, ◌∙◌, arith}
use Rattle.std.specs.Prelude.{Contains, Option, Some, None}
use Rattle.std.proofs.lemmas.List.{length-append}
use Rattle.std.proofs.lemmas.List.Elements.{Contains-append_cases}
use Rattle.std.proofs.lemmas.Option.{same_Some}
use Rattle.r4_base.specs.Tree.{Node, Root, Store}
use Rattle.r4_base.specs.Value.{Value}
use Rattle.r4_patch.specs.r4_cell.Seen.{CellSeen, node_of}
use Rattle.r4_patch.specs.r4_cell.Patch.{IsChange, patch_of}
use Rattle.r4_patch.specs.r4_cell.declared.change.Change.{Change}
use Rattle.r4_patch.specs.r4_cell.declared.change.Fresh.{Fresh}
use Rattle.r4_patch.specs.Joining.{ids_of, patch_of_change}
use Rattle.r4_patch.specs.Part.{IsPart, MeetsPart}
use Rattle.r4_patch.proofs.PartCells.{one_above}
use Rattle.r4_path.specs.Growing.{IsPathIn}
use Rattle.r4_path.specs.Levels.{AreNeeded, AreRows, CanClimb, Climbed, HasLevels, HaveMkfsIdOf, IsLongEnough, IsRootNeeded, KeepMkfsIds, Keeps, Leads}
use Rattle.r4_path.specs.Levels.{Rises, Suffices}
use Rattle.r4_path.specs.Nodes.{IsPointable}
use Rattle.r4_path.specs.Sharing.{IsSound}
use Rattle.r4_path.specs.Steps.{Ascends, Climbs, CountUp, Ends, IsPathChange, IsStep, Step, fresh_ids, name_of, news, olds}
use Rattle.r4_path.proofs.NewNodes.{new_node}
use Rattle.r4_path.proofs.OnPath.{new_stands, stands_in, stands_new, stands_step}
use Rattle.r4_path.proofs.PathPatch.{change_is, part_meets}
use Rattle.r4_path.proofs.Rising.{count_within, hi_is, level_is, lo_is}
use Rattle.r4_path.proofs.Upwards.{all_numbered, count_join, long_ids}

-- The lowest step has new cells in the place of one, with numbers that were taken.
pub record Begun (c : CellSeen) (f g : Fresh) (s : Step) : Type 0 where
  pub old : s.old ≡ c
  pub step : IsStep None s
  pub sound : (x : CellSeen) → Contains s.new x → IsSound x
  pub counts : CountUp f.next (ids_of (drop 1 s.new))
  pub number : g ≡ record f { next = f.next + length (drop 1 s.new) }
  pub few : length s.new ≤ 45
  pub mkfs_id : HaveMkfsIdOf c s.new

-- The change has these steps, from the lowest on.
pub record Rose (c : CellSeen) (ups : List CellSeen) (f after : Fresh) (d : Change) (cells : List CellSeen) : Type 0 where
  pub more : List Step
  pub over : Option CellSeen
  pub levels : HasLevels (record { old = c; new = cells } ∷ more) over d
  pub ups_are : olds more ≡ take (length more) ups
  pub climbs : Climbs None (record { old = c; new = cells } ∷ more)
  pub keep : (u : Step) → Contains more u → Keeps u
  pub needed : AreNeeded (record { old = c; new = cells } ∷ more)
  pub rows : AreRows (record { old = c; new = cells } ∷ more) over
  pub ends : (r : Root) → (length cells ≡ 1) ⊎ IsLongEnough r (length (drop 1 cells)) c ups
      → Ends r (record { old = c; new = cells } ∷ more) over
  pub root_needed : IsRootNeeded (record { old = c; new = cells } ∷ more) over
  pub root_able : (x : CellSeen) → over ≡ Some x → IsPointable x.id
  pub mkfs_ids : KeepMkfsIds (record { old = c; new = cells } ∷ more) over
  pub root_units : (x : CellSeen) → over ≡ Some x → (node_of x).units ≡ []
  pub counts : CountUp f.next (fresh_ids (record { old = c; new = cells } ∷ more) over)
  pub number : after ≡ record f { next = f.next + length (fresh_ids (record { old = c; new = cells } ∷ more) over) }

-- one cell comes, or the path is long enough
abbrev pub Enough : Root → Step → CellSeen → List CellSeen → Type 0
Enough r s c ups = (length s.new ≡ 1) ⊎ IsLongEnough r (length (drop 1 s.new)) c ups

module _ (t : Store Value) (r : Root) (part : IsPart t r) where
  pub leads_of : (c : CellSeen) (ups : List CellSeen) → 1 ≤ c.level → Ascends t (Some c) ups → Leads c ups
  leads_of c [] low path = tt
  leads_of c (d ∷ ups) low (at, level, named, rest) =
      let node = part.nodes d.id (node_of d) at in
      let some = node.nonempty in
      let lo = lo_is d in
      let hi = hi_is d in (
        named,
        sym (level_is d) ∙ one_above (node_of d)
            (name_of c) node named low,
        omega (arith, some, lo, hi),
        leads_of d ups level rest,
      )

  pub suffices_of : (below : Option CellSeen) (come : ℕ) (c : CellSeen) (ups : List CellSeen) → IsPointable r.id
      → Ascends t below (c ∷ ups) → IsLongEnough r come c ups → Suffices come c ups
  suffices_of below come c [] able (at, level, named, rest) (is_root, low) =
      let same : node_of c ≡ part.root_node = same_Some (node_of c) part.root_node
      (sym (subst (λ i. t i ≡ Some (node_of c)) is_root at) ∙ part.root_is) in (
        sym (lo_is c) ∙ (ap (λ (d : Node Value). d.lo) same ∙ part.root_lo),
        sym (hi_is c)
            ∙ (ap (λ (d : Node Value). d.hi) same ∙ part.root_hi),
        low,
        subst IsPointable (sym is_root) able,
      )
  suffices_of below come c (d ∷ ups) able (at, level, named, rest) (inl room) = inl room
  suffices_of below come c (d ∷ ups) able (at, level, named, rest) (inr more) = inr
      (suffices_of (Some c) 1 d ups able rest more)

pub ascends_take : (t : Store Value) (below : Option CellSeen) (n : ℕ) (cells : List CellSeen) → Ascends t below cells
    → Ascends t below (take n cells)
ascends_take t below zero cells h = tt
ascends_take t below (suc n) [] h = tt
ascends_take t below (suc n) (c ∷ cells) (at, level, named, rest) = (at, level, named, ascends_take t (Some c) n cells rest)

-- ---- the way up begins

module _ (c : CellSeen) (ups : List CellSeen) (f g : Fresh) (cells : List CellSeen)
    (b : Begun c f g (record { old = c; new = cells })) where
  abbrev first : Step
  first = record { old = c; new = cells }

  next_is : g.next ≡ f.next + length (drop 1 cells)
  next_is = ap (λ (x : Fresh). x.next) b.number

  end_is : g.end ≡ f.end
  end_is = ap (λ (x : Fresh). x.end) b.number

  module _ (t : Store Value) (r : Root) (path : IsPathIn t r (c ∷ ups) f) (enough : Enough r first c ups) where
    suffice : (length cells ≡ 1) ⊎ Suffices (length (drop 1 cells)) c ups
    suffice = elim enough [
      | inl one ↦ inl one
      | inr long ↦ inr (suffices_of t r path.part None (length (drop 1 cells)) c ups path.root_number path.ascends long)
    ]

    starts : 2 ^ 63 ≤ f.next → f.next + (length (drop 1 cells) + length ups) < f.end → f.end < 2 ^ 64 → CanClimb first ups g
    starts unplaced numbers end = record {
      low = path.ascends.1;
      first = b.step.first;
      ranges = b.step.ranges;
      able = let long = long_ids (drop 1 cells) in
          all_numbered f.next (f.next + length (ids_of (drop 1 cells))) (drop 1 cells) unplaced
          (omega (arith, numbers, end, long)) (λ i member. count_within f.next (ids_of (drop 1 cells)) i b.counts member);
      few = b.few;
      leads = leads_of t r path.part c ups path.ascends.1 path.ascends.3;
      enough = suffice;
      unplaced = let n = next_is in omega (arith, n, unplaced);
      numbers = let n = next_is in let e = end_is in omega (arith, n, e, numbers);
      end = subst (λ k. k < 2 ^ 64) (sym end_is) end;
    }

  -- ---- the whole change

  module _ (after : Fresh) (d : Change) (rises : Rises first ups g after d) where
    up : Climbed first ups g after [] rises.steps rises.over
    up = rises.climbed

    all_counts : CountUp f.next (fresh_ids (first ∷ up.more) rises.over)
    all_counts = let long = long_ids (drop 1 cells) in let n = next_is in
        count_join f.next (ids_of (drop 1 cells)) (fresh_ids up.more rises.over) b.counts
        (subst (λ k. CountUp k (fresh_ids up.more rises.over)) (omega (arith, long, n)) up.counts)

    all_long : length (fresh_ids (first ∷ up.more) rises.over) ≡ length (drop 1 cells) + length (fresh_ids up.more rises.over)
    all_long = let long = long_ids (drop 1 cells) in
        let sum = length-append (ids_of (drop 1 cells)) (fresh_ids up.more rises.over) in omega (arith, long, sum)

    all_number : after ≡ record f { next = f.next + length (fresh_ids (first ∷ up.more) rises.over) }
    all_number = up.number ∙ (ap (λ (x : Fresh). record x { next = g.next + length (fresh_ids up.more rises.over) }) b.number
        ∙ (λ i. record f {
          next = (let n = next_is in let l = all_long in
              let same : g.next + length (fresh_ids up.more rises.over)
              ≡ f.next + length (fresh_ids (first ∷ up.more) rises.over) = omega (arith, n, l) in same) i;
        }))

    sound_new : (x : CellSeen) → Contains (news (first ∷ up.more) None) x → IsSound x
    sound_new x member = elim (Contains-append_cases cells
        (news up.more None) x member) [ inl mine ↦ b.sound x mine | inr rest ↦ up.sound x rest ]

    climbs : Climbs None (first ∷ up.more)
    climbs = (b.step, up.climbs)

    levels : HasLevels (first ∷ up.more) rises.over d
    levels = subst (λ steps. HasLevels steps rises.over d) up.steps rises.levels

    rose : Rose c ups f after d cells
    rose = record {
      more = up.more;
      over = rises.over;
      levels = levels;
      ups_are = up.olds_are;
      climbs = climbs;
      keep = up.keep;
      needed = up.needed;
      rows = up.rows;
      ends = up.ends;
      root_needed = up.root_needed;
      root_able = up.root_able;
      mkfs_ids = up.mkfs_ids b.mkfs_id;
      root_units = up.root_units;
      counts = all_counts;
      number = all_number;
    }

    module _ (t : Store Value) (r : Root) (path : IsPathIn t r (c ∷ ups) f) (enough : Enough r first c ups) where
      ascends : Ascends t None (olds (first ∷ up.more))
      ascends = subst (λ cells'. Ascends t None (c ∷ cells')) (sym up.olds_are)
          (ascends_take t None (suc (length up.more)) (c ∷ ups) path.ascends)

      path_change : IsPathChange t r f.next (first ∷ up.more) rises.over
      path_change = record {
        part = path.part;
        path = ascends;
        climbs = climbs;
        ends = up.ends r enough;
        nodes = λ x member. elim (new_stands None (first ∷ up.more) rises.over x member) [
          | inl h ↦
              let (b', s, st, in_s) = h in
              let sit = stands_in t None (first ∷ up.more) b' s ascends st in
              new_node s.old x s.new (path.part.nodes s.old.id (node_of s.old) sit.there) sit.level
              (stands_step None (first ∷ up.more) b' s climbs st).ranges
              (sound_new x (stands_new None (first ∷ up.more) None b' s x st in_s)) in_s
          | inr root ↦ up.root_node x root
        ];
        counts = all_counts;
        free =
            let n = ap (λ (x : Fresh). x.next) all_number in
            let e = ap (λ (x : Fresh). x.end) all_number in
            let room = up.within in
            record {
              cells = λ i low high. path.free.cells i low
                  (omega (arith, high, n, e, room));
              names = λ i low high. path.free.names i low
                  (omega (arith, high, n, e, room));
            };
      }

      changes : IsChange d.old d.new d.root
      changes =
          subst (λ x. IsChange x d.new d.root) (sym levels.old)
          (subst (λ x. IsChange (olds (first ∷ up.more)) x d.root) (sym levels.new)
          (subst (λ x. IsChange (olds (first ∷ up.more)) (news (first ∷ up.more) rises.over) x) (sym levels.pair)
          (change_is t r f.next (first ∷ up.more) rises.over path_change)))

      meets : MeetsPart (patch_of_change d) t r
      meets = subst (λ p. MeetsPart p t r) (λ i. patch_of (sym levels.old i) (sym levels.new i) (sym levels.pair i))
          (part_meets t r f.next (first ∷ up.more) rises.over path_change)

-- ---- of a step that was made as the lowest one

module _ (c : CellSeen) (ups : List CellSeen) (f g : Fresh) (s : Step) (b : Begun c f g s) where
  same : s ≡ record { old = c; new = s.new }
  same = λ i. record { old = b.old i; new = s.new }

  alone : Begun c f g (record { old = c; new = s.new })
  alone = subst (Begun c f g) same b

  pub begun_climbs : (t : Store Value) (r : Root) → IsPathIn t r (c ∷ ups) f → Enough r s c ups → 2 ^ 63 ≤ f.next
      → f.next + (length (drop 1 s.new) + length ups) < f.end → f.end < 2 ^ 64 → CanClimb s ups g
  begun_climbs t r path enough unplaced numbers end = subst (λ x. CanClimb x ups g) (sym same)
      (starts c ups f g s.new alone t r path enough unplaced numbers end)

  module _ (after : Fresh) (d : Change) (rises : Rises s ups g after d) where
    rises_alone : Rises (record { old = c; new = s.new }) ups g after d
    rises_alone = subst (λ x. Rises x ups g after d) same rises

    pub begun_change : (t : Store Value) (r : Root) → IsPathIn t r (c ∷ ups) f → Enough r s c ups → IsChange d.old d.new d.root
    begun_change = changes c ups f g s.new alone after d rises_alone

    pub begun_meets : (t : Store Value) (r : Root) → IsPathIn t r (c ∷ ups) f → Enough r s c ups
        → MeetsPart (patch_of_change d) t r
    begun_meets = meets c ups f g s.new alone after d rises_alone

    pub begun_rose : Rose c ups f after d s.new
    begun_rose = rose c ups f g s.new alone after d rises_alone
