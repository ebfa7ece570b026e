-- A change that begins with twigs in the place of one, and goes up its path.
use Rattle.std.proofs.Common.{◌≡◌, ◌⊎◌, inl, inr, ◌+◌, ◌^◌, ◌<◌, ◌≤◌, List, [], ◌∷◌, length, drop, sym, ap, subst, ◌∙◌, arith}
use Rattle.std.specs.Prelude.{Contains, Option, None, Some, take}
use Rattle.std.proofs.lemmas.List.{length-append}
use Rattle.std.proofs.lemmas.List.Elements.{Contains-append_cases}
use Rattle.r4_base.specs.Key.{rank}
use Rattle.r4_base.specs.Tree.{IsNode, Root, Store}
use Rattle.r4_base.specs.Value.{Value}
use Rattle.r4_graft.specs.r4_branch.declared.piece.TwigPiece.{TwigPiece}
use Rattle.r4_patch.specs.r4_cell.Seen.{CellSeen, node_of}
use Rattle.r4_patch.specs.r4_cell.declared.change.Change.{Change}
use Rattle.r4_patch.specs.r4_cell.declared.change.Fresh.{Fresh}
use Rattle.r4_patch.specs.Joining.{ids_of}
use Rattle.r4_path.specs.Grafts.{IsTwigRow}
use Rattle.r4_path.specs.Growing.{IsPathIn}
use Rattle.r4_path.specs.Levels.{CanClimb, Climbed, HasLevels, HaveMkfsIdOf, IsLongEnough, KeepMkfsIds, Leads}
use Rattle.r4_path.specs.Levels.{Rises, Suffices}
use Rattle.r4_path.specs.Sharing.{IsSound}
use Rattle.r4_path.specs.Steps.{Climbs, CountUp, Ends, Follow, Step, fresh_ids, news, olds}
use Rattle.r4_path.proofs.Begun.{leads_of, suffices_of}
use Rattle.r4_path.proofs.Rising.{count_within}
use Rattle.r4_path.proofs.Upwards.{all_numbered, count_join, long_ids}

-- The change has these steps, of which the lowest puts twigs of these pieces in the place of one.
pub record TwigRose (twig : CellSeen) (ups : List CellSeen) (qs : List TwigPiece) (f after : Fresh) (s : Step)
    (more : List Step) (over : Option CellSeen) (d : Change) : Type 0 where
  pub middle : Fresh
  pub row : IsTwigRow twig qs f middle s
  pub levels : HasLevels (s ∷ more) over d
  pub ups_are : olds more ≡ take (length more) ups
  pub climbs : Climbs (Some s) more
  pub sound : (c : CellSeen) → Contains (news (s ∷ more) None) c → IsSound c
  pub root_node : (c : CellSeen) → over ≡ Some c → IsNode (node_of c)
  pub counts : CountUp f.next (fresh_ids (s ∷ more) over)
  pub number : after ≡ record f { next = f.next + length (fresh_ids (s ∷ more) over) }
  pub within : after.next ≤ after.end

-- one twig comes, or the path is long enough
abbrev pub EnoughTwigs : Root → Step → CellSeen → List CellSeen → Type 0
EnoughTwigs r s twig ups = (length s.new ≡ 1) ⊎ IsLongEnough r (length (drop 1 s.new)) twig ups

module _ (twig : CellSeen) (ups : List CellSeen) (qs : List TwigPiece) (f g : Fresh) (s : Step)
    (is : IsTwigRow twig qs f g s) where
  next_is : g.next ≡ f.next + length (drop 1 s.new)
  next_is = ap (λ (x : Fresh). x.next) is.number

  end_is : g.end ≡ f.end
  end_is = ap (λ (x : Fresh). x.end) is.number

  ranges : twig.level ≡ 2 → Follow s.old.level (rank s.old.lo) (rank s.old.hi) s.new
  ranges level = subst (λ (c : CellSeen). Follow c.level (rank c.lo) (rank c.hi) s.new) (sym is.old)
      (subst (λ l. Follow l (rank twig.lo) (rank twig.hi) s.new) (sym level) is.ranges)

  first_is : ids_of s.new ≡ s.old.id ∷ ids_of (drop 1 s.new)
  first_is = subst (λ (c : CellSeen). ids_of s.new ≡ c.id ∷ ids_of (drop 1 s.new)) (sym is.old) is.first

  suffice : (t : Store Value) (r : Root) → IsPathIn t r (twig ∷ ups) f → EnoughTwigs r s twig ups
      → (length s.new ≡ 1) ⊎ Suffices (length (drop 1 s.new)) s.old ups
  suffice t r path (inl one) = inl one
  suffice t r path (inr long) = inr (subst (λ (c : CellSeen). Suffices (length (drop 1 s.new)) c ups) (sym is.old)
      (suffices_of t r path.part None (length (drop 1 s.new)) twig ups path.root_number path.ascends long))

  pub twigs_start : (t : Store Value) (r : Root) → IsPathIn t r (twig ∷ ups) f → twig.level ≡ 2 → length s.new ≤ 45
      → EnoughTwigs r s twig ups → 2 ^ 63 ≤ f.next → f.next + (length (drop 1 s.new) + length ups) < f.end
      → f.end < 2 ^ 64 → CanClimb s ups g
  twigs_start t r path level few enough unplaced numbers end =
      let n = next_is in
      let e = end_is in
      record {
        low = let l = ap (λ (c : CellSeen). c.level) is.old in omega (arith, l, level);
        first = first_is;
        ranges = ranges level;
        able = let long = long_ids (drop 1 s.new) in
            all_numbered f.next (f.next + length (ids_of (drop 1 s.new))) (drop 1 s.new) unplaced
            (omega (arith, numbers, end, long)) (λ i member. count_within f.next (ids_of (drop 1 s.new)) i is.counts member);
        few = few;
        leads = subst (λ (c : CellSeen). Leads c ups) (sym is.old)
            (leads_of t r path.part twig ups path.ascends.1 path.ascends.3);
        enough = suffice t r path enough;
        unplaced = omega (arith, n, unplaced);
        numbers = omega (arith, n, e, numbers);
        end = subst (λ k. k < 2 ^ 64) (sym e) end;
      }

  -- ---- the whole change

  module _ (after : Fresh) (d : Change) (rises : Rises s ups g after d) where
    abbrev pub up : Climbed s ups g after [] rises.steps rises.over
    up = rises.climbed

    all_counts : CountUp f.next (fresh_ids (s ∷ up.more) rises.over)
    all_counts = let long = long_ids (drop 1 s.new) in let n = next_is in
        count_join f.next (ids_of (drop 1 s.new)) (fresh_ids up.more rises.over) is.counts
        (subst (λ k. CountUp k (fresh_ids up.more rises.over)) (omega (arith, long, n)) up.counts)

    all_long : length (fresh_ids (s ∷ up.more) rises.over) ≡ length (drop 1 s.new) + length (fresh_ids up.more rises.over)
    all_long = let long = long_ids (drop 1 s.new) in
        let sum = length-append (ids_of (drop 1 s.new)) (fresh_ids up.more rises.over) in omega (arith, long, sum)

    all_number : after ≡ record f { next = f.next + length (fresh_ids (s ∷ up.more) rises.over) }
    all_number = up.number ∙ (ap (λ (x : Fresh). record x { next = g.next + length (fresh_ids up.more rises.over) }) is.number
        ∙ (λ i. record f {
          next = (let n = next_is in let l = all_long in
              let same : g.next + length (fresh_ids up.more rises.over)
              ≡ f.next + length (fresh_ids (s ∷ up.more) rises.over) = omega (arith, n, l) in same) i;
        }))

    sound_new : (x : CellSeen) → Contains (news (s ∷ up.more) None) x → IsSound x
    sound_new x member = elim (Contains-append_cases s.new (news up.more None) x member)
        [ inl mine ↦ is.sound x mine | inr rest ↦ up.sound x rest ]

    pub twigs_rose : TwigRose twig ups qs f after s up.more rises.over d
    twigs_rose = record {
      middle = g;
      row = is;
      levels = subst (λ steps. HasLevels steps rises.over d) up.steps rises.levels;
      ups_are = up.olds_are;
      climbs = up.climbs;
      sound = sound_new;
      root_node = up.root_node;
      counts = all_counts;
      number = all_number;
      within = up.within;
    }

    pub twigs_end : (r : Root) → EnoughTwigs r s twig ups → Ends r (s ∷ up.more) rises.over
    twigs_end r (inl one) = up.ends r (inl one)
    twigs_end r (inr long) = up.ends r
        (inr (subst (λ (c : CellSeen). IsLongEnough r (length (drop 1 s.new)) c ups) (sym is.old) long))

    pub twigs_ids : KeepMkfsIds (s ∷ up.more) rises.over
    twigs_ids = up.mkfs_ids (subst (λ x. HaveMkfsIdOf x s.new) (sym is.old) is.mkfs_id)
