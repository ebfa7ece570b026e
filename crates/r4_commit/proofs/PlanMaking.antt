-- A plan from its pieces.
use Rattle.std.proofs.Common.{◌≡◌, ◌≢◌, ⊎_elim, ℕ, ◌+◌, ◌/◌, ◌≤◌, ◌<◌, List, [], ◌∷◌, ◌++◌, length, map, get_or, Option, refl, sym, ap, ◌∙◌, subst, length-append, arith}
use Rattle.std.specs.Prelude.{Contains, All}
use Rattle.std.proofs.lemmas.List.Elements.{All-contains, Contains-append_left, Contains-append_right, Contains-get_or}
use Rattle.r4_base.specs.Image.{AreDifferent}
use Rattle.r4_base.specs.Layout.{super_block, super_fields}
use Rattle.r4_base.specs.declared.superblock.Super40.{Super40}
use Rattle.r4_base.specs.declared.things.AtomNo.{AtomNo}
use Rattle.r4_base.specs.declared.things.BlockNo.{BlockNo}
use Rattle.r4_base.proofs.Members.{member_here}
use Rattle.r4_place.specs.r4_cell.Seen.{CellSeen}
use Rattle.r4_space.specs.Lawful.{IsLawful}
use Rattle.r4_space.specs.Space.{Space}
use Rattle.r4_place.specs.Chosen.{fresh_blocks}
use Rattle.r4_place.specs.declared.placed.Placed.{Placed}
use Rattle.r4_wander.specs.Seen.{Copy, Placed as PlacedCell}
use Rattle.r4_wander.specs.Torn.{IsTarget}
use Rattle.r4_wander.specs.LogPlan.{CanBeWritten, IsBelow, news, originals_of}
use Rattle.r4_wander.specs.declared.plan.LogPlan.{LogPlan}
use Rattle.r4_wander.proofs.Encoding.{news_are}
use Rattle.r4_wander.proofs.Members.{in_map}
use Rattle.r4_wander.proofs.Order.{few_blocks}
use Rattle.r4_commit.specs.Places.{place_of, placed_cells, overwritten, overwritten_blocks}
use Rattle.r4_commit.specs.Planned.{AreNewBitmaps, IsUnused, IsPlanFor, blocks_of, new_homes, new_super}
use Rattle.r4_commit.proofs.PlanFacts.{home_cases, bitmap_within, placed_fresh}

all_from : {X : Type 0} (P : X → Type 0) (xs : List X) → ((x : X) → Contains xs x → P x) → All P xs
all_from P xs each = λ k d lt. each (get_or xs k d) (Contains-get_or xs k d lt)

-- The pieces of a plan, as they were made.
pub record IsMadeOf (s : Space) (atom : AtomNo) (cells : List CellSeen) (answers : List Placed) (next super : Super40) (last : BlockNo) (place : ℕ → Option BlockNo) (bitmaps : List (List ℕ)) (blocks : List ℕ) (p : LogPlan) : Type 0 where
  pub places : (name : ℕ) → place name ≡ place_of answers name
  pub placed : p.placed ≡ placed_cells place cells
  pub are_new : AreNewBitmaps s atom bitmaps
  pub super_is : super ≡ new_super next bitmaps
  pub homes : news p ≡ new_homes super bitmaps (overwritten place cells)
  pub reads : super_fields (super_block super) ≡ super
  pub id : p.id ≡ super.flushes
  pub free_blocks : p.free_blocks ≡ super.free_blocks
  pub nr_files : p.nr_files ≡ super.file_count
  pub next_oid : p.next_oid ≡ super.oid
  pub prev : p.prev ≡ last
  pub records : length p.records ≡ (length p.wandered + 253) / 254
  pub blocks_are : blocks_of p ≡ blocks
  pub different : AreDifferent blocks
  pub unused : All (IsUnused s) blocks
  pub head : p.head ≢ last

module _ (s : Space) (atom : AtomNo) (cells : List CellSeen) (answers : List Placed) (next super : Super40) (last : BlockNo) (place : ℕ → Option BlockNo) (bitmaps : List (List ℕ)) (blocks : List ℕ) (p : LogPlan)
    (m : IsMadeOf s atom cells answers next super last place bitmaps blocks p) where
  same_place : place ≡ place_of answers
  same_place = λ i name. m.places name i

  homes_are : news p ≡ new_homes (new_super next bitmaps) bitmaps (overwritten (place_of answers) cells)
  homes_are = m.homes ∙ ap (λ (x : Super40). new_homes x bitmaps (overwritten place cells)) m.super_is ∙ ap (λ (f : ℕ → Option BlockNo). new_homes (new_super next bitmaps) bitmaps (overwritten f cells)) same_place

  pub is_plan : IsPlanFor s atom cells answers next last p
  is_plan = record {
    placed = m.placed ∙ ap (λ (f : ℕ → Option BlockNo). placed_cells f cells) same_place;
    bitmaps = bitmaps;
    are_new = m.are_new;
    homes = homes_are;
    reads = subst (λ (x : Super40). super_fields (super_block x) ≡ x) m.super_is m.reads;
    id = m.id ∙ ap (λ (x : Super40). x.flushes) m.super_is;
    free_blocks = m.free_blocks ∙ ap (λ (x : Super40). x.free_blocks) m.super_is;
    nr_files = m.nr_files ∙ ap (λ (x : Super40). x.file_count) m.super_is;
    next_oid = m.next_oid ∙ ap (λ (x : Super40). x.oid) m.super_is;
    prev = m.prev;
    records = m.records;
    different = subst AreDifferent (sym m.blocks_are) m.different;
    unused = subst (λ (l : List ℕ). All (IsUnused s) l) (sym m.blocks_are) m.unused;
    head = m.head;
  }

  module _ (lawful : IsLawful s) (kept : All (λ b. (b ≢ 0) × (b < s.block_count)) (overwritten_blocks answers cells)) (fresh : All (λ b. b < s.block_count) (fresh_blocks answers)) where
    original : (b : ℕ) → Contains (originals_of p) b → (b ≢ 0) × (b < s.block_count)
    original b h = ⊎_elim
        (λ is. (λ zero. absurd (omega (arith, is, zero)), omega (arith, is, lawful.least)))
        (λ more. ⊎_elim
        (λ one. let r = bitmap_within s.block_count one.0 lawful.least (let lt = one.1 in omega (arith, lt, m.are_new.count)) in
        (λ zero. r.0 (sym one.2 ∙ zero), subst (λ (k : ℕ). k < s.block_count) (sym one.2) r.1))
        (λ cell. All-contains (λ (k : ℕ). (k ≢ 0) × (k < s.block_count)) (overwritten_blocks answers cells) b kept cell)
        more)
        (home_cases (new_super next bitmaps) bitmaps (overwritten (place_of answers) cells) b (subst (λ (l : _). IsTarget l b) homes_are (subst (λ (l : List ℕ). Contains l b) (sym (news_are p.wandered)) h)))

    in_blocks : (b : ℕ) → Contains (blocks_of p) b → b < s.block_count
    in_blocks b h = (All-contains (IsUnused s) (blocks_of p) b is_plan.unused h).0

    pub is_below : IsBelow s.block_count p
    is_below = record {
      head = in_blocks p.head.0 (Contains-append_right (map (λ (w : Copy). w.copy) p.wandered) (p.records ++ p.head.0 ∷ []) p.head.0 (Contains-append_right p.records (p.head.0 ∷ []) p.head.0 (member_here p.head.0 [] p.head.0 refl)));
      records = all_from (λ (b : ℕ). b < s.block_count) p.records (λ b h. in_blocks b (Contains-append_right (map (λ (w : Copy). w.copy) p.wandered) (p.records ++ p.head.0 ∷ []) b (Contains-append_left p.records (p.head.0 ∷ []) b h)));
      placed = all_from (λ (x : PlacedCell). x.at < s.block_count) p.placed (λ x h. All-contains (λ (b : ℕ). b < s.block_count) (fresh_blocks answers) x.at fresh
          (placed_fresh answers cells x.at (subst (λ (l : List PlacedCell). Contains (map (λ (y : PlacedCell). y.at) l) x.at) is_plan.placed (in_map (λ (y : PlacedCell). y.at) p.placed x h))));
      wandered = all_from (λ (w : Copy). (w.original < s.block_count) × (w.copy < s.block_count)) p.wandered (λ w h. (
        (original w.original (in_map (λ (x : Copy). x.original) p.wandered w h)).1,
        in_blocks w.copy (Contains-append_left (map (λ (x : Copy). x.copy) p.wandered) (p.records ++ p.head.0 ∷ []) w.copy (in_map (λ (x : Copy). x.copy) p.wandered w h)),
      ));
    }

    few_blocks_in : length (blocks_of p) ≤ s.block_count
    few_blocks_in = few_blocks s.block_count (blocks_of p) is_plan.different in_blocks

    pub can_be_written : CanBeWritten p
    can_be_written = record {
      enough = m.records;
      few = omega (arith, few_blocks_in, lawful.most, length-append (map (λ (w : Copy). w.copy) p.wandered) (p.records ++ p.head.0 ∷ []), length-append p.records (p.head.0 ∷ []));
      named = all_from (λ (o : ℕ). o ≢ 0) (originals_of p) (λ b h. (original b h).0);
    }

-- the price's formula is the number of the log's blocks
pub room_enough : (count k b unused : ℕ) → count ≡ k + b + 1 → k + (b + 1) + (k + b + 1 + 253) / 254 + 1 ≤ unused → count + (count + 253) / 254 + 1 ≤ unused
room_enough count k b unused is enough = subst (λ (n : ℕ). n + (n + 253) / 254 + 1 ≤ unused) (sym is) (omega (arith, enough))
