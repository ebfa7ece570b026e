-- What is left unused once the blocks of a plan are placed and held.
use Rattle.std.proofs.Common.{◌≡◌, ◌≢◌, ℕ, ◌+◌, ◌≤◌, ◌<◌, ◌||◌, Bool, true, false, List, [], ◌∷◌, ◌++◌}
use Rattle.std.proofs.Common.{length, map, get_or, refl, sym, ◌∙◌, ap, subst, arith}
use Rattle.std.specs.Prelude.{Contains}
use Rattle.std.proofs.lemmas.List.{length-append, length-map, length-set}
use Rattle.std.proofs.lemmas.List.Elements.{All-push}
use Rattle.std.proofs.lemmas.List.{append-nil, append_assoc}
use Rattle.r4_base.proofs.Members.{member_here, member_later}
use Rattle.r4_base.specs.Bitmap.{bitmap_count}
use Rattle.r4_base.specs.Image.{AreDifferent}
use Rattle.r4_base.specs.declared.superblock.Super40.{Super40}
use Rattle.r4_base.specs.declared.things.AtomNo.{AtomNo}
use Rattle.r4_base.specs.declared.things.BlockNo.{BlockNo}
use Rattle.r4_accounting.specs.r4_cell.Seen.{CellSeen}
use Rattle.r4_space.specs.Accounts.{price_formula}
use Rattle.r4_space.specs.Lawful.{IsLawful}
use Rattle.r4_space.specs.Space.{Space, is_claimed, is_taken_by, sealed_in, unused_count, with_held}
use Rattle.r4_space.specs.declared.things.Claim.{Claim}
use Rattle.r4_space.proofs.ClaimLaws.{claimed-old}
use Rattle.r4_space.proofs.UsedLaws.{held_fewer}
use Rattle.r4_renaming.specs.r4_place.Chosen.{placed_all, placed_in}
use Rattle.r4_renaming.specs.r4_place.declared.placed.How.{How}
use Rattle.r4_renaming.specs.r4_place.declared.placed.How.TheVariants.{Fresh, Overwrite, Relocate}
use Rattle.r4_renaming.specs.r4_place.declared.placed.Placed.{Placed}
use Rattle.r4_renaming.specs.r4_wander.Torn.{Write}
use Rattle.r4_renaming.specs.r4_wander.Seen.{Copy}
use Rattle.r4_renaming.specs.r4_wander.declared.plan.LogPlan.{LogPlan}
use Rattle.r4_renaming.specs.r4_commit.Places.{overwritten, place_of}
use Rattle.r4_renaming.specs.r4_commit.Planned.{IsPlanFor, IsUnused, blocks_of, new_super, with_all_held}
use Rattle.r4_renaming.proofs.r4_commit.PlanFacts.{length-both, length-new_homes}

-- ---- one block held

abbrev claim : AtomNo → ℕ → Claim
claim atom b = record { atom = atom; block = record { 0 = b } }

-- the space with one block more held
abbrev holding : Space → AtomNo → ℕ → Space
holding s atom b = record s { held = s.held ++ claim atom b ∷ [] }

same_unused : (s : Space) (atom : AtomNo) (b : ℕ)
    → unused_count (holding s atom b) ≡ unused_count (with_held s atom (record { 0 = b }))
unfolding unused_count is_taken_by
same_unused s atom b = refl

one_fewer : (s : Space) (atom : AtomNo) (b : ℕ) → IsLawful s → IsUnused s b
    → unused_count (holding s atom b) + 1 ≡ unused_count s
one_fewer s atom b lawful is =
    let same = same_unused s atom b in
    let fewer = held_fewer s atom (record { 0 = b }) lawful is.0 is.1 in
    omega (arith, same, fewer)

still_unused : (s : Space) (atom : AtomNo) (b k : ℕ) → k ≢ b → IsUnused s k → IsUnused (holding s atom b) k
unfolding is_taken_by
still_unused s atom b k other is = (
  is.0,
  ap (λ (h : Bool). get_or s.marked k false || (get_or s.placed k false || (h || is_claimed s.deferred k)))
      (claimed-old s.held (claim atom b) k other) ∙ is.1,
  is.2,
)

still_lawful : (s : Space) (atom : AtomNo) (b : ℕ) → IsLawful s → b < s.block_count → IsLawful (holding s atom b)
still_lawful s atom b h lt = record {
  least = h.least;
  most = h.most;
  marked_size = h.marked_size;
  placed_size = h.placed_size;
  fixed = h.fixed;
  held_within = All-push (λ (c : Claim). c.block.0 < s.block_count) s.held (claim atom b) h.held_within lt;
  deferred_within = h.deferred_within;
  once = h.once;
  dues_small = h.dues_small;
}

pub sealed_unused : (s : Space) (atom : AtomNo) → unused_count (sealed_in s atom) ≡ unused_count s
unfolding unused_count is_taken_by
sealed_unused s atom = refl

-- ---- blocks placed

pub placed_size : (ps : List Placed) (s : Space) → length (placed_all s ps).placed ≡ length s.placed
placed_size [] s = refl
placed_size (p ∷ ps) s = placed_size ps (placed_in s p.how) ∙ by p.how
  where
    by : (how : How) → length (placed_in s how).placed ≡ length s.placed
    by (Fresh b) = length-set s.placed b.0 true
    by (Relocate b) = length-set s.placed b.0 true
    by Overwrite = refl

-- ---- all of them

held_in_turn : (s : Space) (atom : AtomNo) (b : ℕ) (bs : List ℕ)
    → unused_count (with_all_held s atom (b ∷ bs)) ≡ unused_count (with_all_held (holding s atom b) atom bs)
unfolding unused_count is_taken_by
held_in_turn s atom b bs =
    ap (λ (l : List Claim). unused_count (record s { held = l }))
    (sym (append_assoc s.held (claim atom b ∷ []) (map (claim atom) bs)))

none_held : (s : Space) (atom : AtomNo) → unused_count (with_all_held s atom []) ≡ unused_count s
unfolding unused_count is_taken_by
none_held s atom = ap (λ (l : List Claim). unused_count (record s { held = l })) (append-nil s.held)

pub held_left : (bs : List ℕ) (s : Space) (atom : AtomNo) → IsLawful s → AreDifferent bs
    → ((b : ℕ) → Contains bs b → IsUnused s b)
    → unused_count (with_all_held s atom bs) + length bs ≡ unused_count s
held_left [] s atom lawful different unused = let same = none_held s atom in omega (arith, same)
held_left (b ∷ bs) s atom lawful different unused =
    let here = unused b (member_here b bs b refl) in
    let rest =
    held_left bs (holding s atom b) atom (still_lawful s atom b lawful here.0) different.1
    (λ k has. still_unused s atom b k (λ same. different.0 (subst (Contains bs) same has))
    (unused k (member_later b bs k has))) in
    let turn = held_in_turn s atom b bs in
    let fewer = one_fewer s atom b lawful here in
    omega (arith, rest, turn, fewer)

-- ---- the price pays for a plan

module _ (s : Space) (atom : AtomNo) (cells : List CellSeen) (answers : List Placed) (next : Super40)
    (last : BlockNo) (plan : LogPlan) (f : IsPlanFor s atom cells answers next last plan) where
  counted : length plan.wandered
      ≡ length (overwritten (place_of answers) cells) + length f.bitmaps + 1
  counted =
      sym (length-map {B = Write} plan.wandered (λ (w : Copy). (w.original, w.block)))
      ∙ ap (λ (l : List Write). length l) f.homes
      ∙ length-new_homes (new_super next f.bitmaps) f.bitmaps (overwritten (place_of answers) cells)

  long : length (blocks_of plan) ≡ length plan.wandered + (length plan.records + 1)
  long =
      let both = length-append (map (λ (w : Copy). w.copy) plan.wandered) (plan.records ++ plan.head.0 ∷ []) in
      let copies = length-map {B = ℕ} plan.wandered (λ (w : Copy). w.copy) in
      let rest = length-append plan.records (plan.head.0 ∷ []) in
      omega (arith, both, copies, rest)

  -- the log takes no more blocks than the price
  pub log_blocks : (n : ℕ) → length cells ≤ n → length (blocks_of plan) ≤ price_formula n (bitmap_count s.block_count)
  log_blocks n few =
      let bitmaps = f.are_new.count in
      let both = length-both (place_of answers) cells in
      let records = f.records in
      omega (arith, counted, long, bitmaps, both, records, few)
