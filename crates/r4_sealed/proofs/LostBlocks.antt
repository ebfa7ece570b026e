-- What is lost after a commit was lost before it.
use Rattle.std.proofs.Common.{◌≡◌, ◌↔◌, ℕ, ◌<◌, Bool, true, false, ◌||◌, ◌&&◌, not, Option, Some, None, get_or}
use Rattle.std.proofs.Common.{refl, sym, ap, ◌∙◌, subst, arith}
use Rattle.std.specs.Prelude.{nat_le}
use Rattle.std.proofs.lemmas.Bool.Decides.{nat_tests}
use Rattle.r4_base.proofs.Choices.{never_both}
use Rattle.r4_base.specs.Image.{Image}
use Rattle.r4_base.specs.Bitmap.{is_fixed}
use Rattle.r4_base.specs.Tree.{Node, Store}
use Rattle.r4_base.specs.Value.{Content, Value}
use Rattle.r4_base.specs.Volume.{HasContent, IsLost}
use Rattle.r4_base.specs.declared.superblock.Super40.{Super40}
use Rattle.r4_base.specs.declared.things.AtomNo.{AtomNo}
use Rattle.r4_sets_told.proofs.r4_sets.Carried.{not_true}
use Rattle.r4_commit.specs.r4_space.Space.{Space, is_marked_after, is_marked_by}
use Rattle.r4_commit.specs.Plannable.{is_marked_in}
use Rattle.r4_sealed.specs.Commits.{Commit, IsCommitOn, image_after, image_before, is_freed}
use Rattle.r4_sealed.specs.Written.{Frees, IsSpaceOf}
use Rattle.r4_sealed.proofs.NewCells.{marks_after, or_first, stays_marked}

-- a block that is marked afterwards and not fixed was marked or placed, and is not freed
after_marked : (s : Space) (atom : AtomNo) (b : ℕ) → b < s.block_count → is_fixed s.block_count b ≡ false
    → is_marked_by s atom b ≡ true → ((get_or s.marked b false || get_or s.placed b false) ≡ true)
    × (is_freed s atom b ≡ false)
unfolding is_marked_by is_marked_after
after_marked s atom b lt free e =
    let inside : nat_le s.block_count b ≡ false = grind (arith, nat_tests, lt) in
    go (nat_le s.block_count b) (is_fixed s.block_count b) _ _ inside free e
  where
    go : (past fixed has freed : Bool) → past ≡ false → fixed ≡ false → (past || (fixed || (has && not freed))) ≡ true
        → (has ≡ true) × (freed ≡ false)
    go false false true false a b e = (refl, refl)
    go false false true true a b e = absurd cc
    go false false false freed a b e = absurd cc
    go true fixed has freed a b e = absurd cc
    go false true has freed a b e = absurd cc

one_of : (a b : Bool) → (a || b) ≡ true → (b ≡ true → ⊥) → a ≡ true
one_of true b e h = refl
one_of false b e h = absurd (h e)

pub no_cell : (o : Option (Node Value)) → ((d : Node Value) → o ≡ Some d → ⊥) → o ≡ None
no_cell None h = refl
no_cell (Some d) h = absurd (h d refl)

pub is_none : (d : Node Value) (o : Option (Node Value)) → o ≡ Some d → o ≡ None → ⊥
is_none d o a b = absurd (cc (sym a ∙ b))

module _ (n : ℕ) (work : Commit) (ok : IsCommitOn n work) (o m : Content) (c0 : HasContent n (image_before work) o)
    (here : IsSpaceOf c0 work.space) (c1 : HasContent n (image_after work) m)
    (count : c1.super.block_count ≡ work.space.block_count) (frees : Frees c0 work c1.store) where
  to_old : (b : ℕ) → IsLost c1 b → IsLost c0 b
  to_old b (in1, marked1, free1, none1) =
      let lt : b < work.space.block_count = subst (λ (j : ℕ). b < j) count in1 in
      let free : is_fixed work.space.block_count b ≡ false = subst (λ (j : ℕ). is_fixed j b ≡ false) count free1 in
      let (has, kept) = after_marked work.space work.atom b lt free (sym (marks_after n work ok b lt) ∙ marked1) in
      let marked : is_marked_in work.space b ≡ true = one_of (get_or work.space.marked b false)
      (get_or work.space.placed b false) has (λ placed. let (d, is) = frees.placed b placed in
      is_none d (c1.store b) is none1) in (
        subst (λ (j : ℕ). b < j) (sym here.count) lt,
        sym (here.marks b lt) ∙ marked,
        subst (λ (j : ℕ). is_fixed j b ≡ false) (sym here.count) free,
        no_cell (c0.store b) (λ d is. never_both (is_freed work.space work.atom b) (frees.gone b d is none1) kept),
      )

  to_new : (b : ℕ) → IsLost c0 b → IsLost c1 b
  to_new b (in0, marked0, free0, none0) =
      let lt : b < work.space.block_count = subst (λ (j : ℕ). b < j) here.count in0 in
      let marked : is_marked_in work.space b ≡ true = here.marks b lt ∙ marked0 in
      let kept : is_freed work.space work.atom b ≡ false =
      not_true (is_freed work.space work.atom b) (λ e. let (d, is) = frees.freed b e in
      is_none d (c0.store b) is none0) in (
        subst (λ (j : ℕ). b < j) (sym count) lt,
        marks_after n work ok b lt ∙ stays_marked work.space work.atom b
            (or_first (get_or work.space.marked b false) (get_or work.space.placed b false) marked) kept,
        subst (λ (j : ℕ). is_fixed j b ≡ false) (here.count ∙ sym count) free0,
        no_cell (c1.store b) (λ d is. let (e, was) = frees.over b d is marked in is_none e (c0.store b) was none0),
      )

  pub lost : (b : ℕ) → IsLost c0 b ↔ IsLost c1 b
  lost b = (to_new b, to_old b)

-- contents with the same superblock, the same cells and one space have the same lost blocks
one_way : {n k : ℕ} {one two : Image} {m o : Content} (c : HasContent n one m) (d : HasContent k two o) (s : Space)
    → d.super ≡ c.super → d.store ≡ c.store → IsSpaceOf c s → IsSpaceOf d s → (b : ℕ) → IsLost c b → IsLost d b
one_way c d s super store here there b (lt, marked, free, none) =
    let inside : b < s.block_count = subst (λ (j : ℕ). b < j) here.count lt in (
      subst (λ (x : Super40). b < x.block_count) (sym super) lt,
      sym (there.marks b inside) ∙ here.marks b inside ∙ marked,
      subst (λ (x : Super40). is_fixed x.block_count b ≡ false) (sym super) free,
      ap (λ (t : Store Value). t b) store ∙ none,
    )

pub both_ways : {n k : ℕ} {one two : Image} {m o : Content} (c : HasContent n one m) (d : HasContent k two o)
    (s : Space) → d.super ≡ c.super → d.store ≡ c.store → IsSpaceOf c s → IsSpaceOf d s → (b : ℕ)
    → IsLost c b ↔ IsLost d b
both_ways c d s super store here there b = (
  one_way c d s super store here there b,
  one_way d c s (sym super) (sym store) there here b,
)
