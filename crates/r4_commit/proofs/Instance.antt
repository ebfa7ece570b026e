-- A plan may be made: that of one cell that is overwritten, on an image where nothing is unflushed.
use Rattle.std.proofs.Common.{◌≡◌, ℕ, ◌<◌, ◌≤◌, true, false, [], ◌∷◌, refl, arith}
use Rattle.std.proofs.lemmas.List.Elements.{All-cons, All-nil}
use Rattle.r4_base.specs.Image.{Image, IsImage}
use Rattle.r4_base.specs.Bitmap.{is_fixed}
use Rattle.r4_base.specs.Chain.{HasLog, committed}
use Rattle.r4_base.specs.declared.superblock.Super40.{Super40}
use Rattle.r4_base.proofs.Members.{no_member}
use Rattle.r4_place.specs.r4_cell.Seen.{CellSeen}
use Rattle.r4_space.specs.Lawful.{IsLawful}
use Rattle.r4_space.specs.Space.{Space}
use Rattle.r4_commit.specs.Plannable.{IsPlannable, is_marked_in, is_spoken_for}

pub one_cell : (n : ℕ) (base : Image) (s : Space) (c : CellSeen) (next : Super40) → IsImage n base → HasLog n base [] → IsLawful s → s.block_count ≤ n → next.block_count ≡ s.block_count → is_marked_in s c.id ≡ true → is_fixed s.block_count c.id ≡ false
    → IsPlannable n base [] s (c ∷ []) [] next (record { 0 = committed base })
one_cell n base s c next image log lawful within blocks marked free = record {
  image = image;
  log = log;
  few = omega arith;
  prev = refl;
  lawful = lawful;
  within = within;
  blocks = blocks;
  names = (no_member c.id, tt);
  overwritten = All-cons (λ (b : ℕ). (is_marked_in s b ≡ true) × (is_fixed s.block_count b ≡ false)) c.id [] (marked, free) (All-nil (λ (b : ℕ). (is_marked_in s b ≡ true) × (is_fixed s.block_count b ≡ false)));
  different = tt;
  placed = All-nil (λ (b : ℕ). (Rattle.std.proofs.Common.get_or s.placed b false ≡ true) × (is_spoken_for s b ≡ false));
  kept = λ b h. absurd (no_member b h);
  in_place = λ b h. absurd (no_member b h);
}
