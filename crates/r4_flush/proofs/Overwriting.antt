-- What a plan that is made for cells under new names overwrites.
use Rattle.std.proofs.Common.{◌≡◌, ℕ, suc, ◌≤◌, List, [], ◌∷◌, ◌++◌, length, Option, Some, None, refl}
use Rattle.std.proofs.Common.{sym, ap, subst, arith}
use Rattle.std.specs.Prelude.{All, Contains}
use Rattle.std.proofs.lemmas.List.{length-map}
use Rattle.r4_base.specs.declared.things.BlockNo.{BlockNo}
use Rattle.r4_cell.specs.Seen.{CellSeen}
use Rattle.r4_space.specs.Accounts.{price_formula}
use Rattle.r4_place.specs.Chosen.{block_of, fresh_blocks}
use Rattle.r4_place.specs.declared.placed.Placed.{Placed}
use Rattle.r4_flushed.specs.r4_commit.Places.{kept_at, overwritten, overwritten_blocks, place_of}
use Rattle.r4_flushed.specs.r4_placed.Flushing.{answers_by_block}
use Rattle.r4_flushed.proofs.r4_placed.Planning.{kept_from}
use Rattle.r4_flush.proofs.Choosing.{all_of}

-- the same blocks are placed
pub placed_by_block : (ps : List Placed) → fresh_blocks (answers_by_block ps) ≡ fresh_blocks ps
placed_by_block [] = refl
placed_by_block (p ∷ ps) = ap (λ (l : List ℕ). block_of p.how ++ l) (placed_by_block ps)

overwritten_few : (place : ℕ → Option BlockNo) (cs : List CellSeen) → length (overwritten place cs) ≤ length cs
overwritten_few place [] = omega arith
overwritten_few place (c ∷ cs) = go (place c.id) (overwritten_few place cs)
  where
    go : (o : Option BlockNo) → length (overwritten place cs) ≤ length cs
        → length (kept_at c o ++ overwritten place cs) ≤ suc (length cs)
    go (Some b) few = omega (arith, few)
    go None few = omega (arith, few)

pub price_grows : (m n bitmaps unused : ℕ) → m ≤ n → price_formula n bitmaps ≤ unused → price_formula m bitmaps ≤ unused
price_grows m n bitmaps unused le pays = omega (arith, le, pays)

-- the price of all pays for those that are overwritten
pub price_pays : (answers : List Placed) (cs : List CellSeen) (n bitmaps unused : ℕ) → length cs ≡ n
    → price_formula n bitmaps ≤ unused → price_formula (length (overwritten_blocks answers cs)) bitmaps ≤ unused
price_pays answers cs n bitmaps unused long pays =
    let few = overwritten_few (place_of answers) cs in
    let same = length-map {B = ℕ} (overwritten (place_of answers) cs) (λ (c : CellSeen). c.id) in
    price_grows (length (overwritten_blocks answers cs)) n bitmaps unused (omega (arith, few, same, long)) pays

-- each is the name of a cell
pub overwritten_stand : (P : ℕ → Type 0) (answers : List Placed) (cs : List CellSeen)
    → ((c : CellSeen) → Contains cs c → P c.id) → All P (overwritten_blocks answers cs)
overwritten_stand P answers cs each = all_of P (overwritten_blocks answers cs) (λ b one.
    let (c, in_cs, none, is) = kept_from (place_of answers) cs b one in
    subst P (sym is) (each c in_cs))
