-- Data blocks of what was put, with what further edits put over it.
use Rattle.std.proofs.Common.{◌≡◌, ℕ, zero, suc, ◌+◌, ◌<◌, ◌≤◌, Bool, true, false, List, [], ◌∷◌, get_or, refl, sym, ap, subst, ◌∙◌, arith}
use Rattle.std.specs.Prelude.{Option, unwrap_or}
use Rattle.std.specs.Option.{option_or}
use Rattle.std.proofs.lemmas.List.{ext_get_or}
use Rattle.r4_base.specs.Key.{later, rank}
use Rattle.r4_base.specs.declared.key.Key.{Key}
use Rattle.r4_build.specs.r4_branch.declared.piece.TwigPiece.{TwigPiece}
use Rattle.r4_extent_build.specs.r4_cell.Seen.{CellSeen}
use Rattle.r4_content.specs.Edited.{Edits}
use Rattle.r4_extent_build.specs.r4_extent_blocks.Setting.{IsOverwritten, SetsNone, byte_set, new_bytes, new_cell}
use Rattle.r4_extent_build.proofs.r4_extent_blocks.MadeCells.{new_whole}
use Rattle.r4_extent_build.specs.Numbering.{cells_coming, is_coming}
use Rattle.r4_extent_build.proofs.Numbers.{cells_off, cells_on}
use Rattle.r4_extent_turn.specs.Turning.{set_over}
use Rattle.r4_extent_turn.proofs.SetOver.{or_none, over_is, unwrap_over}

same_bytes : (a z : Edits) (k n : ℕ) → ((j : ℕ) → k ≤ j → j < k + n → byte_set a j ≡ byte_set z j) → new_bytes a k n ≡ new_bytes z k n
unfolding new_bytes
same_bytes a z k zero same = refl
same_bytes a z k (suc n) same =
    (λ i. unwrap_or (same k (omega arith) (omega arith) i) 0 ∷ same_bytes a z (k + 1) n (λ j low high. same j (omega (arith, low)) (omega (arith, high))) i)

byte_at : (e : Edits) (k n i : ℕ) → i < n → get_or (new_bytes e k n) i 0 ≡ unwrap_or (byte_set e (k + i)) 0
unfolding new_bytes
byte_at e k zero i lt = absurd (omega (arith, lt))
byte_at e k (suc n) zero lt = ap (λ (j : ℕ). unwrap_or (byte_set e j) 0) (let same : k ≡ k + 0 = omega arith in same)
byte_at e k (suc n) (suc i) lt =
    byte_at e (k + 1) n i (omega (arith, lt)) ∙ ap (λ (j : ℕ). unwrap_or (byte_set e j) 0) (let same : k + 1 + i ≡ k + suc i = omega arith in same)

-- where nothing was put before
pub none_below : (t e : Edits) (id : ℕ) (lo : Key) → SetsNone (byte_set t) (rank lo) → new_cell e id lo ≡ new_cell (set_over t e) id lo
none_below t e id lo none =
    ap (λ (bytes : List ℕ). let c : CellSeen = record { id = id; level = 0; lo = lo; hi = later lo 4096; block = bytes } in c)
    (same_bytes e (set_over t e) (rank lo) 4096 (λ j low high. sym (over_is t e j ∙ (ap (option_or (byte_set e j)) (none j low high) ∙ or_none (byte_set e j)))))

-- the block of what was put before, with the other edits' bytes
pub put_over : (t e : Edits) (id : ℕ) (lo : Key) (old c : CellSeen) → old ≡ new_cell t id lo → IsOverwritten e old c → c ≡ new_cell (set_over t e) id lo
put_over t e id lo old c is over =
    let o : IsOverwritten e (new_cell t id lo) c = subst (λ (d : CellSeen). IsOverwritten e d c) is over in
    let long = new_whole t (rank lo) in
    let longer = new_whole (set_over t e) (rank lo) in
    let whole = o.whole in
    let bytes : c.block ≡ new_bytes (set_over t e) (rank lo) 4096 = ext_get_or 0 c.block (new_bytes (set_over t e) (rank lo) 4096) (omega (arith, whole, longer)) (λ i lt.
    let below : i < 4096 = omega (arith, lt, whole) in
    o.bytes.each i (omega (arith, below, long))
    ∙ (ap (unwrap_or (byte_set e (rank lo + i))) (byte_at t (rank lo) 4096 i below)
    ∙ (sym (unwrap_over (byte_set e (rank lo + i)) (byte_set t (rank lo + i)))
    ∙ (ap (λ (b : Option ℕ). unwrap_or b 0) (sym (over_is t e (rank lo + i))) ∙ sym (byte_at (set_over t e) (rank lo) 4096 i below))))) in
    (λ i. record { id = o.number i; level = o.level i; lo = o.lo i; hi = o.hi i; block = bytes i })

-- edits that put the same before make the same blocks
pub same_cells : (t z e : Edits) → ((j : ℕ) → byte_set t j ≡ byte_set z j) → (old : List TwigPiece) (n : ℕ) (ps : List TwigPiece)
    → cells_coming (set_over t e) old n ps ≡ cells_coming (set_over z e) old n ps
unfolding cells_coming
same_cells t z e same old n [] = refl
same_cells t z e same old n (p ∷ ps) = by_test (is_coming old p) refl (λ m. same_cells t z e same old m ps)
  where
    one : (j : ℕ) → byte_set (set_over t e) j ≡ byte_set (set_over z e) j
    one j = over_is t e j ∙ (ap (option_or (byte_set e j)) (same j) ∙ sym (over_is z e j))

    by_test : (b : Bool) → is_coming old p ≡ b → ((m : ℕ) → cells_coming (set_over t e) old m ps ≡ cells_coming (set_over z e) old m ps)
        → cells_coming (set_over t e) old n (p ∷ ps) ≡ cells_coming (set_over z e) old n (p ∷ ps)
    by_test false off rest = cells_off old (set_over t e) n p ps off ∙ (rest n ∙ sym (cells_off old (set_over z e) n p ps off))
    by_test true on rest =
        cells_on old (set_over t e) n p ps on
        ∙ ((λ i. record { id = n; level = 0; lo = p.key; hi = later p.key 4096; block = same_bytes (set_over t e) (set_over z e) (rank p.key) 4096 (λ j low high. one j) i } ∷ rest (n + 1) i)
        ∙ sym (cells_on old (set_over z e) n p ps on))
