-- Blocks one after the other, as pieces: holes up to a block that gets bytes.
use Rattle.std.specs.Prelude.{◌≡◌, ℕ, zero, suc, ◌+◌, ◌-◌, ◌*◌, ◌<◌, List, [], ◌∷◌, ◌++◌, Bool, true, false, ◌==◌}
use Rattle.std.specs.Prelude.{if◌then◌else◌}
use Rattle.std.proofs.Common.{arith, refl, sym, ap, ◌∙◌}
use Rattle.std.proofs.lemmas.Bool.{ne_eqb}
use Rattle.std.proofs.lemmas.List.{append-nil, append_assoc}
use Rattle.r4_base.specs.Key.{key_of_rank}
use Rattle.r4_base.specs.declared.key.Key.{Key}
use Rattle.r4_graft.specs.r4_branch.declared.piece.TwigPart.TheVariants.{Blocks}
use Rattle.r4_graft.specs.r4_branch.declared.piece.TwigPiece.{TwigPiece}
use Rattle.r4_bodies.specs.r4_leaf_edits.r4_reach.Needs.{runs, widened}
use Rattle.r4_extent_demands.specs.Pieces.{block_at, hole_at}

hole_piece : Key → ℕ → TwigPiece
hole_piece k n = record { key = k; part = Blocks (record { start = 0; width = n }) }

pub hole_some : (k : Key) (n : ℕ) → 0 < n → hole_at k n ≡ record { key = k; part = Blocks (record { start = 0; width = n }) } ∷ []
hole_some k n some = let f : (n == 0) ≡ false = ne_eqb n 0 (λ e. omega (arith, e, some)) in rw f refl

-- a block more before a hole
wider_hole : (k m : ℕ) (h : Key) (rest : List TwigPiece)
    → widened k (record { key = h; part = Blocks (record { start = 0; width = m }) } ∷ rest)
    ≡ record { key = key_of_rank k; part = Blocks (record { start = 0; width = m + 1 }) } ∷ rest
wider_hole k m h rest = refl

wider : (k m : ℕ) (h : Key) (rest : List TwigPiece)
    → widened k rest ≡ record { key = key_of_rank k; part = Blocks (record { start = 0; width = 1 }) } ∷ rest
    → widened k (hole_at h m ++ rest) ≡ hole_at (key_of_rank k) (m + 1) ++ rest
wider k zero h rest none = none
wider k (suc m) h rest none =
    let some = hole_some h (suc m) (omega arith) in
    let more = hole_some (key_of_rank k) (suc m + 1) (omega arith) in
    ap (λ (hs : List TwigPiece). widened k (hs ++ rest)) some ∙ wider_hole k (suc m) h rest
    ∙ sym (ap (λ (hs : List TwigPiece). hs ++ rest) more)

module _ (gets : ℕ → Bool) where
  -- so many blocks that get no bytes
  abbrev pub AreQuiet : (key blocks : ℕ) → Type 0
  AreQuiet k n = (i : ℕ) → i < n → gets (k + 4096 * i) ≡ false

  first_quiet : (k n : ℕ) → AreQuiet k (suc n) → gets k ≡ false
  first_quiet k n none =
      let e : k ≡ k + 4096 * 0 = omega arith in
      ap gets e ∙ none 0 (omega arith)

  rest_quiet : (k n : ℕ) → AreQuiet k (suc n) → AreQuiet (k + 4096) n
  rest_quiet k n none i lt =
      let e : k + 4096 + 4096 * i ≡ k + 4096 * suc i = omega arith in
      ap gets e ∙ none (suc i) (omega (arith, lt))

  by_test : (k : ℕ) (t : Bool) (rest : List TwigPiece) → gets k ≡ t
      → (if gets k then block_at (key_of_rank k) ∷ rest else widened k rest)
      ≡ (if t then block_at (key_of_rank k) ∷ rest else widened k rest)
  by_test k t rest e = ap (λ (b : Bool). if b then block_at (key_of_rank k) ∷ rest else widened k rest) e

  pub quiet_runs : (k n : ℕ) → AreQuiet k n → runs gets k n ≡ hole_at (key_of_rank k) n
  quiet_runs k zero none = refl
  quiet_runs k (suc n) none =
      let rest = quiet_runs (k + 4096) n (rest_quiet k n none) in
      let count : n + 1 ≡ suc n = omega arith in
      by_test k false (runs gets (k + 4096) n) (first_quiet k n none)
      ∙ ap (widened k) (rest ∙ sym (append-nil (hole_at (key_of_rank (k + 4096)) n)))
      ∙ wider k n (key_of_rank (k + 4096)) [] refl
      ∙ append-nil (hole_at (key_of_rank k) (n + 1))
      ∙ ap (hole_at (key_of_rank k)) count

  pub next_runs : (k m n : ℕ) → AreQuiet k m → gets (k + 4096 * m) ≡ true
      → runs gets k (m + suc n) ≡ hole_at (key_of_rank k) m
      ++ (block_at (key_of_rank (k + 4096 * m)) ∷ runs gets (k + 4096 * (m + 1)) n)
  next_runs k zero n none next =
      let e : k ≡ k + 4096 * 0 = omega arith in
      let f : k + 4096 ≡ k + 4096 * (0 + 1) = omega arith in
      let g : 0 + suc n ≡ suc n = omega arith in
      ap (runs gets k) g ∙ by_test k true (runs gets (k + 4096) n) (ap gets e ∙ next)
      ∙ (λ i. block_at (key_of_rank (e i)) ∷ runs gets (f i) n)
  next_runs k (suc m) n none next =
      let e : k + 4096 + 4096 * m ≡ k + 4096 * suc m = omega arith in
      let f : k + 4096 + 4096 * (m + 1) ≡ k + 4096 * (suc m + 1) = omega arith in
      let g : suc m + suc n ≡ suc (m + suc n) = omega arith in
      let count : m + 1 ≡ suc m = omega arith in
      let rest = next_runs (k + 4096) m n (rest_quiet k m none) (ap gets e ∙ next) in
      let more = block_at (key_of_rank (k + 4096 + 4096 * m)) ∷ runs gets (k + 4096 + 4096 * (m + 1)) n in
      ap (runs gets k) g ∙ by_test k false (runs gets (k + 4096) (m + suc n)) (first_quiet k m none)
      ∙ ap (widened k) rest
      ∙ wider k m (key_of_rank (k + 4096)) more refl
      ∙ ap (λ (w : ℕ). hole_at (key_of_rank k) w ++ more) count
      ∙ (λ i. hole_at (key_of_rank k) (suc m) ++ (block_at (key_of_rank (e i)) ∷ runs gets (f i) n))

-- ---- blocks that are put behind others, one stretch after another

module _ (gets : ℕ → Bool) (r n d m k : ℕ) (before all : List TwigPiece) (at : k ≡ r + 4096 * d)
    (whole : before ++ runs gets (r + 4096 * d) (n - d) ≡ all) (none : AreQuiet gets k m) where
  from_here : before ++ runs gets k (n - d) ≡ all
  from_here = ap (λ (j : ℕ). before ++ runs gets j (n - d)) at ∙ whole

  -- no one gets bytes any more
  pub last_stretch : (key : Key) → key_of_rank k ≡ key → m ≡ n - d → before ++ hole_at key m ≡ all
  last_stretch key is end =
      let quiet : runs gets k (n - d) ≡ hole_at key m = ap (runs gets k) (sym end) ∙ quiet_runs gets k m none
      ∙ ap (λ (j : Key). hole_at j m) is in
      ap (λ (ps : List TwigPiece). before ++ ps) (sym quiet) ∙ from_here

  -- the next one does
  pub next_stretch : (key next : Key) → key_of_rank k ≡ key → key_of_rank (k + 4096 * m) ≡ next → m < n - d
      → gets (k + 4096 * m) ≡ true
      → ((before ++ hole_at key m) ++ block_at next ∷ []) ++ runs gets (r + 4096 * (d + (m + 1))) (n - (d + (m + 1)))
      ≡ all
  next_stretch key next is also less some =
      let left : ℕ = n - (d + (m + 1)) in
      let count : n - d ≡ m + suc (n - (d + (m + 1))) = omega (arith, less) in
      let far : k + 4096 * (m + 1) ≡ r + 4096 * (d + (m + 1)) = omega (arith, at) in
      let split : runs gets k (n - d) ≡ hole_at key m ++ (block_at next ∷ runs gets (r + 4096 * (d + (m + 1))) (n - (d + (m + 1))))
      = ap (runs gets k) count ∙ next_runs gets k m (n - (d + (m + 1))) none some
      ∙ (λ i. hole_at (is i) m ++ (block_at (also i) ∷ runs gets (far i) (n - (d + (m + 1))))) in
      append_assoc (before ++ hole_at key m) (block_at next ∷ []) (runs gets (r + 4096 * (d + (m + 1))) (n - (d + (m + 1))))
      ∙ append_assoc before (hole_at key m) (block_at next ∷ runs gets (r + 4096 * (d + (m + 1))) (n - (d + (m + 1))))
      ∙ ap (λ (ps : List TwigPiece). before ++ ps) (sym split) ∙ from_here
