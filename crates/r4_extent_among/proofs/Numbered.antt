-- Leaves under other numbers.
use Rattle.std.proofs.Common.{◌≡◌, inl, inr, ℕ, ◌+◌, List, [], ◌∷◌, ◌++◌, length, refl, sym, ap, subst, ◌∙◌, arith}
use Rattle.std.specs.Prelude.{Contains, Option}
use Rattle.r4_base.specs.Key.{rank}
use Rattle.r4_base.specs.Node.{mkfs_id_of}
use Rattle.r4_base.specs.Tree.{Span}
use Rattle.r4_extent_build.specs.r4_cell.Seen.{CellSeen, node_of}
use Rattle.r4_content.specs.Edited.{Edits}
use Rattle.r4_extent_build.specs.r4_extent_demands.Putting.{put_into}
use Rattle.r4_build.specs.r4_leaf.Units.{LeafUnit}
use Rattle.r4_build.specs.r4_patch.Joining.{ids_of}
use Rattle.r4_build.proofs.r4_patch.Members.{Distinct, cases, here, later, none}
use Rattle.r4_build.specs.r4_path.Levels.{units_of_cells}
use Rattle.r4_build.specs.r4_path.Sharing.{IsSound}
use Rattle.r4_build.specs.r4_path.Steps.{CountUp, Follow}
use Rattle.r4_build.proofs.r4_path.Rising.{count_within, id_member}
use Rattle.r4_build.specs.r4_reach.Touched.{Body}
use Rattle.r4_extent_among.specs.Among.{AreLeavesFor, AreLeavesIn, HaveValues, numbered}

pub numbered_long : (n : ℕ) (cs : List CellSeen) → length (numbered n cs) ≡ length cs
numbered_long n [] = refl
numbered_long n (c ∷ cs) = let h = numbered_long (n + 1) cs in omega (arith, h)

pub numbered_append : (n : ℕ) (xs ys : List CellSeen) → numbered n (xs ++ ys) ≡ numbered n xs ++ numbered (n + length xs) ys
numbered_append n [] ys = let z : n ≡ n + 0 = omega arith in ap (λ m. numbered m ys) z
numbered_append n (x ∷ xs) ys =
    let z : n + 1 + length xs ≡ n + length (x ∷ xs) = omega arith in
    ap (λ (cs : List CellSeen). record x { id = n } ∷ cs) (numbered_append (n + 1) xs ys ∙ ap (λ m. numbered (n + 1) xs ++ numbered m ys) z)

pub numbered_counts : (n : ℕ) (cs : List CellSeen) → CountUp n (ids_of (numbered n cs))
numbered_counts n [] = tt
numbered_counts n (c ∷ cs) = (refl, numbered_counts (n + 1) cs)

-- cells whose numbers count up have these numbers
pub counts_numbered : (n : ℕ) (cs : List CellSeen) → CountUp n (ids_of cs) → cs ≡ numbered n cs
counts_numbered n [] h = refl
counts_numbered n (c ∷ cs) h = λ i. record c { id = h.0 i } ∷ counts_numbered (n + 1) cs h.1 i

pub numbered_distinct : (n : ℕ) (cs : List CellSeen) → Distinct (numbered n cs)
numbered_distinct n [] = tt
numbered_distinct n (c ∷ cs) = (
  λ y at same. let k = count_within (n + 1) (ids_of (numbered (n + 1) cs)) y.id (numbered_counts (n + 1) cs) (id_member (numbered (n + 1) cs) y at) in omega (arith, k, same),
  numbered_distinct (n + 1) cs,
)

-- one of them is one of the cells, but for the number
pub numbered_from : (n : ℕ) (cs : List CellSeen) (d : CellSeen) → Contains (numbered n cs) d → (c : CellSeen) × Contains cs c × (d ≡ record c { id = d.id })
numbered_from n [] d at = absurd (none d at)
numbered_from n (c ∷ cs) d at = elim (cases (record c { id = n }) d (numbered (n + 1) cs) at) [
  | inl is ↦ (c, here c cs, is ∙ (λ i. record c { id = ap (λ (x : CellSeen). x.id) (sym is) i }))
  | inr more ↦ let (x, m, same) = numbered_from (n + 1) cs d more in (x, later c x cs m, same)
]

follow_numbered : (lo hi n : ℕ) (cs : List CellSeen) → Follow 1 lo hi cs → Follow 1 lo hi (numbered n cs)
follow_numbered lo hi n [] f = f
follow_numbered lo hi n (c ∷ cs) f = (f.0, f.1, f.2, follow_numbered (rank c.hi) hi (n + 1) cs f.3)

pub units_numbered : (n : ℕ) (cs : List CellSeen) → units_of_cells (numbered n cs) ≡ units_of_cells cs
units_numbered n [] = refl
units_numbered n (c ∷ cs) = ap (λ us. (node_of c).units ++ us) (units_numbered (n + 1) cs)

sound_again : (c d : CellSeen) → d ≡ record c { id = d.id } → IsSound c → IsSound d
sound_again c d same sound = subst IsSound (sym same) (record { whole = sound.whole; accepted = sound.accepted })

values_numbered : (us : List LeafUnit) (from hi m n : ℕ) (cs : List CellSeen) → HaveValues us from hi m cs → HaveValues us from hi m (numbered n cs)
values_numbered us from hi m n cs h = record {
  ranges = follow_numbered from hi n cs h.ranges;
  units = units_numbered n cs ∙ h.units;
  sound = λ d at. let (c, in_cs, same) = numbered_from n cs d at in sound_again c d same (h.sound c in_cs);
  few = let l = numbered_long n cs in let few = h.few in omega (arith, l, few);
  mkfs_id_is = λ d at. let (c, in_cs, same) = numbered_from n cs d at in ap (λ (x : CellSeen). mkfs_id_of x.block) same ∙ h.mkfs_id_is c in_cs;
}

leaves_numbered : (us : List LeafUnit) (hi m n : ℕ) (cs : List CellSeen) → AreLeavesFor us hi m cs → AreLeavesFor us hi m (numbered n cs)
leaves_numbered [] hi m n cs h = ap (numbered n) h
leaves_numbered (u ∷ us) hi m n cs h = values_numbered (u ∷ us) u.0 hi m n cs h

pub all_numbered : (b : Option Body) (e : Edits) (m n : ℕ) (ss : List Span) (cs : List CellSeen) → AreLeavesIn b e m ss cs → AreLeavesIn b e m ss (numbered n cs)
all_numbered b e m n [] cs h = ap (numbered n) h
all_numbered b e m n (s ∷ ss) cs (mine, others, is, for_it, rest) = (
  numbered n mine,
  numbered (n + length mine) others,
  ap (numbered n) is ∙ numbered_append n mine others,
  leaves_numbered (put_into b e s.lo s.hi) s.hi m n mine for_it,
  all_numbered b e m (n + length mine) ss others rest,
)

-- cells with numbers, and others behind them with the next ones
pub numbered_both : (n m : ℕ) (xs ys : List CellSeen) → xs ≡ numbered n xs → m ≡ n + length xs → ys ≡ numbered m ys → xs ++ ys ≡ numbered n (xs ++ ys)
numbered_both n m xs ys one at more =
    (λ i. one i ++ (more ∙ ap (λ k. numbered k ys) at) i) ∙ sym (numbered_append n xs ys)
