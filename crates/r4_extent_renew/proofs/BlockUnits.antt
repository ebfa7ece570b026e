-- The units of data blocks.
use Rattle.std.proofs.Common.{◌≡◌, ◌↔◌, inl, inr, ℕ, suc, ◌+◌, ◌-◌, ◌<◌, ◌≤◌, Bool, true, false, List, [], ◌∷◌, length, get_or, refl, sym, ap, subst, ◌∙◌, arith}
use Rattle.std.specs.Prelude.{Contains, ◌||◌}
use Rattle.std.specs.List.{list_any}
use Rattle.std.proofs.lemmas.Bool.{cases_lt}
use Rattle.std.proofs.lemmas.List.Elements.{Contains-append_cases, Contains-append_left, Contains-append_right}
use Rattle.r4_base.specs.Cell.{bytes_from, cell_of}
use Rattle.r4_base.specs.Key.{rank}
use Rattle.r4_base.specs.Value.{Byte, Value}
use Rattle.r4_twig_work.specs.r4_cell.Seen.{CellSeen, node_of}
use Rattle.r4_twig_work.specs.r4_leaf.Units.{is_between}
use Rattle.r4_twig_work.proofs.r4_patch.Members.{cases, here, later, none}
use Rattle.r4_twig_work.specs.r4_path.Levels.{units_of_cells}
use Rattle.r4_twig_work.specs.r4_work.Order.{HasKey}
use Rattle.r4_twig_work.proofs.r4_work.UnitMembers.{between}

-- the byte at a key
abbrev pub IsByteAt : (lo : ℕ) → List ℕ → (key : ℕ) → Value → Type 0
IsByteAt lo bs k v = (lo ≤ k) × ((k < lo + length bs) × (v ≡ Byte (get_or bs (k - lo) 0)))

pub bytes_members : (lo : ℕ) (bs : List ℕ) (k : ℕ) (v : Value) → Contains (bytes_from lo bs) (k, v) ↔ IsByteAt lo bs k v
bytes_members lo [] k v = (λ m. absurd (none (k, v) m), λ h. absurd (let a = h.0 in let z = h.1.0 in omega (arith, a, z)))
bytes_members lo (x ∷ bs) k v =
    let more = bytes_members (lo + 1) bs k v in (
      λ m. elim (cases (lo, Byte x) (k, v) (bytes_from (lo + 1) bs) m) [
        | inl is ↦
            let at : k ≡ lo = ap (λ (u : ℕ × Value). u.0) is in
            let first : k - lo ≡ 0 = omega (arith, at) in
            (omega (arith, at), (omega (arith, at), ap (λ (u : ℕ × Value). u.1) is ∙ ap (λ n. Byte (get_or (x ∷ bs) n 0)) (sym first)))
        | inr rest ↦
            let h = more.0 rest in
            let a = h.0 in
            let z = h.1.0 in
            let next : k - lo ≡ suc (k - (lo + 1)) = omega (arith, a) in
            (omega (arith, a), (omega (arith, z), h.1.1 ∙ ap (λ n. Byte (get_or (x ∷ bs) n 0)) (sym next)))
      ],
      λ h.
          let a = h.0 in
          let z = h.1.0 in
          elim (cases_lt lo k) [
            | inl lt ↦
                let next : k - lo ≡ suc (k - (lo + 1)) = omega (arith, lt) in
                later (lo, Byte x) (k, v) (bytes_from (lo + 1) bs) (more.1 (omega (arith, lt), (omega (arith, z), h.1.1 ∙ ap (λ n. Byte (get_or (x ∷ bs) n 0)) next)))
            | inr ge ↦
                let at : lo ≡ k = omega (arith, a, ge) in
                let first : k - lo ≡ 0 = omega (arith, at) in
                subst (Contains ((lo, Byte x) ∷ bytes_from (lo + 1) bs))
                (let same : (lo, Byte x) ≡ (k, v) = λ i. (at i, sym (h.1.1 ∙ ap (λ n. Byte (get_or (x ∷ bs) n 0)) first) i) in same)
                (here (lo, Byte x) (bytes_from (lo + 1) bs))
          ],
    )

pub block_units : (c : CellSeen) → c.level ≡ 0 → (node_of c).units ≡ bytes_from (rank c.lo) c.block
unfolding cell_of
block_units c level = ap (λ (l : ℕ). (cell_of l (rank c.lo) (rank c.hi) c.block).units) level

-- ---- several blocks

pub cells_to : (cs : List CellSeen) (u : ℕ × Value) → Contains (units_of_cells cs) u → (c : CellSeen) × (Contains cs c × Contains (node_of c).units u)
cells_to [] u m = absurd (none u m)
cells_to (c ∷ cs) u m = elim (Contains-append_cases (node_of c).units (units_of_cells cs) u m) [
  | inl mine ↦ (c, (here c cs, mine))
  | inr more ↦ let (d, (at, has)) = cells_to cs u more in (d, (later c d cs at, has))
]

pub cells_from : (cs : List CellSeen) (u : ℕ × Value) (c : CellSeen) → Contains cs c → Contains (node_of c).units u → Contains (units_of_cells cs) u
cells_from [] u c at has = absurd (none c at)
cells_from (d ∷ cs) u c at has = elim (cases d c cs at) [
  | inl is ↦ Contains-append_left (node_of d).units (units_of_cells cs) u (subst (λ (z : CellSeen). Contains (node_of z).units u) is has)
  | inr more ↦ Contains-append_right (node_of d).units (units_of_cells cs) u (cells_from cs u c more has)
]

-- ---- a key in one of them

pub in_one : (cs : List CellSeen) (k : ℕ) → list_any (λ (c : CellSeen). is_between (rank c.lo) (rank c.hi) k) cs ≡ true → (c : CellSeen) × (Contains cs c × HasKey c k)
in_one [] k h = absurd (no_truth h)
  where
    no_truth : false ≡ true → ⊥
    no_truth e = absurd cc
in_one (c ∷ cs) k h = by_test (is_between (rank c.lo) (rank c.hi) k) refl (λ g. in_one cs k g)
  where
    by_test : (t : Bool) → is_between (rank c.lo) (rank c.hi) k ≡ t
        → (list_any (λ (z : CellSeen). is_between (rank z.lo) (rank z.hi) k) cs ≡ true → (d : CellSeen) × (Contains cs d × HasKey d k))
        → (d : CellSeen) × (Contains (c ∷ cs) d × HasKey d k)
    by_test true on rest = (c, (here c cs, between (rank c.lo) (rank c.hi) k on))
    by_test false off rest = let (d, (at, has)) = rest (ap (λ (t : Bool). t || list_any (λ (z : CellSeen). is_between (rank z.lo) (rank z.hi) k) cs) (sym off) ∙ h) in (d, (later c d cs at, has))

pub one_in : (cs : List CellSeen) (k : ℕ) (c : CellSeen) → Contains cs c → is_between (rank c.lo) (rank c.hi) k ≡ true → list_any (λ (c : CellSeen). is_between (rank c.lo) (rank c.hi) k) cs ≡ true
one_in [] k c at on = absurd (none c at)
one_in (d ∷ cs) k c at on = elim (cases d c cs at) [
  | inl is ↦ left (is_between (rank d.lo) (rank d.hi) k) (list_any (λ (z : CellSeen). is_between (rank z.lo) (rank z.hi) k) cs) (ap (λ (z : CellSeen). is_between (rank z.lo) (rank z.hi) k) (sym is) ∙ on)
  | inr more ↦ right (is_between (rank d.lo) (rank d.hi) k) (list_any (λ (z : CellSeen). is_between (rank z.lo) (rank z.hi) k) cs) (one_in cs k c more on)
]
  where
    left : (a b : Bool) → a ≡ true → (a || b) ≡ true
    left true b e = refl
    left false b e = absurd cc

    right : (a b : Bool) → b ≡ true → (a || b) ≡ true
    right true b e = refl
    right false b e = e
