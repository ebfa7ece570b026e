-- How the cells that were met hang together.
use Rattle.std.proofs.Common.{◌≡◌, ◌⊎◌, inl, inr, ℕ, ◌<◌, ◌≤◌, true, List, [], ◌∷◌, refl, sym, ap, subst, ◌∙◌}
use Rattle.std.specs.Prelude.{All, Contains, Option, Some, None}
use Rattle.std.specs.Option.{option_map}
use Rattle.std.proofs.lemmas.List.Elements.{All-head, All-tail}
use Rattle.std.proofs.lemmas.Option.{same_Some}
use Rattle.r4_base.specs.Key.{least, rank, top}
use Rattle.r4_base.specs.Tree.{InName, Name, Node, Store}
use Rattle.r4_base.specs.Value.{Value}
use Rattle.r4_patch.proofs.Members.{cases, none}
use Rattle.r4_cell.specs.Seen.{CellSeen, node_of}
use Rattle.r4_cell.specs.declared.change.Root.{Root}
use Rattle.r4_content.specs.Edited.{Intervals, Pairs}
use Rattle.r4_search.specs.Path.{Descends, Follows, MeetsOn, root_name}
use Rattle.r4_search.specs.Pool.{Goes, IsMet, IsNamed, PoolState}
use Rattle.r4_sight.specs.Stretches.{Looks}
use Rattle.r4_seeing.specs.Looking.{AreFound, AreHung, IsFoundAt, IsNamedByMet, met_cells}

-- a key of a name is one of the cell that has the name
named_has : (n : Name) (c : CellSeen) (key : ℕ) → InName n key → IsNamed n c → (rank c.lo ≤ key) × (key < rank c.hi)
named_has n c key (low, high) is =
    (subst (λ (lo : ℕ). lo ≤ key) (sym is.lo) low, subst (λ (hi : ℕ). key < hi) (sym is.hi) high)

-- all cells on a way down to a key have it
descended_has : (root : Root) (key : ℕ) → least ≤ key → key < top → (before : Option CellSeen) (cells : List CellSeen)
    → Descends root key before cells → (c : CellSeen) → Contains cells c → (rank c.lo ≤ key) × (key < rank c.hi)
descended_has root key low high before [] d c at = absurd (none c at)
descended_has root key low high before (x ∷ cells) d c at = elim (cases x c cells at) [
  | inl same ↦ subst (λ (y : CellSeen). (rank y.lo ≤ key) × (key < rank y.hi)) (sym same) (first before d.0)
  | inr more ↦ descended_has root key low high (Some x) cells d.1 c more
]
  where
    first : (b : Option CellSeen) → ((n : Name) × Follows root key b n × IsNamed n x)
        → (rank x.lo ≤ key) × (key < rank x.hi)
    first None (n, f, is) = named_has n x key (subst (λ (m : Name). InName m key) (sym f) (low, high)) is
    first (Some b) (n, f, is) = named_has n x key f.within is

abbrev IsHung : PoolState → Root → CellSeen → Type 0
IsHung p root c = IsNamed (root_name root) c ⊎ IsNamedByMet p c

-- cells that were met stay
named_still : (old new : PoolState) (root : Root) (c : CellSeen) → Goes old new → IsHung old root c → IsHung new root c
named_still old new root c g (inl is) = inl is
named_still old new root c g (inr h) = inr
    (record { up = h.up; met = g.met h.up.id h.up h.met; name = h.name; named = h.named; is = h.is })

module _ (root : Root) (key : ℕ) (mid : PoolState) (keeps : (level : ℕ) → mid.keeps level ≡ true) where
  -- of cells that lead down from the root, all met, each is the root's or another one names it
  descended : (before : Option CellSeen) (cells : List CellSeen)
      → ((b : CellSeen) → before ≡ Some b → mid.met b.id ≡ Some b) → Descends root key before cells
      → All (IsMet mid) cells → (c : CellSeen) → Contains cells c → IsHung mid root c
  descended before [] up d met c at = absurd (none c at)
  descended before (x ∷ cells) up d met c at = elim (cases x c cells at) [
    | inl same ↦ subst (λ (y : CellSeen). IsHung mid root y) (sym same) (first before up d.0)
    | inr more ↦ descended (Some x) cells
        (λ b is. subst (λ (y : CellSeen). mid.met y.id ≡ Some y) (same_Some x b is)
        (met_here x (All-head (IsMet mid) x cells met))) d.1 (All-tail (IsMet mid) x cells met) c more
  ]
    where
      met_here : (y : CellSeen) → IsMet mid y → mid.met y.id ≡ Some y
      met_here y h = h (keeps y.level)

      first : (b : Option CellSeen) → ((y : CellSeen) → b ≡ Some y → mid.met y.id ≡ Some y)
          → ((n : Name) × Follows root key b n × IsNamed n x) → IsHung mid root x
      first None up (n, f, is) = inl (subst (λ (m : Name). IsNamed m x) f is)
      first (Some b) up (n, f, is) = inr (record { up = b; met = up b refl; name = n; named = f.named; is = is })

module _ (root : Root) (key : ℕ) (old new : PoolState) (keeps : (level : ℕ) → old.keeps level ≡ true) (g : Goes old new)
    (l : Looks root key old new) where
  mid_keeps : (keep : (level : ℕ) → new.keeps level ≡ true) (level : ℕ) → l.mid.keeps level ≡ true
  mid_keeps keep level = sym (l.goes.keeps level) ∙ keep level

  new_keeps : (level : ℕ) → new.keeps level ≡ true
  new_keeps level = g.keeps level ∙ keeps level

  pub still_hung : AreHung old root → AreHung new root
  still_hung h = record {
    numbers = λ i c is. number i c is (old.met i) refl;
    hung = λ i c is. by i c is (old.met i) (l.mid.met i) refl refl;
  }
    where
      number : (i : ℕ) (c : CellSeen) → new.met i ≡ Some c → (o : Option CellSeen) → old.met i ≡ o → c.id ≡ i
      number i c is (Some x) was = h.numbers i c (was ∙ (sym (g.met i x was) ∙ is))
      number i c is None was = g.added_met i c is was

      by : (i : ℕ) (c : CellSeen) → new.met i ≡ Some c → (o m : Option CellSeen) → old.met i ≡ o → l.mid.met i ≡ m
          → IsHung new root c
      by i c is (Some x) m was then = named_still old new root c g (h.hung i c (was ∙ (sym (g.met i x was) ∙ is)))
      by i c is None (Some y) was then =
          let same : y ≡ c = same_Some y c (sym (l.goes.met i y then) ∙ is) in
          named_still l.mid new root c l.goes
          (descended root key l.mid (mid_keeps new_keeps) None l.way.cells
          (λ b no_one. absurd cc) l.way.descends l.way.meets.met c
          (l.way.meets.only i c (then ∙ ap (λ (z : CellSeen). Some z) same) was))
      by i c is None None was then =
          let b = l.block i c is then in
          inr (record { up = b.twig; met = b.met (new_keeps b.twig.level); name = b.name; named = b.named; is = b.is })

  -- each cell that was met as the key was looked at has it
  pub met_for : least ≤ key → key < top → (i : ℕ) (c : CellSeen) → new.met i ≡ Some c → old.met i ≡ None
      → (rank c.lo ≤ key) × (key < rank c.hi)
  met_for low high i c is was = by (l.mid.met i) refl
    where
      by : (m : Option CellSeen) → l.mid.met i ≡ m → (rank c.lo ≤ key) × (key < rank c.hi)
      by (Some y) then =
          let same : y ≡ c = same_Some y c (sym (l.goes.met i y then) ∙ is) in
          descended_has root key low high None l.way.cells l.way.descends c
          (l.way.meets.only i c (then ∙ ap (λ (z : CellSeen). Some z) same) was)
      by None then = let b = l.block i c is then in named_has b.name c key b.within b.is

  -- what was found in cells that were met is found there still
  pub still_found : (known : Intervals) (s : Pairs) → AreFound (met_cells old) known s
      → AreFound (met_cells new) known s
  still_found known s f = record {
    rises = f.rises;
    within = f.within;
    found = λ k is. moved k (f.found k is);
    only = f.only;
  }
    where
      moved : (k : ℕ) {o : Option Value} → IsFoundAt (met_cells old) k o → IsFoundAt (met_cells new) k o
      moved k h = record { id = h.id; cell = h.cell; is = stays (old.met h.id) refl h.is; holds = h.holds; has = h.has }
        where
          stays : (o : Option CellSeen) → old.met h.id ≡ o → option_map node_of (old.met h.id) ≡ Some h.cell
              → option_map node_of (new.met h.id) ≡ Some h.cell
          stays (Some c) was is = ap (option_map node_of) (g.met h.id c was) ∙ (sym (ap (option_map node_of) was) ∙ is)
          stays None was is = absurd (let none = sym (ap (option_map node_of) was) ∙ is in cc)
