-- The cells that were met, as a list: a part of a tree, in order.
use Rattle.std.proofs.Common.{◌≡◌, inl, inr, ℕ, ◌^◌, ◌<◌, ◌≤◌, List, length, get_or, refl, sym, ap, subst, ◌∙◌, arith}
use Rattle.std.specs.Prelude.{Option, Some, None}
use Rattle.std.specs.Option.{option_map}
use Rattle.std.proofs.lemmas.List.Elements.{Contains-get_or}
use Rattle.std.proofs.lemmas.Option.{get_or_from_slice_get, none-some, slice_get_within}
use Rattle.r4_base.specs.Key.{rank, top}
use Rattle.r4_cell.specs.Patch.{by_name, root_of_pair}
use Rattle.r4_cell.specs.Seen.{CellSeen, node_of}
use Rattle.r4_cell.specs.declared.change.Root.{Root as RootPair}
use Rattle.r4_judging.specs.Judging.{HangTogether}
use Rattle.r4_judging.specs.r4_marking.Marks.{AreLevels, AreMet}
use Rattle.r4_touching.specs.r4_patch.Part.{IsPart}
use Rattle.r4_touching.proofs.r4_patch.Members.{absent, distinct, there}
use Rattle.r4_touching.proofs.r4_path.Rising.{lo_is}
use Rattle.r4_search.specs.Pool.{PoolState}
use Rattle.r4_touching.specs.r4_seeing.Looking.{AreHung, met_cells}
use Rattle.r4_spared.specs.r4_work.Order.{AreInOrder, place, place_of}
use Rattle.r4_spared.proofs.r4_work.Places.{top_small}
use Rattle.r4_reaching.specs.Gathering.{AreAllMet, IsOneMet}

pub same_store : (p : PoolState) (root : RootPair) (cells : List CellSeen) → AreHung p root → AreAllMet p.met cells
    → (i : ℕ) → by_name cells i ≡ met_cells p i
same_store p root cells h a i = of_met (p.met i) refl
  where
    of_met : (o : Option CellSeen) → p.met i ≡ o → by_name cells i ≡ option_map node_of (p.met i)
    of_met (Some c) was =
        let number = h.numbers i c was in
        let among = (a.are c).1 (subst (λ j. p.met j ≡ Some c) (sym number) was) in
        subst (λ j. by_name cells j ≡ Some (node_of c)) number (there cells c (distinct cells a.names) among)
        ∙ sym (ap (option_map node_of) was)
    of_met None was =
        absent cells i (λ x at is. none-some x (sym was ∙ subst (λ j. p.met j ≡ Some x) is ((a.are x).0 at)))
        ∙ sym (ap (option_map node_of) was)

pub hangs_together : (p : PoolState) (root : RootPair) (cells : List CellSeen) (some : CellSeen) → AreHung p root
    → AreAllMet p.met cells → 2 ≤ root.height → p.met some.id ≡ Some some → HangTogether root cells
hangs_together p root cells some h a high met = record {
  height = high;
  names = a.names;
  some = some;
  one = (a.are some).1 met;
  hung = λ c at. elim (h.hung c.id c ((a.are c).0 at)) [
    | inl top ↦ inl top
    | inr named ↦ inr (record {
      up = named.up;
      above = (a.are named.up).1 named.met;
      name = named.name;
      named = named.named;
      is = named.is;
    })
  ];
}

-- the levels rise with the places
level_rises : (l m a b : ℕ) → b < 2 ^ 256 → place_of l a ≤ place_of m b → l ≤ m
unfolding place_of
level_rises l m a b small h = omega (arith, small, h)

pub as_marked : (p : PoolState) (root : RootPair) (cells : List CellSeen) → AreAllMet p.met cells → AreInOrder cells
    → IsPart (by_name cells) (root_of_pair root) → AreMet cells (root_of_pair root)
as_marked p root cells a order part = record { names = a.names; part = part; levels = levels }
  where
    small : (j : ℕ) (d : CellSeen) → j < length cells → rank (get_or cells j d).lo < 2 ^ 256
    small j d lt =
        let e = get_or cells j d in
        let n = part.nodes e.id (node_of e) (there cells e (distinct cells a.names) (Contains-get_or cells j d lt)) in
        let some = n.nonempty in
        let last = n.to_top in
        let lo = lo_is e in
        top_small (rank e.lo) (omega (arith, some, last, lo))

    levels : AreLevels cells
    levels i j c d at other less =
        let within = slice_get_within cells j d other in
        let rises = order i j d (omega (arith, less)) within in
        let first = get_or_from_slice_get cells i c d at in
        let last = get_or_from_slice_get cells j d d other in
        level_rises c.level d.level (rank c.lo) (rank d.lo) (subst (λ e. rank e.lo < 2 ^ 256) last (small j d within))
        (subst (λ e. place c ≤ place e) last (subst (λ e. place e ≤ place (get_or cells j d)) first rises))

pub hang_as_met : (p : PoolState) (root : RootPair) (cells : List CellSeen) → AreHung p root → AreAllMet p.met cells
    → 2 ≤ root.height → IsOneMet p → HangTogether root cells
hang_as_met p root cells h a high (i, c, met) =
    hangs_together p root cells c h a high (subst (λ j. p.met j ≡ Some c) (sym (h.numbers i c met)) met)
