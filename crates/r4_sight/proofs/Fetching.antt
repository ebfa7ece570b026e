-- What is known of a pool after a data block was asked for.
use Rattle.std.proofs.Common.{◌≡◌, ◌≢◌, ◌⊎◌, inl, inr, ℕ, ◌+◌, ◌<◌, ◌≤◌, true, List, [], ◌∷◌, ◌++◌, refl, sym, ap, subst, ◌∙◌, arith}
use Rattle.std.specs.Prelude.{Option, Some, None, Result, Ok, Err, IfOk, IfErr, All, Contains}
use Rattle.std.proofs.lemmas.List.Elements.{All-contains, Contains-push}
use Rattle.std.proofs.lemmas.Option.{same_Some}
use Rattle.r4_base.specs.Cell.{bytes_from}
use Rattle.r4_base.specs.Extents.{units_of}
use Rattle.r4_base.specs.Key.{least, rank, top}
use Rattle.r4_base.specs.Tree.{InName, Name}
use Rattle.r4_units.specs.r4_cell.Seen.{CellSeen, node_of}
use Rattle.r4_units.specs.r4_cell.declared.change.Root.{Root}
use Rattle.r4_content.specs.Seen.{pairs_in}
use Rattle.r4_units.specs.r4_search.Path.{Descends, EndsAt, Follows, IsPath, KnowsOn, MeetsOn, Stops, last_of}
use Rattle.r4_units.specs.r4_search.Pool.{Goes, IsAnswer, IsKeptOrRead, IsKnown, IsMet, IsNamed, IsOf, IsRead, IsRefused, PoolState}
use Rattle.r4_units.specs.r4_search.declared.pool.FetchFault.{FetchFault}
use Rattle.r4_units.specs.r4_search.declared.pool.FetchFault.TheVariants.{Read, Damaged, Memory}
use Rattle.r4_units.proofs.r4_search.Walks.{goes_both, goes_same, is_of_before, last_pushed, met_on}
use Rattle.r4_sight.specs.Parts.{AreFull, all_pairs}
use Rattle.r4_sight.specs.Stretches.{IsBlockOf, IsBorder, IsItOrOf, IsStretch, IsWaysEnd, Looks, MeetsBlock, StopsAt}
use Rattle.r4_sight.specs.declared.stretch.DataBlock.{DataBlock}
use Rattle.r4_sight.specs.declared.stretch.Stretch.{Stretch}
use Rattle.r4_sight.proofs.Stretching.{data_stretch}
use Rattle.r4_units.specs.Extent.{block_name}
use Rattle.r4_units.proofs.ExtentUnits.{extent_among, unit_among, unit_in}

-- ---- the name of a data block

abbrev pub asked_name : DataBlock → (hi : ℕ) → Name
asked_name found hi = record { id = found.unit.start; level = 0; lo = rank found.lo; hi = hi }

pub block_named : (twig : CellSeen) (key hi : ℕ) (found : DataBlock) → 1 ≤ twig.level → IsBlockOf twig key found → found.unit.start ≢ 0 → hi ≡ rank found.lo + 4096 → Contains (node_of twig).names (asked_name found hi)
block_named twig key hi found some b runs end =
    let k = rank b.item.key in
    let us = units_of b.item.body in
    let n = block_name found.unit.start (rank found.lo) in
    let named = extent_among twig b.place b.item some b.is b.extent n (unit_among k us b.at.block (rank found.lo) found.unit b.at.unit b.at.lo n (unit_in found.unit (rank found.lo) runs)) in
    subst (λ (h : ℕ). Contains (node_of twig).names (asked_name found h)) (sym end) named

pub has_key : (twig : CellSeen) (key hi : ℕ) (found : DataBlock) → IsBlockOf twig key found → hi ≡ rank found.lo + 4096 → InName (asked_name found hi) key
has_key twig key hi found b end = let low = b.at.from in let high = b.at.below in (low, omega (arith, high, end))

-- ---- why nothing was seen

pub refused_at : (key : ℕ) (n : Name) (old new : PoolState) (e : FetchFault) → InName n key → IsKnown new n → IsRefused n old e new → StopsAt key old e new
refused_at key n old new (Read at faults) has known refused = record { at = n; within = has; known = known; mid = old; goes = goes_same old; refused = refused }
refused_at key n old new (Damaged at fault) has known refused = record { at = n; within = has; known = known; mid = old; goes = goes_same old; refused = refused }
refused_at key n old new Memory has known refused = tt

-- after what went before
later_stops : (key : ℕ) (old mid new : PoolState) (e : FetchFault) → Goes old mid → StopsAt key mid e new → StopsAt key old e new
later_stops key old mid new (Read at faults) g s = record { at = s.at; within = s.within; known = s.known; mid = s.mid; goes = goes_both old mid s.mid g s.goes; refused = s.refused }
later_stops key old mid new (Damaged at fault) g s = record { at = s.at; within = s.within; known = s.known; mid = s.mid; goes = goes_both old mid s.mid g s.goes; refused = s.refused }
later_stops key old mid new Memory g s = tt

followed_has : (root : Root) (key : ℕ) (before : Option CellSeen) (n : Name) → least ≤ key → key < top → Follows root key before n → InName n key
followed_has root key None n low high f =
    let lo = ap (λ (m : Name). m.lo) f in
    let hi = ap (λ (m : Name). m.hi) f in
    (omega (arith, lo, low), omega (arith, hi, high))
followed_has root key (Some c) n low high f = f.within

pub way_stops : (root : Root) (key : ℕ) (old : PoolState) (e : FetchFault) (new : PoolState) → least ≤ key → key < top → Stops root key old e new → StopsAt key old e new
way_stops root key old (Read at faults) new low high s = refused_at key s.at old new (Read at faults) (followed_has root key (last_of None s.cells) s.at low high s.follows) s.known s.refused
way_stops root key old (Damaged at fault) new low high s = refused_at key s.at old new (Damaged at fault) (followed_has root key (last_of None s.cells) s.at low high s.follows) s.known s.refused
way_stops root key old Memory new low high s = tt

-- ---- what was met

pub meets_block : (key : ℕ) (old new : PoolState) (twig x : CellSeen) (n : Name) → Goes old new → IsMet old twig → Contains (node_of twig).names n → InName n key → IsNamed n x
    → ((i : ℕ) (c : CellSeen) → new.met i ≡ Some c → old.met i ≡ None → c ≡ x) → MeetsBlock key old new
meets_block key old new twig x n g met named has is only = λ i c h none. record {
  twig = twig;
  met = met_on old new twig g met;
  name = n;
  named = named;
  within = has;
  is = subst (λ (y : CellSeen). IsNamed n y) (sym (only i c h none)) is;
}

none_met : (p : PoolState) (i : ℕ) (c : CellSeen) → p.met i ≡ Some c → p.met i ≡ None → ⊥
none_met p i c h none = let e = sym h ∙ none in cc

pub looks_only : (root : Root) (key : ℕ) (old new : PoolState) → MeetsOn root key old new → Looks root key old new
looks_only root key old new way = record { mid = new; way = way; goes = goes_same new; block = λ i c h none. absurd (none_met new i c h none) }

-- ---- the block

pub block_stretch : (old new : PoolState) (here x : CellSeen) (n : Name) (found : DataBlock) (hi from to : ℕ) (s : Stretch) → n ≡ asked_name found hi → Goes old new → IsAnswer n old x new
    → (old.keeps n.level ≡ true → new.met n.id ≡ Some x) → from < rank s.to → rank s.to ≤ to → rank found.lo ≤ from → rank s.to ≤ hi
    → all_pairs s.parts.items ≡ pairs_in (bytes_from (rank found.lo) x.block) from (rank s.to) → AreFull s.parts.items → (rank s.to ≡ to) ⊎ (rank s.to ≡ hi) → IsStretch (IsItOrOf old here) new from to s
block_stretch old new here x n found hi from to s name g a met onward within low high pairs full far =
    let is = a.named in
    let level : x.level ≡ 0 = is.level ∙ ap (λ (m : Name). m.level) name in
    let lo : rank x.lo ≡ rank found.lo = is.lo ∙ ap (λ (m : Name). m.lo) name in
    let up : rank x.hi ≡ hi = is.hi ∙ ap (λ (m : Name). m.hi) name in
    record {
      cell = x;
      is = inr a.is_of;
      stands = a.stands;
      met = λ keeps. ap new.met is.id ∙ met (ap old.keeps (sym is.level) ∙ (sym (g.keeps x.level) ∙ keeps));
      of = data_stretch x from to s level onward within (omega (arith, lo, low)) (omega (arith, up, high))
          (pairs ∙ ap (λ (k : ℕ). pairs_in (bytes_from k x.block) from (rank s.to)) (sym lo)) full;
      far = by up far;
    }
  where
    by : rank x.hi ≡ hi → (rank s.to ≡ to) ⊎ (rank s.to ≡ hi) → (rank s.to ≡ to) ⊎ IsBorder x (rank s.to)
    by up (inl is) = inl is
    by up (inr is) = inr (inl (is ∙ sym up))

-- ---- the cell at which the way ends

stretch_before : (old mid new : PoolState) (here : CellSeen) (from to : ℕ) (s : Stretch) → Goes old mid → IsOf old here → IsStretch (IsItOrOf mid here) new from to s → IsStretch (IsOf old) new from to s
stretch_before old mid new here from to s g is h = record {
  cell = h.cell;
  is = by h.is;
  stands = h.stands;
  met = h.met;
  of = h.of;
  far = h.far;
}
  where
    by : IsItOrOf mid here h.cell → IsOf old h.cell
    by (inl e) = subst (λ (c : CellSeen). IsOf old c) (sym e) is
    by (inr e) = is_of_before old mid h.cell g e

pub ok_before : (old mid new : PoolState) (here : CellSeen) (from to : ℕ) (r : Result Stretch FetchFault) → Goes old mid → IsOf old here → IfOk r (IsStretch (IsItOrOf mid here) new from to) → IfOk r (IsStretch (IsOf old) new from to)
ok_before old mid new here from to (Ok s) g is h = stretch_before old mid new here from to s g is h
ok_before old mid new here from to (Err e) g is h = tt

pub err_before : (key : ℕ) (old mid new : PoolState) (r : Result Stretch FetchFault) → Goes old mid → IfErr r (λ e. StopsAt key mid e new) → IfErr r (λ e. StopsAt key old e new)
err_before key old mid new (Ok s) g h = tt
err_before key old mid new (Err e) g h = later_stops key old mid new e g h

record Inside (c : CellSeen) (key : ℕ) : Type 0 where
  level : 1 ≤ c.level
  from : rank c.lo ≤ key
  below : key < rank c.hi

module _ (root : Root) (key : ℕ) (some : 1 ≤ root.height) (low : least ≤ key) (high : key < top) where
  level_named : (before : Option CellSeen) (n : Name) → Follows root key before n → 1 ≤ n.level
  level_named None n f = let height = ap (λ (m : Name). m.level) f in omega (arith, height, some)
  level_named (Some c) n f = f.node

  inside_named : (before : Option CellSeen) (n : Name) (c : CellSeen) → Follows root key before n → IsNamed n c → Inside c key
  inside_named before n c f is =
      let has = followed_has root key before n low high f in
      let node = level_named before n f in
      let level = is.level in
      let lo = is.lo in
      let hi = is.hi in
      let from = has.0 in
      let below = has.1 in
      record { level = omega (arith, level, node); from = omega (arith, lo, from); below = omega (arith, hi, below) }

  inside_last : (before : Option CellSeen) (cells : List CellSeen) (c : CellSeen) → Descends root key before cells → ((x : CellSeen) → before ≡ Some x → Inside x key) → last_of before cells ≡ Some c → Inside c key
  inside_last before [] c d h e = h c e
  inside_last before (x ∷ cells) c d h e =
      let (n, f, is) = d.0 in
      inside_last (Some x) cells c d.1 (λ y s. subst (λ (z : CellSeen). Inside z key) (same_Some x y s) (inside_named before n x f is)) e

pub ways_end : (root : Root) (key : ℕ) (mid : PoolState) (cells rest : List CellSeen) (c : CellSeen) → cells ≡ rest ++ c ∷ [] → 1 ≤ root.height → least ≤ key → key < top → IsPath root key cells → KnowsOn mid cells → All (IsMet mid) cells
    → IsWaysEnd mid key c
ways_end root key mid cells rest c is some low high path knows met =
    let last : last_of None cells ≡ Some c = subst (λ (xs : List CellSeen). last_of None xs ≡ Some c) (sym is) (last_pushed None rest c) in
    let inside = inside_last root key some low high None cells c path.descends (λ x e. absurd cc) last in
    record {
      level = inside.level;
      from = inside.from;
      below = inside.below;
      ends = subst (λ (x : CellSeen). EndsAt x key) (same_Some path.end c (sym path.is_last ∙ last)) path.ends;
      knows = knows c last;
      met = All-contains (IsMet mid) cells c met (subst (λ (xs : List CellSeen). Contains xs c) (sym is) (Contains-push rest c));
    }

pub end_of_pool : (p : PoolState) (cells rest : List CellSeen) (c : CellSeen) → cells ≡ rest ++ c ∷ [] → All (IsOf p) cells → IsOf p c
end_of_pool p cells rest c is all = All-contains (IsOf p) cells c all (subst (λ (xs : List CellSeen). Contains xs c) (sym is) (Contains-push rest c))

pub no_path : (root : Root) (key : ℕ) (cells : List CellSeen) → cells ≡ [] → IsPath root key cells → ⊥
no_path root key cells e p = none p.end (sym (ap (last_of None) e) ∙ p.is_last)
  where
    none : (c : CellSeen) → None ≡ Some c → ⊥
    none c h = cc
