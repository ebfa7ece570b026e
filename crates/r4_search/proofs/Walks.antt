-- A walk down from the root: what is known of the cells so far and of the pool, and how it goes on.
use Rattle.std.proofs.Common.{◌≡◌, inl, inr, ⊎_elim, ℕ, zero, suc, ◌+◌, ◌<◌, ◌≤◌, true, false, List, [], ◌∷◌, ◌++◌, map, refl, sym, ap, subst, ◌∙◌, arith}
use Rattle.std.specs.Result.{IsErrAnd}
use Rattle.std.specs.Prelude.{Option, Some, None, IsSome, IfSome, IfNone, Result, Ok, Err, IfErr, Contains, All, ◌==◌, if◌then◌else◌}
use Rattle.std.specs.Option.{option_map}
use Rattle.std.proofs.lemmas.Bool.{eqb-true, ne_eqb}
use Rattle.std.proofs.lemmas.Option.{same_Some}
use Rattle.std.proofs.lemmas.List.{map-append}
use Rattle.std.proofs.lemmas.List.Elements.{All-cons, All-nil, All-push, All-weaker, Contains-append_left, Contains-append_right, Contains-push, Contains-push_cases}
use Rattle.r4_base.specs.Key.{rank, least, top}
use Rattle.r4_base.specs.Cell.{cell_fault}
use Rattle.r4_base.specs.Node.{level_of, node_fault}
use Rattle.r4_base.specs.Tree.{Name, InName}
use Rattle.r4_base.specs.declared.items.CellFault.{CellFault}
use Rattle.r4_base.specs.declared.items.CellFault.TheVariants.{Level, Node}
use Rattle.r4_base.proofs.Choices.{chosen, nothing_in, or_none}
use Rattle.r4_outside.specs.Device.{State}
use Rattle.r4_outside.proofs.Moments.{goes_both as device_both, goes_same as device_same}
use Rattle.r4_cell.specs.Seen.{CellSeen, node_of}
use Rattle.r4_cell.specs.declared.change.Root.{Root}
use Rattle.r4_search.specs.Pool.{PoolState, HangsTogether, IsFrom, IsKnown, IsMet, IsNamed, IsNamedFrom, IsOf, IsRead, IsKeptOrRead, IsAnswer, IsRefused, KnowsNames, LeavesDevice, FaultIs, StandsInMemory, place_fault, Goes}
use Rattle.r4_search.specs.Path.{Follows, Descends, LeadsTo, EndsAt, IsPath, KeepsOnly, KnowsOn, Meets, MeetsOn, StopsOn, StopsShort, Stops, last_of, root_name}
use Rattle.r4_search.specs.Place.{child_name}
use Rattle.r4_search.specs.declared.inside.Child.{Child}
use Rattle.r4_search.specs.declared.pool.FetchFault.{FetchFault}
use Rattle.r4_search.specs.declared.pool.FetchFault.TheVariants.{Read, Damaged, Memory}
use Rattle.r4_search.proofs.Places.{none_of_node}

-- what comes next, if anything does
abbrev pub GoesOn : Root → (key : ℕ) → PoolState → (before : Option CellSeen) → Option Name → Type 0
GoesOn root key mid before (Some n) = Follows root key before n × IsKnown mid n × (1 ≤ n.level) × InName n key
GoesOn root key mid before None = (c : CellSeen) × (before ≡ Some c) × EndsAt c key × KnowsNames mid c

-- the level of what comes next
abbrev pub left : Option Name → ℕ
left (Some n) = n.level
left None = 0

pub record Reached (root : Root) (key : ℕ) (old mid : PoolState) (cells : List CellSeen) (next : Option Name) : Type 0 where
  pub goes : Goes old mid
  pub descends : Descends root key None cells
  pub are_of : All (IsOf old) cells
  pub only : KeepsOnly old mid cells
  pub meets : Meets old mid cells
  pub above : (c : CellSeen) → Contains cells c → left next < c.level
  pub on : GoesOn root key mid (last_of None cells) next

-- the same, and nothing_in was written to the device
pub record Walking (root : Root) (key : ℕ) (old mid : PoolState) (cells : List CellSeen) (next : Option Name) (before now : State) : Type 0 where
  pub walk : Reached root key old mid cells next
  pub device : LeavesDevice before now

module _ (a b c : State) (f : LeavesDevice a b) (g : LeavesDevice b c) where
  pub leaves_both : LeavesDevice a c
  leaves_both = record {
    goes = device_both a b c f.goes g.goes;
    idle = record { seen = g.idle.seen ∙ f.idle.seen; clock = g.idle.clock ∙ f.idle.clock };
  }

pub leaves_same : (d : State) → LeavesDevice d d
leaves_same d = record { goes = device_same d; idle = record { seen = refl; clock = refl } }

-- ---- lists of cells

descends_more : (root : Root) (key : ℕ) (before : Option CellSeen) (cells : List CellSeen) (c : CellSeen) (n : Name) → Descends root key before cells → Follows root key (last_of before cells) n → IsNamed n c → Descends root key before (cells ++ c ∷ [])
descends_more root key before [] c n d f is = ((n, f, is), tt)
descends_more root key before (x ∷ cells) c n d f is = (d.0, descends_more root key (Some x) cells c n d.1 f is)

last_more : (before : Option CellSeen) (cells : List CellSeen) (c : CellSeen) → last_of before (cells ++ c ∷ []) ≡ Some c
last_more before [] c = refl
last_more before (x ∷ cells) c = last_more (Some x) cells c

-- ---- states of the pool

pub goes_same : (p : PoolState) → Goes p p
goes_same p = record {
  root = refl;
  blocks = refl;
  faults = omega arith;
  meant = λ i. refl;
  kept = λ i c h. h;
  added = λ i c h none. absurd cc;
  known = λ n h. h;
  hangs = λ h. h;
  met = λ i c h. h;
  added_met = λ i c h none. absurd cc;
  keeps = λ l. refl;
}

-- cells of one kind are cells of another
pub named_more : (root : Name) (P Q : CellSeen → Type 0) (n : Name) → ((c : CellSeen) → P c → Q c) → IsNamedFrom root P n → IsNamedFrom root Q n
named_more root P Q n more h = record { cells = h.cells; all = All-weaker P Q more h.cells h.all; lead = h.lead }

-- what a cell names that is named itself
pub named_below : (root : Name) (P : CellSeen → Type 0) (n m : Name) (c : CellSeen) → IsNamedFrom root P n → IsNamed n c → P c → Contains (node_of c).names m → IsNamedFrom root P m
named_below root P n m c h is p has = record { cells = c ∷ h.cells; all = All-cons P c h.cells p h.all; lead = (has, (n, is, h.lead)) }

-- ---- a pool that keeps more

module _ (a b : PoolState) (root : b.root ≡ a.root) (blocks : b.blocks ≡ a.blocks) (meant : (i : ℕ) → b.meant i ≡ a.meant i) (kept : (i : ℕ) (c : CellSeen) → a.kept i ≡ Some c → b.kept i ≡ Some c) where
  pub from_on : (c : CellSeen) → IsFrom a c → IsFrom b c
  from_on c (inl is) = inl (kept c.id c is)
  from_on c (inr read) = inr (subst (λ (n : ℕ). IsRead n (b.meant c.id) c) (sym blocks) (subst (λ (m : Option (List ℕ)). IsRead a.blocks m c) (sym (meant c.id)) read))

  pub named_on : (n : Name) → IsNamedFrom a.root (IsFrom a) n → IsNamedFrom b.root (IsFrom b) n
  named_on n h = subst (λ (r : Name). IsNamedFrom r (IsFrom b) n) (sym root) (named_more a.root (IsFrom a) (IsFrom b) n from_on h)

  stands_on : (n : Name) (o : Option CellSeen) → a.kept n.id ≡ o → IsSome o → IsSome (b.kept n.id)
  stands_on n (Some c) e some = subst (λ (x : Option CellSeen). IsSome x) (sym (kept n.id c e)) some
  stands_on n None e some = absurd cc

  pub known_on : (n : Name) → IsKnown a n → IsKnown b n
  known_on n h = record { stands = ⊎_elim (λ some. inl (stands_on n (a.kept n.id) refl some)) (λ below. inr (omega (arith, below, blocks))) h.stands; named = named_on n h.named }

  pub hangs_on : ((i : ℕ) (c : CellSeen) → b.kept i ≡ Some c → a.kept i ≡ None → (n : Name) × IsNamed n c × IsNamedFrom a.root (IsFrom a) n) → HangsTogether a → HangsTogether b
  hangs_on added hangs i c is = by (a.kept i) refl
    where
      by : (o : Option CellSeen) → a.kept i ≡ o → (n : Name) × IsNamed n c × IsNamedFrom b.root (IsFrom b) n
      by None none = let (n, named, from) = added i c is none in (n, named, named_on n from)
      by (Some k) some =
          let same : k ≡ c = same_Some k c (sym (kept i k some) ∙ is) in
          let (n, named, from) = hangs i c (some ∙ ap Some same) in
          (n, named, named_on n from)

module _ (a b c : PoolState) (f : Goes a b) (g : Goes b c) where
  added_both : (i : ℕ) (k : CellSeen) → c.kept i ≡ Some k → a.kept i ≡ None → (o : Option CellSeen) → b.kept i ≡ o → (k.id ≡ i) × IsRead a.blocks (a.meant i) k
  added_both i k h none None e =
      let r = g.added i k h e in
      (r.0, subst (λ (n : ℕ). IsRead n (a.meant i) k) f.blocks (subst (λ (m : Option (List ℕ)). IsRead b.blocks m k) (f.meant i) r.1))
  added_both i k h none (Some x) e =
      let same : x ≡ k = same_Some x k (sym (g.kept i x e) ∙ h) in
      subst (λ (y : CellSeen). (y.id ≡ i) × IsRead a.blocks (a.meant i) y) same (f.added i x e none)

  added_met_both : (i : ℕ) (k : CellSeen) → c.met i ≡ Some k → a.met i ≡ None → (o : Option CellSeen) → b.met i ≡ o → k.id ≡ i
  added_met_both i k h none None e = g.added_met i k h e
  added_met_both i k h none (Some x) e =
      let same : x ≡ k = same_Some x k (sym (g.met i x e) ∙ h) in
      subst (λ (y : CellSeen). y.id ≡ i) same (f.added_met i x e none)

  pub goes_both : Goes a c
  goes_both =
      let x = f.faults in
      let y = g.faults in
      record {
        root = g.root ∙ f.root;
        blocks = g.blocks ∙ f.blocks;
        faults = omega (arith, x, y);
        meant = λ i. g.meant i ∙ f.meant i;
        kept = λ i k h. g.kept i k (f.kept i k h);
        added = λ i k h none. added_both i k h none (b.kept i) refl;
        known = λ n h. g.known n (f.known n h);
        hangs = λ h. g.hangs (f.hangs h);
        met = λ i k h. g.met i k (f.met i k h);
        added_met = λ i k h none. added_met_both i k h none (b.met i) refl;
        keeps = λ l. g.keeps l ∙ f.keeps l;
      }

of_before : (old mid : PoolState) (c : CellSeen) → Goes old mid → (o m : Option CellSeen) → old.kept c.id ≡ o → mid.kept c.id ≡ m → IsKeptOrRead mid.blocks m (mid.meant c.id) c → IsKeptOrRead old.blocks o (old.meant c.id) c
of_before old mid c g (Some k) None e d h = absurd (no_cell k (sym (g.kept c.id k e) ∙ d))
  where
    no_cell : (k : CellSeen) → Some k ≡ None → ⊥
    no_cell k h = cc
of_before old mid c g (Some k) (Some j) e d h = h ∙ same_Some j k (sym d ∙ g.kept c.id k e)
of_before old mid c g None None e d h = subst (λ (n : ℕ). IsRead n (old.meant c.id) c) g.blocks (subst (λ (m : Option (List ℕ)). IsRead mid.blocks m c) (g.meant c.id) h)
of_before old mid c g None (Some j) e d h = subst (λ (y : CellSeen). IsRead old.blocks (old.meant c.id) y) (sym h) (g.added c.id j d e).1

pub is_of_before : (old mid : PoolState) (c : CellSeen) → Goes old mid → IsOf mid c → IsOf old c
is_of_before old mid c g h = of_before old mid c g (old.kept c.id) (mid.kept c.id) refl refl h

-- ---- what was met

pub met_on : (old new : PoolState) (c : CellSeen) → Goes old new → IsMet old c → IsMet new c
met_on old new c g h keeps = g.met c.id c (h (sym (g.keeps c.level) ∙ keeps))

none_met : (p : PoolState) (i : ℕ) (c : CellSeen) → p.met i ≡ Some c → p.met i ≡ None → ⊥
none_met p i c h none = let e = sym h ∙ none in cc

-- nothing more was met
pub meets_still : (old mid new : PoolState) (cells : List CellSeen) → Meets old mid cells → Goes mid new
    → ((i : ℕ) (c : CellSeen) → new.met i ≡ Some c → mid.met i ≡ None → ⊥) → Meets old new cells
meets_still old mid new cells m g none = record {
  met = All-weaker (IsMet mid) (IsMet new) (λ c h. met_on mid new c g h) cells m.met;
  stand = m.stand;
  only = λ i c h was. by i c h was (mid.met i) refl;
}
  where
    by : (i : ℕ) (c : CellSeen) → new.met i ≡ Some c → old.met i ≡ None → (o : Option CellSeen) → mid.met i ≡ o → Contains cells c
    by i c h was None e = absurd (none i c h e)
    by i c h was (Some k) e =
        let same : k ≡ c = same_Some k c (sym (g.met i k e) ∙ h) in
        subst (λ (x : CellSeen). Contains cells x) same (m.only i k e was)

-- one more cell was answered
pub meets_more : (old mid new : PoolState) (cells : List CellSeen) (n : Name) (x : CellSeen) → Meets old mid cells → Goes mid new
    → ((i : ℕ) (c : CellSeen) → new.met i ≡ Some c → mid.met i ≡ None → c ≡ x)
    → (mid.keeps n.level ≡ true → new.met n.id ≡ Some x) → IsNamed n x → StandsInMemory x → Meets old new (cells ++ x ∷ [])
meets_more old mid new cells n x m g only met is stands = record {
  met = All-push (IsMet new) cells x (All-weaker (IsMet mid) (IsMet new) (λ c h. met_on mid new c g h) cells m.met) here;
  stand = All-push StandsInMemory cells x m.stand stands;
  only = λ i c h was. by i c h was (mid.met i) refl;
}
  where
    here : IsMet new x
    here keeps = ap new.met is.id ∙ met (ap mid.keeps (sym is.level) ∙ (sym (g.keeps x.level) ∙ keeps))

    by : (i : ℕ) (c : CellSeen) → new.met i ≡ Some c → old.met i ≡ None → (o : Option CellSeen) → mid.met i ≡ o → Contains (cells ++ x ∷ []) c
    by i c h was None e = subst (λ (y : CellSeen). Contains (cells ++ x ∷ []) y) (sym (only i c h e)) (Contains-push cells x)
    by i c h was (Some k) e =
        let same : k ≡ c = same_Some k c (sym (g.met i k e) ∙ h) in
        subst (λ (y : CellSeen). Contains (cells ++ x ∷ []) y) same (Contains-append_left cells (x ∷ []) k (m.only i k e was))

-- ---- the walk

pub begun : (root : Root) (key : ℕ) (p : PoolState) (next : Name) → next ≡ root_name root → IsKnown p (root_name root) → 2 ≤ root.height → least ≤ key → key < top → Reached root key p p [] (Some next)
begun root key p next is known high from below =
    let on : GoesOn root key p None (Some (root_name root)) = (refl, known, omega (arith, high), (from, below)) in
    record {
      goes = goes_same p;
      descends = tt;
      are_of = All-nil (IsOf p);
      only = λ i k h none. absurd (some_none k (sym h ∙ none));
      meets = record {
        met = All-nil (IsMet p);
        stand = All-nil StandsInMemory;
        only = λ i k h none. absurd (some_none k (sym h ∙ none));
      };
      above = λ c h. absurd (nothing_in c h);
      on = subst (λ (n : Name). GoesOn root key p None (Some n)) (sym is) on;
    }
  where
    some_none : (k : CellSeen) → Some k ≡ None → ⊥
    some_none k h = cc

module _ (root : Root) (key : ℕ) (old mid new : PoolState) (cells : List CellSeen) (n : Name) (c : CellSeen) (r : Reached root key old mid cells (Some n)) (goes : Goes mid new)
    (only : (i : ℕ) (k : CellSeen) → new.kept i ≡ Some k → mid.kept i ≡ None → k ≡ c)
    (only_met : (i : ℕ) (k : CellSeen) → new.met i ≡ Some k → mid.met i ≡ None → k ≡ c)
    (met : mid.keeps n.level ≡ true → new.met n.id ≡ Some c) (answer : IsAnswer n mid c new) where
  pub meets_here : Meets old new (cells ++ c ∷ [])
  meets_here = meets_more old mid new cells n c r.meets goes only_met met answer.named answer.stands

  -- also where no memory is found for it
  pub meets_short : MeetsOn root key old new
  meets_short = record {
    cells = cells ++ c ∷ [];
    descends = descends_more root key None cells c n r.descends r.on.0 answer.named;
    meets = meets_here;
  }

  only_more : (i : ℕ) (k : CellSeen) → new.kept i ≡ Some k → old.kept i ≡ None → (o : Option CellSeen) → mid.kept i ≡ o → Contains (cells ++ c ∷ []) k
  only_more i k h none None e = subst (λ (x : CellSeen). Contains (cells ++ c ∷ []) x) (sym (only i k h e)) (Contains-push cells c)
  only_more i k h none (Some x) e =
      let same : x ≡ k = same_Some x k (sym (goes.kept i x e) ∙ h) in
      subst (λ (y : CellSeen). Contains (cells ++ c ∷ []) y) same (Contains-append_left cells (c ∷ []) x (r.only i x e none))

  above_more : (next : Option Name) → left next < c.level → (x : CellSeen) → Contains (cells ++ c ∷ []) x → left next < x.level
  above_more next low x h = elim (Contains-push_cases cells c x h) [
    | inl at ↦ let above : n.level < x.level = r.above x at in let level = answer.named.level in omega (arith, above, level, low)
    | inr is ↦ subst (λ (y : CellSeen). left next < y.level) is low
  ]

  more : (next : Option Name) → left next < c.level → GoesOn root key new (Some c) next → Reached root key old new (cells ++ c ∷ []) next
  more next low on = record {
    goes = goes_both old mid new r.goes goes;
    descends = descends_more root key None cells c n r.descends r.on.0 answer.named;
    are_of = All-push (IsOf old) cells c r.are_of (is_of_before old mid c r.goes answer.is_of);
    only = λ i k h none. only_more i k h none (mid.kept i) refl;
    meets = meets_here;
    above = above_more next low;
    on = subst (λ (b : Option CellSeen). GoesOn root key new b next) (sym (last_more None cells c)) on;
  }

  pub onward : (d : Option Child) → IfSome d (λ x. LeadsTo c key (child_name x)) → IfSome d (λ x. x.level + 1 ≡ c.level) → IfNone d (EndsAt c key) → Reached root key old new (cells ++ c ∷ []) (option_map child_name d)
  onward (Some d) leads level ends = more (Some (child_name d)) (omega (arith, level)) (leads, answer.knows (child_name d) leads.named, leads.node, leads.within)
  onward None leads level ends =
      let is = answer.named.level in
      let some = r.on.2 in
      more None (omega (arith, is, some)) (c, refl, ends, answer.knows)

pub arrived : (root : Root) (key : ℕ) (old mid : PoolState) (cells : List CellSeen) → Reached root key old mid cells None → IsPath root key cells
arrived root key old mid cells r = record { descends = r.descends; end = r.on.0; is_last = r.on.1; ends = r.on.2 }

pub arrived_met : (root : Root) (key : ℕ) (old mid : PoolState) (cells : List CellSeen) (next : Option Name) → Reached root key old mid cells next → MeetsOn root key old mid
arrived_met root key old mid cells next r = record { cells = cells; descends = r.descends; meets = r.meets }

pub arrived_on : (root : Root) (key : ℕ) (old mid : PoolState) (cells : List CellSeen) → Reached root key old mid cells None → KnowsOn mid cells
arrived_on root key old mid cells r c is = subst (KnowsNames mid) (same_Some r.on.0 c (sym r.on.1 ∙ is)) r.on.3

-- ---- a refusal

-- a block that is accepted at a level is refused at each other level by that
other_level : (blocks l m lo hi from to : ℕ) (b : List ℕ) → 1 ≤ m → m < l → cell_fault false blocks l lo hi b ≡ None → cell_fault false blocks m from to b ≡ Some Level
unfolding cell_fault
other_level blocks l zero lo hi from to b some lt h = absurd (omega (arith, some))
other_level blocks zero (suc m) lo hi from to b some lt h = absurd (omega (arith, lt))
other_level blocks (suc l) (suc m) lo hi from to b some lt h =
    let node = or_none (option_map Node (node_fault b)) _ h in
    let accepted = none_of_node (node_fault b) Node node.0 in
    let level = or_none (if level_of b == suc l then None else Some Level) _ node.1 in
    let is : level_of b ≡ suc l = eqb-true _ _ (chosen _ Level level.0) in
    let other : (level_of b == suc m) ≡ false = ne_eqb (level_of b) (suc m) (λ e. absurd (omega (arith, e, is, lt))) in
    rw (accepted, other) refl

refused_there : (blocks : ℕ) (n : Name) (meant : Option (List ℕ)) (k : CellSeen) → 1 ≤ n.level → n.level < k.level → IsRead blocks meant k → FaultIs blocks n None meant (Some Level)
refused_there blocks n None k some lt h = tt
refused_there blocks n (Some b) k some lt h = sym (other_level blocks k.level n.level (rank k.lo) (rank k.hi) n.lo n.hi b some lt h.1)

placed_above : (n : Name) (k : CellSeen) → n.level < k.level → place_fault n k ≡ Some Level
placed_above n k lt = let other : (k.level == n.level) ≡ false = ne_eqb k.level n.level (λ e. absurd (omega (arith, e, lt))) in rw other refl

module _ (root : Root) (key : ℕ) (old mid : PoolState) (cells : List CellSeen) (n : Name) (r : Reached root key old mid cells (Some n)) where
  fault_before : (f : Option CellFault) (o m : Option CellSeen) → old.kept n.id ≡ o → mid.kept n.id ≡ m → FaultIs mid.blocks n m (mid.meant n.id) f → FaultIs old.blocks n o (old.meant n.id) f
  fault_before f (Some k) None e d h = absurd (no_cell k (sym (r.goes.kept n.id k e) ∙ d))
    where
      no_cell : (k : CellSeen) → Some k ≡ None → ⊥
      no_cell k h = cc
  fault_before f (Some k) (Some j) e d h = h ∙ ap (place_fault n) (same_Some j k (sym d ∙ r.goes.kept n.id k e))
  fault_before f None None e d h = subst (λ (x : ℕ). FaultIs x n None (old.meant n.id) f) r.goes.blocks (subst (λ (m : Option (List ℕ)). FaultIs mid.blocks n None m f) (r.goes.meant n.id) h)
  fault_before f None (Some k) e d h =
      let lt : n.level < k.level = r.above k (r.only n.id k d e) in
      subst (λ (x : Option CellFault). FaultIs old.blocks n None (old.meant n.id) x) (sym (h ∙ placed_above n k lt))
      (refused_there old.blocks n (old.meant n.id) k r.on.2 lt (r.goes.added n.id k d e).1)

  none_before : (o : Option CellSeen) → old.kept n.id ≡ o → mid.kept n.id ≡ None → o ≡ None
  none_before None e d = refl
  none_before (Some k) e d = sym (r.goes.kept n.id k e) ∙ d

  refused_before : (e : FetchFault) (new : PoolState) → IsRefused n mid e new → IsRefused n old e new
  refused_before (Read at faults) new h =
      let before = r.goes.faults in
      let rose = h.2 in
      (none_before (old.kept n.id) refl h.0, h.1, omega (arith, before, rose), h.3)
  refused_before (Damaged at fault) new h = (h.0, fault_before (Some fault) (old.kept n.id) (mid.kept n.id) refl refl h.1)
  refused_before Memory new h = tt

  module _ (new : PoolState) (none : (i : ℕ) (k : CellSeen) → new.kept i ≡ Some k → mid.kept i ≡ None → ⊥) (goes : Goes mid new) where
    only_still : (i : ℕ) (k : CellSeen) → new.kept i ≡ Some k → old.kept i ≡ None → (o : Option CellSeen) → mid.kept i ≡ o → Contains cells k
    only_still i k h was None e = absurd (none i k h e)
    only_still i k h was (Some x) e =
        let same : x ≡ k = same_Some x k (sym (goes.kept i x e) ∙ h) in
        subst (λ (y : CellSeen). Contains cells y) same (r.only i x e was)

    stops_on : (e : FetchFault) → IsRefused n mid e new → StopsOn root key old e new
    stops_on e h = record {
      cells = cells;
      descends = r.descends;
      are_of = r.are_of;
      only = λ i k h was. only_still i k h was (mid.kept i) refl;
      at = n;
      follows = r.on.0;
      known = goes.known n r.on.1;
      refused = refused_before e new h;
    }

    pub stops : (e : FetchFault) → IsRefused n mid e new → Stops root key old e new
    stops (Read at faults) h = stops_on (Read at faults) h
    stops (Damaged at fault) h = stops_on (Damaged at fault) h
    stops Memory h = record { cells = cells; descends = r.descends; are_of = r.are_of; only = λ i k h was. only_still i k h was (mid.kept i) refl }

-- no memory is found for a cell that was fetched
module _ (root : Root) (key : ℕ) (old mid new : PoolState) (cells : List CellSeen) (n : Name) (c : CellSeen) (r : Reached root key old mid cells (Some n)) (goes : Goes mid new)
    (only : (i : ℕ) (k : CellSeen) → new.kept i ≡ Some k → mid.kept i ≡ None → k ≡ c) (answer : IsAnswer n mid c new) where
  pub stops_short : StopsShort root key old new
  stops_short = record {
    cells = cells ++ c ∷ [];
    descends = descends_more root key None cells c n r.descends r.on.0 answer.named;
    are_of = All-push (IsOf old) cells c r.are_of (is_of_before old mid c r.goes answer.is_of);
    only = λ i k h none. more_kept i k h none (mid.kept i) refl;
  }
    where
      more_kept : (i : ℕ) (k : CellSeen) → new.kept i ≡ Some k → old.kept i ≡ None → (o : Option CellSeen) → mid.kept i ≡ o → Contains (cells ++ c ∷ []) k
      more_kept i k h none None e = subst (λ (x : CellSeen). Contains (cells ++ c ∷ []) x) (sym (only i k h e)) (Contains-push cells c)
      more_kept i k h none (Some x) e =
          let same : x ≡ k = same_Some x k (sym (goes.kept i x e) ∙ h) in
          subst (λ (y : CellSeen). Contains (cells ++ c ∷ []) y) same (Contains-append_left cells (c ∷ []) x (r.only i x e none))

pub map_push : {A B : Type 0} (f : A → B) (xs ys : List A) (x : A) → ys ≡ xs ++ x ∷ [] → map f ys ≡ map f xs ++ f x ∷ []
map_push {A} {B} f xs ys x e = ap (λ (l : List A). map f l) e ∙ map-append f xs (x ∷ [])

-- an error that a `?` hands on
pub handed : {T : Type 0} (P : FetchFault → Type 0) (r : Result T FetchFault) (e : FetchFault) → IsErrAnd r (λ y. y ≡ e) → P e → IfErr r P
handed {T} P (Ok x) e h p = tt
handed {T} P (Err y) e h p = subst P (sym h) p

-- ---- the last of some cells

pub last_pushed : (before : Option CellSeen) (cells : List CellSeen) (c : CellSeen) → last_of before (cells ++ c ∷ []) ≡ Some c
last_pushed before [] c = refl
last_pushed before (x ∷ cells) c = last_pushed (Some x) cells c

-- the last of some cells is one of them
pub last_in : (x : CellSeen) (cells : List CellSeen) (c : CellSeen) → last_of (Some x) cells ≡ Some c → Contains (x ∷ cells) c
last_in x [] c e = subst (Contains (x ∷ [])) (same_Some x c e) (Contains-push [] x)
last_in x (y ∷ cells) c e = Contains-append_right (x ∷ []) (y ∷ cells) c (last_in y cells c e)

pub last_among : (cells : List CellSeen) (c : CellSeen) → last_of None cells ≡ Some c → Contains cells c
last_among [] c e = absurd cc
last_among (x ∷ cells) c e = last_in x cells c e
