-- The cells of a sealed atom under the names of their blocks, and those that were committed.
use Rattle.std.proofs.Common.{◌≡◌, ◌⊎◌, inl, inr, ⊎_elim, ℕ, zero, suc, ◌^◌, ◌<◌, Bool, true, false, cond, List}
use Rattle.std.proofs.Common.{Option}
use Rattle.std.proofs.Common.{Some, None, get_or, refl, sym, ap, ◌∙◌, subst, arith}
use Rattle.std.specs.Prelude.{Contains}
use Rattle.std.proofs.lemmas.Bool.{cases_eq, eq-eqb, ne_eqb}
use Rattle.std.proofs.lemmas.Option.{same_Some}
use Rattle.r4_base.proofs.Choices.{never_both}
use Rattle.r4_base.specs.Cell.{IsCellOf, cell_fault, cell_of}
use Rattle.r4_base.specs.Bitmap.{is_fixed}
use Rattle.r4_base.specs.Key.{rank}
use Rattle.r4_base.specs.Tree.{IsTree, Node, Root, Store}
use Rattle.r4_base.specs.Value.{Content, Value}
use Rattle.r4_placed.specs.r4_cell.OnDisk.{AreBlocks}
use Rattle.r4_placed.specs.r4_cell.Seen.{CellSeen, node_of}
use Rattle.r4_placed.specs.r4_space.Space.{Space}
use Rattle.r4_placed.proofs.r4_sets.Carried.{not_true}
use Rattle.r4_placed.specs.r4_place.Chosen.{placed_all}
use Rattle.r4_placed.proofs.r4_place.ChosenCells.{rest_stays}
use Rattle.r4_placed.specs.r4_wander.declared.plan.LogPlan.{LogPlan}
use Rattle.r4_placed.specs.r4_commit.Places.{place_of}
use Rattle.r4_placed.specs.r4_commit.Plannable.{is_marked_in}
use Rattle.r4_placed.specs.r4_sets.Session.{Session, only, picks, cells as cells_with}
use Rattle.r4_placed.specs.Flushing.{Flushing, IsAtRest, commit_of, name_after}
use Rattle.r4_flushed.specs.Flushed.{IsFlushed}
use Rattle.r4_placed.specs.r4_sealed.Written.{ComesFrom, Frees}
use Rattle.r4_placed.specs.r4_sealed.Commits.{is_freed, spot}
use Rattle.r4_placed.proofs.Planning.{below_or, cell_marked, fresh_free, kept_from, old_spot, placed_spot}
use Rattle.r4_placed.proofs.Planning.{renamed_cell, renamed_not, renamed_twice, same_count, same_marks, spot_block}

pub picks_cases : (a : ℕ) (o : Option ℕ) → ((o ≡ Some a) × (picks (only a) o ≡ true))
    ⊎ ((o ≡ Some a → ⊥) × (picks (only a) o ≡ false))
picks_cases a None = inr (λ e. absurd (cc e), refl)
picks_cases a (Some n) = elim (cases_eq n a) [
  | inl is ↦ inl (ap (λ (k : ℕ). Some k) is, eq-eqb n a is)
  | inr other ↦ inr (λ e. let same : n ≡ a = cc e in other same, ne_eqb n a other)
]

pub none_some : (o : Option (Node Value)) (d : Node Value) → o ≡ None → o ≡ Some d → ⊥
none_some o d e f = absurd (cc (sym e ∙ f))

cell_is : (blocks level lo hi : ℕ) (b : List ℕ) → cell_fault false blocks level lo hi b ≡ None
    → IsCellOf blocks b (cell_of level lo hi b)
unfolding cell_of
cell_is blocks zero lo hi b h = record { sound = h; says = refl }
cell_is blocks (suc l) lo hi b h = record { sound = h; says = refl }

-- what may stand in memory and names blocks alone may stand on disk
abbrev pub FitsOnDisk : Type 0
FitsOnDisk =
    (blocks level lo hi : ℕ) (b : List ℕ) → cell_fault true (2 ^ 64) level lo hi b ≡ None
    → AreBlocks blocks (cell_of level lo hi b).names → cell_fault false blocks level lo hi b ≡ None

module _ (disk : FitsOnDisk) (n : ℕ) (work : Flushing) (m : Content) (r : IsAtRest n work m)
    (c : Session) (u : Store Value) (fl : IsFlushed c work r.content.store u) (root : Root)
    (tree : IsTree u root) where
  abbrev to : ℕ → ℕ
  to = name_after work

  owned_there : (i : ℕ) → c.owner i ≡ Some work.atom.0 → picks (only work.atom.0) (c.owner i) ≡ true
      → cells_with c (only work.atom.0) i ≡ c.memory i
  owned_there i own pick = ap (λ (t : Bool). cond t (c.memory i) (c.under.cells i)) pick

  other_there : (i : ℕ) → picks (only work.atom.0) (c.owner i) ≡ false
      → cells_with c (only work.atom.0) i ≡ r.content.store i
  other_there i pick = ap (λ (t : Bool). cond t (c.memory i) (c.under.cells i)) pick ∙ fl.alone i

  not_cell : (i : ℕ) → (c.owner i ≡ Some work.atom.0 → ⊥) → (x : CellSeen) → Contains work.cells x → x.id ≡ i → ⊥
  not_cell i out x one is = out (sym (ap c.owner is) ∙ (fl.owned x one).0)

  -- where a cell comes from
  abbrev IsSource : ℕ → Node Value → Type 0
  IsSource j d = ((x : CellSeen) × Contains work.cells x × (spot work.answers x ≡ j))
      ⊎ ((r.content.store j ≡ Some d) × (c.owner j ≡ Some work.atom.0 → ⊥))

  source : (j : ℕ) (d : Node Value) → u j ≡ Some d → IsSource j d
  source j d is =
      let (e, there, ren) = fl.renaming.from j d is in
      ⊎_elim
      (λ (own, pick).
      let (x, one, named) = fl.mine (to j) e own (sym (owned_there (to j) own pick) ∙ there) in
      let at : spot work.answers x ≡ j = sym (renamed_cell n work m r x one) ∙ ap to named
      ∙ renamed_twice n work m r j in
      inl (x, one, at))
      (λ (out, pick).
      let old : r.content.store (to j) ≡ Some e = sym (other_there (to j) pick) ∙ there in
      let still : to (to j) ≡ to j = renamed_not n work m r (to j) e old (not_cell (to j) out) in
      let same : to j ≡ j = sym still ∙ renamed_twice n work m r j in
      let out_j : c.owner j ≡ Some work.atom.0 → ⊥ = λ own. out (ap c.owner same ∙ own) in
      inr (fl.others j d out_j same is, out_j))
      (picks_cases work.atom.0 (c.owner (to j)))

  -- each stands on a block of the volume that is not fixed
  is_block : (j : ℕ) (d : Node Value) → u j ≡ Some d → (j < work.space.block_count)
      × (is_fixed work.space.block_count j ≡ false)
  is_block j d is = ⊎_elim
      (λ (x, one, at). let (lt, free) = spot_block n work m r x one in (
        subst (λ (k : ℕ). k < work.space.block_count) at lt,
        subst (λ (k : ℕ). is_fixed work.space.block_count k ≡ false) at free,
      ))
      (λ (old, out). let place = r.content.places j d old in (
        subst (λ (k : ℕ). j < k) r.here.count place.0,
        subst (λ (k : ℕ). is_fixed k j ≡ false) r.here.count place.1,
      ))
      (source j d is)

  -- so what is written is the cell, on the disk too
  bytes : (x : CellSeen) (d : Node Value) → Contains work.cells x → u (spot work.answers x) ≡ Some d
      → IsCellOf work.space.block_count x.block d
  bytes x d one is =
      let same : node_of x ≡ d = same_Some (node_of x) d (sym (fl.node x one) ∙ is) in
      subst (IsCellOf work.space.block_count x.block) same
      (cell_is work.space.block_count x.level (rank x.lo) (rank x.hi) x.block
      (disk work.space.block_count x.level (rank x.lo) (rank x.hi) x.block (fl.stands x one)
      (λ name has.
      let (e, there, fits) = tree.named (spot work.answers x) (node_of x) name (fl.node x one) has in
      is_block name.id e there)))

  same_freed : (b : ℕ) → is_freed (placed_all work.space work.answers) work.atom b ≡ is_freed work.space work.atom b
  same_freed b = ap (λ (t : Space). is_freed t work.atom b) (rest_stays work.space work.answers)

  kept_at : (j : ℕ) (d : Node Value) → u j ≡ Some d → is_freed (placed_all work.space work.answers) work.atom j
      ≡ false
  kept_at j d is = not_true (is_freed (placed_all work.space work.answers) work.atom j) (λ e.
      let there = (fl.deferred j).0 (sym (same_freed j) ∙ e) in
      let (b, was) = there.was in
      ⊎_elim
      (λ (x, one, at). ⊎_elim
      (λ low.
      let (f, is) = (fl.owned x one).1 in
      none_some (c.memory x.id) f (ap c.memory (sym (old_spot n work m r x one low) ∙ at) ∙ there.gone) is)
      (λ high. never_both (is_marked_in work.space j) (cell_marked n work m r j b was).0
      (subst (λ (k : ℕ). is_marked_in work.space k ≡ false) at (fresh_free n work m r x one high).1))
      (below_or x.id))
      (λ (old, out). out there.own)
      (source j d is))

  pub comes : (p : LogPlan) → ComesFrom r.content (commit_of work p) u
  comes p = record {
    each = λ j d is. ⊎_elim
        (λ (x, one, at). inl (
          x,
          one,
          at,
          subst (λ (k : ℕ). IsCellOf k x.block d) (sym (same_count n work m r))
              (bytes x d one (ap u at ∙ is)),
        ))
        (λ (old, out). inr (
          old,
          λ over. let (x, one, none, name) =
              kept_from (place_of work.answers) work.cells j over in not_cell j out x one (sym name),
        ))
        (source j d is);
    kept = kept_at;
  }

  low_committed : (b : ℕ) (d : Node Value) → r.content.store b ≡ Some d → b < 2 ^ 63
  low_committed b d is = let lt : b < work.space.block_count =
      subst (λ (k : ℕ). b < k) r.here.count (r.content.places b d is).0 in omega (arith, lt, r.lawful.most)

  gone_freed : (b : ℕ) (d : Node Value) → r.content.store b ≡ Some d → u b ≡ None
      → is_freed (placed_all work.space work.answers) work.atom b ≡ true
  gone_freed b d is none = ⊎_elim
      (λ (own, pick). same_freed b ∙ (fl.deferred b).1
      (record { own = own; gone = go own pick (c.memory b) refl; was = (d, is) }))
      (λ (out, pick).
      let still : to b ≡ b = renamed_not n work m r b d is (not_cell b out) in
      let (e, there, ren) = fl.renaming.to b d (other_there b pick ∙ is) in
      absurd (none_some (u b) e none (ap u (sym still) ∙ there)))
      (picks_cases work.atom.0 (c.owner b))
    where
      go : c.owner b ≡ Some work.atom.0 → picks (only work.atom.0) (c.owner b) ≡ true → (o : Option (Node Value))
          → c.memory b ≡ o → c.memory b ≡ None
      go own pick None e = e
      go own pick (Some f) e =
          let (x, one, named) = fl.mine b f own e in
          let low : x.id < 2 ^ 63 = subst (λ (k : ℕ). k < 2 ^ 63) (sym named) (low_committed b d is) in
          let still : to b ≡ b = ap to (sym named) ∙ renamed_cell n work m r x one ∙ old_spot n work m r x one low
          ∙ named in
          let (g, there, ren) = fl.renaming.to b f (owned_there b own pick ∙ e) in
          absurd (none_some (u b) g none (ap u (sym still) ∙ there))

  placed_there : (b : ℕ) → get_or (placed_all work.space work.answers).placed b false ≡ true → (d : Node Value)
      × (u b ≡ Some d)
  placed_there b on =
      let (x, one, high, at) = placed_spot n work m r b on in
      let (own, (f, is)) = fl.owned x one in
      ⊎_elim
      (λ (mine, pick). let (g, there, ren) = fl.renaming.to x.id f (owned_there x.id own pick ∙ is) in
      (g, ap u (sym at ∙ sym (renamed_cell n work m r x one)) ∙ there))
      (λ (out, pick). absurd (out own))
      (picks_cases work.atom.0 (c.owner x.id))

  over_old : (b : ℕ) (d : Node Value) → u b ≡ Some d → is_marked_in (placed_all work.space work.answers) b ≡ true
      → (e : Node Value) × (r.content.store b ≡ Some e)
  over_old b d is marked = ⊎_elim
      (λ (x, one, at). ⊎_elim
      (λ low. let (e, old) = r.old x one low in (
        e,
        ap r.content.store (sym at ∙ old_spot n work m r x one low)
            ∙ old,
      ))
      (λ high. absurd (never_both (is_marked_in work.space b) (sym (same_marks n work m r b) ∙ marked)
      (subst (λ (k : ℕ). is_marked_in work.space k ≡ false) at (fresh_free n work m r x one high).1)))
      (below_or x.id))
      (λ (old, out). (d, old))
      (source b d is)

  pub frees : (p : LogPlan) → Frees r.content (commit_of work p) u
  frees p = record {
    freed = λ b e. ((fl.deferred b).0 (sym (same_freed b) ∙ e)).was;
    gone = gone_freed;
    placed = placed_there;
    over = over_old;
  }
